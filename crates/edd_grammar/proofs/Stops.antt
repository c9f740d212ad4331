-- Which tokens can't go on with an expression of a precedence.
use Rattle.std.proofs.Common.{◌≡◌, ℕ, ◌≤◌, false, ◌&&◌, List, ◌∷◌, Some, None, refl, arith}
use Rattle.std.specs.Prelude.{nat_le}
use Rattle.edd_syntax.specs.declared.symbols.Symbol.{Symbol}
use Rattle.edd_syntax.specs.declared.symbols.Symbol.TheVariants as sign
use Rattle.edd_syntax.specs.Token.{Token, Sign}
use Rattle.edd_syntax.specs.Reference.{Path}
use Rattle.edd_syntax.specs.Expression as tree
use Rattle.edd_syntax.specs.Grammar.{Site}
use Rattle.edd_grammar.specs.Signs.{Plain, Comparing}
use Rattle.edd_grammar.specs.Reading.{at}
use Rattle.edd_grammar.specs.ExpressionReading.{operator_at, assignment_at, postfix}
use Rattle.edd_grammar.specs.Following.{SignStops, Stops}
use Rattle.edd_grammar.proofs.Operators.{precedence_to}
use Rattle.edd_grammar.proofs.Texts.{NoDot}

sign_mono : (precedence precedence' : ℕ) (s : Symbol) → precedence ≤ precedence'
    → SignStops precedence s → SignStops precedence' s
sign_mono precedence precedence' (sign.Operator op) le s = omega arith
sign_mono precedence precedence' (sign.Comparison op) le s = omega arith
sign_mono precedence precedence' sign.LogicalAnd le s = omega arith
sign_mono precedence precedence' sign.LogicalOr le s = omega arith
sign_mono precedence precedence' sign.Increment le s = s
sign_mono precedence precedence' sign.Decrement le s = s
sign_mono precedence precedence' (sign.CompoundAssign op) le s = omega arith
sign_mono precedence precedence' sign.Equals le s = omega arith
sign_mono precedence precedence' sign.Dot le s = s
sign_mono precedence precedence' sign.OpenParenthesis le s = s
sign_mono precedence precedence' sign.OpenBracket le s = s
sign_mono precedence precedence' sign.Question le s = omega arith
sign_mono precedence precedence' _ le s = tt

pub stops_mono : (precedence precedence' : ℕ) (rest : List Token) → precedence ≤ precedence'
    → Stops precedence rest → Stops precedence' rest
stops_mono precedence precedence' (Sign s ∷ rest) le h = sign_mono precedence precedence' s le h
stops_mono precedence precedence' _ le h = tt

-- precedence 13 and the tighter ones stop alike
sign_tight : (precedence precedence' : ℕ) (s : Symbol) → 13 ≤ precedence' → SignStops precedence s
    → SignStops precedence' s
sign_tight precedence precedence' (sign.Operator op) le s = omega (arith, precedence_to (Plain op))
sign_tight precedence precedence' (sign.Comparison op) le s =
    omega (arith, precedence_to (Comparing op))
sign_tight precedence precedence' sign.LogicalAnd le s = omega arith
sign_tight precedence precedence' sign.LogicalOr le s = omega arith
sign_tight precedence precedence' sign.Increment le s = s
sign_tight precedence precedence' sign.Decrement le s = s
sign_tight precedence precedence' (sign.CompoundAssign op) le s = omega arith
sign_tight precedence precedence' sign.Equals le s = omega arith
sign_tight precedence precedence' sign.Dot le s = s
sign_tight precedence precedence' sign.OpenParenthesis le s = s
sign_tight precedence precedence' sign.OpenBracket le s = s
sign_tight precedence precedence' sign.Question le s = omega arith
sign_tight precedence precedence' _ le s = tt

pub stops_tight : (precedence precedence' : ℕ) (rest : List Token) → 13 ≤ precedence'
    → Stops precedence rest → Stops precedence' rest
stops_tight precedence precedence' (Sign s ∷ rest) le h = sign_tight precedence precedence' s le h
stops_tight precedence precedence' _ le h = tt

pub stops_operator : (precedence : ℕ) (rest : List Token) → Stops precedence rest
    → operator_at precedence rest ≡ None
stops_operator precedence (Sign (sign.Operator op) ∷ rest) s = grind arith
stops_operator precedence (Sign (sign.Comparison op) ∷ rest) s = grind arith
stops_operator precedence (Sign sign.LogicalAnd ∷ rest) s = grind arith
stops_operator precedence (Sign sign.LogicalOr ∷ rest) s = grind arith
stops_operator precedence _ s = refl

pub stops_question : (precedence : ℕ) (rest : List Token) → Stops precedence rest
    → (nat_le precedence 2 && at sign.Question rest) ≡ false
stops_question precedence (Sign (sign.Operator op) ∷ rest) s = grind arith
stops_question precedence (Sign (sign.Comparison op) ∷ rest) s = grind arith
stops_question precedence (Sign (sign.CompoundAssign op) ∷ rest) s = grind arith
stops_question precedence (Sign sign.Question ∷ rest) s = grind arith
stops_question precedence _ s = grind arith

pub stops_assignment : (precedence : ℕ) (rest : List Token) → precedence ≤ 1 → Stops precedence rest
    → assignment_at rest ≡ None
stops_assignment precedence (Sign sign.Equals ∷ rest) le s = absurd (omega arith)
stops_assignment precedence (Sign (sign.CompoundAssign op) ∷ rest) le s = absurd (omega arith)
stops_assignment precedence _ le s = refl

pub stops_parenthesis : (precedence : ℕ) (rest : List Token) → Stops precedence rest
    → at sign.OpenParenthesis rest ≡ false
stops_parenthesis precedence (Sign sign.OpenParenthesis ∷ rest) s = absurd s
stops_parenthesis precedence (Sign (sign.Operator op) ∷ rest) s = grind arith
stops_parenthesis precedence (Sign (sign.Comparison op) ∷ rest) s = grind arith
stops_parenthesis precedence (Sign (sign.CompoundAssign op) ∷ rest) s = grind arith
stops_parenthesis precedence _ s = refl

pub stops_bracket : (precedence : ℕ) (rest : List Token) → Stops precedence rest
    → at sign.OpenBracket rest ≡ false
stops_bracket precedence (Sign sign.OpenBracket ∷ rest) s = absurd s
stops_bracket precedence (Sign (sign.Operator op) ∷ rest) s = grind arith
stops_bracket precedence (Sign (sign.Comparison op) ∷ rest) s = grind arith
stops_bracket precedence (Sign (sign.CompoundAssign op) ∷ rest) s = grind arith
stops_bracket precedence _ s = refl

pub stops_postfix : (p : Site) (precedence : ℕ) (r : Path) (rest : List Token)
    → Stops precedence rest
    → postfix p r rest ≡ Some (tree.Reference r, rest)
unfolding postfix
stops_postfix p precedence r (Sign sign.Increment ∷ rest) s = absurd s
stops_postfix p precedence r (Sign sign.Decrement ∷ rest) s = absurd s
stops_postfix p precedence r _ s = refl

pub stops_dot : (precedence : ℕ) (rest : List Token) → Stops precedence rest → NoDot rest
stops_dot precedence (Sign sign.Dot ∷ rest) s = absurd s
stops_dot precedence (Sign (sign.Operator op) ∷ rest) s = grind arith
stops_dot precedence (Sign (sign.Comparison op) ∷ rest) s = grind arith
stops_dot precedence (Sign (sign.CompoundAssign op) ∷ rest) s = grind arith
stops_dot precedence _ s = refl
