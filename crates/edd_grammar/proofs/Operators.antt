-- What the signs of expressions say.
use Rattle.std.proofs.Common.{◌≡◌, ℕ, suc, ◌≤◌, ◌<◌, true, false, cond, List, [], ◌∷◌, Option, Some, None, refl, sym, ap, ◌∙◌, lit≤, arith}
use Rattle.std.specs.Prelude.{nat_le, max}
use Rattle.edd_syntax.specs.declared.operators.Operator.{Operator}
use Rattle.edd_syntax.specs.declared.operators.Operator.TheVariants as operator
use Rattle.edd_syntax.specs.declared.operators.Comparison.{Comparison}
use Rattle.edd_syntax.specs.declared.operators.Comparison.TheVariants as comparison
use Rattle.edd_syntax.specs.declared.operators.UnaryOperator.{UnaryOperator}
use Rattle.edd_syntax.specs.declared.operators.UnaryOperator.TheVariants as unary_operator
use Rattle.edd_syntax.specs.declared.operators.IncrementOperator.{IncrementOperator}
use Rattle.edd_syntax.specs.declared.operators.IncrementOperator.TheVariants.{PreIncrement, PostIncrement, PreDecrement, PostDecrement}
use Rattle.edd_syntax.specs.declared.symbols.Symbol.{Symbol}
use Rattle.edd_syntax.specs.declared.symbols.Symbol.TheVariants as sign
use Rattle.edd_syntax.specs.Token.{Token, Reserved, Identifier, Integer, String, Sign}
use Rattle.edd_syntax.specs.Token as token
use Rattle.edd_syntax.specs.Reference.{Path}
use Rattle.edd_syntax.specs.Expression as tree
use Rattle.edd_syntax.specs.Expression.{Expr}
use Rattle.edd_syntax.specs.Grammar.{Site, InAttribute, InMethod, IsMethod, precedence_of, comparison_precedence, unary_sign, PathHere, ExprHere}
use Rattle.edd_syntax.specs.Size.{height}
use Rattle.edd_grammar.specs.Signs.{Infix, Plain, Comparing, Both, Either, infix_precedence, infix_sign, infix_tree, infix_of, unary_of, before_of, after_of, Assignment, Simple, Compound, assignment_sign, assignment_tree, assignment_of}
use Rattle.edd_grammar.specs.Reading.{◌>>=◌, Read}
use Rattle.edd_grammar.specs.ExpressionReading.{is_method, operator_at, assignment_at}
use Rattle.edd_grammar.proofs.Steps.{bind_some, guard_some, as_read, le_is}

pub method_is : (p : Site) → is_method p ≡ true → IsMethod p
method_is InAttribute e = absurd cc
method_is InMethod e = tt

pub method_again : (p : Site) → IsMethod p → is_method p ≡ true
method_again InMethod m = refl
method_again InAttribute m = absurd m

-- ---- operators between two operands

pub infix_is : (s : Symbol) (op : Infix) → infix_of s ≡ Some op → s ≡ infix_sign op
infix_is (sign.Operator o) op e = let same : Plain o ≡ op = cc in ap infix_sign same
infix_is (sign.Comparison o) op e = let same : Comparing o ≡ op = cc in ap infix_sign same
infix_is sign.LogicalAnd op e = let same : Both ≡ op = cc in ap infix_sign same
infix_is sign.LogicalOr op e = let same : Either ≡ op = cc in ap infix_sign same
infix_is _ op e = absurd cc

pub infix_again : (op : Infix) → infix_of (infix_sign op) ≡ Some op
infix_again (Plain o) = refl
infix_again _ = refl

operator_from : (op : Operator) → 3 ≤ precedence_of op
operator_from operator.Add = lit≤ tt
operator_from _ = lit≤ tt

operator_to : (op : Operator) → precedence_of op ≤ 12
operator_to operator.Add = lit≤ tt
operator_to _ = lit≤ tt

comparison_from : (by : Comparison) → 3 ≤ comparison_precedence by
comparison_from comparison.Equal = lit≤ tt
comparison_from _ = lit≤ tt

comparison_to : (by : Comparison) → comparison_precedence by ≤ 12
comparison_to comparison.Equal = lit≤ tt
comparison_to _ = lit≤ tt

pub precedence_from : (op : Infix) → 3 ≤ infix_precedence op
precedence_from (Plain o) = operator_from o
precedence_from (Comparing o) = comparison_from o
precedence_from _ = lit≤ tt

pub precedence_to : (op : Infix) → infix_precedence op ≤ 12
precedence_to (Plain o) = operator_to o
precedence_to (Comparing o) = comparison_to o
precedence_to _ = lit≤ tt

-- what it is for an operator to be between these operands
abbrev pub InfixHere : Site → ℕ → Infix → Expr Path → Expr Path → List Token → List Token → Type 0
InfixHere p precedence op left right here rest =
    (precedence ≤ infix_precedence op) × (behind : List Token)
    × ExprHere p (infix_precedence op) left here (Sign (infix_sign op) ∷ behind)
    × ExprHere p (suc (infix_precedence op)) right behind rest

pub infix_spelled : (p : Site) (precedence : ℕ) (op : Infix) (left right : Expr Path)
    (here rest : List Token)
    → InfixHere p precedence op left right here rest → ExprHere p precedence
    (infix_tree op left right) here rest
infix_spelled p precedence (Plain o) left right here rest h = h
infix_spelled p precedence _ left right here rest h = h

pub infix_height : (op : Infix) (left right : Expr Path) → height (infix_tree op left right)
    ≡ suc (max (height left) (height right))
infix_height (Plain o) left right = omega arith
infix_height _ left right = omega arith

pub operator_is : (precedence : ℕ) (here : List Token) (op : Infix) (rest : List Token)
    → operator_at precedence here ≡ Some (op, rest) → (here ≡ Sign (infix_sign op) ∷ rest)
    × (precedence ≤ infix_precedence op)
operator_is precedence [] op rest e = absurd cc
operator_is precedence (Sign s ∷ behind) op rest e =
    let o = bind_some (infix_of s) _ (op, rest) e in
    let g = guard_some (nat_le precedence (infix_precedence o.0)) (Some (o.0, behind))
    (op, rest) o.2 in
    as_read (λ k t. (Sign s ∷ behind ≡ Sign (infix_sign k) ∷ t)
    × (precedence ≤ infix_precedence k)) o.0 op behind
    rest g.1
    (ap (λ k. Sign k ∷ behind) (infix_is s o.0 o.1), le_is precedence (infix_precedence o.0) g.0)
operator_is precedence (_ ∷ behind) op rest e = absurd cc

-- ---- operators before an operand

pub unary_is : (s : Symbol) (op : UnaryOperator) → unary_of s ≡ Some op → s ≡ unary_sign op
unary_is (sign.Operator operator.Add) op e = let same : unary_operator.Plus ≡ op =
    cc in ap unary_sign same
unary_is (sign.Operator operator.Subtract) op e = let same : unary_operator.Minus ≡ op =
    cc in ap unary_sign same
unary_is sign.Exclamation op e = let same : unary_operator.Not ≡ op = cc in ap unary_sign same
unary_is sign.Tilde op e = let same : unary_operator.Complement ≡ op = cc in ap unary_sign same
unary_is _ op e = absurd cc

pub unary_again : (op : UnaryOperator) → unary_of (unary_sign op) ≡ Some op
unary_again unary_operator.Plus = refl
unary_again _ = refl

-- ---- `++` and `--`

pub before_spelled : (p : Site) (precedence : ℕ) (s : Symbol) (op : IncrementOperator) (to : Path)
    (here rest : List Token)
    → before_of s ≡ Some op → IsMethod p → precedence ≤ 14 → PathHere to here rest
    → ExprHere p precedence (tree.Increment op to) (Sign s ∷ here) rest
before_spelled p precedence sign.Increment op to here rest e m le h =
    let same : PreIncrement ≡ op = cc in rw (sym same) (m, le, here, refl, h)
before_spelled p precedence sign.Decrement op to here rest e m le h =
    let same : PreDecrement ≡ op = cc in rw (sym same) (m, le, here, refl, h)
before_spelled p precedence _ op to here rest e m le h = absurd cc

pub behind_spelled : (p : Site) (precedence : ℕ) (s : Symbol) (op : IncrementOperator) (to : Path)
    (here rest : List Token)
    → after_of s ≡ Some op → IsMethod p → precedence ≤ 14 → PathHere to here (Sign s ∷ rest)
    → ExprHere p precedence (tree.Increment op to) here rest
behind_spelled p precedence sign.Increment op to here rest e m le h =
    let same : PostIncrement ≡ op = cc in rw (sym same) (m, le, h)
behind_spelled p precedence sign.Decrement op to here rest e m le h =
    let same : PostDecrement ≡ op = cc in rw (sym same) (m, le, h)
behind_spelled p precedence _ op to here rest e m le h = absurd cc

-- ---- assignments

pub assignment_of_is : (s : Symbol) (op : Assignment) → assignment_of s ≡ Some op
    → s ≡ assignment_sign op
assignment_of_is sign.Equals op e = let same : Simple ≡ op = cc in ap assignment_sign same
assignment_of_is (sign.CompoundAssign o) op e = let same : Compound o ≡ op =
    cc in ap assignment_sign same
assignment_of_is _ op e = absurd cc

pub assignment_is : (here : List Token) (op : Assignment) (rest : List Token)
    → assignment_at here ≡ Some (op, rest) → here ≡ Sign (assignment_sign op) ∷ rest
assignment_is [] op rest e = absurd cc
assignment_is (Sign s ∷ behind) op rest e =
    let o = bind_some (assignment_of s) _ (op, rest) e in
    as_read (λ k t. Sign s ∷ behind ≡ Sign (assignment_sign k) ∷ t) o.0 op behind rest o.2
    (ap (λ k. Sign k ∷ behind) (assignment_of_is s o.0 o.1))
assignment_is (_ ∷ behind) op rest e = absurd cc

-- what it is for an assignment to be there
abbrev pub AssignmentHere : Site → ℕ → Assignment → Path → Expr Path → List Token → List Token
    → Type 0
AssignmentHere p precedence op to value here rest =
    IsMethod p × (precedence ≤ 1) × (behind : List Token)
    × PathHere to here (Sign (assignment_sign op) ∷ behind) × ExprHere p 1 value behind rest

pub assignment_spelled : (p : Site) (precedence : ℕ) (op : Assignment) (to : Path)
    (value : Expr Path)
    (here rest : List Token)
    → AssignmentHere p precedence op to value here rest
    → ExprHere p precedence (assignment_tree op to value) here rest
assignment_spelled p precedence Simple to value here rest h = h
assignment_spelled p precedence (Compound o) to value here rest h = h

pub assignment_height : (op : Assignment) (to : Path) (value : Expr Path)
    → height (assignment_tree op to value) ≡ suc (height value)
assignment_height Simple to value = omega arith
assignment_height (Compound o) to value = omega arith

-- ---- what follows an expression

-- no operator of this precedence or a tighter one is next
abbrev pub Ends : ℕ → List Token → Type 0
Ends precedence here = operator_at precedence here ≡ None

pub ends_before : (precedence : ℕ) (op : Infix) (here : List Token)
    → Ends precedence (Sign (infix_sign op) ∷ here) → infix_precedence op < precedence
ends_before precedence (Plain o) here e = grind arith
ends_before precedence _ here e = grind arith

-- the operator, where it is of this precedence or a tighter one
abbrev of_precedence : ℕ → List Token → Infix → Read Infix
of_precedence precedence rest op = cond (nat_le precedence (infix_precedence op))
    (Some (op, rest)) None

-- without any operator, or with one of a precedence that is looser than this one
found_cases : (found : Option Infix) (precedence : ℕ) (rest : List Token)
    → ((op : Infix) → found ≡ Some op → nat_le precedence (infix_precedence op) ≡ false)
    → (found >>= of_precedence precedence rest) ≡ None
found_cases None precedence rest h = refl
found_cases (Some op) precedence rest h = rw (h op refl) refl

not_in : (precedence : ℕ) (op : Infix) → infix_precedence op < precedence
    → nat_le precedence (infix_precedence op) ≡ false
not_in precedence op lt = grind arith

-- where no operator of precedence 3 or a looser one is next, there is none at all
pub ends_all : (precedence precedence' : ℕ) (here : List Token) → precedence' ≤ 3
    → Ends precedence' here → Ends precedence here
ends_all precedence precedence' (Sign s ∷ here) le e =
    found_cases (infix_of s) precedence here
    (λ op some. absurd (let f = ends_before precedence' op here
    (ap (λ t. operator_at precedence' (Sign t ∷ here)) (sym (infix_is s op some)) ∙ e) in let g =
    precedence_from op in omega arith))
ends_all precedence precedence' [] le e = refl
ends_all precedence precedence' (Identifier n ∷ here) le e = refl
ends_all precedence precedence' (Reserved n ∷ here) le e = refl
ends_all precedence precedence' (Integer n ∷ here) le e = refl
ends_all precedence precedence' (token.Decimal ∷ here) le e = refl
ends_all precedence precedence' (String n ∷ here) le e = refl

-- no operator is in precedence 13 or a tighter one
pub ends_tight : (precedence : ℕ) (here : List Token) → 13 ≤ precedence → Ends precedence here
ends_tight precedence (Sign s ∷ here) le = found_cases (infix_of s) precedence here
    (λ op some. not_in precedence op (let g = precedence_to op in omega arith))
ends_tight precedence [] le = refl
ends_tight precedence (Identifier n ∷ here) le = refl
ends_tight precedence (Reserved n ∷ here) le = refl
ends_tight precedence (Integer n ∷ here) le = refl
ends_tight precedence (token.Decimal ∷ here) le = refl
ends_tight precedence (String n ∷ here) le = refl
