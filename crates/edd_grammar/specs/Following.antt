-- Which tokens may follow what is read: those that can't go on with it.
use Rattle.std.specs.Prelude.{◌≡◌, ◌⊎◌, ℕ, ◌≤◌, ◌<◌, List, ◌∷◌, length, Some, true, false}
use Rattle.edd_syntax.specs.declared.symbols.Keyword.TheVariants as word
use Rattle.edd_syntax.specs.declared.symbols.Symbol.{Symbol}
use Rattle.edd_syntax.specs.declared.symbols.Symbol.TheVariants as sign
use Rattle.edd_syntax.specs.Token.{Token, Reserved, Sign}
use Rattle.edd_syntax.specs.Grammar.{precedence_of, comparison_precedence}
use Rattle.edd_grammar.specs.Reading.{Read, at, at_word}
use Rattle.edd_grammar.specs.ConditionalReading.{list_ends}

-- this sign can't go on with an expression of this precedence
abbrev pub SignStops : ℕ → Symbol → Type 0
SignStops precedence (sign.Operator op) = precedence_of op < precedence
SignStops precedence (sign.Comparison by) = comparison_precedence by < precedence
SignStops precedence sign.LogicalAnd = 4 < precedence
SignStops precedence sign.LogicalOr = 3 < precedence
SignStops precedence sign.Increment = ⊥
SignStops precedence sign.Decrement = ⊥
SignStops precedence (sign.CompoundAssign op) = 2 ≤ precedence
SignStops precedence sign.Equals = 2 ≤ precedence
SignStops precedence sign.Dot = ⊥
SignStops precedence sign.OpenParenthesis = ⊥
SignStops precedence sign.OpenBracket = ⊥
SignStops precedence sign.Question = 3 ≤ precedence
SignStops precedence _ = Unit {0}

-- the next token can't go on with an expression of this precedence
abbrev pub Stops : ℕ → List Token → Type 0
Stops precedence (Sign s ∷ rest) = SignStops precedence s
Stops precedence _ = Unit {0}

-- What is asked of the values of conditionals, which have the height that `of` says: a value is
-- read where a semicolon follows, begins with neither IF nor SELECT, and takes a token at least.
pub record SingleValue {V : Type 0} (of : V → ℕ) (Here : V → List Token → List Token → Type 0)
    (value : ℕ → List Token → Read V) : Type 0 where
  pub again : (height_left : ℕ) (v : V) (here rest : List Token)
      → Here v here (Sign sign.Semicolon ∷ rest) → of v ≤ height_left
      → value height_left here ≡ Some (v, Sign sign.Semicolon ∷ rest)
  pub starts : (v : V) (here rest : List Token) → Here v here rest → (at_word word.If here ≡ false)
      × (at_word word.Select here ≡ false)
  pub shorter : (v : V) (here rest : List Token) → Here v here rest → length rest < length here

-- what comes after a branch or a list: its closing brace, or the next arm
abbrev pub EndsBranch : List Token → Type 0
EndsBranch rest = (at sign.CloseBrace rest ≡ true)
    ⊎ ((at_word word.Case rest ≡ true) ⊎ (at_word word.Default rest ≡ true))

-- What is asked of the values in lists: a value is read where `Follows` holds of what follows, as
-- it does at a comma, at the end of a list, and where an element begins. Its first token is none of
-- those that are there otherwise.
pub record ListedValue {V : Type 0} (of : V → ℕ) (Here : V → List Token → List Token → Type 0)
    (Follows : List Token → Type 0) (value : ℕ → List Token → Read V) : Type 0 where
  pub again : (height_left : ℕ) (v : V) (here rest : List Token) → Here v here rest
      → of v ≤ height_left → Follows rest → value height_left here ≡ Some (v, rest)
  pub starts : (v : V) (here rest : List Token) → Here v here rest → (at_word word.If here ≡ false)
      × (at_word word.Select here ≡ false)
  pub no_end : (v : V) (here rest : List Token) → Here v here rest → list_ends here ≡ false
  pub no_comma : (v : V) (here rest : List Token) → Here v here rest → at sign.Comma here ≡ false
  pub shorter : (v : V) (here rest : List Token) → Here v here rest → length rest < length here
  pub at_comma : (rest : List Token) → Follows (Sign sign.Comma ∷ rest)
  pub at_end : (rest : List Token) → list_ends rest ≡ true → Follows rest
  pub at_if : (rest : List Token) → Follows (Reserved word.If ∷ rest)
  pub at_select : (rest : List Token) → Follows (Reserved word.Select ∷ rest)
  pub at_value : (v : V) (here rest : List Token) → Here v here rest → Follows here
