-- Reading declarations of locals from left to right.
use Rattle.std.specs.Prelude.{ℕ, zero, suc, List, [], ◌∷◌, drop, length, Option, Some, None, if◌then◌else◌}
use Rattle.edd_syntax.specs.declared.symbols.Symbol.TheVariants as sign
use Rattle.edd_syntax.specs.Token.{Token}
use Rattle.edd_syntax.specs.Reference.{Path}
use Rattle.edd_syntax.specs.Expression.{Expr}
use Rattle.edd_syntax.specs.Statement.{Declarator}
use Rattle.edd_syntax.specs.Grammar.{InMethod}
use Rattle.edd_grammar.specs.Reading.{◌>>=◌, Read, at, name_at}
use Rattle.edd_grammar.specs.ExpressionReading.{expr_at}

-- a value of at most this height after `=`, or none
unfoldable pub value_at : ℕ → List Token → Read (Option (Expr Path))
value_at height_left here =
    if at sign.Equals here then (expr_at InMethod height_left 1 (drop 1 here)
    >>= λ e. Some (Some e.0, e.1)) else Some (None, here)

-- a name, with a value of at most this height or without
unfoldable pub declarator_at : ℕ → List Token → Read (Declarator Path)
declarator_at height_left here = do
  (name, behind) ← name_at here
  (value, rest) ← value_at height_left behind
  Some (record { place = record { base = name; members = [] }; value = value }, rest)

-- One or more, parted by commas. The number bounds how many there are.
unfoldable pub some_declarators : ℕ → ℕ → List Token → Read (List (Declarator Path))
some_declarators height_left zero here = None
some_declarators height_left (suc n) here = do
  (first, behind) ← declarator_at height_left here
  (others, rest) ← if at sign.Comma behind then some_declarators height_left n (drop 1 behind) else
      Some ([], behind)
  Some (first ∷ others, rest)

-- one or more, whose values have at most this height
unfoldable pub declarators_at : ℕ → List Token → Read (List (Declarator Path))
declarators_at height_left here = some_declarators height_left (length here) here
