-- Reading single tokens.
use Rattle.std.specs.Prelude.{ℕ, List, ◌∷◌, Some, None}
use Rattle.edd_syntax.specs.declared.operators.Operator.TheVariants as operator
use Rattle.edd_syntax.specs.declared.symbols.Symbol.TheVariants as sign
use Rattle.edd_syntax.specs.Text.{Name}
use Rattle.edd_syntax.specs.Token.{Token, Identifier, String, Sign}
use Rattle.edd_grammar.specs.Reading.{Read}

-- a string
abbrev pub string_at : List Token → Read (List ℕ)
string_at (String s ∷ rest) = Some (s, rest)
string_at _ = None

-- a dot, and the name after it
abbrev pub member_at : List Token → Read Name
member_at (Sign sign.Dot ∷ Identifier m ∷ rest) = Some (m, rest)
member_at _ = None

-- `&`, and the name after it
abbrev pub further_name_at : List Token → Read Name
further_name_at (Sign (sign.Operator operator.And) ∷ Identifier n ∷ rest) = Some (n, rest)
further_name_at _ = None
