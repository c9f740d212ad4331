-- What the tokens of a text keep, as far as trees need it.
use Rattle.std.specs.Prelude.{Bool, true, IsTrue, List}
use Rattle.std.specs.List.{list_all}
use Rattle.edd_syntax.specs.Names.{is_name}
use Rattle.edd_syntax.specs.Words.{has_escapes}
use Rattle.edd_syntax.specs.Token.{Token, Reserved, Identifier, Integer, Decimal, String, Sign}
use Rattle.edd_syntax.specs.WellFormed.{is_number}

-- names are names, integers are within 32 bits, and each backslash of a string begins an escape
abbrev pub is_kept_token : Token → Bool
is_kept_token (Reserved k) = true
is_kept_token (Identifier name) = is_name name
is_kept_token (Integer n) = is_number n
is_kept_token Decimal = true
is_kept_token (String raw) = has_escapes raw
is_kept_token (Sign s) = true

-- Each token keeps that.
abbrev pub Kept : List Token → Type 0
Kept tokens = IsTrue (list_all is_kept_token tokens)
