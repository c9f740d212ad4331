-- Worked texts.
use Rattle.std.specs.Prelude.{ℕ, List, ◌++◌, [], ◌∷◌, codes}
use Rattle.edd_syntax.specs.declared.symbols.Keyword.TheVariants as word
use Rattle.edd_syntax.specs.declared.symbols.Symbol.TheVariants as sign
use Rattle.edd_syntax.specs.Token as token
use Rattle.edd_lexer.specs.Tokens.{Lexeme, AreTokens}
use Rattle.edd_lexer.specs.Faults.{LexicalFault, BadNumber, BadEscape, Directive}

-- a name, a space and a hexadecimal integer
abbrev pub HexExample : Type 0
HexExample =
    AreTokens (codes "x 0x1F") (
    record { token = token.Identifier (codes "x"); start = 0; end = 1 }
    ∷ record { token = token.Integer 31; start = 2; end = 6 }
    ∷ [])

-- digits after a leading `0`, and a bad escape after them
abbrev pub NumberExample : Type 0
NumberExample = LexicalFault (codes "x 08 \"\\q\"") BadNumber

-- an escape that is none, in a string with an end
abbrev pub EscapeExample : Type 0
EscapeExample = LexicalFault (codes "1.5e3 \"a\\\"\\q\" .") BadEscape

-- after an LF and blanks a `#` that makes no mark
abbrev pub DirectiveExample : Type 0
DirectiveExample = LexicalFault (codes "# 1 \"a\"" ++ 10 ∷ codes " #include \"a\"") Directive

-- a token with the places of its start and of its end
abbrev lexeme : token.Token → (start end : ℕ) → Lexeme
lexeme t start end = record { token = t; start = start; end = end }

-- a whole description of one variable
abbrev pub pressure_text : List ℕ
pressure_text =
    codes "MANUFACTURER 1, DEVICE_TYPE 2, DEVICE_REVISION 3, DD_REVISION 4" ++
    10 ∷ codes "VARIABLE p { LABEL \"|en|Pressure|de|Druck\"; TYPE INTEGER (2); }"

-- the tokens that the grammar's worked example says to spell the description
abbrev pub pressure_tokens : List Lexeme
pressure_tokens =
    lexeme (token.Reserved word.Manufacturer) 0 12 ∷
    lexeme (token.Integer 1) 13 14 ∷
    lexeme (token.Sign sign.Comma) 14 15 ∷
    lexeme (token.Reserved word.DeviceType) 16 27 ∷
    lexeme (token.Integer 2) 28 29 ∷
    lexeme (token.Sign sign.Comma) 29 30 ∷
    lexeme (token.Reserved word.DeviceRevision) 31 46 ∷
    lexeme (token.Integer 3) 47 48 ∷
    lexeme (token.Sign sign.Comma) 48 49 ∷
    lexeme (token.Reserved word.DdRevision) 50 61 ∷
    lexeme (token.Integer 4) 62 63 ∷
    lexeme (token.Reserved word.Variable) 64 72 ∷
    lexeme (token.Identifier (codes "p")) 73 74 ∷
    lexeme (token.Sign sign.OpenBrace) 75 76 ∷
    lexeme (token.Reserved word.Label) 77 82 ∷
    lexeme (token.String (codes "|en|Pressure|de|Druck")) 83 106 ∷
    lexeme (token.Sign sign.Semicolon) 106 107 ∷
    lexeme (token.Reserved word.Type) 108 112 ∷
    lexeme (token.Identifier (codes "INTEGER")) 113 120 ∷
    lexeme (token.Sign sign.OpenParenthesis) 121 122 ∷
    lexeme (token.Integer 2) 122 123 ∷
    lexeme (token.Sign sign.CloseParenthesis) 123 124 ∷
    lexeme (token.Sign sign.Semicolon) 124 125 ∷
    lexeme (token.Sign sign.CloseBrace) 126 127 ∷
    []

-- These are the tokens of the whole description.
abbrev pub PressureExample : Type 0
PressureExample = AreTokens pressure_text pressure_tokens
