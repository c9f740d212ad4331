-- What is printed of a lexical fault, and on which line a token is.
use Rattle.std.specs.Prelude.{ℕ, ◌+◌, ◌-◌, ◌^◌, min, List, ◌++◌, length, filter, Some, None, codes, decimal, slice_get}
use Rattle.edd_lexer.specs.declared.fault.LexFault.{LexFault}
use Rattle.edd_lexer.specs.declared.fault.LexFault.TheVariants as fault
use Rattle.edd_lexer.specs.declared.token.Token.{Token}
use Rattle.edd_lexer.specs.Bytes.{is_line_end}
use Rattle.edd_syntax.specs.declared.numbers.TokenNo.{TokenNo}

-- the words of a fault: its number, its kind and its line
abbrev pub words_of : LexFault → List ℕ
words_of fault.TooLong = codes "2 TOO_LONG"
words_of (fault.NotUtf8 line) = codes "1 NOT_UTF8 line " ++ decimal line
words_of (fault.BadCharacter line) = codes "3 BAD_CHARACTER line " ++ decimal line
words_of (fault.OpenComment line) = codes "4 OPEN_COMMENT line " ++ decimal line
words_of (fault.OpenString line) = codes "5 OPEN_STRING line " ++ decimal line
words_of (fault.BadEscape line) = codes "6 BAD_ESCAPE line " ++ decimal line
words_of (fault.BadNumber line) = codes "7 BAD_NUMBER line " ++ decimal line
words_of (fault.Directive line) = codes "8 DIRECTIVE line " ++ decimal line
words_of fault.Memory = codes "no memory"

-- the line on which a text ends, counted from 1
abbrev pub last_line : List ℕ → ℕ
last_line text = min (1 + length (filter is_line_end text)) (2 ^ 32 - 1)

-- the line of a token, as the lexer counts it; at the text's end its last line
abbrev pub line_at : (text : List ℕ) → List Token → TokenNo → ℕ
line_at text tokens at =
    elim (slice_get tokens at.0) [ Some t ↦ t.line | None ↦ last_line text ]
