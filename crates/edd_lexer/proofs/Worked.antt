-- The tokens and the faults of worked texts, by computation.
use Rattle.std.proofs.Common.{◌++◌, ℕ, List, [], ◌∷◌, codes, refl, inr, arith}
use Rattle.edd_lexer.specs.Tokens.{word, integer, nothing, behind_token, behind_gap}
use Rattle.edd_lexer.specs.Gaps.{blank}
use Rattle.edd_lexer.specs.Faults.{BadNumber, BadEscape, Directive}
use Rattle.edd_lexer.specs.Reading.{tokens_of, tokens_at, step_at, word_at, number_at, number_from, plain_integer, integer_of, decimal_to, exponent_end, string_at, string_end, symbol_at, single_symbol, hash_at}
use Rattle.edd_lexer.specs.Worked.{HexExample, PressureExample, pressure_text, pressure_tokens, NumberExample, EscapeExample, DirectiveExample}
use Rattle.edd_lexer.proofs.Texts.{tokens_sound, fault_sound}

pub hex_example : HexExample
unfolding lib.Utf8.encode
hex_example = record {
  fits = omega arith;
  utf8 = (codes "x 0x1F", (refl, refl));
  read = behind_token (word (codes "x") refl refl refl refl) (omega arith) (omega arith)
      (behind_gap (blank refl)
      (behind_token (integer (codes "0x1F") 31 refl
      (inr (120, 49 ∷ 70 ∷ [], refl, refl, (λ e. absurd cc), refl, refl)) (omega arith) refl
      refl) (omega arith) (omega arith)
      nothing));
}

abbrev number_text : List ℕ
number_text = codes "x 08 \"\\q\""

pub number_example : NumberExample
unfolding lib.Utf8.encode tokens_of tokens_at step_at word_at number_at number_from plain_integer
    exponent_end
number_example = fault_sound number_text BadNumber (omega arith) (number_text, (refl, refl)) refl

abbrev escape_text : List ℕ
escape_text = codes "1.5e3 \"a\\\"\\q\" ."

pub escape_example : EscapeExample
unfolding lib.Utf8.encode tokens_of tokens_at step_at number_at number_from decimal_to exponent_end
    string_at string_end
escape_example = fault_sound escape_text BadEscape (omega arith) (escape_text, (refl, refl)) refl

abbrev directive_text : List ℕ
directive_text = codes "# 1 \"a\"" ++ 10 ∷ codes " #include \"a\""

pub directive_example : DirectiveExample
unfolding lib.Utf8.encode tokens_of tokens_at step_at hash_at
directive_example = fault_sound directive_text Directive (omega arith)
    (directive_text, (refl, refl)) refl

pub pressure_example : PressureExample
unfolding lib.Utf8.encode tokens_of tokens_at step_at word_at number_at number_from plain_integer
    exponent_end string_at string_end integer_of symbol_at single_symbol
pressure_example = tokens_sound pressure_text pressure_tokens (omega arith)
    (pressure_text, (refl, refl)) refl
