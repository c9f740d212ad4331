-- What is printed of a text that is refused.
use Rattle.std.specs.Prelude.{◌≡◌, ℕ, List, ◌++◌, map, Option, Some, None, IfSome, codes}
use Rattle.edd_breaches.specs.Faults.{place_of_fault}
use Rattle.edd_breaches.specs.Words as rules
use Rattle.edd_breaches.specs.Words.{line_said}
use Rattle.edd_compiler.specs.declared.fault.Fault.{Fault}
use Rattle.edd_compiler.specs.declared.fault.Fault.TheVariants as fault
use Rattle.edd_lexer.specs.declared.token.Token.{Token}
use Rattle.edd_lexer.specs.Tokens.{AreTokens}
use Rattle.edd_lexer.specs.Views.{lexeme_of}
use Rattle.edd_lexer.specs.Words as lexical
use Rattle.edd_lexer.specs.Words.{line_at}
use Rattle.edd_syntax.specs.declared.numbers.TokenNo.{TokenNo}
use Rattle.edd_token_reader.specs.declared.fault.ParseFault.TheVariants as parse
use Rattle.edd_token_reader.specs.Words as grammar

-- the words of a fault; those of a lexical fault have their line
abbrev pub fault_words : Fault → List ℕ
fault_words (fault.Lex e) = lexical.words_of e
fault_words (fault.Parse e) = grammar.words_of e
fault_words (fault.Rule e) = rules.fault_words e
fault_words fault.TooManyStrings = codes "40 TOO_MANY strings"
fault_words fault.Memory = codes "no memory"

-- the token whose line is said after them
abbrev pub token_said : Fault → Option TokenNo
token_said (fault.Lex e) = None
token_said (fault.Parse (parse.Syntax at)) = Some at
token_said (fault.Parse (parse.TooDeep at)) = Some at
token_said (fault.Parse (parse.Unsupported at word)) = None
token_said (fault.Parse parse.Memory) = None
token_said (fault.Rule e) = place_of_fault e
token_said fault.TooManyStrings = None
token_said fault.Memory = None

-- the refusal of a text with these tokens
abbrev pub refusal_words : (text : List ℕ) → List Token → Fault → List ℕ
refusal_words text tokens f = fault_words f ++ line_said (line_at text tokens) (token_said f)

-- these words are the refusal of a text with this fault, whose tokens are the text's where a line is
-- said
abbrev pub IsRefusalOf : (text : List ℕ) → Fault → (words : List ℕ) → Type 0
IsRefusalOf text f words = (tokens : List Token) × (words ≡ refusal_words text tokens f)
    × IfSome (token_said f) (λ at. AreTokens text (map (lexeme_of text) tokens))
