-- What is said of the rules that a text breaks.
use Rattle.std.specs.Prelude.{ℕ, List, Option, Some, string_bytes}
use Rattle.edd_breach_places.specs.declared.span.Span.{Span}
use Rattle.edd_breach_places.specs.Places.{place_of}
use Rattle.edd_breaches.specs.Faults.{refusal_of_fault}
use Rattle.edd_breaches.specs.Told.{Told}
use Rattle.edd_breaches.specs.Words.{told_words}
use Rattle.edd_findings.specs.declared.found.Found.{Found}
use Rattle.edd_lexer.specs.declared.token.Token.{Token}
use Rattle.edd_lexer.specs.Words.{line_at}
use Rattle.edd_syntax.specs.declared.numbers.TokenNo.{TokenNo}
use Rattle.edd_syntax.specs.Refusal.{Refusal}

-- a rule that is broken, the token at fault, the words with the line, and where it is shown
pub record Said : Type 0 where
  pub rule : Option Refusal
  pub at : Option TokenNo
  pub words : List ℕ
  pub place : Option Span

-- what is said
abbrev pub said_of : Found → Said
said_of f = record {
  rule = refusal_of_fault f.rule;
  at = f.at;
  words = string_bytes f.refusal;
  place = f.place;
}

-- what is to be said of what is told of a text with these tokens
abbrev pub said_in : (text : List ℕ) → List Token → Told → Said
said_in text tokens t = record {
  rule = Some t.refusal;
  at = t.place;
  words = told_words (line_at text tokens) t;
  place = place_of tokens t;
}
