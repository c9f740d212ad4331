-- What the answers of the lexer's parts stand for.
use Rattle.std.specs.Prelude.{◌≡◌, ◌<◌, ℕ, ◌-◌, Bool, List, length, take, drop, option_map, map, Option, Some, None, IfSome, Result, Ok, Err, Vec}
use Rattle.std.specs.declared.alloc.Global.{Global}
use Rattle.std.specs.Borrow.{Bor}
use Rattle.edd_syntax.specs.declared.symbols.Symbol.{Symbol}
use Rattle.edd_syntax.specs.Token.{Integer, Decimal, Sign}
use Rattle.edd_lexer.specs.declared.token.Token.{Token}
use Rattle.edd_lexer.specs.declared.fault.LexFault.{LexFault}
use Rattle.edd_lexer.specs.declared.numbers.Number.{Number}
use Rattle.edd_lexer.specs.declared.numbers.Number.TheVariants as number
use Rattle.edd_lexer.specs.declared.lexer.Step.{Step}
use Rattle.edd_lexer.specs.declared.lexer.Step.TheVariants as code
use Rattle.edd_lexer.specs.declared.strings.StringEnd.{StringEnd}
use Rattle.edd_lexer.specs.Tokens.{Lexeme}
use Rattle.edd_lexer.specs.Faults.{Fault, BadCharacter, BadNumber}
use Rattle.edd_lexer.specs.Reading as reading
use Rattle.edd_lexer.specs.Views.{token_of, lexeme_of, fault_of}

-- the bytes of a rest that may be missing
abbrev pub rest_of : Option (Bor (List ℕ)) → Option (List ℕ)
rest_of o = option_map (λ s. s.now) o

-- what is read of a number, as a step
abbrev pub step_of_number : Number → reading.Step
step_of_number (number.Integer n rest) = reading.token (Integer n) rest.now
step_of_number (number.Decimal rest) = reading.token Decimal rest.now
step_of_number number.Bad = reading.wrong BadNumber

-- the end of a string, if it has one: whether its escapes are good, and the bytes after it
abbrev pub end_of : Option StringEnd → Option (Bool × List ℕ)
end_of o = option_map (λ e. (e.good, e.rest.now)) o

-- the bytes after the end of a comment, if it has one
abbrev pub close_of : Option (ℕ × Bor (List ℕ)) → Option (List ℕ)
close_of o = option_map (λ e. e.1.now) o

-- a sign as a step, or the fault where there is none
abbrev pub sign_of : Option (Symbol × Bor (List ℕ)) → reading.Step
sign_of None = reading.wrong BadCharacter
sign_of (Some s) = reading.token (Sign s.0) s.1.now

-- a step of the lexer as one of the definition, its token by the bytes that it covers
abbrev pub step_of : List ℕ → Step → reading.Step
step_of here (code.Token k lines rest) =
    reading.token (token_of k (take (length here - length rest.now) here)) rest.now
step_of here (code.Gap fresh lines rest) = reading.gap fresh rest.now
step_of here (code.Wrong fault) = reading.wrong fault

-- `rest` is a shorter end of `here`
pub record Follows (here rest : List ℕ) : Type 0 where
  pub shorter : length rest < length here
  pub is_end : rest ≡ drop (length here - length rest) here

-- what comes after a step is a shorter end of what is here
abbrev pub Leads : List ℕ → reading.Step → Type 0
Leads here (reading.token t rest) = Follows here rest
Leads here (reading.gap fresh rest) = Follows here rest
Leads here (reading.wrong fault) = Unit {0}

-- the answer is what reading gives, unless memory ran out
abbrev pub Gives : List ℕ → Result (Vec Token Global) LexFault → Result (List Lexeme) Fault → Type 0
Gives text (Ok list) read = read ≡ Ok (map (lexeme_of text) list.items)
Gives text (Err e) read = IfSome (fault_of e) (λ fault. read ≡ Err fault)
