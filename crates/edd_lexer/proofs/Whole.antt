-- Reading a whole text: its tokens, or its first fault, and nothing else.
use Rattle.std.proofs.Common.{◌≡◌, ℕ, zero, suc, ◌-◌, ◌≤◌, ◌<◌, Bool, true, false, ◌&&◌, ◌==◌, List, [], ◌∷◌, ◌++◌, drop, length, Option, Some, Result, Ok, Err, refl, sym, ap, subst, ◌∙◌, inl, inr, length-append, arith}
use Rattle.edd_syntax.specs.declared.operators.Operator.{Operator}
use Rattle.edd_syntax.specs.declared.operators.Operator.TheVariants as operator
use Rattle.edd_syntax.specs.declared.operators.Comparison.{Comparison}
use Rattle.edd_syntax.specs.declared.operators.Comparison.TheVariants as comparison
use Rattle.edd_syntax.specs.declared.symbols.Symbol.{Symbol}
use Rattle.edd_syntax.specs.declared.symbols.Symbol.TheVariants as symbol
use Rattle.edd_syntax.specs.Names.{is_name}
use Rattle.edd_syntax.specs.Token.{Token}
use Rattle.edd_lexer.specs.Bytes.{in_line, begins, behind}
use Rattle.edd_lexer.specs.Numbers.{IsInteger, IsDecimal}
use Rattle.edd_lexer.specs.Strings.{quote}
use Rattle.edd_lexer.specs.Signs.{operator_bytes, comparison_bytes, symbol_bytes}
use Rattle.edd_lexer.specs.Gaps.{Gap, blank, line_comment, block_comment, mark, behind_close}
use Rattle.edd_lexer.specs.Tokens.{Lexeme, Stands, word, integer, decimal, string, sign, TokensFrom, nothing}
use Rattle.edd_lexer.specs.Tokens as tokens
use Rattle.edd_lexer.specs.Faults.{Fault, NothingBegins, FaultFrom, at_once}
use Rattle.edd_lexer.specs.Faults as faults
use Rattle.edd_lexer.specs.Reading.{Step, token, gap, wrong, step_at, with_first, after_step, tokens_at}
use Rattle.edd_lexer.proofs.Runs.{front_length}
use Rattle.edd_lexer.proofs.Sound.{Right}
use Rattle.edd_lexer.proofs.SoundSigns.{step_right}
use Rattle.edd_lexer.proofs.CompleteSigns.{token_again, gap_again}

-- ---- what comes after a step is shorter

behind_le : (test : ℕ → Bool) (here : List ℕ) → length (behind test here) ≤ length here
behind_le test here = omega (arith, front_length test here)

close_le : (body rest : List ℕ) → behind_close body ≡ Some rest → length rest ≤ length body
close_le [] rest e = absurd cc
close_le (b ∷ body) rest e = go (b == 42 && begins (λ c. c == 47) body) e (close_le body rest)
  where
    drop_le : (xs : List ℕ) → length (drop 1 xs) ≤ length xs
    drop_le [] = omega arith
    drop_le (x ∷ xs) = omega arith

    go : (t : Bool) → (elim t as (λ _. Option (List ℕ)) [
      | true ↦ Some (drop 1 body)
      | false ↦ behind_close body
    ]) ≡ Some rest
        → (behind_close body ≡ Some rest → length rest ≤ length body)
        → length rest ≤ length (b ∷ body)
    go true f more = let same : drop 1 body ≡ rest = cc in let le =
        drop_le body in omega (arith, ap length same)
    go false f more = let le = more f in omega arith

pub gap_shortens : (fresh : Bool) (here : List ℕ) (next : Bool) (rest : List ℕ)
    → Gap fresh here next rest → length rest < length here
gap_shortens fresh here next rest (blank e) = omega arith
gap_shortens fresh here next rest (line_comment {body = body}) = let le =
    behind_le in_line body in omega arith
gap_shortens fresh here next rest (block_comment {body = body} e) = let le =
    close_le body rest e in omega arith
gap_shortens fresh here next rest (mark {body = body} e) = let le =
    behind_le in_line body in omega arith

operator_some : (o : Operator) → 0 < length (operator_bytes o)
operator_some operator.Add = omega arith
operator_some _ = omega arith

comparison_some : (c : Comparison) → 0 < length (comparison_bytes c)
comparison_some comparison.Equal = omega arith
comparison_some _ = omega arith

symbol_some : (s : Symbol) → 0 < length (symbol_bytes s)
symbol_some (symbol.Operator o) = operator_some o
symbol_some (symbol.Comparison c) = comparison_some c
symbol_some (symbol.CompoundAssign o) = let some =
    operator_some o in omega (arith, length-append (operator_bytes o) (61 ∷ []))
symbol_some _ = omega arith

shorter : (here bytes rest : List ℕ) → here ≡ bytes ++ rest → 0 < length bytes
    → length rest < length here
shorter here bytes rest whole some = omega (arith, length-append bytes rest, ap length whole)

name_some : (bytes : List ℕ) → is_name bytes ≡ true → 0 < length bytes
name_some [] e = absurd cc
name_some (b ∷ bytes) e = omega arith

integer_some : (bytes : List ℕ) (n : ℕ) → IsInteger bytes n → 0 < length bytes
integer_some [] n (inl e) = absurd e
integer_some (b ∷ bytes) n (inl e) = omega arith
integer_some bytes n (inr h) = omega (arith, ap length h.2)

decimal_some : (bytes : List ℕ) → IsDecimal bytes → 0 < length bytes
decimal_some bytes (inl (whole, part, are, digits, more, some)) =
    omega (arith, ap length are, length-append whole (46 ∷ part))
decimal_some bytes (inr (before, exponent, are, is, (letter, power, exponent_is, is_one, signed))) =
    omega (arith, ap length are, length-append before exponent, ap length exponent_is)

pub token_shortens : (here : List ℕ) (t : Token) (rest : List ℕ) → Stands here t rest
    → length rest < length here
token_shortens here t rest (word bytes whole name stop is) =
    shorter here bytes rest whole (name_some bytes name)
token_shortens here t rest (integer bytes n whole spelled fits free is) =
    shorter here bytes rest whole (integer_some bytes n spelled)
token_shortens here t rest (decimal bytes whole spelled free is) =
    shorter here bytes rest whole (decimal_some bytes spelled)
token_shortens here t rest (string inside raw whole closed good is) =
    omega (arith, ap length whole, ap length closed.whole, length-append raw (quote ∷ rest))
token_shortens here t rest (sign s whole free is) = shorter here (symbol_bytes s) rest whole
    (symbol_some s)

-- what comes after a step is shorter
abbrev pub Shortens : ℕ → Step → Type 0
Shortens n (token t rest) = length rest < n
Shortens n (gap fresh rest) = length rest < n
Shortens n (wrong fault) = Unit {0}

right_shortens : (fresh : Bool) (here : List ℕ) (s : Step) → Right fresh here s
    → Shortens (length here) s
right_shortens fresh here (token t rest) r = token_shortens here t rest r
right_shortens fresh here (gap next rest) r = gap_shortens fresh here next rest r
right_shortens fresh here (wrong fault) r = tt

-- ---- one step after the other

pub after_same : (total left k : ℕ) (s : Step) (f g : Bool → List ℕ → Result (List Lexeme) Fault)
    → Shortens k s → ((next : Bool) (rest : List ℕ) → length rest < k → f next rest ≡ g next rest)
    → after_step total left s f ≡ after_step total left s g
after_same total left k (wrong e) f g h go = refl
after_same total left k (gap next rest) f g h go = go next rest h
after_same total left k (token t rest) f g h go = ap (with_first _) (go false rest h)

-- as many steps as there are bytes are enough
abbrev pub tokens_from : (total : ℕ) → (fresh : Bool) → List ℕ → Result (List Lexeme) Fault
tokens_from total fresh here = tokens_at total (length here) fresh here

enough : (total n m : ℕ) (fresh : Bool) (here : List ℕ) → length here ≤ n → length here ≤ m
    → tokens_at total n fresh here ≡ tokens_at total m fresh here
unfolding tokens_at
enough total n m fresh [] a b = refl
enough total zero m fresh (c ∷ here) a b = absurd (omega arith)
enough total (suc n) zero fresh (c ∷ here) a b = absurd (omega arith)
enough total (suc n) (suc m) fresh (c ∷ here) a b =
    after_same total _ _ (step_at fresh (c ∷ here)) _ _
    (right_shortens fresh (c ∷ here) (step_at fresh (c ∷ here)) (step_right fresh c here))
    (λ next rest lt. enough total n m next rest (omega arith) (omega arith))

pub tokens_enough : (total n : ℕ) (fresh : Bool) (here : List ℕ) → length here ≤ n
    → tokens_at total n fresh here ≡ tokens_from total fresh here
tokens_enough total n fresh here le = enough total n (length here) fresh here le (omega arith)

step_once : (total n : ℕ) (fresh : Bool) (b : ℕ) (here : List ℕ)
    → tokens_at total (suc n) fresh (b ∷ here) ≡ after_step total (suc (length here))
    (step_at fresh (b ∷ here)) (λ next rest. tokens_at total n next rest)
unfolding tokens_at
step_once total n fresh b here = refl

pub tokens_step : (total : ℕ) (fresh : Bool) (here : List ℕ) → 0 < length here
    → tokens_from total fresh here ≡ after_step total (length here) (step_at fresh here)
    (λ next rest. tokens_from total next rest)
tokens_step total fresh [] some = absurd (omega arith)
tokens_step total fresh (b ∷ here) some =
    step_once total (length here) fresh b here
    ∙ after_same total _ _ (step_at fresh (b ∷ here)) _ _
    (right_shortens fresh (b ∷ here) (step_at fresh (b ∷ here)) (step_right fresh b here))
    (λ next rest lt. enough total (length here) (length rest) next rest (omega arith) (omega arith))

pub tokens_end : (total : ℕ) (fresh : Bool) (here : List ℕ) → length here ≡ 0
    → tokens_from total fresh here ≡ Ok []
unfolding tokens_at
tokens_end total fresh [] e = refl
tokens_end total fresh (b ∷ here) e = absurd (omega arith)

-- ---- what is read is so

AreRead : (total : ℕ) → Bool → List ℕ → Result (List Lexeme) Fault → Type 0
AreRead total fresh here (Ok lexemes) = TokensFrom total fresh here lexemes
AreRead total fresh here (Err fault) = FaultFrom fresh here fault

pub nothing_begins : (fresh : Bool) (here : List ℕ) (fault : Fault) → step_at fresh here ≡ wrong fault
    → NothingBegins fresh here
nothing_begins fresh here fault e = record {
  no_token = λ t rest stands. let f : wrong fault ≡ token t rest = sym e
      ∙ token_again fresh here t rest stands in cc;
  no_gap = λ next rest gap_is. let f : wrong fault ≡ gap next rest = sym e
      ∙ gap_again fresh here next rest gap_is in cc;
}

with_first_read : (total : ℕ) (fresh : Bool) (here : List ℕ) (t : Token) (rest : List ℕ)
    (more : Result (List Lexeme) Fault) → length here ≤ total → Stands here t rest
    → AreRead total false rest more
    → AreRead total fresh here
    (with_first (record { token = t; start = total - length here; end = total - length rest })
    more)
unfolding AreRead
with_first_read total fresh here t rest (Err fault) le stands found =
    faults.behind_token stands found
with_first_read total fresh here t rest (Ok more) le stands found =
    tokens.behind_token stands (omega arith) (let lt = token_shortens here t rest stands in omega
    arith) found

step_read : (total : ℕ) (fresh : Bool) (here : List ℕ) (s : Step) (go : Bool → List ℕ
    → Result (List Lexeme) Fault) → length here ≤ total → step_at fresh here ≡ s
    → Right fresh here s
    → ((next : Bool) (rest : List ℕ) → length rest < length here
    → AreRead total next rest (go next rest))
    → AreRead total fresh here (after_step total (length here) s go)
unfolding AreRead
step_read total fresh here (wrong fault) go le e right more =
    at_once (nothing_begins fresh here fault e) right
step_read total fresh here (gap next rest) go le e right more =
    behind_gap_read (go next rest) (more next rest (gap_shortens fresh here next rest right))
  where
    behind_gap_read : (found : Result (List Lexeme) Fault) → AreRead total next rest found
        → AreRead total fresh here found
    behind_gap_read (Ok lexemes) found = tokens.behind_gap right found
    behind_gap_read (Err fault) found = faults.behind_gap right found
step_read total fresh here (token t rest) go le e right more =
    with_first_read total fresh here t rest (go false rest) le right
    (more false rest (token_shortens here t rest right))

are_read : (total n : ℕ) (fresh : Bool) (here : List ℕ) → length here ≤ n → length here ≤ total
    → AreRead total fresh here (tokens_at total n fresh here)
unfolding tokens_at AreRead
are_read total n fresh [] a b = nothing
are_read total zero fresh (c ∷ here) a b = absurd (omega arith)
are_read total (suc n) fresh (c ∷ here) a b =
    step_read total fresh (c ∷ here) (step_at fresh (c ∷ here))
    (λ next rest. tokens_at total n next rest) b refl (step_right fresh c here)
    (λ next rest lt. are_read total n next rest (omega arith) (omega arith))

pub tokens_are : (total : ℕ) (fresh : Bool) (here : List ℕ) (lexemes : List Lexeme)
    → length here ≤ total → tokens_from total fresh here ≡ Ok lexemes
    → TokensFrom total fresh here lexemes
unfolding AreRead
tokens_are total fresh here lexemes le e =
    let P : Result (List Lexeme) Fault → Type 0 = λ r. AreRead total fresh here r in
    subst P e (are_read total (length here) fresh here (omega arith) le)

pub fault_is : (total : ℕ) (fresh : Bool) (here : List ℕ) (fault : Fault) → length here ≤ total
    → tokens_from total fresh here ≡ Err fault → FaultFrom fresh here fault
unfolding AreRead
fault_is total fresh here fault le e =
    let P : Result (List Lexeme) Fault → Type 0 = λ r. AreRead total fresh here r in
    subst P e (are_read total (length here) fresh here (omega arith) le)
