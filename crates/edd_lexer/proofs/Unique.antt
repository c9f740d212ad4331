-- Each list of tokens, and each fault, that the definitions allow is the one that is read.
use Rattle.std.proofs.Common.{◌≡◌, ◌≢◌, ℕ, ◌-◌, ◌<◌, Bool, true, false, cond, ◌&&◌, ◌||◌, ◌==◌, List, [], ◌∷◌, drop, length, Option, Some, None, Ok, Err, refl, sym, ap, ◌∙◌, arith}
use Rattle.std.specs.Char.{is_ascii_digit}
use Rattle.edd_syntax.specs.Words.{has_escapes}
use Rattle.edd_lexer.specs.Bytes.{begins}
use Rattle.edd_lexer.specs.Numbers.{begins_number}
use Rattle.edd_lexer.specs.Strings.{Closed}
use Rattle.edd_lexer.specs.Tokens.{Lexeme, TokensFrom, nothing}
use Rattle.edd_lexer.specs.Tokens as tokens
use Rattle.edd_lexer.specs.Faults.{Fault, BadCharacter, OpenComment, OpenString, BadEscape, BadNumber, Directive, FaultHere, open_comment, open_string, bad_escape, bad_number, directive, bad_character, begins_comment, begins_string, begins_directive, NothingBegins, FaultFrom, at_once}
use Rattle.edd_lexer.specs.Faults as faults
use Rattle.edd_lexer.specs.Reading.{Step, token, gap, wrong, step_at, with_first, after_step, string_end}
use Rattle.edd_lexer.proofs.Runs.{both}
use Rattle.edd_lexer.proofs.ByteTests.{digit_no_other, same_byte}
use Rattle.edd_lexer.proofs.StringEnds.{string_is, string_again}
use Rattle.edd_lexer.proofs.Sound.{Right}
use Rattle.edd_lexer.proofs.SoundSigns.{step_right}
use Rattle.edd_lexer.proofs.CompleteSigns.{token_again, gap_again}
use Rattle.edd_lexer.proofs.Whole.{token_shortens, gap_shortens, tokens_from, tokens_step, tokens_end}

-- ---- the tokens

lexeme_is : (lexeme : Lexeme) (start end : ℕ) → lexeme.start ≡ start → lexeme.end ≡ end
    → record { token = lexeme.token; start = start; end = end } ≡ lexeme
lexeme_is lexeme start end e f = let S : ℕ → ℕ
    → Lexeme = λ s t. record { token = lexeme.token; start = s; end = t } in ap (λ (s : ℕ). S s end)
    (sym e) ∙ ap (λ (t : ℕ). S lexeme.start t) (sym f)

pub tokens_again : (total : ℕ) (fresh : Bool) (here : List ℕ) (lexemes : List Lexeme)
    → TokensFrom total fresh here lexemes → tokens_from total fresh here ≡ Ok lexemes
tokens_again total fresh here lexemes nothing = tokens_end total fresh [] refl
tokens_again total fresh here lexemes (tokens.behind_gap {next = next} {rest = rest} gap_is more) =
    tokens_step total fresh here (let lt = gap_shortens fresh here next rest gap_is in omega arith)
    ∙ (ap (λ (s : Step). after_step total (length here) s (λ n r. tokens_from total n r))
    (gap_again fresh here next rest gap_is)
    ∙ tokens_again total next rest lexemes more)
tokens_again total fresh here lexemes (tokens.behind_token {rest = rest} {lexeme = lexeme}
    {more = others} stands start end more) =
    tokens_step total fresh here (let lt = token_shortens here lexeme.token rest stands in omega
    arith)
    ∙ (ap (λ (s : Step). after_step total (length here) s (λ n r. tokens_from total n r))
    (token_again fresh here lexeme.token rest stands)
    ∙ (ap (with_first (record {
      token = lexeme.token;
      start = total - length here;
      end = total - length rest;
    })) (tokens_again total false rest others more)
    ∙ ap (λ (l : Lexeme). Ok (l ∷ others)) (lexeme_is lexeme _ _ (omega arith) (omega arith))))

-- ---- the faults

abbrev of_string : Option (Bool × List ℕ) → Fault
of_string None = OpenString
of_string (Some end) = BadEscape

-- the fault of a place where nothing begins
abbrev fault_at : Bool → List ℕ → Fault
fault_at fresh here =
    cond (begins_comment here) OpenComment
    (cond (begins_string here) (of_string (string_end true (drop 1 here)))
    (cond (begins_number here) BadNumber
    (cond (begins_directive fresh here) Directive BadCharacter)))

number_first : (fresh : Bool) (here : List ℕ) → begins_number here ≡ true
    → (begins_comment here ≡ false) × (begins_string here ≡ false)
number_first fresh [] e = absurd cc
number_first fresh (b ∷ here) e = go (is_ascii_digit b) refl e
  where
    go : (t : Bool) → is_ascii_digit b ≡ t
        → (is_ascii_digit b || ((b == 46) && begins is_ascii_digit here)) ≡ true
        → (begins_comment (b ∷ here) ≡ false) × (begins_string (b ∷ here) ≡ false)
    go true d n = let other = digit_no_other b d in (rw other.slash refl, other.quote)
    go false d n =
        let dot = both (b == 46) (begins is_ascii_digit here)
        (ap (λ (t : Bool). t || ((b == 46) && begins is_ascii_digit here)) (sym d) ∙ n) in
        let is = same_byte b 46 dot.0 in
        (ap (λ (c : ℕ). begins_comment (c ∷ here)) is, ap (λ (c : ℕ). begins_string (c ∷ here)) is)

directive_first : (fresh : Bool) (here : List ℕ) → begins_directive fresh here ≡ true
    → fault_at fresh here ≡ Directive
directive_first fresh [] e = absurd (let f = both fresh false e in cc)
directive_first fresh (b ∷ here) e =
    let parts = both fresh (b == 35) e in
    ap (λ (f : Bool). fault_at f (b ∷ here)) parts.0 ∙ ap (λ (c : ℕ). fault_at true (c ∷ here))
    (same_byte b 35 parts.1)

no_end : (inside : List ℕ) → ((raw rest : List ℕ) → ¬ (Closed inside raw rest))
    → OpenString ≡ of_string (string_end true inside)
no_end inside none = go (string_end true inside) refl
  where
    go : (end : Option (Bool × List ℕ)) → string_end true inside ≡ end → OpenString ≡ of_string end
    go None e = refl
    go (Some end) e = let found = string_is true inside end e in absurd
        (none found.raw end.1 (record { whole = found.whole; inside = found.is_inside }))

fault_here : (fresh : Bool) (here : List ℕ) (fault : Fault) → FaultHere fresh here fault
    → fault ≡ fault_at fresh here
fault_here fresh here fault (open_comment e) = rw e refl
fault_here fresh here fault (open_string inside whole none) = no_end inside none
    ∙ ap (fault_at fresh) (sym whole)
fault_here fresh here fault (bad_escape inside raw rest whole closed bad) =
    let end : string_end true inside ≡ Some (true && has_escapes raw, rest) =
    ap (string_end true) closed.whole ∙ string_again true raw rest closed.inside in
    ap of_string (sym end) ∙ ap (fault_at fresh) (sym whole)
fault_here fresh here fault (bad_number e) = let first =
    number_first fresh here e in rw (first.0, first.1, e) refl
fault_here fresh here fault (directive e) = sym (directive_first fresh here e)
fault_here fresh here fault (bad_character some comment string number dir) =
    rw (comment, string, number, dir) refl

some_here : (fresh : Bool) (here : List ℕ) (fault : Fault) → FaultHere fresh here fault → here ≢ []
some_here fresh here fault (open_comment e) f = let g : begins_comment [] ≡ true =
    ap begins_comment (sym f) ∙ e in cc
some_here fresh here fault (open_string inside whole none) f = cc
some_here fresh here fault (bad_escape inside raw rest whole closed bad) f = cc
some_here fresh here fault (bad_number e) f = let g : begins_number [] ≡ true =
    ap begins_number (sym f) ∙ e in cc
some_here fresh here fault (directive e) f = let g =
    (both fresh false (ap (begins_directive fresh) (sym f) ∙ e)).1 in cc
some_here fresh here fault (bad_character some comment string number dir) f = some f

-- where nothing begins, the step is the fault
stops : (fresh : Bool) (here : List ℕ) (fault : Fault) → NothingBegins fresh here
    → FaultHere fresh here fault → step_at fresh here ≡ wrong fault
stops fresh [] fault none here_is = absurd (some_here fresh [] fault here_is refl)
stops fresh (b ∷ here) fault none here_is = go (step_at fresh (b ∷ here)) (step_right fresh b here)
  where
    go : (s : Step) → Right fresh (b ∷ here) s → s ≡ wrong fault
    go (token t rest) right = absurd (none.no_token t rest right)
    go (gap next rest) right = absurd (none.no_gap next rest right)
    go (wrong other) right =
        ap wrong (fault_here fresh (b ∷ here) other right
        ∙ sym (fault_here fresh (b ∷ here) fault here_is))

fault_some : (fresh : Bool) (here : List ℕ) (fault : Fault) → FaultHere fresh here fault
    → 0 < length here
fault_some fresh [] fault f = absurd (some_here fresh [] fault f refl)
fault_some fresh (b ∷ here) fault f = omega arith

pub fault_again : (total : ℕ) (fresh : Bool) (here : List ℕ) (fault : Fault)
    → FaultFrom fresh here fault → tokens_from total fresh here ≡ Err fault
fault_again total fresh here fault (at_once none here_is) =
    tokens_step total fresh here (fault_some fresh here fault here_is)
    ∙ ap (λ (s : Step). after_step total (length here) s (λ n r. tokens_from total n r))
    (stops fresh here fault none here_is)
fault_again total fresh here fault (faults.behind_gap {next = next} {rest = rest} gap_is more) =
    tokens_step total fresh here (let lt = gap_shortens fresh here next rest gap_is in omega arith)
    ∙ (ap (λ (s : Step). after_step total (length here) s (λ n r. tokens_from total n r))
    (gap_again fresh here next rest gap_is)
    ∙ fault_again total next rest fault more)
fault_again total fresh here fault (faults.behind_token {rest = rest} {t = t} stands more) =
    tokens_step total fresh here (let lt = token_shortens here t rest stands in omega arith)
    ∙ (ap (λ (s : Step). after_step total (length here) s (λ n r. tokens_from total n r))
    (token_again fresh here t rest stands)
    ∙ ap (with_first _) (fault_again total false rest fault more))
