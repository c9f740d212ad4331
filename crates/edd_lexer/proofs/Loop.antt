-- Reading one step after the other, as the loop does.
use Rattle.std.proofs.Common.{◌≡◌, ℕ, ◌+◌, ◌-◌, ◌≤◌, ◌<◌, Bool, true, false, cond, ◌||◌, List, [], ◌∷◌, ◌++◌, take, drop, length, Result, Ok, Err, refl, sym, ap, ◌∙◌, append_assoc, length-append, length-take, length-drop, arith}
use Rattle.std.specs.Prelude.{bytes_eq, slice_range, slice_index}
use Rattle.std.proofs.lemmas.List.{append-nil, drop_at, drop-drop}
use Rattle.std.proofs.lemmas.Slice.Eq.{bytes_eq-Decides}
use Rattle.edd_syntax.specs.Token.{Token}
use Rattle.edd_lexer.specs.declared.token.TokenKind.{TokenKind}
use Rattle.edd_lexer.proofs.CompleteSigns.{gap_again}
use Rattle.edd_lexer.specs.Bytes.{is_blank, is_line_end}
use Rattle.edd_lexer.specs.Gaps.{Gap, blank}
use Rattle.edd_lexer.specs.Tokens.{Lexeme, Stands, behind_byte_order_mark}
use Rattle.edd_lexer.specs.Faults.{Fault}
use Rattle.edd_lexer.specs.Reading.{Step, token, gap, wrong, step_at, with_first, after_step, tokens_of}
use Rattle.edd_lexer.specs.Views.{token_of}
use Rattle.edd_lexer.specs.Parts.{Follows, Leads}
use Rattle.edd_lexer.proofs.Cuts.{gap_cut, token_cut}
use Rattle.edd_lexer.proofs.Sound.{Right}
use Rattle.edd_lexer.proofs.SoundSigns.{step_right}
use Rattle.edd_lexer.proofs.Whole.{token_shortens, gap_shortens, tokens_from, tokens_step, tokens_end}
use Rattle.edd_lexer.proofs.Texts.{tokens_of_is, mark_le}

-- ---- what comes after a step is the end of what stands here

-- what is left after some bytes
left : (here bytes rest : List ℕ) → here ≡ bytes ++ rest
    → rest ≡ drop (length here - length rest) here
left here bytes rest whole =
    let n : length bytes ≡ length here - length rest =
    omega (arith, length-append bytes rest, ap length whole) in
    sym (ap (λ (t : List ℕ). drop (length here - length rest) t) whole
    ∙ drop_at bytes rest (length here - length rest) n)

gap_left : (fresh : Bool) (here : List ℕ) (next : Bool) (rest : List ℕ) → Gap fresh here next rest
    → rest ≡ drop (length here - length rest) here
gap_left fresh here next rest g = let cut = gap_cut fresh here next rest g in left here cut.0 rest
    cut.1

token_left : (here : List ℕ) (t : Token) (rest : List ℕ) → Stands here t rest
    → rest ≡ drop (length here - length rest) here
token_left here t rest s = let cut = token_cut here t rest s in left here cut.0 rest cut.1

right_leads : (fresh : Bool) (here : List ℕ) (s : Step) → Right fresh here s → Leads here s
right_leads fresh here (token t rest) r =
    record { shorter = token_shortens here t rest r; is_end = token_left here t rest r }
right_leads fresh here (gap next rest) r =
    record {
      shorter = gap_shortens fresh here next rest r;
      is_end = gap_left fresh here next rest r;
    }
right_leads fresh here (wrong fault) r = tt

pub step_leads : (fresh : Bool) (here : List ℕ) → Leads here (step_at fresh here)
unfolding step_at
step_leads fresh [] = tt
step_leads fresh (b ∷ here) = right_leads fresh (b ∷ here) (step_at fresh (b ∷ here))
    (step_right fresh b here)

-- ---- the loop

-- the end of the end of a text
pub end_of_end : (text here rest : List ℕ) → here ≡ drop (length text - length here) text
    → length here ≤ length text → Follows here rest → rest ≡ drop (length text - length rest) text
end_of_end text here rest e le f =
    let lt = f.shorter in
    let n : (length text - length here) + (length here - length rest) ≡ length text - length rest =
    omega arith in
    f.is_end ∙ (ap (λ (x : List ℕ). drop (length here - length rest) x) e
    ∙ (drop-drop (length here - length rest) (length text - length here) text
    ∙ ap (λ (k : ℕ). drop k text) n))

abbrev pub with_front : List Lexeme → Result (List Lexeme) Fault → Result (List Lexeme) Fault
with_front before (Err fault) = Err fault
with_front before (Ok more) = Ok (before ++ more)

regroup : (before : List Lexeme) (t : Lexeme) (found : Result (List Lexeme) Fault)
    → with_front before (with_first t found) ≡ with_front (before ++ t ∷ []) found
regroup before t (Err fault) = refl
regroup before t (Ok more) = ap Ok (simp append_assoc)

none_before : (found : Result (List Lexeme) Fault) → with_front [] found ≡ found
none_before (Err fault) = refl
none_before (Ok more) = refl

pub from_start : (text : List ℕ)
    → with_front [] (tokens_from (length text) true (behind_byte_order_mark text)) ≡ tokens_of text
from_start text = none_before (tokens_from (length text) true (behind_byte_order_mark text))
    ∙ sym (tokens_of_is text)

-- the start is an end of the text
pub start_left : (text : List ℕ) → behind_byte_order_mark text
    ≡ drop (length text - length (behind_byte_order_mark text)) text
start_left text = go (bytes_eq (take 3 text) (239 ∷ 187 ∷ 191 ∷ [])) refl
  where
    three : bytes_eq (take 3 text) (239 ∷ 187 ∷ 191 ∷ []) ≡ true → 3 ≤ length text
    three e = let same : take 3 text ≡ 239 ∷ 187 ∷ 191 ∷ [] =
        (bytes_eq-Decides (take 3 text) (239 ∷ 187 ∷ 191 ∷ [])).0 e in omega (
          arith,
          ap length same,
          length-take 3 text,
        )

    go : (t : Bool) → bytes_eq (take 3 text) (239 ∷ 187 ∷ 191 ∷ []) ≡ t → cond t (drop 3 text) text
        ≡ drop (length text - length (cond t (drop 3 text) text)) text
    go true e = let n : 3 ≡ length text - length (drop 3 text) =
        (let le : 3 ≤ length text = three e in omega (arith, length-drop 3 text)) in ap
        (λ (k : ℕ). drop k text) n
    go false e = let n : 0 ≡ length text - length text = omega arith in ap (λ (k : ℕ). drop k text)
        n

pub on_gap : (before : List Lexeme) (total : ℕ) (fresh : Bool) (here : List ℕ) (next : Bool)
    (rest : List ℕ) → 0 < length here → step_at fresh here ≡ gap next rest
    → with_front before (tokens_from total fresh here)
    ≡ with_front before (tokens_from total next rest)
on_gap before total fresh here next rest some e =
    ap (with_front before) (rw (tokens_step total fresh here some, e) refl)

-- a blank
pub on_blank : (before : List Lexeme) (total : ℕ) (fresh : Bool) (here : List ℕ) → 0 < length here
    → is_blank (slice_index here 0) ≡ true
    → with_front before (tokens_from total fresh here)
    ≡ with_front before (tokens_from total (fresh || is_line_end (slice_index here 0))
    (drop 1 here))
on_blank before total fresh [] some is = absurd (omega arith)
on_blank before total fresh (b ∷ rest) some is =
    on_gap before total fresh (b ∷ rest) (fresh || is_line_end b) rest some
    (gap_again fresh (b ∷ rest) (fresh || is_line_end b) rest (blank is))

-- one byte less
follows_first : (here : List ℕ) → 0 < length here → Follows here (drop 1 here)
follows_first [] some = absurd (omega arith)
follows_first (b ∷ rest) some =
    record { shorter = omega arith; is_end = left (b ∷ rest) (b ∷ []) rest refl }

pub behind_first : (text here : List ℕ) → here ≡ drop (length text - length here) text
    → length here ≤ length text → 0 < length here
    → drop 1 here ≡ drop (length text - length (drop 1 here)) text
behind_first text here e le some = end_of_end text here (drop 1 here) e le (follows_first here some)

pub on_wrong : (before : List Lexeme) (total : ℕ) (fresh : Bool) (here : List ℕ) (fault : Fault)
    → 0 < length here → step_at fresh here ≡ wrong fault
    → with_front before (tokens_from total fresh here) ≡ Err fault
on_wrong before total fresh here fault some e =
    let fails : tokens_from total fresh here ≡ Err fault = rw (tokens_step total fresh here some, e)
    refl in ap (with_front before) fails

pub at_end : (before : List Lexeme) (total : ℕ) (fresh : Bool) (here : List ℕ) → length here ≡ 0
    → with_front before (tokens_from total fresh here) ≡ Ok before
at_end before total fresh here e = ap (with_front before) (tokens_end total fresh here e)
    ∙ ap Ok (append-nil before)

-- the token that the step reads, cut out of the whole text
abbrev pub lexeme_at : (text here rest : List ℕ) → TokenKind → Lexeme
lexeme_at text here rest kind =
    record {
      token = token_of kind (slice_range text (length text - length here)
          (length text - length rest));
      start = length text - length here;
      end = length text - length rest;
    }

cut_is : (text here rest : List ℕ) → here ≡ drop (length text - length here) text
    → length here ≤ length text → length rest < length here
    → slice_range text (length text - length here) (length text - length rest)
    ≡ take (length here - length rest) here
cut_is text here rest e le lt =
    let n : (length text - length rest) - (length text - length here) ≡ length here - length rest =
    omega arith in
    ap (λ (k : ℕ). take k (drop (length text - length here) text)) n
    ∙ ap (λ (x : List ℕ). take (length here - length rest) x) (sym e)

pub on_token : (before : List Lexeme) (text : List ℕ) (fresh : Bool) (here rest : List ℕ)
    (kind : TokenKind) → here ≡ drop (length text - length here) text → length here ≤ length text
    → length rest < length here
    → step_at fresh here ≡ token (token_of kind (take (length here - length rest) here)) rest
    → with_front before (tokens_from (length text) fresh here)
    ≡ with_front (before ++ lexeme_at text here rest kind ∷ [])
    (tokens_from (length text) false rest)
on_token before text fresh here rest kind e le lt step =
    let some : 0 < length here = omega arith in
    let total = length text in
    let L : Token → Lexeme =
    λ t. record { token = t; start = total - length here; end = total - length rest } in
    let once : tokens_from total fresh here
    ≡ with_first (L (token_of kind (take (length here - length rest) here)))
    (tokens_from total false rest) =
    tokens_step total fresh here some
    ∙ ap (λ (s : Step). after_step total (length here) s (λ n r. tokens_from total n r)) step in
    let cut : L (token_of kind (take (length here - length rest) here))
    ≡ lexeme_at text here rest kind =
    ap (λ (x : List ℕ). L (token_of kind x)) (sym (cut_is text here rest e le lt)) in
    ap (with_front before) (once ∙ ap (λ (l : Lexeme). with_first l (tokens_from total false rest))
    cut)
    ∙ regroup before (lexeme_at text here rest kind) (tokens_from total false rest)

pub ruleset loop_starts = (from_start, start_left, mark_le)
