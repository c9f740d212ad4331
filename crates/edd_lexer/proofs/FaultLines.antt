-- Where reading stops for a fault, and on which line that is.
use Rattle.std.proofs.Common.{◌≡◌, ℕ, ◌+◌, ◌-◌, ◌≤◌, ◌<◌, length-take, Bool, true, false, ◌||◌, List, [], ◌∷◌, drop, length, take, sym, subst, arith}
use Rattle.std.specs.Prelude.{slice_index}
use Rattle.edd_syntax.specs.Token.{Token}
use Rattle.edd_lexer.specs.Bytes.{is_blank, is_line_end}
use Rattle.edd_lexer.specs.Faults.{BadCharacter, BadEscape, BadNumber, Directive, Fault, FaultHere, NotUtf8, NothingBegins, OpenComment, OpenString, TooLong}
use Rattle.edd_lexer.specs.Gaps.{blank}
use Rattle.edd_lexer.specs.Places.{IsOnFaultLine, Reaches, StopsOn, at_start, behind_gap, behind_token, line_of_byte, lines_in, refused_on}
use Rattle.edd_lexer.specs.Reading as reading
use Rattle.edd_lexer.specs.Reading.{step_at}
use Rattle.edd_lexer.specs.Tokens.{behind_byte_order_mark}
use Rattle.edd_lexer.specs.Words.{last_line}
use Rattle.edd_lexer.proofs.LineCounts.{few_lines, line_is}
use Rattle.edd_lexer.proofs.Sound.{Right}
use Rattle.edd_lexer.proofs.SoundSigns.{step_right}
use Rattle.edd_lexer.proofs.Whole.{nothing_begins}

abbrev Reached : (text : List ℕ) → (fresh : Bool) → (here : List ℕ) → Type 0
Reached text fresh here = Reaches true (behind_byte_order_mark text) fresh here

pub start_reached : (text rest : List ℕ) → rest ≡ behind_byte_order_mark text
    → Reaches true (behind_byte_order_mark text) true rest
start_reached text rest is = subst (Reached text true) (sym is) at_start

right_of : (fresh : Bool) (here : List ℕ) (s : reading.Step) → 0 < length here
    → step_at fresh here ≡ s → Right fresh here s
right_of fresh [] s some is = absurd (omega arith)
right_of fresh (b ∷ rest) s some is = subst (Right fresh (b ∷ rest)) is (step_right fresh b rest)

pub gap_reached : (text : List ℕ) (fresh : Bool) (here : List ℕ) (next : Bool) (rest : List ℕ)
    → Reached text fresh here → 0 < length here → step_at fresh here ≡ reading.gap next rest
    → Reached text next rest
gap_reached text fresh here next rest reached some is =
    behind_gap reached (right_of fresh here (reading.gap next rest) some is)

pub token_reached : (text : List ℕ) (fresh : Bool) (here : List ℕ) (t : Token) (rest : List ℕ)
    → Reached text fresh here → 0 < length here → step_at fresh here ≡ reading.token t rest
    → Reached text false rest
token_reached text fresh here t rest reached some is =
    behind_token reached (right_of fresh here (reading.token t rest) some is)

pub blank_reached : (text : List ℕ) (fresh : Bool) (here : List ℕ) → Reached text fresh here
    → 0 < length here → is_blank (slice_index here 0) ≡ true
    → Reached text (fresh || is_line_end (slice_index here 0)) (drop 1 here)
blank_reached text fresh [] reached some is = absurd (omega arith)
blank_reached text fresh (b ∷ rest) reached some is = behind_gap reached (blank is)

stopped : (text here : List ℕ) (fresh : Bool) (fault : Fault) (line : ℕ) → 0 < length here
    → here ≡ drop (length text - length here) text → line + lines_in here ≡ 1 + lines_in text
    → Reached text fresh here → step_at fresh here ≡ reading.wrong fault → StopsOn text fault line
stopped text here fresh fault line some is counted reached stops = record {
  place = length text - length here;
  fresh = fresh;
  reached = subst (Reached text fresh) is reached;
  nothing = subst (NothingBegins fresh) is (nothing_begins fresh here fault stops);
  here = subst (λ (x : List ℕ). FaultHere fresh x fault) is
      (right_of fresh here (reading.wrong fault) some stops);
  on_line = line_is text here line is counted;
}

-- no fault at a place is one of the whole text
pub no_place_of : (fresh : Bool) (here : List ℕ) (fault : Fault) → FaultHere fresh here fault
    → (line : ℕ) (text : List ℕ) → StopsOn text fault line → IsOnFaultLine text (refused_on fault line)
no_place_of fresh here BadCharacter is line text stops = stops
no_place_of fresh here OpenComment is line text stops = stops
no_place_of fresh here OpenString is line text stops = stops
no_place_of fresh here BadEscape is line text stops = stops
no_place_of fresh here BadNumber is line text stops = stops
no_place_of fresh here Directive is line text stops = stops
no_place_of fresh here TooLong is line text stops = elim is [ ]
no_place_of fresh here NotUtf8 is line text stops = elim is [ ]

pub stops_on : (text here : List ℕ) (fresh : Bool) (fault : Fault) (line : ℕ) → 0 < length here
    → here ≡ drop (length text - length here) text → line + lines_in here ≡ 1 + lines_in text
    → Reached text fresh here → step_at fresh here ≡ reading.wrong fault
    → IsOnFaultLine text (refused_on fault line)
stops_on text here fresh fault line some is counted reached stops =
    no_place_of fresh here fault (right_of fresh here (reading.wrong fault) some stops) line text
    (stopped text here fresh fault line some is counted reached stops)

-- the last line of a front of a text that is within the limit
pub last_is : (text : List ℕ) (n : ℕ) → length text ≤ 1048576
    → last_line (take n text) ≡ line_of_byte text n
last_is text n small =
    let few = few_lines (take n text) in
    let long = length-take n text in
    omega (arith, few, long, small)
