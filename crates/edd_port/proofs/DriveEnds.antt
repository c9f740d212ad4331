-- A drive as a whole: its turns, and where it ends.
use Rattle.std.proofs.Common.{◌≡◌, ◌≢◌, ℕ, ◌+◌, ◌-◌, ◌*◌, ◌<◌, ◌≤◌, inl, inr, List, [], ◌∷◌, ◌++◌, length, take, drop, Some, refl, sym, ap, subst, ◌∙◌, append_assoc, append-nil, arith}
use Rattle.std.specs.Prelude.{option_map}
use Rattle.std.proofs.Math.Seq.{drop-append_seam, take-append_seam}
use Rattle.std.proofs.lemmas.List.{length-append}
use Rattle.edd_syntax.specs.Answers.{answer_fault}
use Rattle.edd_instructions.specs.declared.requests.Request.{Request}
use Rattle.edd_instructions.specs.declared.records.Status.{Status}
use Rattle.edd_instructions.specs.declared.records.Status.TheVariants as status
use Rattle.edd_image.specs.Contents.{contents_in}
use Rattle.edd_instructions.specs.Execution.{Ending}
use Rattle.edd_port.specs.declared.turn.Drive.{Drive}
use Rattle.edd_port.specs.declared.turn.Drive.TheVariants.{Done, Waiting, Refused, HostFailed}
use Rattle.edd_port.specs.declared.turn.Turn.{Turn}
use Rattle.edd_port.specs.declared.turn.Turn.TheVariants as turn
use Rattle.edd_port.specs.Books.{Pair, Book, with_pair}
use Rattle.edd_port.specs.Drives.{AreMet, AreValid, EndsAs, Shows, RefusesLast, GoesOn, Stops, accepted, added, driven, failed_after, nothing_after, standing}
use Rattle.edd_port.specs.Faults.{answer_fault_of}
use Rattle.edd_port.specs.Refusals.{BadSet}
use Rattle.edd_port.specs.Runs.{Run, environment, counted}
use Rattle.edd_port.specs.Turns.{turn_of, ending_of}
use Rattle.edd_port.proofs.Drivings.{requests_of, Driving, Driven, starts, executed, given, ends, none_stands}

-- ---- turns

-- the drive came so far, and the host noted the pairs that were accepted on the way
pub record Underway (first : Run) (steps left : ℕ) (now : Run) (before book : Book) : Type 0 where
  pub pairs : List Pair
  pub driving : Driving first steps left now pairs
  pub noted : book ≡ record before { pairs = before.pairs ++ pairs }

pub sets_out : (first : Run) (steps : ℕ) (book : Book) → first.taken ≡ counted first.taken
    → Underway first steps steps first book book
sets_out first steps book small = record {
  pairs = [];
  driving = starts first steps small;
  noted = ap (λ (ps : List Pair). record book { pairs = ps }) (sym (append-nil book.pairs));
}

pub turns : (first : Run) (steps left fewer : ℕ) (now next : Run) (before book new : Book)
    → Underway first steps left now before book → GoesOn left now book fewer next new
    → Underway first steps fewer next before new
turns first steps left fewer now next before book new is (inl (to, same)) =
    record {
      pairs = is.pairs;
      driving = executed first steps left fewer now next is.pairs
          is.driving to;
      noted = same ∙ is.noted;
    }
turns first steps left fewer now next before book new is (inr (still, (pair, takes, more))) =
    record {
      pairs = is.pairs ++ pair ∷ [];
      driving = subst (λ (n : ℕ). Driving first steps n next (is.pairs ++ pair ∷ [])) (sym still)
          (given first steps left now next is.pairs pair is.driving takes);
      noted = more ∙ ap (λ (b : Book). with_pair b pair) is.noted
          ∙ ap (λ (ps : List Pair). record before { pairs = ps })
          (append_assoc before.pairs is.pairs (pair ∷ []));
    }

-- ---- turns end

few_stand : (st : Status) → length (standing st) ≤ 1
few_stand status.Running = omega arith
few_stand _ = omega arith

-- the instructions that are left count twice, since each may make one request
pub falls : (left fewer : ℕ) (now next : Run) (book new : Book)
    → GoesOn left now book fewer next new
    → 2 * fewer + length (standing next.state.status) < 2 * left
    + length (standing now.state.status)
falls left fewer now next book new (inl (to, same)) =
    omega (arith, to.some, few_stand next.state.status)
falls left fewer now next book new (inr (still, (pair, takes, more))) =
    let one : length (standing now.state.status) ≡ 1 = ap (λ (st : Status). length (standing st))
    takes.asks in
    let none : length (standing next.state.status) ≡ 0 =
    ap (λ (r : Run). length (standing r.state.status)) takes.is
    ∙ ap (λ (rs : List Request). length rs)
    (none_stands (contents_in now.image) now.state pair.answer) in
    omega (arith, still, one, none)

-- ---- where it ends

pub record Ends (first : Run) (steps : ℕ) (before : Book) (end : Drive) (now : Run)
    (new : Book) : Type 0 where
  pub image : now.image ≡ first.image
  pub state : now.state ≡ (driven first steps (accepted end (added before new))).state
  pub taken : now.taken ≡ counted
      (first.taken + (driven first steps (accepted end (added before new))).steps)
  pub ends : EndsAs end (driven first steps (accepted end (added before new))).ending
  pub spent : end ≡ Done turn.Spent → (driven first steps (accepted end (added before new))).steps
      ≡ steps
  pub shows : Shows end (turn_of now.state.status)
  pub used : (driven first steps (accepted end (added before new))).answers ≡ []
  pub met : AreMet first.state (driven first steps (accepted end (added before new)))
      (requests_of (accepted end (added before new)))
  pub valid : AreValid (environment first.image).types (accepted end (added before new))
  pub pairs : new.pairs ≡ before.pairs ++ added before new
  pub refused : RefusesLast (environment first.image).types end now.state (added before new)
  pub nothing : new.nothing ≡ nothing_after end before.nothing
  pub failed : new.failed ≡ failed_after end before.failed

runs_where_spent : (st : Status) → turn_of st ≡ turn.Spent → st ≡ status.Running
runs_where_spent status.Running e = refl
runs_where_spent _ e = absurd cc

-- a turn that doesn't ask is the ending that it shows
done_as : (t : Turn) (ending : Ending) → ((q : Request) → t ≢ turn.Asks q) → ending ≡ ending_of t
    → EndsAs (Done t) ending
done_as (turn.Asks q) ending never e = never q refl
done_as _ ending never e = e

one_more : (pairs : List Pair) (p : Pair) → take (length (pairs ++ p ∷ []) - 1) (pairs ++ p ∷ [])
    ≡ pairs
one_more pairs p =
    let count : length (pairs ++ p ∷ []) - 1 ≡ length pairs =
    omega (arith, length-append pairs (p ∷ [])) in
    ap (λ (n : ℕ). take n (pairs ++ p ∷ [])) count ∙ take-append_seam pairs (p ∷ [])

module _ (first : Run) (steps left : ℕ) (now : Run) (before book new : Book)
    (is : Underway first steps left now before book) where
  -- what every ending has, where these pairs were added and those of the way were accepted
  abbrev Facts : Drive → Type 0
  Facts end = Driven first steps (accepted end (added before new)) now

  facts : (end : Drive) → (now.state.status ≡ status.Running → left ≡ 0)
      → accepted end (added before new) ≡ is.pairs → Facts end
  facts end last e = subst (λ (ps : List Pair). Driven first steps ps now) (sym e)
      (ends first steps left now is.pairs is.driving last)

  same_added : new.pairs ≡ before.pairs ++ is.pairs → added before new ≡ is.pairs
  same_added e = ap (λ (ps : List Pair). drop (length before.pairs) ps) e
      ∙ drop-append_seam before.pairs is.pairs

  -- a run that asks doesn't run, and it shows its request
  not_running : (q : Request) → now.state.status ≡ status.Asking q
      → now.state.status ≡ status.Running → left ≡ 0
  not_running q asks runs = let clash : status.Asking q ≡ status.Running = sym asks
      ∙ runs in absurd cc

  waiting : (q : Request) (ending : Ending) → now.state.status ≡ status.Asking q
      → ending ≡ ending_of (turn_of now.state.status) → ending ≡ Ending.Waiting
  waiting q ending asks e = e ∙ ap (λ (st : Status). ending_of (turn_of st)) asks

  shown : (q : Request) → now.state.status ≡ status.Asking q
      → (r : Request) × (turn_of now.state.status ≡ turn.Asks r)
  shown q asks = (q, ap turn_of asks)

  pub stops : (end : Drive) → Stops left now end book new → Ends first steps before end now new
  stops (Done t) (shows, never, last, same) =
      let noted = same ∙ is.noted in
      let all : added before new ≡ is.pairs = same_added (ap (λ (b : Book). b.pairs) noted) in
      let f = facts (Done t) (λ runs. last (sym shows ∙ ap turn_of runs)) all in
      record {
        image = f.image;
        state = f.state;
        taken = f.taken;
        ends = done_as t _ never (f.ending ∙ ap ending_of shows);
        spent = λ e. let s : t ≡ turn.Spent =
            cc in f.spent (runs_where_spent now.state.status (shows ∙ s));
        shows = shows;
        used = f.used;
        met = f.met;
        valid = f.valid;
        pairs = ap (λ (b : Book). b.pairs) noted ∙ ap (λ (ps : List Pair). before.pairs ++ ps)
            (sym all);
        refused = tt;
        nothing = ap (λ (b : Book). b.nothing) noted;
        failed = ap (λ (b : Book). b.failed) noted;
      }
  stops Waiting (q, asks, same) =
      let pairs_noted : new.pairs ≡ before.pairs ++ is.pairs = ap (λ (b : Book). b.pairs) same
      ∙ ap (λ (b : Book). b.pairs) is.noted in
      let all : added before new ≡ is.pairs = same_added pairs_noted in
      let f = facts Waiting (not_running q asks) all in
      record {
        image = f.image;
        state = f.state;
        taken = f.taken;
        ends = waiting q _ asks f.ending;
        spent = λ e. absurd cc;
        shows = shown q asks;
        used = f.used;
        met = f.met;
        valid = f.valid;
        pairs = pairs_noted ∙ ap (λ (ps : List Pair). before.pairs ++ ps) (sym all);
        refused = tt;
        nothing = ap (λ (b : Book). b.nothing) same ∙ ap (λ (b : Book). counted (b.nothing + 1))
            is.noted;
        failed = ap (λ (b : Book). b.failed) same ∙ ap (λ (b : Book). b.failed) is.noted;
      }
  stops (Refused fault) (pair, asks, bad, same) =
      let more : new.pairs ≡ before.pairs ++ (is.pairs ++ pair ∷ []) =
      ap (λ (b : Book). b.pairs) same ∙ ap (λ (b : Book). b.pairs ++ pair ∷ []) is.noted
      ∙ append_assoc before.pairs is.pairs (pair ∷ []) in
      let all : added before new ≡ is.pairs ++ pair ∷ [] =
      ap (λ (ps : List Pair). drop (length before.pairs) ps) more
      ∙ drop-append_seam before.pairs (is.pairs ++ pair ∷ []) in
      let f = facts (Refused fault) (not_running pair.request asks)
      (ap (λ (ps : List Pair). take (length ps - 1) ps) all ∙ one_more is.pairs pair) in
      record {
        image = f.image;
        state = f.state;
        taken = f.taken;
        ends = waiting pair.request _ asks f.ending;
        spent = λ e. absurd cc;
        shows = shown pair.request asks;
        used = f.used;
        met = f.met;
        valid = f.valid;
        pairs = more ∙ ap (λ (ps : List Pair). before.pairs ++ ps) (sym all);
        refused = (
          is.pairs,
          pair,
          all,
          asks,
          subst (λ (b : List ℕ). option_map BadSet
              (answer_fault (environment b).types pair.answer) ≡ Some (answer_fault_of fault))
              f.image
              bad,
        );
        nothing = ap (λ (b : Book). b.nothing) same ∙ ap (λ (b : Book). b.nothing) is.noted;
        failed = ap (λ (b : Book). b.failed) same ∙ ap (λ (b : Book). b.failed) is.noted;
      }
  stops HostFailed (q, asks, same) =
      let pairs_noted : new.pairs ≡ before.pairs ++ is.pairs = ap (λ (b : Book). b.pairs) same
      ∙ ap (λ (b : Book). b.pairs) is.noted in
      let all : added before new ≡ is.pairs = same_added pairs_noted in
      let f = facts HostFailed (not_running q asks) all in
      record {
        image = f.image;
        state = f.state;
        taken = f.taken;
        ends = waiting q _ asks f.ending;
        spent = λ e. absurd cc;
        shows = shown q asks;
        used = f.used;
        met = f.met;
        valid = f.valid;
        pairs = pairs_noted ∙ ap (λ (ps : List Pair). before.pairs ++ ps) (sym all);
        refused = tt;
        nothing = ap (λ (b : Book). b.nothing) same ∙ ap (λ (b : Book). b.nothing) is.noted;
        failed = ap (λ (b : Book). b.failed) same ∙ ap (λ (b : Book). counted (b.failed + 1))
            is.noted;
      }
