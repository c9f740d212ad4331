-- A play, turn by turn.
use Rattle.std.proofs.Common.{◌≡◌, ◌≢◌, ℕ, suc, ◌+◌, ◌*◌, ◌<◌, ◌≤◌, List, [], ◌∷◌, ◌++◌, length, drop, get_or, drop-cons, add-one, Some, None, refl, sym, ap, ◌∙◌, append_assoc, append-nil, arith}
use Rattle.edd_syntax.specs.Answers.{Answer, Change, SetFault, answer_fault}
use Rattle.edd_instructions.specs.declared.requests.Request.{Request}
use Rattle.edd_instructions.specs.declared.records.Status.{Status}
use Rattle.edd_instructions.specs.declared.records.Status.TheVariants as status
use Rattle.edd_instructions.specs.AbortMethods.{answered_in, execute_in, next, start_in}
use Rattle.edd_image.specs.Contents.{Contents, contents_in}
use Rattle.edd_instructions.specs.Reading.{environment_of}
use Rattle.edd_instructions.proofs.Followed.{is_out, stays as stays_over, still_asks}
use Rattle.edd_instructions.proofs.NextMethods.{next_asks_nothing}
use Rattle.edd_instructions.specs.Execution.{Ending, Bad, Outcome, OutOfSteps, over_at}
use Rattle.edd_instructions.specs.Steps.{State}
use Rattle.edd_port.specs.Drives.{Executes, standing}
use Rattle.edd_port.specs.Plays.{under}
use Rattle.edd_port.specs.Runs.{Run, environment, followed}
use Rattle.edd_port.specs.Turns.{turn_of, ending_of}
use Rattle.edd_port.proofs.Cuts.{met}
use Rattle.edd_port.proofs.Drivings.{cut_here, stands_here, followed_twice, none_stands}
use Rattle.edd_port.proofs.Outcomes.{same_outcome, halted, behind_nothing, at_rest}

-- ---- ends under answers

-- nothing was done, and these answers are left
abbrev halted_with : State → List Answer → Ending → Outcome
halted_with s answers ending = record {
  requests = [];
  changes = [];
  state = s;
  answers = answers;
  ending = ending;
  steps = 0;
}

-- a state that is over stays, whatever answers are left; so does one that runs without steps
stays : (c : Contents) (n : ℕ) (s : State) (answers : List Answer)
    → (s.status ≡ status.Running → n ≡ 0) → ((q : Request) → s.status ≢ status.Asking q)
    → execute_in c n s answers ≡ halted_with s answers (ending_of (turn_of s.status))
stays c n s answers last never = by_status s.status refl
  where
    over : (st : Status) (ending : Ending) → s.status ≡ st → over_at st ≡ Some ending
        → ending ≡ ending_of (turn_of st)
        → execute_in c n s answers ≡ halted_with s answers (ending_of (turn_of s.status))
    over st ending is e same =
        stays_over (next (start_in c)) (next_asks_nothing (start_in c)) (environment_of c) s answers
        ending (ap over_at is ∙ e) n
        ∙ ap (halted_with s answers) (same ∙ sym (ap (λ (t : Status). ending_of (turn_of t)) is))

    by_status : (st : Status) → s.status ≡ st
        → execute_in c n s answers ≡ halted_with s answers (ending_of (turn_of s.status))
    by_status status.Running is =
        ap (λ (m : ℕ). execute_in c m s answers) (last is)
        ∙ is_out (next (start_in c)) (next_asks_nothing (start_in c)) (environment_of c) s answers
        is
        ∙ ap (halted_with s answers) (sym (ap (λ (t : Status). ending_of (turn_of t)) is))
    by_status (status.Asking r) is = absurd (never r is)
    by_status status.Ended is = over status.Ended Ending.Ended is refl refl
    by_status status.Aborted is = over status.Aborted Ending.Aborted is refl refl
    by_status (status.Trapped why) is = over (status.Trapped why) (Ending.Trapped why) is refl refl

-- an answer that can't be taken ends the run with its fault
bad_ends : (c : Contents) (n : ℕ) (s : State) (q : Request) (answer : Answer)
    (rest : List Answer) (fault : SetFault) → s.status ≡ status.Asking q
    → answer_fault (environment_of c).types answer ≡ Some fault
    → (execute_in c n s (answer ∷ rest)).ending ≡ Bad fault
bad_ends c n s q answer rest fault asks bad =
    ap (λ (o : Outcome). o.ending)
    (still_asks (next (start_in c)) (next_asks_nothing (start_in c)) (environment_of c) s q asks
    answer rest fault bad n)

-- ---- turns

-- With so many instructions left of these steps the session got to where it is now, so many answers
-- were taken on the way, and these requests were made, after which the one pending now is the last.
pub record Playing (first : Run) (steps left : ℕ) (now : Run) (all : List Answer) (next : ℕ)
    (requests : List Request) : Type 0 where
  pub done : Outcome
  pub image : now.image ≡ first.image
  pub within : next ≤ length all
  pub runs : under first steps all
      ≡ followed done (execute_in (contents_in first.image) left now.state (drop next all))
  pub made : standing first.state.status ++ done.requests ≡ requests ++ standing now.state.status

pub begins : (first : Run) (steps : ℕ) (all : List Answer)
    → Playing first steps steps first all 0 []
begins first steps all = record {
  done = halted first.state OutOfSteps;
  image = refl;
  within = omega arith;
  runs = sym (behind_nothing first.state OutOfSteps (under first steps all));
  made = append-nil (standing first.state.status);
}

pub executed : (first : Run) (steps left fewer : ℕ) (now after : Run) (all : List Answer) (next : ℕ)
    (requests : List Request)
    → Playing first steps left now all next requests → Executes left now fewer after
    → Playing first steps fewer after all next requests
executed first steps left fewer now after all next requests is to =
    let c : Contents = contents_in first.image in
    let o : Outcome = execute_in c to.budget now.state [] in
    record {
      done = followed is.done o;
      image = to.image ∙ is.image;
      within = is.within;
      runs = is.runs ∙ ap (λ (x : Outcome). followed is.done x)
          (cut_here first.image left fewer now after to is.image (drop next all))
          ∙ followed_twice is.done o (execute_in c fewer after.state (drop next all));
      made = sym (append_assoc (standing first.state.status) is.done.requests o.requests)
          ∙ ap (λ (rs : List Request). rs ++ o.requests) is.made
          ∙ append_assoc requests (standing now.state.status) o.requests
          ∙ ap (λ (rs : List Request). requests ++ rs)
          (stands_here first.image left fewer now after to is.image);
    }

-- the answers from this one on are this one and those after it
pub one_answer : (all : List Answer) (next : ℕ) (answer : Answer) → next < length all
    → answer ≡ get_or all next answer → drop next all ≡ answer ∷ drop (next + 1) all
one_answer all next answer more is =
    drop-cons all next answer more ∙ ap (λ (a : Answer). a ∷ drop (suc next) all) (sym is)
    ∙ ap (λ (n : ℕ). answer ∷ drop n all) (sym (add-one next))

pub answers_one : (first : Run) (steps left : ℕ) (now after : Run) (all : List Answer) (next : ℕ)
    (requests : List Request) (q : Request) (answer : Answer)
    → Playing first steps left now all next requests → now.state.status ≡ status.Asking q
    → next < length all → drop next all ≡ answer ∷ drop (next + 1) all
    → answer_fault (environment first.image).types answer ≡ None → after.image ≡ now.image
    → after.state ≡ (answered_in (contents_in now.image) now.state answer).state
    → Playing first steps left after all (next + 1) (requests ++ q ∷ [])
answers_one first steps left now after all next requests q answer is asks more here valid image
    there =
    let c : Contents = contents_in first.image in
    let rest : List Answer = drop (next + 1) all in
    let there_too : after.state ≡ (answered_in c now.state answer).state = there
    ∙ ap (λ (x : List ℕ). (answered_in (contents_in x) now.state answer).state) is.image in
    let changes : List Change = (answered_in c now.state answer).changes in
    record {
      done = record is.done { changes = is.done.changes ++ changes };
      image = image ∙ is.image;
      within = omega (arith, more);
      runs = is.runs ∙ ap (λ (xs : List Answer). followed is.done (execute_in c left now.state xs))
          here
          ∙ ap (λ (x : Outcome). followed is.done x)
          (met c left now.state q answer rest asks valid)
          ∙ same_outcome refl (sym
          (append_assoc is.done.changes changes
          (execute_in c left (answered_in c now.state answer).state rest).changes)) refl
          ∙ ap (λ (s : State). followed (record is.done { changes = is.done.changes ++ changes })
          (execute_in c left s rest)) (sym there_too);
      made = is.made
          ∙ ap (λ (st : Status). requests ++ standing st) asks
          ∙ sym (append-nil (requests ++ q ∷ []))
          ∙ ap (λ (rs : List Request). (requests ++ q ∷ []) ++ rs)
          (sym (none_stands c now.state answer))
          ∙ ap (λ (s : State). (requests ++ q ∷ []) ++ standing s.status) (sym there_too);
    }

-- ---- ends

-- what the run results in, where these requests were noted
pub record Played (first : Run) (steps : ℕ) (all : List Answer) (now : Run)
    (requests : List Request) : Type 0 where
  pub requests_made : standing first.state.status ++ (under first steps all).requests ≡ requests
  pub state : now.state ≡ (under first steps all).state
  pub ending : (under first steps all).ending ≡ ending_of (turn_of now.state.status)

-- the run waits where no answer is left
pub waits : (first : Run) (steps left : ℕ) (now : Run) (all : List Answer) (next : ℕ)
    (requests : List Request) (q : Request)
    → Playing first steps left now all next requests → now.state.status ≡ status.Asking q
    → drop next all ≡ [] → Played first steps all now (requests ++ q ∷ [])
waits first steps left now all next requests q is asks none =
    let c : Contents = contents_in first.image in
    let rest : execute_in c left now.state (drop next all)
    ≡ halted now.state (ending_of (turn_of now.state.status)) =
    ap (λ (xs : List Answer). execute_in c left now.state xs) none
    ∙ at_rest c left now.state (λ runs. let clash : status.Asking q
    ≡ status.Running = sym asks ∙ runs in absurd cc) in
    let whole : under first steps all
    ≡ followed is.done (halted now.state (ending_of (turn_of now.state.status))) = is.runs
    ∙ ap (λ (x : Outcome). followed is.done x) rest in
    record {
      requests_made = ap (λ (o : Outcome). standing first.state.status ++ o.requests) whole
          ∙ ap (λ (rs : List Request). standing first.state.status ++ rs)
          (append-nil is.done.requests)
          ∙ is.made ∙ ap (λ (st : Status). requests ++ standing st) asks;
      state = sym (ap (λ (o : Outcome). o.state) whole);
      ending = ap (λ (o : Outcome). o.ending) whole;
    }

-- it stops where it is over or has no steps left
pub stops : (first : Run) (steps left : ℕ) (now : Run) (all : List Answer) (next : ℕ)
    (requests : List Request)
    → Playing first steps left now all next requests
    → (now.state.status ≡ status.Running → left ≡ 0) → standing now.state.status ≡ []
    → Played first steps all now requests
stops first steps left now all next requests is last nothing =
    let c : Contents = contents_in first.image in
    let never : (q : Request) → now.state.status ≢ status.Asking q = λ q asks. let clash : q ∷ []
    ≡ [] = sym (ap standing asks) ∙ nothing in absurd cc in
    let rest : execute_in c left now.state (drop next all) ≡ halted_with now.state (drop next all)
    (ending_of (turn_of now.state.status)) = stays c left now.state (drop next all) last
    never in
    let whole : under first steps all
    ≡ followed is.done (halted_with now.state (drop next all)
    (ending_of (turn_of now.state.status))) = is.runs ∙ ap (λ (x : Outcome). followed is.done x)
    rest in
    record {
      requests_made = ap (λ (o : Outcome). standing first.state.status ++ o.requests) whole
          ∙ ap (λ (rs : List Request). standing first.state.status ++ rs)
          (append-nil is.done.requests)
          ∙ is.made ∙ ap (λ (rs : List Request). requests ++ rs) nothing ∙ append-nil requests;
      state = sym (ap (λ (o : Outcome). o.state) whole);
      ending = ap (λ (o : Outcome). o.ending) whole;
    }

-- it is bad where the next answer can't be taken
pub is_bad : (first : Run) (steps left : ℕ) (now : Run) (all : List Answer) (next : ℕ)
    (requests : List Request) (q : Request) (answer : Answer) (fault : SetFault)
    → Playing first steps left now all next requests → now.state.status ≡ status.Asking q
    → drop next all ≡ answer ∷ drop (next + 1) all
    → answer_fault (environment first.image).types answer ≡ Some fault
    → (under first steps all).ending ≡ Bad fault
is_bad first steps left now all next requests q answer fault is asks here bad =
    ap (λ (o : Outcome). o.ending) is.runs
    ∙ ap (λ (xs : List Answer). (execute_in (contents_in first.image) left now.state xs).ending)
    here
    ∙ bad_ends (contents_in first.image) left now.state q answer (drop (next + 1) all) fault asks
    bad

-- an answer that is taken leaves less to do: no request comes after it
pub answer_falls : (left : ℕ) (now after : Run) (q : Request) (answer : Answer)
    → now.state.status ≡ status.Asking q
    → after.state ≡ (answered_in (contents_in now.image) now.state answer).state
    → 2 * left + length (standing after.state.status)
    < 2 * left + length (standing now.state.status)
answer_falls left now after q answer asks there =
    let one : length (standing now.state.status) ≡ 1 = ap (λ (st : Status). length (standing st))
    asks in
    let none : length (standing after.state.status) ≡ 0 =
    ap (λ (s : State). length (standing s.status)) there
    ∙ ap (λ (rs : List Request). length rs)
    (none_stands (contents_in now.image) now.state answer) in
    omega (arith, one, none)
