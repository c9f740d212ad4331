-- Who answered a method that is run with a device, turn by turn.
use Rattle.std.proofs.Common.{◌≡◌, ℕ, ◌-◌, List, [], ◌∷◌, ◌++◌, refl, sym, ap, subst, ◌∙◌, append_assoc, append-nil, arith}
use Rattle.edd_syntax.specs.Answers.{Answer}
use Rattle.edd_image.specs.Contents.{Contents, contents_in}
use Rattle.edd_instructions.specs.declared.requests.Request.{Request}
use Rattle.edd_instructions.specs.declared.records.Status.{Status}
use Rattle.edd_instructions.specs.declared.records.Status.TheVariants as status
use Rattle.edd_instructions.specs.AbortMethods.{answered_in, execute_in}
use Rattle.edd_instructions.specs.Execution.{Outcome}
use Rattle.edd_instructions.specs.Steps.{State}
use Rattle.edd_port.specs.declared.playing.Ending as shown_ending
use Rattle.edd_port.specs.declared.playing.Ending.TheVariants as endings
use Rattle.edd_port.specs.Books.{Pair}
use Rattle.edd_port.specs.Drives.{Executes, Takes, standing}
use Rattle.edd_port.specs.Plays.{ending_shown}
use Rattle.edd_port.specs.Runs.{Run, advanced, followed}
use Rattle.edd_port.specs.Turns.{turn_of, ending_of}
use Rattle.edd_port.proofs.Drivings.{answers_of, requests_of, cut_here, ends}
use Rattle.edd_port.proofs.Outcomes.{at_rest}
use Rattle.edd_device.specs.Trials.{AreGiven, IsAnswered, LeadsTo, Others}
use Rattle.edd_device.proofs.Trialling.{Going, begins, goes, meets, map_more}

-- this answer is given to a run that stands here, with so many steps left, and then these
abbrev Next : (b : List ℕ) → Others → (left : ℕ) → State → Answer → List Answer → Others → Type 0
Next b s left now a rest t = (r : Request) × (now.status ≡ status.Asking r) × (u : Others)
    × IsAnswered s now.values r a u
    × AreGiven b u left (answered_in (contents_in b) now a).state rest t

-- what is given after some instructions is given before them
earlier : (b : List ℕ) (s t : Others) (left fewer : ℕ) (now after : Run)
    → Executes left now fewer after → now.image ≡ b → (more : List Answer)
    → AreGiven b s fewer after.state more t → AreGiven b s left now.state more t
earlier b s t left fewer now after to image [] h = h
earlier b s t left fewer now after to image (a ∷ rest) h =
    let c : Contents = contents_in b in
    let o : Outcome = execute_in c left now.state [] in
    let x : Outcome = execute_in c to.budget now.state [] in
    let y : Outcome = execute_in c fewer after.state [] in
    let whole : o ≡ followed x y = cut_here b left fewer now after to image [] in
    let same : advanced now to.budget ≡ x =
    ap (λ (bytes : List ℕ). execute_in (contents_in bytes) to.budget now.state []) image in
    let stands : y.state ≡ o.state = sym (ap (λ (z : Outcome). z.state) whole) in
    let count : fewer - y.steps ≡ left - o.steps = omega (
      arith,
      to.counts,
      ap (λ (z : Outcome). z.steps) same,
      ap (λ (z : Outcome). z.steps) whole,
    ) in
    subst (λ (n : ℕ). Next b s n o.state a rest t) count
    (subst (λ (st : State). Next b s (fewer - y.steps) st a rest t) stands h)

-- an answer to a pending request comes before those that are given after it
sooner : (b : List ℕ) (s u t : Others) (left : ℕ) (now after : Run) (q : Request) (a : Answer)
    → now.image ≡ b → now.state.status ≡ status.Asking q
    → Takes now (record { request = q; answer = a }) after
    → IsAnswered s now.state.values q a u → (more : List Answer)
    → AreGiven b u left after.state more t → AreGiven b s left now.state (a ∷ more) t
sooner b s u t left now after q a image asks takes answered more h =
    let c : Contents = contents_in b in
    let o : Outcome = execute_in c left now.state [] in
    let rests = at_rest c left now.state (λ runs. let clash : status.Asking q
    ≡ status.Running = sym asks ∙ runs in absurd cc) in
    let there : after.state ≡ (answered_in c now.state a).state =
    ap (λ (r : Run). r.state) takes.is
    ∙ ap (λ (bytes : List ℕ). (answered_in (contents_in bytes) now.state a).state) image in
    let here : Next b s left now.state a more t = (
      q,
      asks,
      u,
      answered,
      subst (λ (st : State). AreGiven b u left st more t) there h,
    ) in
    let stands : now.state ≡ o.state = sym (ap (λ (z : Outcome). z.state) rests) in
    let count : left ≡ left - o.steps = omega (arith, ap (λ (z : Outcome). z.steps) rests) in
    subst (λ (n : ℕ). Next b s n o.state a more t) count
    (subst (λ (st : State). Next b s left st a more t) stands here)

-- ---- turns

-- The run got to where it is now, and these answered it: what is given from now on is given from
-- the start after the answers so far.
pub record Talking (first : Run) (s : Others) (steps left : ℕ) (now : Run) (n : Others)
    (requests : List Request) : Type 0 where
  pub going : Going first steps left now requests
  pub talk : (more : List Answer) (t : Others) → AreGiven first.image n left now.state more t
      → AreGiven first.image s steps first.state (answers_of going.pairs ++ more) t

pub starts_to_talk : (first : Run) (s : Others) (steps : ℕ) → first.taken ≡ 0
    → Talking first s steps steps first s []
unfolding begins
starts_to_talk first s steps none = record {
  going = begins first steps none;
  talk = λ more t h. h;
}

pub goes_on : (first : Run) (s : Others) (steps left fewer : ℕ) (now after : Run) (n : Others)
    (requests : List Request) → Talking first s steps left now n requests
    → Executes left now fewer after → Talking first s steps fewer after n requests
unfolding goes
goes_on first s steps left fewer now after n requests is to = record {
  going = goes first steps left fewer now after requests is.going to;
  talk = λ more t h. is.talk more t
      (earlier first.image n t left fewer now after to is.going.driving.image more h);
}

pub meets_one : (first : Run) (s : Others) (steps left : ℕ) (now after : Run) (n u : Others)
    (requests : List Request) (q : Request) (a : Answer)
    → Talking first s steps left now n requests → now.state.status ≡ status.Asking q
    → Takes now (record { request = q; answer = a }) after
    → IsAnswered n now.state.values q a u
    → Talking first s steps left after u (requests ++ q ∷ [])
unfolding meets
meets_one first s steps left now after n u requests q a is asks takes answered =
    let pair : Pair = record { request = q; answer = a } in
    let in_order : (more : List Answer) → answers_of (is.going.pairs ++ pair ∷ []) ++ more
    ≡ answers_of is.going.pairs ++ (a ∷ more) =
    λ more. ap (λ (xs : List Answer). xs ++ more)
    (map_more (λ (p : Pair). p.answer) is.going.pairs pair)
    ∙ append_assoc (answers_of is.going.pairs) (a ∷ []) more in
    record {
      going = meets first steps left now after requests q is.going asks pair takes;
      talk = λ more t h. subst (λ (xs : List Answer). AreGiven first.image s steps first.state xs
          t) (sym (in_order more)) (is.talk (a ∷ more) t
          (sooner first.image n u t left now after q a is.going.driving.image asks takes answered
          more h));
    }

-- ---- ends

said : (first : Run) (s : Others) (steps left : ℕ) (now : Run) (n : Others)
    (requests : List Request) (is : Talking first s steps left now n requests)
    → AreGiven first.image s steps first.state (answers_of is.going.pairs) n
said first s steps left now n requests is =
    subst (λ (xs : List Answer). AreGiven first.image s steps first.state xs n)
    (append-nil (answers_of is.going.pairs)) (is.talk [] n refl)

-- the run waits where the user has no answer
pub waits : (first : Run) (s : Others) (steps left : ℕ) (now : Run) (n : Others)
    (requests : List Request) (q : Request) → Talking first s steps left now n requests
    → now.state.status ≡ status.Asking q
    → LeadsTo first steps s now n (requests ++ q ∷ []) endings.Waiting
waits first s steps left now n requests q is asks =
    let d = ends first steps left now is.going.pairs is.going.driving
    (λ runs. let clash : status.Asking q ≡ status.Running = sym asks ∙ runs in absurd cc) in
    record {
      given = answers_of is.going.pairs;
      talk = said first s steps left now n requests is;
      made = d.met
          ∙ ap (λ (st : State). requests_of is.going.pairs ++ standing st.status) (sym d.state)
          ∙ ap (λ (st : Status). requests_of is.going.pairs ++ standing st) asks
          ∙ ap (λ (rs : List Request). rs ++ q ∷ []) (sym is.going.noted);
      state = d.state;
      ends = d.ending ∙ ap (λ (st : Status). ending_of (turn_of st)) asks;
    }

-- it stops where it is over or has no steps left
pub stops : (first : Run) (s : Others) (steps left : ℕ) (now : Run) (n : Others)
    (requests : List Request) (ending : shown_ending.Ending)
    → Talking first s steps left now n requests
    → (now.state.status ≡ status.Running → left ≡ 0) → standing now.state.status ≡ []
    → ending_of (turn_of now.state.status) ≡ ending_shown ending
    → LeadsTo first steps s now n requests ending
stops first s steps left now n requests ending is last nothing shows =
    let d = ends first steps left now is.going.pairs is.going.driving last in
    record {
      given = answers_of is.going.pairs;
      talk = said first s steps left now n requests is;
      made = d.met
          ∙ ap (λ (st : State). requests_of is.going.pairs ++ standing st.status) (sym d.state)
          ∙ ap (λ (rs : List Request). requests_of is.going.pairs ++ rs) nothing
          ∙ append-nil (requests_of is.going.pairs)
          ∙ sym is.going.noted;
      state = d.state;
      ends = d.ending ∙ shows;
    }
