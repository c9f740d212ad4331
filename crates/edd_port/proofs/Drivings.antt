-- A drive, turn by turn.
use Rattle.std.proofs.Common.{◌≡◌, ℕ, zero, suc, ◌+◌, ◌-◌, List, [], ◌∷◌, ◌++◌, map, None, refl, sym, ap, subst, ◌∙◌, append_assoc, append-nil, zero-add, arith}
use Rattle.edd_syntax.specs.Answers.{Answer, Go, Abort, Change, answer_fault}
use Rattle.edd_syntax.specs.DeviceValues.{VariableType}
use Rattle.edd_instructions.specs.declared.requests.Request.{Request}
use Rattle.edd_instructions.specs.declared.records.Status.{Status}
use Rattle.edd_instructions.specs.declared.records.Status.TheVariants as status
use Rattle.edd_instructions.specs.AbortMethods.{answered_in, execute_in, start_in}
use Rattle.edd_image.specs.Contents.{Contents, contents_in}
use Rattle.edd_instructions.specs.Reading.{environment_of}
use Rattle.edd_instructions.specs.Execution.{Ending, Outcome, answered}
use Rattle.edd_instructions.specs.Steps.{State}
use Rattle.edd_port.specs.Books.{Pair}
use Rattle.edd_port.specs.Drives.{AreMet, AreValid, Executes, Takes, driven, standing}
use Rattle.edd_port.specs.Refusals.{CodeFits}
use Rattle.edd_port.specs.Runs.{Run, environment, advanced, counted, followed}
use Rattle.edd_port.specs.Turns.{turn_of, ending_of}
use Rattle.edd_port.proofs.Asked.{one_stands, follows_standing}
use Rattle.edd_port.proofs.Cuts.{later, met}
use Rattle.edd_port.proofs.Outcomes.{same_outcome, halted, behind_nothing, without_steps, at_rest}

abbrev pub answers_of : List Pair → List Answer
answers_of pairs = map (λ p. p.answer) pairs

abbrev pub requests_of : List Pair → List Request
requests_of pairs = map (λ p. p.request) pairs

-- From the first run, with so many instructions left of these steps, the session got to where it is
-- now, and these pairs were accepted on the way: under their answers and any that follow, the
-- execution results in what results from where it is now.
pub record Driving (first : Run) (steps left : ℕ) (now : Run) (pairs : List Pair) : Type 0 where
  pub done : Outcome
  pub image : now.image ≡ first.image
  pub counts : done.steps + left ≡ steps
  pub taken : now.taken ≡ counted (first.taken + done.steps)
  pub runs : (answers : List Answer) → execute_in (contents_in first.image) steps first.state
      (answers_of pairs ++ answers)
      ≡ followed done (execute_in (contents_in first.image) left now.state answers)
  pub met : standing first.state.status ++ done.requests ≡ requests_of pairs
      ++ standing now.state.status
  pub valid : AreValid (environment first.image).types pairs

pub starts : (first : Run) (steps : ℕ) → first.taken ≡ counted first.taken
    → Driving first steps steps first []
starts first steps small = let none : first.taken ≡ first.taken + 0 = omega arith in record {
  done = halted first.state Ending.OutOfSteps;
  image = refl;
  counts = zero-add steps;
  taken = small ∙ ap counted none;
  runs = λ answers. sym (behind_nothing first.state Ending.OutOfSteps
      (execute_in (contents_in first.image) steps first.state answers));
  met = append-nil (standing first.state.status);
  valid = tt;
}

-- ---- instructions

counted_twice : (a b c : ℕ) → counted (counted (a + b) + c) ≡ counted (a + (b + c))
counted_twice a b c = omega arith

pub followed_twice : (a b c : Outcome) → followed a (followed b c) ≡ followed (followed a b) c
followed_twice a b c = same_outcome (sym (append_assoc a.requests b.requests c.requests))
    (sym (append_assoc a.changes b.changes c.changes)) (omega arith)

-- where instructions were executed, the run goes on under any answers from where it is then
pub cut_here : (b : List ℕ) (left fewer : ℕ) (now next : Run) (to : Executes left now fewer next)
    → now.image ≡ b → (answers : List Answer)
    → execute_in (contents_in b) left now.state answers
    ≡ followed (execute_in (contents_in b) to.budget now.state [])
    (execute_in (contents_in b) fewer next.state answers)
cut_here b left fewer now next to image answers =
    let c : Contents = contents_in b in
    let o : Outcome = execute_in c to.budget now.state [] in
    let same : advanced now to.budget ≡ o =
    ap (λ (x : List ℕ). execute_in (contents_in x) to.budget now.state []) image in
    let there : o.state ≡ next.state = sym (to.state ∙ ap (λ (x : Outcome). x.state) same) in
    let whole : to.budget + (left - to.budget) ≡ left = omega (arith, to.within) in
    let rest : left - o.steps ≡ fewer = omega (arith, to.counts, ap (λ (x : Outcome). x.steps) same)
    in
    subst (λ (n : ℕ). execute_in c n now.state answers
    ≡ followed o (execute_in c (n - o.steps) o.state answers)) whole
    (later c to.budget (left - to.budget) now.state answers)
    ∙ ap (λ (n : ℕ). followed o (execute_in c n o.state answers)) rest
    ∙ ap (λ (s : State). followed o (execute_in c fewer s answers)) there

-- and the request pending before and those made on the way are the one pending now
pub stands_here : (b : List ℕ) (left fewer : ℕ) (now next : Run) (to : Executes left now fewer next)
    → now.image ≡ b
    → standing now.state.status ++ (execute_in (contents_in b) to.budget now.state []).requests
    ≡ standing next.state.status
stands_here b left fewer now next to image =
    let same : advanced now to.budget ≡ execute_in (contents_in b) to.budget now.state [] =
    ap (λ (x : List ℕ). execute_in (contents_in x) to.budget now.state []) image in
    one_stands (contents_in b) to.budget now.state ∙ ap (λ (s : State). standing s.status)
    (sym (to.state ∙ ap (λ (x : Outcome). x.state) same))

pub executed : (first : Run) (steps left fewer : ℕ) (now next : Run) (pairs : List Pair)
    → Driving first steps left now pairs → Executes left now fewer next
    → Driving first steps fewer next pairs
executed first steps left fewer now next pairs is to =
    let c : Contents = contents_in first.image in
    let o : Outcome = execute_in c to.budget now.state [] in
    let count : (advanced now to.budget).steps ≡ o.steps =
    ap (λ (b : List ℕ). (execute_in (contents_in b) to.budget now.state []).steps) is.image in
    record {
      done = followed is.done o;
      image = to.image ∙ is.image;
      counts = omega (arith, is.counts, to.counts, count);
      taken = to.taken ∙ ap (λ (n : ℕ). counted (n + (advanced now to.budget).steps)) is.taken
          ∙ counted_twice first.taken is.done.steps (advanced now to.budget).steps
          ∙ ap (λ (n : ℕ). counted (first.taken + (is.done.steps + n))) count;
      runs = λ answers. is.runs answers ∙ ap (λ (x : Outcome). followed is.done x)
          (cut_here first.image left fewer now next to is.image answers)
          ∙ followed_twice is.done o (execute_in c fewer next.state answers);
      met = sym (append_assoc (standing first.state.status) is.done.requests o.requests)
          ∙ ap (λ (rs : List Request). rs ++ o.requests) is.met
          ∙ append_assoc (requests_of pairs) (standing now.state.status) o.requests
          ∙ ap (λ (rs : List Request). requests_of pairs ++ rs)
          (stands_here first.image left fewer now next to is.image);
      valid = is.valid;
    }

-- ---- answers

map_more : {A B : Type 0} (f : A → B) (xs : List A) (x : A) → map f (xs ++ x ∷ []) ≡ map f xs ++ f x
    ∷ []
map_more f [] x = refl
map_more f (y ∷ xs) x = ap (λ (ys : List _). f y ∷ ys) (map_more f xs x)

one_valid_more : (types : List VariableType) (pairs : List Pair) (pair : Pair)
    → AreValid types pairs → CodeFits pair.answer → answer_fault types pair.answer ≡ None
    → AreValid types (pairs ++ pair ∷ [])
one_valid_more types [] pair all fits none = ((fits, none), tt)
one_valid_more types (p ∷ pairs) pair all fits none =
    (all.0, one_valid_more types pairs pair all.1 fits none)

none_asked : (s : State) (answer : Answer) → standing (answered s answer).state.status ≡ []
none_asked s (Go code sets) = refl
none_asked s Abort = refl

-- after an answer and what follows it no request is pending
pub none_stands : (c : Contents) (s : State) (answer : Answer)
    → standing (answered_in c s answer).state.status ≡ []
none_stands c s answer = follows_standing (start_in c) (answered s answer).state
    ∙ none_asked s answer

pub given : (first : Run) (steps left : ℕ) (now next : Run) (pairs : List Pair) (pair : Pair)
    → Driving first steps left now pairs → Takes now pair next
    → Driving first steps left next (pairs ++ pair ∷ [])
given first steps left now next pairs pair is takes =
    let c : Contents = contents_in first.image in
    let after : State = (answered_in c now.state pair.answer).state in
    let there : after ≡ next.state =
    ap (λ (b : List ℕ). (answered_in (contents_in b) now.state pair.answer).state) (sym is.image)
    ∙ sym (ap (λ (r : Run). r.state) takes.is) in
    let valid : answer_fault (environment_of c).types pair.answer ≡ None =
    subst (λ (b : List ℕ). answer_fault (environment b).types pair.answer ≡ None) is.image
    takes.valid in
    let changes : List Change = (answered_in c now.state pair.answer).changes in
    let in_order : (answers : List Answer) → answers_of (pairs ++ pair ∷ []) ++ answers
    ≡ answers_of pairs ++ (pair.answer ∷ answers) =
    λ answers. ap (λ (xs : List Answer). xs ++ answers) (map_more (λ p. p.answer) pairs pair)
    ∙ append_assoc (answers_of pairs) (pair.answer ∷ []) answers in
    record {
      done = record is.done { changes = is.done.changes ++ changes };
      image = ap (λ (r : Run). r.image) takes.is ∙ is.image;
      counts = is.counts;
      taken = ap (λ (r : Run). r.taken) takes.is ∙ is.taken;
      runs = λ answers. ap (λ (xs : List Answer). execute_in c steps first.state xs)
          (in_order answers)
          ∙ is.runs (pair.answer ∷ answers)
          ∙ ap (λ (x : Outcome). followed is.done x)
          (met c left now.state pair.request pair.answer answers takes.asks valid)
          ∙ same_outcome refl (sym
          (append_assoc is.done.changes changes (execute_in c left after answers).changes)) refl
          ∙ ap (λ (s : State). followed (record is.done { changes = is.done.changes ++ changes })
          (execute_in c left s answers)) there;
      met = is.met
          ∙ ap (λ (st : Status). requests_of pairs ++ standing st) takes.asks
          ∙ sym (map_more (λ p. p.request) pairs pair)
          ∙ sym (append-nil (requests_of (pairs ++ pair ∷ [])))
          ∙ ap (λ (rs : List Request). requests_of (pairs ++ pair ∷ []) ++ rs)
          (sym (none_stands c now.state pair.answer))
          ∙ ap (λ (s : State). requests_of (pairs ++ pair ∷ []) ++ standing s.status) there;
      valid = one_valid_more (environment first.image).types pairs pair is.valid takes.fits valid;
    }

-- ---- the end

-- the execution under the answers of the pairs gets to where the session is
pub record Driven (first : Run) (steps : ℕ) (pairs : List Pair) (now : Run) : Type 0 where
  pub image : now.image ≡ first.image
  pub state : now.state ≡ (driven first steps pairs).state
  pub taken : now.taken ≡ counted (first.taken + (driven first steps pairs).steps)
  pub met : AreMet first.state (driven first steps pairs) (requests_of pairs)
  pub valid : AreValid (environment first.image).types pairs
  pub ending : (driven first steps pairs).ending ≡ ending_of (turn_of now.state.status)
  pub used : (driven first steps pairs).answers ≡ []
  pub spent : now.state.status ≡ status.Running → (driven first steps pairs).steps ≡ steps

pub ends : (first : Run) (steps left : ℕ) (now : Run) (pairs : List Pair)
    → Driving first steps left now pairs → (now.state.status ≡ status.Running → left ≡ 0)
    → Driven first steps pairs now
ends first steps left now pairs is last =
    let c : Contents = contents_in first.image in
    let rest : execute_in c left now.state []
    ≡ halted now.state (ending_of (turn_of now.state.status)) = by_left left last in
    let whole : driven first steps pairs
    ≡ followed is.done (halted now.state (ending_of (turn_of now.state.status))) =
    ap (λ (xs : List Answer). execute_in c steps first.state xs)
    (sym (append-nil (answers_of pairs))) ∙ is.runs []
    ∙ ap (λ (x : Outcome). followed is.done x) rest in
    let steps_there : (driven first steps pairs).steps ≡ is.done.steps + 0 =
    ap (λ (o : Outcome). o.steps) whole in
    let state_there : (driven first steps pairs).state ≡ now.state =
    ap (λ (o : Outcome). o.state) whole in
    let count : is.done.steps ≡ (driven first steps pairs).steps = omega (arith, steps_there) in
    record {
      image = is.image;
      state = sym state_there;
      taken = is.taken ∙ ap (λ (n : ℕ). counted (first.taken + n)) count;
      met = ap (λ (o : Outcome). standing first.state.status ++ o.requests) whole
          ∙ ap (λ (rs : List Request). standing first.state.status ++ rs)
          (append-nil is.done.requests)
          ∙ is.met ∙ ap (λ (s : State). requests_of pairs ++ standing s.status) (sym state_there);
      valid = is.valid;
      ending = ap (λ (o : Outcome). o.ending) whole;
      used = ap (λ (o : Outcome). o.answers) whole;
      spent = λ runs. omega (arith, is.counts, steps_there, last runs);
    }
  where
    by_left : (n : ℕ) → (now.state.status ≡ status.Running → n ≡ 0)
        → execute_in (contents_in first.image) n now.state []
        ≡ halted now.state (ending_of (turn_of now.state.status))
    by_left zero h = without_steps (contents_in first.image) now.state
    by_left (suc n) h = at_rest (contents_in first.image) (suc n) now.state
        (λ e. omega (arith, h e))
