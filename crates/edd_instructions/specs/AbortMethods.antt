-- What follows an abort in a run of an image: its abort methods.
use Rattle.std.specs.Prelude.{ℕ, Bool, true, false, pos, List, [], ◌∷◌, replicate, Option, Some, None, option_map}
use Rattle.edd_syntax.specs.declared.numbers.MethNo.{MethNo}
use Rattle.edd_syntax.specs.Answers.{Answer}
use Rattle.edd_instructions.specs.declared.records.Status.{Status}
use Rattle.edd_instructions.specs.declared.records.Status.TheVariants.{Running, Asking, Ended, Aborted, Trapped}
use Rattle.edd_image.specs.Contents.{AttributeFields, Contents, part}
use Rattle.edd_instructions.specs.Validity.{sort_of, slots_of}
use Rattle.edd_instructions.specs.Reading.{environment_of, body_of}
use Rattle.edd_instructions.specs.Steps.{RunningUnit, State, Effect, step}
use Rattle.edd_instructions.specs.Execution.{Outcome, answered, execute_following}

-- the code of a method, and how many slots it has
pub record Start : Type 0 where
  pub unit : RunningUnit
  pub slots : ℕ

-- the state in which an abort method starts: at its first byte, with no operands, slots of 0, and
-- the methods after it left
abbrev pub aborting : Start → (rest : List MethNo) → State → State
aborting start rest s = record {
  unit = start.unit;
  place = 0;
  operands = [];
  slots = replicate start.slots (pos 0);
  values = s.values;
  status = Running;
  abort_methods = rest;
  is_aborting = true;
}

-- `start_of` says where the code of a method is
module _ (start_of : MethNo → Option Start) where
  -- The first method of the list starts; after the last the run is aborted. One without a body,
  -- which a valid image never lists, is passed over.
  abbrev pub start_listed : List MethNo → State → State
  start_listed [] s = record s { status = Aborted; abort_methods = [] }
  start_listed (m ∷ rest) s = elim (start_of m) [
    | Some start ↦ aborting start rest s
    | None ↦ start_listed rest s
  ]

  -- the abort of a run that isn't aborting yet, and the end of an abort method, go on with the list
  abbrev pub next_at : Status → (is_aborting : Bool) → State → State
  next_at Running is_aborting s = s
  next_at (Asking r) is_aborting s = s
  next_at Ended true s = start_listed s.abort_methods s
  next_at Ended false s = s
  next_at Aborted true s = s
  next_at Aborted false s = start_listed s.abort_methods s
  next_at (Trapped why) is_aborting s = s

  -- the state from which a run goes on after a step or an answer that resulted in s
  abbrev pub next : State → State
  next s = next_at s.status s.is_aborting s

-- the code of a row
abbrev pub start_at : Contents → AttributeFields → Start
start_at c r = record {
  unit = record { sort = sort_of r; code = part r.span c.code };
  slots = slots_of r;
}

-- the code of a method in an image
abbrev pub start_in : Contents → MethNo → Option Start
start_in c m = option_map (start_at c) (body_of c m)

-- what a step or an answer results in, with what follows
abbrev pub follow_with : (follow : State → State) → Effect → Effect
follow_with follow e = record e { state = follow e.state }

-- the step of a state in an image, if it has one, with what follows
abbrev pub step_in : Contents → State → Option Effect
step_in c s = option_map (follow_with (next (start_in c))) (step (environment_of c) s)

-- the event of an answer in an image, with what follows
abbrev pub answered_in : Contents → State → Answer → Effect
answered_in c s answer = follow_with (next (start_in c)) (answered s answer)

-- A run of an image, in which abort methods follow: going on with one is no step.
abbrev pub execute_in : Contents → (n : ℕ) → State → List Answer → Outcome
execute_in c n s answers = execute_following (next (start_in c)) (environment_of c) n s answers
