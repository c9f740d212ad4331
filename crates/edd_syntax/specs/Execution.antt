-- What the statements of a method do, and a whole run.
use Rattle.std.specs.Prelude.{ℕ, zero, suc, true, false, ℤ, pos, List, [], ◌∷◌, replicate, Option, Some, None}
use Rattle.std.specs.Ordering.{int_eq}
use Rattle.edd_syntax.specs.declared.numbers.MethNo.{MethNo}
use Rattle.edd_syntax.specs.declared.numbers.ItemNo.TheVariants as item_no
use Rattle.edd_syntax.specs.declared.answer.Trap.{Trap}
use Rattle.edd_syntax.specs.Reference.{Target}
use Rattle.edd_syntax.specs.Expression.{Expr}
use Rattle.edd_syntax.specs.Statement.{Declarator, Stmt, Empty, Evaluate, Block, If, IfElse, While, Do, For, Switch, Break, Continue, Return, Body, Nil, Cons, Declare, Statement, CaseLabel, DefaultLabel, slots_in}
use Rattle.edd_syntax.specs.Item.{Attribute, Definition, Description}
use Rattle.edd_syntax.specs.TwosComplement.{wrap, is_zero}
use Rattle.edd_syntax.specs.Device.{Environment, environment, item_at}
use Rattle.edd_syntax.specs.MethodState as stops
use Rattle.edd_syntax.specs.MethodState.{State, Request, Stop, Outcome, Done, Stopped, Action, pure, stop, and_then, ◌>>=◌, ◌>>◌, assign}
use Rattle.edd_syntax.specs.Answers.{Change, Answer}
use Rattle.edd_syntax.specs.Evaluation.{evaluate}

-- how a statement that isn't stopped ends
pub data Completion : Type 0 where
  Normal : Completion
  Breaks : Completion
  Continues : Completion
  Returns : Completion

-- goes on with the next statement
abbrev pub next : Action Completion → Completion → Action Completion
next rest Normal = rest
next rest completion = pure completion

-- goes on with what is left of a loop
abbrev pub next_turn : Action Completion → Completion → Action Completion
next_turn more Normal = more
next_turn more Continues = more
next_turn more Breaks = pure Normal
next_turn more Returns = pure Returns

-- ends a `switch`
abbrev pub left : Completion → Action Completion
left Breaks = pure Normal
left completion = pure completion

-- at most n turns that test first and end with the action `last`
unfoldable pub turns : ℕ → (test : Action ℤ) → (body : Action Completion) → (last : Action ℤ)
    → Action Completion
turns zero test body last = stop stops.OutOfTurns
turns (suc n) test body last = do
  a ← test
  elim (is_zero a) [
    | true ↦ pure Normal
    | false ↦ body >>= next_turn (last >> turns n test body last)
  ]

-- at most n turns that test last
unfoldable pub turns_of_do : ℕ → (body : Action Completion) → (test : Action ℤ) → Action Completion
turns_of_do zero body test = stop stops.OutOfTurns
turns_of_do (suc n) body test = body >>= next_turn (do
  a ← test
  elim (is_zero a) [ true ↦ pure Normal | false ↦ turns_of_do n body test ])

module _ (env : Environment) where
  -- a part of `for` that may be missing; a missing test is true
  abbrev pub optional : Option (Expr Target) → Action ℤ
  optional (Some e) = evaluate env e
  optional None = pure (pos 1)

  -- a declaration without a value sets 0
  abbrev pub initial : Option (Expr Target) → Action ℤ
  initial (Some e) = evaluate env e
  initial None = pure (pos 0)

  -- each declarator gets its value, one after the other
  abbrev pub declare : List (Declarator Target) → Action Completion
  declare [] = pure Normal
  declare (d ∷ rest) = do
    value ← initial d.value
    assign env d.place value
    declare rest

  -- the effect of a statement in which each entry of a loop has n turns
  unfoldable mutual
    pub execute : Stmt Target → ℕ → Action Completion
    execute Empty n = pure Normal
    execute (Evaluate e) n = evaluate env e >> pure Normal
    execute (Block body) n = execute_all body n
    execute (If condition first) n = do
      a ← evaluate env condition
      elim (is_zero a) [ true ↦ pure Normal | false ↦ execute first n ]
    execute (IfElse condition first otherwise) n = do
      a ← evaluate env condition
      elim (is_zero a) [ true ↦ execute otherwise n | false ↦ execute first n ]
    execute (While condition body) n = turns n (evaluate env condition) (execute body n)
        (pure (pos 0))
    execute (Do body condition) n = turns_of_do n (execute body n) (evaluate env condition)
    execute (For initial condition update body) n = do
      optional initial
      turns n (optional condition) (execute body n) (optional update)
    execute (Switch on body) n = do
      a ← evaluate env on
      execute_case a body n (execute_default body n) >>= left
    execute Break n = pure Breaks
    execute Continue n = pure Continues
    execute Return n = pure Returns

    -- labels have no effect where a run comes to them
    pub execute_all : Body Target → ℕ → Action Completion
    execute_all Nil n = pure Normal
    execute_all (Cons (Declare declarators) rest) n = declare declarators
        >>= next (execute_all rest n)
    execute_all (Cons (Statement s) rest) n = execute s n >>= next (execute_all rest n)
    execute_all (Cons (CaseLabel label) rest) n = execute_all rest n
    execute_all (Cons DefaultLabel rest) n = execute_all rest n

    -- from the first `case` whose label, as 32 bits, equals the value
    pub execute_case : ℤ → Body Target → ℕ → (otherwise : Action Completion) → Action Completion
    execute_case value Nil n otherwise = otherwise
    execute_case value (Cons (CaseLabel label) rest) n otherwise =
        elim (int_eq value (wrap 32 label)) [
          | true ↦ execute_all rest n
          | false ↦ execute_case value rest n otherwise
        ]
    execute_case value (Cons _ rest) n otherwise = execute_case value rest n otherwise

    -- from `default`
    pub execute_default : Body Target → ℕ → Action Completion
    execute_default Nil n = pure Normal
    execute_default (Cons (Declare declarators) rest) n = execute_default rest n
    execute_default (Cons (Statement s) rest) n = execute_default rest n
    execute_default (Cons (CaseLabel label) rest) n = execute_default rest n
    execute_default (Cons DefaultLabel rest) n = execute_all rest n

-- ---- runs

-- how a run ends; out of turns is a run that goes on
pub data Ending : Type 0 where
  Ended : Ending
  Aborted : Ending
  Trapped : Trap → Ending
  Waiting : Ending
  OutOfTurns : Ending

-- what a run asked and changed, what it left, and how it ended
pub record Transcript : Type 0 where
  pub requests : List Request
  pub changes : List Change
  pub values : List ℤ
  -- the abort methods that are listed, or that are left
  pub abort_methods : List MethNo
  pub answers : List Answer
  pub ending : Ending

-- the transcript of a run that has this ending in this state
abbrev pub transcript : Ending → State → Transcript
transcript ending s = record {
  requests = s.requests;
  changes = s.changes;
  values = s.values;
  abort_methods = s.abort_methods;
  answers = s.answers;
  ending = ending;
}

-- the ending of a run that stopped
abbrev pub ending_of : Stop → Ending
ending_of (stops.Trapped why) = Trapped why
ending_of stops.Aborted = Aborted
ending_of stops.Waiting = Waiting
ending_of stops.OutOfTurns = OutOfTurns

-- the transcript of a run that came to its end or stopped
abbrev pub ended : Outcome Completion → Transcript
ended (Done completion s) = transcript Ended s
ended (Stopped why s) = transcript (ending_of why) s

-- the state in which a method starts: all slots 0, and no abort methods
abbrev pub opening : (slots : ℕ) → List ℤ → List Answer → State
opening slots values answers = record {
  slots = replicate slots (pos 0);
  values = values;
  abort_methods = [];
  is_aborting = false;
  requests = [];
  changes = [];
  answers = answers;
}

-- the run of a body from a state, in which each entry of a loop has n turns
unfoldable pub run_body : ℕ → Environment → Body Target → State → Transcript
run_body n env body s = ended (execute_all env body n s)

-- the written body of a method
abbrev pub body_in : List (Attribute Target) → Body Target
body_in [] = Nil
body_in (Definition body ∷ rest) = body
body_in (_ ∷ rest) = body_in rest

-- the body of a method by its number; without such a method it is empty
abbrev pub body_of : Description Target → MethNo → Body Target
body_of unit m = elim (item_at unit (item_no.Method m)) [
  | Some i ↦ body_in i.attributes
  | None ↦ Nil
]

-- ---- abort methods

-- the state in which an abort method starts: all slots 0, and those after it left
abbrev pub aborting : (slots : ℕ) → (rest : List MethNo) → State → State
aborting slots rest s =
    record s { slots = replicate slots (pos 0); abort_methods = rest; is_aborting = true }

-- Abort methods run one after the other, `return` and the end of one going on with the next; after
-- the last the run is aborted. An abort inside one ends the run at once, as a trap does.
unfoldable pub run_listed : ℕ → Description Target → List MethNo → Action Completion
run_listed n unit [] = stop stops.Aborted
run_listed n unit (m ∷ rest) = λ s.
    let body = body_of unit m in
    and_then (execute_all (environment unit) body n (aborting (slots_in body) rest s))
    (λ completion. run_listed n unit rest)

-- what a method's body results in, after an abort with its abort methods
abbrev pub after_body : ℕ → Description Target → Outcome Completion → Outcome Completion
after_body n unit (Done completion s) = Done completion s
after_body n unit (Stopped (stops.Trapped why) s) = Stopped (stops.Trapped why) s
after_body n unit (Stopped stops.Aborted s) = run_listed n unit s.abort_methods s
after_body n unit (Stopped stops.Waiting s) = Stopped stops.Waiting s
after_body n unit (Stopped stops.OutOfTurns s) = Stopped stops.OutOfTurns s

-- the run of a method under these device values and answers, with its abort methods
unfoldable pub run : ℕ → Description Target → MethNo → List ℤ → List Answer → Transcript
run n unit m values answers =
    let body = body_of unit m in
    ended (after_body n unit (execute_all (environment unit) body n
    (opening (slots_in body) values answers)))
