-- What the code of statements does, by the actions of the source.
use Rattle.std.specs.Prelude.{◌≡◌, ℕ, zero, suc, true, false, ℤ, pos, List, [], ◌∷◌, Option}
use Rattle.std.specs.Ordering.{int_eq}
use Rattle.edd_syntax.specs.declared.numbers.StrNo.{StrNo}
use Rattle.edd_syntax.specs.TwosComplement.{is_zero}
use Rattle.edd_syntax.specs.Words.{Words}
use Rattle.edd_syntax.specs.MethodState as source
use Rattle.edd_syntax.specs.MethodState.{State, Done, Stopped, Action, pure, stop, ◌>>=◌, ◌>>◌}
use Rattle.edd_syntax.specs.Execution.{Completion, Normal, Breaks, Continues, Returns, next, next_turn, left}
use Rattle.edd_instructions.specs.Steps.{Environment}
use Rattle.edd_code.specs.Blocks.{Block}
use Rattle.edd_code.specs.BlockEffects.{Outcome, Goes, Stops, Stuck}
use Rattle.edd_code.specs.MethodEffects.{Halted, stops, does}
use Rattle.edd_methods.specs.Statements.{Part, Missing, Step, Test, Code, Plain, Then, Guard, Branch, Loop, Switch, Break, Continue, Finish, Arms, Nil, Statement, Case, Default}

-- ---- blocks as actions

-- the value is dropped
abbrev pub dropped : {A : Type 0} → List ℤ → source.Outcome A → Outcome State Halted
dropped operands (Done x s) = Goes operands s
dropped operands (Stopped why s) = stops why s

-- the one operand; other outcomes, which no whole code has, are 0
abbrev pub one_operand : State → Outcome State Halted → source.Outcome ℤ
one_operand s (Goes [] t) = Done (pos 0) s
one_operand s (Goes (a ∷ []) t) = Done a t
one_operand s (Goes (a ∷ b ∷ below) t) = Done (pos 0) s
one_operand s (Stops x) = Stopped x.why x.state
one_operand s Stuck = Done (pos 0) s

-- no operand, which is 1; other outcomes, which no whole code has, are 0
abbrev pub no_operand : State → Outcome State Halted → source.Outcome ℤ
no_operand s (Goes [] t) = Done (pos 1) t
no_operand s (Goes (a ∷ below) t) = Done (pos 0) s
no_operand s (Stops x) = Stopped x.why x.state
no_operand s Stuck = Done (pos 0) s

-- one operand is left, or there is a stop
abbrev pub OneOperand : Outcome State Halted → Type 0
OneOperand (Goes [] t) = ⊥
OneOperand (Goes (a ∷ []) t) = Unit {0}
OneOperand (Goes (a ∷ b ∷ below) t) = ⊥
OneOperand (Stops x) = Unit {0}
OneOperand Stuck = ⊥

-- no operand is left, or there is a stop
abbrev pub NoOperand : Outcome State Halted → Type 0
NoOperand (Goes [] t) = Unit {0}
NoOperand (Goes (a ∷ below) t) = ⊥
NoOperand (Stops x) = Unit {0}
NoOperand Stuck = ⊥

-- where the number is 0, nothing more; else the rest
abbrev pub unless_zero : Action Completion → ℤ → Action Completion
unless_zero rest a = elim (is_zero a) [ true ↦ pure Normal | false ↦ rest ]

-- the action, after which a loop goes on
abbrev pub always : Action ℤ → Action ℤ
always last = last >> pure (pos 1)

-- they do the same from every state
abbrev pub Same : {A : Type 0} → Action A → Action A → Type 0
Same f g = (s : State) → f s ≡ g s

-- at most n turns of a loop
unfoldable pub loop_turns : ℕ → (front : Action ℤ) → (body : Action Completion) → (back : Action ℤ)
    → Action Completion
loop_turns zero front body back = stop source.OutOfTurns
loop_turns (suc n) front body back = front
    >>= unless_zero (body >>= next_turn (back >>= unless_zero (loop_turns n front body back)))

module _ (text : StrNo → Option Words) (env : Environment) where
  -- the value of a block that leaves one operand
  abbrev pub value_of : Block → Action ℤ
  value_of b = λ s. one_operand s (does text env b [] s)

  -- the action of a block that leaves no operand
  abbrev pub step_of : Block → Action ℤ
  step_of b = λ s. no_operand s (does text env b [] s)

  -- a loop goes on after a part that is missing or leaves no operand
  abbrev pub part_of : Part → Action ℤ
  part_of Missing = pure (pos 1)
  part_of (Step b) = step_of b
  part_of (Test b) = value_of b

  -- the effect of code in which each entry of a loop has n turns
  unfoldable mutual
    pub performs : Code → ℕ → Action Completion
    performs (Plain b) n = step_of b >> pure Normal
    performs (Then first second) n = performs first n >>= next (performs second n)
    performs (Guard test first) n = value_of test >>= unless_zero (performs first n)
    performs (Branch test first otherwise) n = value_of test
        >>= (λ a. elim (is_zero a) [ true ↦ performs otherwise n | false ↦ performs first n ])
    performs (Loop front back body) n = loop_turns n (part_of front) (performs body n)
        (part_of back)
    performs (Switch on arms) n = value_of on
        >>= (λ a. performs_case a arms n (performs_default arms n) >>= left)
    performs Break n = pure Breaks
    performs Continue n = pure Continues
    performs Finish n = pure Returns

    -- labels have no effect where a run reaches them
    pub performs_all : Arms → ℕ → Action Completion
    performs_all Nil n = pure Normal
    performs_all (Statement first rest) n = performs first n >>= next (performs_all rest n)
    performs_all (Case label rest) n = performs_all rest n
    performs_all (Default rest) n = performs_all rest n

    -- from the first label that equals the value
    pub performs_case : ℤ → Arms → ℕ → (otherwise : Action Completion) → Action Completion
    performs_case value Nil n otherwise = otherwise
    performs_case value (Statement first rest) n otherwise = performs_case value rest n otherwise
    performs_case value (Case label rest) n otherwise =
        elim (int_eq value label) [
          | true ↦ performs_all rest n
          | false ↦ performs_case value rest n otherwise
        ]
    performs_case value (Default rest) n otherwise = performs_case value rest n otherwise

    -- from the default
    pub performs_default : Arms → ℕ → Action Completion
    performs_default Nil n = pure Normal
    performs_default (Statement first rest) n = performs_default rest n
    performs_default (Case label rest) n = performs_default rest n
    performs_default (Default rest) n = performs_all rest n

  -- ---- whole code: from every state a test leaves one operand and any other block none, or they
  -- stop

  -- from every state the block leaves one operand or stops
  abbrev pub LeavesOne : Block → Type 0
  LeavesOne b = (s : State) → OneOperand (does text env b [] s)

  -- from every state the block leaves no operand or stops
  abbrev pub LeavesNone : Block → Type 0
  LeavesNone b = (s : State) → NoOperand (does text env b [] s)

  -- a part of a loop
  abbrev pub IsWholePart : Part → Type 0
  IsWholePart Missing = Unit {0}
  IsWholePart (Step b) = LeavesNone b
  IsWholePart (Test b) = LeavesOne b

  -- code, and the statements of a switch
  abbrev mutual
    pub IsWhole : Code → Type 0
    IsWhole (Plain b) = LeavesNone b
    IsWhole (Then first second) = IsWhole first × IsWhole second
    IsWhole (Guard test first) = LeavesOne test × IsWhole first
    IsWhole (Branch test first otherwise) = LeavesOne test × IsWhole first × IsWhole otherwise
    IsWhole (Loop front back body) = IsWholePart front × IsWholePart back × IsWhole body
    IsWhole (Switch on arms) = LeavesOne on × AreWhole arms
    IsWhole Break = Unit {0}
    IsWhole Continue = Unit {0}
    IsWhole Finish = Unit {0}

    -- the statements of a switch
    pub AreWhole : Arms → Type 0
    AreWhole Nil = Unit {0}
    AreWhole (Statement first rest) = IsWhole first × AreWhole rest
    AreWhole (Case label rest) = AreWhole rest
    AreWhole (Default rest) = AreWhole rest
