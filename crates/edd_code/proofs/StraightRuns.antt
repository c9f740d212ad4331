-- A straight instruction does the same wherever it is.
use Rattle.std.proofs.Common.{◌≡◌, refl, ap, ℕ, zero, suc, ℤ, pos, negsuc, List, [], ◌∷◌, ◌++◌, Option, Some, None, Result, Ok, Err, arith}
use Rattle.edd_syntax.specs.declared.numbers.MethNo.{MethNo}
use Rattle.edd_syntax.specs.declared.numbers.StrNo.{StrNo}
use Rattle.edd_syntax.specs.declared.answer.Trap.{Trap}
use Rattle.edd_syntax.specs.AbortMethods.{listed}
use Rattle.edd_syntax.specs.TwosComplement.{operate}
use Rattle.edd_syntax.specs.Words.{Words}
use Rattle.edd_syntax.specs.Answers.{Change}
use Rattle.edd_syntax.specs.MethodState as source
use Rattle.edd_syntax.specs.MethodState.{State}
use Rattle.edd_instructions.specs.declared.requests.Request.{Request}
use Rattle.edd_instructions.specs.declared.records.Record.{Record}
use Rattle.edd_instructions.specs.declared.records.Emitted.TheVariants as emitted
use Rattle.edd_syntax.specs.Builtins.{numbers_taken}
use Rattle.edd_instructions.specs.declared.instruction.Instruction.{Instruction}
use Rattle.edd_instructions.specs.declared.instruction.Instruction.TheVariants as instruction
use Rattle.edd_instructions.specs.Decoding.{instruction_at}
use Rattle.edd_instructions.specs.Steps.{Environment, Effect, act, ask_with, go, give, ask_for, push_or_trap}
use Rattle.edd_syntax.specs.Elements.{element_value}
use Rattle.edd_code.specs.BlockEffects.{Goes}
use Rattle.edd_code.specs.Reports.{at, worded}
use Rattle.edd_code.specs.MethodEffects.{when_known, outcome_of, does_one, CanBeTaken, Comes}
use Rattle.edd_code.proofs.MethodSteps.{Leads, quiet_leads, list_leads, record_leads, change_leads, trap_reports, abort_reports, ask_comes}

module _ (text : StrNo → Option Words) (env : Environment) (code : List ℕ) (p next : ℕ) (s : State)
    (valid : CanBeTaken env s.answers) where
  leads_comes : (operands left : List ℤ) (t : State) → CanBeTaken env t.answers
      → Leads text env code p next operands left s t
      → Comes text env code p next operands s (Goes left t)
  leads_comes operands left t taken leads = (taken, λ k. (suc k, omega arith, leads k))

  module _ (i : Instruction) (stands : instruction_at code p ≡ Some (i, next)) where
    goes : (operands left slots : List ℤ) → act env i next (at code p operands s)
        ≡ go (at code p operands (record s { slots = slots })) next left
        → Comes text env code p next operands s (Goes left (record s { slots = slots }))
    goes operands left slots acts =
        leads_comes operands left (record s { slots = slots }) valid
        (quiet_leads text env code p next operands left s slots
        (record { instruction = i; next = next; stands = stands; acts = acts }))

    lists : (operands left : List ℤ) (methods : List MethNo)
        → act env i next (at code p operands s)
        ≡ go (at code p operands (record s { abort_methods = methods })) next left
        → Comes text env code p next operands s (Goes left (record s { abort_methods = methods }))
    lists operands left methods acts =
        leads_comes operands left (record s { abort_methods = methods }) valid
        (list_leads text env code p next operands left s methods
        (record { instruction = i; next = next; stands = stands; acts = acts }))

    gives : (operands left : List ℤ) (r : Record) → act env i next (at code p operands s)
        ≡ give (at code p operands s) next left r
        → Comes text env code p next operands s (Goes left s)
    gives operands left r acts =
        leads_comes operands left s valid
        (record_leads text env code p next operands left s (emitted.Record r) refl
        (record { instruction = i; next = next; stands = stands; acts = acts }))

    stores : (operands left values : List ℤ) (c : Change)
        → act env i next (at code p operands s)
        ≡ Some (record {
          state = at code next left (record s { values = values });
          emitted = emitted.Nothing;
          changes = c ∷ [];
        })
        → Comes text env code p next operands s
        (Goes left (record s { values = values; changes = s.changes ++ c ∷ [] }))
    stores operands left values c acts =
        leads_comes operands left (record s { values = values; changes = s.changes ++ c ∷ [] })
        valid
        (change_leads text env code p next operands left s c values
        (record { instruction = i; next = next; stands = stands; acts = acts }))

    pushes : (operands left : List ℤ) (z : Result ℤ Trap) → act env i next (at code p operands s)
        ≡ push_or_trap (at code p operands s) next left z
        → Comes text env code p next operands s
        (outcome_of text env s (push_or_trap (at [] 0 operands s) 0 left z))
    pushes operands left (Ok z) acts = goes operands (z ∷ left) s.slots acts
    pushes operands left (Err why) acts = λ k. (
      suc k,
      omega arith,
      trap_reports text env code p operands left s why
          (record { instruction = i; next = next; stands = stands; acts = acts }) k,
    )

    asks : (operands left : List ℤ) (r : Request) → act env i next (at code p operands s)
        ≡ ask_for (at code p operands s) next left r
        → Comes text env code p next operands s (when_known left s (worded text r))
    asks operands left r acts = by_request (worded text r) refl
      where
        by_request : (o : Option source.Request) → worded text r ≡ o
            → Comes text env code p next operands s (when_known left s o)
        by_request None is = tt
        by_request (Some said) is =
            ask_comes text env code p next operands left r said is s s.answers refl valid
            (record { instruction = i; next = next; stands = stands; acts = acts })

  pub straight_comes : (i : Instruction) (operands : List ℤ) → instruction_at code p
      ≡ Some (i, next) → Comes text env code p next operands s (does_one text env i operands s)
  unfolding act
  straight_comes instruction.End operands h = tt
  straight_comes (instruction.Push n) operands h = goes (instruction.Push n) h operands _ s.slots
      refl
  straight_comes (instruction.Variable v) operands h = goes (instruction.Variable v) h operands _
      s.slots refl
  straight_comes (instruction.Store v) [] h = tt
  straight_comes (instruction.Store v) (a ∷ below) h = stores (instruction.Store v) h (a ∷ below) _
      _ _ refl
  straight_comes (instruction.GetLocal slot) operands h = goes (instruction.GetLocal slot) h
      operands _ s.slots refl
  straight_comes (instruction.SetLocal slot) [] h = tt
  straight_comes (instruction.SetLocal slot) (a ∷ below) h = goes (instruction.SetLocal slot) h
      (a ∷ below) _ _ refl
  straight_comes instruction.Pop [] h = tt
  straight_comes instruction.Pop (a ∷ below) h = goes instruction.Pop h (a ∷ below) _ s.slots refl
  straight_comes instruction.Duplicate [] h = tt
  straight_comes instruction.Duplicate (a ∷ below) h = goes instruction.Duplicate h (a ∷ below) _
      s.slots refl
  straight_comes (instruction.ReadElement array) [] h = tt
  straight_comes (instruction.ReadElement array) (a ∷ below) h =
      pushes (instruction.ReadElement array) h (a ∷ below) below
      (element_value env.elements 32 s.values array a) refl
  straight_comes (instruction.Operate op) [] h = tt
  straight_comes (instruction.Operate op) (b ∷ []) h = tt
  straight_comes (instruction.Operate op) (b ∷ (a ∷ below)) h = pushes (instruction.Operate op) h
      (b ∷ (a ∷ below)) below (operate 32 op a b) refl
  straight_comes (instruction.Compare op) [] h = tt
  straight_comes (instruction.Compare op) (b ∷ []) h = tt
  straight_comes (instruction.Compare op) (b ∷ (a ∷ below)) h =
      goes (instruction.Compare op) h (b ∷ (a ∷ below)) _ s.slots refl
  straight_comes instruction.Negate [] h = tt
  straight_comes instruction.Negate (a ∷ below) h = goes instruction.Negate h (a ∷ below) _ s.slots
      refl
  straight_comes instruction.Not [] h = tt
  straight_comes instruction.Not (a ∷ below) h = goes instruction.Not h (a ∷ below) _ s.slots refl
  straight_comes instruction.Complement [] h = tt
  straight_comes instruction.Complement (a ∷ below) h = goes instruction.Complement h (a ∷ below) _
      s.slots refl
  straight_comes (instruction.Jump to) operands h = tt
  straight_comes (instruction.JumpIfZero to) operands h = tt
  straight_comes (instruction.JumpIfNotZero to) operands h = tt
  straight_comes (instruction.Case label to) operands h = tt
  straight_comes (instruction.Text t) operands h = gives (instruction.Text t) h operands operands _
      refl
  straight_comes instruction.Number [] h = tt
  straight_comes instruction.Number (a ∷ below) h = gives instruction.Number h (a ∷ below) below _
      refl
  straight_comes (instruction.Item item quals) operands h = gives (instruction.Item item quals) h
      operands operands _ refl
  straight_comes (instruction.DataConst n) operands h = gives (instruction.DataConst n) h operands
      operands _ refl
  straight_comes (instruction.DataVar v mask quals) operands h =
      gives (instruction.DataVar v mask quals) h operands operands _ refl
  straight_comes (instruction.Enumerator n t help) operands h =
      gives (instruction.Enumerator n t help) h operands operands _ refl
  straight_comes (instruction.Response n class t) operands h =
      gives (instruction.Response n class t) h operands operands _ refl
  straight_comes (instruction.Member name item label help) operands h =
      gives (instruction.Member name item label help) h operands operands _ refl
  straight_comes (instruction.Element n v label help) operands h =
      gives (instruction.Element n v label help) h operands operands _ refl
  straight_comes (instruction.Ask a) operands h =
      by_count (numbers_taken a.kind) refl operands
    where
      by_count : (n : ℕ) → numbers_taken a.kind ≡ n → (operands : List ℤ)
          → Comes text env code p next operands s
          (outcome_of text env s (ask_with n a 0 (at [] 0 operands s)))
      by_count zero is operands = asks (instruction.Ask a) h operands operands _
          (ap (λ m. ask_with m a next (at code p operands s)) is)
      by_count (suc zero) is [] = tt
      by_count (suc zero) is (x ∷ below) = asks (instruction.Ask a) h (x ∷ below) below _
          (ap (λ m. ask_with m a next (at code p (x ∷ below) s)) is)
      by_count (suc (suc n)) is [] = tt
      by_count (suc (suc n)) is (y ∷ []) = tt
      by_count (suc (suc n)) is (y ∷ (x ∷ below)) = asks (instruction.Ask a) h (y ∷ (x ∷ below))
          below _ (ap (λ m. ask_with m a next (at code p (y ∷ (x ∷ below)) s)) is)
  straight_comes instruction.Abort operands h = λ k. (
    suc k,
    omega arith,
    abort_reports text env code p operands s
        (record { instruction = instruction.Abort; next = next; stands = h; acts = refl }) k,
  )
  straight_comes (instruction.AddAbortMethod m) operands h =
      by_list (listed s.is_aborting s.abort_methods m) refl
    where
      effect : List ℕ → (place next : ℕ) → Option (List MethNo) → Option Effect
      effect c place next o = elim o [
        | Some methods ↦ go (at c place operands (record s { abort_methods = methods })) next
            (pos 0 ∷ operands)
        | None ↦ go (at c place operands s) next (negsuc 0 ∷ operands)
      ]

      by_list : (o : Option (List MethNo)) → listed s.is_aborting s.abort_methods m ≡ o
          → Comes text env code p next operands s
          (outcome_of text env s (effect [] 0 0 o))
      by_list (Some methods) is =
          lists (instruction.AddAbortMethod m) h operands (pos 0 ∷ operands) methods
          (ap (effect code p next) is)
      by_list None is =
          goes (instruction.AddAbortMethod m) h operands (negsuc 0 ∷ operands) s.slots
          (ap (effect code p next) is)
