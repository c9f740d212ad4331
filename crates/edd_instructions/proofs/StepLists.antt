-- A run that is aborting stays so, and so does what is left of its list.
use Rattle.std.proofs.Common.{◌≡◌, refl, subst, ◌∙◌, ℕ, zero, suc, Bool, true, false, cond, ℤ, pos, negsuc, List, [], ◌∷◌, ◌++◌, length, Option, Some, None, Result, Ok, Err}
use Rattle.std.specs.Prelude.{nat_le}
use Rattle.std.specs.Ordering.{int_eq}
use Rattle.edd_syntax.specs.declared.answer.Trap as trap
use Rattle.edd_syntax.specs.declared.numbers.MethNo.{MethNo}
use Rattle.edd_syntax.specs.AbortMethods.{listed}
use Rattle.edd_syntax.specs.TwosComplement.{operate}
use Rattle.edd_syntax.specs.Elements.{element_value}
use Rattle.edd_instructions.specs.declared.records.Status.{Status}
use Rattle.edd_instructions.specs.declared.records.Status.TheVariants.{Running}
use Rattle.edd_instructions.specs.declared.instruction.Ask.{Ask}
use Rattle.edd_syntax.specs.Builtins.{numbers_taken}
use Rattle.edd_instructions.specs.declared.instruction.Instruction.{Instruction}
use Rattle.edd_instructions.specs.declared.instruction.Instruction.TheVariants as instruction
use Rattle.edd_image.specs.Front.{◌>>=◌}
use Rattle.edd_instructions.specs.Decoding.{instruction_at}
use Rattle.edd_instructions.specs.Steps.{State, Environment, Effect, width_of, go, on_top, on_two, push_or_trap, ask_with, act_ask, act, if_running, step}

abbrev pub Kept : State → State → Type 0
Kept s t = (t.is_aborting ≡ s.is_aborting)
    × (s.is_aborting ≡ true → t.abort_methods ≡ s.abort_methods)

pub kept_twice : (s t u : State) → Kept s t → Kept t u → Kept s u
kept_twice s t u a b = (b.0 ∙ a.0, λ on. b.1 (a.0 ∙ on) ∙ a.1 on)

-- where there is an effect, it leaves them so
abbrev Leaves : State → Option Effect → Type 0
Leaves s o = (e : Effect) → o ≡ Some e → Kept s e.state

module _ (s : State) where
  same_list : (e : Effect) → Kept s e.state → Leaves s (Some e)
  same_list e kept f is = let same : e ≡ f = cc is in
      subst (λ (g : Effect). Kept s g.state) same kept

  none : Leaves s None
  none f is = absurd (cc is)

  top : (ops : List ℤ) (f : ℤ → List ℤ → Option Effect)
      → ((a : ℤ) (below : List ℤ) → Leaves s (f a below)) → Leaves s (on_top ops f)
  top [] f h = none
  top (a ∷ below) f h = h a below

  two : (ops : List ℤ) (f : ℤ → ℤ → List ℤ → Option Effect)
      → ((a b : ℤ) (below : List ℤ) → Leaves s (f a b below)) → Leaves s (on_two ops f)
  two [] f h = none
  two (b ∷ []) f h = none
  two (b ∷ a ∷ below) f h = h a b below

  push : (next : ℕ) (below : List ℤ) (r : Result ℤ trap.Trap)
      → Leaves s (push_or_trap s next below r)
  push next below (Ok z) = same_list _ (refl, λ on. refl)
  push next below (Err why) = same_list _ (refl, λ on. refl)

  choice : (test : Bool) (a b : Option Effect) → Leaves s a → Leaves s b
      → Leaves s (cond test a b)
  choice true a b p q = p
  choice false a b p q = q

  added : (m : MethNo) (next : ℕ) (on : Bool) → s.is_aborting ≡ on
      → Leaves s (elim (listed on s.abort_methods m) [
        | Some methods ↦ go (record s { abort_methods = methods }) next (pos 0 ∷ s.operands)
        | None ↦ go s next (negsuc 0 ∷ s.operands)
      ])
  added m next true is = same_list _ (refl, λ on. refl)
  added m next false is = by_room (nat_le 8 (length s.abort_methods))
    where
      by_room : (full : Bool) → Leaves s (elim (cond full None (Some (s.abort_methods ++ m ∷ []))) [
        | Some methods ↦ go (record s { abort_methods = methods }) next (pos 0 ∷ s.operands)
        | None ↦ go s next (negsuc 0 ∷ s.operands)
      ])
      by_room true = same_list _ (refl, λ on. refl)
      by_room false = same_list _ (refl, λ on. absurd (cc (is, on)))

  asked : (a : Ask) (next : ℕ) → Leaves s (act_ask a next s)
  asked a next = by_count (numbers_taken a.kind)
    where
      by_count : (n : ℕ) → Leaves s (ask_with n a next s)
      by_count zero = same_list _ (refl, λ on. refl)
      by_count (suc zero) = top s.operands _ (λ x below. same_list _ (refl, λ on. refl))
      by_count (suc (suc n)) = two s.operands _ (λ x y below. same_list _ (refl, λ on. refl))

  module _ (env : Environment) (next : ℕ) where
    acted : (i : Instruction) → Leaves s (act env i next s)
    unfolding act
    acted (instruction.Store v) = top s.operands _ (λ a below. same_list _ (refl, λ on. refl))
    acted (instruction.SetLocal slot) = top s.operands _
        (λ a below. same_list _ (refl, λ on. refl))
    acted instruction.Pop = top s.operands _ (λ a below. same_list _ (refl, λ on. refl))
    acted instruction.Duplicate = top s.operands _ (λ a below. same_list _ (refl, λ on. refl))
    acted (instruction.ReadElement array) = top s.operands _ (λ number below.
        push next below (element_value env.elements (width_of s.unit.sort) s.values array number))
    acted (instruction.Operate op) = two s.operands _ (λ a b below.
        push next below (operate (width_of s.unit.sort) op a b))
    acted (instruction.Compare op) = two s.operands _
        (λ a b below. same_list _ (refl, λ on. refl))
    acted instruction.Negate = top s.operands _ (λ a below. same_list _ (refl, λ on. refl))
    acted instruction.Not = top s.operands _ (λ a below. same_list _ (refl, λ on. refl))
    acted instruction.Complement = top s.operands _ (λ a below. same_list _ (refl, λ on. refl))
    acted (instruction.JumpIfZero to) = top s.operands _
        (λ a below. same_list _ (refl, λ on. refl))
    acted (instruction.JumpIfNotZero to) = top s.operands _
        (λ a below. same_list _ (refl, λ on. refl))
    acted (instruction.Case label to) = top s.operands _ (λ a below.
        choice (int_eq a label) _ _ (same_list _ (refl, λ on. refl))
        (same_list _ (refl, λ on. refl)))
    acted instruction.Number = top s.operands _ (λ a below. same_list _ (refl, λ on. refl))
    acted (instruction.Ask request) = asked request next
    acted (instruction.AddAbortMethod m) = added m next s.is_aborting refl
    acted _ = same_list _ (refl, λ on. refl)

-- a step leaves them so
pub step_keeps : (env : Environment) (s : State) (e : Effect) → step env s ≡ Some e
    → Kept s e.state
unfolding step
step_keeps env s e is = by_status s.status e is
  where
    found : (x : Option (Instruction × ℕ)) → Leaves s (x >>= λ f. act env f.0 f.1 s)
    found None = none s
    found (Some f) = acted s env f.1 f.0

    by_status : (st : Status) → Leaves s (if_running st (instruction_at s.unit.code s.place
        >>= λ f. act env f.0 f.1 s))
    by_status Running = found (instruction_at s.unit.code s.place)
    by_status _ = none s
