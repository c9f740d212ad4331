-- The first rule that units break, unit by unit.
use Rattle.std.proofs.Common.{ℕ, ◌<◌, List, Option, Some, None, arith, inl, inr}
use Rattle.std.specs.Prelude.{IfSome, MatchOption, nat_le}
use Rattle.std.proofs.lemmas.Bool.{cases_Bool, leb-true, leb-false}
use Rattle.edd_instructions.specs.declared.unit.Context.{Context}
use Rattle.edd_instructions.specs.declared.rules.UnitRule.{UnitRule}
use Rattle.edd_instructions.specs.declared.rules.UnitRule.TheVariants.{Chain, Jump, Depth, Reference}
use Rattle.edd_instructions.specs.declared.rules.Rule.TheVariants as rule
use Rattle.edd_instructions.specs.Units.{UnitKeeps, IsValidUnit, UnitBreaksFirst}
use Rattle.edd_instructions.specs.Validity.{fault_number}
use Rattle.edd_loader.specs.UnitRows.{fault_bound, first_of}

-- ---- one unit

-- what is found out of a unit
abbrev pub Found : Context → List ℕ → Option UnitRule → Type 0
Found context code broken = MatchOption broken (IsValidUnit context code)
    (UnitBreaksFirst context code)

-- it keeps the rules before the first that it breaks
pub keeps_before : (context : Context) (code : List ℕ) (broken : Option UnitRule)
    (earlier : UnitRule) → Found context code broken → fault_number (rule.Unit earlier)
    < fault_bound broken → UnitKeeps context code earlier
keeps_before context code None Chain h lt = h.chain
keeps_before context code None Jump h lt = h.jumps
keeps_before context code None Depth h lt = h.depths
keeps_before context code None Reference h lt = h.references
keeps_before context code (Some Chain) Chain h lt = absurd (omega (arith, lt))
keeps_before context code (Some Chain) _ h lt = absurd (omega (arith, lt))
keeps_before context code (Some Jump) Chain h lt = h.0
keeps_before context code (Some Jump) _ h lt = absurd (omega (arith, lt))
keeps_before context code (Some Depth) Chain h lt = h.0
keeps_before context code (Some Depth) Jump h lt = h.1
keeps_before context code (Some Depth) _ h lt = absurd (omega (arith, lt))
keeps_before context code (Some Reference) Chain h lt = h.0
keeps_before context code (Some Reference) Jump h lt = h.1
keeps_before context code (Some Reference) Depth h lt = h.2
keeps_before context code (Some Reference) Reference h lt = absurd (omega (arith, lt))

breaks : (context : Context) (code : List ℕ) (which : UnitRule) → UnitBreaksFirst context code which
    → ¬ UnitKeeps context code which
breaks context code Chain h = h
breaks context code Jump h = h.1
breaks context code Depth h = h.2
breaks context code Reference h = h.3

-- what all units would keep, it doesn't
pub breaks_all : (context : Context) (code : List ℕ) (broken : Option UnitRule) (All : UnitRule
    → Type 0) → Found context code broken
    → ((which : UnitRule) → All which → UnitKeeps context code which)
    → IfSome broken (λ which. ¬ All which)
breaks_all context code None All h here = tt
breaks_all context code (Some which) All h here = λ all. breaks context code which h
    (here which all)

-- ---- of two rules the one that is tried first

pub before_both : (one other : Option UnitRule) (n : ℕ) → n < fault_bound (first_of one other)
    → (n < fault_bound one) × (n < fault_bound other)
before_both one other n lt = elim (cases_Bool (nat_le (fault_bound one) (fault_bound other))) [
  | inl e ↦
      let first : n < fault_bound one = rw e at lt in
      (first, omega (arith, first, leb-true (fault_bound one) (fault_bound other) e))
  | inr e ↦
      let second : n < fault_bound other = rw e at lt in
      (omega (arith, second, leb-false (fault_bound one) (fault_bound other) e), second)
]

pub one_of : (P : UnitRule → Type 0) (one other : Option UnitRule) → IfSome one P → IfSome other P
    → IfSome (first_of one other) P
one_of P one other p q = elim (cases_Bool (nat_le (fault_bound one) (fault_bound other))) [
  | inl e ↦ rw e p
  | inr e ↦ rw e q
]

-- what doesn't hold of some doesn't hold of more
pub broken_of_more : (broken : Option UnitRule) (Some_keep More_keep : UnitRule → Type 0)
    → ((which : UnitRule) → More_keep which → Some_keep which)
    → IfSome broken (λ which. ¬ Some_keep which) → IfSome broken (λ which. ¬ More_keep which)
broken_of_more None Some_keep More_keep f h = tt
broken_of_more (Some which) Some_keep More_keep f h = λ more. h (f which more)
