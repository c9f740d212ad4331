-- The first number that passes a test, one after the other.
use Rattle.std.proofs.Common.{◌≡◌, ℕ, zero, suc, ◌+◌, ◌-◌, ◌<◌, Bool, true, false, List, Option, Some, None, refl, sym, ap, ◌∙◌, add-one, arith}
use Rattle.std.specs.Prelude.{option_map}
use Rattle.edd_syntax.specs.declared.numbers.ItemNo.TheVariants as items
use Rattle.edd_syntax.specs.declared.numbers.VarNo.{VarNo}
use Rattle.edd_syntax.specs.Text.{Name}
use Rattle.edd_image.specs.Fields.{counts_in}
use Rattle.edd_device.specs.Names.{first_of, is_named, variable_named}

module _ (test : ℕ → Bool) (count from : ℕ) where
  one_more : from < count → first_of test from (count - from)
      ≡ first_of test from (suc (count - (from + 1)))
  one_more more = let e : count - from ≡ suc (count - (from + 1)) = omega (arith, more) in
      ap (λ (n : ℕ). first_of test from n) e

  -- one that doesn't pass is gone by
  pub passes : from < count → test from ≡ false → first_of test from (count - from)
      ≡ first_of test (from + 1) (count - (from + 1))
  passes more not = one_more more
      ∙ ap (λ (b : Bool). elim b as (λ x. Option ℕ) [
        | true ↦ Some from
        | false ↦ first_of test (suc from) (count - (from + 1))
      ]) not
      ∙ ap (λ (n : ℕ). first_of test n (count - (from + 1))) (sym (add-one from))

  pub finds : from < count → test from ≡ true → first_of test from (count - from) ≡ Some from
  finds more is = one_more more
      ∙ ap (λ (b : Bool). elim b as (λ x. Option ℕ) [
        | true ↦ Some from
        | false ↦ first_of test (suc from) (count - (from + 1))
      ]) is

  -- after the last there is none
  pub runs_out : count ≡ from → first_of test from (count - from) ≡ None
  runs_out over = let e : count - from ≡ 0 = omega (arith, over) in
      ap (λ (n : ℕ). first_of test from n) e

-- what is found is one of them
module _ (test : ℕ → Bool) (from left k : ℕ) (below : first_of test (suc from) left ≡ Some k
    → k < suc from + left) where
  by_test : (b : Bool) → test from ≡ b → first_of test from (suc left) ≡ Some k
      → k < from + suc left
  by_test true is e =
      let here : first_of test from (suc left) ≡ Some from =
      ap (λ (b : Bool). elim b as (λ x. Option ℕ) [
        | true ↦ Some from
        | false ↦ first_of test (suc from) left
      ]) is in
      let same : k ≡ from = cc in
      omega (arith, same)
  by_test false not e =
      let later : first_of test from (suc left) ≡ first_of test (suc from) left =
      ap (λ (b : Bool). elim b as (λ x. Option ℕ) [
        | true ↦ Some from
        | false ↦ first_of test (suc from) left
      ]) not in
      omega (arith, below (sym later ∙ e))

pub found_below : (test : ℕ → Bool) (from left k : ℕ) → first_of test from left ≡ Some k
    → k < from + left
found_below test from zero k e = absurd cc
found_below test from (suc left) k e =
    by_test test from left k (λ h. found_below test (suc from) left k h) (test from) refl e

module _ (v : VarNo) where
  as_variable : ℕ → VarNo
  as_variable n = record { 0 = n }

  by_found : (o : Option ℕ) (count : ℕ) → ((k : ℕ) → o ≡ Some k → k < count)
      → option_map as_variable o ≡ Some v → v.0 < count
  unfolding as_variable
  by_found None count below f = absurd cc
  by_found (Some k) count below f =
      let same : k ≡ v.0 = ap (λ (x : Option VarNo). elim x as (λ y. ℕ) [
        | None ↦ 0
        | Some w ↦ w.0
      ]) f in
      omega (arith, same, below k refl)

pub variable_below : (b : List ℕ) (name : Name) (v : VarNo) → variable_named b name ≡ Some v
    → v.0 < (counts_in b).variables
unfolding as_variable
variable_below b name v e = by_found v
    (first_of (λ n. is_named b name (items.Variable (record { 0 = n }))) 0 (counts_in b).variables)
    (counts_in b).variables
    (λ k f. omega (
      arith,
      found_below (λ n. is_named b name (items.Variable (record { 0 = n }))) 0
          (counts_in b).variables k f,
    )) e
