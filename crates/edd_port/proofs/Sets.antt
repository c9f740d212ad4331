-- Sets of an answer that have no fault.
use Rattle.std.proofs.Common.{◌≡◌, ℕ, zero, suc, ◌+◌, ◌<◌, ℤ, List, [], ◌∷◌, ◌++◌, length, map, drop, take, get_or, drop-cons, add-one, Option, Some, None, refl, sym, ap, subst, ◌∙◌, arith}
use Rattle.std.specs.Prelude.{if◌then◌else◌, slice_set}
use Rattle.std.specs.List.{AllByRecursion, slice_get}
use Rattle.std.proofs.Math.Seq.{take-append_seam}
use Rattle.edd_syntax.specs.Answers.{Change, SetFault, BadVariable, OutOfRange, set_fault, sets_fault, values_set}
use Rattle.edd_syntax.specs.declared.numbers.VarNo.{VarNo}
use Rattle.edd_syntax.specs.DeviceValues.{VariableType, is_in_range}
use Rattle.edd_port.specs.Refusals.{change_of}

inside : {A : Type 0} (xs : List A) (n : ℕ) (x : A) → slice_get xs n ≡ Some x → n < length xs
inside [] n x e = absurd cc
inside (y ∷ xs) zero x e = omega arith
inside (y ∷ xs) (suc n) x e = omega (arith, inside xs n x e)

-- a set without a fault names a variable
names_variable : (types : List VariableType) (set : Change) → set_fault types set ≡ None
    → set.variable.0 < length types
names_variable types set none = by_type (slice_get types set.variable.0) refl
  where
    by_type : (o : Option VariableType) → slice_get types set.variable.0 ≡ o
        → set.variable.0 < length types
    by_type None e =
        let bad : set_fault types set ≡ Some BadVariable =
        ap (λ (x : Option VariableType). elim x [
          | None ↦ Some BadVariable
          | Some t ↦ if is_in_range t set.value then None else Some OutOfRange
        ]) e in
        let clash : None ≡ Some BadVariable = sym none ∙ bad in absurd cc
    by_type (Some t) e = inside types set.variable.0 t e

pub sets_exist : (types : List VariableType) (sets : List Change) (n : ℕ) → length types ≡ n
    → sets_fault types sets ≡ None → AllByRecursion (λ set. set.variable.0 < n) sets
sets_exist types [] n count none = tt
sets_exist types (set ∷ rest) n count none = by_fault (λ h. sets_exist types rest n count h)
    (set_fault types set) refl
  where
    by_fault : (sets_fault types rest ≡ None
        → AllByRecursion (λ (x : Change). x.variable.0 < n) rest) → (o : Option SetFault)
        → set_fault types set ≡ o → AllByRecursion (λ (x : Change). x.variable.0 < n) (set ∷ rest)
    by_fault more None e =
        let others : sets_fault types rest ≡ None =
        sym (ap (λ (o : Option SetFault). elim o [
          | Some fault ↦ Some fault
          | None ↦ sets_fault types rest
        ]) e) ∙ none in
        (omega (arith, count, names_variable types set e), more others)
    by_fault more (Some f) e =
        let bad : sets_fault types (set ∷ rest) ≡ Some f =
        ap (λ (o : Option SetFault). elim o [
          | Some fault ↦ Some fault
          | None ↦ sets_fault types rest
        ]) e in
        let clash : None ≡ Some f = sym none ∙ bad in absurd cc

-- ---- one set after the other

module _ (numbers : List ℤ) (sets : List (VarNo × ℤ)) (i : ℕ) (d : VarNo × ℤ)
    (more : i < length sets) where
  -- the sets from this one on are this one and those after it
  one_set : map change_of (drop i sets) ≡ change_of (get_or sets i d)
      ∷ map change_of (drop (i + 1) sets)
  one_set = ap (λ (xs : List (VarNo × ℤ)). map change_of xs) (drop-cons sets i d more)
      ∙ ap (λ (n : ℕ). change_of (get_or sets i d) ∷ map change_of (drop n sets)) (sym (add-one i))

  pub others_exist : AllByRecursion (λ set. set.variable.0 < length numbers)
      (map change_of (drop i sets)) → AllByRecursion (λ set. set.variable.0 < length numbers)
      (map change_of (drop (i + 1) sets))
  others_exist all = (subst
      (λ (xs : List Change). AllByRecursion (λ set. set.variable.0 < length numbers) xs) one_set
      all).1

  pub one_is_made : values_set numbers (map change_of (drop i sets))
      ≡ values_set (slice_set numbers (get_or sets i d).0.0 (get_or sets i d).1)
      (map change_of (drop (i + 1) sets))
  one_is_made = ap (λ (xs : List Change). values_set numbers xs) one_set

-- what a slice of all items holds at its end stands in their place
pub written : (count : ℕ) (values items : List ℤ) → length values ≡ count
    → values ≡ take count (values ++ drop (length values) items)
written count values items e = sym (ap (λ (n : ℕ). take n (values ++ drop (length values) items))
    (sym e) ∙ take-append_seam values (drop (length values) items))
