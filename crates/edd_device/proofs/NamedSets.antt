-- The sets of an answer are variables of the reply.
use Rattle.std.proofs.Common.{◌≡◌, ℕ, inl, inr, ℤ, List, [], ◌∷◌, Option, Some, None, Result, Ok, Err, refl, sym, ap, subst, ◌∙◌}
use Rattle.std.specs.Prelude.{option_map}
use Rattle.std.specs.List.{AllByRecursion}
use Rattle.edd_syntax.specs.declared.numbers.VarNo.{VarNo}
use Rattle.edd_syntax.specs.Answers.{Change, SetFault, set_fault}
use Rattle.edd_instructions.specs.declared.records.Record.{Record}
use Rattle.edd_instructions.specs.declared.records.Record.TheVariants as records
use Rattle.edd_machine.specs.Types.{types_in}
use Rattle.edd_device.specs.declared.fault.DeviceFault.{DeviceFault}
use Rattle.edd_device.specs.declared.fault.DeviceFault.TheVariants.{OutOfRange}
use Rattle.edd_device.specs.Copies.{IsAmong, IsEntryOf, Pair, number_at, tied, replied, with_set}
use Rattle.edd_device.specs.Names.{counterpart}
use Rattle.edd_device.proofs.Replies.{reply_without, reply_set, reply_bad}

abbrev as_pair : VarNo → VarNo → Pair
as_pair v w = record { ours = v; theirs = w }

-- an entry ties the variable that it is
by_theirs : (v : VarNo) (o : Option VarNo) (pair : Pair)
    → option_map (as_pair v) o ≡ Some pair → v ≡ pair.ours
by_theirs v None pair e = absurd cc
by_theirs v (Some w) pair e = ap (λ (x : Option Pair). elim x as (λ y. VarNo) [
  | None ↦ v
  | Some p ↦ p.ours
]) e

ties : (i d : List ℕ) (r : Record) (pair : Pair) → tied i d r ≡ Some pair
    → IsEntryOf r pair.ours
ties i d (records.DataVar v mask quals) pair e = by_theirs v (counterpart i d v) pair e
ties i d _ pair e = absurd cc

abbrev Named : List Record → List Change → Type 0
Named entries sets = AllByRecursion (λ (set : Change). IsAmong entries set.variable) sets

-- those of some entries are of more entries
wider : (r : Record) (rest : List Record) (sets : List Change) → Named rest sets
    → Named (r ∷ rest) sets
wider r rest [] all = tt
wider r rest (set ∷ sets) all = (inr all.0, wider r rest sets all.1)

module _ (i d : List ℕ) (r : Record) (rest : List Record) (device : List ℤ) (sets : List Change)
    (e : replied i d (r ∷ rest) device ≡ Ok sets)
    (others : (ss : List Change) → replied i d rest device ≡ Ok ss → Named rest ss) where
  by_rest : (set : Change) → IsEntryOf r set.variable → (o : Result (List Change) DeviceFault)
      → replied i d rest device ≡ o → with_set set o ≡ Ok sets → Named (r ∷ rest) sets
  by_rest set here (Ok ss) is f =
      let same : set ∷ ss ≡ sets = cc in
      subst (λ (xs : List Change). Named (r ∷ rest) xs) same
      (inl here, wider r rest ss (others ss is))
  by_rest set here (Err fault) is f = absurd cc

  by_set : (pair : Pair) → tied i d r ≡ Some pair → (o : Option SetFault)
      → set_fault (types_in i) (record {
        variable = pair.ours;
        value = number_at device pair.theirs;
      })
      ≡ o → Named (r ∷ rest) sets
  by_set pair is None none =
      let here = reply_set i d device r rest pair is none in
      by_rest (record { variable = pair.ours; value = number_at device pair.theirs })
      (ties i d r pair is) (replied i d rest device) refl (sym here ∙ e)
  by_set pair is (Some fault) bad =
      let clash : Ok sets ≡ Err (OutOfRange pair.ours) =
      sym e ∙ reply_bad i d device r rest pair is fault bad in absurd cc

  by_tie : (o : Option Pair) → tied i d r ≡ o → Named (r ∷ rest) sets
  by_tie None is = wider r rest sets (others sets (sym (reply_without i d device r rest is) ∙ e))
  by_tie (Some pair) is = by_set pair is
      (set_fault (types_in i)
      (record { variable = pair.ours; value = number_at device pair.theirs })) refl

pub named : (i d : List ℕ) (entries : List Record) (device : List ℤ) (sets : List Change)
    → replied i d entries device ≡ Ok sets → Named entries sets
named i d [] device sets e =
    let same : [] ≡ sets = cc in subst (λ (xs : List Change). Named [] xs) same tt
named i d (r ∷ rest) device sets e = by_tie i d r rest device sets e
    (λ ss h. named i d rest device ss h) (tied i d r) refl
