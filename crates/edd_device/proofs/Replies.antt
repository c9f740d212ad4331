-- The sets of a reply, one entry after the other.
use Rattle.std.proofs.Common.{◌≡◌, ℕ, ℤ, List, [], ◌∷◌, Option, Some, None, Result, Ok, Err, refl, sym, ap, subst, ◌∙◌}
use Rattle.edd_syntax.specs.Answers.{Change, SetFault, set_fault, sets_fault}
use Rattle.edd_instructions.specs.declared.records.Record.{Record}
use Rattle.edd_machine.specs.Types.{types_in}
use Rattle.edd_device.specs.declared.fault.DeviceFault.{DeviceFault}
use Rattle.edd_device.specs.declared.fault.DeviceFault.TheVariants.{OutOfRange}
use Rattle.edd_device.specs.Copies.{Pair, number_at, tied, requested, replied, with_set}
use Rattle.std.specs.Prelude.{slice_set}

-- ---- one entry

module _ (i d : List ℕ) (device : List ℤ) (r : Record) (rest : List Record) where
  abbrev replies : Option Pair → Result (List Change) DeviceFault
  replies None = replied i d rest device
  replies (Some pair) = elim (set_fault (types_in i)
      (record { variable = pair.ours; value = number_at device pair.theirs })) [
        | Some fault ↦ Err (OutOfRange pair.ours)
        | None ↦ with_set (record { variable = pair.ours; value = number_at device pair.theirs })
            (replied i d rest device)
      ]

  opens : (o : Option Pair) → tied i d r ≡ o → replied i d (r ∷ rest) device ≡ replies o
  opens o e = split o (tied i d r) e
    where
      split : (o q : Option Pair) → q ≡ o → replies q ≡ replies o
      split o q e = ap replies e

  -- an entry that ties nothing sets nothing
  pub reply_without : tied i d r ≡ None → replied i d (r ∷ rest) device ≡ replied i d rest device
  reply_without e = opens None e

  module _ (pair : Pair) (e : tied i d r ≡ Some pair) where
    abbrev set : Change
    set = record { variable = pair.ours; value = number_at device pair.theirs }

    abbrev by_fault : Option SetFault → Result (List Change) DeviceFault
    by_fault (Some fault) = Err (OutOfRange pair.ours)
    by_fault None = with_set set (replied i d rest device)

    opened : replied i d (r ∷ rest) device ≡ by_fault (set_fault (types_in i) set)
    opened = opens (Some pair) e ∙ same (set_fault (types_in i) set)
      where
        same : (o : Option SetFault) → elim o as (λ x. Result (List Change) DeviceFault) [
          | Some fault ↦ Err (OutOfRange pair.ours)
          | None ↦ with_set set (replied i d rest device)
        ] ≡ by_fault o
        same None = refl
        same (Some fault) = refl

    pub reply_set : set_fault (types_in i) set ≡ None
        → replied i d (r ∷ rest) device ≡ with_set set (replied i d rest device)
    reply_set none = opened ∙ ap by_fault none

    pub reply_bad : (fault : SetFault) → set_fault (types_in i) set ≡ Some fault
        → replied i d (r ∷ rest) device ≡ Err (OutOfRange pair.ours)
    reply_bad fault bad = opened ∙ ap by_fault bad

-- ---- one entry of a request

module _ (i d : List ℕ) (values device : List ℤ) (r : Record) (rest : List Record) where
  abbrev requests : Option Pair → Result (List ℤ) DeviceFault
  requests None = requested i d values rest device
  requests (Some pair) = elim (set_fault (types_in d)
      (record { variable = pair.theirs; value = number_at values pair.ours })) [
        | Some fault ↦ Err (OutOfRange pair.ours)
        | None ↦ requested i d values rest
            (slice_set device pair.theirs.0 (number_at values pair.ours))
      ]

  asks : (o : Option Pair) → tied i d r ≡ o → requested i d values (r ∷ rest) device ≡ requests o
  asks o e = ap requests e

  pub request_without : tied i d r ≡ None → requested i d values (r ∷ rest) device
      ≡ requested i d values rest device
  request_without e = asks None e

  module _ (pair : Pair) (e : tied i d r ≡ Some pair) where
    abbrev put : Change
    put = record { variable = pair.theirs; value = number_at values pair.ours }

    abbrev put_by : Option SetFault → Result (List ℤ) DeviceFault
    put_by (Some fault) = Err (OutOfRange pair.ours)
    put_by None = requested i d values rest
        (slice_set device pair.theirs.0 (number_at values pair.ours))

    asked : requested i d values (r ∷ rest) device ≡ put_by (set_fault (types_in d) put)
    asked = asks (Some pair) e ∙ same (set_fault (types_in d) put)
      where
        same : (o : Option SetFault) → elim o as (λ x. Result (List ℤ) DeviceFault) [
          | Some fault ↦ Err (OutOfRange pair.ours)
          | None ↦ requested i d values rest
              (slice_set device pair.theirs.0 (number_at values pair.ours))
        ] ≡ put_by o
        same None = refl
        same (Some fault) = refl

    pub request_put : set_fault (types_in d) put ≡ None
        → requested i d values (r ∷ rest) device
        ≡ requested i d values rest (slice_set device pair.theirs.0 (number_at values pair.ours))
    request_put none = asked ∙ ap put_by none

    pub request_bad : (fault : SetFault) → set_fault (types_in d) put ≡ Some fault
        → requested i d values (r ∷ rest) device ≡ Err (OutOfRange pair.ours)
    request_bad fault bad = asked ∙ ap put_by bad

-- ---- valid sets

module _ (i d : List ℕ) (r : Record) (rest : List Record) (device : List ℤ) (sets : List Change)
    (e : replied i d (r ∷ rest) device ≡ Ok sets)
    (others : (ss : List Change) → replied i d rest device ≡ Ok ss
    → sets_fault (types_in i) ss ≡ None) where
  by_rest : (set : Change) → set_fault (types_in i) set ≡ None
      → (o : Result (List Change) DeviceFault) → replied i d rest device ≡ o
      → with_set set o ≡ Ok sets → sets_fault (types_in i) sets ≡ None
  by_rest set none (Ok ss) is f =
      let same : set ∷ ss ≡ sets = cc in
      subst (λ (xs : List Change). sets_fault (types_in i) xs ≡ None) same
      (ap (λ (o : Option SetFault). elim o as (λ x. Option SetFault) [
        | Some fault ↦ Some fault
        | None ↦ sets_fault (types_in i) ss
      ]) none ∙ others ss is)
  by_rest set none (Err fault) is f = absurd cc

  by_set : (pair : Pair) → tied i d r ≡ Some pair → (o : Option SetFault)
      → set_fault (types_in i) (record {
        variable = pair.ours;
        value = number_at device pair.theirs;
      })
      ≡ o → sets_fault (types_in i) sets ≡ None
  by_set pair is None none =
      let here = reply_set i d device r rest pair is none in
      by_rest (record { variable = pair.ours; value = number_at device pair.theirs }) none
      (replied i d rest device) refl (sym here ∙ e)
  by_set pair is (Some fault) bad =
      let clash : Ok sets ≡ Err (OutOfRange pair.ours) =
      sym e ∙ reply_bad i d device r rest pair is fault bad in absurd cc

  by_tie : (o : Option Pair) → tied i d r ≡ o → sets_fault (types_in i) sets ≡ None
  by_tie None is = others sets (sym (reply_without i d device r rest is) ∙ e)
  by_tie (Some pair) is = by_set pair is
      (set_fault (types_in i)
      (record { variable = pair.ours; value = number_at device pair.theirs })) refl

-- the sets that a reply gives can be made
pub replied_valid : (i d : List ℕ) (entries : List Record) (device : List ℤ)
    (sets : List Change) → replied i d entries device ≡ Ok sets
    → sets_fault (types_in i) sets ≡ None
replied_valid i d [] device sets e =
    let same : [] ≡ sets = cc in
    subst (λ (xs : List Change). sets_fault (types_in i) xs ≡ None) same refl
replied_valid i d (r ∷ rest) device sets e = by_tie i d r rest device sets e
    (λ ss h. replied_valid i d rest device ss h) (tied i d r) refl
