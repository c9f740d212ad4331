-- What a panel is offered by the readings of an image it is offered by those of its source.
use Rattle.std.proofs.Common.{◌≡◌, subst, ℕ, ◌+◌, ℤ, List, [], ◌∷◌, ◌++◌, ◌⊎◌, inl, inr}
use Rattle.edd_syntax.specs.declared.numbers.Attr.TheVariants as attr
use Rattle.edd_syntax.specs.declared.numbers.AttrRef.{AttrRef}
use Rattle.edd_syntax.specs.declared.numbers.ItemNo.{ItemNo}
use Rattle.edd_syntax.specs.declared.numbers.ItemNo.TheVariants as items
use Rattle.edd_syntax.specs.declared.numbers.MenuNo.{MenuNo}
use Rattle.edd_syntax.specs.declared.numbers.VarNo.{VarNo}
use Rattle.edd_syntax.specs.DeviceValues.{AreDeviceValues, VariableType}
use Rattle.edd_image.specs.declared.parts.Counts.{Counts}
use Rattle.edd_instructions.specs.declared.records.Record.{Record}
use Rattle.edd_instructions.specs.Reading.{Reading, Records}
use Rattle.edd_panel.specs.declared.entries.Entry.{Entry}
use Rattle.edd_panel.specs.declared.entries.Listed.{Listed}
use Rattle.edd_panel.specs.declared.place.Level.{Level}
use Rattle.edd_panel.specs.declared.place.Place.{Place}
use Rattle.edd_panel.specs.declared.place.Place.TheVariants as place
use Rattle.edd_panel.specs.Edits.{AreRulesBy, Rules, of_variable}
use Rattle.edd_panel.specs.Screens.{AreItems, AreTopLines, AreTops, IsAmong, IsListed, IsShownAt, IsWritten, Offers, ShowsAlone, of_item}
use Rattle.edd_panel.specs.Sittings.{Act, AreExplained, IsEdit, IsExplained, IsSitting, IsWay, OffersItem, Step}
use Rattle.edd_panel.specs.Standing.{Standing}

-- what is one of a list is its first one or one of the rest
among_cases : (x : Standing) (xs : List Standing) (s : Standing) (upper lower : List Standing)
    → x ∷ xs ≡ upper ++ s ∷ lower → (x ≡ s) ⊎ IsAmong xs s
among_cases x xs s [] lower is = inl cc
among_cases x xs s (p ∷ upper) lower is =
    let rest : xs ≡ upper ++ s ∷ lower = cc in inr (upper, lower, rest)

nobody : (s : Standing) (upper lower : List Standing) → [] ≡ upper ++ s ∷ lower → ⊥
nobody s [] lower is = absurd cc
nobody s (p ∷ upper) lower is = absurd cc

module _ (counts : Counts) (types : List VariableType)
    (image source : (values : List ℤ) → AttrRef → Reading → Type 0)
    (says : (values : List ℤ) → AreDeviceValues types values → (ref : AttrRef) (r : Reading)
    → image values ref r → source values ref r) where
  module _ (v : List ℤ) (valid : AreDeviceValues types v) where
    lists : (first : ℕ) (all : List (List Record)) → AreItems counts (image v) first all
        → AreItems counts (source v) first all
    lists first [] are = tt
    lists first (rs ∷ rest) are = (
      (
        are.0.0,
        says v valid (of_item (items.Menu (record { 0 = first })) attr.Items) are.0.0 are.0.1,
        are.0.2,
      ),
      lists (first + 1) rest are.1,
    )

    tops : (ts : List MenuNo) → AreTops counts (image v) ts → AreTops counts (source v) ts
    tops ts are = (are.0, are.1, lists 0 are.0 are.2, are.3)

    alone : (ts : List MenuNo) (p : Place) → ShowsAlone counts (image v) ts p
        → ShowsAlone counts (source v) ts p
    alone [] p is = is
    alone (m ∷ []) p is =
        (is.0, says v valid (of_item (items.Menu m) attr.Validity) is.0 is.1, is.2)
    alone (m ∷ n ∷ rest) p is = is

    shown_at : (at p : Place) → IsShownAt counts (image v) at p → IsShownAt counts (source v) at p
    shown_at place.Top p is = (is.0, tops is.0 is.1, alone is.0 p is.2)
    shown_at (place.Menu m) p is = is
    shown_at (place.Collection c) p is = is

    top_lines : (lines : List Listed) → AreTopLines counts (image v) lines
        → AreTopLines counts (source v) lines
    top_lines lines are = elim are [
      | inl none ↦ inl none
      | inr some ↦ inr (some.0, (some.1.0, tops some.1.0 some.1.1, some.1.2))
    ]

    listed : (list : AttrRef) (e : Entry) → IsListed counts (image v) list e
        → IsListed counts (source v) list e
    listed list e is = (is.0, says v valid list (Records is.0) is.1, is.2)

    written : (p : Place) (e : Entry) → IsWritten counts (image v) p e
        → IsWritten counts (source v) p e
    written place.Top e is = (is.0, top_lines is.0 is.1, is.2)
    written (place.Menu m) e is = listed (of_item (items.Menu m) attr.Items) e is
    written (place.Collection c) e is = listed (of_item (items.Collection c) attr.Members) e is

    offers : (at : Place) (e : Entry) → Offers counts (image v) at e → Offers counts (source v) at e
    offers at e is = (
      (is.0.0, shown_at at is.0.0 is.0.1, written is.0.0 e is.0.2),
      is.1,
      (is.2.0, says v valid (of_item e.item attr.Validity) is.2.0 is.2.1, is.2.2),
    )

    rules : (var : VarNo) (r : Rules) → AreRulesBy types (image v) var r
        → AreRulesBy types (source v) var r
    rules var r are = record {
      type = are.type;
      handling = says v valid (of_variable var attr.Handling) r.handling are.handling;
      lowest = says v valid (of_variable var attr.MinValue) r.lowest are.lowest;
      highest = says v valid (of_variable var attr.MaxValue) r.highest are.highest;
      enumerators = says v valid (of_variable var attr.Enumerators) r.enumerators are.enumerators;
    }

  item : (s : Standing) (i : ItemNo) → AreDeviceValues types s.values
      → OffersItem counts types image s i → OffersItem counts types source s i
  item s i valid is = (is.0, offers s.values valid _ is.0 is.1, is.2, is.3)

  -- all of them have values of a device
  AllValid : List Standing → Type 0
  AllValid past = (s : Standing) → IsAmong past s → AreDeviceValues types s.values

  one_more : (s : Standing) (past : List Standing) → AreDeviceValues types s.values → AllValid past
      → AllValid (s ∷ past)
  unfolding AllValid
  one_more s past valid all = λ t is. elim (among_cases s past t is.0 is.1 is.2) [
    | inl same ↦ subst (λ (x : Standing). AreDeviceValues types x.values) same valid
    | inr earlier ↦ all t earlier
  ]

  way : (past : List Standing) (path : List Level) → AllValid past
      → IsWay counts types image past path → IsWay counts types source past path
  unfolding AllValid
  way past path all is = λ above l below e.
      let from = is above l below e in (
        from.0,
        from.1,
        from.2,
        (from.3.0, item from.0 from.3.0 (all from.0 from.1) from.3.1, from.3.2),
      )

  edit : (past : List Standing) (before : Standing) (act : Act) (after : Standing)
      → AreDeviceValues types before.values → AllValid past
      → IsEdit counts types image past before act after
      → IsEdit counts types source past before act after
  edit past before act after valid all is = (
    is.0,
    is.1,
    is.2,
    is.3,
    is.4,
    is.5,
    (is.6.0, rules before.values valid is.0.variable is.6.0 is.6.1, is.6.2),
    item before (items.Variable is.0.variable) valid is.7,
    way past before.path all is.8,
  )

  explained : (past : List Standing) (before : Standing) (act : Act) (after : Standing)
      → AreDeviceValues types before.values → AllValid past
      → IsExplained counts types image past before act after
      → IsExplained counts types source past before act after
  explained past before act after valid all is = elim is [
    | inl same ↦ inl same
    | inr changed ↦ elim changed [
      | inl edited ↦ inr (inl (edit past before act after valid all edited))
      | inr left ↦ inr (inr left)
    ]
  ]

  all_explained : (past : List Standing) (before : Standing) (steps : List Step)
      → AreDeviceValues types before.values → AllValid past → IsSitting types before steps
      → AreExplained counts types image past before steps
      → AreExplained counts types source past before steps
  all_explained past before [] valid all sitting are = tt
  all_explained past before (s ∷ rest) valid all sitting are =
      let more = one_more before past valid all in (
        explained (before ∷ past) before s.act s.after valid more are.0,
        all_explained (before ∷ past) s.after rest sitting.1 more sitting.2 are.1,
      )

  pub sitting_explained : (before : Standing) (steps : List Step)
      → AreDeviceValues types before.values → IsSitting types before steps
      → AreExplained counts types image [] before steps
      → AreExplained counts types source [] before steps
  unfolding AllValid
  sitting_explained before steps valid sitting are = all_explained [] before steps valid
      (λ s is. absurd (nobody s is.0 is.1 is.2)) sitting are
