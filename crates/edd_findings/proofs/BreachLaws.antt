-- What is told of a unit, step by step.
use Rattle.std.proofs.Common.{◌≡◌, refl, sym, ap, ◌∙◌, true, false, List, [], ◌∷◌, ◌++◌, map, Some}
use Rattle.std.proofs.lemmas.List.{append-nil}
use Rattle.edd_syntax.specs.declared.item.Item as code
use Rattle.edd_syntax.specs.declared.reference.Target.{Target}
use Rattle.edd_syntax.specs.declared.unit.Unit.{Unit}
use Rattle.edd_syntax.specs.Accepted.{name_breaches}
use Rattle.edd_syntax.specs.Item.{Description}
use Rattle.edd_syntax.specs.ItemView.{identification_of, numbered_items}
use Rattle.edd_syntax.specs.NameRules.{too_many}
use Rattle.edd_syntax.specs.Refusal.{Refusal}
use Rattle.edd_syntax.specs.Resolved.{description}
use Rattle.edd_syntax.specs.ResolvedTrees.{resolved_unit}
use Rattle.edd_syntax.specs.SubsetRules.{subset_breaches}
use Rattle.edd_breaches.specs.declared.breach.Breach.{Breach}
use Rattle.edd_breaches.specs.Told.{Told, Tells, broken, refusals, told_of}
use Rattle.edd_breaches.proofs.BrokenLaws.{told_broken}
use Rattle.edd_names.specs.Told.{IsMeant, names_told, told_of_names}
use Rattle.edd_names.specs.Units.{unit_view}
use Rattle.edd_types.specs.declared.sought.Calls.{Calls}
use Rattle.edd_types.specs.declared.sought.Calls.TheVariants as calls
use Rattle.edd_types.specs.Rules.{all_told}
use Rattle.edd_findings.specs.Breaches.{AreItems, Lists, calls_after}

nothing_left : (xs ys : List Refusal) → xs ++ ys ≡ [] → xs ≡ []
nothing_left [] ys h = refl
nothing_left (x ∷ xs) ys h = let clash : x ∷ (xs ++ ys) ≡ [] = h in absurd cc

nothing_told : (told : List Told) → refusals told ≡ [] → told ≡ []
nothing_told [] h = refl
nothing_told (t ∷ rest) h = let clash : t.refusal ∷ refusals rest ≡ [] = h in absurd cc

-- the same rules, with and without the places
pub same_rules : (told : List Told) (rules : List Refusal) (old new : List Breach) → old ≡ []
    → Tells told old new → broken new ≡ broken old ++ rules → refusals told ≡ rules
same_rules told rules old new none h are =
    sym (told_broken told old new h ∙ ap (λ bs. broken bs ++ refusals told) none)
    ∙ are ∙ ap (λ bs. broken bs ++ rules) none

-- what was told of a list that had nothing
told_now : (more : List Told) (old new : List Breach) → old ≡ [] → Tells more old new
    → map told_of new ≡ more
unfolding Tells
told_now more old new none h = h ∙ ap (λ bs. map told_of bs ++ more) none

module _ (u : Unit) where
  -- where it was not asked what names mean
  pub before_uses : (old new : List Breach) → old ≡ [] → Tells (names_told u false) old new
      → refusals (names_told u false) ≡ told_of_names (unit_view u) false
      → (too_many (unit_view u) ≡ [] → ⊥) → Lists u (map told_of new)
  before_uses old new none told names counted = record {
    was_asked = false;
    items = [];
    all = told_now (names_told u false) old new none told ∙ sym (append-nil (names_told u false));
    are_items = λ is. let clash : false ≡ true = is in absurd cc;
    names = names;
    counted = λ is. counted;
    profile = λ d fine meant. absurd (counted (nothing_left (too_many (unit_view u)) _ fine));
  }

  same_meaning : (d e : Description Target) → resolved_unit (unit_view u) ≡ Some d
      → resolved_unit (unit_view u) ≡ Some e → d ≡ e
  same_meaning d e h k = let same : Some d ≡ Some e = sym h ∙ k in cc

  module _ (items : List (code.Item Target)) (names : refusals (names_told u true)
      ≡ told_of_names (unit_view u) true) (rules : refusals (all_told calls.All items)
      ≡ subset_breaches (description (identification_of u.identification) (numbered_items items)))
      (means : IsMeant (unit_view u) (numbered_items items)) (are : AreItems u items) where
    abbrev whole : Description Target
    whole = description (identification_of u.identification) (numbered_items items)

    no_names : name_breaches (unit_view u) ≡ [] → names_told u true ≡ []
    no_names fine = nothing_told (names_told u true) (names ∙ fine)

    of_profile : (told : List Told) → told ≡ names_told u true
        ++ all_told (calls_after (names_told u true)) items → name_breaches (unit_view u) ≡ []
        → refusals told ≡ subset_breaches whole
    of_profile told is fine =
        ap refusals (is ∙ ap (λ ts. ts ++ all_told (calls_after ts) items) (no_names fine)) ∙ rules

    -- where it was asked
    pub with_profile : (old mid new : List Breach) (which : Calls) → old ≡ []
        → Tells (names_told u true) old mid → which ≡ calls_after (map told_of mid)
        → Tells (all_told which items) mid new → Lists u (map told_of new)
    unfolding Tells
    with_profile old mid new which none told is more =
        let before : map told_of mid ≡ names_told u true
        = told_now (names_told u true) old mid none told in
        let all : map told_of new ≡ names_told u true
        ++ all_told (calls_after (names_told u true)) items
        = more ∙ ap (λ ts. ts ++ all_told which items) before
        ∙ ap (λ c. names_told u true ++ all_told c items) (is ∙ ap calls_after before) in
        record {
          was_asked = true;
          items = items;
          all = all;
          are_items = λ is. are;
          names = names;
          counted = λ is. let clash : true ≡ false = is in absurd cc;
          profile = λ d fine meant. (
            sym (same_meaning whole d (means fine) meant),
            of_profile (map told_of new) all fine ∙ ap subset_breaches
                (same_meaning whole d (means fine) meant),
          );
        }
