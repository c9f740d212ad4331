-- What is told of the names of a unit, and what its items mean where no rule on names is broken.
use Rattle.std.proofs.Common.{◌≡◌, refl, sym, ap, ◌∙◌, List, [], ◌∷◌, ◌++◌, length, map, Some, append_assoc, arith}
use Rattle.std.specs.Prelude.{IsTrue}
use Rattle.std.specs.List.{flat_map}
use Rattle.edd_name_meanings.specs.declared.directory.Names.{Names}
use Rattle.edd_name_meanings.specs.Directory.{description_of}
use Rattle.edd_breaches.specs.declared.breach.Breach.{Breach}
use Rattle.edd_breaches.specs.Told as breaches
use Rattle.edd_breaches.specs.Told.{Told, told_at, refusals}
use Rattle.edd_breaches.proofs.TellLaws.{tells_append, refusals_append}
use Rattle.edd_name_meanings.specs.Meanings.{AllMembersNamed, NoFault, faults_in}
use Rattle.edd_names.specs.Told.{IsMeant, IsRead, rules_before}
use Rattle.edd_names.specs.Units.{unit_view}
use Rattle.edd_names.proofs.MemberLaws.{Every, all_fine, all_named}
use Rattle.edd_names.proofs.ReadingLaws.{same_items}
use Rattle.edd_name_meanings.specs.Copies.{Tells, told_in}
use Rattle.edd_name_meanings.specs.Places.{place_of_use}
use Rattle.edd_name_meanings.specs.StandIns.{read_in, reading_of}
use Rattle.edd_name_meanings.proofs.UseCases.{reads_as_meant}
use Rattle.edd_syntax.specs.declared.numbers.TokenNo.{TokenNo}
use Rattle.edd_syntax.specs.declared.item.Item as code_item
use Rattle.edd_syntax.specs.declared.reference.Path as code_path
use Rattle.edd_syntax.specs.declared.reference.Target.{Target}
use Rattle.edd_syntax.specs.declared.unit.Unit.{Unit}
use Rattle.edd_syntax.specs.Accepted.{name_breaches}
use Rattle.edd_syntax.specs.Item.{Description, Item}
use Rattle.edd_syntax.specs.ItemView.{identification_of, named_items}
use Rattle.edd_syntax.specs.NameRules.{too_many, duplicate_names, duplicate_attributes, missing_attributes, faults_of_use, wrong_uses}
use Rattle.edd_syntax.specs.NameUses.{Use, unit_uses}
use Rattle.edd_syntax.specs.Reference.{Path}
use Rattle.edd_syntax.specs.Refusal.{Refusal, first_of}
use Rattle.edd_syntax.specs.Resolved.{description}
use Rattle.edd_syntax.specs.ResolvedTrees.{◌>>=◌, meant_in, resolved_unit}
use Rattle.edd_syntax.specs.WellFormed.{are_items}

nothing_right : {A : Type 0} (xs ys : List A) → xs ++ ys ≡ [] → ys ≡ []
nothing_right [] ys h = h
nothing_right (x ∷ xs) ys h = let clash : x ∷ (xs ++ ys) ≡ [] = h in absurd cc

-- ---- the rules one after the other

module _ (unit : Description Path) where
  in_order : name_breaches unit ≡ rules_before unit ++ wrong_uses unit
  in_order =
      sym (append_assoc (too_many unit) (duplicate_names unit
      ++ (duplicate_attributes unit ++ missing_attributes unit)) (wrong_uses unit)
      ∙ ap (λ xs. too_many unit ++ xs)
      (append_assoc (duplicate_names unit) (duplicate_attributes unit
      ++ missing_attributes unit) (wrong_uses unit))
      ∙ ap (λ xs. too_many unit ++ (duplicate_names unit ++ xs))
      (append_assoc (duplicate_attributes unit) (missing_attributes unit) (wrong_uses unit)))

  -- ---- what was told

  pub tells_in_order : (rules : List Told) (paths : List code_path.Path) (old mid new : List Breach)
      → breaches.Tells rules old mid → Tells unit (unit_uses unit) paths mid new
      → breaches.Tells (rules ++ told_in unit (unit_uses unit) paths) old new
  unfolding Tells
  tells_in_order rules paths old mid new h k =
      tells_append rules (told_in unit (unit_uses unit) paths) old mid new h k.1

  of_use : (rs : List Refusal) (at : TokenNo) → refusals (map (λ why. told_at why at) rs) ≡ rs
  of_use [] at = refl
  of_use (r ∷ rs) at = ap (λ all. r ∷ all) (of_use rs at)

  -- the faults of uses, without their places
  of_uses : (us : List Use) (ps : List code_path.Path) → length us ≡ length ps
      → refusals (told_in unit us ps) ≡ flat_map (faults_of_use unit) us
  of_uses [] ps same = refl
  of_uses (u ∷ us) [] same = absurd (omega (arith, same))
  of_uses (u ∷ us) (p ∷ ps) same =
      refusals_append (map (λ why. told_at why (place_of_use unit u p)) (faults_of_use unit u))
      (told_in unit us ps)
      ∙ ap (λ all. all ++ refusals (told_in unit us ps))
      (of_use (faults_of_use unit u) (place_of_use unit u p))
      ∙ ap (λ all. faults_of_use unit u ++ all) (of_uses us ps (omega (arith, same)))

  pub rules_in_order : (rules : List Told) (paths : List code_path.Path) (mid new : List Breach)
      → refusals rules ≡ rules_before unit → Tells unit (unit_uses unit) paths mid new
      → refusals (rules ++ told_in unit (unit_uses unit) paths) ≡ name_breaches unit
  unfolding Tells
  rules_in_order rules paths mid new are k =
      refusals_append rules (told_in unit (unit_uses unit) paths)
      ∙ ap (λ all. all ++ refusals (told_in unit (unit_uses unit) paths)) are
      ∙ ap (λ all. rules_before unit ++ all) (of_uses (unit_uses unit) paths k.0)
      ∙ sym in_order

  no_fault : name_breaches unit ≡ [] → NoFault unit (unit_uses unit)
  unfolding NoFault faults_in
  no_fault none = sym (ap first_of (nothing_right (rules_before unit) (wrong_uses unit)
      (sym in_order ∙ none)))

  reads_same : AllMembersNamed unit → (us : List Use) → Every (λ u. faults_of_use unit u ≡ []) us
      → Every (λ u. reading_of (read_in unit) u ≡ reading_of (meant_in unit) u) us
  reads_same named [] h = tt
  reads_same named (u ∷ us) h = (reads_as_meant unit u h.0 named, reads_same named us h.1)

  -- where no rule on names is broken, names are read as what they mean
  pub is_meant : (items : List (Item Target)) → IsTrue (are_items unit.items) → IsRead unit items
      → IsMeant unit items
  unfolding resolved_unit NoFault faults_in
  is_meant items good h = λ none.
      let fine = no_fault none in
      ap (λ o. o >>= (λ xs. Some (description unit.identification xs)))
      (sym (same_items (read_in unit) (meant_in unit) unit.items
      (reads_same (all_named unit good fine) (unit_uses unit)
      (all_fine unit (unit_uses unit) fine)))
      ∙ h)

-- the unit whose names were taken
pub same_unit : (n : Names) (u : Unit) (xs : List (code_item.Item code_path.Path))
    → n.identification ≡ u.identification → n.items.now ≡ xs → xs ≡ u.items.items
    → description_of n ≡ unit_view u
same_unit n u xs identification items value =
    ap (λ i. description (identification_of i) (named_items n.items.now)) identification
    ∙ ap (λ ys. description (identification_of u.identification) (named_items ys)) (items ∙ value)
