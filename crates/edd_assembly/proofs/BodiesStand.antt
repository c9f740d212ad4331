-- Each method of a checked description has a row with its body, so an instruction that adds an
-- abort method adds one with a body.
use Rattle.std.proofs.Common.{◌≡◌, refl, sym, ap, ◌∙◌, ℕ, ◌+◌, true, List, [], ◌∷◌, length, map, Option, Some, None}
use Rattle.std.specs.Prelude.{◌==◌, ◌||◌, nat_lt, slice_get, if◌then◌else◌}
use Rattle.std.specs.List.{AllByRecursion, list_all, list_any}
use Rattle.std.proofs.lemmas.Bool.{false≢true, and_parts, and_from, le-ltb}
use Rattle.edd_syntax.specs.declared.numbers.Kind.TheVariants as kind
use Rattle.edd_syntax.specs.declared.numbers.MethNo.{MethNo}
use Rattle.edd_syntax.specs.declared.reference.Target.{Target}
use Rattle.edd_syntax.specs.Item.{Item, Description}
use Rattle.edd_syntax.specs.Resolution.{count_of}
use Rattle.edd_syntax.specs.Resolved.{IsChecked}
use Rattle.edd_syntax.specs.Rows.{of_kind}
use Rattle.edd_syntax.specs.Words.{Words}
use Rattle.edd_instructions.specs.declared.instruction.Instruction.{Instruction}
use Rattle.edd_instructions.specs.declared.instruction.Instruction.TheVariants as instruction
use Rattle.edd_instructions.specs.declared.unit.Context.{Context}
use Rattle.edd_image.specs.Contents.{AttributeFields, Contents, fields_of_attribute}
use Rattle.edd_image.specs.Existing.{method_exists}
use Rattle.edd_instructions.specs.References.{names_exist}
use Rattle.edd_instructions.specs.Units.{Placed, instructions, IsValidUnit}
use Rattle.edd_instructions.specs.Validity.{placed_unit, has_body, adds_with_body}
use Rattle.edd_assembly.specs.Assembly.{Lowered, attribute_rows}
use Rattle.edd_assembly.specs.LoweredUnits.{AreUnitsOf}
use Rattle.edd_assembly.proofs.AttributesAgree.{past, its_kind}
use Rattle.edd_assembly.proofs.RowsAmong.{same_ref, among_rows}
use Rattle.edd_assembly.proofs.RowsFound.{Test, passes, of_body, body_ref, body_among}
use Rattle.edd_assembly.proofs.RowsRise.{key}
use Rattle.edd_assembly.proofs.WrittenBodies.{body_written}

-- ---- each method has its row

module _ (unit : Description Target) (strings : List Words) (lowered : List Lowered)
    (checked : ∥ IsChecked unit ∥₁) (units : AreUnitsOf unit strings lowered) where
  pub written : (m : MethNo) (i : Item Target)
      → slice_get (of_kind kind.Method unit.items) m.0 ≡ Some i
      → list_any (λ (l : Lowered). passes (of_body m) (key l.row)) lowered ≡ true
  written m i is =
      body_among m lowered
      (ap (list_any (same_ref (body_ref m))) units.in_order
      ∙ among_rows unit.items (body_ref m) i is
      ∙ ap (λ b. list_any (λ s. s == 0) (if b then 0 ∷ [] else []))
      (body_written unit checked m.0 i is (its_kind kind.Method unit.items m.0 i is)))

  -- what is among the rows is among their fields
  among_fields : (test : Test) (s : ℕ) (ls : List Lowered)
      → list_any (λ (l : Lowered). passes test (key l.row)) ls
      ≡ list_any (passes test) (map fields_of_attribute (attribute_rows s ls))
  among_fields test s [] = refl
  among_fields test s (l ∷ ls) =
      ap (λ b. passes test (key l.row) || b) (among_fields test (s + length l.code) ls)

  module _ (c : Contents)
      (rows : c.attributes ≡ map fields_of_attribute (attribute_rows 0 lowered))
      (methods : c.counts.methods ≡ count_of kind.Method unit.items) where
    stands : (m : MethNo) (o : Option (Item Target))
        → slice_get (of_kind kind.Method unit.items) m.0 ≡ o
        → method_exists c.counts m ≡ true → has_body c m ≡ true
    stands m (Some i) is there =
        ap (list_any (passes (of_body m))) rows ∙ sym (among_fields (of_body m) 0 lowered)
        ∙ written m i is
    stands m None none there =
        absurd (false≢true (sym (le-ltb m.0 (count_of kind.Method unit.items)
        (past (of_kind kind.Method unit.items) m.0 none))
        ∙ ap (λ n. nat_lt m.0 n) (sym methods) ∙ there))

    -- where what an instruction names exists
    adds : (context : Context) → context.counts ≡ c.counts → (i : Instruction)
        → names_exist context i ≡ true → adds_with_body c i ≡ true
    adds context same (instruction.AddAbortMethod m) h =
        stands m (slice_get (of_kind kind.Method unit.items) m.0) refl
        (ap (λ n. method_exists n m) (sym same) ∙ h)
    adds context same _ h = refl

    all_add : (context : Context) → context.counts ≡ c.counts → (xs : List Placed)
        → list_all (λ x. names_exist context x.instruction) xs ≡ true
        → list_all (λ x. adds_with_body c x.instruction) xs ≡ true
    all_add context same [] h = refl
    all_add context same (x ∷ xs) h =
        let parts = and_parts (names_exist context x.instruction)
        (list_all (λ y. names_exist context y.instruction) xs) h in
        and_from (adds_with_body c x.instruction)
        (list_all (λ y. adds_with_body c y.instruction) xs)
        (adds context same x.instruction parts.0) (all_add context same xs parts.1)

    pub units_add : (rs : List AttributeFields)
        → AllByRecursion (λ u. IsValidUnit u.context u.code) (map (placed_unit c) rs)
        → list_all (λ u. list_all (λ x. adds_with_body c x.instruction) (instructions u.code))
        (map (placed_unit c) rs) ≡ true
    units_add [] h = refl
    units_add (r ∷ rs) h =
        let u = placed_unit c r in
        and_from (list_all (λ x. adds_with_body c x.instruction) (instructions u.code))
        (list_all (λ v. list_all (λ x. adds_with_body c x.instruction) (instructions v.code))
        (map (placed_unit c) rs))
        (all_add u.context refl (instructions u.code) h.0.references) (units_add rs h.1)
