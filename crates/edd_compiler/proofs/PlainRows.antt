-- A row of a body is a method's, at 0.
use Rattle.std.proofs.Common.{◌≡◌, refl, sym, ap, ◌∙◌, ℕ, true, arith}
use Rattle.std.specs.Prelude.{◌||◌, ◌==◌}
use Rattle.std.specs.List.{All}
use Rattle.std.proofs.lemmas.Bool.{false≢true, and_parts}
use Rattle.std.proofs.lemmas.List.Sums.{AllPass-from_list_all}
use Rattle.std.proofs.lemmas.Grind.{common_steps}
use Rattle.edd_syntax.specs.declared.numbers.Attr.{Attr}
use Rattle.edd_syntax.specs.declared.numbers.Attr.TheVariants as attr
use Rattle.edd_syntax.specs.declared.numbers.AttrRef.{AttrRef}
use Rattle.edd_syntax.specs.declared.numbers.ItemNo.{ItemNo}
use Rattle.edd_syntax.specs.declared.numbers.ItemNo.TheVariants as items
use Rattle.edd_syntax.specs.declared.numbers.MethNo.{MethNo}
use Rattle.edd_syntax.specs.declared.reference.Target.{Target}
use Rattle.edd_syntax.specs.Attributes.{is_of_transaction}
use Rattle.edd_syntax.specs.Item.{Description}
use Rattle.edd_syntax.specs.Numbers.{has_attr, kind_of}
use Rattle.edd_syntax.specs.Resolved.{IsChecked}
use Rattle.edd_syntax.specs.Rows.{rows}
use Rattle.edd_instructions.specs.Agreement.{counts_of}
use Rattle.edd_image.specs.Existing.{item_exists}
use Rattle.edd_syntax.proofs.ItemForms.{formed_when_checked}
use Rattle.edd_syntax.proofs.KnownByNumber.{same_attrs}
use Rattle.edd_assembly.proofs.RowsPlaced.{is_placed, rows_placed}
use Rattle.edd_compiler.specs.Lowering.{IsPlain}

at_zero : (n : ℕ) → (n == 0) ≡ true → n ≡ 0
at_zero n h = grind (arith, common_steps)

-- only a method has a body
a_method : (i : ItemNo) → has_attr (kind_of i) attr.Definition ≡ true
    → (m : MethNo) × (i ≡ items.Method m)
a_method (items.Method m) may = (m, refl)
a_method (items.Array m) may = absurd cc
a_method _ may = absurd (false≢true may)

module _ (d : Description Target) where
  plain : (row : AttrRef) → is_placed (counts_of d.identification d.items 0) row ≡ true
      → IsPlain row
  plain row placed is =
      let there = and_parts (item_exists (counts_of d.identification d.items 0) row.item) _
      placed in
      let may = and_parts (has_attr (kind_of row.item) row.attr) (is_of_transaction row.attr
      || row.sub == 0) there.1 in
      let body : row.attr ≡ attr.Definition = same_attrs row.attr attr.Definition is in
      let method = a_method row.item (ap (has_attr (kind_of row.item)) (sym body) ∙ may.0) in
      let first : row.sub ≡ 0 =
      at_zero row.sub (ap (λ (a : Attr). is_of_transaction a || row.sub == 0) (sym body)
      ∙ may.1) in (
        method.0,
        ap (λ (i : ItemNo). record { item = i; attr = row.attr; sub = row.sub }) method.1
            ∙ ap (λ (a : Attr). record { item = items.Method method.0; attr = a; sub = row.sub })
            body
            ∙ ap (λ (n : ℕ). record {
              item = items.Method method.0;
              attr = attr.Definition;
              sub = n;
            }) first,
      )

  pub rows_plain : ∥ IsChecked d ∥₁ → All IsPlain (rows d.items)
  rows_plain checked =
      let pass = AllPass-from_list_all (is_placed (counts_of d.identification d.items 0))
      (rows d.items) (rows_placed d.identification d.items 0 (formed_when_checked d checked)) in
      λ k x below. plain _ (pass k x below)
