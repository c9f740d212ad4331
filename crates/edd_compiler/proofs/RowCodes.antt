-- The code of an attribute and that of a method, as code of their rows.
use Rattle.std.proofs.Common.{◌≡◌, refl, ℕ, ◌+◌, ◌*◌, ◌≤◌, true, false, List, ◌++◌, length}
use Rattle.edd_syntax.specs.declared.numbers.Attr.TheVariants as attr
use Rattle.edd_syntax.specs.declared.numbers.AttrRef.{AttrRef}
use Rattle.edd_syntax.specs.declared.numbers.ItemNo.TheVariants as items
use Rattle.edd_syntax.specs.declared.numbers.MethNo.{MethNo}
use Rattle.edd_syntax.specs.declared.reference.Target.{Target}
use Rattle.edd_syntax.specs.Execution.{body_of}
use Rattle.edd_syntax.specs.Item.{Description}
use Rattle.edd_syntax.specs.Numbers.{same_attr}
use Rattle.edd_syntax.specs.Size.{body_nodes}
use Rattle.edd_syntax.specs.Words.{Words}
use Rattle.edd_instructions.specs.Agreement.{IsAttributeCode}
use Rattle.edd_instructions.specs.MethodAgreement.{IsMethodCode}
use Rattle.edd_attrs.specs.Sizes.{length_limit, strings_at}
use Rattle.edd_attrs.specs.Trees.{tree_at}
use Rattle.edd_assembly.specs.RowContents.{strings_of_row}
use Rattle.edd_compiler.specs.Lowering.{IsCodeOf, IsRowCode}

module _ (d : Description Target) (row : AttrRef) (no_body : same_attr row.attr attr.Definition
    ≡ false) where
  pub attribute_strings : strings_of_row d row ≡ strings_at d row
  attribute_strings = rw no_body refl

  pub attribute_code : (table : List Words) (code : List ℕ)
      → ((more : List Words) → IsAttributeCode d (table ++ more) row code)
      → length code ≤ length_limit (tree_at d row)
      → IsCodeOf d table (record { row = row; code = code })
  attribute_code table code means short =
      record { means = λ more few. rw (no_body, IsRowCode) (means more); short = rw no_body short }

-- the row of a method's body, which has its slots in place of a position
abbrev pub body_row : MethNo → (slots : ℕ) → AttrRef
body_row m slots = record { item = items.Method m; attr = attr.Definition; sub = slots }

pub method_code : (d : Description Target) (m : MethNo) (slots : ℕ) (table : List Words)
    (code : List ℕ)
    → ((more : List Words) → length (table ++ more) ≤ 65535
    → IsMethodCode d (table ++ more) m slots code)
    → length code ≤ 32 * (1 + body_nodes (body_of d m))
    → IsCodeOf d table (record { row = body_row m slots; code = code })
method_code d m slots table code means short =
    record { means = λ more few. (m, refl, means more few); short = short }

-- the strings of a body's row are those of the method that it names
pub body_strings : (d : Description Target) (row : AttrRef) (m : MethNo)
    → same_attr row.attr attr.Definition ≡ true → row.item ≡ items.Method m
    → strings_of_row d (body_row m 0) ≡ strings_of_row d row
body_strings d row m is of = rw (is, of) refl
