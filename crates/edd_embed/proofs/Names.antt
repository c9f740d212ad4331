-- Names of an image are UTF-8.
use Rattle.std.proofs.Common.{◌≡◌, ℕ, ◌+◌, ◌*◌, ◌<◌, List, Option, Some, true, sym, ap, ◌∙◌}
use Rattle.std.specs.Prelude.{option_map}
use Rattle.std.specs.Str.{is_utf8}
use Rattle.edd_syntax.specs.declared.numbers.ItemNo.{ItemNo}
use Rattle.edd_syntax.specs.Text.{Name}
use Rattle.edd_syntax.specs.Names.{is_name}
use Rattle.edd_image.specs.Contents.{NameFields, contents_in, part, name_fields}
use Rattle.edd_image.specs.Fields.{counts_in, name_rows_start}
use Rattle.edd_image.specs.Layout.{item_count}
use Rattle.edd_instructions.specs.declared.rules.Rule.TheVariants as rule
use Rattle.edd_instructions.specs.Agreement.{name_numbered, place_of_item}
use Rattle.edd_instructions.specs.Validity.{IsValid}
use Rattle.edd_loader.specs.Lookups.{name_in_row}
use Rattle.edd_loader.proofs.LookupLaws.{all_at, name_in_place, name_row_at, name_utf8}

in_row : (b : List ℕ) (place : ℕ) (name : Name) → IsValid b → place < item_count (counts_in b)
    → name_in_row (contents_in b) place ≡ Some name → is_name name ≡ true
in_row b place name valid h named =
    let row = name_row_at b place h in
    let here : part (name_fields b (name_rows_start b + 8 * place)).span (contents_in b).name_bytes
    ≡ name = some_same _ _ (sym (ap (option_map (λ (r : NameFields). part r.span
    (contents_in b).name_bytes)) row) ∙ named) in
    sym (ap is_name here) ∙ all_at (λ (r : NameFields). is_name (part r.span
    (contents_in b).name_bytes)) (contents_in b).names place _ (valid rule.Name) row
  where
    some_same : (x y : List ℕ) → (let o : Option (List ℕ) = Some x in o) ≡ Some y → x ≡ y
    some_same x y e = cc

pub named_utf8 : (b : List ℕ) (item : ItemNo) (name : Name) → IsValid b
    → name_numbered (contents_in b) item ≡ Some name → is_utf8 name ≡ true
named_utf8 b item name valid named =
    let at = name_in_place b item name named in
    name_utf8 name (in_row b (place_of_item (counts_in b) item) name valid at.0 at.1)
