-- The names that the rows cut are names.
use Rattle.std.proofs.Common.{◌≡◌, refl, sym, ap, ◌∙◌, Bool, true, false, List, [], ◌∷◌, map, filter}
use Rattle.std.specs.Prelude.{if◌then◌else◌}
use Rattle.std.specs.List.{flat_map, list_all}
use Rattle.std.proofs.lemmas.Bool.{and_parts, and_from}
use Rattle.std.proofs.lemmas.List.Folds.{list_all-map}
use Rattle.edd_syntax.specs.declared.numbers.Kind.{Kind}
use Rattle.edd_syntax.specs.declared.reference.Target.{Target}
use Rattle.edd_syntax.specs.Item.{kind_of_item, Item}
use Rattle.edd_syntax.specs.Names.{is_name}
use Rattle.edd_syntax.specs.Resolution.{kinds}
use Rattle.edd_syntax.specs.Numbers.{same_kind}
use Rattle.edd_syntax.specs.Rows.{of_kind}
use Rattle.edd_syntax.specs.WellFormed.{belongs_to}
use Rattle.edd_image.specs.Contents.{part, NameFields, fields_of_name}
use Rattle.edd_assembly.specs.Assembly.{name_rows, names_of_kind, names_of}
use Rattle.edd_assembly.proofs.Cutting.{names_cut}
use Rattle.edd_syntax.proofs.ItemForms.{is_formed, all_weaker}
use Rattle.edd_assembly.proofs.RowsPlaced.{all_blocks}

kept_pass : {X : Type 0} (p q : X → Bool) (xs : List X) → list_all p xs ≡ true
    → list_all p (filter q xs) ≡ true
kept_pass p q [] h = refl
kept_pass p q (x ∷ xs) h = pick (q x) (and_parts (p x) (list_all p xs) h).0
    (kept_pass p q xs (and_parts (p x) (list_all p xs) h).1)
  where
    pick : (b : Bool) → p x ≡ true → list_all p (filter q xs) ≡ true
        → list_all p (if b then x ∷ filter q xs else filter q xs) ≡ true
    pick true here rest = and_from (p x) (list_all p (filter q xs)) here rest
    pick false here rest = rest

all_named : (items : List (Item Target)) → list_all is_formed items ≡ true
    → list_all (λ i. is_name i.name) items ≡ true
all_named items h = all_weaker is_formed (λ i. is_name i.name)
    (λ i form. (and_parts (is_name i.name)
    (list_all (belongs_to (kind_of_item i.sort)) i.attributes) form).0) items h

names_of_one_kind : (items : List (Item Target)) → list_all is_formed items ≡ true → (k : Kind)
    → list_all is_name (names_of_kind k items) ≡ true
names_of_one_kind items h k = list_all-map is_name (λ (i : Item Target). i.name) (of_kind k items)
    ∙ kept_pass (λ (i : Item Target). is_name i.name) (λ i. same_kind (kind_of_item i.sort) k) items
    (all_named items h)

pub names_sound : (items : List (Item Target)) → list_all is_formed items ≡ true
    → list_all (λ r. is_name (part r.span (flat_map (λ n. n) (names_of items))))
    (map fields_of_name (name_rows 0 (names_of items))) ≡ true
names_sound items h =
    sym (list_all-map is_name (λ (r : NameFields). part r.span (flat_map (λ n. n) (names_of items)))
    (map fields_of_name (name_rows 0 (names_of items))))
    ∙ ap (list_all is_name) (names_cut (names_of items))
    ∙ all_blocks is_name (λ k. names_of_kind k items) (names_of_one_kind items h) kinds
