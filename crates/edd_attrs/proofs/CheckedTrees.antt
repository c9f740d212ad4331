-- What the tree of a row of a checked description keeps.
use Rattle.std.proofs.Common.{◌≡◌, refl, sym, ap, subst, ◌∙◌, ℕ, suc, ◌≤◌, Bool, true, false, List, [], ◌∷◌, ◌++◌, length, map, filter, Option, Some, None, cond, arith}
use Rattle.std.specs.Prelude.{◌&&◌, nat_lt, if◌then◌else◌}
use Rattle.std.specs.List.{list_all, flat_map}
use Rattle.std.proofs.Math.Logic.{∥∥₁_elim}
use Rattle.std.proofs.Math.Bool.{Bool-set}
use Rattle.std.proofs.Math.Path.{fun_ext}
use Rattle.std.proofs.lemmas.Option.{same_Some}
use Rattle.std.proofs.lemmas.Bool.{lt-ltb, ltb-false}
use Rattle.edd_syntax.specs.declared.numbers.Kind.{Kind}
use Rattle.edd_syntax.specs.declared.numbers.Kind.TheVariants as kind
use Rattle.edd_syntax.specs.declared.numbers.ItemNo.{ItemNo}
use Rattle.edd_syntax.specs.declared.numbers.ItemNo.TheVariants as item_no
use Rattle.edd_syntax.specs.declared.numbers.AttrRef.{AttrRef}
use Rattle.edd_syntax.specs.Reference.{Path}
use Rattle.edd_syntax.specs.declared.reference.Target.{Target}
use Rattle.edd_syntax.specs.declared.reference.Target.TheVariants as target
use Rattle.edd_syntax.specs.Item as item
use Rattle.edd_syntax.specs.Item.{kind_of_item, DataItem, TypePart, TransactionPart, Attribute, Item, Description}
use Rattle.edd_syntax.specs.Numbers.{same_kind}
use Rattle.edd_syntax.specs.Resolution.{count_of}
use Rattle.edd_syntax.specs.Refusal.{Refusal, ConstRange, refused_if}
use Rattle.edd_syntax.specs.SubsetRules.{values_of, cond_defaults, conds_defaults, type_part_defaults, transaction_part_defaults, repeated_cases, duplicate_cases, duplicate_elements, data_breaches, transaction_part_breaches, attribute_data_breaches, wrong_types, mismatches, float_values, wrong_breaks, wrong_constants}
use Rattle.edd_syntax.specs.WellFormed.{is_path, is_plain, is_item, are_items}
use Rattle.edd_syntax.specs.ResolvedTrees.{each, resolved_attribute, resolved_item, resolved_unit, meant_in, Reading}
use Rattle.edd_syntax.specs.Resolved.{IsChecked}
use Rattle.edd_syntax.proofs.WithinLimits.{each_keeps}
use Rattle.edd_attrs.specs.Trees as trees
use Rattle.edd_attrs.specs.Trees.{Tree, trees_of_part, trees_of_parts, tree_of_transaction_part, tree_at}
use Rattle.edd_attrs.specs.Records.{kept_data}
use Rattle.edd_attrs.proofs.InTrees.{if_there, all_append, named, throughout, throughout_item, tree_has}
use Rattle.edd_image.specs.declared.parts.Counts.{Counts}
use Rattle.edd_code.specs.Reads.{reads_existing}
use Rattle.edd_attrs.proofs.GoodParts.{each_all, all_both, is_good}
use Rattle.edd_attrs.proofs.GoodTrees.{has_arrays, item_good}
use Rattle.edd_syntax.proofs.Made.{bind_some}
use Rattle.edd_syntax.proofs.Existing.{is_item_of}
use Rattle.edd_code.proofs.BothTests.{both_of, both_true}

pub front_none : {A : Type 0} (xs ys : List A) → xs ++ ys ≡ [] → (xs ≡ []) × (ys ≡ [])
front_none [] ys h = (refl, h)
front_none (x ∷ xs) ys h = absurd (omega (arith, ap length h))

data_small : (d : DataItem Target) → data_breaches d ≡ [] → kept_data d ≡ true
data_small (item.Constant n) h = here (nat_lt 255 n) refl h
  where
    here : (b : Bool) → nat_lt 255 n ≡ b → refused_if b ConstRange ≡ [] → nat_lt n 256 ≡ true
    here true is h = absurd (omega (arith, ap length h))
    here false is h = lt-ltb n 256 (omega (arith, ltb-false 255 n is))
data_small (item.Variable variable mask qualifiers) h = refl

flat_none : {A B : Type 0} (f : A → List B) (xs ys : List A) → flat_map f (xs ++ ys) ≡ []
    → (flat_map f xs ≡ []) × (flat_map f ys ≡ [])
flat_none f [] ys h = (refl, h)
flat_none f (x ∷ xs) ys h =
    let first = front_none (f x) (flat_map f (xs ++ ys)) h in
    let rest = flat_none f xs ys first.1 in
    (ap (λ zs. zs ++ flat_map f xs) first.0 ∙ rest.0, rest.1)

all_small : (ds : List (DataItem Target)) → flat_map data_breaches ds ≡ [] → list_all kept_data ds
    ≡ true
all_small [] h = refl
all_small (d ∷ ds) h = let both = front_none (data_breaches d) (flat_map data_breaches ds) h in rw
    (data_small d both.0, all_small ds both.1) refl

-- ---- constants are octets, and no SELECT has two DEFAULTs

abbrev pub no_breach : List Refusal → Bool
no_breach [] = true
no_breach (r ∷ rs) = false

pub none_broken : (rs : List Refusal) → no_breach rs ≡ true → rs ≡ []
none_broken [] h = refl
none_broken (r ∷ rs) h = absurd cc

none_is : {rs : List Refusal} → rs ≡ [] → no_breach rs ≡ true
none_is h = ap no_breach h

abbrev pub ruled_element : TypePart Target → Bool
ruled_element (item.Element c) = no_breach (cond_defaults c)
ruled_element _ = true

abbrev pub is_ruled : Tree → Bool
is_ruled (trees.Texts c) = no_breach (cond_defaults c)
is_ruled (trees.Handling c) = no_breach (cond_defaults c)
is_ruled (trees.Validity c) = no_breach (cond_defaults c)
is_ruled (trees.Expressions c) = no_breach (cond_defaults c)
is_ruled (trees.Enumerators parts) = list_all ruled_element parts
is_ruled (trees.Data all) = list_all kept_data (values_of all) && no_breach (conds_defaults all)
is_ruled (trees.Items entries) = no_breach (conds_defaults entries)
is_ruled _ = true

part_ruled : (p : TransactionPart Target) → transaction_part_breaches p ≡ []
    → transaction_part_defaults p ≡ [] → named is_ruled (tree_of_transaction_part p) ≡ true
part_ruled (item.Request all) h k = rw (all_small (values_of all) h, none_is k) refl
part_ruled (item.Reply all) h k = rw (all_small (values_of all) h, none_is k) refl

parts_ruled : (parts : List (TransactionPart Target)) → flat_map transaction_part_breaches parts
    ≡ [] → flat_map transaction_part_defaults parts ≡ []
    → list_all (named is_ruled) (map tree_of_transaction_part parts) ≡ true
parts_ruled [] h k = refl
parts_ruled (p ∷ rest) h k =
    let both = front_none (transaction_part_breaches p) (flat_map transaction_part_breaches rest)
    h in
    let defaults = front_none (transaction_part_defaults p)
    (flat_map transaction_part_defaults rest) k in
    rw (part_ruled p both.0 defaults.0, parts_ruled rest both.1 defaults.1) refl

abbrev ruled_part : TypePart Target → Bool
ruled_part p = list_all (named is_ruled) (trees_of_part p) && ruled_element p

type_part_ruled : (p : TypePart Target) → type_part_defaults p ≡ [] → ruled_part p ≡ true
type_part_ruled (item.OneNumber which c) k = rw (none_is k) refl
type_part_ruled (item.OneFormat which c) k = rw (none_is k) refl
type_part_ruled (item.Element c) k = none_is k

type_parts_ruled : (parts : List (TypePart Target)) → flat_map type_part_defaults parts ≡ []
    → (list_all ruled_element parts && list_all (named is_ruled) (trees_of_parts parts)) ≡ true
type_parts_ruled [] k = refl
type_parts_ruled (p ∷ rest) k =
    let defaults = front_none (type_part_defaults p) (flat_map type_part_defaults rest) k in
    let here = both_of (list_all (named is_ruled) (trees_of_part p)) (ruled_element p)
    (type_part_ruled p defaults.0) in
    let others = both_of (list_all ruled_element rest)
    (list_all (named is_ruled) (trees_of_parts rest)) (type_parts_ruled rest defaults.1) in
    rw (here.1, others.0) (all_append (named is_ruled) (trees_of_part p) (trees_of_parts rest)
    here.0 others.1)

-- one tree, and none inside
alone : {b : Bool} → b ≡ true → ((b && true) && true) ≡ true
alone h = rw h refl

attribute_ruled : (a : Attribute Target) → attribute_data_breaches a ≡ [] → repeated_cases a ≡ []
    → throughout is_ruled a ≡ true
attribute_ruled (item.OneText which c) h k = alone (none_is k)
attribute_ruled (item.Handling c) h k = alone (none_is k)
attribute_ruled (item.Validity c) h k = alone (none_is k)
attribute_ruled (item.TypeOf word parts) h k = rw (type_parts_ruled parts k) refl
attribute_ruled (item.Transaction number parts) h k = parts_ruled parts h k
attribute_ruled (item.Items entries) h k = alone (none_is k)
attribute_ruled _ h k = refl

attributes_ruled : (attributes : List (Attribute Target))
    → flat_map attribute_data_breaches attributes ≡ [] → flat_map repeated_cases attributes ≡ []
    → list_all (throughout is_ruled) attributes ≡ true
attributes_ruled [] h k = refl
attributes_ruled (a ∷ rest) h k =
    let both = front_none (attribute_data_breaches a) (flat_map attribute_data_breaches rest) h in
    let defaults = front_none (repeated_cases a) (flat_map repeated_cases rest) k in
    rw (attribute_ruled a both.0 defaults.0, attributes_ruled rest both.1 defaults.1) refl

items_ruled : (items : List (Item Target))
    → flat_map attribute_data_breaches (flat_map (λ i. i.attributes) items) ≡ []
    → flat_map repeated_cases (flat_map (λ i. i.attributes) items) ≡ []
    → list_all (throughout_item is_ruled) items ≡ true
items_ruled [] h k = refl
items_ruled (i ∷ rest) h k =
    let both = flat_none attribute_data_breaches i.attributes (flat_map (λ j. j.attributes) rest)
    h in
    let defaults = flat_none repeated_cases i.attributes (flat_map (λ j. j.attributes) rest) k in
    rw (attributes_ruled i.attributes both.0 defaults.0, items_ruled rest both.1 defaults.1) refl

-- ---- the items of a description and of the unit that it comes from are as many

filter_lengths : {X C : Type 0} (κ : X → C) (p : C → Bool) (xs : List X)
    → length (filter (λ x. p (κ x)) xs) ≡ length (filter p (map κ xs))
filter_lengths κ p [] = refl
filter_lengths κ p (x ∷ xs) = here (p (κ x)) (filter_lengths κ p xs)
  where
    here : (b : Bool) → length (filter (λ x. p (κ x)) xs) ≡ length (filter p (map κ xs))
        → length (cond b (x ∷ filter (λ y. p (κ y)) xs) (filter (λ y. p (κ y)) xs))
        ≡ length (cond b (κ x ∷ filter p (map κ xs)) (filter p (map κ xs)))
    here true h = omega (arith, h)
    here false h = h

sort_kept : (names : Reading) (i : Item Path) (y : Item Target)
    → resolved_item names i ≡ Some y → y.sort ≡ i.sort
sort_kept names i y h =
    let x = bind_some (each (resolved_attribute names i.sort) i.attributes)
    (λ attributes. Some (record { sort = i.sort; name = i.name; attributes = attributes })) y
    h in
    sym (ap (λ (z : Item Target). z.sort)
    (same_Some (record { sort = i.sort; name = i.name; attributes = x.0 }) y x.2))

count_kept : (unit : Description Path) (items : List (Item Target))
    → each (resolved_item (meant_in unit)) unit.items ≡ Some items → (k : Kind)
    → count_of k items ≡ count_of k unit.items
count_kept unit items meant k =
    filter_lengths (λ i. i.sort) (λ s. same_kind (kind_of_item s) k) items
    ∙ ap (λ ss. length (filter (λ s. same_kind (kind_of_item s) k) ss))
    (each_keeps (resolved_item (meant_in unit)) (λ i. i.sort) (λ i. i.sort)
    (sort_kept (meant_in unit)) unit.items
    items meant)
    ∙ sym (filter_lengths (λ i. i.sort) (λ s. same_kind (kind_of_item s) k) unit.items)

-- ---- a checked description

-- how many items there are, and nothing else
abbrev pub counts_with : (Kind → ℕ) → Counts
counts_with count = record {
  variables = count kind.Variable;
  commands = count kind.Command;
  menus = count kind.Menu;
  collections = count kind.Collection;
  methods = count kind.Method;
  arrays = count kind.Array;
  strings = 0;
  manufacturer = 0;
  device_type = 0;
  device_revision = 0;
  dd_revision = 0;
}

-- what an expression may read of a description with so many items
abbrev pub reads_of : (Kind → ℕ) → Target → Bool
reads_of count t = reads_existing (counts_with count) t

item_readable : (count : Kind → ℕ) (i : ItemNo) → is_item_of count i ≡ true
    → reads_of count (target.Item i) ≡ true
item_readable count (item_no.Command n) h = refl
item_readable count (item_no.Menu n) h = refl
item_readable count (item_no.Collection n) h = refl
item_readable count _ h = h

abbrev pub is_whole : Description Target → Tree → Bool
is_whole d t = is_good (λ k. count_of k d.items) (reads_of (λ k. count_of k d.items)) t
    && is_ruled t

-- an array is among so many
abbrev are_counted : ℕ → List (Item Path) → Bool
are_counted n xs = list_all
    (λ i. if same_kind (kind_of_item i.sort) kind.Array then nat_lt 0 n else true) xs

-- where there is an array, there are some
all_counted : (xs : List (Item Path)) (n : ℕ) → count_of kind.Array xs ≤ n → are_counted n xs
    ≡ true
all_counted [] n h = refl
all_counted (x ∷ xs) n h =
    here (same_kind (kind_of_item x.sort) kind.Array) refl (λ k. all_counted xs n k)
  where
    here : (b : Bool) → same_kind (kind_of_item x.sort) kind.Array ≡ b
        → (count_of kind.Array xs ≤ n → are_counted n xs ≡ true) → are_counted n (x ∷ xs) ≡ true
    here true is rest =
        let more : count_of kind.Array (x ∷ xs) ≡ suc (count_of kind.Array xs) = rw is refl in
        rw is (both_true (lt-ltb 0 n (omega (arith, h, more))) (rest (omega (arith, h, more))))
    here false is rest =
        let same : count_of kind.Array (x ∷ xs) ≡ count_of kind.Array xs = rw is refl in
        rw is (rest (omega (arith, h, same)))

both_there : {A : Type 0} (p q : A → Bool) (o : Option A) → if_there p o ≡ true
    → if_there q o ≡ true → if_there (λ x. p x && q x) o ≡ true
both_there p q None h k = refl
both_there p q (Some x) h k = rw (h, k) refl

abbrev good_with : (Kind → ℕ) → Tree → Bool
good_with count t = is_good count (reads_of count) t

module _ (d : Description Target) (row : AttrRef) where
  whole_in : IsChecked d → if_there (is_whole d) (tree_at d row) ≡ true
  unfolding resolved_unit are_items
  whole_in checked =
      let u = checked.is_resolved.unit in
      let x = bind_some (each (resolved_item (meant_in u)) u.items)
      (λ items. Some (record { identification = u.identification; items = items })) d
      checked.is_resolved.meanings in
      let same_items : x.0 ≡ d.items = ap (λ (e : Description Target). e.items)
      (same_Some (record { identification = u.identification; items = x.0 }) d x.2) in
      let good : list_all (throughout_item (good_with (λ k. count_of k u.items))) x.0 ≡ true =
      each_all (resolved_item (meant_in u)) (λ i. is_item is_path is_plain i && has_arrays
      (λ k. count_of k u.items) i.sort) (throughout_item (good_with (λ k. count_of k u.items)))
      (item_good u (reads_of (λ k. count_of k u.items)) (item_readable (λ k. count_of k u.items)))
      u.items (all_both (is_item is_path is_plain)
      (λ i. has_arrays (λ k. count_of k u.items) i.sort) u.items checked.is_resolved.well_formed
      (all_counted u.items (count_of kind.Array u.items) (omega arith))) x.1 in
      let counts : (λ k. count_of k u.items) ≡ (λ k. count_of k d.items) =
      fun_ext (λ k. sym (count_kept u d.items (x.1 ∙ ap Some same_items) k)) in
      let good_here : list_all (throughout_item (good_with (λ k. count_of k d.items))) d.items
      ≡ true =
      subst (λ (items : List (Item Target)). list_all
      (throughout_item (good_with (λ k. count_of k d.items))) items ≡ true) same_items
      (subst (λ (count : Kind → ℕ). list_all (throughout_item (good_with count)) x.0 ≡ true) counts
      good) in
      let last = (front_none (wrong_breaks d) _
      (front_none (float_values d) _
      (front_none (mismatches d) _ (front_none (wrong_types d) _ checked.no_breach).1).1).1).1
      in
      let none = front_none (wrong_constants d) (duplicate_cases d ++ duplicate_elements d) last in
      let cases = front_none (duplicate_cases d) (duplicate_elements d) none.1 in
      both_there (good_with (λ k. count_of k d.items)) is_ruled (tree_at d row)
      (tree_has (good_with (λ k. count_of k d.items)) d row good_here)
      (tree_has is_ruled d row (items_ruled d.items none.0 cases.0))

  pub whole_when_checked : ∥ IsChecked d ∥₁ → if_there (is_whole d) (tree_at d row) ≡ true
  whole_when_checked checked = ∥∥₁_elim checked (Bool-set _ _) whole_in
