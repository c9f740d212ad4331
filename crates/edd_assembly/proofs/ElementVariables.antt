-- The variable of each element of a checked description exists.
use Rattle.std.proofs.Common.{◌≡◌, refl, sym, ap, ◌∙◌, ℕ, Bool, true, List, [], ◌∷◌, map, Option, Some, nat_lt}
use Rattle.std.specs.List.{flat_map, list_all}
use Rattle.std.proofs.lemmas.Bool.{and_parts, and_from}
use Rattle.std.proofs.lemmas.List.Folds.{list_all-append}
use Rattle.std.proofs.Math.Logic.{∥∥₁_elim}
use Rattle.std.proofs.Math.Bool.{Bool-set}
use Rattle.edd_syntax.specs.Reference.{Path}
use Rattle.edd_syntax.specs.declared.reference.Target.{Target}
use Rattle.edd_syntax.specs.declared.reference.Target.TheVariants as target
use Rattle.edd_syntax.specs.declared.numbers.Kind.TheVariants as kind
use Rattle.edd_syntax.specs.declared.numbers.ItemNo.{ItemNo}
use Rattle.edd_syntax.specs.declared.numbers.ItemNo.TheVariants as item_no
use Rattle.edd_syntax.specs.Item as item
use Rattle.edd_syntax.specs.Item.{ItemKind, ArrayElement, Attribute, Item, Description}
use Rattle.edd_syntax.specs.Elements.{written_elements}
use Rattle.edd_syntax.specs.Targets.{variable_of}
use Rattle.edd_syntax.specs.Resolution.{count_of, variable_kinds, member_kinds, is_among}
use Rattle.edd_syntax.specs.ResolvedTrees.{each, unchanged, resolved_cond, resolved_conds, resolved_body, item_among, at_attribute, resolved_entry, resolved_member, resolved_element, resolved_type_part, resolved_transaction_part, resolved_attribute, resolved_item, meant_in}
use Rattle.edd_syntax.specs.Resolved.{IsChecked}
use Rattle.edd_syntax.proofs.WithinLimits.{each_keeps, items_meant, same_count}
use Rattle.edd_syntax.proofs.Existing.{exists_in, meant_exists}
use Rattle.edd_syntax.proofs.Made.{bind_some}
use Rattle.edd_syntax.proofs.ItemForms.{at_some, all_mapped, made}

-- ---- lists

all_true : {A : Type 0} (xs : List A) → list_all (λ b. b) (map (λ x. true) xs) ≡ true
all_true [] = refl
all_true (x ∷ xs) = all_true xs

-- each of what is resolved passes a test
each_passes : {A B : Type 0} (of : A → Option B) (test : B → Bool)
    → ((x : A) (y : B) → of x ≡ Some y → test y ≡ true) → (xs : List A) {ys : List B}
    → each of xs ≡ Some ys → list_all test ys ≡ true
each_passes of test passes xs {ys} h =
    all_mapped test ys
    ∙ ap (list_all (λ b. b)) (each_keeps of (λ x. true) test passes xs ys h)
    ∙ all_true xs

all_joined : {A B : Type 0} (test : B → Bool) (f : A → List B) (xs : List A)
    → list_all (λ x. list_all test (f x)) xs ≡ true → list_all test (flat_map f xs) ≡ true
all_joined test f [] h = refl
all_joined test f (x ∷ xs) h =
    let parts = and_parts (list_all test (f x)) (list_all (λ y. list_all test (f y)) xs) h in
    list_all-append test (f x) (flat_map f xs)
    ∙ and_from (list_all test (f x)) (list_all test (flat_map f xs)) parts.0
    (all_joined test f xs parts.1)

-- ---- of a unit

-- its variable is one of so many
abbrev pub has_variable : ℕ → ArrayElement Target → Bool
has_variable count e = nat_lt (variable_of e.variable).0 count

abbrev pub has_variables : ℕ → Item Target → Bool
has_variables count i = list_all (has_variable count) (flat_map written_elements i.attributes)

module _ (unit : Description Path) where
  abbrev count : ℕ
  count = count_of kind.Variable unit.items

  -- the item that is meant is a variable
  numbered : (i : ItemNo) → is_among variable_kinds i ≡ true → exists_in unit i ≡ true
      → nat_lt (variable_of (target.Item i)).0 count ≡ true
  numbered (item_no.Variable v) among there = there
  numbered _ among there = absurd cc

  element_has : (e : ArrayElement Path) (f : ArrayElement Target) → resolved_element (meant_in unit)
      e ≡ Some f
      → has_variable count f ≡ true
  element_has e f h =
      let x = bind_some (item_among (meant_in unit) variable_kinds e.variable)
      (λ variable. Some (record {
        number = e.number;
        variable = variable;
        label = e.label;
        help = e.help;
      })) f h in
      let i = meant_exists unit variable_kinds e.variable x.0 x.1 in
      sym (at_some (has_variable count) true (record {
        number = e.number;
        variable = x.0;
        label = e.label;
        help = e.help;
      }) f x.2)
      ∙ ap (λ t. nat_lt (variable_of t).0 count) i.1
      ∙ numbered i.0 i.3 i.2

  abbrev has : Attribute Target → Bool
  has a = list_all (has_variable count) (written_elements a)

  attribute_has : (sort : ItemKind) (a : Attribute Path) (b : Attribute Target)
      → resolved_attribute (meant_in unit) sort a ≡ Some b → has b ≡ true
  attribute_has sort (item.OneText which c) b h =
      made has (resolved_cond (at_attribute (meant_in unit)) unchanged c) (item.OneText which) b
      true
      (λ x. refl) h
  attribute_has sort (item.Class words) b h = sym (at_some has true (item.Class words) b h)
  attribute_has sort (item.Handling c) b h =
      made has (resolved_cond (at_attribute (meant_in unit)) unchanged c) item.Handling b true
      (λ x. refl) h
  attribute_has sort (item.Validity c) b h =
      made has (resolved_cond (at_attribute (meant_in unit)) unchanged c) item.Validity b true
      (λ x. refl) h
  attribute_has sort (item.TypeOf word parts) b h =
      made has (each (resolved_type_part (meant_in unit)) parts) (item.TypeOf word) b true
      (λ x. refl) h
  attribute_has sort (item.Number n) b h = sym (at_some has true (item.Number n) b h)
  attribute_has sort (item.Operation o) b h = sym (at_some has true (item.Operation o) b h)
  attribute_has sort (item.Transaction number parts) b h =
      made has (each (resolved_transaction_part (meant_in unit)) parts) (item.Transaction number) b
      true
      (λ x. refl) h
  attribute_has sort (item.ResponseCodes responses) b h =
      sym (at_some has true (item.ResponseCodes responses) b h)
  attribute_has sort (item.Items entries) b h =
      made has (resolved_conds (at_attribute (meant_in unit)) (resolved_entry (meant_in unit))
      entries) item.Items b true
      (λ x. refl) h
  attribute_has sort (item.Members members) b h =
      made has (each (resolved_member (meant_in unit) (member_kinds sort)) members) item.Members b
      true
      (λ x. refl) h
  attribute_has sort (item.Elements elements) b h =
      let x = bind_some (each (resolved_element (meant_in unit)) elements)
      (λ all. Some (item.Elements all)) b
      h in
      sym (at_some has true (item.Elements x.0) b x.2)
      ∙ each_passes (resolved_element (meant_in unit)) (has_variable count) element_has elements x.1
  attribute_has sort (item.Definition body) b h =
      made has (resolved_body (meant_in unit) body [] 0) item.Definition b true (λ x. refl) h

  item_has : (i : Item Path) (y : Item Target) → resolved_item (meant_in unit) i ≡ Some y
      → has_variables count y ≡ true
  item_has i y h =
      let x = bind_some (each (resolved_attribute (meant_in unit) i.sort) i.attributes)
      (λ attributes. Some (record { sort = i.sort; name = i.name; attributes = attributes })) y
      h in
      sym (at_some (has_variables count) true (record {
        sort = i.sort;
        name = i.name;
        attributes =
            x.0;
      }) y x.2) ∙ all_joined (has_variable count) written_elements x.0 (each_passes
      (resolved_attribute (meant_in unit) i.sort) has (attribute_has i.sort) i.attributes x.1)

-- ---- a checked description

variables_exist : (d : Description Target) → IsChecked d
    → list_all (has_variables (count_of kind.Variable d.items)) d.items ≡ true
variables_exist d checked =
    let r = checked.is_resolved in
    let u = r.unit in
    let meant = items_meant d r in
    ap (λ n. list_all (has_variables n) d.items) (same_count u d.items meant kind.Variable)
    ∙ each_passes (resolved_item (meant_in u)) (has_variables (count_of kind.Variable u.items))
    (item_has u) u.items meant

pub variables_exist_when_checked : (d : Description Target) → ∥ IsChecked d ∥₁
    → list_all (has_variables (count_of kind.Variable d.items)) d.items ≡ true
variables_exist_when_checked d checked = ∥∥₁_elim checked (Bool-set _ _) (variables_exist d)
