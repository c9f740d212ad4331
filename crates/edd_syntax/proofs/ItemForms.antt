-- The items of a checked description have names, and attributes that belong to their kind.
use Rattle.std.proofs.Common.{◌≡◌, refl, sym, ap, ◌∙◌, Bool, true, false, List, [], ◌∷◌, map, Option, Some, None}
use Rattle.std.specs.Prelude.{◌&&◌}
use Rattle.std.specs.List.{list_all}
use Rattle.std.specs.Option.{option_map_or}
use Rattle.std.proofs.lemmas.Option.{none-some}
use Rattle.std.proofs.lemmas.Bool.{and_parts, and_from}
use Rattle.std.proofs.Math.Logic.{∥∥₁_elim}
use Rattle.std.proofs.Math.Bool.{Bool-set}
use Rattle.edd_syntax.specs.Reference.{Path}
use Rattle.edd_syntax.specs.declared.reference.Target.{Target}
use Rattle.edd_syntax.specs.declared.numbers.Kind.{Kind}
use Rattle.edd_syntax.specs.declared.numbers.Kind.TheVariants as kind
use Rattle.edd_syntax.specs.declared.numbers.Attr.TheVariants as attr
use Rattle.edd_syntax.specs.Item as item
use Rattle.edd_syntax.specs.Item.{ItemKind, kind_of_item, Attribute, Item, Description}
use Rattle.edd_syntax.specs.Names.{is_name}
use Rattle.edd_syntax.specs.Numbers.{has_attr, same_kind, text_attr}
use Rattle.edd_syntax.specs.Resolution.{member_kinds}
use Rattle.edd_syntax.specs.ResolvedTrees.{◌>>=◌, each, unchanged, resolved_cond, resolved_conds, resolved_body, at_attribute, resolved_entry, resolved_member, resolved_element, resolved_type_part, resolved_transaction_part, resolved_attribute, resolved_item, resolved_unit, meant_in, Reading}
use Rattle.edd_syntax.specs.WellFormed.{are_items, is_item, is_path, is_plain, may_list, belongs_to, has_own_attributes, stands_in, is_attribute}
use Rattle.edd_syntax.specs.Resolved.{IsChecked}
use Rattle.edd_syntax.proofs.Made.{bind_some}
use Rattle.edd_syntax.proofs.WithinLimits.{each_keeps}

-- its name is one, and its attributes belong to its kind
abbrev pub is_formed : {R : Type 0} → Item R → Bool
is_formed i = is_name i.name && has_own_attributes i

-- what a function gives of the value that is there
pub at_some : {A C : Type 0} (f : A → C) (d : C) (x y : A) → Some x ≡ Some y → f x ≡ f y
at_some f d x y h = ap (λ o. option_map_or f o d) h

pub all_mapped : {X : Type 0} (test : X → Bool) (xs : List X)
    → list_all test xs ≡ list_all (λ b. b) (map test xs)
all_mapped test [] = refl
all_mapped test (x ∷ xs) = ap (λ b. test x && b) (all_mapped test xs)

pub all_weaker : {X : Type 0} (p q : X → Bool) → ((x : X) → p x ≡ true → q x ≡ true) → (xs : List X)
    → list_all p xs ≡ true → list_all q xs ≡ true
all_weaker p q weaker [] h = refl
all_weaker p q weaker (x ∷ xs) h =
    let parts = and_parts (p x) (list_all p xs) h in
    and_from (q x) (list_all q xs) (weaker x parts.0) (all_weaker p q weaker xs parts.1)

-- ---- the meaning of names leaves them

pub made : {A : Type 0} (test : Attribute Target → Bool) (o : Option A) (make : A
    → Attribute Target) (b : Attribute Target) (v : Bool) → ((x : A) → test (make x) ≡ v)
    → (o >>= λ x. Some (make x)) ≡ Some b → test b ≡ v
made test None make b v same h = absurd (none-some b h)
made test (Some x) make b v same h = sym (at_some test v (make x) b h) ∙ same x

module _ (k : Kind) where
  keeps_belonging : (names : Reading) (sort : ItemKind) (a : Attribute Path)
      (b : Attribute Target) → resolved_attribute names sort a ≡ Some b
      → belongs_to k b ≡ belongs_to k a
  keeps_belonging names sort (item.OneText which c) b h =
      made (belongs_to k) (resolved_cond (at_attribute names) unchanged c) (item.OneText which) b
      (has_attr k (text_attr which)) (λ x. refl) h
  keeps_belonging names sort (item.Class words) b h =
      sym (at_some (belongs_to k) false (item.Class words) b h)
  keeps_belonging names sort (item.Handling c) b h =
      made (belongs_to k) (resolved_cond (at_attribute names) unchanged c) item.Handling b
      (has_attr k attr.Handling) (λ x. refl) h
  keeps_belonging names sort (item.Validity c) b h =
      made (belongs_to k) (resolved_cond (at_attribute names) unchanged c) item.Validity b
      (has_attr k attr.Validity) (λ x. refl) h
  keeps_belonging names sort (item.TypeOf word parts) b h =
      made (belongs_to k) (each (resolved_type_part names) parts) (item.TypeOf word) b
      (same_kind k kind.Variable) (λ x. refl) h
  keeps_belonging names sort (item.Number n) b h =
      sym (at_some (belongs_to k) false (item.Number n) b h)
  keeps_belonging names sort (item.Operation o) b h =
      sym (at_some (belongs_to k) false (item.Operation o) b h)
  keeps_belonging names sort (item.Transaction number parts) b h =
      made (belongs_to k) (each (resolved_transaction_part names) parts) (item.Transaction number) b
      (has_attr k attr.Transaction) (λ x. refl) h
  keeps_belonging names sort (item.ResponseCodes responses) b h =
      sym (at_some (belongs_to k) false (item.ResponseCodes responses) b h)
  keeps_belonging names sort (item.Items entries) b h =
      made (belongs_to k) (resolved_conds (at_attribute names) (resolved_entry names) entries)
      item.Items b (has_attr k attr.Items) (λ x. refl) h
  keeps_belonging names sort (item.Members members) b h =
      made (belongs_to k) (each (resolved_member names (member_kinds sort)) members) item.Members b
      (has_attr k attr.Members) (λ x. refl) h
  keeps_belonging names sort (item.Elements elements) b h =
      made (belongs_to k) (each (resolved_element names) elements) item.Elements b
      (has_attr k attr.Elements) (λ x. refl) h
  keeps_belonging names sort (item.Definition body) b h =
      made (belongs_to k) (resolved_body names body [] 0) item.Definition b
      (has_attr k attr.Definition) (λ x. refl) h

keeps_form : (names : Reading) (i : Item Path) (y : Item Target)
    → resolved_item names i ≡ Some y → is_formed y ≡ is_formed i
keeps_form names i y h =
    let k = kind_of_item i.sort in
    let x = bind_some (each (resolved_attribute names i.sort) i.attributes)
    (λ attributes. Some (record { sort = i.sort; name = i.name; attributes = attributes })) y
    h in
    sym (at_some is_formed false (record { sort = i.sort; name = i.name; attributes = x.0 }) y x.2)
    ∙ ap (λ b. is_name i.name && b)
    (all_mapped (belongs_to k) x.0
    ∙ ap (list_all (λ b. b)) (each_keeps (resolved_attribute names i.sort) (belongs_to k)
    (belongs_to k) (keeps_belonging k names i.sort) i.attributes x.0 x.1)
    ∙ sym (all_mapped (belongs_to k) i.attributes))

-- ---- the items of the parser

stands_is_belonging : (k : Kind) (a : Attribute Path) → stands_in is_path is_plain k a ≡ true
    → belongs_to k a ≡ true
stands_is_belonging k a h =
    (and_parts (belongs_to k a) (is_attribute is_path is_plain a) (and_parts _ _ h).0).0

item_is_formed : (i : Item Path) → is_item is_path is_plain i ≡ true → is_formed i ≡ true
item_is_formed i h =
    let k = kind_of_item i.sort in
    let parts = and_parts (is_name i.name && may_list i.sort)
    (list_all (stands_in is_path is_plain k) i.attributes) h in
    let named = and_parts (is_name i.name) (may_list i.sort) parts.0 in
    and_from (is_name i.name) (list_all (belongs_to k) i.attributes) named.0
    (all_weaker (stands_in is_path is_plain k) (belongs_to k) (stands_is_belonging k) i.attributes
    parts.1)

formed : (d : Description Target) → IsChecked d → list_all is_formed d.items ≡ true
unfolding are_items resolved_unit
formed d checked =
    let u = checked.is_resolved.unit in
    let x = bind_some (each (resolved_item (meant_in u)) u.items)
    (λ items. Some (record { identification = u.identification; items = items })) d
    checked.is_resolved.meanings in
    sym (at_some (λ (e : Description Target). list_all is_formed e.items) false
    (record { identification = u.identification; items = x.0 }) d x.2)
    ∙ all_mapped is_formed x.0
    ∙ ap (list_all (λ b. b))
    (each_keeps (resolved_item (meant_in u)) is_formed is_formed (keeps_form (meant_in u))
    u.items x.0 x.1)
    ∙ sym (all_mapped is_formed u.items)
    ∙ all_weaker (is_item is_path is_plain) is_formed item_is_formed u.items
    checked.is_resolved.well_formed

pub formed_when_checked : (d : Description Target) → ∥ IsChecked d ∥₁ → list_all is_formed d.items
    ≡ true
formed_when_checked d checked = ∥∥₁_elim checked (Bool-set _ _) (formed d)

pub own_when_formed : (items : List (Item Target)) → list_all is_formed items ≡ true
    → list_all has_own_attributes items ≡ true
own_when_formed items = all_weaker is_formed has_own_attributes
    (λ i form. (and_parts (is_name i.name) (has_own_attributes i) form).1) items
