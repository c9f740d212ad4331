-- Each method of a checked description has a body.
use Rattle.std.proofs.Common.{◌≡◌, refl, sym, ap, ◌∙◌, subst, ℕ, zero, suc, Bool, true, false, not, List, [], ◌∷◌, map, Some}
use Rattle.std.specs.Prelude.{◌||◌, filter, slice_get, if◌then◌else◌, codes}
use Rattle.std.specs.Str.{bytes_eq}
use Rattle.std.specs.List.{flat_map, list_all, list_any}
use Rattle.std.proofs.lemmas.Option.{none-some, same_Some}
use Rattle.std.proofs.lemmas.Bool.{and_parts, and_from, or_right}
use Rattle.std.proofs.Math.Logic.{∥∥₁_elim}
use Rattle.std.proofs.Math.Bool.{Bool-set}
use Rattle.edd_syntax.specs.declared.numbers.FormatOption.TheVariants as format_option
use Rattle.edd_syntax.specs.declared.numbers.NumberOption.TheVariants as number_option
use Rattle.edd_syntax.specs.Reference.{Path}
use Rattle.edd_syntax.specs.declared.reference.Target.{Target}
use Rattle.edd_syntax.specs.declared.numbers.Kind.{Kind}
use Rattle.edd_syntax.specs.declared.numbers.Kind.TheVariants as kind
use Rattle.edd_syntax.specs.declared.numbers.Attr.TheVariants as attr
use Rattle.edd_syntax.specs.declared.numbers.TextAttribute.{TextAttribute}
use Rattle.edd_syntax.specs.declared.numbers.TextAttribute.TheVariants as text
use Rattle.edd_syntax.specs.Text.{Name}
use Rattle.edd_syntax.specs.Item as item
use Rattle.edd_syntax.specs.Item.{ItemKind, kind_of_item, TypePart, Attribute, Item, Description}
use Rattle.edd_syntax.specs.NameRules.{attribute_word, required_words, missing_words, too_many, duplicate_names, duplicate_attributes, missing_attributes}
use Rattle.edd_syntax.specs.Numbers.{same_kind, same_attr, attr_word, text_attr}
use Rattle.edd_syntax.specs.Refusal.{MissingAttribute, is_name_in}
use Rattle.edd_syntax.specs.Resolution.{member_kinds}
use Rattle.edd_syntax.specs.ResolvedTrees.{each, unchanged, resolved_cond, resolved_conds, resolved_body, at_attribute, resolved_entry, resolved_member, resolved_element, resolved_type_part, resolved_transaction_part, resolved_attribute, resolved_item, resolved_unit, meant_in, Reading}
use Rattle.edd_syntax.specs.Resolved.{IsChecked}
use Rattle.edd_syntax.specs.Rows.{part_attr, stands_for, is_written, of_kind}
use Rattle.edd_syntax.proofs.WithinLimits.{each_keeps, not_empty, no_front, no_rest}
use Rattle.edd_syntax.proofs.Repeats.{none_mapped}
use Rattle.edd_syntax.proofs.Made.{bind_some}
use Rattle.edd_syntax.proofs.ItemForms.{at_some, all_mapped, made}
use Rattle.edd_assembly.proofs.RowsAmong.{any_mapped}

-- a body is written, if it is a method
abbrev pub has_body : {R : Type 0} → Item R → Bool
has_body i = not (same_kind (kind_of_item i.sort) kind.Method) || is_written attr.Definition
    i.attributes

-- ---- what is written under the word

no_body_in_parts : {R : Type 0} (parts : List (TypePart R))
    → list_any (same_attr attr.Definition) (map part_attr parts) ≡ false
no_body_in_parts [] = refl
no_body_in_parts (item.OneNumber number_option.DefaultValue c ∷ rest) = no_body_in_parts rest
no_body_in_parts (item.OneFormat format_option.DisplayFormat c ∷ rest) = no_body_in_parts rest
no_body_in_parts (_ ∷ rest) = no_body_in_parts rest

other_word : (which : TextAttribute) → bytes_eq (attr_word (text_attr which)) (codes "DEFINITION")
    ≡ false
other_word text.Label = refl
other_word _ = refl

written : {R : Type 0} (attributes : List (Attribute R))
    → is_name_in (map attribute_word attributes) (codes "DEFINITION") ≡ true
    → is_written attr.Definition attributes ≡ true
unfolding stands_for
written [] h = h
written (item.OneText which c ∷ rest) h =
    or_right (stands_for attr.Definition (item.OneText which c)) (is_written attr.Definition rest)
    (written rest (ap (λ b. b || is_name_in (map attribute_word rest) (codes "DEFINITION"))
    (sym (other_word which)) ∙ h))
written (item.TypeOf word parts ∷ rest) h =
    or_right (stands_for attr.Definition (item.TypeOf word parts)) (is_written attr.Definition rest)
    (written rest h)
written (item.Definition body ∷ rest) h = refl
written (_ ∷ rest) h = written rest h

-- ---- no word is missing

not_missing : (b : Bool) (word : Name) → (if not b then word ∷ [] else []) ≡ [] → b ≡ true
not_missing true word h = refl
not_missing false word h = absurd (not_empty h)

module _ {R : Type 0} where
  with_word : (sort : ItemKind) (attributes : List (Attribute R))
      → filter (λ word. not (is_name_in (map attribute_word attributes) word))
      (required_words (kind_of_item sort)) ≡ []
      → (not (same_kind (kind_of_item sort) kind.Method) || is_written attr.Definition attributes)
      ≡ true
  with_word item.MethodItem attributes h =
      written attributes (not_missing
      (is_name_in (map attribute_word attributes) (codes "DEFINITION")) (codes "DEFINITION") h)
  with_word _ attributes h = refl

  with_bodies : (items : List (Item R))
      → flat_map (λ i. map (MissingAttribute i.name) (missing_words i)) items ≡ []
      → list_all has_body items ≡ true
  with_bodies [] h = refl
  with_bodies (i ∷ rest) h =
      and_from (has_body i) (list_all has_body rest)
      (with_word i.sort i.attributes (none_mapped (MissingAttribute i.name) (missing_words i)
      (no_front (map (MissingAttribute i.name) (missing_words i)) _ h)))
      (with_bodies rest (no_rest (map (MissingAttribute i.name) (missing_words i)) _ h))

-- ---- the meaning of names leaves bodies

abbrev is_body : {R : Type 0} → Attribute R → Bool
is_body a = stands_for attr.Definition a

keeps_body : (names : Reading) (sort : ItemKind) (a : Attribute Path) (b : Attribute Target)
    → resolved_attribute names sort a ≡ Some b → is_body b ≡ is_body a
unfolding stands_for
keeps_body names sort (item.OneText which c) b h =
    made is_body (resolved_cond (at_attribute names) unchanged c) (item.OneText which) b _
    (λ x. refl) h
keeps_body names sort (item.Handling c) b h =
    made is_body (resolved_cond (at_attribute names) unchanged c) item.Handling b false (λ x. refl)
    h
keeps_body names sort (item.Validity c) b h =
    made is_body (resolved_cond (at_attribute names) unchanged c) item.Validity b false (λ x. refl)
    h
keeps_body names sort (item.TypeOf word parts) b h =
    made is_body (each (resolved_type_part names) parts) (item.TypeOf word) b false no_body_in_parts
    h ∙ sym (no_body_in_parts parts)
keeps_body names sort (item.Transaction number parts) b h =
    made is_body (each (resolved_transaction_part names) parts) (item.Transaction number) b false
    (λ x. refl) h
keeps_body names sort (item.Items entries) b h =
    made is_body (resolved_conds (at_attribute names) (resolved_entry names) entries) item.Items b
    false (λ x. refl) h
keeps_body names sort (item.Members members) b h =
    made is_body (each (resolved_member names (member_kinds sort)) members) item.Members b false
    (λ x. refl) h
keeps_body names sort (item.Elements elements) b h =
    made is_body (each (resolved_element names) elements) item.Elements b false (λ x. refl) h
keeps_body names sort (item.Definition body) b h = made is_body (resolved_body names body [] 0)
    item.Definition b true (λ x. refl) h
keeps_body names sort (item.Class words) b h = sym (at_some is_body false (item.Class words) b h)
keeps_body names sort (item.Number n) b h = sym (at_some is_body false (item.Number n) b h)
keeps_body names sort (item.Operation o) b h = sym (at_some is_body false (item.Operation o) b h)
keeps_body names sort (item.ResponseCodes responses) b h =
    sym (at_some is_body false (item.ResponseCodes responses) b h)

keeps_bodies : (names : Reading) (i : Item Path) (y : Item Target)
    → resolved_item names i ≡ Some y → has_body y ≡ has_body i
keeps_bodies names i y h =
    let x = bind_some (each (resolved_attribute names i.sort) i.attributes)
    (λ attributes. Some (record { sort = i.sort; name = i.name; attributes = attributes })) y
    h in
    sym (at_some has_body false (record { sort = i.sort; name = i.name; attributes = x.0 }) y x.2)
    ∙ ap (λ b. not (same_kind (kind_of_item i.sort) kind.Method) || b)
    (sym (any_mapped (λ b. b) is_body x.0)
    ∙ ap (list_any (λ b. b)) (each_keeps (resolved_attribute names i.sort) is_body is_body
    (keeps_body names i.sort) i.attributes x.0 x.1)
    ∙ any_mapped (λ b. b) is_body i.attributes)

bodies : (d : Description Target) → IsChecked d → list_all has_body d.items ≡ true
unfolding resolved_unit
bodies d checked =
    let r = checked.is_resolved in
    let u = r.unit in
    let x = bind_some (each (resolved_item (meant_in u)) u.items)
    (λ items. Some (record { identification = u.identification; items = items })) d
    r.meanings in
    sym (at_some (λ (e : Description Target). list_all has_body e.items) false
    (record { identification = u.identification; items = x.0 }) d x.2)
    ∙ all_mapped has_body x.0
    ∙ ap (list_all (λ b. b))
    (each_keeps (resolved_item (meant_in u)) has_body has_body (keeps_bodies (meant_in u))
    u.items x.0 x.1)
    ∙ sym (all_mapped has_body u.items)
    ∙ with_bodies u.items (no_front (missing_attributes u) _
    (no_rest (duplicate_attributes u) _
    (no_rest (duplicate_names u) _ (no_rest (too_many u) _ r.no_breach))))

-- ---- a method of a checked description

-- what holds of all holds of one that is picked
pub of_picked : {A : Type 0} (q p : A → Bool) (xs : List A) (n : ℕ) (x : A) → list_all q xs ≡ true
    → slice_get (filter p xs) n ≡ Some x → q x ≡ true
of_picked q p [] n x all h = absurd (none-some x h)
of_picked q p (y ∷ ys) n x all h = pick (p y) n h (λ k g. of_picked q p ys k x parts.1 g)
  where
    parts : (q y ≡ true) × (list_all q ys ≡ true)
    parts = and_parts (q y) (list_all q ys) all

    pick : (b : Bool) (n : ℕ) → slice_get (if b then y ∷ filter p ys else filter p ys) n ≡ Some x
        → ((k : ℕ) → slice_get (filter p ys) k ≡ Some x → q x ≡ true) → q x ≡ true
    pick true zero h others = subst (λ z. q z ≡ true) (same_Some y x h) parts.0
    pick true (suc n) h others = others n h
    pick false n h others = others n h

pub body_written : (d : Description Target) → ∥ IsChecked d ∥₁ → (n : ℕ) (i : Item Target)
    → slice_get (of_kind kind.Method d.items) n ≡ Some i → kind_of_item i.sort ≡ kind.Method
    → is_written attr.Definition i.attributes ≡ true
body_written d checked n i there is =
    subst (λ (k : Kind). (not (same_kind k kind.Method) || is_written attr.Definition i.attributes)
    ≡ true) is
    (of_picked has_body (λ j. same_kind (kind_of_item j.sort) kind.Method) d.items n i
    (∥∥₁_elim checked (Bool-set _ _) (bodies d)) there)
