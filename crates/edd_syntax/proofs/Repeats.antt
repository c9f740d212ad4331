-- No attribute stands twice in an item, a type's braces or a transaction of a checked description.
use Rattle.std.proofs.Common.{◌≡◌, refl, sym, ap, ◌∙◌, Bool, true, false, List, [], ◌∷◌, ◌++◌, map, Some}
use Rattle.std.specs.Prelude.{◌&&◌, if◌then◌else◌}
use Rattle.std.specs.List.{flat_map, list_all}
use Rattle.std.proofs.Math.Logic.{∥∥₁_elim}
use Rattle.std.proofs.Math.Bool.{Bool-set}
use Rattle.edd_syntax.specs.Text.{Name}
use Rattle.edd_syntax.specs.Reference.{Path}
use Rattle.edd_syntax.specs.declared.reference.Target.{Target}
use Rattle.edd_syntax.specs.Item as item
use Rattle.edd_syntax.specs.Item.{ItemKind, TypePart, TransactionPart, Attribute, Item, Description}
use Rattle.edd_syntax.specs.Refusal.{DuplicateAttribute, repeated}
use Rattle.edd_syntax.specs.NameRules.{is_transaction, attribute_word, type_part_words, transaction_part_word, repeated_words_inside, repeated_words, too_many, duplicate_names, duplicate_attributes}
use Rattle.edd_syntax.specs.Resolution.{member_kinds}
use Rattle.edd_syntax.specs.ResolvedTrees.{each, unchanged, resolved_expr, resolved_cond, resolved_conds, resolved_body, at_attribute, resolved_data, resolved_entry, resolved_member, resolved_element, resolved_type_part, resolved_transaction_part, resolved_attribute, resolved_item, meant_in, Reading}
use Rattle.edd_syntax.specs.Resolved.{IsChecked}
use Rattle.edd_syntax.proofs.WithinLimits.{each_keeps, items_meant, not_empty, no_front, no_rest}
use Rattle.edd_syntax.proofs.Made.{stays, made}

-- ---- lists

pub none_mapped : {A B : Type 0} (f : A → B) (xs : List A) → map f xs ≡ [] → xs ≡ []
none_mapped f [] h = refl
none_mapped f (x ∷ xs) h = absurd (not_empty h)

pub of_mapped : {A B : Type 0} (f : A → List B) (xs : List A)
    → flat_map f xs ≡ flat_map (λ ys. ys) (map f xs)
of_mapped f [] = refl
of_mapped f (x ∷ xs) = ap (λ ys. f x ++ ys) (of_mapped f xs)

-- ---- what the rule on duplicates sees of an attribute

record Shape : Type 0 where
  word : Name
  may_repeat : Bool
  inside : List Name

abbrev shape : {R : Type 0} → Attribute R → Shape
shape a = record {
  word = attribute_word a;
  may_repeat = is_transaction a;
  inside = repeated_words_inside a;
}

abbrev repeated_shapes : (before : List Name) → List Shape → List Name
repeated_shapes before [] = []
repeated_shapes before (s ∷ rest) =
    (if s.may_repeat then [] else repeated before (s.word ∷ []))
    ++ (s.inside ++ repeated_shapes (s.word ∷ before) rest)

by_shape : {R : Type 0} (before : List Name) (ws : List (Attribute R)) → repeated_words before ws
    ≡ repeated_shapes before (map shape ws)
by_shape before [] = refl
by_shape before (a ∷ rest) =
    ap (λ more. (if is_transaction a then [] else repeated before (attribute_word a ∷ []))
    ++ (repeated_words_inside a ++ more)) (by_shape (attribute_word a ∷ before) rest)

module _ (names : Reading) where
  keeps_part : (p : TypePart Path) (q : TypePart Target) → resolved_type_part names p ≡ Some q
      → type_part_words q ≡ type_part_words p
  keeps_part (item.OneNumber which c) q h =
      made type_part_words (resolved_cond (at_attribute names) (resolved_expr (at_attribute names))
      c)
      (item.OneNumber which) q _ (λ x is. refl) h
  keeps_part (item.OneFormat which c) q h =
      made type_part_words (resolved_cond (at_attribute names) unchanged c) (item.OneFormat which) q _
      (λ x is. refl) h
  keeps_part (item.Element c) q h =
      made type_part_words (resolved_cond (at_attribute names) unchanged c) item.Element q _
      (λ x is. refl) h

  keeps_transaction_part : (p : TransactionPart Path) (q : TransactionPart Target)
      → resolved_transaction_part names p ≡ Some q → transaction_part_word q
      ≡ transaction_part_word p
  keeps_transaction_part (item.Request all) q h =
      made transaction_part_word (resolved_conds (at_attribute names) (resolved_data names) all)
      item.Request q _ (λ x is. refl) h
  keeps_transaction_part (item.Reply all) q h =
      made transaction_part_word (resolved_conds (at_attribute names) (resolved_data names) all)
      item.Reply q _ (λ x is. refl) h

  keeps_shape : (sort : ItemKind) (a : Attribute Path) (b : Attribute Target)
      → resolved_attribute names sort a ≡ Some b → shape b ≡ shape a
  keeps_shape sort (item.OneText which c) b h =
      made shape (resolved_cond (at_attribute names) unchanged c) (item.OneText which) b _
      (λ x is. refl) h
  keeps_shape sort (item.Class words) b h = stays shape (item.Class words) b h
  keeps_shape sort (item.Handling c) b h =
      made shape (resolved_cond (at_attribute names) unchanged c) item.Handling b _ (λ x is. refl) h
  keeps_shape sort (item.Validity c) b h =
      made shape (resolved_cond (at_attribute names) unchanged c) item.Validity b _ (λ x is. refl) h
  keeps_shape sort (item.TypeOf word parts) b h =
      made shape (each (resolved_type_part names) parts) (item.TypeOf word) b _
      (λ x is. ap (λ words. record {
        word = attribute_word (item.TypeOf word parts);
        may_repeat = false;
        inside = repeated [] words;
      })
      (of_mapped type_part_words x
      ∙ ap (flat_map (λ ys. ys)) (each_keeps (resolved_type_part names) type_part_words
      type_part_words keeps_part parts x is)
      ∙ sym (of_mapped type_part_words parts))) h
  keeps_shape sort (item.Number n) b h = stays shape (item.Number n) b h
  keeps_shape sort (item.Operation o) b h = stays shape (item.Operation o) b h
  keeps_shape sort (item.Transaction number parts) b h =
      made shape (each (resolved_transaction_part names) parts) (item.Transaction number) b _
      (λ x is. ap (λ words. record {
        word = attribute_word (item.Transaction number parts);
        may_repeat = true;
        inside = repeated [] words;
      })
      (each_keeps (resolved_transaction_part names) transaction_part_word transaction_part_word
      keeps_transaction_part parts x is)) h
  keeps_shape sort (item.ResponseCodes responses) b h = stays shape (item.ResponseCodes responses) b
      h
  keeps_shape sort (item.Items entries) b h =
      made shape (resolved_conds (at_attribute names) (resolved_entry names) entries) item.Items b _
      (λ x is. refl) h
  keeps_shape sort (item.Members members) b h =
      made shape (each (resolved_member names (member_kinds sort)) members) item.Members b _
      (λ x is. refl) h
  keeps_shape sort (item.Elements elements) b h =
      made shape (each (resolved_element names) elements) item.Elements b _ (λ x is. refl) h
  keeps_shape sort (item.Definition body) b h = made shape (resolved_body names body [] 0)
      item.Definition b _ (λ x is. refl) h

  abbrev item_repeats : {R : Type 0} → Item R → List Name
  item_repeats i = repeated_words [] i.attributes

  keeps_repeats : (i : Item Path) (j : Item Target) → resolved_item names i ≡ Some j
      → item_repeats j ≡ item_repeats i
  keeps_repeats i j h =
      made item_repeats (each (resolved_attribute names i.sort) i.attributes)
      (λ attributes. record { sort = i.sort; name = i.name; attributes = attributes }) j _
      (λ x is. by_shape [] x ∙ ap (repeated_shapes [])
      (each_keeps (resolved_attribute names i.sort) shape shape (keeps_shape i.sort) i.attributes
      x is) ∙ sym (by_shape [] i.attributes)) h

-- ---- a checked description

abbrev pub is_empty : {A : Type 0} → List A → Bool
is_empty [] = true
is_empty (x ∷ xs) = false

pub empty_is_none : {A : Type 0} (xs : List A) → is_empty xs ≡ true → xs ≡ []
empty_is_none [] h = refl
empty_is_none (x ∷ xs) h = absurd (cc)

-- no attribute stands twice in the item
abbrev pub has_each_once : Item Target → Bool
has_each_once i = is_empty (repeated_words [] i.attributes)

all_once : (items : List (Item Target)) → flat_map (λ i. repeated_words [] i.attributes) items ≡ []
    → list_all has_each_once items ≡ true
all_once [] h = refl
all_once (i ∷ rest) h =
    ap (λ b. b && list_all has_each_once rest)
    (ap is_empty (no_front (repeated_words [] i.attributes) _ h))
    ∙ all_once rest (no_rest (repeated_words [] i.attributes) _ h)

once : (d : Description Target) → IsChecked d → list_all has_each_once d.items ≡ true
once d checked =
    let r = checked.is_resolved in
    let u = r.unit in
    all_once d.items
    (of_mapped (λ i. repeated_words [] i.attributes) d.items
    ∙ ap (flat_map (λ ys. ys))
    (each_keeps (resolved_item (meant_in u)) (item_repeats (meant_in u)) (item_repeats (meant_in u))
    (keeps_repeats (meant_in u)) u.items d.items (items_meant d r))
    ∙ sym (of_mapped (λ i. repeated_words [] i.attributes) u.items)
    ∙ none_mapped DuplicateAttribute (flat_map (λ i. repeated_words [] i.attributes) u.items)
    (no_front (duplicate_attributes u) _
    (no_rest (duplicate_names u) _ (no_rest (too_many u) _ r.no_breach))))

pub once_when_checked : (d : Description Target) → ∥ IsChecked d ∥₁ → list_all has_each_once d.items
    ≡ true
once_when_checked d checked = ∥∥₁_elim checked (Bool-set _ _) (once d)
