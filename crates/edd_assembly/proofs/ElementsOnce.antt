-- No two elements of an array of a checked description have one number.
use Rattle.std.proofs.Common.{◌≡◌, refl, sym, ap, ◌∙◌, Bool, true, false, List, [], ◌∷◌, ◌++◌, map, append_assoc}
use Rattle.std.specs.Prelude.{not, if◌then◌else◌}
use Rattle.std.specs.Str.{bytes_eq}
use Rattle.std.specs.List.{flat_map, list_all}
use Rattle.std.proofs.lemmas.List.{append-nil}
use Rattle.std.proofs.lemmas.Bool.{false≢true, and_parts, and_from, or_right}
use Rattle.std.proofs.Math.Logic.{∥∥₁_elim}
use Rattle.std.proofs.Math.Bool.{Bool-set}
use Rattle.edd_syntax.specs.declared.reference.Target.{Target}
use Rattle.edd_syntax.specs.declared.numbers.Attr.TheVariants as attr
use Rattle.edd_syntax.specs.Text.{Name}
use Rattle.edd_syntax.specs.Item as item
use Rattle.edd_syntax.specs.Item.{Attribute, Item, Description}
use Rattle.edd_syntax.specs.Numbers.{attr_word}
use Rattle.edd_syntax.specs.Elements.{written_elements}
use Rattle.edd_syntax.specs.Refusal.{is_name_in, repeated}
use Rattle.edd_syntax.specs.NameRules.{is_transaction, attribute_word, repeated_words_inside, repeated_words}
use Rattle.edd_syntax.specs.SubsetRules.{wrong_types, mismatches, float_values, wrong_breaks, wrong_constants, duplicate_cases, repeated_numbers, repeated_elements}
use Rattle.edd_syntax.specs.Resolved.{IsChecked}
use Rattle.edd_syntax.proofs.WithinLimits.{not_empty, no_front, no_rest}
use Rattle.edd_syntax.proofs.Repeats.{is_empty, empty_is_none, has_each_once, once_when_checked}
use Rattle.edd_syntax.proofs.ItemForms.{all_weaker}

-- ---- an item writes its elements in one attribute

abbrev is_elements : {R : Type 0} → Attribute R → Bool
is_elements (item.Elements elements) = true
is_elements _ = false

abbrev at_most_one : List Bool → Bool
at_most_one [] = true
at_most_one (true ∷ rest) = list_all not rest
at_most_one (false ∷ rest) = at_most_one rest

abbrev has_one_list : {R : Type 0} → Item R → Bool
has_one_list i = at_most_one (map is_elements i.attributes)

new_word : (b : Bool) (word : Name) → (if b then word ∷ [] else []) ≡ [] → b ≡ false
new_word true word h = absurd (not_empty h)
new_word false word h = refl

module _ {R : Type 0} where
  -- what the rule says of the attributes after one
  behind : (before : List Name) (w : Attribute R) (rest : List (Attribute R))
      → repeated_words before (w ∷ rest) ≡ [] → repeated_words (attribute_word w ∷ before) rest
      ≡ []
  behind before w rest once = no_rest (repeated_words_inside w) _
      (no_rest (if is_transaction w then [] else repeated before (attribute_word w ∷ [])) _ once)

  none_more : (before : List Name) (ws : List (Attribute R))
      → is_name_in before (attr_word attr.Elements) ≡ true → repeated_words before ws ≡ []
      → list_all not (map is_elements ws) ≡ true
  none_more before [] there once = refl
  none_more before (item.Elements elements ∷ rest) there once =
      absurd (false≢true (sym (new_word (is_name_in before (attr_word attr.Elements))
      (attr_word attr.Elements) (no_front (repeated before (attr_word attr.Elements ∷ [])) _ once))
      ∙ there))
  none_more before (w ∷ rest) there once =
      none_more (attribute_word w ∷ before) rest
      (or_right (bytes_eq (attribute_word w) (attr_word attr.Elements))
      (is_name_in before (attr_word attr.Elements)) there)
      (behind before w rest once)

  one_list : (before : List Name) (ws : List (Attribute R)) → repeated_words before ws ≡ []
      → at_most_one (map is_elements ws) ≡ true
  one_list before [] once = refl
  one_list before (item.Elements elements ∷ rest) once =
      none_more (attr_word attr.Elements ∷ before) rest refl
      (behind before (item.Elements elements) rest once)
  one_list before (w ∷ rest) once = one_list (attribute_word w ∷ before) rest
      (behind before w rest once)

one_lists : (d : Description Target) → ∥ IsChecked d ∥₁ → list_all has_one_list d.items ≡ true
one_lists d checked =
    all_weaker has_each_once has_one_list
    (λ i once. one_list [] i.attributes (empty_is_none (repeated_words [] i.attributes) once))
    d.items (once_when_checked d checked)

-- ---- the numbers of its elements

none_written : (ws : List (Attribute Target)) → list_all not (map is_elements ws) ≡ true
    → flat_map written_elements ws ≡ []
none_written [] none = refl
none_written (item.Elements elements ∷ rest) none = absurd (false≢true none)
none_written (w ∷ rest) none = none_written rest none

numbers_once : (ws : List (Attribute Target)) → at_most_one (map is_elements ws) ≡ true
    → flat_map repeated_elements ws ≡ [] → repeated_numbers [] (flat_map written_elements ws) ≡ []
numbers_once [] one h = refl
numbers_once (item.Elements elements ∷ rest) one h =
    ap (repeated_numbers []) (ap (λ more. elements ++ more) (none_written rest one)
    ∙ append-nil elements)
    ∙ no_front (repeated_numbers [] elements) _ h
numbers_once (w ∷ rest) one h = numbers_once rest one h

-- no two of its elements have one number
abbrev pub has_numbers_once : Item Target → Bool
has_numbers_once i = is_empty (repeated_numbers [] (flat_map written_elements i.attributes))

pub none_repeated : (i : Item Target) → has_numbers_once i ≡ true
    → repeated_numbers [] (flat_map written_elements i.attributes) ≡ []
none_repeated i once = empty_is_none (repeated_numbers [] (flat_map written_elements i.attributes))
    once

joined_maps : {A B : Type 0} (f : A → List B) (xs ys : List A) → flat_map f (xs ++ ys)
    ≡ flat_map f xs ++ flat_map f ys
joined_maps f [] ys = refl
joined_maps f (x ∷ xs) ys = ap (λ more. f x ++ more) (joined_maps f xs ys)
    ∙ sym (append_assoc (f x) (flat_map f xs) (flat_map f ys))

once_each : (items : List (Item Target)) → list_all has_one_list items ≡ true
    → flat_map repeated_elements (flat_map (λ i. i.attributes) items) ≡ []
    → list_all has_numbers_once items ≡ true
once_each [] one h = refl
once_each (i ∷ rest) one h =
    let parts = and_parts (has_one_list i) (list_all has_one_list rest) one in
    let split = sym (joined_maps repeated_elements i.attributes
    (flat_map (λ j. j.attributes) rest)) ∙ h in
    and_from (has_numbers_once i) (list_all has_numbers_once rest)
    (ap is_empty (numbers_once i.attributes parts.0
    (no_front (flat_map repeated_elements i.attributes) _ split)))
    (once_each rest parts.1 (no_rest (flat_map repeated_elements i.attributes) _ split))

pub numbers_once_when_checked : (d : Description Target) → ∥ IsChecked d ∥₁
    → list_all has_numbers_once d.items ≡ true
numbers_once_when_checked d checked =
    ∥∥₁_elim checked (Bool-set _ _) (λ c.
    once_each d.items (one_lists d checked)
    (no_rest (duplicate_cases d) _ (no_rest (wrong_constants d) _
    (no_rest (wrong_breaks d) _ (no_rest (float_values d) _
    (no_rest (mismatches d) _ (no_rest (wrong_types d) _ c.no_breach)))))))
