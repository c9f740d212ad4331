-- The values of conditionals, and the elements of a type's list.
use Rattle.std.proofs.Common.{◌≡◌, refl, sym, ap, ◌∙◌, ℕ, ◌≤◌, Bool, true, List, [], ◌∷◌, ◌++◌, map, sum, Option, Some, None, arith}
use Rattle.std.specs.Prelude.{◌&&◌, max, nat_lt, option_map}
use Rattle.std.specs.List.{list_all, flat_map}
use Rattle.std.specs.Option.{option_to_list}
use Rattle.std.proofs.lemmas.Bool.{leb-true}
use Rattle.std.proofs.lemmas.Grind.{flat_map-append}
use Rattle.std.proofs.lemmas.List.{map-append}
use Rattle.std.proofs.lemmas.List.Sums.{sum_by-cons}
use Rattle.edd_syntax.specs.declared.numbers.NumberOption.TheVariants as number_option
use Rattle.edd_syntax.specs.declared.numbers.ItemNo.{ItemNo}
use Rattle.edd_syntax.specs.declared.numbers.ItemNo.TheVariants as item_no
use Rattle.edd_syntax.specs.declared.numbers.Kind.{Kind}
use Rattle.edd_syntax.specs.declared.numbers.Kind.TheVariants as kind
use Rattle.edd_syntax.specs.declared.reference.Target.{Target}
use Rattle.edd_syntax.specs.Item as item
use Rattle.edd_syntax.specs.Item.{DataItem, MenuEntry, TypePart, Description}
use Rattle.edd_syntax.specs.Conditional.{Cond, Value, If, Select, Conds, Nil, Cons, Arms, NoArms, ConsArm, Case, Default}
use Rattle.edd_syntax.specs.Text.{Text, Name}
use Rattle.edd_syntax.specs.Words.{words_of, name_words}
use Rattle.edd_syntax.specs.Device.{Environment}
use Rattle.edd_syntax.specs.Attributes as source
use Rattle.edd_syntax.specs.Targets.{item_of, variable_of}
use Rattle.edd_syntax.specs.Attributes.{enumerator, data_item, response, entry, member, element}
use Rattle.edd_syntax.specs.Resolution.{count_of}
use Rattle.edd_syntax.specs.Refusal.{Refusal}
use Rattle.edd_syntax.specs.SubsetRules.{values_in, values_of, values_under, cond_defaults, conds_defaults}
use Rattle.edd_syntax.specs.Strings.{strings_of_texts, optional_text, enumerator_texts, entry_texts, array_element_texts, member_strings}
use Rattle.edd_syntax.specs.Size.{leaf, cond_height, conds_height, conds_nodes}
use Rattle.edd_syntax.specs.WellFormed.{is_label, is_pure_expr, is_cond, are_conds, are_arms}
use Rattle.edd_image.specs.Existing.{item_exists}
use Rattle.edd_attrs.specs.Records.{text_record, class_record, is_listed, is_fine, counts_in, strings_of_record, strings_of, kept_enumerator, kept_data, kept_entry, kept_response, kept_member, kept_array_element}
use Rattle.edd_attrs.specs.Sizes.{element_texts, element_nodes}
use Rattle.edd_attrs.specs.TreeBlocks.{elements}
use Rattle.edd_syntax.proofs.Existing.{is_item_of}
use Rattle.edd_attrs.proofs.GoodParts.{is_low, good_cond, good_enumerator, good_element, good_response, good_data, good_entry, good_member, good_array_element, is_small}
use Rattle.edd_attrs.proofs.CheckedTrees.{no_breach, none_broken, ruled_element}
use Rattle.edd_code.proofs.BothTests.{both_of, both_true}

all_front : {V : Type 0} (p : V → Bool) (xs ys : List V) → list_all p (xs ++ ys) ≡ true
    → (list_all p xs ≡ true) × (list_all p ys ≡ true)
all_front p [] ys h = (refl, h)
all_front p (x ∷ xs) ys h =
    let parts = both_of (p x) (list_all p (xs ++ ys)) h in
    let rest = all_front p xs ys parts.1 in
    (both_true parts.0 rest.0, rest.1)

all_behind : {V : Type 0} (p : V → Bool) (xs ys : List V) → list_all p xs ≡ true
    → list_all p ys ≡ true → list_all p (xs ++ ys) ≡ true
all_behind p [] ys h k = k
all_behind p (x ∷ xs) ys h k = let parts = both_of (p x) (list_all p xs) h in both_true parts.0
    (all_behind p xs ys parts.1 k)

-- ---- tests on the values of a conditional

module _ (reads : Target → Bool) {V : Type 0} (p : V → Bool) where
  mutual
    pub values_pass : (c : Cond Target V) → is_cond reads reads p c ≡ true
        → list_all p (values_in c) ≡ true
    values_pass (Value v) h = both_true h refl
    values_pass (If condition first otherwise) h =
        let parts = both_of _ (are_conds reads reads p otherwise) h in
        let front = both_of (is_pure_expr reads reads condition) (are_conds reads reads p first)
        parts.0 in
        all_behind p (values_of first) (values_of otherwise) (all_values_pass first front.1)
        (all_values_pass otherwise parts.1)
    values_pass (Select on arms) h =
        values_under_pass arms (both_of (is_pure_expr reads reads on) (are_arms reads reads p arms)
        h).1

    pub all_values_pass : (c : Conds Target V) → are_conds reads reads p c ≡ true
        → list_all p (values_of c) ≡ true
    all_values_pass Nil h = refl
    all_values_pass (Cons first rest) h =
        let parts = both_of (is_cond reads reads p first) (are_conds reads reads p rest) h in
        all_behind p (values_in first) (values_of rest) (values_pass first parts.0)
        (all_values_pass rest parts.1)

    values_under_pass : (arms : Arms Target V) → are_arms reads reads p arms ≡ true
        → list_all p (values_under arms) ≡ true
    values_under_pass NoArms h = refl
    values_under_pass (ConsArm (Case label body) rest) h =
        let parts = both_of _ (are_arms reads reads p rest) h in
        let front = both_of (is_label label) (are_conds reads reads p body) parts.0 in
        all_behind p (values_of body) (values_under rest) (all_values_pass body front.1)
        (values_under_pass rest parts.1)
    values_under_pass (ConsArm (Default body) rest) h =
        let parts = both_of (are_conds reads reads p body) (are_arms reads reads p rest) h in
        all_behind p (values_of body) (values_under rest) (all_values_pass body parts.0)
        (values_under_pass rest parts.1)

  -- a second test on all values
  module _ (q : V → Bool) where
    abbrev pub both_tests : V → Bool
    both_tests v = p v && q v

    mutual
      cond_both : (c : Cond Target V) → is_cond reads reads p c ≡ true → list_all q (values_in c)
          ≡ true → is_cond reads reads both_tests c ≡ true
      cond_both (Value v) h k = both_true h (both_of (q v) true k).0
      cond_both (If condition first otherwise) h k =
          let parts = both_of _ (are_conds reads reads p otherwise) h in
          let front = both_of (is_pure_expr reads reads condition) (are_conds reads reads p first)
          parts.0 in
          let tests = all_front q (values_of first) (values_of otherwise) k in
          both_true (both_true front.0 (conds_both first front.1 tests.0))
          (conds_both otherwise parts.1 tests.1)
      cond_both (Select on arms) h k =
          let parts = both_of (is_pure_expr reads reads on) (are_arms reads reads p arms) h in
          both_true parts.0 (arms_both arms parts.1 k)

      pub conds_both : (c : Conds Target V) → are_conds reads reads p c ≡ true
          → list_all q (values_of c) ≡ true → are_conds reads reads both_tests c ≡ true
      conds_both Nil h k = refl
      conds_both (Cons first rest) h k =
          let parts = both_of (is_cond reads reads p first) (are_conds reads reads p rest) h in
          let tests = all_front q (values_in first) (values_of rest) k in
          both_true (cond_both first parts.0 tests.0) (conds_both rest parts.1 tests.1)

      arms_both : (arms : Arms Target V) → are_arms reads reads p arms ≡ true
          → list_all q (values_under arms) ≡ true → are_arms reads reads both_tests arms ≡ true
      arms_both NoArms h k = refl
      arms_both (ConsArm (Case label body) rest) h k =
          let parts = both_of _ (are_arms reads reads p rest) h in
          let front = both_of (is_label label) (are_conds reads reads p body) parts.0 in
          let tests = all_front q (values_of body) (values_under rest) k in
          both_true (both_true front.0 (conds_both body front.1 tests.0))
          (arms_both rest parts.1 tests.1)
      arms_both (ConsArm (Default body) rest) h k =
          let parts = both_of (are_conds reads reads p body) (are_arms reads reads p rest) h in
          let tests = all_front q (values_of body) (values_under rest) k in
          both_true (conds_both body parts.0 tests.0) (arms_both rest parts.1 tests.1)

-- ---- the elements of a type's list

module _ (count : Kind → ℕ) (reads : Target → Bool) where
  pub elements_tested : (parts : List (TypePart Target)) → list_all (good_element count reads) parts
      ≡ true → are_conds reads reads good_enumerator (elements parts) ≡ true
  elements_tested [] h = refl
  elements_tested (item.Element c ∷ rest) h =
      let parts = both_of (good_cond reads good_enumerator leaf c)
      (list_all (good_element count reads) rest) h in
      both_true (both_of (is_cond reads reads good_enumerator c) (is_low (cond_height leaf c))
      parts.0).0 (elements_tested rest parts.1)
  elements_tested (_ ∷ rest) h = elements_tested rest h

  pub elements_low : (parts : List (TypePart Target)) → list_all (good_element count reads) parts
      ≡ true → conds_height leaf (elements parts) ≤ 100
  elements_low [] h = omega arith
  elements_low (item.Element c ∷ rest) h =
      let parts = both_of (good_cond reads good_enumerator leaf c)
      (list_all (good_element count reads) rest) h in
      let low = leb-true (cond_height leaf c) 100
      (both_of (is_cond reads reads good_enumerator c) (is_low (cond_height leaf c)) parts.0).1
      in
      max_low (cond_height leaf c) (conds_height leaf (elements rest)) low
      (elements_low rest parts.1)
    where
      max_low : (m n : ℕ) → m ≤ 100 → n ≤ 100 → max m n ≤ 100
      max_low m n h k = omega (arith, h, k)
  elements_low (_ ∷ rest) h = elements_low rest h

pub elements_ruled : (parts : List (TypePart Target)) → list_all ruled_element parts ≡ true
    → conds_defaults (elements parts) ≡ []
elements_ruled [] h = refl
elements_ruled (item.Element c ∷ rest) h =
    let parts = both_of (no_breach (cond_defaults c)) (list_all ruled_element rest) h in
    ap (λ (rs : List Refusal). rs ++ conds_defaults (elements rest))
    (none_broken (cond_defaults c) parts.0) ∙ elements_ruled rest parts.1
elements_ruled (_ ∷ rest) h = elements_ruled rest h

pub elements_same : (env : Environment) (parts : List (TypePart Target)) → source.elements env parts
    ≡ elements parts
elements_same env [] = refl
elements_same env (item.Element c ∷ rest) = ap (Cons c) (elements_same env rest)
elements_same env (_ ∷ rest) = elements_same env rest

pub elements_texts : (parts : List (TypePart Target)) → flat_map element_texts parts
    ≡ flat_map enumerator_texts (values_of (elements parts))
elements_texts [] = refl
elements_texts (item.Element c ∷ rest) = ap (λ ts. flat_map enumerator_texts (values_in c) ++ ts)
    (elements_texts rest) ∙ sym
    (flat_map-append enumerator_texts (values_in c) (values_of (elements rest)))
elements_texts (_ ∷ rest) = elements_texts rest

pub elements_nodes : (parts : List (TypePart Target)) → sum (map element_nodes parts)
    ≡ conds_nodes leaf (elements parts)
elements_nodes [] = refl
elements_nodes (item.OneNumber number_option.DefaultValue c ∷ rest) =
    omega (
      arith,
      elements_nodes rest,
      sum_by-cons (λ x. x) (element_nodes (item.OneNumber number_option.DefaultValue c))
          (map element_nodes rest),
    )
elements_nodes (w ∷ rest) =
    omega (
      arith,
      elements_nodes rest,
      sum_by-cons (λ x. x) (element_nodes w)
          (map element_nodes rest),
    )

-- ---- the records of elements

module _ (unit : Description Target) (reads : Target → Bool) where
  abbrev count : Kind → ℕ
  count k = count_of k unit.items

  -- an item that is one of so many exists
  item_there : (i : ItemNo) → is_item_of count i ≡ true → item_exists (counts_in unit) i ≡ true
  item_there (item_no.Variable n) h = h
  item_there _ h = h

  listed_there : (i : ItemNo) → (is_listed i && is_item_of count i) ≡ true
      → (is_listed i && item_exists (counts_in unit) i) ≡ true
  listed_there i h = let parts = both_of (is_listed i) (is_item_of count i) h in
      both_true parts.0 (item_there i parts.1)

  pub enumerator_fine : (e : item.Enumerator) → good_enumerator e ≡ true
      → is_fine unit (enumerator e) ≡ true
  enumerator_fine e h = (both_of _ (kept_enumerator e) h).0

  pub response_fine : (r : item.ResponseCode) → good_response r ≡ true → is_fine unit (response r)
      ≡ true
  response_fine r h = (both_of (is_small r.number) (kept_response r) h).0

  pub member_fine : (m : item.Member Target) → good_member count reads m ≡ true
      → is_fine unit (member m) ≡ true
  member_fine m h = listed_there (item_of m.item)
      (both_of (is_listed (item_of m.item) && is_item_of count (item_of m.item)) (kept_member m)
      h).0

  pub array_element_fine : (e : item.ArrayElement Target) → good_array_element count reads e ≡ true
      → is_fine unit (element e) ≡ true
  array_element_fine e h =
      (both_of ((is_small e.number
      && is_item_of count (item_no.Variable (variable_of e.variable)))
      && nat_lt 0 (count kind.Array)) (kept_array_element e) h).0

  pub entry_fine : (e : MenuEntry Target) → good_entry count reads e ≡ true → is_fine unit (entry e)
      ≡ true
  entry_fine (item.Text text) h = refl
  entry_fine (item.Reference to qualifiers) h = listed_there (item_of to) h

  pub data_fine : (d : DataItem Target) → (good_data count reads d && kept_data d) ≡ true
      → is_fine unit (data_item d) ≡ true
  data_fine (item.Constant n) h = h
  data_fine (item.Variable variable mask qualifiers) h = (both_of _ true h).0

  pub entry_kept : (e : MenuEntry Target) → good_entry count reads e ≡ true → kept_entry e ≡ true
  entry_kept (item.Text text) h = h
  entry_kept (item.Reference to qualifiers) h = refl

-- ---- the strings of records

pub strings_by : {V : Type 0} (f : V → source.Record) (texts : V → List Text)
    → ((v : V) → strings_of_record (f v) ≡ strings_of_texts (texts v)) → (vs : List V)
    → strings_of (map f vs) ≡ strings_of_texts (flat_map texts vs)
strings_by f texts same [] = refl
strings_by f texts same (v ∷ vs) =
    ap (λ ws. ws ++ strings_of (map f vs)) (same v) ∙ ap (λ ws. strings_of_texts (texts v) ++ ws)
    (strings_by f texts same vs) ∙ sym (map-append words_of (texts v) (flat_map texts vs))

optional_same : (o : Option Text) → option_to_list (option_map words_of o)
    ≡ strings_of_texts (optional_text o)
optional_same None = refl
optional_same (Some t) = refl

pub enumerator_strings : (e : item.Enumerator) → strings_of_record (enumerator e)
    ≡ strings_of_texts (enumerator_texts e)
enumerator_strings e = ap (λ ws. words_of e.text ∷ ws) (optional_same e.help)

pub entry_strings : (e : MenuEntry Target) → strings_of_record (entry e)
    ≡ strings_of_texts (entry_texts e)
entry_strings (item.Text text) = refl
entry_strings (item.Reference to qualifiers) = refl

pub texts_strings : (ts : List Text) → strings_of (map text_record ts) ≡ strings_of_texts ts
texts_strings [] = refl
texts_strings (t ∷ ts) = ap (λ ws. words_of t ∷ ws) (texts_strings ts)

pub members_strings : (ms : List (item.Member Target)) → strings_of (map member ms)
    ≡ flat_map member_strings ms
members_strings [] = refl
members_strings (m ∷ ms) =
    ap (λ ws. ws ++ strings_of (map member ms)) (ap (λ ws. name_words m.name ∷ ws)
    (ap (λ ws. ws ++ option_to_list (option_map words_of m.help)) (optional_same m.label)
    ∙ ap (λ ws. strings_of_texts (optional_text m.label) ++ ws) (optional_same m.help)
    ∙ sym (map-append words_of (optional_text m.label) (optional_text m.help))))
    ∙ ap (λ ws. member_strings m ++ ws) (members_strings ms)

pub array_elements_strings : (es : List (item.ArrayElement Target))
    → strings_of (map element es) ≡ strings_of_texts (flat_map array_element_texts es)
array_elements_strings es = strings_by element array_element_texts told es
  where
    told : (e : item.ArrayElement Target) → strings_of_record (element e)
        ≡ strings_of_texts (array_element_texts e)
    told e = ap (λ ws. ws ++ option_to_list (option_map words_of e.help)) (optional_same e.label)
        ∙ ap (λ ws. strings_of_texts (optional_text e.label) ++ ws) (optional_same e.help)
        ∙ sym (map-append words_of (optional_text e.label) (optional_text e.help))

pub classes_strings : (names : List Name) → strings_of (map class_record names)
    ≡ map name_words names
classes_strings [] = refl
classes_strings (n ∷ names) = ap (λ ws. name_words n ∷ ws) (classes_strings names)

pub responses_strings : (rs : List item.ResponseCode) → strings_of (map response rs)
    ≡ strings_of_texts (map (λ r. r.text) rs)
responses_strings [] = refl
responses_strings (r ∷ rs) = ap (λ ws. words_of r.text ∷ ws) (responses_strings rs)
