-- The strings of a type's braces are those of its formats and of its list of enumerators.
use Rattle.std.proofs.Common.{◌≡◌, refl, sym, ap, ◌∙◌, ◌⊎◌, inl, inr, Bool, true, false, List, [], ◌∷◌, ◌++◌, map, Option, Some}
use Rattle.std.specs.Prelude.{codes}
use Rattle.std.specs.List.{list_any, flat_map}
use Rattle.std.proofs.lemmas.Bool.{false≢true, or_cases, or_left, or_right}
use Rattle.std.proofs.lemmas.List.{map-append}
use Rattle.std.proofs.lemmas.List.Folds.{list_any-append}
use Rattle.edd_syntax.specs.declared.numbers.NumberOption.TheVariants as number_option
use Rattle.edd_syntax.specs.declared.numbers.FormatOption.TheVariants as format_option
use Rattle.edd_syntax.specs.declared.numbers.Attr.{Attr}
use Rattle.edd_syntax.specs.declared.numbers.Attr.TheVariants as attr
use Rattle.edd_syntax.specs.declared.reference.Target.{Target}
use Rattle.edd_syntax.specs.Text as texts
use Rattle.edd_syntax.specs.Text.{Name}
use Rattle.edd_syntax.specs.Words.{Words, words_of}
use Rattle.edd_syntax.specs.Item as item
use Rattle.edd_syntax.specs.Item.{TypePart}
use Rattle.edd_syntax.specs.Numbers.{same_attr, attr_word, number_attr}
use Rattle.edd_syntax.specs.SubsetRules.{values_in}
use Rattle.edd_syntax.specs.Strings.{same_words, enumerator_texts, type_part_texts, strings_of_texts}
use Rattle.edd_syntax.specs.Refusal.{is_name_in, repeated}
use Rattle.edd_syntax.specs.NameRules.{type_part_words}
use Rattle.edd_syntax.specs.Rows.{part_attr}
use Rattle.edd_attrs.specs.Trees.{Tree, Named, trees_of_parts, first_tree}
use Rattle.edd_attrs.specs.Sizes.{element_texts, tree_strings, strings_of_tree}
use Rattle.edd_code.proofs.Different.{has}
use Rattle.edd_assembly.proofs.Apart.{repeated_parts}

-- ---- strings of joined texts

module _ (w : Words) where
  pub either : (xs ys : List Words) → has w (xs ++ ys) ≡ true
      → (has w xs ≡ true) ⊎ (has w ys ≡ true)
  either xs ys h = or_cases (has w xs) (has w ys) (sym (list_any-append (same_words w) xs ys) ∙ h)

  pub in_first : (xs ys : List Words) → has w xs ≡ true → has w (xs ++ ys) ≡ true
  in_first xs ys h = list_any-append (same_words w) xs ys ∙ or_left (has w xs) (has w ys) h

  pub in_rest : (xs ys : List Words) → has w ys ≡ true → has w (xs ++ ys) ≡ true
  in_rest xs ys h = list_any-append (same_words w) xs ys ∙ or_right (has w xs) (has w ys) h

  pub either_text : (xs ys : List texts.Text) → has w (strings_of_texts (xs ++ ys)) ≡ true
      → (has w (strings_of_texts xs) ≡ true) ⊎ (has w (strings_of_texts ys) ≡ true)
  either_text xs ys h = either (map words_of xs) (map words_of ys)
      (ap (has w) (sym (map-append words_of xs ys)) ∙ h)

  pub in_first_text : (xs ys : List texts.Text) → has w (strings_of_texts xs) ≡ true
      → has w (strings_of_texts (xs ++ ys)) ≡ true
  in_first_text xs ys h = ap (has w) (map-append words_of xs ys)
      ∙ in_first (map words_of xs) (map words_of ys) h

  pub in_rest_text : (xs ys : List texts.Text) → has w (strings_of_texts ys) ≡ true
      → has w (strings_of_texts (xs ++ ys)) ≡ true
  in_rest_text xs ys h = ap (has w) (map-append words_of xs ys)
      ∙ in_rest (map words_of xs) (map words_of ys) h

  -- a string of the first tree of an attribute stays with more trees after it
  pub first_stays : (b : Attr) (xs ys : List Named) → has w (strings_of_tree (first_tree b xs))
      ≡ true → has w (strings_of_tree (first_tree b (xs ++ ys))) ≡ true
  first_stays b [] ys h = absurd (false≢true h)
  first_stays b (x ∷ xs) ys h = here (same_attr x.0 b) (first_stays b xs ys) h
    where
      here : (s : Bool) → (has w (strings_of_tree (first_tree b xs)) ≡ true
          → has w (strings_of_tree (first_tree b (xs ++ ys))) ≡ true)
          → has w (strings_of_tree (elim s as (λ _. Option Tree) [
            | true ↦ Some x.1
            | false ↦ first_tree b xs
          ])) ≡ true
          → has w (strings_of_tree (elim s as (λ _. Option Tree) [
            | true ↦ Some x.1
            | false ↦ first_tree b (xs ++ ys)
          ])) ≡ true
      here true stays k = k
      here false stays k = stays k

-- ---- the formats

-- whether an option of the type is in its braces
abbrev pub has_part : Attr → List (TypePart Target) → Bool
has_part b parts = list_any (same_attr b) (map part_attr parts)

display_not_before : (before : List Name) (parts : List (TypePart Target))
    → repeated before (flat_map type_part_words parts) ≡ [] → has_part attr.DisplayFormat parts
    ≡ true → is_name_in before (codes "DISPLAY_FORMAT") ≡ false
display_not_before before [] once h = absurd (false≢true h)
display_not_before before (item.OneNumber number_option.DefaultValue c ∷ ps) once h =
    display_not_before (codes "DEFAULT_VALUE" ∷ before) ps
    (repeated_parts before (codes "DEFAULT_VALUE") (flat_map type_part_words ps) once).1 h
display_not_before before (item.OneNumber which c ∷ ps) once h =
    display_not_before (attr_word (number_attr which) ∷ before) ps
    (repeated_parts before (attr_word (number_attr which)) (flat_map type_part_words ps) once).1 h
display_not_before before (item.OneFormat format_option.DisplayFormat c ∷ ps) once h =
    (repeated_parts before (codes "DISPLAY_FORMAT") (flat_map type_part_words ps) once).0
display_not_before before (item.OneFormat format_option.EditFormat c ∷ ps) once h =
    display_not_before (codes "EDIT_FORMAT" ∷ before) ps
    (repeated_parts before (codes "EDIT_FORMAT") (flat_map type_part_words ps) once).1 h
display_not_before before (item.Element c ∷ ps) once h = display_not_before before ps once h

edit_not_before : (before : List Name) (parts : List (TypePart Target))
    → repeated before (flat_map type_part_words parts) ≡ [] → has_part attr.EditFormat parts ≡ true
    → is_name_in before (codes "EDIT_FORMAT") ≡ false
edit_not_before before [] once h = absurd (false≢true h)
edit_not_before before (item.OneNumber number_option.DefaultValue c ∷ ps) once h =
    edit_not_before (codes "DEFAULT_VALUE" ∷ before) ps
    (repeated_parts before (codes "DEFAULT_VALUE") (flat_map type_part_words ps) once).1 h
edit_not_before before (item.OneNumber which c ∷ ps) once h =
    edit_not_before (attr_word (number_attr which) ∷ before) ps
    (repeated_parts before (attr_word (number_attr which)) (flat_map type_part_words ps) once).1 h
edit_not_before before (item.OneFormat format_option.DisplayFormat c ∷ ps) once h =
    edit_not_before (codes "DISPLAY_FORMAT" ∷ before) ps
    (repeated_parts before (codes "DISPLAY_FORMAT") (flat_map type_part_words ps) once).1 h
edit_not_before before (item.OneFormat format_option.EditFormat c ∷ ps) once h =
    (repeated_parts before (codes "EDIT_FORMAT") (flat_map type_part_words ps) once).0
edit_not_before before (item.Element c ∷ ps) once h = edit_not_before before ps once h

-- ---- all strings of the braces

module _ (w : Words) where
  abbrev pub InElements : List (TypePart Target) → Type 0
  InElements parts = (has_part attr.Enumerators parts ≡ true)
      × (has w (strings_of_texts (flat_map element_texts parts)) ≡ true)

  abbrev pub InOption : Attr → List (TypePart Target) → Type 0
  InOption b parts = (has_part b parts ≡ true)
      × (has w (strings_of_tree (first_tree b (trees_of_parts parts))) ≡ true)

  abbrev pub InParts : List (TypePart Target) → Type 0
  InParts parts = InElements parts
      ⊎ (InOption attr.DisplayFormat parts ⊎ InOption attr.EditFormat parts)

  pub in_parts : (before : List Name) (parts : List (TypePart Target))
      → repeated before (flat_map type_part_words parts) ≡ []
      → has w (strings_of_texts (flat_map type_part_texts parts)) ≡ true → InParts parts
  unfolding tree_strings
  in_parts before [] once h = absurd (false≢true h)
  in_parts before (item.OneNumber number_option.DefaultValue c ∷ ps) once h = in_parts (codes "DEFAULT_VALUE" ∷ before) ps
      (repeated_parts before (codes "DEFAULT_VALUE") (flat_map type_part_words ps) once).1 h
  in_parts before (item.OneNumber which c ∷ ps) once h = in_parts (attr_word (number_attr which) ∷ before) ps
      (repeated_parts before (attr_word (number_attr which)) (flat_map type_part_words ps) once).1 h
  in_parts before (item.OneFormat format_option.DisplayFormat c ∷ ps) once h =
      let later = (repeated_parts before (codes "DISPLAY_FORMAT") (flat_map type_part_words ps)
      once).1 in
      elim (either_text w (values_in c) (flat_map type_part_texts ps) h) [
        | inl e ↦ inr (inl (refl, e))
        | inr e ↦
            elim (in_parts (codes "DISPLAY_FORMAT" ∷ before) ps later e) [
              | inl found ↦ inl found
              | inr others ↦
                  elim others [
                    | inl found ↦ absurd (false≢true
                        (sym (display_not_before (codes "DISPLAY_FORMAT" ∷ before) ps later
                        found.0)))
                    | inr found ↦ inr (inr found)
                  ]
            ]
      ]
  in_parts before (item.OneFormat format_option.EditFormat c ∷ ps) once h =
      let later = (repeated_parts before (codes "EDIT_FORMAT") (flat_map type_part_words ps) once).1
      in
      elim (either_text w (values_in c) (flat_map type_part_texts ps) h) [
        | inl e ↦ inr (inr (refl, e))
        | inr e ↦
            elim (in_parts (codes "EDIT_FORMAT" ∷ before) ps later e) [
              | inl found ↦ inl found
              | inr others ↦
                  elim others [
                    | inl found ↦ inr (inl found)
                    | inr found ↦ absurd (false≢true
                        (sym (edit_not_before (codes "EDIT_FORMAT" ∷ before) ps later found.0)))
                  ]
            ]
      ]
  in_parts before (item.Element c ∷ ps) once h =
      elim (either_text w (flat_map enumerator_texts (values_in c)) (flat_map type_part_texts ps)
      h) [
        | inl e ↦ inl (
          refl,
          in_first_text w (flat_map enumerator_texts (values_in c))
              (flat_map element_texts ps) e,
        )
        | inr e ↦
            elim (in_parts before ps once e) [
              | inl found ↦ inl (
                refl,
                in_rest_text w (flat_map enumerator_texts (values_in c))
                    (flat_map element_texts ps) found.1,
              )
              | inr others ↦ inr others
            ]
      ]
