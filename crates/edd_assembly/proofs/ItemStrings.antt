-- A string of an item is one of an attribute that has a row.
use Rattle.std.proofs.Common.{◌≡◌, refl, sym, ap, ◌∙◌, inl, inr, Bool, true, false, List, [], ◌∷◌, ◌++◌}
use Rattle.std.specs.Prelude.{codes, ◌||◌, if◌then◌else◌}
use Rattle.std.specs.Str.{bytes_eq}
use Rattle.std.specs.List.{flat_map}
use Rattle.std.proofs.lemmas.Bool.{false≢true, or_parts, or_right}
use Rattle.edd_syntax.specs.declared.numbers.Attr.{Attr}
use Rattle.edd_syntax.specs.declared.numbers.Attr.TheVariants as attr
use Rattle.edd_syntax.specs.declared.numbers.TextAttribute.{TextAttribute}
use Rattle.edd_syntax.specs.declared.numbers.TextAttribute.TheVariants as text
use Rattle.edd_syntax.specs.declared.reference.Target.{Target}
use Rattle.edd_syntax.specs.Text.{Name, Text}
use Rattle.edd_syntax.specs.Conditional.{Cond}
use Rattle.edd_syntax.specs.Words.{Words}
use Rattle.edd_syntax.specs.Attributes.{is_of_transaction}
use Rattle.edd_syntax.specs.Execution.{body_in}
use Rattle.edd_syntax.specs.Item as item
use Rattle.edd_syntax.specs.Item.{TypeWord, TypePart, Attribute}
use Rattle.edd_syntax.specs.Numbers.{same_attr, text_attr}
use Rattle.edd_syntax.specs.Strings.{attribute_strings}
use Rattle.edd_syntax.specs.Refusal.{is_name_in, repeated}
use Rattle.edd_syntax.specs.NameRules.{is_transaction, attribute_word, repeated_words_inside, repeated_words}
use Rattle.edd_syntax.specs.Rows.{stands_for, is_written}
use Rattle.edd_attrs.specs.Trees.{trees_of_parts, trees_of, first_tree}
use Rattle.edd_attrs.specs.Sizes.{tree_strings, strings_of_tree}
use Rattle.edd_code.proofs.Different.{has}
use Rattle.edd_syntax.proofs.KnownByNumber.{same_attrs}
use Rattle.edd_syntax.proofs.WithinLimits.{no_front, no_rest}
use Rattle.edd_assembly.proofs.Apart.{word_of, not_before, tree_passes}
use Rattle.edd_assembly.proofs.PartStrings.{either, first_stays, InParts, in_parts}

-- the strings of an attribute that is not of a transaction
abbrev pub strings_in : Attr → List (Attribute Target) → List Words
strings_in b ws = if same_attr b attr.Definition then attribute_strings
    (item.Definition (body_in ws)) else strings_of_tree (first_tree b (trees_of ws))

body_passes : (a : Attribute Target) (rest : List (Attribute Target))
    → bytes_eq (attribute_word a) (codes "DEFINITION") ≡ false → body_in (a ∷ rest) ≡ body_in rest
body_passes (item.Definition body) rest other = absurd (false≢true (sym other))
body_passes _ rest other = refl

strings_pass : (b : Attr) (a : Attribute Target) (rest : List (Attribute Target))
    → bytes_eq (attribute_word a) (word_of b) ≡ false → strings_in b (a ∷ rest) ≡ strings_in b rest
strings_pass b a rest other = here (same_attr b attr.Definition) refl
  where
    here : (s : Bool) → same_attr b attr.Definition ≡ s
        → (if s then attribute_strings (item.Definition (body_in (a ∷ rest))) else strings_of_tree
        (first_tree b (trees_of (a ∷ rest))))
        ≡ (if s then attribute_strings (item.Definition (body_in rest)) else strings_of_tree
        (first_tree b (trees_of rest)))
    here true is = ap (λ body. attribute_strings (item.Definition body))
        (body_passes a rest (ap (λ y. bytes_eq (attribute_word a) (word_of y))
        (sym (same_attrs b attr.Definition is)) ∙ other))
    here false is = ap strings_of_tree (tree_passes b a rest other)

module _ (w : Words) where
  -- an attribute with a row that has the string
  pub record Found (ws : List (Attribute Target)) : Type 0 where
    pub attribute : Attr
    pub plain : is_of_transaction attribute ≡ false
    pub written : is_written attribute ws ≡ true
    pub held : has w (strings_in attribute ws) ≡ true

  of_type : (word : TypeWord) (parts : List (TypePart Target)) (rest : List (Attribute Target))
      → InParts w parts → Found (item.TypeOf word parts ∷ rest)
  unfolding tree_strings stands_for
  of_type word parts rest (inl found) = record {
    attribute = attr.Enumerators;
    plain = refl;
    written = ap (λ b. b || is_written attr.Enumerators rest) found.0;
    held = found.1;
  }
  of_type word parts rest (inr (inl found)) = record {
    attribute = attr.DisplayFormat;
    plain = refl;
    written = ap (λ b. b || is_written attr.DisplayFormat rest) found.0;
    held = first_stays w attr.DisplayFormat (trees_of_parts parts) (trees_of rest) found.1;
  }
  of_type word parts rest (inr (inr found)) = record {
    attribute = attr.EditFormat;
    plain = refl;
    written = ap (λ b. b || is_written attr.EditFormat rest) found.0;
    held = first_stays w attr.EditFormat (trees_of_parts parts) (trees_of rest) found.1;
  }

  of_text : (which : TextAttribute) (c : Cond Target Text) (rest : List (Attribute Target))
      → has w (attribute_strings (item.OneText which c)) ≡ true
      → Found (item.OneText which c ∷ rest)
  unfolding tree_strings stands_for
  of_text text.Label c rest h = record {
    attribute = attr.Label;
    plain = refl;
    written = refl;
    held = h;
  }
  of_text which c rest h = record {
    attribute = text_attr which;
    plain = refl;
    written = refl;
    held = h;
  }

  of_first : (a : Attribute Target) (rest : List (Attribute Target)) → repeated_words_inside a ≡ []
      → has w (attribute_strings a) ≡ true → Found (a ∷ rest)
  unfolding tree_strings stands_for
  of_first (item.OneText which c) rest once h = of_text which c rest h
  of_first (item.Class words) rest once h =
      record { attribute = attr.Class; plain = refl; written = refl; held = h }
  of_first (item.TypeOf word parts) rest once h =
      of_type word parts rest (in_parts w [] parts once h)
  of_first (item.ResponseCodes responses) rest once h =
      record { attribute = attr.ResponseCodes; plain = refl; written = refl; held = h }
  of_first (item.Items entries) rest once h =
      record { attribute = attr.Items; plain = refl; written = refl; held = h }
  of_first (item.Members members) rest once h =
      record { attribute = attr.Members; plain = refl; written = refl; held = h }
  of_first (item.Elements elements) rest once h =
      record { attribute = attr.Elements; plain = refl; written = refl; held = h }
  of_first (item.Definition body) rest once h =
      record { attribute = attr.Definition; plain = refl; written = refl; held = h }
  of_first _ rest once h = absurd (false≢true h)

  pub of_item : (before : List Name) (ws : List (Attribute Target)) → repeated_words before ws ≡ []
      → has w (flat_map attribute_strings ws) ≡ true → Found ws
  of_item before [] once h = absurd (false≢true h)
  of_item before (a ∷ rest) once h =
      let behind = no_rest (if is_transaction a then [] else repeated before
      (attribute_word a ∷ [])) (repeated_words_inside a
      ++ repeated_words (attribute_word a ∷ before) rest) once in
      let later = no_rest (repeated_words_inside a)
      (repeated_words (attribute_word a ∷ before) rest) behind in
      elim (either w (attribute_strings a) (flat_map attribute_strings rest) h) [
        | inl e ↦ of_first a rest
            (no_front (repeated_words_inside a) (repeated_words (attribute_word a ∷ before) rest)
            behind) e
        | inr e ↦
            let found = of_item (attribute_word a ∷ before) rest later e in
            let other = (or_parts (bytes_eq (attribute_word a) (word_of found.attribute))
            (is_name_in before (word_of found.attribute))
            (not_before found.attribute (attribute_word a ∷ before) rest later found.written)).0
            in
            record {
              attribute = found.attribute;
              plain = found.plain;
              written = or_right (stands_for found.attribute a) (is_written found.attribute rest)
                  found.written;
              held = ap (has w) (strings_pass found.attribute a rest other) ∙ found.held;
            }
      ]
