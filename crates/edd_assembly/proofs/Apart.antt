-- An attribute that is written stands for no attribute that an earlier one stands for.
use Rattle.std.proofs.Common.{◌≡◌, refl, sym, ap, ◌∙◌, inl, inr, Bool, true, false, List, [], ◌∷◌, ◌++◌, map, Option, Some}
use Rattle.std.specs.Prelude.{codes, ◌&&◌, if◌then◌else◌}
use Rattle.std.specs.Str.{bytes_eq}
use Rattle.std.specs.List.{list_all, list_any}
use Rattle.std.proofs.lemmas.Bool.{false≢true, and_parts, or_cases, or_parts}
use Rattle.std.proofs.lemmas.Slice.Eq.{bytes_eq-Decides}
use Rattle.edd_syntax.specs.declared.numbers.Home.TheVariants as home
use Rattle.edd_syntax.specs.declared.numbers.FormatOption.TheVariants as format_option
use Rattle.edd_syntax.specs.declared.numbers.NumberOption.TheVariants as number_option
use Rattle.edd_syntax.specs.declared.numbers.Attr.{Attr}
use Rattle.edd_syntax.specs.declared.numbers.Attr.TheVariants as attr
use Rattle.edd_syntax.specs.declared.numbers.TextAttribute.{TextAttribute}
use Rattle.edd_syntax.specs.declared.numbers.TextAttribute.TheVariants as text
use Rattle.edd_syntax.specs.declared.reference.Target.{Target}
use Rattle.edd_syntax.specs.Text.{Name}
use Rattle.edd_syntax.specs.Item as item
use Rattle.edd_syntax.specs.Item.{TypePart, Attribute}
use Rattle.edd_syntax.specs.Numbers.{same_attr, attr_word, text_attr, shape_of}
use Rattle.edd_syntax.specs.Refusal.{is_name_in, repeated}
use Rattle.edd_syntax.specs.NameRules.{is_transaction, attribute_word, repeated_words_inside, repeated_words}
use Rattle.edd_syntax.specs.Rows.{part_attr, written_attrs, stands_for, is_written}
use Rattle.edd_attrs.specs.Trees.{Tree, Named, trees_of_parts, trees_of_attribute, trees_of, first_tree}
use Rattle.edd_syntax.proofs.KnownByNumber.{same_attrs}
use Rattle.edd_syntax.proofs.WithinLimits.{no_front, no_rest}

-- the word under which an attribute is written
abbrev pub word_of : Attr → Name
word_of attr.Request = codes "TRANSACTION"
word_of attr.Reply = codes "TRANSACTION"
word_of a = elim (shape_of a).home [ home.Type ↦ codes "TYPE" | _ ↦ attr_word a ]

pub same_name : (n : Name) → bytes_eq n n ≡ true
same_name n = (bytes_eq-Decides n n).1 refl

-- ---- names repeated

pub repeated_parts : (before : List Name) (n : Name) (rest : List Name) → repeated before (n ∷ rest)
    ≡ [] → (is_name_in before n ≡ false) × (repeated (n ∷ before) rest ≡ [])
repeated_parts before n rest h = here (is_name_in before n) refl h
  where
    here : (b : Bool) → is_name_in before n ≡ b
        → (if b then n ∷ repeated (n ∷ before) rest else repeated (n ∷ before) rest) ≡ []
        → (is_name_in before n ≡ false) × (repeated (n ∷ before) rest ≡ [])
    here true is k = absurd (cc)
    here false is k = (is, k)

-- ---- what is written under a word

parts_under : (parts : List (TypePart Target)) → list_all (λ b. bytes_eq (codes "TYPE") (word_of b))
    (map part_attr parts) ≡ true
parts_under [] = refl
parts_under (item.OneNumber number_option.DefaultValue c ∷ ps) = parts_under ps
parts_under (item.OneFormat format_option.DisplayFormat c ∷ ps) = parts_under ps
parts_under (_ ∷ ps) = parts_under ps

under_its_word : (which : TextAttribute)
    → (bytes_eq (attr_word (text_attr which)) (word_of (text_attr which)) && true) ≡ true
under_its_word text.Label = refl
under_its_word _ = refl

written_under : (a : Attribute Target) → list_all (λ b. bytes_eq (attribute_word a) (word_of b))
    (written_attrs a) ≡ true
written_under (item.OneText which c) = under_its_word which
written_under (item.TypeOf word parts) = parts_under parts
written_under _ = refl

trees_of_parts_under : (parts : List (TypePart Target))
    → list_all (λ x. bytes_eq (codes "TYPE") (word_of x.0)) (trees_of_parts parts) ≡ true
trees_of_parts_under [] = refl
trees_of_parts_under (item.OneNumber number_option.DefaultValue c ∷ ps) = trees_of_parts_under ps
trees_of_parts_under (item.OneFormat format_option.DisplayFormat c ∷ ps) = trees_of_parts_under ps
trees_of_parts_under (_ ∷ ps) = trees_of_parts_under ps

trees_under : (a : Attribute Target) → list_all (λ x. bytes_eq (attribute_word a) (word_of x.0))
    (trees_of_attribute a) ≡ true
trees_under (item.OneText which c) = under_its_word which
trees_under (item.TypeOf word parts) = trees_of_parts_under parts
trees_under _ = refl

one_of : (b : Attr) (word : Name) (all : List Attr) → list_all (λ x. bytes_eq word (word_of x)) all
    ≡ true → list_any (same_attr b) all ≡ true → bytes_eq word (word_of b) ≡ true
one_of b word [] h is = absurd (false≢true is)
one_of b word (x ∷ all) h is =
    let parts = and_parts (bytes_eq word (word_of x))
    (list_all (λ y. bytes_eq word (word_of y)) all) h in
    elim (or_cases (same_attr b x) (list_any (same_attr b) all) is) [
      | inl e ↦ ap (λ y. bytes_eq word (word_of y)) (same_attrs b x e) ∙ parts.0
      | inr e ↦ one_of b word all parts.1 e
    ]

written_once : (a : Attribute Target) (b : Attr) → stands_for b a ≡ true → is_transaction a ≡ false
unfolding stands_for
written_once (item.Transaction number parts) b h = absurd (false≢true h)
written_once _ b h = refl

word_written : (a : Attribute Target) (b : Attr) → stands_for b a ≡ true
    → attribute_word a ≡ word_of b
unfolding stands_for
word_written a b h = (bytes_eq-Decides (attribute_word a) (word_of b)).0
    (one_of b (attribute_word a) (written_attrs a) (written_under a) h)

-- what is written later is under a word that was not there before
pub not_before : (b : Attr) (before : List Name) (ws : List (Attribute Target))
    → repeated_words before ws ≡ [] → is_written b ws ≡ true → is_name_in before (word_of b) ≡ false
not_before b before [] once h = absurd (false≢true h)
not_before b before (a ∷ rest) once h = elim (or_cases (stands_for b a) (is_written b rest) h) [
  | inl e ↦
      ap (is_name_in before) (sym (word_written a b e))
      ∙ (repeated_parts before (attribute_word a) []
      (ap (λ (t : Bool). if t then [] else repeated before (attribute_word a ∷ []))
      (sym (written_once a b e))
      ∙ no_front (if is_transaction a then [] else repeated before (attribute_word a ∷ [])) _
      once)).0
  | inr e ↦
      (or_parts (bytes_eq (attribute_word a) (word_of b)) (is_name_in before (word_of b))
      (not_before b (attribute_word a ∷ before) rest
      (no_rest (repeated_words_inside a) _
      (no_rest (if is_transaction a then [] else repeated before (attribute_word a ∷ [])) _
      once)) e)).1
]

-- ---- trees under another word

module _ (b : Attr) (word : Name) (other : bytes_eq word (word_of b) ≡ false) where
  first_passes : (xs ys : List Named) → list_all (λ x. bytes_eq word (word_of x.0)) xs ≡ true
      → first_tree b (xs ++ ys) ≡ first_tree b ys
  first_passes [] ys h = refl
  first_passes (x ∷ xs) ys h =
      let parts = and_parts (bytes_eq word (word_of x.0))
      (list_all (λ y. bytes_eq word (word_of y.0)) xs) h in
      here (same_attr x.0 b) refl parts.0 (first_passes xs ys parts.1)
    where
      here : (s : Bool) → same_attr x.0 b ≡ s → bytes_eq word (word_of x.0) ≡ true
          → first_tree b (xs ++ ys) ≡ first_tree b ys
          → elim s as (λ _. Option Tree) [ true ↦ Some x.1 | false ↦ first_tree b (xs ++ ys) ]
          ≡ first_tree b ys
      here true is k rest = absurd
          (false≢true (sym other ∙ ap (λ y. bytes_eq word (word_of y)) (sym (same_attrs x.0 b is))
          ∙ k))
      here false is k rest = rest

pub tree_passes : (b : Attr) (a : Attribute Target) (rest : List (Attribute Target))
    → bytes_eq (attribute_word a) (word_of b) ≡ false → first_tree b (trees_of (a ∷ rest))
    ≡ first_tree b (trees_of rest)
tree_passes b a rest other = first_passes b (attribute_word a) other (trees_of_attribute a)
    (trees_of rest) (trees_under a)
