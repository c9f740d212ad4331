-- An attribute that is not written gives nothing, and there is a transaction at each position up to
-- their number.
use Rattle.std.proofs.Common.{◌≡◌, refl, sym, ap, ◌∙◌, ℕ, zero, suc, ◌+◌, Bool, true, false, List, [], ◌∷◌, ◌++◌, map, arith}
use Rattle.std.specs.Prelude.{◌==◌, ◌||◌, slice_get, is_some, ℤ, pos, Ok}
use Rattle.std.specs.List.{list_any}
use Rattle.std.proofs.lemmas.Bool.{false≢true, or_parts, or_left, ne_eqb, eq-eqb, eqb-true, false_from_ne_true}
use Rattle.edd_syntax.specs.declared.numbers.Attr.{Attr}
use Rattle.edd_syntax.specs.declared.numbers.Attr.TheVariants as attr
use Rattle.edd_syntax.specs.declared.reference.Target.{Target}
use Rattle.edd_syntax.specs.Conditional.{Nil}
use Rattle.edd_syntax.specs.Item as item
use Rattle.edd_syntax.specs.Item.{TypePart, Attribute}
use Rattle.edd_syntax.specs.Words.{name_words}
use Rattle.edd_syntax.specs.Numbers.{attr_number, same_attr, text_attr, number_attr, format_attr}
use Rattle.edd_syntax.specs.Device.{Environment}
use Rattle.edd_syntax.specs.AttributeValue.{all_chosen}
use Rattle.edd_syntax.specs.Attributes.{Meaning, Named, Words, Number, constant, each, entry, enumerator, response, member, element, one, list, texts, expressions, elements, of_parts, of_attribute, of_attributes, transactions, meaning_of, handling_number, operation_number, bit}
use Rattle.edd_syntax.specs.Rows.{part_attr, stands_for, is_written, transaction_positions}

-- ---- what is not written

module _ (env : Environment) (a : Attr) (d : List ℤ) where
  turned : (b : Attr) → same_attr a b ≡ false → same_attr b a ≡ false
  turned b h = false_from_ne_true (same_attr b a)
      (λ e. false≢true (sym h ∙ eq-eqb (attr_number a) (attr_number b)
      (sym (eqb-true (attr_number b) (attr_number a) e))))

  -- a meaning of another attribute is passed
  passed : (b : Attr) (m : Meaning) (rest : List Named) → same_attr a b ≡ false
      → meaning_of a ((b, m) ∷ rest) d ≡ meaning_of a rest d
  passed b m rest h = ap (λ t. (elim t as (λ w. Meaning) [ true ↦ m | false ↦ meaning_of a rest ])
      d) (turned b h)

  parts_passed : (parts : List (TypePart Target)) (rest : List Named)
      → list_any (same_attr a) (map part_attr parts) ≡ false
      → meaning_of a (of_parts env parts ++ rest) d ≡ meaning_of a rest d
  parts_passed [] rest h = refl
  parts_passed (item.OneNumber which c ∷ ps) rest h =
      let both = or_parts (same_attr a (number_attr which))
      (list_any (same_attr a) (map part_attr ps)) h in
      passed (number_attr which) (expressions env c) (of_parts env ps ++ rest) both.0
      ∙ parts_passed ps rest both.1
  parts_passed (item.OneFormat which c ∷ ps) rest h =
      let both = or_parts (same_attr a (format_attr which))
      (list_any (same_attr a) (map part_attr ps)) h in
      passed (format_attr which) (texts env c) (of_parts env ps ++ rest) both.0
      ∙ parts_passed ps rest both.1
  parts_passed (item.Element c ∷ ps) rest h =
      parts_passed ps rest (or_parts (same_attr a attr.Enumerators)
      (list_any (same_attr a) (map part_attr ps)) h).1

  -- a type without elements has an empty list of them
  no_elements : (parts : List (TypePart Target)) → list_any (same_attr a) (map part_attr parts)
      ≡ false → same_attr a attr.Enumerators ≡ true → elements env parts ≡ Nil
  no_elements [] h is = refl
  no_elements (item.OneNumber which c ∷ ps) h is =
      no_elements ps (or_parts (same_attr a (number_attr which))
      (list_any (same_attr a) (map part_attr ps)) h).1 is
  no_elements (item.OneFormat which c ∷ ps) h is =
      no_elements ps (or_parts (same_attr a (format_attr which))
      (list_any (same_attr a) (map part_attr ps)) h).1 is
  no_elements (item.Element c ∷ ps) h is =
      absurd (false≢true (sym (or_parts (same_attr a attr.Enumerators)
      (list_any (same_attr a) (map part_attr ps)) h).0 ∙ is))

  type_gives_nothing : (parts : List (TypePart Target)) (rest : List Named)
      → list_any (same_attr a) (map part_attr parts) ≡ false → meaning_of a rest d ≡ Ok []
      → meaning_of a (((attr.Enumerators, list env enumerator (elements env parts))
      ∷ of_parts env parts) ++ rest) d ≡ Ok []
  unfolding all_chosen
  type_gives_nothing parts rest h others = pick (same_attr attr.Enumerators a) refl
    where
      pick : (b : Bool) → same_attr attr.Enumerators a ≡ b
          → (elim b as (λ w. Meaning) [
            | true ↦ list env enumerator (elements env parts)
            | false ↦ meaning_of a (of_parts env parts ++ rest)
          ]) d ≡ Ok []
      pick true is = ap (λ all. each enumerator (all_chosen env d all))
          (no_elements parts h (eq-eqb (attr_number a) 12 (sym (eqb-true 12 (attr_number a) is))))
      pick false is = parts_passed parts rest h ∙ others

  gives_nothing : (w : Attribute Target) (rest : List Named) → stands_for a w ≡ false
      → meaning_of a rest d ≡ Ok [] → meaning_of a (of_attribute env w ++ rest) d ≡ Ok []
  unfolding stands_for
  gives_nothing (item.OneText which c) rest h others = passed (text_attr which) (texts env c) rest
      (or_parts (same_attr a (text_attr which)) false h).0 ∙ others
  gives_nothing (item.Class names) rest h others =
      passed attr.Class (constant (map (λ n. Words (name_words n)) names)) rest
      (or_parts (same_attr a attr.Class) false h).0 ∙ others
  gives_nothing (item.Handling c) rest h others =
      passed attr.Handling (one env (λ v. Number (pos (handling_number v))) c) rest
      (or_parts (same_attr a attr.Handling) false h).0 ∙ others
  gives_nothing (item.Validity c) rest h others =
      passed attr.Validity (one env (λ valid. Number (pos (bit valid))) c) rest
      (or_parts (same_attr a attr.Validity) false h).0 ∙ others
  gives_nothing (item.TypeOf word parts) rest h others = type_gives_nothing parts rest h others
  gives_nothing (item.Number n) rest h others = passed attr.Number (constant (Number (pos n) ∷ []))
      rest (or_parts (same_attr a attr.Number) false h).0 ∙ others
  gives_nothing (item.Operation o) rest h others =
      passed attr.Operation (constant (Number (pos (operation_number o)) ∷ [])) rest
      (or_parts (same_attr a attr.Operation) false h).0 ∙ others
  gives_nothing (item.ResponseCodes responses) rest h others =
      passed attr.ResponseCodes (constant (map response responses)) rest
      (or_parts (same_attr a attr.ResponseCodes) false h).0 ∙ others
  gives_nothing (item.Items entries) rest h others = passed attr.Items (list env entry entries) rest
      (or_parts (same_attr a attr.Items) false h).0 ∙ others
  gives_nothing (item.Members members) rest h others =
      passed attr.Members (constant (map member members)) rest
      (or_parts (same_attr a attr.Members) false h).0 ∙ others
  gives_nothing (item.Elements all) rest h others =
      passed attr.Elements (constant (map element all)) rest
      (or_parts (same_attr a attr.Elements) false h).0 ∙ others
  gives_nothing _ rest h others = others

  pub unwritten : (ws : List (Attribute Target)) → is_written a ws ≡ false
      → meaning_of a (of_attributes env ws) d ≡ Ok []
  unwritten [] h = refl
  unwritten (w ∷ ws) h =
      let both = or_parts (stands_for a w) (is_written a ws) h in
      gives_nothing w (of_attributes env ws) both.0 (unwritten ws both.1)

-- ---- transactions

pub transaction_at : (env : Environment) (next : ℕ) (ws : List (Attribute Target)) (n : ℕ)
    → list_any (λ s. s == next + n) (transaction_positions next ws)
    ≡ is_some (slice_get (transactions env ws) n)
transaction_at env next [] n = refl
transaction_at env next (item.Transaction number parts ∷ rest) zero =
    or_left (next == next + 0)
    (list_any (λ s. s == next + 0) (transaction_positions (suc next) rest))
    (eq-eqb next (next + 0) (omega arith))
transaction_at env next (item.Transaction number parts ∷ rest) (suc n) =
    ap (λ b. b || list_any (λ s. s == next + suc n) (transaction_positions (suc next) rest))
    (ne_eqb next (next + suc n) (λ e. omega (arith, e)))
    ∙ ap (λ m. list_any (λ s. s == m) (transaction_positions (suc next) rest)) further
    ∙ transaction_at env (suc next) rest n
  where
    further : next + suc n ≡ suc next + n
    further = omega arith
transaction_at env next (w ∷ rest) n = transaction_at env next rest n
