-- Attributes that are read are spelled so.
use Rattle.std.proofs.Common.{◌≡◌, ℕ, ◌≤◌, true, List, ◌∷◌, drop, Option, Some, None, refl, ap, ◌∙◌, arith}
use Rattle.edd_syntax.specs.declared.numbers.TextAttribute.{TextAttribute}
use Rattle.edd_syntax.specs.declared.operators.Operator.TheVariants as operator
use Rattle.edd_syntax.specs.declared.symbols.Keyword.TheVariants as word
use Rattle.edd_syntax.specs.declared.symbols.Symbol.TheVariants as sign
use Rattle.edd_syntax.specs.Text.{Name}
use Rattle.edd_syntax.specs.Token.{Token, Reserved, Identifier, Integer, Sign}
use Rattle.edd_syntax.specs.Reference.{Path}
use Rattle.edd_syntax.specs.Item as item
use Rattle.edd_syntax.specs.Item.{Attribute}
use Rattle.edd_syntax.specs.Grammar.{TextHere}
use Rattle.edd_syntax.specs.StatementGrammar.{OneHere, ListHere}
use Rattle.edd_syntax.specs.ItemGrammar.{RowHere, MoreNamesHere, NamesHere, HandlingHere, TruthHere, OperationHere, MenuEntryHere, ResponseCodeHere, MemberHere, ArrayElementHere, AttributeHere}
use Rattle.edd_syntax.specs.Size.{leaf, cond_height, conds_height, attribute_height}
use Rattle.edd_syntax.specs.Numbers.{text_of_word}
use Rattle.edd_grammar.specs.Reading.{◌>>=◌, on_option, Read, expect, at_word, name_at}
use Rattle.edd_grammar.specs.ConditionalReading.{one_at, list_at, text_value}
use Rattle.edd_grammar.specs.StatementReading.{definition_at}
use Rattle.edd_grammar.specs.WordReading.{integer_at, number_at, more_names_at, names_at, closed, braced, row_inside}
use Rattle.edd_grammar.specs.ValueReading.{operation_at, handling_value, truth_value, menu_entry_value}
use Rattle.edd_grammar.specs.TypeReading.{type_at}
use Rattle.edd_grammar.specs.AttributeReading.{response_code_at, member_at, array_element_at, transaction_part_at, transaction_at, class_words_at, command_number_at, command_operation_at, text_here, list_attribute_at, command_attribute_at, other_attribute_at, attribute_at}
use Rattle.edd_grammar.proofs.Steps.{bind_some, as_read, at_word_is, expect_is, name_is, word_is}
use Rattle.edd_grammar.proofs.SameSigns.{same_word_self}
use Rattle.edd_grammar.proofs.Alternatives.{branch, expected, worded}
use Rattle.edd_grammar.proofs.Branches.{SoundOf}
use Rattle.edd_grammar.proofs.SingleValues.{one_sound}
use Rattle.edd_grammar.proofs.SoundLists.{list_sound}
use Rattle.edd_grammar.proofs.ValueKinds.{text_value_sound}
use Rattle.edd_grammar.proofs.SoundStatements.{definition_sound}
use Rattle.edd_grammar.proofs.Words.{integer_is, number_sound, handling_value_sound, truth_value_sound, operation_sound}
use Rattle.edd_grammar.proofs.Entries.{menu_entry_value_sound}
use Rattle.edd_grammar.proofs.Rows.{BracedHere, tallest, braced_sound, row_inside_sound}
use Rattle.edd_grammar.proofs.Types.{WrittenHere, written_height, type_sound}
use Rattle.edd_grammar.proofs.Members.{response_code_sound, member_sound, array_element_sound}
use Rattle.edd_grammar.proofs.Transactions.{transaction_parts_sound}

-- ---- CLASS

more_names_sound : (here : List Token)
    → MoreNamesHere (sign.Operator operator.And) (more_names_at here).0 here (more_names_at here).1
more_names_sound (Sign (sign.Operator operator.And) ∷ Identifier n ∷ rest) =
    (Identifier n ∷ rest, rest, refl, refl, more_names_sound rest)
more_names_sound _ = refl

names_sound : (here : List Token) (names : List Name) (rest : List Token)
    → names_at here ≡ Some (names, rest) → NamesHere (sign.Operator operator.And) names here rest
unfolding names_at
names_sound here names rest x =
    let a = bind_some (name_at here) _ (names, rest) x in
    as_read (λ names r. NamesHere (sign.Operator operator.And) names here r) _ names _ rest a.2
    (a.0.1, name_is here a.0.0 a.0.1 a.1, more_names_sound a.0.1)

-- ---- attributes by their words

module _ (height_left : ℕ) where
  abbrev Stands : List Token → Attribute Path → List Token → Type 0
  Stands here a rest = AttributeHere a here rest × (attribute_height a ≤ height_left)

  -- a text after its word
  abbrev text_behind : List Token → TextAttribute → Read (Attribute Path)
  text_behind here which = one_at text_value height_left (drop 1 here)
      >>= λ c. Some (item.OneText which c.0, c.1)

  text_sound : (which : TextAttribute) (here : List Token) (a : Attribute Path) (rest : List Token)
      → text_here here ≡ Some which → text_behind here which ≡ Some (a, rest) → Stands here a rest
  text_sound which here a rest is y =
      let k = word_is text_of_word which here is in
      worded AttributeHere attribute_height height_left k.0 (OneHere TextHere) (cond_height leaf)
      (one_at text_value height_left) (one_sound leaf TextHere text_value text_value_sound
      height_left)
      (item.OneText which) (λ c here behind rest e h. (behind, (k.0, k.1, e), h)) (λ c l. l) here a
      rest (ap (at_word k.0) k.2 ∙ same_word_self k.0) y

  class_sound : (here : List Token) (a : Attribute Path) (rest : List Token)
      → at_word word.Class here ≡ true → class_words_at (drop 1 here) ≡ Some (a, rest)
      → Stands here a rest
  unfolding class_words_at
  class_sound here a rest t x =
      let n = bind_some (names_at (drop 1 here)) _ (a, rest) x in
      let s = bind_some (expect sign.Semicolon n.0.1) _ (a, rest) n.2 in
      as_read (Stands here) (item.Class n.0.0) a s.0 rest s.2 (
        (
          drop 1 here,
          at_word_is word.Class here t,
          expected (NamesHere (sign.Operator operator.And) n.0.0 (drop 1 here)) sign.Semicolon n.0.1
              s.0 s.1 (names_sound (drop 1 here) n.0.0 n.0.1 n.1),
        ),
        omega arith,
      )

  command_number_sound : (here : List Token) (a : Attribute Path) (rest : List Token)
      → at_word word.Number here ≡ true → command_number_at (drop 1 here) ≡ Some (a, rest)
      → Stands here a rest
  unfolding command_number_at
  command_number_sound here a rest t x =
      let n = bind_some (integer_at (drop 1 here)) _ (a, rest) x in
      let s = bind_some (expect sign.Semicolon n.0.1) _ (a, rest) n.2 in
      let behind : drop 1 here ≡ Integer n.0.0 ∷ Sign sign.Semicolon ∷ s.0 =
      integer_is (drop 1 here) n.0.0 n.0.1 n.1
      ∙ ap (λ u. Integer n.0.0 ∷ u) (expect_is sign.Semicolon n.0.1 s.0 s.1) in
      as_read (Stands here) (item.Number n.0.0) a s.0 rest s.2 (
        at_word_is word.Number here t
            ∙ ap (λ u. Reserved word.Number ∷ u) behind,
        omega arith,
      )

  command_operation_sound : (here : List Token) (a : Attribute Path) (rest : List Token)
      → at_word word.Operation here ≡ true → command_operation_at (drop 1 here) ≡ Some (a, rest)
      → Stands here a rest
  unfolding command_operation_at
  command_operation_sound here a rest t x =
      let o = bind_some (operation_at (drop 1 here)) _ (a, rest) x in
      let s = bind_some (expect sign.Semicolon o.0.1) _ (a, rest) o.2 in
      as_read (Stands here) (item.Operation o.0.0) a s.0 rest s.2 (
        (
          drop 1 here,
          at_word_is word.Operation here t,
          expected (OperationHere o.0.0 (drop 1 here))
              sign.Semicolon o.0.1 s.0 s.1 (operation_sound (drop 1 here) o.0.0 o.0.1 o.1),
        ),
        omega arith,
      )

  transaction_sound : (here : List Token) (a : Attribute Path) (rest : List Token)
      → at_word word.Transaction here ≡ true → transaction_at height_left (drop 1 here)
      ≡ Some (a, rest) → Stands here a rest
  unfolding transaction_at
  transaction_sound here a rest t x =
      let n = bind_some (number_at (drop 1 here)) _ (a, rest) x in
      let p = bind_some (braced (row_inside (closed (transaction_part_at height_left))) n.0.1) _
      (a, rest) n.2 in
      let parts = transaction_parts_sound height_left n.0.1 p.0.0 p.0.1 p.1 in
      as_read (Stands here) (item.Transaction n.0.0 p.0.0) a p.0.1 rest p.2 (
        (
          drop 1 here,
          n.0.1,
          parts.0.0,
          at_word_is word.Transaction here t,
          number_sound (drop 1 here) n.0.0 n.0.1 n.1,
          parts.0.1,
          parts.0.2,
        ),
        parts.1,
      )

  definition_attribute_sound : (here : List Token) (a : Attribute Path) (rest : List Token)
      → at_word word.Definition here ≡ true
      → ◌>>=◌ {B = Attribute Path × List Token} (expect sign.OpenBrace (drop 1 here))
      (λ inside. ◌>>=◌ {B = Attribute Path × List Token} (definition_at height_left inside)
      (λ b. Some (item.Definition b.0, b.1))) ≡ Some (a, rest) → Stands here a rest
  definition_attribute_sound here a rest t x =
      let o = bind_some (expect sign.OpenBrace (drop 1 here)) _ (a, rest) x in
      let b = bind_some (definition_at height_left o.0) _ (a, rest) o.2 in
      let body = definition_sound height_left o.0 b.0.0 b.0.1 b.1 in
      as_read (Stands here) (item.Definition b.0.0) a b.0.1 rest b.2 (
        (
          o.0,
          at_word_is word.Definition here t ∙ ap (λ u. Reserved word.Definition ∷ u)
              (expect_is sign.OpenBrace (drop 1 here) o.0 o.1),
          body.0,
        ),
        body.1,
      )

  other_sound : SoundOf AttributeHere attribute_height height_left (other_attribute_at height_left)
  unfolding list_attribute_at command_attribute_at other_attribute_at
  other_sound here a rest x =
      branch (at_word word.Class here) _ _ _ x (λ t y. class_sound here a rest t y) (λ _ x1.
      branch (at_word word.Handling here) _ _ _ x1
      (λ t y. worded AttributeHere attribute_height height_left word.Handling (OneHere HandlingHere)
      (cond_height leaf) (one_at handling_value height_left)
      (one_sound leaf HandlingHere handling_value handling_value_sound height_left)
      item.Handling (λ c here behind rest e h. (behind, e, h)) (λ c l. l) here a rest t y) (λ _ x2.
      branch (at_word word.Validity here) _ _ _ x2
      (λ t y. worded AttributeHere attribute_height height_left word.Validity (OneHere TruthHere)
      (cond_height leaf) (one_at truth_value height_left)
      (one_sound leaf TruthHere truth_value truth_value_sound height_left)
      item.Validity (λ c here behind rest e h. (behind, e, h)) (λ c l. l) here a rest t y) (λ _ x3.
      branch (at_word word.Type here) _ _ _ x3
      (λ t y. worded AttributeHere attribute_height height_left word.Type WrittenHere written_height
      (type_at height_left) (type_sound height_left)
      (λ w. item.TypeOf w.0 w.1) (λ w here behind rest e h. (behind, e, h)) (λ w l. l) here a rest t
      y) (λ _ x4.
      branch (at_word word.Number here) _ _ _ x4 (λ t y. command_number_sound here a rest t y)
      (λ _ x5.
      branch (at_word word.Operation here) _ _ _ x5 (λ t y. command_operation_sound here a rest t y)
      (λ _ x6.
      branch (at_word word.Transaction here) _ _ _ x6 (λ t y. transaction_sound here a rest t y)
      (λ _ x7.
      branch (at_word word.ResponseCodes here) _ _ _ x7
      (λ t y. worded AttributeHere attribute_height height_left word.ResponseCodes
      (BracedHere (RowHere ResponseCodeHere)) (tallest leaf)
      (braced (row_inside response_code_at))
      (braced_sound (RowHere ResponseCodeHere) (tallest leaf) height_left
      (row_inside response_code_at) (row_inside_sound ResponseCodeHere leaf height_left
      response_code_at (response_code_sound height_left)))
      item.ResponseCodes (λ v here behind rest e h.
      (h.0, e ∙ ap (λ u. Reserved word.ResponseCodes ∷ u) h.1, h.2)) (λ v l. omega arith) here a
      rest t y) (λ _ x8.
      branch (at_word word.Items here) _ _ _ x8
      (λ t y. worded AttributeHere attribute_height height_left word.Items
      (BracedHere (ListHere MenuEntryHere)) (conds_height leaf)
      (braced (list_at menu_entry_value height_left))
      (braced_sound (ListHere MenuEntryHere) (conds_height leaf) height_left
      (list_at menu_entry_value height_left)
      (list_sound leaf MenuEntryHere menu_entry_value menu_entry_value_sound height_left))
      item.Items (λ v here behind rest e h. (h.0, e ∙ ap (λ u. Reserved word.Items ∷ u) h.1, h.2))
      (λ v l. l) here a rest t y) (λ _ x9.
      branch (at_word word.Members here) _ _ _ x9
      (λ t y. worded AttributeHere attribute_height height_left word.Members
      (BracedHere (RowHere MemberHere)) (tallest leaf) (braced (row_inside member_at))
      (braced_sound (RowHere MemberHere) (tallest leaf) height_left (row_inside member_at)
      (row_inside_sound MemberHere leaf height_left member_at (member_sound height_left)))
      item.Members (λ v here behind rest e h. (
        h.0,
        e ∙ ap (λ u. Reserved word.Members ∷ u) h.1,
        h.2,
      )) (λ v l. omega arith) here a rest t y) (λ _ x10.
      branch (at_word word.Definition here) _ _ _ x10
      (λ t y. definition_attribute_sound here a rest t y) (λ _ x11.
      branch (at_word word.Elements here) _ _ _ x11
      (λ t y. worded AttributeHere attribute_height height_left word.Elements
      (BracedHere (RowHere ArrayElementHere)) (tallest leaf) (braced (row_inside array_element_at))
      (braced_sound (RowHere ArrayElementHere) (tallest leaf) height_left
      (row_inside array_element_at) (row_inside_sound ArrayElementHere leaf height_left
      array_element_at (array_element_sound height_left)))
      item.Elements (λ v here behind rest e h. (
        h.0,
        e ∙ ap (λ u. Reserved word.Elements ∷ u) h.1,
        h.2,
      )) (λ v l. omega arith) here a rest t y) (λ _ y. absurd cc))))))))))))

  pub attribute_sound : SoundOf AttributeHere attribute_height height_left
      (attribute_at height_left)
  unfolding attribute_at
  attribute_sound here a rest x = by_text (text_here here) refl x
    where
      by_text : (o : Option TextAttribute) → text_here here ≡ o
          → on_option o (other_attribute_at height_left here) (text_behind here) ≡ Some (a, rest)
          → Stands here a rest
      by_text (Some which) is y = text_sound which here a rest is y
      by_text None is y = other_sound here a rest y
