-- Attributes are read as they are spelled.
use Rattle.std.proofs.Common.{◌≡◌, ℕ, ◌≤◌, ◌<◌, true, false, List, [], ◌∷◌, length, map, Some, refl, sym, ap, ◌∙◌, inl, arith}
use Rattle.edd_syntax.specs.declared.numbers.Kind.{Kind}
use Rattle.edd_syntax.specs.declared.operators.Operator.TheVariants as operator
use Rattle.edd_syntax.specs.declared.symbols.Symbol.TheVariants as sign
use Rattle.edd_syntax.specs.Text.{Name}
use Rattle.edd_syntax.specs.Token.{Token, Sign}
use Rattle.edd_syntax.specs.Reference.{Path}
use Rattle.edd_syntax.specs.Item as item
use Rattle.edd_syntax.specs.Item.{Attribute}
use Rattle.edd_syntax.specs.WellFormed.{belongs_to}
use Rattle.edd_syntax.specs.Grammar.{TextHere}
use Rattle.edd_syntax.specs.ItemGrammar.{MoreNamesHere, NamesHere, HandlingHere, TruthHere, MenuEntryHere, ResponseCodeHere, MemberHere, ArrayElementHere, AttributeHere, OwnAttributeHere}
use Rattle.edd_syntax.specs.Size.{leaf, greatest_of, attribute_height}
use Rattle.edd_grammar.specs.Reading.{at}
use Rattle.edd_grammar.specs.ConditionalReading.{list_at, text_value}
use Rattle.edd_grammar.specs.WordReading.{integer_at, at_close, more_names_at, names_at, closed, row_inside}
use Rattle.edd_grammar.specs.ValueReading.{handling_value, truth_value, menu_entry_value}
use Rattle.edd_grammar.specs.AttributeReading.{response_code_at, member_at, array_element_at, transaction_at, class_words_at, command_number_at, command_operation_at, list_attribute_at, command_attribute_at, other_attribute_at, attribute_at, begins_own, own_attribute_at}
use Rattle.edd_grammar.proofs.Steps.{guard_some, at_is, expect_again}
use Rattle.edd_grammar.proofs.Branches.{SoundOf}
use Rattle.edd_grammar.proofs.SingleValues.{one_again, one_shorter}
use Rattle.edd_grammar.proofs.CompleteLists.{list_again, list_shorter}
use Rattle.edd_grammar.proofs.ValueKinds.{text_values}
use Rattle.edd_grammar.proofs.CompleteStatements.{definition_again, body_shorter}
use Rattle.edd_grammar.proofs.Words.{number_again, number_shorter, handling_values, truth_values, operation_again, operation_shorter}
use Rattle.edd_grammar.proofs.Entries.{EndsEntry, listed_menu_entries}
use Rattle.edd_grammar.proofs.Rows.{RowOf, ThenSemicolons, braced_again, row_inside_again, row_shorter, closed_elements}
use Rattle.edd_grammar.proofs.Types.{type_again, type_shorter}
use Rattle.edd_grammar.proofs.Members.{AfterResponse, response_codes, members, array_elements}
use Rattle.edd_grammar.proofs.Transactions.{transaction_parts_again, transaction_parts_shorter}
use Rattle.edd_grammar.proofs.SoundAttributes.{attribute_sound}

-- ---- CLASS

more_names_again : (names : List Name) (here rest : List Token)
    → MoreNamesHere (sign.Operator operator.And) names here (Sign sign.Semicolon ∷ rest)
    → more_names_at here ≡ (names, Sign sign.Semicolon ∷ rest)
more_names_again [] here rest h = ap more_names_at h
more_names_again (n ∷ more) here rest h =
    ap more_names_at (h.2 ∙ ap (λ u. Sign (sign.Operator operator.And) ∷ u) h.3)
    ∙ ap (λ (x : List Name × List Token). (n ∷ x.0, x.1)) (more_names_again more h.1 rest h.4)

more_names_shorter : (names : List Name) (here rest : List Token)
    → MoreNamesHere (sign.Operator operator.And) names here rest → length rest ≤ length here
more_names_shorter [] here rest h = omega (arith, ap length h)
more_names_shorter (n ∷ more) here rest h =
    omega (arith, ap length h.2, ap length h.3, more_names_shorter more h.1 rest h.4)

names_shorter : (names : List Name) (here rest : List Token)
    → NamesHere (sign.Operator operator.And) names here rest → length rest ≤ length here
names_shorter [] here rest h = absurd h
names_shorter (n ∷ more) here rest h =
    omega (arith, ap length h.1, more_names_shorter more h.0 rest h.2)

-- ---- attributes

pub attribute_again : (height_left : ℕ) (a : Attribute Path) (here rest : List Token)
    → AttributeHere a here rest → attribute_height a ≤ height_left → attribute_at height_left here
    ≡ Some (a, rest)
unfolding attribute_at list_attribute_at command_attribute_at other_attribute_at class_words_at names_at command_number_at
    command_operation_at transaction_at
attribute_again height_left (item.OneText which c) here rest h low =
    rw (h.1.2, h.1.1, one_again leaf TextHere text_value text_values height_left c h.0 rest h.2 low)
    refl
attribute_again height_left (item.Class []) here rest h low = absurd h.2
attribute_again height_left (item.Class (n ∷ more)) here rest h low =
    rw (h.1, h.2.1, more_names_again more h.2.0 rest h.2.2, expect_again sign.Semicolon rest) refl
attribute_again height_left (item.Handling c) here rest h low =
    rw (
      h.1,
      one_again leaf HandlingHere handling_value handling_values height_left c h.0 rest h.2
          low,
    ) refl
attribute_again height_left (item.Validity c) here rest h low =
    rw (h.1, one_again leaf TruthHere truth_value truth_values height_left c h.0 rest h.2 low) refl
attribute_again height_left (item.TypeOf type parts) here rest h low =
    rw (h.1, type_again height_left type parts h.0 rest h.2 low) refl
attribute_again height_left (item.Number n) here rest h low =
    rw (h, expect_again sign.Semicolon rest) refl
attribute_again height_left (item.Operation o) here rest h low =
    rw (
      h.1,
      operation_again o h.0 (Sign sign.Semicolon ∷ rest) h.2,
      expect_again sign.Semicolon
          rest,
    ) refl
attribute_again height_left (item.Transaction number parts) here rest h low =
    rw (
      h.3,
      number_again number h.0 h.1 (ap integer_at h.5) h.4,
      transaction_parts_again height_left parts h.1 rest (h.2, h.5, h.6) low,
    ) refl
attribute_again height_left (item.ResponseCodes responses) here rest h low =
    let inside = row_inside_again ResponseCodeHere leaf (greatest_of (map leaf responses))
    AfterResponse response_code_at (response_codes (greatest_of (map leaf responses))) responses
    h.0 rest h.2 (omega arith) in
    rw (
      h.1,
      braced_again (row_inside response_code_at) responses (Sign sign.OpenBrace ∷ h.0) h.0
          rest refl inside,
    ) refl
attribute_again height_left (item.Items entries) here rest h low =
    let inside = list_again leaf MenuEntryHere EndsEntry menu_entry_value listed_menu_entries
    height_left entries h.0 (Sign sign.CloseBrace ∷ rest) h.2 low (inl refl) in
    rw (
      h.1,
      braced_again (list_at menu_entry_value height_left) entries (Sign sign.OpenBrace ∷ h.0)
          h.0 rest refl inside,
    ) refl
attribute_again height_left (item.Members all) here rest h low =
    let inside = row_inside_again MemberHere leaf (greatest_of (map leaf all)) (λ rest. Unit {0})
    member_at (members (greatest_of (map leaf all))) all h.0 rest h.2 (omega arith) in
    rw (
      h.1,
      braced_again (row_inside member_at) all (Sign sign.OpenBrace ∷ h.0) h.0 rest refl
          inside,
    ) refl
attribute_again height_left (item.Elements all) here rest h low =
    let inside = row_inside_again ArrayElementHere leaf (greatest_of (map leaf all))
    (λ rest. Unit {0}) array_element_at (array_elements (greatest_of (map leaf all))) all h.0 rest
    h.2 (omega arith) in
    rw (
      h.1,
      braced_again (row_inside array_element_at) all (Sign sign.OpenBrace ∷ h.0) h.0 rest refl
          inside,
    ) refl
attribute_again height_left (item.Definition body) here rest h low =
    rw (h.1, expect_again sign.OpenBrace h.0, definition_again height_left body h.0 rest h.2 low)
    refl

pub attribute_shorter : (a : Attribute Path) (here rest : List Token) → AttributeHere a here rest
    → length rest < length here
attribute_shorter (item.OneText which c) here rest h =
    omega (arith, ap length h.1.2, one_shorter leaf TextHere text_value text_values c h.0 rest h.2)
attribute_shorter (item.Class names) here rest h =
    omega (arith, ap length h.1, names_shorter names h.0 _ h.2)
attribute_shorter (item.Handling c) here rest h =
    omega (
      arith,
      ap length h.1,
      one_shorter leaf HandlingHere handling_value handling_values c h.0
          rest h.2,
    )
attribute_shorter (item.Validity c) here rest h =
    omega (arith, ap length h.1, one_shorter leaf TruthHere truth_value truth_values c h.0 rest h.2)
attribute_shorter (item.TypeOf type parts) here rest h =
    omega (arith, ap length h.1, type_shorter type parts h.0 rest h.2)
attribute_shorter (item.Number n) here rest h = omega (arith, ap length h)
attribute_shorter (item.Operation o) here rest h =
    omega (arith, ap length h.1, operation_shorter o h.0 _ h.2)
attribute_shorter (item.Transaction number parts) here rest h =
    omega (
      arith,
      ap length h.3,
      number_shorter number h.0 h.1 h.4,
      transaction_parts_shorter parts
          h.1 rest (h.2, h.5, h.6),
    )
attribute_shorter (item.ResponseCodes responses) here rest h =
    omega (
      arith,
      ap length h.1,
      row_shorter ResponseCodeHere (response_codes 0).shorter responses
          h.0 _ h.2,
    )
attribute_shorter (item.Items entries) here rest h =
    omega (
      arith,
      ap length h.1,
      list_shorter leaf MenuEntryHere EndsEntry menu_entry_value
          listed_menu_entries entries h.0 _ h.2,
    )
attribute_shorter (item.Members all) here rest h =
    omega (arith, ap length h.1, row_shorter MemberHere (members 0).shorter all h.0 _ h.2)
attribute_shorter (item.Elements all) here rest h =
    omega (
      arith,
      ap length h.1,
      row_shorter ArrayElementHere (array_elements 0).shorter all h.0 _ h.2,
    )
attribute_shorter (item.Definition body) here rest h =
    omega (arith, ap length h.1, body_shorter false body h.0 _ h.2)

-- ---- the word of an attribute

-- the next token is a word, which says in which kinds of items the attribute may be
record StartsAttribute (a : Attribute Path) (here : List Token) : Type 0 where
  pub no_close : at_close here ≡ false
  pub no_semicolon : at sign.Semicolon here ≡ false
  pub belongs : (k : Kind) → begins_own k here ≡ belongs_to k a

starts_attribute : (a : Attribute Path) (here rest : List Token) → AttributeHere a here rest
    → StartsAttribute a here
starts_attribute (item.OneText which c) here rest h =
    rw h.1.2 (record { no_close = refl; no_semicolon = refl; belongs = λ k. rw h.1.1 refl })
starts_attribute (item.Number n) here rest h =
    rw h (record { no_close = refl; no_semicolon = refl; belongs = λ k. refl })
starts_attribute (item.Transaction number parts) here rest h =
    rw h.3 (record { no_close = refl; no_semicolon = refl; belongs = λ k. refl })
starts_attribute _ here rest h =
    rw h.1 (record { no_close = refl; no_semicolon = refl; belongs = λ k. refl })

-- ---- attributes of a kind of item

module _ (k : Kind) (height_left : ℕ) where
  pub own_attribute_sound : SoundOf (OwnAttributeHere k) attribute_height height_left
      (own_attribute_at k height_left)
  unfolding own_attribute_at
  own_attribute_sound here a rest x =
      let g = guard_some (begins_own k here) (attribute_at height_left here) (a, rest) x in
      let s = attribute_sound height_left here a rest g.1 in
      ((sym ((starts_attribute a here rest s.0).belongs k) ∙ g.0, s.0), s.1)

  own_attribute_again : (a : Attribute Path) (here rest : List Token)
      → OwnAttributeHere k a here rest → attribute_height a ≤ height_left
      → own_attribute_at k height_left here ≡ Some (a, rest)
  unfolding own_attribute_at
  own_attribute_again a here rest h low =
      let own : begins_own k here ≡ true = (starts_attribute a here rest h.1).belongs k ∙ h.0 in
      rw own (attribute_again height_left a here rest h.1 low)

  -- attributes, each with any number of semicolons after it
  pub own_attributes : RowOf (ThenSemicolons (OwnAttributeHere k)) attribute_height height_left
      (λ rest. at sign.Semicolon rest ≡ false) at_close (closed (own_attribute_at k height_left))
  own_attributes =
      closed_elements (OwnAttributeHere k) attribute_height height_left at_close
      (own_attribute_at k height_left) own_attribute_again
      (λ a here rest h. (starts_attribute a here rest h.1).no_close)
      (λ a here rest h. (starts_attribute a here rest h.1).no_semicolon)
      (λ a here rest h. attribute_shorter a here rest h.1)
      (λ rest e. ap (at sign.Semicolon) (at_is sign.CloseBrace rest e))
