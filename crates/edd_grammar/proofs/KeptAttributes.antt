-- Types and attributes that are spelled by tokens keep what trees keep.
use Rattle.std.proofs.Common.{◌≡◌, ℕ, zero, suc, Bool, false, ◌&&◌, List, [], ◌∷◌, Some, refl, ap, inl, inr}
use Rattle.std.specs.List.{list_all}
use Rattle.edd_syntax.specs.declared.operators.Operator.TheVariants as operator
use Rattle.edd_syntax.specs.declared.symbols.Keyword.{Keyword}
use Rattle.edd_syntax.specs.declared.symbols.Keyword.TheVariants as word
use Rattle.edd_syntax.specs.declared.symbols.Symbol.TheVariants as sign
use Rattle.edd_syntax.specs.Token.{Token, Reserved, Identifier, Integer, Sign}
use Rattle.edd_syntax.specs.Reference.{Path}
use Rattle.edd_syntax.specs.Conditional.{Cond}
use Rattle.edd_syntax.specs.Item as item
use Rattle.edd_syntax.specs.Item.{TypeWord, TypePart}
use Rattle.edd_syntax.specs.WellFormed.{is_text, is_path, is_plain, is_pure_expr, is_cond, is_single, is_enumerator, is_entry, is_data_item, is_response_code, is_member, is_array_element, is_type_part, is_type, is_transaction_part, is_attribute}
use Rattle.edd_syntax.specs.Grammar.{TextHere}
use Rattle.edd_syntax.specs.StatementGrammar.{OneHere}
use Rattle.edd_syntax.specs.ItemGrammar.{RowHere, TimesHere, ClosedHere, ValueExprHere, HandlingHere, TruthHere, EnumeratorHere, DataItemHere, MenuEntryHere, ResponseCodeHere, MemberHere, ArrayElementHere, type_name, TypePartHere, TypePartsHere, behind_braces, OtherEndHere, SkippedHere, TypeHere, TransactionPartHere, AttributeHere}
use Rattle.edd_grammar.specs.KeptTokens.{Kept}
use Rattle.edd_grammar.proofs.Branches.{Spelling}
use Rattle.edd_grammar.proofs.KeptExpressions.{Both, kept_next, kept_tail, kept_same, text_kept, pure_kept}
use Rattle.edd_grammar.proofs.KeptConditionals.{KeepsValues, comma_kept, one_single, one_kept, list_kept, element_kept}
use Rattle.edd_grammar.proofs.KeptStatements.{body_kept}
use Rattle.edd_grammar.proofs.KeptValues.{any_value, handling_kept, truth_kept, operation_kept, number_kept, size_kept, names_kept, enumerator_kept, data_item_kept, menu_entry_kept, array_element_kept, response_code_kept, member_kept}

-- ---- repetitions

pub row_kept : {A : Type 0} (Here : Spelling A) (of : A → Bool) → KeepsValues Here of
    → (xs : List A) (here rest : List Token) → RowHere Here xs here rest → Kept here
    → Both (list_all of xs) rest
row_kept Here of values [] here rest h k = (refl, kept_same here rest h k)
row_kept Here of values (x ∷ xs) here rest h k =
    let first = values x here h.0 h.1 k in
    let more = row_kept Here of values xs h.0 rest h.2 first.1 in
    (rw (first.0, more.0) refl, more.1)

pub semicolons_kept : (n : ℕ) (here rest : List Token) → TimesHere n sign.Semicolon here rest
    → Kept here → Kept rest
semicolons_kept zero here rest h k = kept_same here rest h k
semicolons_kept (suc n) here rest h k =
    semicolons_kept n h.0 rest h.2 (kept_next (Sign sign.Semicolon) here h.0 h.1 k).1

closed_kept : {A : Type 0} (Here : Spelling A) (of : A → Bool) → KeepsValues Here of
    → (xs : List A) (here rest : List Token) → ClosedHere Here xs here rest → Kept here
    → Both (list_all of xs) rest
closed_kept Here of values [] here rest h k = (refl, kept_same here rest h k)
closed_kept Here of values (x ∷ xs) here rest h k =
    let first = values x here h.0 h.2 k in
    let more = closed_kept Here of values xs h.1 rest h.5 (semicolons_kept h.3 h.0 h.1 h.4 first.1)
    in
    (rw (first.0, more.0) refl, more.1)

-- ---- single values after a word

-- a conditional of good values, one in each branch
single_kept : {V : Type 0} (k : Keyword) (Here : Spelling V) (of : V → Bool) → KeepsValues Here of
    → (c : Cond Path V) (here behind rest : List Token) → here ≡ Reserved k ∷ behind
    → OneHere Here c behind rest
    → Kept here → Both (is_cond is_path is_plain of c && is_single is_path is_plain c) rest
single_kept w Here of values c here behind rest e h k =
    let all = one_kept Here of values c behind rest h (kept_next (Reserved w) here behind e k).1 in
    (rw (all.0, one_single Here c behind rest h) refl, all.1)

-- ---- types

type_part_kept : KeepsValues TypePartHere (is_type_part is_path is_plain)
type_part_kept (item.OneNumber which c) here rest h k = single_kept h.1.0 ValueExprHere
    (is_pure_expr is_path is_plain) (pure_kept 2) c here h.0 rest h.1.2 h.2 k
type_part_kept (item.OneFormat which c) here rest h k = single_kept h.1.0 TextHere is_text text_kept
    c here h.0 rest h.1.2 h.2 k
type_part_kept (item.Element c) here rest h k =
    let all = element_kept EnumeratorHere (is_enumerator is_path is_plain) enumerator_kept c here
    h.0 h.1 k in
    (all.0, comma_kept sign.Comma h.0 rest h.2 all.1)

type_parts_kept : (parts : List (TypePart Path)) (here rest : List Token)
    → TypePartsHere parts here rest → Kept here
    → Both (list_all (is_type_part is_path is_plain) parts) rest
type_parts_kept parts here rest (inl h) k = (
  ap (list_all (is_type_part is_path is_plain)) h.0,
  (kept_next (Sign sign.Semicolon) here rest h.1 k).1,
)
type_parts_kept parts here rest (inr h) k =
    let all = row_kept TypePartHere (is_type_part is_path is_plain) type_part_kept parts h.0 _ h.2
    (kept_next (Sign sign.OpenBrace) here h.0 h.1 k).1 in
    (all.0, kept_tail (Sign sign.CloseBrace) rest all.1)

braces_kept : (depth : ℕ) (here rest : List Token) → behind_braces depth here ≡ Some rest
    → Kept here → Kept rest
braces_kept zero here rest e k = kept_same here rest (cc (e)) k
braces_kept (suc depth) [] rest e k = absurd cc
braces_kept (suc depth) (Sign sign.OpenBrace ∷ here) rest e k = braces_kept (suc (suc depth)) here
    rest e (kept_tail (Sign sign.OpenBrace) here k)
braces_kept (suc depth) (Sign sign.CloseBrace ∷ here) rest e k =
    braces_kept depth here rest e (kept_tail (Sign sign.CloseBrace) here k)
braces_kept (suc depth) (t ∷ here) rest e k = braces_kept (suc depth) here rest e
    (kept_tail t here k)

other_end_kept : (here rest : List Token) → OtherEndHere here rest → Kept here → Kept rest
other_end_kept here rest (inl h) k = (kept_next (Sign sign.Semicolon) here rest h k).1
other_end_kept here rest (inr h) k =
    braces_kept 1 h.0 rest h.2 (kept_next (Sign sign.OpenBrace) here h.0 h.1 k).1

skipped_kept : (skipped here rest : List Token) → SkippedHere skipped here rest → Kept here
    → Kept rest
skipped_kept [] here rest h k = kept_same here rest h k
skipped_kept (t ∷ ts) here rest h k = skipped_kept ts h.1 rest h.3 (kept_next t here h.1 h.2 k).1

type_kept : (type : TypeWord) (parts : List (TypePart Path)) (here rest : List Token)
    → TypeHere type parts here rest → Kept here → Both (is_type is_path is_plain type parts) rest
type_kept (item.Known type size) parts here rest h k =
    let number = size_kept size h.0 h.1 h.3 (kept_next (Identifier (type_name type)) here h.0 h.2
    k).1 in
    let all = type_parts_kept parts h.1 rest h.4 number.1 in
    (rw (number.0, all.0) refl, all.1)
type_kept (item.Other name) parts here rest h k =
    let first = kept_next (Identifier name) here h.2 h.3 k in (
      rw (first.0, h.0) refl,
      other_end_kept h.4.1 rest h.4.3
          (skipped_kept h.4.0 h.2 h.4.1 h.4.2 first.1),
    )

-- ---- transactions

transaction_part_kept : KeepsValues TransactionPartHere (is_transaction_part is_path is_plain)
transaction_part_kept (item.Request all) here rest h k =
    let brace = kept_next (Reserved word.Request) here (Sign sign.OpenBrace ∷ h.0) h.1 k in
    let items = list_kept DataItemHere (is_data_item is_path is_plain) data_item_kept all h.0 _ h.2
    (kept_tail (Sign sign.OpenBrace) h.0 brace.1) in
    (items.0, kept_tail (Sign sign.CloseBrace) rest items.1)
transaction_part_kept (item.Reply all) here rest h k =
    let brace = kept_next (Reserved word.Reply) here (Sign sign.OpenBrace ∷ h.0) h.1 k in
    let items = list_kept DataItemHere (is_data_item is_path is_plain) data_item_kept all h.0 _ h.2
    (kept_tail (Sign sign.OpenBrace) h.0 brace.1) in
    (items.0, kept_tail (Sign sign.CloseBrace) rest items.1)

-- ---- attributes

-- after a word and an opening brace
braced_kept : (w : Keyword) (here inside : List Token) → here ≡ Reserved w ∷ Sign sign.OpenBrace
    ∷ inside → Kept here → Kept inside
braced_kept w here inside e k = kept_tail (Sign sign.OpenBrace) inside
    (kept_next (Reserved w) here (Sign sign.OpenBrace ∷ inside) e k).1

pub attribute_kept : KeepsValues AttributeHere (is_attribute is_path is_plain)
attribute_kept (item.OneText which c) here rest h k = single_kept h.1.0 TextHere is_text text_kept c
    here h.0 rest h.1.2 h.2 k
attribute_kept (item.Class names) here rest h k =
    let all = names_kept (sign.Operator operator.And) names h.0 _ h.2
    (kept_next (Reserved word.Class) here h.0 h.1 k).1 in
    (all.0, kept_tail (Sign sign.Semicolon) rest all.1)
attribute_kept (item.Handling c) here rest h k = single_kept word.Handling HandlingHere any_value
    handling_kept c here h.0 rest h.1 h.2 k
attribute_kept (item.Validity c) here rest h k = single_kept word.Validity TruthHere any_value
    truth_kept c here h.0 rest h.1 h.2 k
attribute_kept (item.TypeOf type parts) here rest h k = type_kept type parts h.0 rest h.2
    (kept_next (Reserved word.Type) here h.0 h.1 k).1
attribute_kept (item.Number n) here rest h k =
    let behind = kept_next (Reserved word.Number) here (Integer n ∷ Sign sign.Semicolon ∷ rest) h
    k in
    let number = kept_next (Integer n) (Integer n ∷ Sign sign.Semicolon ∷ rest) (Sign sign.Semicolon
    ∷ rest) refl behind.1 in
    (number.0, kept_tail (Sign sign.Semicolon) rest number.1)
attribute_kept (item.Operation o) here rest h k = (
  refl,
  kept_tail (Sign sign.Semicolon) rest (operation_kept o h.0 (Sign sign.Semicolon ∷ rest)
      h.2 (kept_next (Reserved word.Operation) here h.0 h.1 k).1),
)
attribute_kept (item.Transaction number parts) here rest h k =
    let n = number_kept number h.0 h.1 h.4 (kept_next (Reserved word.Transaction) here h.0 h.3 k).1
    in
    let all = closed_kept TransactionPartHere (is_transaction_part is_path is_plain)
    transaction_part_kept parts h.2 _ h.6 (kept_next (Sign sign.OpenBrace) h.1 h.2 h.5 n.1).1 in
    (rw (n.0, all.0) refl, kept_tail (Sign sign.CloseBrace) rest all.1)
attribute_kept (item.ResponseCodes responses) here rest h k =
    let all = row_kept ResponseCodeHere (is_response_code is_path is_plain) response_code_kept
    responses h.0 _ h.2 (braced_kept word.ResponseCodes here h.0 h.1 k) in
    (all.0, kept_tail (Sign sign.CloseBrace) rest all.1)
attribute_kept (item.Items entries) here rest h k =
    let all = list_kept MenuEntryHere (is_entry is_path is_plain) menu_entry_kept entries h.0 _ h.2
    (braced_kept word.Items here h.0 h.1 k) in
    (all.0, kept_tail (Sign sign.CloseBrace) rest all.1)
attribute_kept (item.Members members) here rest h k =
    let all = row_kept MemberHere (is_member is_path is_plain) member_kept members h.0 _ h.2
    (braced_kept word.Members here h.0 h.1 k) in
    (all.0, kept_tail (Sign sign.CloseBrace) rest all.1)
attribute_kept (item.Elements elements) here rest h k =
    let all = row_kept ArrayElementHere (is_array_element is_path is_plain) array_element_kept
    elements h.0 _ h.2 (braced_kept word.Elements here h.0 h.1 k) in
    (all.0, kept_tail (Sign sign.CloseBrace) rest all.1)
attribute_kept (item.Definition body) here rest h k =
    let all = body_kept false body h.0 _ h.2 (braced_kept word.Definition here h.0 h.1 k) in
    (all.0, kept_tail (Sign sign.CloseBrace) rest all.1)
