-- The values of attributes that are spelled by tokens keep what trees keep.
use Rattle.std.proofs.Common.{◌≡◌, ℕ, Bool, true, false, ◌&&◌, List, [], ◌∷◌, Option, Some, None, codes, refl, inl, inr}
use Rattle.std.specs.List.{list_all}
use Rattle.edd_syntax.specs.declared.types.Handling.TheVariants as handling
use Rattle.edd_syntax.specs.declared.types.Operation.{Operation}
use Rattle.edd_syntax.specs.declared.types.Operation.TheVariants as operation
use Rattle.edd_syntax.specs.declared.operators.Operator.TheVariants as operator
use Rattle.edd_syntax.specs.declared.operators.Comparison.TheVariants as comparison
use Rattle.edd_syntax.specs.declared.symbols.Keyword.TheVariants as word
use Rattle.edd_syntax.specs.declared.symbols.Symbol.{Symbol}
use Rattle.edd_syntax.specs.declared.symbols.Symbol.TheVariants as sign
use Rattle.edd_syntax.specs.Text as texts
use Rattle.edd_syntax.specs.Text.{Name}
use Rattle.edd_syntax.specs.Names.{is_name}
use Rattle.edd_syntax.specs.Token.{Token, Reserved, Identifier, Integer, Sign}
use Rattle.edd_syntax.specs.Item as item
use Rattle.edd_syntax.specs.WellFormed.{is_number, is_text, if_some, is_not_empty, is_path, is_plain, is_enumerator, is_entry, is_data_item, is_response_code, is_member, is_array_element}
use Rattle.edd_syntax.specs.ItemGrammar.{MoreNamesHere, NamesHere, MoreQualifiersHere, QualifiersHere, data_qualifier_names, menu_qualifier_names, HandlingHere, TruthHere, OperationHere, OptionalTextHere, EnumeratorHere, MaskHere, DataItemHere, MenuEntryHere, class_name, ResponseEndHere, ResponseCodeHere, MemberTextsHere, MemberHere, ArrayElementHere, SizeHere, NumberHere}
use Rattle.edd_grammar.specs.KeptTokens.{Kept}
use Rattle.edd_grammar.proofs.KeptExpressions.{Both, kept_next, kept_tail, kept_same, path_kept, plain_kept, text_kept}
use Rattle.edd_grammar.proofs.KeptConditionals.{KeepsValues, label_kept, comma_kept}

-- ---- words and numbers

-- values of which nothing is asked
abbrev pub any_value : {V : Type 0} → V → Bool
any_value v = true

name_kept : (name : Name) (here rest : List Token) → here ≡ Identifier name ∷ rest → Kept here
    → Kept rest
name_kept name here rest e k = (kept_next (Identifier name) here rest e k).1

both_names_kept : (a b : Name) (here rest : List Token)
    → here ≡ Identifier a ∷ Sign (sign.Operator operator.And) ∷ Identifier b ∷ rest → Kept here
    → Kept rest
both_names_kept a b here rest e k =
    kept_tail (Identifier b) rest
    (kept_tail (Sign (sign.Operator operator.And)) (Identifier b ∷ rest)
    (name_kept a here (Sign (sign.Operator operator.And) ∷ Identifier b ∷ rest) e k))

pub handling_kept : KeepsValues HandlingHere any_value
handling_kept handling.Read here rest h k = (refl, name_kept (codes "READ") here rest h k)
handling_kept handling.Write here rest h k = (refl, name_kept (codes "WRITE") here rest h k)
handling_kept handling.ReadWrite here rest (inl h) k =
    (refl, both_names_kept (codes "READ") (codes "WRITE") here rest h k)
handling_kept handling.ReadWrite here rest (inr h) k =
    (refl, both_names_kept (codes "WRITE") (codes "READ") here rest h k)

pub truth_kept : KeepsValues TruthHere any_value
truth_kept true here rest h k = (refl, name_kept (codes "TRUE") here rest h k)
truth_kept false here rest h k = (refl, name_kept (codes "FALSE") here rest h k)

pub operation_kept : (o : Operation) (here rest : List Token) → OperationHere o here rest
    → Kept here → Kept rest
operation_kept operation.Read here rest h k = name_kept (codes "READ") here rest h k
operation_kept operation.Write here rest h k = name_kept (codes "WRITE") here rest h k
operation_kept operation.Command here rest h k = (kept_next (Reserved word.Command) here rest h k).1

pub number_kept : (n : Option ℕ) (here rest : List Token) → NumberHere n here rest → Kept here
    → Both (if_some is_number n) rest
number_kept None here rest h k = (refl, kept_same here rest h k)
number_kept (Some n) here rest h k = kept_next (Integer n) here rest h k

-- a number between two signs
between_kept : (open_sign close_sign : Symbol) (n : ℕ) (here rest : List Token)
    → here ≡ Sign open_sign ∷ Integer n ∷ Sign close_sign ∷ rest → Kept here
    → Both (is_number n) rest
between_kept a b n here rest e k =
    let inside = kept_next (Sign a) here (Integer n ∷ Sign b ∷ rest) e k in
    let number = kept_next (Integer n) (Integer n ∷ Sign b ∷ rest) (Sign b ∷ rest) refl inside.1 in
    (number.0, kept_tail (Sign b) rest number.1)

pub size_kept : (n : Option ℕ) (here rest : List Token) → SizeHere n here rest → Kept here
    → Both (if_some is_number n) rest
size_kept None here rest h k = (refl, kept_same here rest h k)
size_kept (Some n) here rest h k = between_kept sign.OpenParenthesis sign.CloseParenthesis n here
    rest h k

mask_kept : (n : Option ℕ) (here rest : List Token) → MaskHere n here rest → Kept here
    → Both (if_some is_number n) rest
mask_kept None here rest h k = (refl, kept_same here rest h k)
mask_kept (Some n) here rest h k = between_kept (sign.Comparison comparison.Less)
    (sign.Comparison comparison.Greater) n here rest h k

more_names_kept : (s : Symbol) (names : List Name) (here rest : List Token)
    → MoreNamesHere s names here rest → Kept here → Both (list_all is_name names) rest
more_names_kept s [] here rest h k = (refl, kept_same here rest h k)
more_names_kept s (n ∷ more) here rest h k =
    let first = kept_next (Identifier n) h.0 h.1 h.3 (kept_next (Sign s) here h.0 h.2 k).1 in
    let others = more_names_kept s more h.1 rest h.4 first.1 in
    (rw (first.0, others.0) refl, others.1)

-- one name at least
pub names_kept : (s : Symbol) (names : List Name) (here rest : List Token)
    → NamesHere s names here rest → Kept here → Both (is_not_empty names && list_all is_name names)
    rest
names_kept s [] here rest h k = absurd h
names_kept s (n ∷ more) here rest h k =
    let first = kept_next (Identifier n) here h.0 h.1 k in
    let others = more_names_kept s more h.0 rest h.2 first.1 in
    (rw (first.0, others.0) refl, others.1)

-- ---- qualifiers

more_qualifiers_kept : (names : List Name) (here rest : List Token)
    → MoreQualifiersHere names here rest → Kept here → Kept rest
more_qualifiers_kept [] here rest h k = kept_same here rest h k
more_qualifiers_kept (n ∷ more) here rest h k = more_qualifiers_kept more h.1 rest h.4
    (name_kept n h.0 h.1 h.3 (comma_kept sign.Comma here h.0 h.2 k))

qualifiers_kept : (allowed names : List Name) (here rest : List Token)
    → QualifiersHere allowed names here rest → Kept here → Kept rest
qualifiers_kept allowed [] here rest h k = kept_same here rest h k
qualifiers_kept allowed (n ∷ more) here rest h k =
    kept_tail (Sign sign.CloseParenthesis) rest
    (more_qualifiers_kept more h.2 _ h.5
    (name_kept n h.1 h.2 h.4 (kept_next (Sign sign.OpenParenthesis) here h.1 h.3 k).1))

-- ---- texts and enumerators

pub optional_text_kept : (w : Option texts.Text) (here rest : List Token)
    → OptionalTextHere w here rest → Kept here → Both (if_some is_text w) rest
optional_text_kept None here rest h k = (refl, kept_same here rest h k)
optional_text_kept (Some w) here rest h k =
    text_kept w h.0 rest h.2 (kept_next (Sign sign.Comma) here h.0 h.1 k).1

pub enumerator_kept : KeepsValues EnumeratorHere (is_enumerator is_path is_plain)
enumerator_kept e here rest h k =
    let label = label_kept e.value h.0 h.1 h.5 (kept_next (Sign sign.OpenBrace) here h.0 h.4 k).1 in
    let text = text_kept e.text h.2 h.3 h.7 (kept_next (Sign sign.Comma) h.1 h.2 h.6 label.1).1 in
    let help = optional_text_kept e.help h.3 _ h.8 text.1 in
    (rw (label.0, text.0, help.0) refl, kept_tail (Sign sign.CloseBrace) rest help.1)

-- ---- entries of lists

pub data_item_kept : KeepsValues DataItemHere (is_data_item is_path is_plain)
data_item_kept (item.Constant n) here rest h k = kept_next (Integer n) here rest h k
data_item_kept (item.Variable variable mask qualifiers) here rest h k =
    let name = path_kept variable here h.0 h.2 k in
    let number = mask_kept mask h.0 h.1 h.3 name.1 in
    (rw (name.0, number.0) refl, qualifiers_kept data_qualifier_names h.4 h.1 rest h.6 number.1)

pub menu_entry_kept : KeepsValues MenuEntryHere (is_entry is_path is_plain)
menu_entry_kept (item.Text text) here rest h k = text_kept text here rest h k
menu_entry_kept (item.Reference to qualifiers) here rest h k =
    let name = path_kept to here h.0 h.1 k in
    (name.0, qualifiers_kept menu_qualifier_names h.2 h.0 rest h.4 name.1)

-- ---- response codes and members

response_end_kept : (here rest : List Token) → ResponseEndHere here rest → Kept here → Kept rest
response_end_kept here rest (inl e) k = kept_same here rest e k
response_end_kept here rest (inr (inl e)) k = (kept_next (Sign sign.Semicolon) here rest e k).1
response_end_kept here rest (inr (inr e)) k = (kept_next (Sign sign.Comma) here rest e k).1

pub response_code_kept : KeepsValues ResponseCodeHere (is_response_code is_path is_plain)
response_code_kept r here rest h k =
    let number = kept_next (Integer r.number) here
    (Sign sign.Comma ∷ Identifier (class_name r.class) ∷ Sign sign.Comma ∷ h.0) h.2 k in
    let class = kept_tail (Sign sign.Comma) (Identifier (class_name r.class) ∷ Sign sign.Comma
    ∷ h.0) number.1 in
    let from = kept_tail (Sign sign.Comma) h.0
    (kept_tail (Identifier (class_name r.class)) (Sign sign.Comma ∷ h.0) class) in
    let text = text_kept r.text h.0 h.1 h.3 from in
    (rw (number.0, text.0) refl, response_end_kept h.1 rest h.4 text.1)

member_texts_kept : (label help : Option texts.Text) (here rest : List Token)
    → MemberTextsHere label help here rest → Kept here → (if_some is_text label ≡ true)
    × (if_some is_text help ≡ true) × Kept rest
member_texts_kept None None here rest h k = (refl, refl, kept_same here rest h k)
member_texts_kept None (Some help) here rest h k = absurd h
member_texts_kept (Some label) help here rest h k =
    let first = optional_text_kept (Some label) here h.0 h.1 k in
    let second = optional_text_kept help h.0 rest h.2 first.1 in
    (first.0, second.0, second.1)

pub member_kept : KeepsValues MemberHere (is_member is_path is_plain)
member_kept m here rest h k =
    let name = kept_next (Identifier m.name) here (Sign sign.Comma ∷ h.0) h.2 k in
    let to = plain_kept m.item h.0 h.1 h.3 (kept_tail (Sign sign.Comma) h.0 name.1) in
    let texts = member_texts_kept m.label m.help h.1 _ h.4 to.1 in
    (rw (name.0, to.0, texts.0, texts.1) refl, kept_tail (Sign sign.Semicolon) rest texts.2)

pub array_element_kept : KeepsValues ArrayElementHere (is_array_element is_path is_plain)
array_element_kept e here rest h k =
    let number = kept_next (Integer e.number) here (Sign sign.Comma ∷ h.0) h.2 k in
    let to = plain_kept e.variable h.0 h.1 h.3 (kept_tail (Sign sign.Comma) h.0 number.1) in
    let texts = member_texts_kept e.label e.help h.1 _ h.4 to.1 in (
      rw (number.0, to.0, texts.0, texts.1) refl,
      kept_tail (Sign sign.Semicolon) rest texts.2,
    )
