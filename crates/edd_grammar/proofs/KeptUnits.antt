-- Units that are spelled by tokens keep what trees keep.
use Rattle.std.proofs.Common.{◌≡◌, ℕ, ◌≤◌, true, IsTrue, nat_le, List, [], ◌∷◌, Some, refl, arith}
use Rattle.std.specs.List.{list_all}
use Rattle.edd_syntax.specs.declared.numbers.Kind.{Kind}
use Rattle.edd_syntax.specs.declared.numbers.Kind.TheVariants as kinds
use Rattle.edd_syntax.specs.declared.symbols.Keyword.{Keyword}
use Rattle.edd_syntax.specs.declared.symbols.Keyword.TheVariants as word
use Rattle.edd_syntax.specs.declared.symbols.Symbol.TheVariants as sign
use Rattle.edd_syntax.specs.Token.{Token, Reserved, Identifier, Integer, Sign}
use Rattle.edd_syntax.specs.Reference.{Path}
use Rattle.edd_syntax.specs.Item.{ItemKind, VariableItem, CommandItem, MenuItem, CollectionItem, MethodItem, ArrayItem, kind_of_item, Attribute, Item, Identification, Description}
use Rattle.edd_syntax.specs.WellFormed.{may_list, is_path, is_plain, stands_in, is_item, are_items}
use Rattle.edd_syntax.specs.ItemGrammar.{ClosedHere, KindHere, ItemWordHere, OwnAttributeHere, ItemHere, NumberedWordHere, IdentificationHere, Spells}
use Rattle.edd_syntax.specs.Size.{attribute_height, item_height, height_limit}
use Rattle.edd_grammar.specs.KeptTokens.{Kept}
use Rattle.edd_grammar.specs.UnitReading.{item_at}
use Rattle.edd_grammar.proofs.Rows.{tallest}
use Rattle.edd_grammar.proofs.Items.{item_sound}
use Rattle.edd_grammar.proofs.Units.{low_all}
use Rattle.edd_grammar.proofs.KeptExpressions.{Both, kept_next, kept_tail, kept_same}
use Rattle.edd_grammar.proofs.KeptConditionals.{comma_kept}
use Rattle.edd_grammar.proofs.KeptAttributes.{semicolons_kept, attribute_kept}

-- ---- items

attributes_kept : (kind : Kind) (all : List (Attribute Path)) (here rest : List Token)
    → ClosedHere (OwnAttributeHere kind) all here rest → tallest attribute_height all ≤ height_limit
    → Kept here
    → Both (list_all (stands_in is_path is_plain kind) all) rest
attributes_kept kind [] here rest h low k = (refl, kept_same here rest h k)
attributes_kept kind (a ∷ all) here rest h low k =
    let first = attribute_kept a here h.0 h.2.1 k in
    let height : nat_le (attribute_height a) height_limit ≡ true =
    is_le (attribute_height a) height_limit (omega arith) in
    let more = attributes_kept kind all h.1 rest h.5 (omega arith)
    (semicolons_kept h.3 h.0 h.1 h.4 first.1) in
    (rw (h.2.0, first.0, height, more.0) refl, more.1)
  where
    is_le : (a b : ℕ) → a ≤ b → nat_le a b ≡ true
    is_le a b e = grind arith

kind_kept : (of : Kind) (here rest : List Token) → KindHere of here rest → Kept here → Kept rest
kind_kept kinds.Variable here rest h k = (kept_next (Reserved word.Variable) here rest h k).1
kind_kept kinds.Command here rest h k = (kept_next (Reserved word.Command) here rest h k).1
kind_kept kinds.Menu here rest h k = (kept_next (Reserved word.Menu) here rest h k).1
kind_kept kinds.Collection here rest h k = (kept_next (Reserved word.Collection) here rest h k).1
kind_kept kinds.Method here rest h k = (kept_next (Reserved word.Method) here rest h k).1
kind_kept kinds.Array here rest h k = absurd h

word_kept : (sort : ItemKind) (here rest : List Token) → ItemWordHere sort here rest → Kept here
    → Kept rest
word_kept VariableItem here rest h k = (kept_next (Reserved word.Variable) here rest h k).1
word_kept CommandItem here rest h k = (kept_next (Reserved word.Command) here rest h k).1
word_kept MenuItem here rest h k = (kept_next (Reserved word.Menu) here rest h k).1
word_kept MethodItem here rest h k = (kept_next (Reserved word.Method) here rest h k).1
word_kept (CollectionItem of) here rest h k =
    let behind = (kept_next (Reserved word.Collection) here (Reserved word.Of ∷ h.0) h.1 k).1 in
    kind_kept of h.0 rest h.2 (kept_tail (Reserved word.Of) h.0 behind)
word_kept ArrayItem here rest h k =
    let of = (kept_next (Reserved word.Array) here (Reserved word.Of ∷ Reserved word.Variable
    ∷ rest) h k).1 in
    kept_tail (Reserved word.Variable) rest (kept_tail (Reserved word.Of) (Reserved word.Variable
    ∷ rest) of)

kind_listed : (of : Kind) (here rest : List Token) → KindHere of here rest
    → may_list (CollectionItem of) ≡ true
kind_listed kinds.Array here rest h = absurd h
kind_listed _ here rest h = refl

sort_listed : (sort : ItemKind) (here rest : List Token) → ItemWordHere sort here rest
    → may_list sort ≡ true
sort_listed (CollectionItem of) here rest h = kind_listed of h.0 rest h.2
sort_listed _ here rest h = refl

item_kept : (i : Item Path) (here rest : List Token) → ItemHere i here rest
    → item_height i ≤ height_limit → Kept here → Both (is_item is_path is_plain i) rest
item_kept i here rest h low k =
    let name = kept_next (Identifier i.name) h.0 (Sign sign.OpenBrace ∷ h.1) h.3
    (word_kept i.sort here h.0 h.2 k) in
    let all = attributes_kept (kind_of_item i.sort) i.attributes h.1 _ h.4 low
    (kept_tail (Sign sign.OpenBrace) h.1 name.1) in (
      rw (name.0, sort_listed i.sort here h.0 h.2, all.0) refl,
      kept_tail (Sign sign.CloseBrace) rest all.1,
    )

pub read_item_kept : (here : List Token) (i : Item Path) (rest : List Token)
    → item_at height_limit here ≡ Some (i, rest) → Kept here
    → Both (is_item is_path is_plain i) rest
read_item_kept here i rest e k = let s = item_sound height_limit here i rest e in item_kept i here
    rest s.0 s.1 k

items_kept : (items : List (Item Path)) (here rest : List Token)
    → ClosedHere ItemHere items here rest → tallest item_height items ≤ height_limit → Kept here
    → Both (list_all (is_item is_path is_plain) items) rest
items_kept [] here rest h low k = (refl, kept_same here rest h k)
items_kept (i ∷ items) here rest h low k =
    let first = item_kept i here h.0 h.2 (omega arith) k in
    let more = items_kept items h.1 rest h.5 (omega arith) (semicolons_kept h.3 h.0 h.1 h.4 first.1)
    in
    (rw (first.0, more.0) refl, more.1)

-- ---- the unit

numbered_kept : (w : Keyword) (n : ℕ) (here rest : List Token) → NumberedWordHere w n here rest
    → Kept here → Kept rest
numbered_kept w n here rest h k =
    kept_tail (Integer n) rest (kept_next (Reserved w) here (Integer n ∷ rest) h k).1

identification_kept : (i : Identification) (here rest : List Token) → IdentificationHere i here rest
    → Kept here → Kept rest
identification_kept i here rest h k =
    let first = comma_kept sign.Comma h.0 h.1 h.8
    (numbered_kept word.Manufacturer i.manufacturer here h.0 h.7 k) in
    let second = comma_kept sign.Comma h.2 h.3 h.10
    (numbered_kept word.DeviceType i.device_type h.1 h.2 h.9 first) in
    let third = comma_kept sign.Comma h.4 h.5 h.12
    (numbered_kept word.DeviceRevision i.device_revision h.3 h.4 h.11 second) in
    comma_kept sign.Comma h.6 rest h.14 (numbered_kept word.DdRevision i.dd_revision h.5 h.6 h.13
    third)

-- the items of a unit that kept tokens spell are items
pub unit_kept : (tokens : List Token) (unit : Description Path) → Spells tokens unit → Kept tokens
    → IsTrue (are_items unit.items)
unfolding are_items
unit_kept tokens unit s k =
    (items_kept unit.items s.items_from [] s.items (low_all unit.items s.heights)
    (identification_kept unit.identification tokens s.items_from s.identification k)).0
