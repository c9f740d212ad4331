-- Items are read as they are spelled.
use Rattle.std.proofs.Common.{◌≡◌, ℕ, ◌≤◌, ◌<◌, true, false, List, [], ◌∷◌, drop, length, Some, refl, ap, ◌∙◌, arith}
use Rattle.edd_syntax.specs.declared.numbers.Kind.{Kind}
use Rattle.edd_syntax.specs.declared.numbers.Kind.TheVariants as kind
use Rattle.edd_syntax.specs.declared.symbols.Keyword.TheVariants as word
use Rattle.edd_syntax.specs.declared.symbols.Symbol.TheVariants as sign
use Rattle.edd_syntax.specs.Text.{Name}
use Rattle.edd_syntax.specs.Token.{Token, Reserved, Identifier, Sign}
use Rattle.edd_syntax.specs.Reference.{Path}
use Rattle.edd_syntax.specs.Item.{ItemKind, VariableItem, CommandItem, MenuItem, CollectionItem, MethodItem, ArrayItem, kind_of_item, Attribute, Item}
use Rattle.edd_syntax.specs.Grammar.{NextWord}
use Rattle.edd_syntax.specs.ItemGrammar.{RowHere, ClosedHere, KindHere, ItemWordHere, OwnAttributeHere, ItemHere}
use Rattle.edd_syntax.specs.Size.{attribute_height, item_height}
use Rattle.edd_grammar.specs.Reading.{at, at_word, expect_word, name_at}
use Rattle.edd_grammar.specs.WordReading.{at_end, closed, row_inside}
use Rattle.edd_grammar.specs.AttributeReading.{own_attribute_at}
use Rattle.edd_grammar.specs.UnitReading.{kind_at, item_kind_at, sort_behind, attributes_at, item_at}
use Rattle.edd_grammar.proofs.Steps.{bind_some, as_read, at_word_is, expect_word_is, expect_word_again, name_is}
use Rattle.edd_grammar.proofs.Alternatives.{branch}
use Rattle.edd_grammar.proofs.Branches.{SoundOf}
use Rattle.edd_grammar.proofs.Rows.{BracedHere, tallest, RowOf, ThenSemicolons, braced_sound, braced_again, row_inside_sound, row_inside_again, row_shorter, closed_row, row_closed, closed_sound, closed_shorter, closed_elements}
use Rattle.edd_grammar.proofs.CompleteAttributes.{attribute_shorter, own_attribute_sound, own_attributes}

-- ---- the words of items

kind_sound : (here : List Token) (k : Kind) (rest : List Token) → kind_at here ≡ Some (k, rest)
    → KindHere k here rest
unfolding kind_at
kind_sound here k rest x =
    branch (at_word word.Variable here) _ _ _ x
    (λ t y. as_read (λ k r. KindHere k here r) kind.Variable k (drop 1 here)
    rest y (at_word_is word.Variable here t)) (λ _ x1.
    branch (at_word word.Command here) _ _ _ x1
    (λ t y. as_read (λ k r. KindHere k here r) kind.Command k (drop 1 here) rest
    y (at_word_is word.Command here t)) (λ _ x2.
    branch (at_word word.Menu here) _ _ _ x2
    (λ t y. as_read (λ k r. KindHere k here r) kind.Menu k (drop 1 here) rest y
    (at_word_is word.Menu here t)) (λ _ x3.
    branch (at_word word.Collection here) _ _ _ x3
    (λ t y. as_read (λ k r. KindHere k here r) kind.Collection k (drop 1 here)
    rest y (at_word_is word.Collection here t)) (λ _ x4.
    branch (at_word word.Method here) _ _ _ x4
    (λ t y. as_read (λ k r. KindHere k here r) kind.Method k (drop 1 here) rest
    y (at_word_is word.Method here t)) (λ _ y. absurd cc)))))

kind_again : (k : Kind) (here rest : List Token) → KindHere k here rest
    → kind_at here ≡ Some (k, rest)
unfolding kind_at
kind_again kind.Array here rest h = absurd h
kind_again _ here rest h = rw h refl

-- the word of a kind of item
abbrev ItemKindHere : Kind → List Token → List Token → Type 0
ItemKindHere kind.Variable here rest = NextWord word.Variable here rest
ItemKindHere kind.Command here rest = NextWord word.Command here rest
ItemKindHere kind.Menu here rest = NextWord word.Menu here rest
ItemKindHere kind.Collection here rest = NextWord word.Collection here rest
ItemKindHere kind.Method here rest = NextWord word.Method here rest
ItemKindHere kind.Array here rest = NextWord word.Array here rest

of_item : (k : Kind) (here rest : List Token) → KindHere k here rest → ItemKindHere k here rest
of_item kind.Array here rest h = absurd h
of_item _ here rest h = h

item_kind_sound : (here : List Token) (k : Kind) (rest : List Token)
    → item_kind_at here ≡ Some (k, rest) → ItemKindHere k here rest
unfolding item_kind_at
item_kind_sound here k rest x =
    branch (at_word word.Array here) _ _ _ x
    (λ t y. as_read (λ k r. ItemKindHere k here r) kind.Array k (drop 1 here) rest y
    (at_word_is word.Array here t)) (λ _ y. of_item k here rest (kind_sound here k rest y))

sort_sound : (k : Kind) (here behind : List Token) (sort : ItemKind) (rest : List Token)
    → ItemKindHere k here behind → sort_behind k behind ≡ Some (sort, rest)
    → ItemWordHere sort here rest
unfolding sort_behind
sort_sound kind.Variable here behind sort rest e x = as_read (λ s r. ItemWordHere s here r)
    VariableItem sort behind rest x e
sort_sound kind.Command here behind sort rest e x = as_read (λ s r. ItemWordHere s here r)
    CommandItem sort behind rest x e
sort_sound kind.Menu here behind sort rest e x = as_read (λ s r. ItemWordHere s here r) MenuItem
    sort behind rest x e
sort_sound kind.Method here behind sort rest e x = as_read (λ s r. ItemWordHere s here r) MethodItem
    sort behind rest x e
sort_sound kind.Collection here behind sort rest e x =
    let a = bind_some (expect_word word.Of behind) _ (sort, rest) x in
    let b = bind_some (kind_at a.0) _ (sort, rest) a.2 in
    as_read (λ s r. ItemWordHere s here r) (CollectionItem b.0.0) sort b.0.1 rest b.2 (
      a.0,
      e ∙ ap (λ u. Reserved word.Collection ∷ u) (expect_word_is word.Of behind a.0 a.1),
      kind_sound a.0 b.0.0 b.0.1 b.1,
    )
sort_sound kind.Array here behind sort rest e x =
    let a = bind_some (expect_word word.Of behind) _ (sort, rest) x in
    let b = bind_some (expect_word word.Variable a.0) _ (sort, rest) a.2 in
    as_read (λ s r. ItemWordHere s here r) ArrayItem sort b.0 rest b.2
    (e ∙ ap (λ u. Reserved word.Array ∷ u) (expect_word_is word.Of behind a.0 a.1
    ∙ ap (λ u. Reserved word.Of ∷ u) (expect_word_is word.Variable a.0 b.0 b.1)))

-- the kind is read, and what comes after it
record ReadsSort (sort : ItemKind) (here rest : List Token) : Type 0 where
  pub behind : List Token
  pub kind_read : item_kind_at here ≡ Some (kind_of_item sort, behind)
  pub sort_read : sort_behind (kind_of_item sort) behind ≡ Some (sort, rest)

sort_again : (sort : ItemKind) (here rest : List Token) → ItemWordHere sort here rest
    → ReadsSort sort here rest
unfolding item_kind_at kind_at sort_behind
sort_again VariableItem here rest h =
    record { behind = rest; kind_read = rw h refl; sort_read = refl }
sort_again CommandItem here rest h =
    record { behind = rest; kind_read = rw h refl; sort_read = refl }
sort_again MenuItem here rest h = record { behind = rest; kind_read = rw h refl; sort_read = refl }
sort_again MethodItem here rest h =
    record { behind = rest; kind_read = rw h refl; sort_read = refl }
sort_again ArrayItem here rest h =
    record {
      behind = Reserved word.Of ∷ Reserved word.Variable ∷ rest;
      kind_read = rw h refl;
      sort_read = rw (
        expect_word_again word.Of (Reserved word.Variable ∷ rest),
        expect_word_again word.Variable rest,
      ) refl;
    }
sort_again (CollectionItem of) here rest h =
    record {
      behind = Reserved word.Of ∷ h.0;
      kind_read = rw h.1 refl;
      sort_read = rw (expect_word_again word.Of h.0, kind_again of h.0 rest h.2) refl;
    }

-- ---- the attributes of an item

module _ (k : Kind) where
  -- any number of attributes in braces
  abbrev pub AttributesHere : List (Attribute Path) → List Token → List Token → Type 0
  AttributesHere = BracedHere (ClosedHere (OwnAttributeHere k))

  attributes_sound : (height_left : ℕ)
      → SoundOf AttributesHere (tallest attribute_height) height_left (attributes_at k height_left)
  unfolding attributes_at
  attributes_sound height_left here all rest e =
      let row = row_inside_sound (ThenSemicolons (OwnAttributeHere k)) attribute_height height_left
      (closed (own_attribute_at k height_left))
      (closed_sound (OwnAttributeHere k) attribute_height height_left
      (own_attribute_at k height_left) (own_attribute_sound k height_left)) in
      let s = braced_sound (RowHere (ThenSemicolons (OwnAttributeHere k)))
      (tallest attribute_height) height_left
      (row_inside (closed (own_attribute_at k height_left))) row here all rest e in
      ((s.0.0, s.0.1, closed_row (OwnAttributeHere k) all s.0.0 _ s.0.2), s.1)

  attributes_again : (height_left : ℕ) (all : List (Attribute Path)) (here rest : List Token)
      → AttributesHere all here rest → tallest attribute_height all ≤ height_left
      → attributes_at k height_left here ≡ Some (all, rest)
  unfolding attributes_at
  attributes_again height_left all here rest h low =
      braced_again (row_inside (closed (own_attribute_at k height_left))) all here h.0 rest h.1
      (row_inside_again (ThenSemicolons (OwnAttributeHere k)) attribute_height height_left
      (λ rest. at sign.Semicolon rest ≡ false) (closed (own_attribute_at k height_left))
      (own_attributes k height_left) all h.0 rest
      (row_closed (OwnAttributeHere k) all h.0 _ h.2) low)

  attributes_shorter : (all : List (Attribute Path)) (here rest : List Token)
      → AttributesHere all here rest → length rest < length here
  attributes_shorter all here rest h =
      omega (
        arith,
        ap length h.1,
        row_shorter (ThenSemicolons (OwnAttributeHere k))
            (closed_shorter (OwnAttributeHere k)
            (λ a here rest h. attribute_shorter a here rest h.1)) all h.0 _
            (row_closed (OwnAttributeHere k) all h.0 _ h.2),
      )

-- ---- items

before_brace : (here : List Token) (name : Name) (brace inside : List Token)
    → name_at here ≡ Some (name, brace) → brace ≡ Sign sign.OpenBrace ∷ inside
    → here ≡ Identifier name ∷ Sign sign.OpenBrace ∷ inside
before_brace here name brace inside n b = name_is here name brace n ∙ ap (λ u. Identifier name ∷ u)
    b

pub item_sound : (height_left : ℕ) → SoundOf ItemHere item_height height_left (item_at height_left)
unfolding item_at
item_sound height_left here i rest x =
    let a = bind_some (item_kind_at here) _ (i, rest) x in
    let b = bind_some (sort_behind a.0.0 a.0.1) _ (i, rest) a.2 in
    let c = bind_some (name_at b.0.1) _ (i, rest) b.2 in
    let d = bind_some (attributes_at (kind_of_item b.0.0) height_left c.0.1) _ (i, rest) c.2 in
    let all = attributes_sound (kind_of_item b.0.0) height_left c.0.1 d.0.0 d.0.1 d.1 in
    let read : Item Path = record { sort = b.0.0; name = c.0.0; attributes = d.0.0 } in
    as_read (λ i r. ItemHere i here r × (item_height i ≤ height_left)) read i d.0.1 rest d.2 (
      (
        b.0.1,
        all.0.0,
        sort_sound a.0.0 here a.0.1 b.0.0 b.0.1 (item_kind_sound here a.0.0 a.0.1 a.1) b.1,
        before_brace b.0.1 c.0.0 c.0.1 all.0.0 c.1 all.0.1,
        all.0.2,
      ),
      all.1,
    )

item_again : (height_left : ℕ) (i : Item Path) (here rest : List Token) → ItemHere i here rest
    → item_height i ≤ height_left → item_at height_left here ≡ Some (i, rest)
unfolding item_at
item_again height_left i here rest h low =
    let s = sort_again i.sort here h.0 h.2 in
    rw (
      s.kind_read,
      s.sort_read,
      h.3,
      attributes_again (kind_of_item i.sort) height_left
          i.attributes (Sign sign.OpenBrace ∷ h.1) rest (h.1, refl, h.4) low,
    ) refl

kind_shorter : (k : Kind) (here rest : List Token) → KindHere k here rest
    → length rest < length here
kind_shorter kind.Array here rest h = absurd h
kind_shorter _ here rest h = omega (arith, ap length h)

word_shorter : (sort : ItemKind) (here rest : List Token) → ItemWordHere sort here rest
    → length rest < length here
word_shorter (CollectionItem of) here rest h =
    omega (arith, ap length h.1, kind_shorter of h.0 rest h.2)
word_shorter _ here rest h = omega (arith, ap length h)

item_shorter : (i : Item Path) (here rest : List Token) → ItemHere i here rest
    → length rest < length here
item_shorter i here rest h =
    omega (
      arith,
      word_shorter i.sort here h.0 h.2,
      ap length h.3,
      attributes_shorter (kind_of_item i.sort) i.attributes (Sign sign.OpenBrace ∷ h.1) rest
          (h.1, refl, h.4),
    )

-- an item begins with its word
record StartsItem (here : List Token) : Type 0 where
  pub no_end : at_end here ≡ false
  pub no_semicolon : at sign.Semicolon here ≡ false
  pub no_comma : at sign.Comma here ≡ false

starts_item : (sort : ItemKind) (here rest : List Token) → ItemWordHere sort here rest
    → StartsItem here
starts_item (CollectionItem of) here rest h =
    rw h.1 (record { no_end = refl; no_semicolon = refl; no_comma = refl })
starts_item _ here rest h =
    rw h (record { no_end = refl; no_semicolon = refl; no_comma = refl })

end_no_semicolon : (rest : List Token) → at_end rest ≡ true → at sign.Semicolon rest ≡ false
end_no_semicolon [] e = refl
end_no_semicolon (t ∷ rest) e = absurd cc

-- items up to the end of the text, each with any number of semicolons after it
pub all_items : (height_left : ℕ) → RowOf (ThenSemicolons ItemHere) item_height height_left
    (λ rest. at sign.Semicolon rest ≡ false) at_end (closed (item_at height_left))
all_items height_left =
    closed_elements ItemHere item_height height_left at_end (item_at height_left)
    (item_again height_left)
    (λ i here rest h. (starts_item i.sort here h.0 h.2).no_end)
    (λ i here rest h. (starts_item i.sort here h.0 h.2).no_semicolon) item_shorter
    end_no_semicolon

-- there is no comma where items begin
pub items_no_comma : (items : List (Item Path)) (here : List Token)
    → ClosedHere ItemHere items here [] → at sign.Comma here ≡ false
items_no_comma [] here h = ap (at sign.Comma) h
items_no_comma (i ∷ items) here h = (starts_item i.sort here h.2.0 h.2.2).no_comma
