-- Units are read as they are spelled.
use Rattle.std.proofs.Common.{◌≡◌, ℕ, suc, ◌≤◌, true, false, IsTrue, nat_le, List, [], ◌∷◌, length, Some, refl, sym, ap, subst, ◌∙◌, arith}
use Rattle.std.specs.List.{list_all}
use Rattle.edd_syntax.specs.declared.symbols.Keyword.{Keyword}
use Rattle.edd_syntax.specs.declared.symbols.Keyword.TheVariants as word
use Rattle.edd_syntax.specs.declared.symbols.Symbol.TheVariants as sign
use Rattle.edd_syntax.specs.Token.{Token, Reserved, Integer}
use Rattle.edd_syntax.specs.Reference.{Path}
use Rattle.edd_syntax.specs.Item.{Item, Identification, Description}
use Rattle.edd_syntax.specs.ItemGrammar.{ClosedHere, ItemHere, NumberedWordHere, IdentificationHere, Spells}
use Rattle.edd_syntax.specs.Size.{item_height, height_limit}
use Rattle.edd_grammar.specs.Reading.{at, expect_word}
use Rattle.edd_grammar.specs.ConditionalReading.{skip_comma}
use Rattle.edd_grammar.specs.WordReading.{at_end, closed}
use Rattle.edd_grammar.specs.UnitReading.{item_at, numbered_at, identification_at, items_at, unit_at}
use Rattle.edd_grammar.proofs.Steps.{bind_some, both_true, as_read, le_is, expect_word_is, expect_word_again}
use Rattle.edd_grammar.proofs.SoundLists.{skip_sound}
use Rattle.edd_grammar.proofs.Words.{integer_is}
use Rattle.edd_grammar.proofs.TypeParts.{comma_again}
use Rattle.edd_grammar.proofs.Rows.{tallest, ThenSemicolons, row_sound, row_again, closed_row, row_closed, closed_sound}
use Rattle.edd_grammar.proofs.Items.{item_sound, all_items, items_no_comma}

-- ---- the four numbers

numbered_sound : (k : Keyword) (here : List Token) (n : ℕ) (rest : List Token)
    → numbered_at k here ≡ Some (n, rest) → NumberedWordHere k n here rest
unfolding numbered_at
numbered_sound k here n rest x =
    let a = bind_some (expect_word k here) _ (n, rest) x in
    expect_word_is k here a.0 a.1 ∙ ap (λ u. Reserved k ∷ u) (integer_is a.0 n rest a.2)

numbered_again : (k : Keyword) (n : ℕ) (rest : List Token)
    → numbered_at k (Reserved k ∷ Integer n ∷ rest) ≡ Some (n, rest)
unfolding numbered_at
numbered_again k n rest = rw (expect_word_again k (Integer n ∷ rest)) refl

identification_sound : (here : List Token) (i : Identification) (rest : List Token)
    → identification_at here ≡ Some (i, rest) → IdentificationHere i here rest
unfolding identification_at
identification_sound here i rest x =
    let a = bind_some (numbered_at word.Manufacturer here) _ (i, rest) x in
    let b = bind_some (numbered_at word.DeviceType (skip_comma a.0.1)) _ (i, rest) a.2 in
    let c = bind_some (numbered_at word.DeviceRevision (skip_comma b.0.1)) _ (i, rest) b.2 in
    let d = bind_some (numbered_at word.DdRevision (skip_comma c.0.1)) _ (i, rest) c.2 in
    let read : Identification =
    record {
      manufacturer = a.0.0;
      device_type = b.0.0;
      device_revision = c.0.0;
      dd_revision = d.0.0;
    } in
    as_read (λ i r. IdentificationHere i here r) read i (skip_comma d.0.1) rest d.2 (
      a.0.1,
      skip_comma a.0.1,
      b.0.1,
      skip_comma b.0.1,
      c.0.1,
      skip_comma c.0.1,
      d.0.1,
      numbered_sound word.Manufacturer here a.0.0 a.0.1 a.1,
      skip_sound a.0.1,
      numbered_sound word.DeviceType (skip_comma a.0.1) b.0.0 b.0.1 b.1,
      skip_sound b.0.1,
      numbered_sound word.DeviceRevision (skip_comma b.0.1) c.0.0 c.0.1 c.1,
      skip_sound c.0.1,
      numbered_sound word.DdRevision (skip_comma c.0.1) d.0.0 d.0.1 d.1,
      skip_sound d.0.1,
    )

-- the numbers are read where no comma follows but the one that may be there
identification_again : (i : Identification) (here rest : List Token)
    → IdentificationHere i here rest → at sign.Comma rest ≡ false → identification_at here
    ≡ Some (i, rest)
unfolding identification_at
identification_again i here rest h f =
    let first = comma_again h.0 h.1 h.8 (ap (at sign.Comma) h.9) in
    let second = comma_again h.2 h.3 h.10 (ap (at sign.Comma) h.11) in
    let third = comma_again h.4 h.5 h.12 (ap (at sign.Comma) h.13) in
    let last = comma_again h.6 rest h.14 f in
    rw (
      h.7,
      numbered_again word.Manufacturer i.manufacturer h.0,
      first,
      h.9,
      numbered_again word.DeviceType i.device_type h.2,
      second,
      h.11,
      numbered_again word.DeviceRevision i.device_revision h.4,
      third,
      h.13,
      numbered_again word.DdRevision i.dd_revision h.6,
      last,
    ) refl

-- ---- heights

all_low : (items : List (Item Path)) → tallest item_height items ≤ height_limit
    → IsTrue (list_all (λ i. nat_le (item_height i) height_limit) items)
all_low [] low = refl
all_low (i ∷ items) low =
    let first : nat_le (item_height i) height_limit ≡ true = is_le (item_height i) height_limit
    (omega arith) in
    rw (first, all_low items (omega arith)) refl
  where
    is_le : (a b : ℕ) → a ≤ b → nat_le a b ≡ true
    is_le a b e = grind arith

pub low_all : (items : List (Item Path))
    → IsTrue (list_all (λ i. nat_le (item_height i) height_limit) items) → tallest item_height items
    ≤ height_limit
low_all [] low = omega arith
low_all (i ∷ items) low =
    let b = both_true (nat_le (item_height i) height_limit)
    (list_all (λ i. nat_le (item_height i) height_limit) items) low in
    omega (arith, le_is (item_height i) height_limit b.0, low_all items b.1)

-- ---- units

is_end : (rest : List Token) → at_end rest ≡ true → rest ≡ []
is_end [] e = refl
is_end (t ∷ rest) e = absurd cc

-- The unit that is read is spelled by the tokens.
pub unit_sound : (tokens : List Token) (unit : Description Path) → unit_at tokens ≡ Some unit
    → Spells tokens unit
unfolding unit_at items_at
unit_sound tokens unit x =
    let a = bind_some (identification_at tokens) _ unit x in
    let b = bind_some (items_at a.0.1) _ unit a.2 in
    let row = row_sound (ThenSemicolons ItemHere) item_height height_limit
    (closed (item_at height_limit))
    (closed_sound ItemHere item_height height_limit (item_at height_limit)
    (item_sound height_limit)) at_end
    (suc (length a.0.1)) a.0.1 b.0.0 b.0.1 b.1 in
    let read : Description Path = record { identification = a.0.0; items = b.0.0 } in
    let same : read ≡ unit = (let e = b.2 in cc (e)) in
    subst (Spells tokens) same
    (record {
      items_from = a.0.1;
      identification = identification_sound tokens a.0.0 a.0.1 a.1;
      items = subst (ClosedHere ItemHere b.0.0 a.0.1) (is_end b.0.1 row.2)
          (closed_row ItemHere b.0.0 a.0.1 b.0.1 row.0);
      heights = all_low b.0.0 row.1;
    })

-- The unit that the tokens spell is read.
pub unit_again : (tokens : List Token) (unit : Description Path) → Spells tokens unit
    → unit_at tokens ≡ Some unit
unfolding unit_at items_at
unit_again tokens unit s =
    let identification = identification_again unit.identification tokens s.items_from
    s.identification (items_no_comma unit.items s.items_from s.items) in
    let items = row_again (ThenSemicolons ItemHere) item_height height_limit
    (λ rest. at sign.Semicolon rest ≡ false) at_end (closed (item_at height_limit))
    (all_items height_limit) (suc (length s.items_from)) unit.items
    s.items_from [] (omega arith) (row_closed ItemHere unit.items s.items_from [] s.items)
    (low_all unit.items s.heights) refl in
    rw (identification, items) refl

-- Tokens spell one unit at most.
pub unit_unique : (tokens : List Token) (a b : Description Path) → Spells tokens a → Spells tokens b
    → a ≡ b
unit_unique tokens a b s t =
    let same : Some a ≡ Some b = sym (unit_again tokens a s) ∙ unit_again tokens b t in
    cc (same)
