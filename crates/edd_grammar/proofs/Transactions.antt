-- Transactions are read as they are spelled.
use Rattle.std.proofs.Common.{◌≡◌, ℕ, ◌≤◌, ◌<◌, false, List, ◌∷◌, length, Some, refl, ap, ◌∙◌, inl, arith}
use Rattle.edd_syntax.specs.declared.symbols.Keyword.TheVariants as word
use Rattle.edd_syntax.specs.declared.symbols.Symbol.TheVariants as sign
use Rattle.edd_syntax.specs.Token.{Token, Reserved, Sign}
use Rattle.edd_syntax.specs.Reference.{Path}
use Rattle.edd_syntax.specs.Item as item
use Rattle.edd_syntax.specs.Item.{TransactionPart}
use Rattle.edd_syntax.specs.StatementGrammar.{ListHere}
use Rattle.edd_syntax.specs.ItemGrammar.{RowHere, ClosedHere, DataItemHere, TransactionPartHere}
use Rattle.edd_syntax.specs.Size.{leaf, conds_height, transaction_part_height}
use Rattle.edd_grammar.specs.Reading.{at, at_word}
use Rattle.edd_grammar.specs.ConditionalReading.{list_at}
use Rattle.edd_grammar.specs.WordReading.{at_close, closed, braced, row_inside}
use Rattle.edd_grammar.specs.ValueReading.{data_item_value}
use Rattle.edd_grammar.specs.AttributeReading.{transaction_part_at}
use Rattle.edd_grammar.proofs.Steps.{at_is}
use Rattle.edd_grammar.proofs.Alternatives.{branch, worded}
use Rattle.edd_grammar.proofs.Branches.{Spelling, SoundOf}
use Rattle.edd_grammar.proofs.SoundLists.{list_sound}
use Rattle.edd_grammar.proofs.CompleteLists.{list_again, list_shorter}
use Rattle.edd_grammar.proofs.Entries.{EndsEntry, data_item_value_sound, listed_data_items}
use Rattle.edd_grammar.proofs.Rows.{BracedHere, tallest, RowOf, ThenSemicolons, braced_sound, braced_again, row_inside_sound, row_inside_again, row_shorter, closed_row, row_closed, closed_sound, closed_shorter, closed_elements}

-- ---- REQUEST and REPLY

data_items_sound : (height_left : ℕ)
    → SoundOf (BracedHere (ListHere DataItemHere)) (conds_height leaf) height_left
    (braced (list_at data_item_value height_left))
data_items_sound height_left = braced_sound (ListHere DataItemHere) (conds_height leaf) height_left
    (list_at data_item_value height_left)
    (list_sound leaf DataItemHere data_item_value data_item_value_sound height_left)

transaction_part_sound : (height_left : ℕ) → SoundOf TransactionPartHere transaction_part_height
    height_left (transaction_part_at height_left)
unfolding transaction_part_at
transaction_part_sound height_left here p rest x =
    branch (at_word word.Request here) _ _ _ x
    (λ t y. worded TransactionPartHere transaction_part_height height_left word.Request
    (BracedHere (ListHere DataItemHere)) (conds_height leaf)
    (braced (list_at data_item_value height_left)) (data_items_sound height_left)
    item.Request (λ v here behind rest e h. (h.0, e ∙ ap (λ u. Reserved word.Request ∷ u) h.1, h.2))
    (λ v l. l) here p rest t y) (λ _ x1.
    branch (at_word word.Reply here) _ _ _ x1
    (λ t y. worded TransactionPartHere transaction_part_height height_left word.Reply
    (BracedHere (ListHere DataItemHere)) (conds_height leaf)
    (braced (list_at data_item_value height_left)) (data_items_sound height_left)
    item.Reply (λ v here behind rest e h. (h.0, e ∙ ap (λ u. Reserved word.Reply ∷ u) h.1, h.2))
    (λ v l. l) here p rest t y) (λ _ y. absurd cc))

transaction_part_again : (height_left : ℕ) (p : TransactionPart Path) (here rest : List Token)
    → TransactionPartHere p here rest → transaction_part_height p ≤ height_left
    → transaction_part_at height_left here ≡ Some (p, rest)
unfolding transaction_part_at
transaction_part_again height_left (item.Request all) here rest h low =
    let items = list_again leaf DataItemHere EndsEntry data_item_value listed_data_items height_left
    all h.0 (Sign sign.CloseBrace ∷ rest) h.2 low (inl refl) in
    rw (
      h.1,
      braced_again (list_at data_item_value height_left) all (Sign sign.OpenBrace ∷ h.0) h.0
          rest refl items,
    ) refl
transaction_part_again height_left (item.Reply all) here rest h low =
    let items = list_again leaf DataItemHere EndsEntry data_item_value listed_data_items height_left
    all h.0 (Sign sign.CloseBrace ∷ rest) h.2 low (inl refl) in
    rw (
      h.1,
      braced_again (list_at data_item_value height_left) all (Sign sign.OpenBrace ∷ h.0) h.0
          rest refl items,
    ) refl

transaction_part_shorter : (p : TransactionPart Path) (here rest : List Token)
    → TransactionPartHere p here rest → length rest < length here
transaction_part_shorter (item.Request all) here rest h =
    omega (
      arith,
      ap length h.1,
      list_shorter leaf DataItemHere EndsEntry data_item_value
          listed_data_items all h.0 _ h.2,
    )
transaction_part_shorter (item.Reply all) here rest h =
    omega (
      arith,
      ap length h.1,
      list_shorter leaf DataItemHere EndsEntry data_item_value
          listed_data_items all h.0 _ h.2,
    )

transaction_part_starts : (p : TransactionPart Path) (here rest : List Token)
    → TransactionPartHere p here rest → (at_close here ≡ false) × (at sign.Semicolon here ≡ false)
transaction_part_starts (item.Request all) here rest h =
    (ap at_close h.1, ap (at sign.Semicolon) h.1)
transaction_part_starts (item.Reply all) here rest h = (ap at_close h.1, ap (at sign.Semicolon) h.1)

transaction_parts : (height_left : ℕ)
    → RowOf (ThenSemicolons TransactionPartHere) transaction_part_height height_left
    (λ rest. at sign.Semicolon rest ≡ false) at_close (closed (transaction_part_at height_left))
transaction_parts height_left =
    closed_elements TransactionPartHere transaction_part_height height_left at_close
    (transaction_part_at height_left) (transaction_part_again height_left)
    (λ p here rest h. (transaction_part_starts p here rest h).0)
    (λ p here rest h. (transaction_part_starts p here rest h).1) transaction_part_shorter
    (λ rest e. ap (at sign.Semicolon) (at_is sign.CloseBrace rest e))

-- ---- the parts in braces

abbrev pub TransactionPartsHere : Spelling (List (TransactionPart Path))
TransactionPartsHere = BracedHere (ClosedHere TransactionPartHere)

pub transaction_parts_sound : (height_left : ℕ)
    → SoundOf TransactionPartsHere (tallest transaction_part_height) height_left
    (braced (row_inside (closed (transaction_part_at height_left))))
transaction_parts_sound height_left here parts rest e =
    let row = row_inside_sound (ThenSemicolons TransactionPartHere) transaction_part_height
    height_left (closed (transaction_part_at height_left))
    (closed_sound TransactionPartHere transaction_part_height height_left
    (transaction_part_at height_left) (transaction_part_sound height_left)) in
    let s = braced_sound (RowHere (ThenSemicolons TransactionPartHere))
    (tallest transaction_part_height) height_left
    (row_inside (closed (transaction_part_at height_left))) row here parts rest e in
    ((s.0.0, s.0.1, closed_row TransactionPartHere parts s.0.0 _ s.0.2), s.1)

pub transaction_parts_again : (height_left : ℕ) (parts : List (TransactionPart Path))
    (here rest : List Token) → TransactionPartsHere parts here rest
    → tallest transaction_part_height parts ≤ height_left
    → braced (row_inside (closed (transaction_part_at height_left))) here ≡ Some (parts, rest)
transaction_parts_again height_left parts here rest h low =
    braced_again (row_inside (closed (transaction_part_at height_left))) parts here h.0 rest h.1
    (row_inside_again (ThenSemicolons TransactionPartHere) transaction_part_height height_left
    (λ rest. at sign.Semicolon rest ≡ false) (closed (transaction_part_at height_left))
    (transaction_parts height_left) parts h.0 rest
    (row_closed TransactionPartHere parts h.0 _ h.2) low)

pub transaction_parts_shorter : (parts : List (TransactionPart Path)) (here rest : List Token)
    → TransactionPartsHere parts here rest → length rest < length here
transaction_parts_shorter parts here rest h =
    omega (
      arith,
      ap length h.1,
      row_shorter (ThenSemicolons TransactionPartHere)
          (closed_shorter TransactionPartHere transaction_part_shorter) parts h.0 _
          (row_closed TransactionPartHere parts h.0 _ h.2),
    )
