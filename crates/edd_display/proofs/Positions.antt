-- The positions of transactions, one after the other.
use Rattle.std.proofs.Common.{◌≡◌, ℕ, suc, ◌+◌, ◌-◌, ◌<◌, ℤ, Bool, true, false, not, List, [], ◌∷◌, ◌++◌, Option, Some, None, Result, Ok, Err, refl, sym, ap, ◌∙◌, arith, subst, append_assoc, append-nil}
use Rattle.std.specs.Prelude.{option_map}
use Rattle.std.proofs.lemmas.List.Sums.{take_while-cons}
use Rattle.std.specs.List.{range_with_len, take_while}
use Rattle.std.specs.Io.KnownBytes.{Appends}
use Rattle.edd_syntax.specs.declared.answer.Trap.{Trap}
use Rattle.edd_syntax.specs.declared.numbers.AttrRef.{AttrRef}
use Rattle.edd_syntax.specs.declared.numbers.Attr.{Attr}
use Rattle.edd_syntax.specs.declared.numbers.Attr.TheVariants as attr
use Rattle.edd_syntax.specs.declared.numbers.ItemNo.{ItemNo}
use Rattle.edd_image.specs.Contents.{AttributeFields, Contents, contents_in}
use Rattle.edd_instructions.specs.declared.records.Record.{Record}
use Rattle.edd_instructions.specs.Reading.{Reading, NoItem, Records, IsReading, default_records, environment_of, given_within, is_no_item, opening_of, reading_of, row_of}
use Rattle.edd_display.specs.Shown.{Prints, Row, has_transaction, is_absent, positions_of, reading_line, row_at, transaction_entries}
use Rattle.edd_display.proofs.Printing.{prints_join, prints_row, range_more}

-- ---- what is read of an attribute that is not there

same_some : {A : Type 0} {x y : A} → Some x ≡ Some y → x ≡ y
same_some e = cc

read_there : (a : Attr) (o : Option (Result (List Record) Trap)) (r : Reading)
    → option_map (reading_of a) o ≡ Some r → is_absent r ≡ false
read_there a None r e = absurd cc
read_there a (Some (Ok [])) r e = sym (ap is_absent (same_some e))
read_there a (Some (Ok (x ∷ xs))) r e = sym (ap is_absent (same_some e))
read_there a (Some (Err why)) r e = sym (ap is_absent (same_some e))

read_within : (n : ℕ) (c : Contents) (ref : AttrRef) (values : List ℤ) (r : Reading)
    → (t : Bool) (o : Option AttributeFields)
    → elim t as (λ x. Option Reading) [
      | true ↦ Some NoItem
      | false ↦ elim o as (λ x. Option Reading) [
        | None ↦ Some (Records (default_records ref.attr))
        | Some row ↦ option_map (reading_of ref.attr)
            (given_within n (environment_of c) (opening_of c row values))
      ]
    ] ≡ Some r → is_absent r ≡ t
read_within n c ref values r true o e = sym (ap is_absent (same_some e))
read_within n c ref values r false None e = sym (ap is_absent (same_some e))
read_within n c ref values r false (Some row) e = read_there ref.attr _ r e

pub absent_read : (b : List ℕ) (ref : AttrRef) (values : List ℤ) (r : Reading)
    → IsReading b ref values r → is_absent r ≡ is_no_item (contents_in b) ref
absent_read b ref values r is =
    read_within is.0 (contents_in b) ref values r (is_no_item (contents_in b) ref)
    (row_of (contents_in b) ref) is.1

pub not_absent : (b : List ℕ) (item : ItemNo) (sub : ℕ) (ref : AttrRef) (values : List ℤ) (r : Reading)
    → ref ≡ row_at item attr.Transaction sub → IsReading b ref values r
    → not (is_absent r) ≡ has_transaction (contents_in b) item sub
not_absent b item sub ref values r at is =
    ap not (absent_read b ref values r is ∙ ap (is_no_item (contents_in b)) at)

-- ---- the lines of a transaction

-- the three lines, the first by what was read, the others printed as rows
pub three_printed : (b : List ℕ) (values : List ℤ) (code : List ℕ) (item : ItemNo) (sub : ℕ)
    (at request reply : AttrRef) (r : Reading) (old first second new : Option (List ℕ))
    → at ≡ row_at item attr.Transaction sub → request ≡ row_at item attr.Request sub
    → reply ≡ row_at item attr.Reply sub → IsReading b at values r
    → Appends old first (reading_line (contents_in b) code at r)
    → Prints b values code (Row request ∷ []) first second
    → Prints b values code (Row reply ∷ []) second new
    → Prints b values code (transaction_entries item sub) old new
three_printed b values code item sub at request reply r old first second new e f g is one two three =
    let asked : AttrRef = row_at item attr.Request sub in
    let answered : AttrRef = row_at item attr.Reply sub in
    subst (λ (x : AttrRef). Prints b values code (Row x ∷ Row asked ∷ Row answered ∷ []) old new) e
    (subst (λ (y : AttrRef). Prints b values code (Row at ∷ Row y ∷ Row answered ∷ []) old new) f
    (subst (λ (z : AttrRef). Prints b values code (Row at ∷ Row request ∷ Row z ∷ []) old new) g
    (prints_join b values code (Row at ∷ []) (Row request ∷ Row reply ∷ []) old first new
    (prints_row b values code at r old first is one)
    (prints_join b values code (Row request ∷ []) (Row reply ∷ []) first second new two three))))

-- ---- the positions up to the first without a transaction

module _ (c : Contents) (item : ItemNo) where
  -- those from k on
  abbrev pub positions_from : ℕ → List ℕ
  positions_from k = take_while (has_transaction c item) (range_with_len k (65536 - k))

  -- there is a transaction at each position below k
  abbrev pub AllBelow : ℕ → Type 0
  AllBelow k = positions_of c item ≡ range_with_len 0 k ++ positions_from k

  pub from_first : AllBelow 0
  unfolding positions_of
  from_first =
      let whole : 65536 ≡ 65536 - 0 = omega arith in
      ap (λ n. take_while (has_transaction c item) (range_with_len 0 n)) whole

  more_from : (k : ℕ) → k < 65536 → has_transaction c item k ≡ true
      → positions_from k ≡ k ∷ positions_from (k + 1)
  more_from k inside there =
      let left : 65536 - k ≡ suc (65536 - (k + 1)) = omega (arith, inside) in
      ap (λ n. take_while (has_transaction c item) (range_with_len k n)) left
      ∙ take_while-cons (has_transaction c item) k (range_with_len (k + 1) (65536 - (k + 1)))
      ∙ rw there refl

  none_from : (k : ℕ) → k < 65536 → has_transaction c item k ≡ false → positions_from k ≡ []
  none_from k inside none =
      let left : 65536 - k ≡ suc (65536 - (k + 1)) = omega (arith, inside) in
      ap (λ n. take_while (has_transaction c item) (range_with_len k n)) left
      ∙ take_while-cons (has_transaction c item) k (range_with_len (k + 1) (65536 - (k + 1)))
      ∙ rw none refl

  pub one_more : (k : ℕ) → k < 65536 → has_transaction c item k ≡ true → AllBelow k
      → AllBelow (k + 1)
  one_more k inside there below =
      below ∙ ap (λ zs. range_with_len 0 k ++ zs) (more_from k inside there)
      ∙ sym (append_assoc (range_with_len 0 k) (k ∷ []) (positions_from (k + 1)))
      ∙ ap (λ zs. zs ++ positions_from (k + 1)) (sym (range_more k))

  pub ends_at : (k : ℕ) → k < 65536 → has_transaction c item k ≡ false → AllBelow k
      → positions_of c item ≡ range_with_len 0 k
  ends_at k inside none below =
      below ∙ ap (λ zs. range_with_len 0 k ++ zs) (none_from k inside none)
      ∙ append-nil (range_with_len 0 k)

  pub all_there : (k : ℕ) → k ≡ 65536 → AllBelow k → positions_of c item ≡ range_with_len 0 k
  all_there k last below =
      let none : 65536 - k ≡ 0 = omega (arith, last) in
      below
      ∙ ap (λ n. range_with_len 0 k ++ take_while (has_transaction c item) (range_with_len k n)) none
      ∙ append-nil (range_with_len 0 k)
