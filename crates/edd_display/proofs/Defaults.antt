-- The line of an attribute that has no row.
use Rattle.std.proofs.Common.{◌≡◌, ℕ, ℤ, pos, arith, true, false, List, [], ◌∷◌, Option, None, refl}
use Rattle.std.specs.Fmt.{signed_decimal}
use Rattle.std.specs.Io.KnownBytes.{Appends}
use Rattle.std.proofs.lemmas.Fmt.{decimal_digit}
use Rattle.edd_syntax.specs.declared.numbers.Attr.{Attr}
use Rattle.edd_syntax.specs.declared.numbers.Attr.TheVariants as attr
use Rattle.edd_syntax.specs.declared.numbers.ItemNo.{ItemNo}
use Rattle.edd_syntax.specs.Attributes.{is_of_transaction}
use Rattle.edd_syntax.specs.Numbers.{has_attr, kind_of, same_attr}
use Rattle.edd_image.specs.Contents.{Contents, contents_in}
use Rattle.edd_image.specs.Existing.{item_exists}
use Rattle.edd_instructions.specs.Reading.{IsReading, Records, default_records, row_of}
use Rattle.edd_display.specs.Records.{record_shown}
use Rattle.edd_display.specs.Shown.{Prints, Row, reading_line, reading_shown, row_at, row_word}
use Rattle.edd_display.specs.Written.{default_line}
use Rattle.edd_display.proofs.Printing.{prints_row}

default_shown : (c : Contents) (code : List ℕ) (item : ItemNo) (a : Attr)
    → is_of_transaction a ≡ false
    → reading_line c code (row_at item a 0) (Records (default_records a)) ≡ default_line a
unfolding reading_line reading_shown row_word record_shown
default_shown c code item attr.Handling e =
    let shown : signed_decimal (pos 3) ≡ 51 ∷ [] = decimal_digit 3 (omega arith) in
    rw shown refl
default_shown c code item attr.Validity e =
    let shown : signed_decimal (pos 1) ≡ 49 ∷ [] = decimal_digit 1 (omega arith) in
    rw shown refl
default_shown c code item attr.Transaction e = absurd cc
default_shown c code item attr.Request e = absurd cc
default_shown c code item attr.Reply e = absurd cc
default_shown c code item _ e = refl

module _ (b : List ℕ) (values : List ℤ) (code : List ℕ) (item : ItemNo) (a : Attr) where
  default_read : item_exists (contents_in b).counts item ≡ true
      → has_attr (kind_of item) a ≡ true → same_attr a attr.Definition ≡ false
      → is_of_transaction a ≡ false → row_of (contents_in b) (row_at item a 0) ≡ None
      → IsReading b (row_at item a 0) values (Records (default_records a))
  default_read exists has other plain none = (0, rw (exists, has, other, plain, none) refl)

  pub prints_default : (old new : Option (List ℕ))
      → item_exists (contents_in b).counts item ≡ true
      → has_attr (kind_of item) a ≡ true → same_attr a attr.Definition ≡ false
      → is_of_transaction a ≡ false → row_of (contents_in b) (row_at item a 0) ≡ None
      → Appends old new (default_line a) → Prints b values code (Row (row_at item a 0) ∷ []) old new
  prints_default old new exists has other plain none grown =
      prints_row b values code (row_at item a 0) (Records (default_records a)) old new
      (default_read exists has other plain none)
      (rw (default_shown (contents_in b) code item a plain) grown)
