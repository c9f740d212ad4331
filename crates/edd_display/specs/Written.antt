-- Which attributes of an item have a row, as bits, and the lines of those that have none.
use Rattle.std.specs.Prelude.{◌≡◌, ℕ, ◌<◌, ◌==◌, ◌%◌, Bool, true, false, List, [], length, slice_index_or, None, codes}
use Rattle.std.specs.Int.{bit_at}
use Rattle.edd_syntax.specs.declared.numbers.Attr.{Attr}
use Rattle.edd_syntax.specs.declared.numbers.Attr.TheVariants as attr
use Rattle.edd_syntax.specs.declared.numbers.ItemNo.{ItemNo}
use Rattle.edd_syntax.specs.declared.numbers.Kind.{Kind}
use Rattle.edd_syntax.specs.Numbers.{attr_number, item_number}
use Rattle.edd_image.specs.Contents.{AttributeFields, Contents}
use Rattle.edd_instructions.specs.Reading.{row_of}
use Rattle.edd_display.specs.Shown.{row_at}

-- the bit of the attribute of this number is set
abbrev pub has_bit : (bits number : ℕ) → Bool
has_bit bits number = bit_at bits (number % 32) == 1

-- the bits of the item of this number, in the order of numbers
abbrev pub bits_of : List ℕ → (item : ℕ) → ℕ
bits_of all item = slice_index_or all item 0

-- If the row is of this kind and of one of these items, its attribute has its bit there.
abbrev pub IsNoted : (kind : ℕ) → List ℕ → AttributeFields → Type 0
IsNoted kind all r = r.kind ≡ kind → r.item < length all
    → has_bit (bits_of all r.item) r.attribute ≡ true

-- An attribute without its bit has no row at any position.
abbrev pub AreWritten : Contents → ItemNo → (bits : ℕ) → Type 0
AreWritten c item bits = (a : Attr) (sub : ℕ) → has_bit bits (attr_number a) ≡ false
    → row_of c (row_at item a sub) ≡ None

-- the same of each item of a kind
abbrev pub AreAllWritten : Contents → Kind → List ℕ → Type 0
AreAllWritten c kind all = (n : ℕ) → n < length all
    → AreWritten c (item_number kind n) (bits_of all n)

-- the line of an attribute that has no row, if there is something to say
abbrev pub default_line : Attr → List ℕ
default_line attr.Handling = codes "HANDLING 3\n"
default_line attr.Validity = codes "VALIDITY 1\n"
default_line _ = []
