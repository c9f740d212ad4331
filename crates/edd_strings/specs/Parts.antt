-- What the parts that a raw text is read by say of its pieces.
use Rattle.std.specs.Prelude.{ℕ, ◌≡◌, ◌+◌, ◌<◌, ◌≤◌, ◌==◌, ◌||◌, Bool, false, List, [], Option, Some, None, length, slice_index}
use Rattle.edd_syntax.specs.Words.{Pieces, Variant, backslash, bar, pieces, with_code, with_text, Words, variants_of}
use Rattle.edd_strings.specs.declared.parts.Opened.{Opened}
use Rattle.edd_strings.specs.declared.parts.Part.{Part}

-- a code, and the pieces of what comes after it
abbrev pub pieces_from : Option Opened → Pieces
pieces_from None = record { before = []; variants = [] }
pieces_from (Some opened) = with_code opened.code.now (pieces 0 opened.behind.now)

-- the pieces of a part and of what comes after it
abbrev pub pieces_of : Part → Pieces
pieces_of p = with_text p.text.now (pieces_from p.next)

-- the variants of the codes from here on
abbrev pub variants_from : Option Opened → List Variant
variants_from next = (pieces_from next).variants

-- how much is left to read from here on
abbrev pub left_len : Option Opened → ℕ
left_len None = 0
left_len (Some opened) = length opened.behind.now + 1

-- the string of a raw text with this first part
abbrev pub words_of_part : Part → Words
words_of_part p = let all = pieces_of p in variants_of all.before all.variants

-- a byte before which reading has to look on
abbrev pub is_mark : ℕ → Bool
is_mark c = c == bar || c == backslash

-- the bytes from one place up to another are there, and no marks
abbrev pub AreUnmarked : List ℕ → (from : ℕ) → (to : ℕ) → Type 0
AreUnmarked bytes from to =
    (i : ℕ) → from ≤ i → i < to → (i < length bytes) × (is_mark (slice_index bytes i) ≡ false)
