use Rattle.std.proofs.Common.{◌≡◌, map, length}
use Rattle.edd_syntax.specs.WordsView.{string_of}
use Rattle.edd_image.specs.Strings.{string_bytes}
use Rattle.edd_assembly.specs.Assembly.{string_row_at, string_rows}
use Rattle.edd_assembly.proofs.Appending.{and_rest, rows_and_rest}
use Rattle.edd_assembly.proofs.SectionSplits.{strings_split}
use Rattle.edd_assembly.proofs.strings.string_section.Given as goal

-- what is there and the strings to come are all rows and all bytes
abbrev pub invariant-loop-w : goal.invariant-loop-w
invariant-loop-w l =
    (rows_and_rest string_row_at string_rows string_bytes string_of strings_split
    l.section.rows.items (length l.section.bytes.items) l.w-index l.words
    ≡ string_rows 0 (map string_of l.words))
    × (and_rest string_bytes string_of l.section.bytes.items l.w-index l.words
    ≡ and_rest string_bytes string_of l.initial.section.bytes.items 0 l.words)
