-- The end of a line.
use Rattle.std.specs.Prelude.{ℕ, ◌-◌, List, length, take, slice_index, ◌==◌, if◌then◌else◌}
use Rattle.std.specs.Str.Lines.{strip_carriage_return}

-- the text of a line without its end: LF, or CR LF
abbrev pub without_end : (line : List ℕ) → List ℕ
without_end line = if slice_index line (length line - 1) == 10
    then strip_carriage_return (take (length line - 1) line) else line
