use Rattle.std.proofs.Common.{◌≡◌, ◌+◌, ◌-◌, ◌≤◌, length, drop, filter}
use Rattle.std.specs.Prelude.{◌^◌, min}
use Rattle.edd_lexer.specs.Bytes.{is_line_end}
use Rattle.edd_lexer.specs.Words as words
use Rattle.edd_lexer.proofs.lines.last_line.Given as goal

-- with the ends of lines that follow, this is the last line
abbrev pub invariant-loop-byte : goal.invariant-loop-byte
invariant-loop-byte l =
    (min (l.line + length (filter is_line_end (drop l.byte-index l.text))) (2 ^ 32 - 1)
    ≡ words.last_line l.text)
    × (l.line ≤ 2 ^ 32 - 1)
