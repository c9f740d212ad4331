use Rattle.std.proofs.Common.{string_bytes, map, take}
use Rattle.edd_display.proofs.Marking.{Marked}
use Rattle.edd_display.proofs.words.push_set.Given as goal

abbrev pub invariant-loop-bit : goal.invariant-loop-bit
invariant-loop-bit l =
    Marked l.bits (map (λ w. (w.0, w.1.now)) (take l.bit-index l.words)) l.before
    (string_bytes l.initial.line) (string_bytes l.line)
