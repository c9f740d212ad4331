use Rattle.std.proofs.Common.{◌≡◌, take}
use Rattle.std.specs.Prelude.{IsTrue}
use Rattle.std.specs.List.{flat_map}
use Rattle.edd_display.specs.Words.{escape}
use Rattle.edd_display.proofs.page.are_plain.Given as goal

abbrev pub invariant-loop-byte : goal.invariant-loop-byte
invariant-loop-byte l = IsTrue l.are_plain
    → flat_map escape (take l.byte-index l.bytes) ≡ take l.byte-index l.bytes
