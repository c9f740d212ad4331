use Rattle.std.proofs.Common.{◌≡◌, drop}
use Rattle.edd_panel.specs.Edits.{with_named}
use Rattle.edd_panel.proofs.edits.all_named.Given as goal

-- the bits so far and those of what is left are all
abbrev pub invariant-loop-item : goal.invariant-loop-item
invariant-loop-item l = with_named l.bits (drop l.item-index l.records) ≡ with_named 0 l.records
