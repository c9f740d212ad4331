use Rattle.std.proofs.Common.{◌≡◌, drop}
use Rattle.edd_panel.specs.Screens.{nth_entry}
use Rattle.edd_panel.proofs.entries.nth_entry.Given as goal

-- what is left to be counted leads from here to the entry
abbrev pub invariant-loop-line : goal.invariant-loop-line
invariant-loop-line l = nth_entry (drop l.line-index l.lines) l.left ≡ nth_entry l.lines l.fn.number
