use Rattle.std.proofs.Common.{◌≡◌, drop}
use Rattle.edd_panel.specs.Screens.{mark_entries}
use Rattle.edd_panel.proofs.tops.mark_entries.Given as goal

-- the marks so far and those of what is left are all
abbrev pub invariant-loop-entry : goal.invariant-loop-entry
invariant-loop-entry l = mark_entries l.«of».0 (drop l.entry-index l.entries) l.named
    ≡ mark_entries l.«of».0 l.entries l.fn.named
