use Rattle.std.proofs.Common.{◌≡◌, ◌++◌, drop, filter_map}
use Rattle.edd_panel.specs.Screens.{line_of}
use Rattle.edd_panel.proofs.entries.written_in.Given as goal

-- the lines so far and those of what is left are all
abbrev pub invariant-loop-written : goal.invariant-loop-written
invariant-loop-written l = l.lines.items ++ filter_map line_of (drop l.written-index l.records)
    ≡ filter_map line_of l.records
