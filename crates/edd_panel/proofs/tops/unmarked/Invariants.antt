use Rattle.std.proofs.Common.{◌≡◌, ◌++◌, drop}
use Rattle.edd_panel.specs.Screens.{unmarked_from}
use Rattle.edd_panel.proofs.tops.unmarked.Given as goal

-- the menus so far and those of what is left are all
abbrev pub invariant-loop-number : goal.invariant-loop-number
invariant-loop-number l = l.menus.items ++ unmarked_from l.all l.number (drop l.number l.named)
    ≡ unmarked_from l.all 0 l.named
