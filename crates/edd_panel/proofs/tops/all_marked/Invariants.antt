use Rattle.std.proofs.Common.{◌≡◌, drop}
use Rattle.edd_panel.specs.Screens.{all_marked}
use Rattle.edd_panel.proofs.tops.all_marked.Given as goal

-- the menus so far have a mark
abbrev pub invariant-loop-mark : goal.invariant-loop-mark
invariant-loop-mark l = all_marked (drop l.mark-index l.named) ≡ all_marked l.named
