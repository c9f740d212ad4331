use Rattle.std.proofs.Common.{◌≡◌, drop}
use Rattle.edd_panel.specs.Happens.{deepest, level_of}
use Rattle.edd_panel.proofs.panel.Panel.level.Given as goal

-- the deepest level from here on is that of all
abbrev pub invariant-loop-next : goal.invariant-loop-next
invariant-loop-next l = deepest l.level (drop l.next-index l.self.path) ≡ level_of l.self.path
