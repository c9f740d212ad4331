use Rattle.std.proofs.Common.{◌≡◌, ◌++◌, drop}
use Rattle.edd_panel.specs.Screens.{menu_lines}
use Rattle.edd_panel.proofs.entries.menu_lines.Given as goal

-- the lines so far and those of what is left are all
abbrev pub invariant-loop-menu : goal.invariant-loop-menu
invariant-loop-menu l = l.lines.items ++ menu_lines (drop l.menu-index l.menus) ≡ menu_lines l.menus
