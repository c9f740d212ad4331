use Rattle.std.proofs.Common.{◌≡◌, ◌++◌, ◌-◌}
use Rattle.edd_syntax.specs.declared.numbers.ItemNo.TheVariants as items
use Rattle.edd_panel.specs.Screens.{numbered_from}
use Rattle.edd_panel.proofs.entries.add_methods.Given as goal

-- the lines so far and those of what is left are all
abbrev pub invariant-loop-number : goal.invariant-loop-number
invariant-loop-number l =
    l.lines.items ++ numbered_from (λ n. items.Method (record { 0 = n })) l.number (l.count - l.number)
    ≡ l.fn.lines.items ++ numbered_from (λ n. items.Method (record { 0 = n })) 0 l.count
