use Rattle.std.proofs.Common.{◌≡◌, map, take}
use Rattle.edd_syntax.proofs.checked.Checked.rows.Given as goal

-- the rows so far
abbrev pub invariant-loop-one : goal.invariant-loop-one
invariant-loop-one l = l.rows.items ≡ map (λ o. o.row) (take l.one-index l.one-items)
