use Rattle.std.proofs.Common.{◌≡◌, map, drop}
use Rattle.edd_syntax.specs.Refusal.{is_name_in}
use Rattle.edd_duplicates.proofs.seen.among.Given as goal

-- the names so far are others
abbrev pub invariant-loop-mark : goal.invariant-loop-mark
invariant-loop-mark l = is_name_in (map (λ m. m.name.now) (drop l.mark-index l.marks)) l.name
    ≡ is_name_in (map (λ m. m.name.now) l.marks) l.name
