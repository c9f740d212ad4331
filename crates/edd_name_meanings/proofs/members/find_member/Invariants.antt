use Rattle.std.proofs.Common.{◌≡◌, map, drop}
use Rattle.std.specs.Prelude.{find}
use Rattle.std.specs.Str.{bytes_eq}
use Rattle.edd_syntax.specs.ItemView.{member_of}
use Rattle.edd_syntax.specs.TreeView.{path_of}
use Rattle.edd_name_meanings.proofs.members.find_member.Given as goal

-- the members so far have other names
abbrev pub invariant-loop-member : goal.invariant-loop-member
invariant-loop-member l =
    find (λ m. bytes_eq m.name l.name) (map (member_of path_of) (drop l.member-index l.members))
    ≡ find (λ m. bytes_eq m.name l.name) (map (member_of path_of) l.members)
