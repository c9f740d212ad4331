use Rattle.std.proofs.Common.{◌≡◌, [], ◌∷◌}
use Rattle.std.specs.Option.{option_or}
use Rattle.std.specs.Str.{bytes_eq}
use Rattle.edd_syntax.specs.ItemView.{member_of}
use Rattle.edd_syntax.specs.Text.{Name}
use Rattle.edd_syntax.specs.TreeView.{path_of}
use Rattle.edd_name_meanings.specs.Members.{member_named}
use Rattle.edd_name_meanings.proofs.Gathering.{found_up_to}
use Rattle.edd_name_meanings.proofs.members.add_members.Given as goal

-- the map has what it had, and the members so far
abbrev pub invariant-loop-member : goal.invariant-loop-member
invariant-loop-member l = (q : Name) → member_named q l.into ≡ option_or (member_named q l.fn.into)
    (found_up_to (member_of path_of) (λ m. m ∷ []) (λ m. bytes_eq m.name q) l.member-index
    l.members)
