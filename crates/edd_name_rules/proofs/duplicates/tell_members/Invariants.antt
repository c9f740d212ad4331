use Rattle.std.proofs.Common.{List}
use Rattle.edd_syntax.specs.Text.{Name}
use Rattle.edd_duplicates.specs.Seen.{HasSeen}
use Rattle.edd_name_rules.specs.NamesTold.{member_told, with_member}
use Rattle.edd_name_rules.proofs.Walking.{Walking}
use Rattle.edd_name_rules.proofs.duplicates.tell_members.Given as goal

-- what is there twice so far is told
abbrev pub invariant-loop-member : goal.invariant-loop-member
invariant-loop-member l = (before : List Name) → HasSeen before l.fn.seen
    → Walking member_told with_member before l.seen l.fn.told.items l.told.items l.member-index l.members
