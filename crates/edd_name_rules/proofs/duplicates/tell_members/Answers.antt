use Rattle.std.proofs.Common.{arith}
use Rattle.edd_name_rules.specs.NamesTold.{member_told, with_member}
use Rattle.edd_name_rules.proofs.Walking.{walks_from, walks_on, walks_all, has_seen_all}
use Rattle.edd_name_rules.proofs.duplicates.tell_members.Goals as goal

pub loop-member-init : goal.loop-member-init
loop-member-init c = λ before h. walks_from member_told with_member before c.args.seen.now c.args.told.now.items
    c.args.members.now h

pub loop-member-preserved : goal.loop-member-preserved
loop-member-preserved c = λ before h.
    walks_on member_told with_member before c.loop-member.seen c.tell_member.new.seen c.args.told.now.items
    c.loop-member.told.items c.tell_member.new.told.items c.loop-member.member-index c.args.members.now
    c.member-item.result (omega arith) c.member-item.is c.in_ok-tell_member.ensures.told
    c.in_ok-tell_member.ensures.known (c.loop-member.invariant before h)

pub returns-clause-told : goal.returns-clause-told
returns-clause-told c = λ before h.
    walks_all member_told with_member before c.loop-member.seen c.args.told.now.items c.loop-member.told.items
    c.loop-member.member-index c.args.members.now (omega arith) (c.loop-member.invariant before h)

pub returns-clause-known : goal.returns-clause-known
returns-clause-known c = λ before h.
    has_seen_all member_told with_member before c.loop-member.seen c.args.told.now.items c.loop-member.told.items
    c.loop-member.member-index c.args.members.now (omega arith) (c.loop-member.invariant before h)
