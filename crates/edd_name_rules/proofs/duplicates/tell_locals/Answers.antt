use Rattle.std.proofs.Common.{arith}
use Rattle.edd_name_rules.specs.NamesTold.{local_told, with_local}
use Rattle.edd_name_rules.proofs.Walking.{walks_from, walks_on, walks_all, has_seen_all}
use Rattle.edd_name_rules.proofs.duplicates.tell_locals.Goals as goal

pub loop-declarator-init : goal.loop-declarator-init
loop-declarator-init c = λ before h. walks_from local_told with_local before c.args.block.now c.args.told.now.items
    c.args.declarators.now h

pub loop-declarator-preserved : goal.loop-declarator-preserved
loop-declarator-preserved c = λ before h.
    walks_on local_told with_local before c.loop-declarator.block c.tell_local.new.block c.args.told.now.items
    c.loop-declarator.told.items c.tell_local.new.told.items c.loop-declarator.declarator-index c.args.declarators.now
    c.declarator-item.result (omega arith) c.declarator-item.is c.in_ok-tell_local.ensures.told
    c.in_ok-tell_local.ensures.known (c.loop-declarator.invariant before h)

pub returns-clause-told : goal.returns-clause-told
returns-clause-told c = λ before h.
    walks_all local_told with_local before c.loop-declarator.block c.args.told.now.items c.loop-declarator.told.items
    c.loop-declarator.declarator-index c.args.declarators.now (omega arith) (c.loop-declarator.invariant before h)

pub returns-clause-known : goal.returns-clause-known
returns-clause-known c = λ before h.
    has_seen_all local_told with_local before c.loop-declarator.block c.args.told.now.items c.loop-declarator.told.items
    c.loop-declarator.declarator-index c.args.declarators.now (omega arith) (c.loop-declarator.invariant before h)
