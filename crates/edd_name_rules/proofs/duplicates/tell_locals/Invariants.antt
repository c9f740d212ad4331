use Rattle.std.proofs.Common.{List}
use Rattle.edd_syntax.specs.Text.{Name}
use Rattle.edd_duplicates.specs.Seen.{HasSeen}
use Rattle.edd_name_rules.specs.NamesTold.{local_told, with_local}
use Rattle.edd_name_rules.proofs.Walking.{Walking}
use Rattle.edd_name_rules.proofs.duplicates.tell_locals.Given as goal

-- what is there twice so far is told
abbrev pub invariant-loop-declarator : goal.invariant-loop-declarator
invariant-loop-declarator l = (before : List Name) → HasSeen before l.fn.block
    → Walking local_told with_local before l.block l.fn.told.items l.told.items l.declarator-index l.declarators
