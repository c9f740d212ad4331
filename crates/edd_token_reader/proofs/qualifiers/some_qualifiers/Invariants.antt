use Rattle.std.proofs.Common.{length}
use Rattle.edd_token_reader.proofs.QualifierLoops.{IsRead}
use Rattle.edd_token_reader.proofs.qualifiers.some_qualifiers.Given as goal

-- the qualifiers are those of the names so far
abbrev pub invariant-loop-name : goal.invariant-loop-name
invariant-loop-name g l = IsRead g.Q.QualifierSet.allowed g.Q.QualifierSet.among l.all l.cursor
    l.fn.cursor

abbrev pub decreases-loop-name : goal.decreases-loop-name
decreases-loop-name g l = length l.cursor
