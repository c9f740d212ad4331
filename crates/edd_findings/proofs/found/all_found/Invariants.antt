-- What is said so far, and of those that are left.
use Rattle.std.proofs.Common.{◌≡◌, ◌++◌, drop, map}
use Rattle.edd_breaches.specs.Told.{told_of}
use Rattle.edd_findings.specs.Found.{said_in, said_of}
use Rattle.edd_findings.proofs.found.all_found.Given as goal

abbrev pub invariant-loop-breach : goal.invariant-loop-breach
invariant-loop-breach l = map said_of l.found.items
    ++ map (said_in l.text l.tokens) (map told_of (drop l.breach-index l.breaches))
    ≡ map (said_in l.text l.tokens) (map told_of l.breaches)
