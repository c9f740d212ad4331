use Rattle.std.proofs.Common.{◌≡◌, ◌++◌, take}
use Rattle.edd_methods.specs.Writing.{tests_of}
use Rattle.edd_methods.proofs.labels.write_tests.Given as goal

-- the tests of the cases so far are written
abbrev pub invariant-loop-case : goal.invariant-loop-case
invariant-loop-case l = l.code ≡ l.initial.code ++ tests_of (take l.case-index l.cases)
