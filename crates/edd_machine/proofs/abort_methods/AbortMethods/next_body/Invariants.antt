use Rattle.std.proofs.Common.{◌≡◌, length}
use Rattle.edd_instructions.specs.AbortMethods.{start_in, start_listed}
use Rattle.edd_image.specs.Contents.{contents_in}
use Rattle.edd_instructions.specs.Steps.{State}
use Rattle.edd_machine.proofs.abort_methods.AbortMethods.next_body.Given as goal

abbrev pub invariant-loop-method : goal.invariant-loop-method
invariant-loop-method l =
    (s : State) → start_listed (start_in (contents_in l.image)) l.fn.self s
    ≡ start_listed (start_in (contents_in l.image)) l.self s

abbrev pub decreases-loop-method : goal.decreases-loop-method
decreases-loop-method l = length l.self
