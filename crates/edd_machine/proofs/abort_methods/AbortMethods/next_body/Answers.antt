use Rattle.std.proofs.Common.{List, refl, sym, ap, ◌∙◌}
use Rattle.edd_syntax.specs.declared.numbers.MethNo.{MethNo}
use Rattle.edd_instructions.specs.AbortMethods.{start_in, start_listed}
use Rattle.edd_image.specs.Contents.{contents_in}
use Rattle.edd_machine.proofs.Aborting.{first_starts}
use Rattle.edd_machine.proofs.abort_methods.AbortMethods.next_body.Goals as goal

pub loop-method-init : goal.loop-method-init
loop-method-init c = λ s. refl

pub returns-in-Some-find_body-clause-starts : goal.returns-in-Some-find_body-clause-starts
returns-in-Some-find_body-clause-starts c = λ s.
    c.loop-method.invariant s
    ∙ ap (λ (methods : List MethNo). start_listed (start_in (contents_in c.args.image.now)) methods
    s) c.in-Some.ensures.first
    ∙ first_starts c.args.image.now c.in-Some.method c.take_first.new.self s
    c.in-Some-find_body.unit c.find_body.ensures.valid
    (sym c.in-Some-find_body.is ∙ c.find_body.ensures.value)
