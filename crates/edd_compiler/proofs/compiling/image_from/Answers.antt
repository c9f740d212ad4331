use Rattle.std.proofs.Common.{subst, sym}
use Rattle.std.proofs.lemmas.Result.{err_from_is_err_and}
use Rattle.edd_code.specs.Units.{description_of}
use Rattle.edd_compiler.specs.Faults.{Explains}
use Rattle.edd_compiler.proofs.CompiledTexts.{is_image, explained, of_good, of_bad}
use Rattle.edd_compiler.proofs.compiling.image_from.Goals as goal

pub returns-clause-sound : goal.returns-clause-sound
returns-clause-sound c text of = of_good c.write_image.result c.write_image.ensures.valid
    c.write_image.ensures.agrees c.write_image.ensures.few_strings
    (λ bytes valid agrees few. is_image text (description_of c.args.checked.now) of bytes.items
    valid agrees few)

pub returns-clause-refused : goal.returns-clause-refused
returns-clause-refused c text of = of_bad c.write_image.result c.write_image.ensures.refused
    (λ e same. subst (Explains text) (sym same) tt)

pub returns-in_err-lowering-clause-refused : goal.returns-in_err-lowering-clause-refused
returns-in_err-lowering-clause-refused c text of =
    let p = err_from_is_err_and c.from_residual.result c.from_residual.ensures.1 in rw (p.1, p.2)
    (explained text (description_of c.args.checked.now) of c.in_err-lowering.field-0.0
    c.in_err-lowering.ensures.refused)
