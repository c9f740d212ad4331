use Rattle.std.proofs.lemmas.Result.{err_from_is_err_and}
use Rattle.edd_compiler.proofs.AcceptedTexts.{memory_alone}
use Rattle.edd_compiler.proofs.CompiledTexts.{of_bad}
use Rattle.edd_compiler.proofs.compiling.compile.Goals as goal

pub returns-clause-sound : goal.returns-clause-sound
returns-clause-sound c =
    c.image_from.ensures.sound c.args.text.now c.in_ok-checked.ensures.sound

pub returns-clause-refused : goal.returns-clause-refused
returns-clause-refused c =
    c.image_from.ensures.refused c.args.text.now c.in_ok-checked.ensures.sound

pub returns-clause-complete : goal.returns-clause-complete
returns-clause-complete c unit of accepted =
    of_bad c.image_from.result
    (c.image_from.ensures.refused c.args.text.now c.in_ok-checked.ensures.sound)
    (memory_alone c.args.text.now unit (c.one_reading.ensures.one_list c.args.text.now)
    (c.one_reading.ensures.not_both c.args.text.now) c.one_tree.ensures of accepted)

pub returns-in_err-checked-clause-complete : goal.returns-in_err-checked-clause-complete
returns-in_err-checked-clause-complete c unit of accepted =
    let p = err_from_is_err_and c.from_residual.result c.from_residual.ensures.1 in rw (p.1, p.2)
    (memory_alone c.args.text.now unit (c.one_reading.ensures.one_list c.args.text.now)
    (c.one_reading.ensures.not_both c.args.text.now) c.one_tree.ensures of accepted
    c.in_err-checked.field-0.0 c.in_err-checked.ensures.refused)
