use Rattle.std.proofs.Common.{◌∙◌}
use Rattle.edd_image.specs.Contents.{contents_in}
use Rattle.edd_script.proofs.NameLaws.{variable_found, none_found, other_found}
use Rattle.edd_script.proofs.said.variable.Goals as goal

pub returns-in_err-number : goal.returns-in_err-number
returns-in_err-number c = c.from_residual.ensures
    ∙ none_found (contents_in c.args.image.now) c.args.name.now c.in_err-number.ensures.complete

pub returns-in-Variable : goal.returns-in-Variable
returns-in-Variable c =
    let sound = rw c.in-Variable.is at c.in_ok-number.ensures.sound in
    let first = rw c.in-Variable.is at c.in_ok-number.ensures.first in
    variable_found (contents_in c.args.image.now) c.args.name.now c.in-Variable.number sound first

pub returns-in_default : goal.returns-in_default
returns-in_default c = other_found (contents_in c.args.image.now) c.args.name.now
    c.in_ok-number.field-0 c.in_default.not-Variable c.in_ok-number.ensures.first
