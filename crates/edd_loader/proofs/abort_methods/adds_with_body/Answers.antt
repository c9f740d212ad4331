use Rattle.std.proofs.Common.{◌∙◌}
use Rattle.edd_loader.proofs.AddedMethods.{row_tells}
use Rattle.edd_loader.proofs.abort_methods.adds_with_body.Goals as goal

pub returns-in-AddAbortMethod : goal.returns-in-AddAbortMethod
returns-in-AddAbortMethod c = rw c.in-AddAbortMethod.is (c.is_some.ensures
    ∙ row_tells c.args.bytes.now _ c.body_row.result c.body_row.ensures.row)
