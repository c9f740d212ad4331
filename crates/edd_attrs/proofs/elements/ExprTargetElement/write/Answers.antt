use Rattle.edd_syntax.specs.TreeView.{numbered_expr}
use Rattle.edd_attrs.proofs.Written.{value_written}
use Rattle.edd_attrs.proofs.elements.ExprTargetElement.write.Goals as goal

pub returns-clause-sound : goal.returns-clause-sound
returns-clause-sound c =
    value_written c.args._table.now c.args.code.now c.write_expression.new.code c.put.new.code
    (numbered_expr c.args.self.now) c.in_ok-write_expression.ensures c.in_ok-put.ensures.code
