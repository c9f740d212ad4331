use Rattle.std.proofs.Common.{subst, sym}
use Rattle.edd_syntax.specs.declared.item.DataItem.{DataItem}
use Rattle.edd_syntax.specs.declared.reference.Target.{Target}
use Rattle.edd_syntax.specs.Attributes.{data_item}
use Rattle.edd_syntax.specs.ItemView.{numbered_data_item}
use Rattle.edd_attrs.specs.Writing.{WritesRecord}
use Rattle.edd_attrs.proofs.elements.DataItemTargetElement.write.Goals as goal

pub returns-in_ok-write_constant-in-Constant-clause-sound :
    goal.returns-in_ok-write_constant-in-Constant-clause-sound
returns-in_ok-write_constant-in-Constant-clause-sound c =
    subst (λ (d : DataItem Target). WritesRecord c.args._table.now c.args.code.now
    (data_item (numbered_data_item d)) c.args._table.now c.write_constant.new.code)
    (sym c.in-Constant.is) (c.in_ok-write_constant-in-Constant.ensures c.args._table.now)

pub returns-in_ok-write_variable-in-Variable-clause-sound :
    goal.returns-in_ok-write_variable-in-Variable-clause-sound
returns-in_ok-write_variable-in-Variable-clause-sound c =
    subst (λ (d : DataItem Target). WritesRecord c.args._table.now c.args.code.now
    (data_item (numbered_data_item d)) c.args._table.now c.write_variable.new.code)
    (sym c.in-Variable.is) (c.in_ok-write_variable-in-Variable.ensures c.args._table.now)
