use Rattle.edd_code.proofs.FewNodes.{few_nodes}
use Rattle.edd_code.proofs.UnitNodes.{unit_keeps}
use Rattle.edd_assembly.proofs.bounds.nodes_stay.Goals as goal

pub returns-clause-same : goal.returns-clause-same
returns-clause-same c unit resolved h = unit_keeps unit resolved h

pub returns-clause-few : goal.returns-clause-few
returns-clause-few c unit checked = few_nodes unit checked
