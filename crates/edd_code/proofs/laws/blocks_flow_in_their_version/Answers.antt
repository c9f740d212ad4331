use Rattle.edd_code.proofs.Versions.{in_its_version, names_in}
use Rattle.edd_code.proofs.laws.blocks_flow_in_their_version.Goals as goal

pub returns-clause-flows : goal.returns-clause-flows
returns-clause-flows c = in_its_version

pub returns-clause-named : goal.returns-clause-named
returns-clause-named c = names_in
