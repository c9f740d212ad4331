use Rattle.edd_assembly.specs.Assembly.{names_of, assembled}
use Rattle.edd_assembly.proofs.Cutting.{names_cut, strings_cut, code_cut}
use Rattle.edd_assembly.proofs.TypesRead.{types_read}
use Rattle.edd_assembly.proofs.laws.sections_are_read.Goals as goal

pub returns-clause-names : goal.returns-clause-names
unfolding assembled
returns-clause-names c unit lowered strings = names_cut (names_of unit.items)

pub returns-clause-strings : goal.returns-clause-strings
unfolding assembled
returns-clause-strings c unit lowered strings = strings_cut strings

pub returns-clause-code : goal.returns-clause-code
unfolding assembled
returns-clause-code c unit lowered strings = code_cut lowered

pub returns-clause-types : goal.returns-clause-types
unfolding assembled
returns-clause-types c unit lowered strings = types_read unit.items
