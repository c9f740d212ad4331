use Rattle.edd_lexer.proofs.Worked.{hex_example, pressure_example, number_example, escape_example, directive_example}
use Rattle.edd_lexer.proofs.laws.worked_texts.Goals as goal

pub returns-clause-hex : goal.returns-clause-hex
returns-clause-hex c = hex_example

pub returns-clause-number : goal.returns-clause-number
returns-clause-number c = number_example

pub returns-clause-escape : goal.returns-clause-escape
returns-clause-escape c = escape_example

pub returns-clause-directive : goal.returns-clause-directive
returns-clause-directive c = directive_example

pub returns-clause-pressure : goal.returns-clause-pressure
returns-clause-pressure c = pressure_example
