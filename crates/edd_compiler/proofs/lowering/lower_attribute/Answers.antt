use Rattle.std.proofs.Common.{sym, subst, ◌⊎◌, List}
use Rattle.std.specs.Prelude.{◌↔◌}
use Rattle.std.specs.List.{Contains}
use Rattle.edd_syntax.specs.Words.{Words}
use Rattle.edd_code.specs.Units.{description_of}
use Rattle.edd_compiler.proofs.RowCodes.{attribute_code, attribute_strings}
use Rattle.edd_compiler.proofs.lowering.lower_attribute.Goals as goal

pub returns-clause-code : goal.returns-clause-code
returns-clause-code c =
    attribute_code (description_of c.args.checked.now) c.args.listed.now.row c.requires.no_body
    c.lower_found.new.table c.in_ok-code.code.items c.in_ok-code.ensures.sound
    c.in_ok-code.ensures.size

pub returns-clause-strings : goal.returns-clause-strings
returns-clause-strings c w =
    subst (λ (ws : List Words). Contains c.lower_found.new.table w
    ↔ (Contains c.args.table.now w ⊎ Contains ws w))
    (sym (attribute_strings (description_of c.args.checked.now) c.args.listed.now.row c.requires.no_body))
    (c.in_ok-code.ensures.strings w)
