use Rattle.std.proofs.Common.{◌≤◌, ◌∙◌, pos, replicate, Some, refl, sym, ap, subst}
use Rattle.std.proofs.lemmas.List.{take-replicate}
use Rattle.edd_instructions.specs.Steps.{opening}
use Rattle.edd_machine.specs.declared.code_unit.CodeUnit.{CodeUnit}
use Rattle.edd_machine.specs.Running.{running_unit}
use Rattle.edd_embed.proofs.Standing.{begins}
use Rattle.edd_embed.proofs.running.at_start.Goals as goal

pub returns-clause-stands : goal.returns-clause-stands
returns-clause-stands c = λ b values row found unit. begins b
    (record {
      taken = 0;
      place = 0;
      operands = replicate 128 (pos 0);
      slots = replicate 64 (pos 0);
      abort_methods = replicate 8 0;
      method = c.args.unit.item;
      operand_count = 0;
      abort_count = 0;
      is_aborting = 0;
      turn = c.plain_turn.result;
    }) values row found refl refl refl refl c.plain_turn.ensures
    (take-replicate _ 64 (pos 0) (subst (λ (u : CodeUnit). u.slots ≤ 64) unit c.requires))
    ∙ ap (λ (u : CodeUnit). Some (opening (running_unit b u) u.slots values)) (sym unit)
