use Rattle.std.proofs.Common.{◌∙◌, length, take, sym, ap, refl, ℕ}
use Rattle.edd_machine.specs.AbortLists.{methods_of}
use Rattle.edd_embed.specs.Sessions.{plain_turn}
use Rattle.edd_embed.proofs.Standing.{written}
use Rattle.edd_embed.proofs.keeping.keep.Goals as goal

pub returns-clause-stands : goal.returns-clause-stands
returns-clause-stands c = λ b values row found unit. written b
    (record {
      taken = c.args.session.now.taken;
      place = c.args.machine.now.place;
      operands = c.write_numbers.new.room;
      slots = c.write_numbers-2.new.room;
      abort_methods = c.write_methods.new.room;
      method = c.args.machine.now.unit.item;
      operand_count = length c.numbers-operands.result.now;
      abort_count = length c.numbers-methods.result.now;
      is_aborting = c.flag_number-session.result;
      turn = c.plain_turn-session.result;
    }) c.args.machine.now values
    (record {
      method = refl;
      place = refl;
      operands = c.write_numbers.ensures ∙ c.numbers-operands.ensures.numbers;
      operand_count = c.numbers-operands.ensures.room;
      slots = ap (λ (n : ℕ). take n c.write_numbers-2.new.room)
          (sym c.requires.slot_count ∙ ap length (sym c.as_slice.ensures.value))
          ∙ c.write_numbers-2.ensures ∙ c.as_slice.ensures.value;
      methods = ap methods_of c.write_methods.ensures ∙ c.numbers-methods.ensures.methods;
      abort_count = c.numbers-methods.ensures.room;
      aborting = c.flag_number-session.ensures;
      turn = c.plain_turn-session.ensures
          ∙ ap (λ t. plain_turn t) c.turn_of.ensures;
    }) row found unit
