-- In an attribute the records so far are carried along, and a stop is a trap.
use Rattle.std.specs.Prelude.{ℤ, List, ◌++◌}
use Rattle.edd_syntax.specs.declared.answer.Trap.{Trap}
use Rattle.edd_instructions.specs.declared.records.Record.{Record}
use Rattle.edd_instructions.specs.declared.instruction.Instruction.{Instruction}
use Rattle.edd_instructions.specs.Steps.{Environment}
use Rattle.edd_code.specs.Blocks.{Block}
use Rattle.edd_code.specs.Outcomes as attribute
use Rattle.edd_code.specs.BlockEffects as blocks
use Rattle.edd_code.specs.BlockEffects.{Outcome, Goes, Stops, Stuck}

-- with these records so far
abbrev pub after_records : List Record → attribute.Outcome → Outcome (List Record) Trap
after_records given (attribute.Goes records operands) = Goes operands (given ++ records)
after_records given (attribute.Traps why) = Stops why
after_records given attribute.Stuck = Stuck

module _ (env : Environment) (values : List ℤ) where
  -- what a straight instruction results in
  abbrev pub does_one : Instruction → List ℤ → List Record → Outcome (List Record) Trap
  does_one i operands given = after_records given (attribute.does_one env values i operands)

  -- what a block results in with these operands in front of it and these records so far
  abbrev pub does : Block → List ℤ → List Record → Outcome (List Record) Trap
  does b operands given = blocks.does does_one b operands given
