use Rattle.std.proofs.Common.{◌≡◌, true, false, sym, ◌∙◌}
use Rattle.edd_machine.proofs.reading.attribute.Goals as goal

pub returns-then-not-are_of-clause-refused : goal.returns-then-not-are_of-clause-refused
returns-then-not-are_of-clause-refused c =
    c.fault_of_values.ensures c.args.values.now.numbers.items (λ are. let contradiction : false
    ≡ true = sym c.if-not-are_of.true ∙ c.are_of.ensures.1 are in cc)

pub attribute_of_device-requires : goal.attribute_of_device-requires
attribute_of_device-requires c = c.are_of.ensures.0 c.if-not-are_of.false
