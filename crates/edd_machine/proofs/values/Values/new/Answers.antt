use Rattle.std.proofs.Common.{◌≡◌, true, false, ap, sym, ◌∙◌}
use Rattle.edd_image.specs.Fields.{counts_in}
use Rattle.edd_loader.proofs.RuleOrder.{has_header}
use Rattle.edd_loader.proofs.VariableTypes.{types_counted}
use Rattle.edd_machine.proofs.values.Values.new.Goals as goal

pub variable_count-requires : goal.variable_count-requires
variable_count-requires c = has_header _ _ c.bytes-bytes.ensures.sound c.bytes-bytes.ensures.valid

pub returns-then-numbers-variable_count-clause-refused :
    goal.returns-then-numbers-variable_count-clause-refused
returns-then-numbers-variable_count-clause-refused c =
    let counted = types_counted c.args.image.now c.bytes-bytes.ensures.valid in
    let count : c.variable_count.result ≡ (counts_in c.args.image.now).variables =
    c.variable_count.ensures ∙ ap (λ b. (counts_in b).variables) c.bytes-bytes.ensures.sound in
    λ e. c.if-numbers-variable_count.true (e ∙ counted ∙ sym count)

pub returns-then-not-are_values-clause-refused : goal.returns-then-not-are_values-clause-refused
returns-then-not-are_values-clause-refused c =
    let counted = types_counted c.args.image.now c.bytes-bytes.ensures.valid in
    let count : c.variable_count.result ≡ (counts_in c.args.image.now).variables =
    c.variable_count.ensures ∙ ap (λ b. (counts_in b).variables) c.bytes-bytes.ensures.sound in (
      c.if-numbers-variable_count.false ∙ count ∙ sym counted,
      (λ all. let contradiction : false ≡ true = sym c.if-not-are_values.true
          ∙ c.are_values.ensures.1 all in cc),
    )
