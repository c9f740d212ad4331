use Rattle.std.proofs.Common.{arith, refl, sym, ◌∙◌}
use Rattle.edd_loader.proofs.LookupLaws.{typed, kind_is}
use Rattle.edd_loader.proofs.VariableTypes.{no_type, type_at_number}
use Rattle.edd_loader.proofs.RuleOrder.{has_header, valid_sections}
use Rattle.edd_loader.proofs.Spaces.{rooms}
use Rattle.edd_loader.proofs.lookups.variable_at.Goals as goal

pub variable_count-requires : goal.variable_count-requires
variable_count-requires c = has_header _ _ refl c.requires

pub variable_type-requires : goal.variable_type-requires
variable_type-requires c =
    omega (
      arith,
      rooms _ (valid_sections _ c.requires),
      c.variable_count.ensures,
      c.variable_rows_start.ensures.start,
    )

pub variable_size-size-requires : goal.variable_size-size-requires
variable_size-size-requires c =
    omega (
      arith,
      rooms _ (valid_sections _ c.requires),
      c.variable_count.ensures,
      c.variable_rows_start.ensures.start,
    )

pub returns-in_err-var_type-clause-exists : goal.returns-in_err-var_type-clause-exists
returns-in_err-var_type-clause-exists c =
    absurd (typed _ _ _ _ c.requires (omega (arith, c.variable_count.ensures))
    c.variable_rows_start.ensures.start c.variable_type.ensures
    (sym c.type_of.ensures ∙ c.in_err-var_type.was))

pub returns-clause-row : goal.returns-clause-row
returns-clause-row c = kind_is _ _ _ _ _ _ c.requires (omega (arith, c.variable_count.ensures))
    c.variable_rows_start.ensures.start c.variable_type.ensures (sym c.type_of.ensures
    ∙ c.in_ok-var_type.was)
    c.variable_size-size.ensures

pub returns-then-number-variable_count-clause-sound :
    goal.returns-then-number-variable_count-clause-sound
returns-then-number-variable_count-clause-sound c =
    no_type _ _ c.requires (omega (
      arith,
      c.variable_count.ensures,
      c.if-number-variable_count.true,
    ))

pub returns-in_err-var_type-clause-sound : goal.returns-in_err-var_type-clause-sound
returns-in_err-var_type-clause-sound c =
    absurd (typed _ _ _ _ c.requires (omega (arith, c.variable_count.ensures))
    c.variable_rows_start.ensures.start c.variable_type.ensures
    (sym c.type_of.ensures ∙ c.in_err-var_type.was))

pub returns-clause-sound : goal.returns-clause-sound
returns-clause-sound c = sym (type_at_number _ _ _ c.requires
    (kind_is _ _ _ _ _ _ c.requires (omega (arith, c.variable_count.ensures))
    c.variable_rows_start.ensures.start c.variable_type.ensures
    (sym c.type_of.ensures ∙ c.in_ok-var_type.was) c.variable_size-size.ensures))

pub variable_rows_start-requires : goal.variable_rows_start-requires
variable_rows_start-requires c = has_header _ _ refl c.requires
