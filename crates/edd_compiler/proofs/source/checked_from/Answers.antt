use Rattle.std.proofs.Common.{sym, ap, ◌∙◌, Some}
use Rattle.std.proofs.lemmas.Result.{err_from_is_err_and}
use Rattle.edd_syntax.specs.ItemView.{identification_of, numbered_items}
use Rattle.edd_syntax.specs.Resolved.{description}
use Rattle.edd_syntax.specs.SubsetRules.{subset_breaches}
use Rattle.edd_parser.specs.Units.{unit_view}
use Rattle.edd_compiler.proofs.Refused.{name_refused, type_refused}
use Rattle.edd_compiler.proofs.source.checked_from.Goals as goal

pub returns-in_err-resolved-clause-refused : goal.returns-in_err-resolved-clause-refused
returns-in_err-resolved-clause-refused c text of =
    let p = err_from_is_err_and c.from_residual.result c.from_residual.ensures.1 in rw (p.1, p.2)
    (name_refused text (unit_view c.args.unit.now) of
    c.in_err-resolved.field-0.0 c.in_err-resolved.ensures.refused)

pub returns-in_err-check-clause-refused : goal.returns-in_err-check-clause-refused
returns-in_err-check-clause-refused c text of =
    let p = err_from_is_err_and c.from_residual-in_err-check.result
    c.from_residual-in_err-check.ensures.1 in rw (p.1, p.2)
    (type_refused text (unit_view c.args.unit.now) of
    (description (identification_of c.in_ok-resolved.resolved.identification)
    (numbered_items c.in_ok-resolved.resolved.items.value.items))
    c.in_ok-resolved.ensures.sound c.in_ok-resolved.ensures.accepted
    c.in_err-check.field-0.0 c.in_err-check.ensures.refused)

pub returns-clause-sound : goal.returns-clause-sound
returns-clause-sound c text of =
    let same = ap (λ i. description (identification_of i)
    (numbered_items c.in_ok-check.field-0.items.value.items))
    c.in_ok-check.ensures.identification
    ∙ ap (λ items. description (identification_of c.in_ok-resolved.resolved.identification)
    (numbered_items items.items)) c.in_ok-check.ensures.items in (
      record {
        is_resolved = record {
          unit = unit_view c.args.unit.now;
          well_formed = c.args.unit.now.kept;
          meanings = c.in_ok-resolved.ensures.sound ∙ ap Some (sym same);
          no_breach = c.in_ok-resolved.ensures.accepted;
        };
        no_breach = ap subset_breaches same ∙ c.in_ok-check.ensures.accepted;
      },
      of,
    )
