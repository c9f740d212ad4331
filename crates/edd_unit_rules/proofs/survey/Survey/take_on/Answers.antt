use Rattle.std.proofs.Common.{◌≡◌, ◌-◌, ◌∙◌, ap, sym}
use Rattle.edd_instructions.specs.Units.{leaves, takes}
use Rattle.edd_unit_rules.specs.declared.survey.Survey.{Survey}
use Rattle.edd_unit_rules.specs.Marks.{brought}
use Rattle.edd_unit_rules.proofs.JumpLaws.{brought_onward}
use Rattle.edd_unit_rules.proofs.survey.Survey.take_on.Goals as goal

pub returns-clause-brought : goal.returns-clause-brought
returns-clause-brought c = λ _ agrees.
    let kept : c.keep_place.new.self.agrees ≡ c.jump-2.new.self.agrees =
    ap (λ (s : Survey). s.agrees) c.keep_place.ensures in
    ap (λ (s : Survey). brought s.goes_on s.depth) c.keep_place.ensures
    ∙ ap (λ (s : Survey). brought s.goes_on s.depth) c.jump-2.ensures.others
    ∙ c.bring.ensures.brought (c.jump-2.ensures.kept (sym kept ∙ agrees))
    ∙ rw (c.onward.ensures, c.saturating_sub-rest.ensures, c.takes-takes.ensures)
    (brought_onward (c.args.depth - takes c.args.instruction) c.args.next
    (leaves c.args.instruction))
