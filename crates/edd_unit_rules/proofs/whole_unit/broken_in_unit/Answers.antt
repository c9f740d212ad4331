use Rattle.std.proofs.Common.{◌≡◌, ℕ, true, None, refl, sym, ◌∙◌}
use Rattle.edd_unit_rules.specs.declared.survey.Survey.{Survey}
use Rattle.edd_unit_rules.specs.Marks.{is_settled, mark_at}
use Rattle.edd_unit_rules.specs.Walks.{IsSurveyOf}
use Rattle.edd_unit_rules.proofs.SurveyEnds.{survey_chains, survey_lands, survey_agrees, survey_names}
use Rattle.edd_unit_rules.proofs.Walks.{some_bytes}
use Rattle.edd_unit_rules.proofs.whole_unit.broken_in_unit.Goals as goal

pub returns : goal.returns
returns c =
    let context = c.args.context in
    let code = c.args.code.now in
    let w = c.in_ok-walk.walk in
    -- a survey of the whole unit, which has nothing to add
    let s : Survey = record {
      marks = w.marks;
      goes_on = w.goes_on;
      depth = w.depth;
      leads = true;
      agrees = true;
      names = true;
      misfit = None;
      unnamed = None;
    } in
    let seen : IsSurveyOf context code s = record {
      some = some_bytes _ (sym c.is_empty.ensures ∙ c.if-is_empty.false);
      place = c.in_ok-walk.place;
      past = c.if-place-code.false;
      walk = c.in_ok-walk.ensures.walk;
    } in
    let settled : (q : ℕ) → is_settled (mark_at s.marks.items q) ≡ true =
    rw c.deref.ensures.value at (c.are_settled.ensures.0 c.if-not-are_settled.false) in
    let land = survey_lands context code s seen refl c.if-walk.false settled in
    record {
      chain = survey_chains context code s seen;
      jumps = land;
      depths = (survey_agrees context code s seen land).0 refl;
      references = sym (survey_names context code s seen);
    }
