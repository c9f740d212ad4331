use Rattle.std.proofs.Common.{◌≡◌, ℕ, true, false, sym, ◌∙◌}
use Rattle.edd_unit_rules.specs.Marks.{is_settled, mark_at}
use Rattle.edd_unit_rules.specs.Walks.{IsSurveyOf}
use Rattle.edd_unit_rules.proofs.SurveyEnds.{survey_chains, survey_lands, survey_leads, survey_agrees, survey_names}
use Rattle.edd_unit_rules.proofs.whole_unit.broken_from.Goals.{then-not-survey-via-then-not-survey, then-not-survey-via-else-not-survey+then-survey, then-not-survey-via-else-not-survey+else-survey+then-not-are_settled}
use Rattle.edd_unit_rules.proofs.whole_unit.broken_from.Goals as goal

pub returns-then-not-survey : goal.returns-then-not-survey
returns-then-not-survey c =
    let context = c.args.context in
    let code = c.args.code.now in
    let s = c.in-Ok.survey in
    let seen : IsSurveyOf context code s = rw c.in-Ok.is at c.surveyed.ensures.whole in (
      survey_chains context code s seen,
      λ land.
          let leads = survey_leads context code s seen land in
          elim c.then-not-survey.branch [
            | then-not-survey-via-then-not-survey w ↦ let never : false ≡ true =
                sym w.if-not-survey.true ∙ leads.0 in absurd cc
            | then-not-survey-via-else-not-survey+then-survey w ↦ let never : true ≡ false =
                sym w.if-survey.true ∙ leads.1 in absurd cc
            | then-not-survey-via-else-not-survey+else-survey+then-not-are_settled w ↦
                let all : (q : ℕ) → is_settled (mark_at w.deref.result.now q) ≡ true =
                rw w.deref.ensures.value leads.2 in
                let never : false ≡ true = sym w.if-not-are_settled.true
                ∙ w.are_settled.ensures.1 all in
                absurd cc
          ],
    )

pub returns-then-not-survey-2 : goal.returns-then-not-survey-2
returns-then-not-survey-2 c =
    let context = c.args.context in
    let code = c.args.code.now in
    let s = c.in-Ok.survey in
    let seen : IsSurveyOf context code s = rw c.in-Ok.is at c.surveyed.ensures.whole in
    let settled : (q : ℕ) → is_settled (mark_at s.marks.items q) ≡ true =
    rw c.deref.ensures.value at (c.are_settled.ensures.0 c.if-not-are_settled.false) in
    let land = survey_lands context code s seen c.if-not-survey.false c.if-survey.false settled in (
      survey_chains context code s seen,
      land,
      λ has. let never : false
          ≡ true = sym c.if-not-survey-2.true ∙ (survey_agrees context code s seen land).1
          has in absurd cc,
    )

pub returns-then-not-survey-3 : goal.returns-then-not-survey-3
returns-then-not-survey-3 c =
    let context = c.args.context in
    let code = c.args.code.now in
    let s = c.in-Ok.survey in
    let seen : IsSurveyOf context code s = rw c.in-Ok.is at c.surveyed.ensures.whole in
    let settled : (q : ℕ) → is_settled (mark_at s.marks.items q) ≡ true =
    rw c.deref.ensures.value at (c.are_settled.ensures.0 c.if-not-are_settled.false) in
    let land = survey_lands context code s seen c.if-not-survey.false c.if-survey.false settled in (
      survey_chains context code s seen,
      land,
      (survey_agrees context code s seen land).0
          c.if-not-survey-2.false,
      λ exist. let never : false ≡ true = sym c.if-not-survey-3.true
          ∙ survey_names context code s seen ∙ exist in absurd cc,
    )

pub returns : goal.returns
returns c =
    let context = c.args.context in
    let code = c.args.code.now in
    let s = c.in-Ok.survey in
    let seen : IsSurveyOf context code s = rw c.in-Ok.is at c.surveyed.ensures.whole in
    let settled : (q : ℕ) → is_settled (mark_at s.marks.items q) ≡ true =
    rw c.deref.ensures.value at (c.are_settled.ensures.0 c.if-not-are_settled.false) in
    let land = survey_lands context code s seen c.if-not-survey.false c.if-survey.false settled in
    record {
      chain = survey_chains context code s seen;
      jumps = land;
      depths = (survey_agrees context code s seen land).0 c.if-not-survey-2.false;
      references = sym (survey_names context code s seen) ∙ c.if-not-survey-3.false;
    }
