-- What a walk that goes on after breaches has seen at the end.
use Rattle.std.proofs.Common.{◌≡◌, IsTrue, ℕ, true, false, List, sym, ap, ◌∙◌}
use Rattle.std.specs.Prelude.{is_some}
use Rattle.edd_instructions.specs.declared.unit.Context.{Context}
use Rattle.edd_instructions.specs.Units.{HasDepths, all_exist, all_land, instructions, is_chain}
use Rattle.edd_unit_rules.specs.declared.survey.Survey.{Survey}
use Rattle.edd_unit_rules.specs.Marks.{is_settled, mark_at}
use Rattle.edd_unit_rules.specs.Walks.{IsSurveyOf}
use Rattle.edd_unit_rules.proofs.WalkEnds.{chain_kept, ways_land, ways_lead, depths_seen, names_seen}
use Rattle.edd_unit_rules.proofs.WalkStarts.{brings_nothing, brings_some}

module _ (context : Context) (code : List ℕ) (s : Survey) (h : IsSurveyOf context code s) where
  pub survey_chains : IsTrue (is_chain context code)
  survey_chains = chain_kept context code _ _ h.place _ _ _ h.walk h.some h.past

  pub survey_lands : s.leads ≡ true → s.goes_on ≡ false
      → ((q : ℕ) → is_settled (mark_at s.marks.items q) ≡ true)
      → all_land context (instructions code) ≡ true
  survey_lands leads stops settled = ways_land context code _ _ h.place _ _ _ h.walk h.past leads
      (brings_nothing s.goes_on s.depth stops) settled

  pub survey_leads : all_land context (instructions code) ≡ true
      → (s.leads ≡ true) × (s.goes_on ≡ false)
      × ((q : ℕ) → is_settled (mark_at s.marks.items q) ≡ true)
  survey_leads land =
      let seen = ways_lead context code _ _ h.place _ _ _ h.walk h.past land in
      (seen.0, sym (brings_some s.goes_on s.depth) ∙ ap is_some seen.1, seen.2)

  pub survey_agrees : all_land context (instructions code) ≡ true
      → (s.agrees ≡ true → HasDepths (instructions code)) × (HasDepths (instructions code)
      → s.agrees ≡ true)
  survey_agrees land = depths_seen context code _ _ h.place _ _ _ h.walk h.past land

  pub survey_names : s.names ≡ all_exist context (instructions code)
  survey_names = names_seen context code _ _ h.place _ _ _ h.walk h.past
