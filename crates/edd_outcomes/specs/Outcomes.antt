-- What comes of the tests of a run, and which outcomes are counted as what.
use Rattle.std.specs.Prelude.{Bool, true, false}
use Rattle.edd_cases.specs.declared.settings.Form.{Form}
use Rattle.edd_cases.specs.declared.settings.Form.TheVariants as form
use Rattle.edd_outcomes.specs.declared.score.Outcome.{Outcome}
use Rattle.edd_outcomes.specs.declared.score.Outcome.TheVariants as outcome

-- A test that has met what it expects passes, and another one fails; but with `--update` one with `=`
-- is written anew in place of that.
abbrev pub outcome_of : (is_update : Bool) → Form → (is_met : Bool) → Outcome
outcome_of is_update f true = outcome.Passed
outcome_of true form.Whole false = outcome.Updated
outcome_of true form.Parts false = outcome.Failed
outcome_of false f false = outcome.Failed

-- a test that passed: it has met what it expects, or was written anew
abbrev pub is_passed : Outcome → Bool
is_passed outcome.Passed = true
is_passed outcome.Updated = true
is_passed outcome.Failed = false
is_passed outcome.LeftOut = false
is_passed outcome.Refused = false

-- a test that failed
abbrev pub is_failed : Outcome → Bool
is_failed outcome.Failed = true
is_failed _ = false

-- a test that a filter leaves out
abbrev pub is_left_out : Outcome → Bool
is_left_out outcome.LeftOut = true
is_left_out _ = false

-- a file that is refused
abbrev pub is_refused : Outcome → Bool
is_refused outcome.Refused = true
is_refused _ = false
