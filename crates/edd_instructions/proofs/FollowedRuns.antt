-- A machine that comes along with the source agrees with it in all three directions.
use Rattle.std.proofs.Common.{subst, ℕ, ◌≤◌, ℤ, List, Option}
use Rattle.std.specs.List.{AllByRecursion}
use Rattle.edd_syntax.specs.declared.numbers.StrNo.{StrNo}
use Rattle.edd_syntax.specs.Words.{Words}
use Rattle.edd_syntax.specs.Answers.{Answer, IsValidAnswer}
use Rattle.edd_syntax.specs.DeviceValues.{VariableType, AreDeviceValues}
use Rattle.edd_syntax.specs.Execution.{Transcript}
use Rattle.edd_instructions.specs.Steps.{State, Environment}
use Rattle.edd_instructions.specs.Execution.{Outcome, execute_following}
use Rattle.edd_instructions.specs.MethodAgreement.{SameOutcome, AgreesOnRuns}
use Rattle.edd_instructions.proofs.StaysOver.{stays_over_following}

module _ (string_numbered : StrNo → Option Words) (types : List VariableType) (source : ℕ → List ℤ
    → List Answer → Transcript) (follow : State → State) (env : Environment)
    (start : List ℤ → State) where
  pub follows_agrees : ((values : List ℤ) (answers : List Answer) → AreDeviceValues types values
      → AllByRecursion (IsValidAnswer types) answers
      → (n : ℕ) → (k : ℕ) × (n ≤ k) × SameOutcome string_numbered (source n values answers)
      (execute_following follow env k (start values) answers))
      → AgreesOnRuns string_numbered types source
      (λ k values answers. execute_following follow env k (start values) answers)
  follows_agrees follows = record {
    forward = λ values answers are valid n over. let k =
        follows values answers are valid n in (k.0, k.2);
    backward = λ values answers are valid k over.
        let m = follows values answers are valid k in (
          k,
          subst (λ (o : Outcome). SameOutcome string_numbered (source k values answers) o)
              (stays_over_following follow env k m.0 m.1 (start values) answers over) m.2,
        );
    in_progress = λ values answers are valid n out. follows values answers are valid n;
  }
