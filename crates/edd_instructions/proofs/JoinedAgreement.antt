-- Where the code of each method does what its body does, an image agrees with its description on
-- whole runs.
use Rattle.std.proofs.Common.{◌≡◌, ap, Some}
use Rattle.std.specs.Prelude.{option_map}
use Rattle.edd_syntax.specs.declared.numbers.MethNo.{MethNo}
use Rattle.edd_syntax.specs.declared.reference.Target.{Target}
use Rattle.edd_syntax.specs.Device.{environment}
use Rattle.edd_syntax.specs.Execution.{run}
use Rattle.edd_syntax.specs.Item.{Description}
use Rattle.edd_instructions.specs.AbortMethods.{next, start_at, start_in, execute_in}
use Rattle.edd_instructions.specs.Agreement.{string_numbered}
use Rattle.edd_image.specs.Contents.{Contents, AttributeFields}
use Rattle.edd_instructions.specs.MethodAgreement.{AgreesOnRuns, EachIsBody}
use Rattle.edd_instructions.specs.Reading.{environment_of, body_of, opening_of}
use Rattle.edd_instructions.proofs.FollowedRuns.{follows_agrees}
use Rattle.edd_instructions.proofs.JoinedRuns.{method_comes}

pub joined_agree : (unit : Description Target) (c : Contents) → EachIsBody unit c
    → (method : MethNo) (row : AttributeFields) → body_of c method ≡ Some row
    → AgreesOnRuns (string_numbered c) (environment unit).variables
    (λ n values answers. run n unit method values answers)
    (λ k values answers. execute_in c k (opening_of c row values) answers)
joined_agree unit c each method row found =
    follows_agrees (string_numbered c) (environment unit).variables
    (λ n values answers. run n unit method values answers) (next (start_in c)) (environment_of c)
    (opening_of c row)
    (λ values answers are valid n. method_comes (string_numbered c) unit (start_in c)
    (environment_of c) each method (start_at c row) (ap (option_map (start_at c)) found) n values
    answers valid)
