-- Code that does what a body does under one table of strings does so under each that holds the same
-- strings by the same numbers.
use Rattle.std.proofs.Common.{◌≡◌, ℕ, List, [], ◌∷◌, Option, Some}
use Rattle.edd_syntax.specs.declared.numbers.StrNo.{StrNo}
use Rattle.edd_syntax.specs.Words.{Words}
use Rattle.edd_syntax.specs.DeviceValues.{VariableType}
use Rattle.edd_syntax.specs.MethodState as source
use Rattle.edd_syntax.specs.Execution.{Transcript}
use Rattle.edd_instructions.specs.declared.requests.Request.{Request}
use Rattle.edd_instructions.specs.declared.requests.RequestArgument.{RequestArgument}
use Rattle.edd_instructions.specs.declared.requests.RequestArgument.TheVariants as argument
use Rattle.edd_instructions.specs.Requests.{arguments_asked}
use Rattle.edd_instructions.specs.Execution.{Outcome, preceded}
use Rattle.edd_instructions.specs.MethodAgreement.{SameArgument, SameArguments, SameRequest, SameRequests, SameOutcome, FollowsBody}

module _ (f g : StrNo → Option Words) (kept : (n : StrNo) (w : Words) → f n ≡ Some w → g n ≡ Some w)
  where
    argument_kept : (x : source.RequestArgument) (r : RequestArgument) → SameArgument f x r
        → SameArgument g x r
    argument_kept (source.TextArgument text) (argument.Text n) h = kept n text h
    argument_kept (source.NumberArgument z) (argument.Number n) h = h
    argument_kept (source.VariableArgument v) (argument.Variable n) h = h
    argument_kept _ _ h = absurd h

    arguments_kept : (xs : List source.RequestArgument) (rs : List RequestArgument)
        → SameArguments f xs rs → SameArguments g xs rs
    arguments_kept [] [] h = h
    arguments_kept [] (r ∷ rs) h = h
    arguments_kept (x ∷ xs) [] h = h
    arguments_kept (x ∷ xs) (r ∷ rs) h = (argument_kept x r h.0, arguments_kept xs rs h.1)

    request_kept : (x : source.Request) (r : Request) → SameRequest f x r → SameRequest g x r
    request_kept x r h = (h.0, arguments_kept x.arguments (arguments_asked r) h.1)

    requests_kept : (xs : List source.Request) (rs : List Request) → SameRequests f xs rs
        → SameRequests g xs rs
    requests_kept [] [] h = h
    requests_kept [] (r ∷ rs) h = h
    requests_kept (x ∷ xs) [] h = h
    requests_kept (x ∷ xs) (r ∷ rs) h = (request_kept x r h.0, requests_kept xs rs h.1)

    outcome_kept : (t : Transcript) {o : Outcome} → SameOutcome f t o → SameOutcome g t o
    outcome_kept t {o} h = record {
      requests = requests_kept t.requests o.requests h.requests;
      changes = h.changes;
      values = h.values;
      abort_methods = h.abort_methods;
      answers = h.answers;
      ending = h.ending;
    }

-- so does code, where both hold the same strings
pub follows_kept : (f g : StrNo → Option Words)
    → ((n : StrNo) (w : Words) → f n ≡ Some w → g n ≡ Some w)
    → ((n : StrNo) (w : Words) → g n ≡ Some w → f n ≡ Some w)
    → (types : List VariableType) (body : ℕ → source.State → Transcript)
    (machine : ℕ → source.State → Outcome)
    → FollowsBody f types body machine → FollowsBody g types body machine
follows_kept f g kept back types body machine follows s before valid asked n =
    let h = follows s before valid (requests_kept g f back s.requests before asked) n in
    (h.0, h.1, outcome_kept f g kept (body n s) h.2)
