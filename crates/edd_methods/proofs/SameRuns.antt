-- A unit that follows the source does what it does, after all that was asked before.
use Rattle.std.proofs.Common.{◌≡◌, ap, subst, refl, ◌∙◌, ℕ, List, [], ◌∷◌, ◌++◌, Option, Some, None}
use Rattle.std.specs.Prelude.{map, option_map}
use Rattle.edd_syntax.specs.declared.numbers.StrNo.{StrNo}
use Rattle.edd_syntax.specs.Words.{Words}
use Rattle.std.specs.List.{AllByRecursion}
use Rattle.edd_syntax.specs.Answers.{IsValidAnswer}
use Rattle.edd_syntax.specs.DeviceValues.{VariableType}
use Rattle.edd_syntax.specs.MethodState as source
use Rattle.edd_syntax.specs.MethodState.{Action}
use Rattle.edd_syntax.specs.Execution.{Completion, ended}
use Rattle.edd_instructions.specs.declared.requests.Request as image
use Rattle.edd_instructions.specs.declared.requests.RequestArgument.{RequestArgument}
use Rattle.edd_instructions.specs.declared.requests.RequestArgument.TheVariants as argument
use Rattle.edd_instructions.specs.Requests.{arguments_asked, kind_asked}
use Rattle.edd_instructions.specs.declared.unit.Sort.TheVariants.{Method}
use Rattle.edd_instructions.specs.Steps.{RunningUnit, Environment}
use Rattle.edd_instructions.specs.Execution.{preceded, execute}
use Rattle.edd_instructions.specs.MethodAgreement.{SameArguments, SameRequest, SameRequests, SameOutcome, started, FollowsBody}
use Rattle.edd_code.specs.Reports.{Report, transcript_report, worded, words_told, report}
use Rattle.edd_methods.specs.Following.{Follows}
use Rattle.edd_methods.proofs.UnitRuns.{valid_are_taken}

same_Some : {A : Type 0} {x y : A} → Some x ≡ Some y → x ≡ y
same_Some h = cc h

module _ (text : StrNo → Option Words) where
  -- arguments whose words are those of their numbers say the same
  same_arguments : (rs : List RequestArgument) (qs : List source.RequestArgument)
      → words_told text rs ≡ Some qs → SameArguments text qs rs
  same_arguments [] qs h =
      subst (λ (qs : List source.RequestArgument). SameArguments text qs []) (same_Some h) tt
  same_arguments (argument.Text n ∷ rs) qs h =
      by_text (text n) refl (words_told text rs) (same_arguments rs) refl h
    where
      by_text : (o : Option Words) → text n ≡ o → (p : Option (List source.RequestArgument))
          → ((more : List source.RequestArgument) → words_told text rs ≡ Some more
          → SameArguments text more rs)
          → words_told text rs ≡ p
          → (elim o as (λ _. Option (List source.RequestArgument)) [
            | None ↦ None
            | Some w ↦ option_map (λ more. source.TextArgument w ∷ more) p
          ]) ≡ Some qs
          → SameArguments text qs (argument.Text n ∷ rs)
      by_text None is p same told h = absurd (cc h)
      by_text (Some w) is None same told h = absurd (cc h)
      by_text (Some w) is (Some more) same told h =
          subst (λ (qs : List source.RequestArgument). SameArguments text qs (argument.Text n ∷ rs))
          (same_Some h) (is, same more told)
  same_arguments (argument.Number z ∷ rs) qs h =
      by_rest (words_told text rs) (same_arguments rs) refl h
    where
      by_rest : (p : Option (List source.RequestArgument))
          → ((more : List source.RequestArgument) → words_told text rs ≡ Some more
          → SameArguments text more rs)
          → words_told text rs ≡ p
          → option_map (λ more. source.NumberArgument z ∷ more) p ≡ Some qs
          → SameArguments text qs (argument.Number z ∷ rs)
      by_rest None same told h = absurd (cc h)
      by_rest (Some more) same told h =
          subst (λ (qs : List source.RequestArgument). SameArguments text qs (argument.Number z
          ∷ rs)) (same_Some h) (refl, same more told)
  same_arguments (argument.Variable v ∷ rs) qs h =
      by_rest (words_told text rs) (same_arguments rs) refl h
    where
      by_rest : (p : Option (List source.RequestArgument))
          → ((more : List source.RequestArgument) → words_told text rs ≡ Some more
          → SameArguments text more rs)
          → words_told text rs ≡ p
          → option_map (λ more. source.VariableArgument v ∷ more) p ≡ Some qs
          → SameArguments text qs (argument.Variable v ∷ rs)
      by_rest None same told h = absurd (cc h)
      by_rest (Some more) same told h =
          subst (λ (qs : List source.RequestArgument). SameArguments text qs (argument.Variable v
          ∷ rs)) (same_Some h) (refl, same more told)

  same_request : (r : image.Request) (q : source.Request) → worded text r ≡ Some q
      → SameRequest text q r
  same_request r q h = by_arguments (words_told text (arguments_asked r)) refl h
    where
      by_arguments : (p : Option (List source.RequestArgument))
          → words_told text (arguments_asked r) ≡ p
          → option_map (λ all. record { kind = kind_asked r; arguments = all }) p ≡ Some q
          → SameRequest text q r
      by_arguments None told h = absurd (cc h)
      by_arguments (Some all) told h =
          subst (λ (q : source.Request). SameRequest text q r) (same_Some h)
          (refl, same_arguments (arguments_asked r) all told)

  same_requests : (qs : List source.Request) (rs : List image.Request)
      → map (worded text) rs ≡ map Some qs → SameRequests text qs rs
  same_requests [] [] h = tt
  same_requests [] (r ∷ rs) h = absurd (cc h)
  same_requests (q ∷ qs) [] h = absurd (cc h)
  same_requests (q ∷ qs) (r ∷ rs) h = let two = both (worded text r) (Some q) _ _
      h in (same_request r q two.0, same_requests qs rs two.1)
    where
      both : {A : Type 0} (x y : A) (xs ys : List A) → x ∷ xs ≡ y ∷ ys → (x ≡ y) × (xs ≡ ys)
      both x y xs ys h = (cc h, cc h)

  -- ---- what was asked before

  -- arguments that say the same have the words of the numbers in them
  words_so : (qs : List source.RequestArgument) (rs : List RequestArgument)
      → SameArguments text qs rs → words_told text rs ≡ Some qs
  words_so [] [] h = refl
  words_so [] (r ∷ rs) h = absurd h
  words_so (q ∷ qs) [] h = absurd h
  words_so (source.TextArgument w ∷ qs) (argument.Text n ∷ rs) h =
      ap (λ (o : Option Words). elim o as (λ _. Option (List source.RequestArgument)) [
        | None ↦ None
        | Some v ↦ option_map (λ more. source.TextArgument v ∷ more) (words_told text rs)
      ]) h.0
      ∙ ap (option_map (λ more. source.TextArgument w ∷ more)) (words_so qs rs h.1)
  words_so (source.NumberArgument z ∷ qs) (argument.Number n ∷ rs) h =
      ap (λ y. option_map (λ more. source.NumberArgument y ∷ more) (words_told text rs)) h.0
      ∙ ap (option_map (λ more. source.NumberArgument z ∷ more)) (words_so qs rs h.1)
  words_so (source.VariableArgument v ∷ qs) (argument.Variable n ∷ rs) h =
      ap (λ y. option_map (λ more. source.VariableArgument y ∷ more) (words_told text rs)) h.0
      ∙ ap (option_map (λ more. source.VariableArgument v ∷ more)) (words_so qs rs h.1)
  words_so (_ ∷ qs) (_ ∷ rs) h = absurd h.0

  worded_so : (q : source.Request) (r : image.Request) → SameRequest text q r
      → worded text r ≡ Some q
  worded_so q r h =
      ap (option_map (λ all. record { kind = kind_asked r; arguments = all }))
      (words_so q.arguments (arguments_asked r) h.1)
      ∙ ap (λ k. Some (record { kind = k; arguments = q.arguments })) h.0

  all_worded : (qs : List source.Request) (rs : List image.Request) → SameRequests text qs rs
      → map (worded text) rs ≡ map Some qs
  all_worded [] [] h = refl
  all_worded [] (r ∷ rs) h = absurd h
  all_worded (q ∷ qs) [] h = absurd h
  all_worded (q ∷ qs) (r ∷ rs) h =
      ap (λ (o : Option source.Request). o ∷ map (worded text) rs) (worded_so q r h.0)
      ∙ ap (λ (os : List (Option source.Request)). Some q ∷ os) (all_worded qs rs h.1)

  worded_twice : (rs more : List image.Request)
      → map (worded text) (rs ++ more) ≡ map (worded text) rs ++ map (worded text) more
  worded_twice [] more = refl
  worded_twice (r ∷ rs) more =
      ap (λ (os : List (Option source.Request)). worded text r ∷ os) (worded_twice rs more)

  module _ (types : List VariableType) (env : Environment) (code : List ℕ) (f : ℕ
      → Action Completion) where
    abbrev unit : RunningUnit
    unit = record { sort = Method; code = code }

    same_outcome : (k n : ℕ) (s : source.State) (before : List image.Request)
        → SameRequests text s.requests before
        → report text env code k 0 [] s ≡ transcript_report (ended (f n s))
        → SameOutcome text (ended (f n s))
        (preceded before s.changes (execute env k (started unit s) s.answers))
    same_outcome k n s before asked e =
        let o = execute env k (started unit s) s.answers in
        record {
          requests = same_requests _ _ (worded_twice before o.requests
              ∙ ap (λ (os : List (Option source.Request)). os ++ map (worded text) o.requests)
              (all_worded s.requests before asked) ∙ ap (λ (r : Report). r.requests) e);
          changes = ap (λ (r : Report). r.changes) e;
          values = ap (λ (r : Report). r.values) e;
          abort_methods = ap (λ (r : Report). r.abort_methods) e;
          answers = ap (λ (r : Report). r.answers) e;
          ending = ap (λ (r : Report). r.ending) e;
        }

    pub followed_so : types ≡ env.types → Follows text env code f
        → FollowsBody text types (λ n s. ended (f n s))
        (λ k s. execute env k (started unit s) s.answers)
    followed_so same follows s before valid asked n =
        let a = follows s (valid_are_taken env s.answers
        (subst (λ (ts : List VariableType). AllByRecursion (IsValidAnswer ts) s.answers) same
        valid)) n in
        (a.0, a.1, same_outcome a.0 n s before asked a.2)
