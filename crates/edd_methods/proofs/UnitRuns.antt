-- The unit of code, followed from its first byte.
use Rattle.std.proofs.Common.{◌≡◌, refl, sym, ap, subst, ◌∙◌, ℕ, suc, ◌+◌, ◌<◌, ◌≤◌, ◌^◌, List, [], ◌∷◌, ◌++◌, length, arith, append-nil, Option}
use Rattle.std.specs.List.{AllByRecursion}
use Rattle.edd_syntax.specs.declared.numbers.StrNo.{StrNo}
use Rattle.edd_syntax.specs.Words.{Words}
use Rattle.edd_syntax.specs.Answers.{Answer, Go, Abort, IsValidAnswer}
use Rattle.edd_syntax.specs.MethodState as source
use Rattle.edd_syntax.specs.MethodState.{State, Done, Stopped, Action}
use Rattle.edd_syntax.specs.Execution as run
use Rattle.edd_syntax.specs.Execution.{Completion, Normal, Breaks, Continues, Returns, transcript, ended}
use Rattle.edd_instructions.specs.declared.instruction.Instruction.TheVariants as instruction
use Rattle.edd_instructions.specs.Spelling.{spelling}
use Rattle.edd_instructions.specs.Steps.{Environment, act}
use Rattle.edd_instructions.proofs.Spelled.{stands_where_spelled}
use Rattle.edd_code.proofs.BlockPlaces.{stand}
use Rattle.edd_code.proofs.Lines.{placed}
use Rattle.edd_code.specs.Reports.{transcript_report, report}
use Rattle.edd_code.specs.MethodEffects.{CanBeTaken}
use Rattle.edd_methods.specs.Statements.{Code, size, emitted, bytes_at, unit_code, IsSpelledCode}
use Rattle.edd_methods.specs.StatementEffects.{Same, performs, IsWhole}
use Rattle.edd_methods.specs.Following.{Does, Follows}
use Rattle.edd_code.proofs.MethodSteps.{end_reports}
use Rattle.edd_code.proofs.MethodRuns.{IsRead}
use Rattle.edd_methods.proofs.CodePlaces.{CodeIn}
use Rattle.edd_methods.proofs.CodeBytes.{code_long, code_spelled}
use Rattle.edd_code.proofs.BlockReading.{all_read}
use Rattle.edd_methods.proofs.CodeReading.{code_in}
use Rattle.edd_methods.proofs.CodeRuns.{code_does}

-- ---- what is between other bytes

code_reads : (before after : List ℕ) (c : Code) (out back : ℕ) → IsSpelledCode c
    → length before + size c < 2 ^ 32 → out < 2 ^ 32 → back < 2 ^ 32
    → CodeIn (IsRead (before ++ (bytes_at (length before) out back c ++ after))) (length before) out
    back c
code_reads before after c out back ok small far near =
    let p = length before in
    let code = before ++ (bytes_at p out back c ++ after) in
    (code_in (IsRead code) p out back c [] small far near
    (subst (λ is. AllByRecursion (IsRead code) (placed p is))
    (sym (append-nil (emitted p out back c)))
    (all_read before (emitted p out back c) after (code_spelled p out back c ok)))).0

pub code_follows : (text : StrNo → Option Words) (env : Environment) (before after : List ℕ)
    (c : Code) (out back : ℕ) (n : ℕ) (s : State) → IsSpelledCode c → length before + size c
    < 2 ^ 32
    → out < 2 ^ 32 → back < 2 ^ 32 → IsWhole text env c → CanBeTaken env s.answers
    → Does text env (before ++ (bytes_at (length before) out back c ++ after)) n (length before) []
    (record { end = length before + size c; out = out; back = back }) s
    (performs text env c n s)
code_follows text env before after c out back n s ok small far near whole valid =
    code_does text env (before ++ (bytes_at (length before) out back c ++ after)) n c
    (length before) out back whole (code_reads before after c out back ok small far near) s
    valid

-- ---- the unit

module _ (text : StrNo → Option Words) (env : Environment) (c : Code) (ok : IsSpelledCode c)
    (small : size c < 2 ^ 31) (whole : IsWhole text env c) where
  end_stands : IsRead (unit_code c) (stand (size c) instruction.End (size c + 1))
  end_stands =
      subst (λ (p : ℕ). IsRead (unit_code c) (stand p instruction.End (p + 1)))
      (code_long 0 (size c) (size c) c)
      (stands_where_spelled (bytes_at 0 (size c) (size c) c) [] instruction.End tt)

  at_end : (k : ℕ) (s : State) → report text env (unit_code c) (suc k) (size c) [] s
      ≡ transcript_report (transcript run.Ended s)
  unfolding act
  at_end k s = end_reports text env (unit_code c) (size c) [] s
      (record {
        instruction = instruction.End;
        next = size c + 1;
        stands = end_stands;
        acts = refl;
      }) k

  finishes : (n : ℕ) {s : State} (o : source.Outcome Completion) → Does text env (unit_code c) n 0
      [] (record { end = 0 + size c; out = size c; back = size c }) s o
      → (k : ℕ) × (n ≤ k) × (report text env (unit_code c) k 0 [] s ≡ transcript_report (ended o))
  finishes n (Done Normal t) d = let a =
      d.comes (suc n) in (
        a.0,
        omega (arith, a.1),
        a.2
            ∙ ap (λ (p : ℕ). report text env (unit_code c) (suc n) p [] t) (omega arith)
            ∙ at_end n t,
      )
  finishes n (Done Breaks t) d = let a =
      d.comes (suc n) in (a.0, omega (arith, a.1), a.2 ∙ at_end n t)
  finishes n (Done Continues t) d = let a =
      d.comes (suc n) in (a.0, omega (arith, a.1), a.2 ∙ at_end n t)
  finishes n (Done Returns t) d = d.comes n
  finishes n (Stopped why t) d = d.comes n

  pub unit_follows : (f : ℕ → Action Completion) → ((n : ℕ) → Same (performs text env c n) (f n))
      → Follows text env (unit_code c) f
  unit_follows f same s valid n =
      subst (λ (o : source.Outcome Completion). (k : ℕ) × (n ≤ k) × (report text env (unit_code c) k
      0 [] s ≡ transcript_report (ended o))) (same n s) (finishes n (performs text env c n s)
      (code_follows text env [] (spelling instruction.End) c (size c) (size c) n s ok
      (omega (arith, small)) (omega (arith, small)) (omega (arith, small)) whole valid))

-- ---- runs

-- a valid answer can be taken
pub valid_are_taken : (env : Environment) (answers : List Answer)
    → AllByRecursion (IsValidAnswer env.types) answers → CanBeTaken env answers
valid_are_taken env [] h = tt
valid_are_taken env (Go code sets ∷ rest) h = (h.0.1, valid_are_taken env rest h.1)
valid_are_taken env (Abort ∷ rest) h = (refl, valid_are_taken env rest h.1)
