-- A script line by line.
use Rattle.std.proofs.Common.{◌≡◌, ℕ, suc, ◌+◌, List, [], ◌∷◌, ◌++◌, Some, None, Result, Ok, Err, ℤ, refl, ap, sym, ◌∙◌, append_assoc, arith}
use Rattle.std.proofs.lemmas.List.{append-nil}
use Rattle.edd_syntax.specs.Answers.{Answer, values_set}
use Rattle.edd_script.specs.Lines.{lines}
use Rattle.edd_script.specs.Named.{VariableNames}
use Rattle.edd_script.specs.Said.{Line, Answered, line_of}
use Rattle.edd_script.specs.Scripts.{Said, mapped, read_from, sets_in, answers_in}

mapped_mapped : {A B D : Type 0} (f : B → D) (g : A → B) (h : A → D) → ((x : A) → h x ≡ f (g x))
    → (read : Result A ℕ) → mapped h read ≡ mapped f (mapped g read)
mapped_mapped f g h same (Ok x) = ap Ok (same x)
mapped_mapped f g h same (Err line) = refl

-- a line was read
pub turn : {A : Type 0} (names : VariableNames) (f g : List Line → A) (number : ℕ)
    (text line rest : List ℕ) (said : Line) → lines text ≡ line ∷ lines rest
    → line_of names line ≡ Some said → ((more : List Line) → g more ≡ f (said ∷ more))
    → mapped g (read_from names (number + 1) (lines rest)) ≡ mapped f (read_from names number (lines text))
turn names f g number text line rest said first read same =
    let next : number + 1 ≡ suc number = omega arith in
    let onto : read_from names number (line ∷ lines rest)
    ≡ mapped (λ more. said ∷ more) (read_from names (suc number) (lines rest)) =
    ap (λ o. elim o as (λ _. Result (List Line) ℕ) [
      | None ↦ Err number
      | Some said ↦ mapped (λ more. said ∷ more) (read_from names (suc number) (lines rest))
    ]) read in
    rw next (mapped_mapped f (λ more. said ∷ more) g same (read_from names (suc number) (lines rest))
    ∙ ap (mapped f) (sym onto ∙ ap (read_from names number) (sym first)))

-- what was said so far, and by further lines
abbrev pub onward : (values : List ℤ) → (answers : List Answer) → List Line → Said
onward values answers said = record {
  values = values_set values (sets_in said);
  answers = answers ++ answers_in said;
}

pub onward_line : (values next_values : List ℤ) (answers next_answers : List Answer) (said : Line)
    → next_values ≡ values_set values (sets_in (said ∷ []))
    → next_answers ≡ answers ++ answers_in (said ∷ [])
    → (more : List Line) → onward next_values next_answers more ≡ onward values answers (said ∷ more)
onward_line values next_values answers next_answers (Answered answer) v a more =
    rw (v, a, append_assoc answers (answer ∷ []) (answers_in more)) refl
onward_line values next_values answers next_answers _ v a more =
    rw (v, a, append-nil answers) refl
