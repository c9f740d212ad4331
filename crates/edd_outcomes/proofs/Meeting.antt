-- A test is met where its first line is met and the others are met behind it.
use Rattle.std.proofs.Common.{◌≡◌, ℕ, true, false, ◌&&◌, if◌then◌else◌, List, [], ◌∷◌, Some, None, refl}
use Rattle.std.specs.Str.{bytes_eq}
use Rattle.std.specs.List.{cons_option}
use Rattle.edd_cases.specs.declared.lines.Line.{Line}
use Rattle.edd_cases.specs.declared.lines.Says.{Says}
use Rattle.edd_cases.specs.declared.lines.Says.TheVariants as says
use Rattle.edd_cases.specs.declared.settings.Form.{Form}
use Rattle.edd_cases.specs.declared.settings.Form.TheVariants as form
use Rattle.edd_outcomes.specs.Expected.{whole, part, wholes, parts, same, holds, meets, behind_next, past}

same_first : (text line : List ℕ) (expected printed : List (List ℕ))
    → same (text ∷ expected) (line ∷ printed) ≡ elim (behind_next text (line ∷ printed)) [
      | None ↦ false
      | Some rest ↦ same expected rest
    ]
same_first text line expected printed =
    elim (bytes_eq line text) as (λ b. (b && same expected printed) ≡ elim (if b then Some printed else None) [
      | None ↦ false
      | Some rest ↦ same expected rest
    ]) [ true ↦ refl | false ↦ refl ]

whole_met : (s : Says) (expected printed : List (List ℕ))
    → same (cons_option (whole s) expected) printed ≡ elim (past form.Whole s printed) [
      | None ↦ false
      | Some rest ↦ same expected rest
    ]
whole_met (says.Whole text) expected [] = refl
whole_met (says.Whole text) expected (line ∷ printed) = same_first text.now line expected printed
whole_met says.Nothing expected printed = refl
whole_met _ expected printed = refl

part_met : (s : Says) (expected printed : List (List ℕ))
    → holds (cons_option (part s) expected) printed ≡ elim (past form.Parts s printed) [
      | None ↦ false
      | Some rest ↦ holds expected rest
    ]
part_met (says.Part text) expected printed = refl
part_met _ expected printed = refl

pub first_line_met : (f : Form) (line : Line) (lines : List Line) (printed : List (List ℕ))
    → meets f (line ∷ lines) printed ≡ elim (past f line.says printed) [
      | None ↦ false
      | Some rest ↦ meets f lines rest
    ]
first_line_met form.Whole line lines printed = whole_met line.says (wholes lines) printed
first_line_met form.Parts line lines printed = part_met line.says (parts lines) printed
