use Rattle.std.proofs.Common.{◌≡◌, rules, ℕ, ℤ, List, length, Some, sym, ap, ◌∙◌, ◌++◌}
use mir.Val.{SFits}
use mir.Syntax.{w64}
use Rattle.std.proofs.lemmas.Int.{to_z-of_z}
use Rattle.std.proofs.lemmas.List.{append-nil}
use Rattle.edd_instructions.specs.declared.instruction.Instruction.TheVariants as instruction
use Rattle.edd_instructions.specs.Spelling.{spelling}
use Rattle.edd_attrs.proofs.CondViews.{case_header, case_hole, default_header, default_hole}
use Rattle.edd_attrs.proofs.conditions.open_arm.Goals as goal

header_written : (before : List ℕ) {after : List ℕ} (head : List ℕ) (z : ℤ) {label : ℤ}
    → after ≡ before ++ spelling (instruction.Case z 0) → z ≡ label
    → head ≡ spelling (instruction.Case label 0) → after ≡ before ++ head
header_written before head z is same own =
    is ∙ ap (λ (y : ℤ). before ++ spelling (instruction.Case y 0)) same
    ∙ ap (λ (bytes : List ℕ). before ++ bytes) (sym own)

pub returns-in_ok-open-in-Case-clause-code : goal.returns-in_ok-open-in-Case-clause-code
returns-in_ok-open-in-Case-clause-code g c =
    let fits : SFits w64 c.in-Case.label = search rules in
    header_written c.args.code.now _ _ c.in_ok-open-in-Case.ensures.code
    (to_z-of_z w64 c.in-Case.label fits) (case_header g.V.Element.view c.in-Case.body c.in-Case.is)

pub returns-in_ok-open-in-Case-clause-hole : goal.returns-in_ok-open-in-Case-clause-hole
returns-in_ok-open-in-Case-clause-hole g c = ap Some c.in_ok-open-in-Case.ensures.place
    ∙ sym (case_hole g.V.Element.view (length c.args.code.now) c.in-Case.body c.in-Case.is)

pub returns-in-Default-clause-code : goal.returns-in-Default-clause-code
returns-in-Default-clause-code g c =
    sym (append-nil c.args.code.now) ∙ ap (λ (bytes : List ℕ). c.args.code.now
    ++ bytes) (sym (default_header g.V.Element.view c.in-Default.body c.in-Default.is))

pub returns-in-Default-clause-hole : goal.returns-in-Default-clause-hole
returns-in-Default-clause-hole g c =
    sym (default_hole g.V.Element.view (length c.args.code.now) c.in-Default.body c.in-Default.is)
