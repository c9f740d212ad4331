-- Where a method starts.
use Rattle.std.proofs.Common.{◌≡◌, refl, ap, ◌∙◌, ℕ, ℤ, List, Option, Some, None}
use Rattle.std.specs.Prelude.{option_map}
use Rattle.edd_syntax.specs.declared.numbers.MethNo.{MethNo}
use Rattle.edd_image.specs.Contents.{AttributeFields, contents_in}
use Rattle.edd_instructions.specs.Reading.{body_of}
use Rattle.edd_instructions.specs.Steps.{State, opening}
use Rattle.edd_instructions.specs.Validity.{IsValid}
use Rattle.edd_machine.specs.declared.code_unit.CodeUnit.{CodeUnit}
use Rattle.edd_machine.specs.Running.{unit_at, running_unit}
use Rattle.edd_machine.proofs.BodyUnits.{body_opens}
use Rattle.edd_port.specs.Runs.{OpensIn}

-- a state at the start of the unit that was found is that at the start of the body
pub opens_in : (b : List ℕ) (m : MethNo) (u : CodeUnit) (values : List ℤ) (s : State) → IsValid b
    → Some u ≡ option_map (unit_at b) (body_of (contents_in b) m)
    → s ≡ opening (running_unit b u) u.slots values → OpensIn b m values s
opens_in b m u values s valid found is = by_row (body_of (contents_in b) m) refl found
  where
    by_row : (o : Option AttributeFields) → body_of (contents_in b) m ≡ o
        → Some u ≡ option_map (unit_at b) o → OpensIn b m values s
    by_row None e f = absurd cc
    by_row (Some row) e f =
        let same : u ≡ unit_at b row = cc in (
          row,
          e,
          is ∙ ap (λ (x : CodeUnit). opening (running_unit b x) x.slots values) same
              ∙ body_opens b m row values valid e,
        )
