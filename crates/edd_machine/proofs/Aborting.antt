-- A machine that goes on with its abort methods.
use Rattle.std.proofs.Common.{◌≡◌, ℕ, List, ◌∷◌, Option, Some, None, refl, sym, ap, ◌∙◌}
use Rattle.std.specs.Prelude.{option_map}
use Rattle.edd_syntax.specs.declared.numbers.MethNo.{MethNo}
use Rattle.edd_syntax.specs.DeviceValues.{AreDeviceValues}
use Rattle.edd_instructions.specs.declared.records.Status.TheVariants.{Aborted}
use Rattle.edd_instructions.specs.AbortMethods.{Start, aborting, start_at, start_in, start_listed}
use Rattle.edd_image.specs.Contents.{AttributeFields, contents_in}
use Rattle.edd_instructions.specs.Reading.{body_of}
use Rattle.edd_instructions.specs.Steps.{State, opening}
use Rattle.edd_instructions.specs.Validity.{IsValid}
use Rattle.edd_machine.specs.declared.code_unit.CodeUnit.{CodeUnit}
use Rattle.edd_machine.specs.Running.{unit_at, running_unit, start_of, IsUnitOf, IsStateIn}
use Rattle.edd_machine.specs.Types.{types_in}
use Rattle.edd_machine.proofs.BodyUnits.{body_starts}
use Rattle.edd_machine.proofs.Stepping.{opened}

-- what comes of a list whose first method has this start, if any
by_start : (start : MethNo → Option Start) (m : MethNo) (rest : List MethNo) (s : State)
    (o : Option Start) → start m ≡ o → start_listed start (m ∷ rest) s
    ≡ elim o [
      | Some first ↦ aborting first rest s
      | None ↦ start_listed start rest s
    ]
by_start start m rest s o e = ap (λ (x : Option Start). elim x [
  | Some first ↦ aborting first rest s
  | None ↦ start_listed start rest s
]) e

module _ (b : List ℕ) (m : MethNo) (rest : List MethNo) (s : State) where
  -- the first method that has a body starts
  pub first_starts : (u : CodeUnit) → IsValid b
      → Some u ≡ option_map (unit_at b) (body_of (contents_in b) m)
      → start_listed (start_in (contents_in b)) (m ∷ rest) s ≡ aborting (start_of b u) rest s
  first_starts u valid e = by_row (body_of (contents_in b) m) refl e
    where
      by_row : (o : Option AttributeFields) → body_of (contents_in b) m ≡ o
          → Some u ≡ option_map (unit_at b) o
          → start_listed (start_in (contents_in b)) (m ∷ rest) s ≡ aborting (start_of b u) rest s
      by_row None is e = absurd cc
      by_row (Some row) is e =
          let same : u ≡ unit_at b row = cc in
          by_start (start_in (contents_in b)) m rest s (Some (start_of b (unit_at b row)))
          (ap (option_map (start_at (contents_in b))) is
          ∙ ap (λ (x : Start). Some x) (body_starts b m row valid is))
          ∙ ap (λ (x : CodeUnit). aborting (start_of b x) rest s) (sym same)

  -- one without a body is passed over
  pub first_passed : None ≡ option_map (unit_at b) (body_of (contents_in b) m)
      → start_listed (start_in (contents_in b)) (m ∷ rest) s
      ≡ start_listed (start_in (contents_in b)) rest s
  first_passed e = by_row (body_of (contents_in b) m) refl e
    where
      by_row : (o : Option AttributeFields) → body_of (contents_in b) m ≡ o
          → None ≡ option_map (unit_at b) o
          → start_listed (start_in (contents_in b)) (m ∷ rest) s
          ≡ start_listed (start_in (contents_in b)) rest s
      by_row None is e = by_start (start_in (contents_in b)) m rest s None
          (ap (option_map (start_at (contents_in b))) is)
      by_row (Some row) is e = absurd cc

-- ---- states

-- an abort method opens in a state of its unit
pub aborting_there : (b : List ℕ) (u : CodeUnit) (rest : List MethNo) (s : State) → IsValid b
    → IsUnitOf b u → AreDeviceValues (types_in b) s.values
    → IsStateIn b u (aborting (start_of b u) rest s)
aborting_there b u rest s valid is are =
    let start = opening (running_unit b u) u.slots s.values in
    let o = opened b u start s.values valid is are refl in
    record {
      unit = o.unit;
      runs = refl;
      state = record {
        sort = o.state.sort;
        stands = o.state.stands;
        operands = o.state.operands;
        slot_count = o.state.slot_count;
        slots = o.state.slots;
        variable_count = o.state.variable_count;
        values = o.state.values;
      };
    }

pub aborted_there : (b : List ℕ) (u : CodeUnit) (left : List MethNo) (s : State)
    → IsStateIn b u s
    → IsStateIn b u (record s { status = Aborted; abort_methods = left })
aborted_there b u left s is = record {
  unit = is.unit;
  runs = is.runs;
  state = record {
    sort = is.state.sort;
    stands = tt;
    operands = is.state.operands;
    slot_count = is.state.slot_count;
    slots = is.state.slots;
    variable_count = is.state.variable_count;
    values = is.state.values;
  };
}
