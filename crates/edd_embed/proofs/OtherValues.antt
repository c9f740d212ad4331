-- The numbers of a session under other values.
use Rattle.std.proofs.Common.{◌≡◌, ℕ, ℤ, Bool, true, false, cond, List, Option, Some, None, ap}
use Rattle.edd_syntax.specs.DeviceValues.{AreDeviceValues}
use Rattle.edd_image.specs.Contents.{AttributeFields, contents_in}
use Rattle.edd_image.specs.Front.{◌>>=◌}
use Rattle.edd_instructions.specs.declared.records.Status.{Status}
use Rattle.edd_instructions.specs.Reading.{body_of}
use Rattle.edd_instructions.specs.Steps.{State}
use Rattle.edd_machine.specs.Types.{types_in}
use Rattle.edd_machine.proofs.Answering.{set_there}
use Rattle.edd_embed.specs.declared.sessions.PlainSession.{PlainSession}
use Rattle.edd_embed.specs.Sessions.{IsSession, counts_fit, flag_from, state_at, status_from}

module _ (b : List ℕ) (p : PlainSession) (values other : List ℤ) where
  -- the state by what is read of the tags
  abbrev state_by : List ℤ → Option AttributeFields → Option Status → Option Bool → Bool
      → Option State
  state_by vs rows sts flags test = do
    row ← rows
    st ← sts
    flag ← flags
    cond test (Some (state_at b p vs row st flag)) None

  changed : (rows : Option AttributeFields) (sts : Option Status) (flags : Option Bool)
      (test : Bool) (s : State) → state_by values rows sts flags test ≡ Some s
      → state_by other rows sts flags test ≡ Some (record s { values = other })
  changed None sts flags test s e = absurd cc
  changed (Some row) None flags test s e = absurd cc
  changed (Some row) (Some st) None test s e = absurd cc
  changed (Some row) (Some st) (Some flag) false s e = absurd cc
  changed (Some row) (Some st) (Some flag) true s e =
      let same : state_at b p values row st flag ≡ s = cc in
      ap (λ (x : State). Some (record x { values = other })) same

  pub under_others : IsSession b p values → AreDeviceValues (types_in b) other → IsSession b p other
  under_others is are = record {
    state = record is.state { values = other };
    stands = changed (body_of (contents_in b) (record { 0 = p.method })) (status_from p.turn)
        (flag_from p.is_aborting) (counts_fit p) is.state is.stands;
    run = record {
      valid = is.run.valid;
      unit = is.run.unit;
      state = set_there b is.run.unit is.state other is.run.state are;
    };
  }
