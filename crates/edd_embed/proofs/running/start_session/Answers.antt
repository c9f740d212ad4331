use Rattle.std.proofs.Common.{◌≡◌, ◌∙◌, Some, refl, sym, ap}
use Rattle.edd_image.specs.Contents.{contents_in}
use Rattle.edd_instructions.specs.declared.unit.Sort.TheVariants.{Method}
use Rattle.edd_instructions.specs.Reading.{body_of}
use Rattle.edd_instructions.specs.Steps.{opening}
use Rattle.edd_instructions.specs.Validity.{sort_of}
use Rattle.edd_machine.specs.declared.code_unit.CodeUnit.{CodeUnit}
use Rattle.edd_machine.specs.Running.{running_unit}
use Rattle.edd_machine.proofs.Stepping.{opened}
use Rattle.edd_port.proofs.MethodBodies.{body_found}
use Rattle.edd_port.proofs.Openings.{opens_in}
use Rattle.edd_embed.specs.Sessions.{state_in}
use Rattle.edd_embed.proofs.running.start_session.Goals as goal

pub returns-clause-sound : goal.returns-clause-sound
returns-clause-sound c =
    let b = c.args.image.now in
    let u = c.in-Some.unit in
    let is = c.in-Some.ensures.unit in
    let values = c.args.values.now in
    let valid = c.in-Some.ensures.valid in
    let s = opening (running_unit b u) u.slots values in
    let method : sort_of is.row ≡ Method = sym (ap (λ (x : CodeUnit). x.sort) is.unit)
    ∙ c.in-Some.ensures.sort in
    let found : body_of (contents_in b) (record { 0 = u.item }) ≡ Some is.row =
    ap (λ (x : CodeUnit). body_of (contents_in b) (record { 0 = x.item })) is.unit
    ∙ body_found b is.number is.row valid is.stands method in
    let stands : state_in b c.at_start.result values ≡ Some s =
    c.at_start.ensures.stands b values is.row found is.unit in
    record {
      state = s;
      stands = stands;
      opens = opens_in b c.args.method u values s valid c.in-Some.ensures.value refl;
      accepted = c.are_values.ensures.0 c.if-not-are_values.false;
      taken = c.at_start.ensures.taken;
      is = record {
        state = s;
        stands = stands;
        run = record {
          valid = valid;
          unit = u;
          state = opened b u s values valid is (c.are_values.ensures.0 c.if-not-are_values.false)
              refl;
        };
      };
    }
