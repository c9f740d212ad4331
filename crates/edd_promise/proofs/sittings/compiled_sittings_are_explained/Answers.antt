use Rattle.std.proofs.Common.{List, [], sym, subst}
use Rattle.edd_syntax.specs.DeviceValues.{VariableType}
use Rattle.edd_image.specs.Fields.{counts_in}
use Rattle.edd_instructions.specs.Reading.{Reading}
use Rattle.edd_instructions.proofs.UniqueReadings.{unique}
use Rattle.edd_machine.specs.Types.{types_in}
use Rattle.edd_panel.specs.Edits.{reads_of}
use Rattle.edd_panel.specs.Sittings.{AreExplained}
use Rattle.edd_panel.specs.Standing.{opened}
use Rattle.edd_promise.specs.Meant.{meant_by}
use Rattle.edd_promise.proofs.OfferedByUnits.{sitting_explained}
use Rattle.edd_promise.proofs.UnitReads.{reads}
use Rattle.edd_promise.proofs.sittings.compiled_sittings_are_explained.Goals as goal

pub returns : goal.returns
returns c = λ text b is values steps valid sitting.
    subst (λ (types : List VariableType). AreExplained (counts_in b) types
    (meant_by is.accepted.resolved b) [] (opened b values) steps) is.agrees.on_data.types
    (sitting_explained (counts_in b) (types_in b) (reads_of b) (meant_by is.accepted.resolved b)
    (λ v are ref r reading.
    let there = reads is.accepted.resolved b is.agrees.on_data ref v are in
    subst (λ (x : Reading). meant_by is.accepted.resolved b v ref x)
    (sym (unique b ref v r there.0 reading there.1)) there.2)
    (opened b values) steps valid sitting
    (c.sittings_are_explained.ensures b values steps sitting))
