use Rattle.std.proofs.Common.{ap, sym, ◌∙◌, Some}
use Rattle.edd_syntax.specs.NameUses.{OfItem}
use Rattle.edd_syntax.specs.TreeView.{path_of}
use Rattle.edd_name_meanings.specs.Directory.{description_of}
use Rattle.edd_name_meanings.specs.Meanings.{scope_of}
use Rattle.edd_name_meanings.proofs.PathLaws.{weaker_ok}
use Rattle.edd_name_meanings.proofs.UseCases.{reads_at_fault}
use Rattle.edd_name_meanings.proofs.references.refer.Goals as goal

pub returns-in-Err-clause-sound : goal.returns-in-Err-clause-sound
returns-in-Err-clause-sound c =
    weaker_ok c.tell.result _ _
    (λ t is. reads_at_fault (description_of c.args.names.now) c.in-Err.fault
    (OfItem (scope_of c.args.scope.now) c.args.kinds.now (path_of c.args.path.now)) c.args.path.now
    c.in-Err.ensures.refused
    ∙ ap (λ s. Some s) (sym (is ∙ c.stand_in.ensures)))
    c.tell.ensures.sound
