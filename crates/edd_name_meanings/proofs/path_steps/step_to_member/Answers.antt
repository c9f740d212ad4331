use Rattle.std.proofs.Common.{refl, sym, ap, ◌∙◌}
use Rattle.std.specs.Prelude.{option_and_then}
use Rattle.edd_syntax.specs.ItemView.{member_of}
use Rattle.edd_syntax.specs.TreeView.{path_of}
use Rattle.edd_syntax.specs.Resolution.{item_named, of_kind}
use Rattle.edd_name_meanings.specs.Directory.{description_of}
use Rattle.edd_name_meanings.proofs.path_steps.step_to_member.Goals as goal

pub returns-in-Some-clause-sound : goal.returns-in-Some-clause-sound
returns-in-Some-clause-sound c = (
  (member_of path_of c.in-Some.found.now, c.in-Some.of),
  sym c.in-Some.ensures,
  refl,
  refl,
  refl,
  c.item_of_kind.ensures ∙ ap (option_and_then (of_kind c.in-Some.of))
      (c.item.ensures ∙ ap (item_named (description_of c.args.names.now)) c.as_str.ensures),
)
