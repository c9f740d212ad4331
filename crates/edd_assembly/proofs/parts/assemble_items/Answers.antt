use Rattle.std.proofs.Common.{◌∙◌, ap, sym, map}
use Rattle.edd_syntax.specs.ItemView.{identification_of, numbered_item}
use Rattle.edd_syntax.specs.Resolved.{description}
use Rattle.edd_image.specs.declared.parts.Counts.{Counts}
use Rattle.edd_assembly.proofs.ElementRows.{no_elements}
use Rattle.edd_assembly.proofs.NeededVersion.{none_in_first}
use Rattle.edd_assembly.proofs.parts.assemble_items.Goals as goal

pub parts_of-requires-clause-no_arrays : goal.parts_of-requires-clause-no_arrays
parts_of-requires-clause-no_arrays c first =
    ap (λ (n : Counts). n.arrays) c.counts_of-counts.ensures
    ∙ none_in_first (description (identification_of c.args.identification)
    (map numbered_item c.args.items.now)) (sym c.requires.version ∙ first)

pub parts_of-requires-clause-no_elements : goal.parts_of-requires-clause-no_elements
parts_of-requires-clause-no_elements c first =
    let d = description (identification_of c.args.identification)
    (map numbered_item c.args.items.now) in
    c.requires.elements ∙ no_elements d (none_in_first d (sym c.requires.version ∙ first))
