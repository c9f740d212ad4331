use Rattle.std.proofs.Common.{arith}
use Rattle.std.specs.Str.{bytes_eq}
use Rattle.edd_syntax.specs.ItemView.{attribute_of}
use Rattle.edd_syntax.specs.Resolution.{members_in}
use Rattle.edd_syntax.specs.TreeView.{path_of}
use Rattle.edd_name_meanings.proofs.Gathering.{looks_on, finds}
use Rattle.edd_name_meanings.proofs.members.find_in_list.Goals as goal

pub returns-in-Some : goal.returns-in-Some
returns-in-Some c =
    finds (attribute_of path_of) members_in (λ m. bytes_eq m.name c.args.name.now)
    c.loop-attribute.attribute-index c.args.attributes.now c.attribute-item.result _ (omega arith)
    c.attribute-item.is c.in-Some.ensures c.loop-attribute.invariant

pub loop-attribute-preserved : goal.loop-attribute-preserved
loop-attribute-preserved c =
    looks_on (attribute_of path_of) members_in (λ m. bytes_eq m.name c.args.name.now)
    c.loop-attribute.attribute-index c.args.attributes.now c.attribute-item.result (omega arith)
    c.attribute-item.is c.in_default.ensures c.loop-attribute.invariant
