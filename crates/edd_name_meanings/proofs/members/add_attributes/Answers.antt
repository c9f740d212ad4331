use Rattle.std.proofs.Common.{refl, sym, ap, ◌∙◌, map, arith}
use Rattle.std.specs.Prelude.{find}
use Rattle.std.specs.List.{flat_map}
use Rattle.std.specs.Option.{option_or}
use Rattle.std.specs.Str.{bytes_eq}
use Rattle.edd_syntax.specs.ItemView.{attribute_of}
use Rattle.edd_syntax.specs.Resolution.{members_in}
use Rattle.edd_syntax.specs.TreeView.{path_of}
use Rattle.edd_name_meanings.specs.Members.{member_named}
use Rattle.edd_name_meanings.proofs.Gathering.{gathered_more, or_none, take_all}
use Rattle.edd_name_meanings.proofs.members.add_attributes.Goals as goal

pub loop-attribute-init : goal.loop-attribute-init
loop-attribute-init c = λ q. sym (or_none (member_named q c.args.into.now))

pub loop-attribute-preserved : goal.loop-attribute-preserved
loop-attribute-preserved c = λ q.
    gathered_more (attribute_of path_of) members_in (λ m. bytes_eq m.name q)
    (member_named q c.args.into.now) (member_named q c.loop-attribute.into)
    (member_named q c.add_attribute.new.into) c.loop-attribute.attribute-index
    c.args.attributes.now c.attribute-item.result (omega arith) c.attribute-item.is
    (c.in_ok-add_attribute.ensures q)
    (c.loop-attribute.invariant q)

pub returns : goal.returns
returns c = λ q.
    c.loop-attribute.invariant q
    ∙ ap (λ xs. option_or (member_named q c.args.into.now)
    (find (λ m. bytes_eq m.name q) (flat_map members_in (map (attribute_of path_of) xs))))
    (take_all c.loop-attribute.attribute-index c.args.attributes.now (omega arith))
    ∙ refl
