use Rattle.std.proofs.Common.{◌≡◌, refl, sym, subst, [], ◌∷◌, ◌++◌, true, if◌then◌else◌}
use Rattle.edd_syntax.specs.declared.numbers.Kind.TheVariants as kind
use Rattle.edd_syntax.specs.Item.{kind_of_item}
use Rattle.edd_syntax.specs.ItemView.{item_of, sort_of}
use Rattle.edd_syntax.specs.Numbers.{same_kind}
use Rattle.edd_syntax.specs.TreeView.{path_of}
use Rattle.edd_name_meanings.specs.Members.{AreCollections}
use Rattle.edd_name_meanings.proofs.Gathering.{one_more_collection}
use Rattle.edd_name_meanings.proofs.members.add_collection.Goals as goal

pub returns-in_ok-push-in-Collection : goal.returns-in_ok-push-in-Collection
returns-in_ok-push-in-Collection c = λ is h.
    let i = item_of path_of c.args.item.now in
    let is_one : same_kind (kind_of_item (sort_of c.args.item.now)) kind.Collection ≡ true =
    rw c.in-Collection.is refl in
    subst (λ b. AreCollections c.push.new.self.items (is ++ (if b then i ∷ [] else []))) (sym is_one)
    (subst (λ cs. AreCollections cs (is ++ i ∷ [])) (sym c.in_ok-push-in-Collection.ensures.items)
    (one_more_collection c.args.all.now.items is c.in_ok-one-in-Collection.one i h
    c.in_ok-one-in-Collection.ensures))
