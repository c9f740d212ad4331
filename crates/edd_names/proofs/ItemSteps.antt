-- An item with the meaning of its names, from its attributes.
use Rattle.std.proofs.Common.{◌≡◌, sym, ap, ◌∙◌, List, Some}
use Rattle.std.specs.List.{flat_map}
use Rattle.edd_name_meanings.specs.Copies.{Tells}
use Rattle.edd_breaches.specs.declared.breach.Breach.{Breach}
use Rattle.edd_name_meanings.proofs.UseLaws.{retold}
use Rattle.edd_syntax.specs.declared.reference.Path as code_path
use Rattle.edd_syntax.specs.declared.reference.Target.{Target}
use Rattle.edd_syntax.specs.Item.{Attribute, Description, Item, ItemKind}
use Rattle.edd_syntax.specs.NameUses.{attribute_uses, item_uses}
use Rattle.edd_syntax.specs.Reference.{Path}
use Rattle.edd_syntax.specs.ResolvedTrees.{◌>>=◌, Reading, each, resolved_attribute, resolved_item}
use Rattle.edd_syntax.specs.Text.{Name}

abbrev made : ItemKind → Name → List (Attribute Target) → Item Target
made sort name attributes = record { sort = sort; name = name; attributes = attributes }

pub item_told : (unit : Description Path) (i : Item Path) (xs : List (Attribute Path))
    (ps qs : List code_path.Path) (old new : List Breach) → xs ≡ i.attributes → ps ≡ qs
    → Tells unit (flat_map (attribute_uses i.sort) xs) ps old new → Tells unit (item_uses i) qs old
    new
item_told unit i xs ps qs old new same same' h =
    retold unit _ _ ps qs old new (ap (flat_map (attribute_uses i.sort)) same) same' h

pub item_means : (names : Reading) (i : Item Path) (j : Item Target)
    (xs : List (Attribute Path)) (bs : List (Attribute Target)) → xs ≡ i.attributes
    → each (resolved_attribute names i.sort) xs ≡ Some bs → j.sort ≡ i.sort → j.name ≡ i.name
    → j.attributes ≡ bs → resolved_item names i ≡ Some j
item_means names i j xs bs same h sort name attributes =
    ap (λ ys. each (resolved_attribute names i.sort) ys >>= (λ zs. Some (made i.sort i.name zs)))
    (sym same)
    ∙ ap (λ o. o >>= (λ zs. Some (made i.sort i.name zs))) h
    ∙ ap (λ s. Some (made s i.name bs)) (sym sort)
    ∙ ap (λ n. Some (made j.sort n bs)) (sym name)
    ∙ ap (λ zs. Some (made j.sort j.name zs)) (sym attributes)
