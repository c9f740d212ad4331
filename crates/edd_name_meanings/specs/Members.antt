-- The members of collections by their names.
use Rattle.std.specs.Prelude.{◌≡◌, ℕ, List, [], ◌∷◌, Option, Some, None, find, map, option_map}
use Rattle.std.specs.List.{flat_map}
use Rattle.std.specs.Str.{bytes_eq}
use Rattle.std.specs.HashMap.{HashMap}
use denote.Ref.{Bor}
use Rattle.edd_name_meanings.specs.declared.members.Collection.{Collection}
use Rattle.edd_name_meanings.specs.Numbering.{at}
use Rattle.edd_syntax.specs.declared.item.Attribute.{Attribute}
use Rattle.edd_syntax.specs.declared.item.Member as code
use Rattle.edd_syntax.specs.declared.reference.Path as code_path
use Rattle.edd_syntax.specs.Text.{Name}
use Rattle.edd_syntax.specs.Reference.{Path}
use Rattle.edd_syntax.specs.Item.{Item, Member}
use Rattle.edd_syntax.specs.ItemView.{attribute_of, member_of}
use Rattle.edd_syntax.specs.Resolution.{FoundMember, member_in, members_in}
use Rattle.edd_syntax.specs.TreeView.{path_of}

-- the member at a name
abbrev pub member_named : {S : Type 0} → Name
    → HashMap (Bor (List ℕ)) (Bor (code.Member code_path.Path)) S → Option (Member Path)
member_named q m = option_map (λ r. member_of path_of r.now) (at q m)

-- the first member of a name that attributes list
abbrev pub member_listed : Name → List (Attribute code_path.Path) → Option (Member Path)
member_listed q attributes = find (λ m. bytes_eq m.name q)
    (flat_map members_in (map (attribute_of path_of) attributes))

-- the member of this name in a collection, which has its members by their names or is looked
-- through
abbrev pub member_of_name : Collection → Name → Option (Member Path)
member_of_name c q = elim c.by_name [
  | Some members ↦ member_named q members
  | None ↦ member_listed q c.attributes.now
]

-- the member of this name in a collection, with the kind of the collection's members
abbrev pub found_in : Collection → Name → Option FoundMember
found_in c q = option_map (λ m. (m, c.of)) (member_of_name c q)

-- these are the collections among items, in their order
abbrev pub AreCollections : List Collection → List (Item Path) → Type 0
AreCollections [] [] = Unit {0}
AreCollections [] (i ∷ is) = ⊥
AreCollections (c ∷ cs) [] = ⊥
AreCollections (c ∷ cs) (i ∷ is) = ((q : Name) → found_in c q ≡ member_in i q)
    × AreCollections cs is
