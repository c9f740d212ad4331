-- A description with a menu in a collection, and that in another one.
use Rattle.std.specs.Prelude.{ℕ, List, [], ◌∷◌, None}
use Rattle.edd_syntax.specs.declared.numbers.Kind.TheVariants as kind
use Rattle.edd_syntax.specs.Text.{Name}
use Rattle.edd_syntax.specs.Reference.{Path}
use Rattle.edd_syntax.specs.Item as item
use Rattle.edd_syntax.specs.Item.{CollectionItem, Description, ItemKind, Member, Members, MenuItem, VariableItem}

-- the name of one letter
abbrev pub letter : ℕ → Name
letter code = code ∷ []

-- `a`
abbrev pub a : Name
a = letter 0x61

-- `b`
abbrev pub b : Name
b = letter 0x62

-- `c`
abbrev pub c : Name
c = letter 0x63

-- `d`
abbrev pub d : Name
d = letter 0x64

-- `m`
abbrev pub m : Name
m = letter 0x6d

-- `n`
abbrev pub n : Name
n = letter 0x6e

-- `v`
abbrev pub v : Name
v = letter 0x76

-- a name with these members behind it
abbrev pub path : (base : Name) → (members : List Name) → Path
path base members = record { base = base; members = members }

-- the member of this name, which is an item
abbrev pub member : (name item : Name) → Member Path
member name item = record { name = name; item = path item []; label = None; help = None }

-- an item without attributes
abbrev pub plain : ItemKind → Name → item.Item Path
plain sort name = record { sort = sort; name = name; attributes = [] }

-- a collection with one member
abbrev pub collection : ItemKind → (name : Name) → Member Path → item.Item Path
collection sort name only =
    record { sort = sort; name = name; attributes = Members (only ∷ []) ∷ [] }

-- VARIABLE v, MENU n, MENU m, COLLECTION OF MENU c { MEMBERS { a, m; } } and
-- COLLECTION OF COLLECTION d { MEMBERS { b, c; } }
abbrev pub with_collections : Description Path
with_collections = record {
  identification = record {
    manufacturer = 1;
    device_type = 2;
    device_revision = 3;
    dd_revision = 4;
  };
  items = plain VariableItem v ∷ plain MenuItem n ∷ plain MenuItem m
      ∷ collection (CollectionItem kind.Menu) c (member a m)
      ∷ collection (CollectionItem kind.Collection) d (member b c)
      ∷ [];
}
