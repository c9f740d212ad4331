-- Names that are there twice, each at its token. `before` are the names so far.
use Rattle.std.specs.Prelude.{List, [], ◌∷◌, ◌++◌}
use Rattle.edd_breaches.specs.Told.{Told}
use Rattle.edd_duplicates.specs.Names.{name_told}
use Rattle.edd_syntax.specs.declared.item.Item.{Item}
use Rattle.edd_syntax.specs.declared.item.Attribute.{Attribute}
use Rattle.edd_syntax.specs.declared.item.Attribute.TheVariants.{Members, Definition}
use Rattle.edd_syntax.specs.declared.item.Member.{Member}
use Rattle.edd_syntax.specs.declared.reference.Path.{Path}
use Rattle.edd_syntax.specs.declared.stmt.Stmt.{Stmt, Row_of-Part, end_of-Part, more_of-Part}
use Rattle.edd_syntax.specs.declared.stmt.Stmt.TheVariants.{Empty, Evaluate, Block', If', IfElse', While', Do', For', Switch', Break, Continue, Return}
use Rattle.edd_syntax.specs.declared.stmt.Part.{Part}
use Rattle.edd_syntax.specs.declared.stmt.Part.TheVariants.{Declare, Statement, CaseLabel, DefaultLabel}
use Rattle.edd_syntax.specs.declared.stmt.Declarator.{Declarator}
use Rattle.edd_syntax.specs.ItemView.{name_of, attributes_of}
use Rattle.edd_syntax.specs.WordsView.{text_bytes}
use Rattle.edd_syntax.specs.Text.{Name}
use Rattle.edd_breaches.specs.Along.{told_along, after_all}
use Rattle.edd_syntax.specs.Places.{name_at}

-- a local of a block
abbrev pub local_told : (before : List Name) → Declarator Path → List Told
local_told before d = name_told before (text_bytes d.place.base) d.place.at

-- the names after it
abbrev pub with_local : (before : List Name) → Declarator Path → List Name
with_local before d = text_bytes d.place.base ∷ before

-- the names of a block after a part of it
abbrev pub with_locals : (before : List Name) → Part Path → List Name
with_locals before (Declare declarators) = after_all with_local before declarators.items
with_locals before _ = before

abbrev mutual
  -- the blocks inside a statement; braces are blocks of their own
  pub inside_told : Stmt Path → List Told
  inside_told Empty = []
  inside_told (Evaluate e) = []
  inside_told (Block' shape parts) = locals_told [] parts
  inside_told (If' test p first) = inside_told first
  inside_told (IfElse' test p first q otherwise) = inside_told first ++ inside_told otherwise
  inside_told (While' test p body) = inside_told body
  inside_told (Do' p body test) = inside_told body
  inside_told (For' initial test update p body) = inside_told body
  inside_told (Switch' on shape parts) = locals_told [] parts
  inside_told (Break at) = []
  inside_told (Continue at) = []
  inside_told Return = []

  -- the parts of a block
  pub locals_told : {n : _} → (before : List Name) → Row_of-Part Path n → List Told
  locals_told before end_of-Part = []
  locals_told before (more_of-Part first rest) = part_told before first
      ++ locals_told (with_locals before first) rest

  -- a part of a block
  pub part_told : (before : List Name) → Part Path → List Told
  part_told before (Declare declarators) = told_along local_told with_local before declarators.items
  part_told before (Statement s) = inside_told s
  part_told before (CaseLabel at label) = []
  part_told before (DefaultLabel at) = []

-- a member of a collection
abbrev pub member_told : (before : List Name) → Member Path → List Told
member_told before m = name_told before (text_bytes m.name) m.at

-- the names after it
abbrev pub with_member : (before : List Name) → Member Path → List Name
with_member before m = text_bytes m.name ∷ before

-- the names of members after an attribute
abbrev pub with_members : (before : List Name) → Attribute Path → List Name
with_members before (Members at members) = after_all with_member before members.items
with_members before _ = before

-- the members that an attribute lists, and the blocks in it
abbrev pub members_told : (before : List Name) → Attribute Path → List Told
members_told before (Members at members) = told_along member_told with_member before members.items
members_told before (Definition at parts) = told_along part_told with_locals [] parts.items
members_told before _ = []

-- an item, and what is in it
abbrev pub item_told : (before : List Name) → Item Path → List Told
item_told before i = name_told before (name_of i) (name_at i)
    ++ told_along members_told with_members [] (attributes_of i)

-- the names of items after it
abbrev pub with_item : (before : List Name) → Item Path → List Name
with_item before i = name_of i ∷ before

-- the items of a description
abbrev pub names_told : List (Item Path) → List Told
names_told items = told_along item_told with_item [] items
