-- What names mean. An item's number is the count of items of its kind before it, a local's slot the
-- count of declarators of its method before it. A name means the innermost local that was declared
-- before it and whose block is open there, else the item; `c.m` means the item of the member m of
-- c.
use Rattle.std.specs.Prelude.{ℕ, ◌+◌, Bool, List, [], ◌∷◌, ◌++◌, length, filter, find, map, Option, Some, None, option_map, option_and_then, if◌then◌else◌}
use Rattle.std.specs.Str.{bytes_eq}
use Rattle.std.specs.List.{list_any, flat_map}
use Rattle.edd_syntax.specs.declared.numbers.Kind.{Kind}
use Rattle.edd_syntax.specs.declared.numbers.Kind.TheVariants as kind
use Rattle.edd_syntax.specs.declared.numbers.ItemNo.{ItemNo}
use Rattle.edd_syntax.specs.declared.operators.Builtin.{Builtin}
use Rattle.edd_syntax.specs.declared.operators.Builtin.TheVariants as builtin
use Rattle.edd_syntax.specs.declared.operators.TheConstants.{BUILTINS}
use Rattle.edd_syntax.specs.Text.{Name}
use Rattle.edd_syntax.specs.Reference.{Path, Target, Local, Item, Function}
use Rattle.edd_syntax.specs.Builtins.{builtin_name}
use Rattle.edd_syntax.specs.Numbers.{same_kind, item_number, kind_of}
use Rattle.edd_syntax.specs.Item as item
use Rattle.edd_syntax.specs.Item.{kind_of_item, ItemKind, CollectionItem, Attribute, Members, Member, Description}
use Rattle.edd_syntax.specs.Statement.{Declarator}
use Rattle.edd_syntax.specs.Device.{item_at}

-- what is under a name, the first of that name
abbrev pub look_up : {A : Type 0} → Name → List (Name × A) → Option A
look_up name all = option_map (λ entry. entry.1) (find (λ entry. bytes_eq entry.0 name) all)

-- ---- items

-- how many items of a kind there are
abbrev pub count_of : {R : Type 0} → Kind → List (item.Item R) → ℕ
count_of k items = length (filter (λ i. same_kind (kind_of_item i.sort) k) items)

-- the names and numbers of items after those in `before`
abbrev pub numbered_names : {R : Type 0} → (before items : List (item.Item R))
    → List (Name × ItemNo)
numbered_names before [] = []
numbered_names before (i ∷ rest) =
    (i.name, item_number (kind_of_item i.sort) (count_of (kind_of_item i.sort) before))
    ∷ numbered_names (before ++ i ∷ []) rest

-- the first item of this name
abbrev pub item_named : Description Path → Name → Option ItemNo
item_named unit name = look_up name (numbered_names [] unit.items)

-- ---- members of collections

-- the members that an attribute lists
abbrev pub members_in : {R : Type 0} → Attribute R → List (Member R)
members_in (Members members) = members
members_in _ = []

-- the members that an item lists
abbrev pub members_of : {R : Type 0} → item.Item R → List (Member R)
members_of i = flat_map members_in i.attributes

-- the kind of a collection's members; other items have none
abbrev pub member_kind : ItemKind → Option Kind
member_kind (CollectionItem of) = Some of
member_kind _ = None

-- a member, and the kind after OF
abbrev pub FoundMember : Type 0
FoundMember = Member Path × Kind

-- the first member of this name in a collection, with the kind after OF
abbrev pub member_in : item.Item Path → Name → Option FoundMember
member_in i m =
    elim (member_kind i.sort) [
      | Some of ↦ option_map (λ found. (found, of)) (find (λ x. bytes_eq x.name m) (members_of i))
      | None ↦ None
    ]

-- the item, where it is of this kind
abbrev pub of_kind : Kind → ItemNo → Option ItemNo
of_kind k i = if same_kind (kind_of i) k then Some i else None

-- the item that a member names, which is of the kind after OF
abbrev pub item_of_member : Description Path → FoundMember → Option ItemNo
item_of_member unit found = option_and_then (of_kind found.1) (item_named unit found.0.item.base)

-- the member m of an item
abbrev pub member_at : Description Path → ItemNo → Name → Option FoundMember
member_at unit i m = option_and_then (λ found. member_in found m) (item_at unit i)

-- the item of a member, of a member of it, and so on
abbrev pub along : Description Path → ItemNo → (members : List Name) → Option ItemNo
along unit i [] = Some i
along unit i (m ∷ rest) =
    elim (option_and_then (item_of_member unit) (member_at unit i m)) [
      | Some j ↦ along unit j rest
      | None ↦ None
    ]

-- ---- uses of names

-- the locals that can be used at a place, the innermost first, with their slots
abbrev pub Scope : Type 0
Scope = List (Name × ℕ)

-- the item is of one of these kinds
abbrev pub is_among : List Kind → ItemNo → Bool
is_among kinds i = list_any (same_kind (kind_of i)) kinds

-- what is before an index
abbrev pub array_kinds : List Kind
array_kinds = kind.Array ∷ []

-- an item of one of these kinds
abbrev pub item_meant : Description Path → (kinds : List Kind) → Path → Option Target
item_meant unit kinds path =
    elim (option_and_then (λ i. along unit i path.members) (item_named unit path.base)) [
      | Some i ↦ if is_among kinds i then Some (Item i) else None
      | None ↦ None
    ]

-- a local, which has no members
abbrev pub local_meant : (slot : ℕ) → (members : List Name) → Option Target
local_meant slot [] = Some (Local slot)
local_meant slot (m ∷ rest) = None

-- what a reference means at a place where an item of these kinds may be
abbrev pub meaning : Description Path → Scope → (kinds : List Kind) → Path → Option Target
meaning unit scope kinds path =
    elim (look_up path.base scope) [
      | Some slot ↦ local_meant slot path.members
      | None ↦ item_meant unit kinds path
    ]

-- the array that is meant before an index; a local of the name is no array
abbrev pub array_meant : Description Path → Scope → Path → Option Target
array_meant unit scope path =
    elim (look_up path.base scope) [
      | Some slot ↦ None
      | None ↦ item_meant unit array_kinds path
    ]

-- functions by their names
abbrev pub by_name : List Builtin → List (Name × Builtin)
by_name functions = map (λ f. (builtin_name f, f)) functions

-- the functions that a method may call, by their names
abbrev pub builtins : List (Name × Builtin)
builtins = by_name BUILTINS

-- the function that a call means, by its name
abbrev pub function_meant : Path → Option Target
function_meant path = option_map Function (look_up path.base builtins)

-- ---- where items of which kinds may be

-- all kinds, by their numbers
abbrev pub kinds : List Kind
kinds = kind.Variable ∷ kind.Command ∷ kind.Menu ∷ kind.Collection ∷ kind.Method
    ∷ kind.Array ∷ []

-- expressions and data items refer to variables
abbrev pub variable_kinds : List Kind
variable_kinds = kind.Variable ∷ []

-- what is to run after an abort
abbrev pub method_kinds : List Kind
method_kinds = kind.Method ∷ []

-- what a plain reference may name as an argument of this function
abbrev pub kinds_taken : Builtin → List Kind
kinds_taken builtin.AddAbortMethod = method_kinds
kinds_taken _ = variable_kinds

-- the same of a function by its name; one that does not exist might take any item
abbrev pub argument_kinds : (function : Path) → List Kind
argument_kinds function =
    elim (look_up function.base builtins) [ Some f ↦ kinds_taken f | None ↦ kinds ]

-- a menu shows variables, menus, collections and methods
abbrev pub entry_kinds : List Kind
entry_kinds = kind.Variable ∷ kind.Menu ∷ kind.Collection ∷ kind.Method ∷ []

-- the kinds that a member of an item may have; only collections have members
abbrev pub member_kinds : ItemKind → List Kind
member_kinds (CollectionItem of) = of ∷ []
member_kinds _ = []

-- ---- locals

-- the locals after a declarator, whose slot is `next`
abbrev pub declared : Path → (next : ℕ) → Scope → Scope
declared place next scope = (place.base, next) ∷ scope

-- the locals after a declaration
abbrev pub all_declared : Scope → (next : ℕ) → List (Declarator Path) → Scope
all_declared scope next [] = scope
all_declared scope next (d ∷ rest) = all_declared (declared d.place next scope) (next + 1) rest
