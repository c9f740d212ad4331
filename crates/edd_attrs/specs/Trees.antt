-- The tree of one attribute: what is written for it, wherever it is in its item.
use Rattle.std.specs.Prelude.{ℕ, Bool, true, false, List, [], ◌∷◌, ◌++◌, map, slice_get, Option, Some, None, if◌then◌else◌}
use Rattle.edd_syntax.specs.declared.numbers.Attr.{Attr}
use Rattle.edd_syntax.specs.declared.numbers.Attr.TheVariants as attr
use Rattle.edd_syntax.specs.declared.numbers.AttrRef.{AttrRef}
use Rattle.edd_syntax.specs.declared.types.Handling as handling
use Rattle.edd_syntax.specs.declared.types.Operation as operation
use Rattle.edd_syntax.specs.Text as texts
use Rattle.edd_syntax.specs.declared.reference.Target.{Target}
use Rattle.edd_syntax.specs.Expression.{Expr}
use Rattle.edd_syntax.specs.Conditional.{Cond, Conds}
use Rattle.edd_syntax.specs.Item as item
use Rattle.edd_syntax.specs.Item.{DataItem, MenuEntry, TypePart, TransactionPart, Attribute, Description}
use Rattle.edd_syntax.specs.Numbers.{same_attr, text_attr, number_attr, format_attr}
use Rattle.edd_syntax.specs.Device.{item_at}
use Rattle.edd_syntax.specs.Attributes.{is_of_transaction}

-- what is written for one attribute, in one of the forms that attributes have
pub data Tree : Type 0 where
  Texts : Cond Target texts.Text → Tree
  Class : List texts.Name → Tree
  Handling : Cond Target handling.Handling → Tree
  Validity : Cond Target Bool → Tree
  Expressions : Cond Target (Expr Target) → Tree
  -- the parts of a type, of which the elements of its list are the attribute
  Enumerators : List (TypePart Target) → Tree
  Number : ℕ → Tree
  Operation : operation.Operation → Tree
  Transaction : Option ℕ → Tree
  Data : Conds Target (DataItem Target) → Tree
  ResponseCodes : List item.ResponseCode → Tree
  Items : Conds Target (MenuEntry Target) → Tree
  Members : List (item.Member Target) → Tree
  Elements : List (item.ArrayElement Target) → Tree

-- a tree under its attribute
abbrev pub Named : Type 0
Named = Attr × Tree

-- an option of a type; an element has no tree of its own
abbrev pub trees_of_part : TypePart Target → List Named
trees_of_part (item.OneNumber which c) = (number_attr which, Expressions c) ∷ []
trees_of_part (item.OneFormat which c) = (format_attr which, Texts c) ∷ []
trees_of_part (item.Element c) = []

-- the options of a type
abbrev pub trees_of_parts : List (TypePart Target) → List Named
trees_of_parts [] = []
trees_of_parts (p ∷ rest) = trees_of_part p ++ trees_of_parts rest

-- the trees that one written attribute stands for; a TYPE stands for its list of enumerators, which
-- may be empty, and its options
abbrev pub trees_of_attribute : Attribute Target → List Named
trees_of_attribute (item.OneText which c) = (text_attr which, Texts c) ∷ []
trees_of_attribute (item.Class names) = (attr.Class, Class names) ∷ []
trees_of_attribute (item.Handling c) = (attr.Handling, Handling c) ∷ []
trees_of_attribute (item.Validity c) = (attr.Validity, Validity c) ∷ []
trees_of_attribute (item.TypeOf word parts) = (attr.Enumerators, Enumerators parts)
    ∷ trees_of_parts parts
trees_of_attribute (item.Number n) = (attr.Number, Number n) ∷ []
trees_of_attribute (item.Operation o) = (attr.Operation, Operation o) ∷ []
trees_of_attribute (item.Transaction number parts) = []
trees_of_attribute (item.ResponseCodes responses) = (attr.ResponseCodes, ResponseCodes responses)
    ∷ []
trees_of_attribute (item.Items entries) = (attr.Items, Items entries) ∷ []
trees_of_attribute (item.Members members) = (attr.Members, Members members) ∷ []
trees_of_attribute (item.Elements elements) = (attr.Elements, Elements elements) ∷ []
trees_of_attribute (item.Definition body) = []

-- the trees of all attributes of an item, without those of transactions
abbrev pub trees_of : List (Attribute Target) → List Named
trees_of [] = []
trees_of (a ∷ rest) = trees_of_attribute a ++ trees_of rest

-- a REQUEST or a REPLY
abbrev pub tree_of_transaction_part : TransactionPart Target → Named
tree_of_transaction_part (item.Request all) = (attr.Request, Data all)
tree_of_transaction_part (item.Reply all) = (attr.Reply, Data all)

-- the trees of each transaction
abbrev pub transaction_trees : List (Attribute Target) → List (List Named)
transaction_trees [] = []
transaction_trees (item.Transaction number parts ∷ rest) =
    ((attr.Transaction, Transaction number) ∷ map tree_of_transaction_part parts)
    ∷ transaction_trees rest
transaction_trees (_ ∷ rest) = transaction_trees rest

-- the first of an attribute
abbrev pub first_tree : Attr → List Named → Option Tree
first_tree a [] = None
first_tree a (x ∷ rest) = elim (same_attr x.0 a) [ true ↦ Some x.1 | false ↦ first_tree a rest ]

-- the tree of an attribute among those of an item; `sub` is the position of a transaction
abbrev pub tree_in : List (Attribute Target) → Attr → (sub : ℕ) → Option Tree
tree_in attributes a sub =
    if is_of_transaction a
    then elim (slice_get (transaction_trees attributes) sub) [
      | Some trees ↦ first_tree a trees
      | None ↦ None
    ]
    else first_tree a (trees_of attributes)

-- the tree of an attribute, if it is written; a DEFINITION has none, since its code is a method's
unfoldable pub tree_at : Description Target → AttrRef → Option Tree
tree_at unit ref = elim (item_at unit ref.item) [
  | Some i ↦ tree_in i.attributes ref.attr ref.sub
  | None ↦ None
]
