-- The transaction of a row, by number.
use Rattle.std.specs.Prelude.{ℕ, List, [], ◌∷◌, map, Option, Some, None}
use Rattle.edd_syntax.specs.declared.numbers.Attr.TheVariants as attr
use Rattle.edd_syntax.specs.declared.reference.Target.{Target}
use Rattle.edd_syntax.specs.Item as item
use Rattle.edd_syntax.specs.Item.{TransactionPart, Attribute}
use Rattle.edd_attrs.specs.Trees.{Named, Transaction, tree_of_transaction_part}

-- the trees of a transaction: its number, then its REQUESTs and REPLYs
abbrev pub trees_of_transaction : Option ℕ → List (TransactionPart Target) → List Named
trees_of_transaction number parts = (attr.Transaction, Transaction number)
    ∷ map tree_of_transaction_part parts

-- the trees of an attribute that is a transaction
abbrev pub transaction_in : Attribute Target → Option (List Named)
transaction_in (item.Transaction number parts) = Some (trees_of_transaction number parts)
transaction_in _ = None

-- the tree of one part of a transaction, as a list
abbrev pub one_part : TransactionPart Target → List Named
one_part p = tree_of_transaction_part p ∷ []
