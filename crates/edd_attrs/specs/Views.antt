-- What the trees in the code stand for.
use Rattle.std.specs.Prelude.{ℕ, List, Option, map}
use Rattle.std.specs.Borrow.{Bor}
use Rattle.edd_syntax.specs.TreeView.{numbered_expr}
use Rattle.edd_syntax.specs.WordsView.{text_bytes, text_of}
use Rattle.edd_syntax.specs.ItemView.{response_code_of, numbered_cond, numbered_conds, numbered_data_item, numbered_entry, numbered_member, numbered_array_element, numbered_transaction_part, numbered_type_part}
use Rattle.edd_attrs.specs.declared.trees.Tree.{Tree}
use Rattle.edd_attrs.specs.declared.trees.Tree.TheVariants as tree
use Rattle.edd_syntax.specs.declared.item.TransactionPart.{TransactionPart}
use Rattle.edd_syntax.specs.declared.reference.Target.{Target}
use Rattle.edd_attrs.specs.Trees as trees
use Rattle.edd_attrs.specs.Rows.{trees_of_transaction}

-- a tree of the code as the pure tree, with items by number
abbrev pub tree_of : Tree → trees.Tree
tree_of (tree.Texts c) = trees.Texts (numbered_cond text_of c.now)
tree_of (tree.Class names) = trees.Class (map text_bytes names.now)
tree_of (tree.Handling c) = trees.Handling (numbered_cond (λ h. h) c.now)
tree_of (tree.Validity c) = trees.Validity (numbered_cond (λ b. b) c.now)
tree_of (tree.Expressions c) = trees.Expressions (numbered_cond numbered_expr c.now)
tree_of (tree.Enumerators parts) = trees.Enumerators (map numbered_type_part parts.now)
tree_of (tree.Number n) = trees.Number n
tree_of (tree.Operation o) = trees.Operation o
tree_of (tree.Transaction number) = trees.Transaction number
tree_of (tree.Data all) = trees.Data (numbered_conds numbered_data_item all.now)
tree_of (tree.ResponseCodes responses) = trees.ResponseCodes (map response_code_of responses.now)
tree_of (tree.Items entries) = trees.Items (numbered_conds numbered_entry entries.now)
tree_of (tree.Members members) = trees.Members (map numbered_member members.now)
tree_of (tree.Elements all) = trees.Elements (map numbered_array_element all.now)

-- a transaction's number and parts
abbrev pub transaction_of : Option ℕ × Bor (List (TransactionPart Target)) → List trees.Named
transaction_of t = trees_of_transaction t.0 (map numbered_transaction_part t.1.now)
