-- The strings and the nodes of an attribute's tree, and how long its code may be.
use Rattle.std.specs.Prelude.{ℕ, ◌+◌, ◌*◌, List, [], length, map, sum, Option, Some, None}
use Rattle.std.specs.List.{flat_map}
use Rattle.edd_syntax.specs.declared.numbers.AttrRef.{AttrRef}
use Rattle.edd_syntax.specs.declared.reference.Target.{Target}
use Rattle.edd_syntax.specs.Item as item
use Rattle.edd_syntax.specs.Item.{TypePart, Description}
use Rattle.edd_syntax.specs.Text as texts
use Rattle.edd_syntax.specs.Words.{Words, name_words}
use Rattle.edd_syntax.specs.SubsetRules.{values_in, values_of}
use Rattle.edd_syntax.specs.Strings.{enumerator_texts, entry_texts, array_element_texts, strings_of_texts, member_strings}
use Rattle.edd_syntax.specs.Size.{nodes, leaf, cond_nodes, conds_nodes}
use Rattle.edd_attrs.specs.Trees.{Tree, Texts, Class, Handling, Validity, Expressions, Enumerators, Number, Operation, Transaction, Data, ResponseCodes, Items, Members, Elements, tree_at}

-- ---- strings

-- the texts of all enumerators in a part of a type
abbrev pub element_texts : TypePart Target → List texts.Text
element_texts (item.Element c) = flat_map enumerator_texts (values_in c)
element_texts _ = []

-- the strings of all branches
unfoldable pub tree_strings : Tree → List Words
tree_strings (Texts c) = strings_of_texts (values_in c)
tree_strings (Class names) = map name_words names
tree_strings (Enumerators parts) = strings_of_texts (flat_map element_texts parts)
tree_strings (ResponseCodes responses) = strings_of_texts (map (λ r. r.text) responses)
tree_strings (Items entries) = strings_of_texts (flat_map entry_texts (values_of entries))
tree_strings (Members members) = flat_map member_strings members
tree_strings (Elements all) = strings_of_texts (flat_map array_element_texts all)
tree_strings _ = []

-- the strings of the tree of a row, if the row has one
abbrev pub strings_of_tree : Option Tree → List Words
strings_of_tree None = []
strings_of_tree (Some t) = tree_strings t

-- the strings of an attribute
abbrev pub strings_at : Description Target → AttrRef → List Words
strings_at unit ref = strings_of_tree (tree_at unit ref)

-- ---- nodes

-- the nodes of the element that a part of a type may be; an option is an attribute of its own
abbrev pub element_nodes : TypePart Target → ℕ
element_nodes (item.Element c) = cond_nodes leaf c
element_nodes _ = 0

-- a written attribute is a node; a transaction and its number are one together
unfoldable pub tree_nodes : Tree → ℕ
tree_nodes (Texts c) = 1 + cond_nodes leaf c
tree_nodes (Class names) = 1 + length names
tree_nodes (Handling c) = 1 + cond_nodes leaf c
tree_nodes (Validity c) = 1 + cond_nodes leaf c
tree_nodes (Expressions c) = 1 + cond_nodes nodes c
tree_nodes (Enumerators parts) = 1 + sum (map element_nodes parts)
tree_nodes (Number n) = 1
tree_nodes (Operation o) = 1
tree_nodes (Transaction number) = 1
tree_nodes (Data all) = 1 + conds_nodes leaf all
tree_nodes (ResponseCodes responses) = 1 + length responses
tree_nodes (Items entries) = 1 + conds_nodes leaf entries
tree_nodes (Members members) = 1 + length members
tree_nodes (Elements all) = 1 + length all

-- ---- the length of code: 32 bytes a node, a transaction's number 30, and 1 for an attribute that
-- isn't written

-- how many bytes of code the tree of a row may have at most
unfoldable pub length_limit : Option Tree → ℕ
length_limit None = 1
length_limit (Some (Transaction number)) = 30
length_limit (Some t) = 32 * tree_nodes t
