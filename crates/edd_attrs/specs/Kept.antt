-- What lowering needs of a tree: in texts each backslash begins an escape, keys are names, and
-- constants are octets.
use Rattle.std.specs.Prelude.{Bool, true, Option, Some, None}
use Rattle.std.specs.List.{list_all}
use Rattle.edd_syntax.specs.WellFormed.{is_text}
use Rattle.edd_syntax.specs.SubsetRules.{values_in, values_of}
use Rattle.edd_attrs.specs.Records.{kept_enumerator, kept_entry, kept_data, kept_response, kept_member, kept_array_element}
use Rattle.edd_attrs.specs.Trees.{Tree, Texts, Enumerators, Data, ResponseCodes, Items, Members, Elements}
use Rattle.edd_attrs.specs.TreeBlocks.{elements}

-- lowering can take the tree: all that it needs of it holds
unfoldable pub is_kept_tree : Tree → Bool
is_kept_tree (Texts c) = list_all is_text (values_in c)
is_kept_tree (Enumerators parts) = list_all kept_enumerator (values_of (elements parts))
is_kept_tree (Data all) = list_all kept_data (values_of all)
is_kept_tree (ResponseCodes responses) = list_all kept_response responses
is_kept_tree (Items entries) = list_all kept_entry (values_of entries)
is_kept_tree (Members members) = list_all kept_member members
is_kept_tree (Elements all) = list_all kept_array_element all
is_kept_tree _ = true

-- the same of the tree of a row, if the row has one
abbrev pub is_kept_row : Option Tree → Bool
is_kept_row None = true
is_kept_row (Some t) = is_kept_tree t
