-- What lowering an attribute results in.
use Rattle.std.specs.Prelude.{◌≡◌, ℕ, List, ◌++◌, Option}
use Rattle.edd_syntax.specs.Words.{Words}
use Rattle.edd_instructions.specs.Agreement.{string_of_table}
use Rattle.edd_code.specs.Blocks.{Block, unit_code}
use Rattle.edd_code.specs.Tables.{GrowsBy, Overflows}
use Rattle.edd_attrs.specs.Sizes.{strings_of_tree}
use Rattle.edd_attrs.specs.Trees.{Tree}
use Rattle.edd_attrs.specs.TreeBlocks.{IsBlockOf}

-- the code is the unit of the tree's block, and the table grew by the tree's strings
pub record LowersTree (old : List Words) (tree : Option Tree) (new : List Words)
    (code : List ℕ) : Type 0 where
  pub table : GrowsBy old (strings_of_tree tree) new
  pub block : Block
  pub is_unit : code ≡ unit_code block
  pub is : (later : List Words) → IsBlockOf (string_of_table (new ++ later)) tree block

-- there are more than 65,535 different strings among those of the table and the tree's
abbrev pub OverflowsTree : (old : List Words) → Option Tree → Type 0
OverflowsTree old tree = Overflows old (strings_of_tree tree)
