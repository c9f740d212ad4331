-- The transactions of a list of attributes, one attribute at a time.
use Rattle.std.proofs.Common.{◌≡◌, refl, List, ◌∷◌, ◌++◌}
use Rattle.std.specs.Option.{option_to_list}
use Rattle.edd_syntax.specs.declared.reference.Target.{Target}
use Rattle.edd_syntax.specs.Item as item
use Rattle.edd_syntax.specs.Item.{Attribute}
use Rattle.edd_attrs.specs.Trees.{transaction_trees}
use Rattle.edd_attrs.specs.Rows.{transaction_in}

pub transactions_split : (y : Attribute Target) (ys : List (Attribute Target))
    → transaction_trees (y ∷ ys) ≡ option_to_list (transaction_in y) ++ transaction_trees ys
transactions_split (item.OneText which c) ys = refl
transactions_split _ ys = refl
