-- What the rows of a small description hold, worked out by hand.
use Rattle.std.proofs.Common.{◌≡◌, refl, pos, List, [], ◌∷◌, map}
use Rattle.std.specs.Prelude.{Some, None, codes}
use Rattle.edd_syntax.specs.declared.numbers.NumberOption.TheVariants as number_option
use Rattle.edd_syntax.specs.declared.numbers.TextAttribute.TheVariants as text_attribute
use Rattle.edd_syntax.specs.declared.operators.Builtin.TheVariants as builtin
use Rattle.edd_syntax.specs.declared.operators.RequestKind.TheVariants as kind
use Rattle.edd_syntax.specs.declared.reference.Target.{Target}
use Rattle.edd_syntax.specs.declared.reference.Target.TheVariants.{Function}
use Rattle.edd_syntax.specs.declared.types.Operation.TheVariants as operation
use Rattle.edd_syntax.specs.declared.types.VarType.TheVariants as var_type
use Rattle.edd_syntax.specs.Conditional.{Value}
use Rattle.edd_syntax.specs.Expression as expr
use Rattle.edd_syntax.specs.Expression.{Literal, Call}
use Rattle.edd_syntax.specs.Item as item
use Rattle.edd_syntax.specs.Item.{Attribute, Item, Description}
use Rattle.edd_syntax.specs.Rows.{rows, rows_of_kind, rows_at, stands_for}
use Rattle.edd_syntax.specs.Size.{unit_nodes}
use Rattle.edd_syntax.specs.Statement as s
use Rattle.edd_syntax.specs.Text as texts
use Rattle.edd_syntax.specs.Words.{Key, words_of}
use Rattle.edd_attrs.specs.Sizes.{tree_strings, tree_nodes, length_limit}
use Rattle.edd_attrs.specs.Trees.{tree_at}
use Rattle.edd_assembly.specs.RowContents.{strings_of_row, limit_of_row}

abbrev item_with : item.ItemKind → List (Attribute Target) → Item Target
item_with sort attributes = record { sort = sort; name = codes "i"; attributes = attributes }

-- an enumerated variable with a label and a default value, a command with an empty transaction, a
-- method that shows a text
abbrev small : Description Target
small = record {
  identification = record {
    manufacturer = 1;
    device_type = 2;
    device_revision = 3;
    dd_revision = 4;
  };
  items =
      item_with item.VariableItem (
      item.OneText text_attribute.Label (Value (texts.Key (codes "a")))
      ∷ item.TypeOf (item.Known var_type.Enumerated None) (
      item.Element (Value (record {
        value = pos 1;
        text = texts.Key (codes "b");
        help = Some (texts.Key (codes "k"));
      }))
      ∷ (item.OneNumber number_option.DefaultValue) (Value (Literal 5)) ∷ [])
      ∷ [])
      ∷ item_with item.CommandItem (item.Number 1 ∷ item.Operation operation.Read
      ∷ item.Transaction None [] ∷ [])
      ∷ item_with item.MethodItem
      (item.Definition (s.Cons
      (s.Statement (s.Evaluate
      (Call (Function (builtin.Ask kind.Acknowledge))
      (expr.Cons (expr.Text (texts.Key (codes "c"))) expr.Nil)))) s.Nil) ∷ [])
      ∷ [];
}

-- label, default value, enumerators; number, operation, transaction, request, reply; definition
strings_at_rows : map (strings_of_row small) (rows small.items)
    ≡ (Key (codes "a") ∷ []) ∷ [] ∷ (Key (codes "b") ∷ Key (codes "k") ∷ [])
    ∷ [] ∷ [] ∷ [] ∷ [] ∷ []
    ∷ (Key (codes "c") ∷ []) ∷ []
unfolding rows_of_kind rows_at stands_for tree_at tree_strings words_of
strings_at_rows = refl

limits_at_rows : map (limit_of_row small) (rows small.items) ≡ 64 ∷ 96 ∷ 64 ∷ 32 ∷ 32 ∷ 30 ∷ 1 ∷ 1
    ∷ 96 ∷ []
unfolding rows_of_kind rows_at stands_for tree_at tree_nodes length_limit
limits_at_rows = refl

-- 416 octets of 32 * 14
nodes_in_all : unit_nodes small ≡ 14
nodes_in_all = refl
