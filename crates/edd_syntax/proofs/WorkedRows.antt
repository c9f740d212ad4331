-- Worked examples of the rows of written attributes.
use Rattle.std.proofs.Common.{◌≡◌, refl, ℕ, pos, List, [], ◌∷◌}
use Rattle.std.specs.Prelude.{true, Some, None, codes}
use Rattle.edd_syntax.specs.declared.numbers.NumberOption.TheVariants as number_option
use Rattle.edd_syntax.specs.declared.numbers.FormatOption.TheVariants as format_option
use Rattle.edd_syntax.specs.declared.numbers.Kind.TheVariants as kind
use Rattle.edd_syntax.specs.declared.numbers.Attr.{Attr}
use Rattle.edd_syntax.specs.declared.numbers.Attr.TheVariants as attr
use Rattle.edd_syntax.specs.declared.numbers.TextAttribute.TheVariants as text_attribute
use Rattle.edd_syntax.specs.declared.numbers.ItemNo.{ItemNo}
use Rattle.edd_syntax.specs.declared.numbers.ItemNo.TheVariants as item_no
use Rattle.edd_syntax.specs.declared.numbers.AttrRef.{AttrRef}
use Rattle.edd_syntax.specs.declared.types.VarType.TheVariants as var_type
use Rattle.edd_syntax.specs.declared.types.Handling.TheVariants as handling
use Rattle.edd_syntax.specs.declared.types.Operation.TheVariants as operation
use Rattle.edd_syntax.specs.Text.{Text, Quoted}
use Rattle.edd_syntax.specs.Reference.{Path}
use Rattle.edd_syntax.specs.Expression.{Literal}
use Rattle.edd_syntax.specs.Conditional as cond
use Rattle.edd_syntax.specs.Conditional.{Cond, Value}
use Rattle.edd_syntax.specs.Statement.{Nil}
use Rattle.edd_syntax.specs.Item as item
use Rattle.edd_syntax.specs.Item.{Attribute, Item}
use Rattle.edd_syntax.specs.Rows.{rows, rows_of_kind, rows_at, stands_for}

abbrev item_with : item.ItemKind → List (Attribute Path) → Item Path
item_with sort attributes = record { sort = sort; name = codes "i"; attributes = attributes }

abbrev text : Cond Path Text
text = Value (Quoted (codes "a"))

abbrev row : ItemNo → Attr → ℕ → AttrRef
row i a sub = record { item = i; attr = a; sub = sub }

abbrev variable : ℕ → ItemNo
variable n = item_no.Variable (record { 0 = n })

abbrev command : ItemNo
command = item_no.Command (record { 0 = 0 })

abbrev menu : ItemNo
menu = item_no.Menu (record { 0 = 0 })

abbrev collection : ItemNo
collection = item_no.Collection (record { 0 = 0 })

abbrev method : ItemNo
method = item_no.Method (record { 0 = 0 })

abbrev integer : List (item.TypePart Path) → Attribute Path
integer = item.TypeOf (item.Known var_type.Integer (Some 2))

-- a variable with LABEL and TYPE
label_alone : rows (item_with item.VariableItem (item.OneText text_attribute.Label text ∷ integer []
    ∷ []) ∷ []) ≡ row (variable 0) attr.Label 0 ∷ []
unfolding rows_of_kind rows_at stands_for
label_alone = refl

-- a transaction has three rows, whatever is written in it
unwritten_parts : rows (item_with item.CommandItem (item.Transaction None [] ∷ []) ∷ [])
    ≡ row command attr.Transaction 0 ∷ row command attr.Request 0 ∷ row command attr.Reply 0 ∷ []
unfolding rows_of_kind rows_at stands_for
unwritten_parts = refl

abbrev everything : List (Item Path)
everything =
    item_with item.MethodItem (item.Definition Nil ∷ item.Class (codes "C" ∷ []) ∷ [])
    ∷ item_with item.VariableItem
    (integer (item.Element (Value (record { value = pos 1; text = Quoted []; help = None }))
    ∷ (item.OneFormat format_option.EditFormat) text ∷ (item.OneFormat format_option.DisplayFormat) text
    ∷ (item.OneNumber number_option.MaxValue) (Value (Literal 9)) ∷ (item.OneNumber number_option.MinValue) (Value (Literal 1))
    ∷ (item.OneNumber number_option.DefaultValue) (Value (Literal 5)) ∷ []) ∷ item.OneText text_attribute.Label text ∷ [])
    ∷ item_with item.CommandItem (item.Number 1 ∷ item.Operation operation.Read
    ∷ item.Transaction (Some 0) [] ∷ item.ResponseCodes [] ∷ item.Transaction (Some 1) [] ∷ [])
    ∷ item_with item.VariableItem (item.Validity (Value true)
    ∷ item.OneText text_attribute.ConstantUnit text ∷ item.Handling (Value handling.Read)
    ∷ item.Class (codes "C" ∷ []) ∷ item.OneText text_attribute.Help text
    ∷ item.OneText text_attribute.Label text ∷ integer [] ∷ [])
    ∷ item_with (item.CollectionItem kind.Variable) (item.Members [] ∷ [])
    ∷ item_with item.MenuItem (item.Items cond.Nil ∷ [])
    ∷ []

-- every attribute, by kind, attribute, item and position
all_attributes : rows everything
    ≡ row (variable 0) attr.Label 0 ∷ row (variable 1) attr.Label 0
    ∷ row (variable 1) attr.Help 0
    ∷ row (variable 1) attr.Class 0
    ∷ row (variable 1) attr.Handling 0
    ∷ row (variable 1) attr.ConstantUnit 0
    ∷ row (variable 1) attr.Validity 0
    ∷ row (variable 0) attr.DefaultValue 0
    ∷ row (variable 0) attr.MinValue 0
    ∷ row (variable 0) attr.MaxValue 0
    ∷ row (variable 0) attr.DisplayFormat 0
    ∷ row (variable 0) attr.EditFormat 0
    ∷ row (variable 0) attr.Enumerators 0
    ∷ row command attr.Number 0
    ∷ row command attr.Operation 0
    ∷ row command attr.Transaction 0 ∷ row command attr.Transaction 1
    ∷ row command attr.Request 0 ∷ row command attr.Request 1
    ∷ row command attr.Reply 0 ∷ row command attr.Reply 1
    ∷ row command attr.ResponseCodes 0
    ∷ row menu attr.Items 0
    ∷ row collection attr.Members 0
    ∷ row method attr.Class 0
    ∷ row method attr.Definition 0
    ∷ []
unfolding rows_of_kind rows_at stands_for
all_attributes = refl
