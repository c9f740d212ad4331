-- What is told of attributes: of what is under conditions, and of the bodies of methods.
use Rattle.std.specs.Prelude.{List, []}
use Rattle.std.specs.List.{flat_map}
use Rattle.edd_breaches.specs.Told.{Told}
use Rattle.edd_syntax.specs.declared.reference.Target.{Target}
use Rattle.edd_syntax.specs.declared.item.Attribute.{Attribute}
use Rattle.edd_syntax.specs.declared.item.Attribute.TheVariants as attribute
use Rattle.edd_syntax.specs.declared.item.TypePart.{TypePart}
use Rattle.edd_syntax.specs.declared.item.TypePart.TheVariants as part
use Rattle.edd_syntax.specs.declared.item.TransactionPart.{TransactionPart}
use Rattle.edd_syntax.specs.declared.item.TransactionPart.TheVariants as transaction
use Rattle.edd_types.specs.declared.sought.Sought.{Sought}
use Rattle.edd_types.specs.Expressions.{condition_told, part_told}
use Rattle.edd_types.specs.Conditionals.{nothing_told, enumerator_told, data_told, cond_told}

-- of an option of a type, or of an element of its list
abbrev pub type_part_told : Sought → TypePart Target → List Told
type_part_told s (part.OneNumber at which value) = cond_told s (condition_told s) value
type_part_told s (part.OneFormat at which format) = cond_told s (nothing_told s) format
type_part_told s (part.Element element) = cond_told s (enumerator_told s) element

-- of a REQUEST or a REPLY
abbrev pub transaction_part_told : Sought → TransactionPart Target → List Told
transaction_part_told s (transaction.Request at all) = flat_map (cond_told s (data_told s)) all.items
transaction_part_told s (transaction.Reply at all) = flat_map (cond_told s (data_told s)) all.items

-- of what an attribute has under conditions
abbrev pub conditions_told : Sought → Attribute Target → List Told
conditions_told s (attribute.OneText at which c) = cond_told s (nothing_told s) c
conditions_told s (attribute.Handling at c) = cond_told s (nothing_told s) c
conditions_told s (attribute.Validity at c) = cond_told s (nothing_told s) c
conditions_told s (attribute.TypeOf at word parts) = flat_map (type_part_told s) parts.items
conditions_told s (attribute.Transaction at number parts) =
    flat_map (transaction_part_told s) parts.items
conditions_told s (attribute.Items at entries) = flat_map (cond_told s (nothing_told s)) entries.items
conditions_told s _ = []

-- of the expressions of a method
abbrev pub method_told : Sought → Attribute Target → List Told
method_told s (attribute.Definition at parts) = flat_map (part_told s) parts.items
method_told s _ = []
