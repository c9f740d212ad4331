-- What is told of the rules of the profile, rule after rule.
use Rattle.std.specs.Prelude.{false, List, [], ◌++◌, map, if◌then◌else◌}
use Rattle.std.specs.List.{flat_map}
use Rattle.edd_syntax.specs.declared.numbers.NumberOption.TheVariants as number_option
use Rattle.edd_breaches.specs.Told.{Told, told_at, told_if}
use Rattle.edd_breaches.specs.declared.breach.Rule.{Rule}
use Rattle.edd_breaches.specs.declared.breach.Rule.TheVariants as rule
use Rattle.edd_syntax.specs.declared.numbers.TokenNo.{TokenNo}
use Rattle.edd_syntax.specs.declared.reference.Target.{Target}
use Rattle.edd_syntax.specs.declared.types.VarType.{VarType}
use Rattle.edd_syntax.specs.declared.item.Item.{Item}
use Rattle.edd_syntax.specs.declared.item.Attribute.{Attribute}
use Rattle.edd_syntax.specs.declared.item.Attribute.TheVariants as attribute
use Rattle.edd_syntax.specs.declared.item.TypeWord.{TypeWord}
use Rattle.edd_syntax.specs.declared.item.TypeWord.TheVariants as word
use Rattle.edd_syntax.specs.declared.item.TypePart.{TypePart}
use Rattle.edd_syntax.specs.declared.item.TypePart.TheVariants as part
use Rattle.edd_syntax.specs.Text.{Name}
use Rattle.edd_syntax.specs.ItemView.{type_word_of, name_of, attributes_of}
use Rattle.edd_syntax.specs.Refusal.{Mismatch}
use Rattle.edd_syntax.specs.SubsetRules.{type_breaches, is_enumerated, no_labels}
use Rattle.edd_types.specs.declared.sought.Calls.{Calls}
use Rattle.edd_types.specs.declared.sought.Sought.TheVariants as sought
use Rattle.edd_breaches.specs.Along.{told_along}
use Rattle.edd_types.specs.Attributes.{type_part_told, transaction_part_told, conditions_told, method_told}
use Rattle.edd_types.specs.Breaks.{breaks_told_of}
use Rattle.edd_types.specs.Labels.{labels_told, labels_behind}
use Rattle.edd_duplicates.specs.Elements.{element_told, numbers_behind}

-- ---- types

-- of a type as it is written for a variable
abbrev pub word_told : (variable : Name) → TypeWord → (at : TokenNo) → List Told
word_told variable type at = map (λ why. told_at why at) (type_breaches variable (type_word_of type))

-- of the type in an attribute of a variable
abbrev pub type_told : (variable : Name) → Attribute Target → List Told
type_told variable (attribute.TypeOf at type parts) = word_told variable type at
type_told variable _ = []

-- ---- options and enumerators that a type does not have

-- of an option of such a type, or of an element of its list
abbrev pub option_told : VarType → TypePart Target → List Told
option_told type (part.OneNumber at number_option.DefaultValue value) = []
option_told type (part.OneNumber at which value) = told_if (is_enumerated type) Mismatch at
option_told type (part.OneFormat at which format) = told_if (is_enumerated type) Mismatch at
option_told type (part.Element element) =
    if is_enumerated type then [] else type_part_told sought.Enumerator (part.Element element)

-- of the options in an attribute
abbrev pub options_told : Attribute Target → List Told
options_told (attribute.TypeOf at (word.Known type size) parts) =
    flat_map (option_told type) parts.items
options_told _ = []

-- ---- the other rules

-- of `break` and `continue` in an attribute
abbrev pub breaks_told_in_method : Attribute Target → List Told
breaks_told_in_method (attribute.Definition at parts) =
    flat_map (breaks_told_of false false) parts.items
breaks_told_in_method _ = []

-- of constants and masks in an attribute
abbrev pub constants_told : Attribute Target → List Told
constants_told (attribute.Transaction at number parts) =
    flat_map (transaction_part_told sought.Constant) parts.items
constants_told _ = []

-- of the labels in an attribute
abbrev pub labels_told_in_method : Attribute Target → List Told
labels_told_in_method (attribute.Definition at parts) =
    told_along labels_told labels_behind no_labels parts.items
labels_told_in_method _ = []

-- of the elements in an attribute
abbrev pub elements_told : Attribute Target → List Told
elements_told (attribute.Elements at elements) =
    told_along element_told numbers_behind [] elements.items
elements_told _ = []

-- ---- all rules

-- of a rule in an attribute; types are told of by themselves, and the rules on names elsewhere
abbrev pub attribute_told : Calls → Rule → Attribute Target → List Told
attribute_told which rule.Mismatch a = options_told a
    ++ (method_told (sought.Call which) a ++ conditions_told (sought.Call which) a)
attribute_told which rule.FloatValue a = method_told sought.Decimal a ++ conditions_told sought.Decimal a
attribute_told which rule.BreakOutside a = breaks_told_in_method a
attribute_told which rule.ConstRange a = constants_told a
attribute_told which rule.DuplicateCase a = labels_told_in_method a ++ conditions_told sought.Default a
attribute_told which rule.DuplicateElement a = elements_told a
attribute_told which _ a = []

-- of a rule in items
abbrev pub rule_told : Calls → Rule → List (Item Target) → List Told
rule_told which r items = flat_map (λ i. flat_map (attribute_told which r) (attributes_of i)) items

-- of the types of variables
abbrev pub types_told : List (Item Target) → List Told
types_told items = flat_map (λ i. flat_map (type_told (name_of i)) (attributes_of i)) items

-- all that is told, rule after rule
unfoldable pub all_told : Calls → List (Item Target) → List Told
all_told which items =
    types_told items ++ (rule_told which rule.Mismatch items
    ++ (rule_told which rule.FloatValue items ++ (rule_told which rule.BreakOutside items
    ++ (rule_told which rule.ConstRange items ++ (rule_told which rule.DuplicateCase items
    ++ rule_told which rule.DuplicateElement items)))))
