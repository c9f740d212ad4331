-- The rules on an image, in their order, and valid images.
use Rattle.std.specs.Prelude.{ℕ, ◌+◌, ◌<◌, ◌==◌, Bool, true, false, not, ◌&&◌, ◌||◌, List, [], ◌∷◌, length, map, is_some, nat_lt, nat_le, IsTrue, if◌then◌else◌}
use Rattle.std.specs.List.{AllByRecursion, list_all, list_any}
use Rattle.std.specs.Option.{option_map_or}
use Rattle.edd_syntax.specs.declared.numbers.ItemNo.{ItemNo}
use Rattle.edd_syntax.specs.declared.numbers.Element.{Element}
use Rattle.edd_syntax.specs.declared.numbers.MethNo.{MethNo}
use Rattle.edd_syntax.specs.declared.numbers.Kind.TheVariants as kinds
use Rattle.edd_syntax.specs.declared.numbers.Attr.{Attr}
use Rattle.edd_syntax.specs.declared.numbers.Attr.TheVariants as attr
use Rattle.edd_syntax.specs.Numbers.{kind_number, kind_of, attr_number, attr_from_number, same_attr, has_attr, item_from_numbers}
use Rattle.edd_syntax.specs.Attributes.{is_of_transaction}
use Rattle.edd_syntax.specs.Names.{is_name, is_within}
use Rattle.edd_image.specs.declared.parts.Counts.{Counts}
use Rattle.edd_instructions.specs.declared.unit.Sort.{Sort}
use Rattle.edd_instructions.specs.declared.unit.Sort.TheVariants.{Attribute, Method}
use Rattle.edd_instructions.specs.declared.unit.Context.{Context}
use Rattle.edd_instructions.specs.declared.rules.UnitRule.{UnitRule}
use Rattle.edd_instructions.specs.declared.rules.UnitRule.TheVariants as unit_rule
use Rattle.edd_instructions.specs.declared.rules.Rule.{Rule}
use Rattle.edd_instructions.specs.declared.rules.Rule.TheVariants as rule
use Rattle.edd_image.specs.Existing.{array_exists, variable_exists, item_exists}
use Rattle.edd_image.specs.Fields.{header_length, has_magic, version_number, total_length, code_length, sections_end}
use Rattle.edd_image.specs.Contents.{Span, part, VariableFields, AttributeFields, Contents, version_of, type_of, contents_in}
use Rattle.edd_image.specs.Strings.{is_string}
use Rattle.edd_instructions.specs.declared.instruction.Instruction.{Instruction}
use Rattle.edd_instructions.specs.declared.instruction.Instruction.TheVariants as instruction
use Rattle.edd_instructions.specs.Units.{instructions, UnitKeeps, IsValidUnit}

-- ---- the lengths

-- the most bytes that the code of an image may have, 2 to the power of 24
abbrev pub code_limit : ℕ
code_limit = 16777216

-- the total length is the number of bytes, the sections add up to it, and the code is within its
-- limit
abbrev pub lengths_agree : List ℕ → Bool
lengths_agree b = total_length b == length b
    && (sections_end b == length b && nat_le (code_length b) code_limit)

-- ---- the rows

-- the spans are one after the other, from a place up to the end
abbrev pub fills : ℕ → List Span → (end : ℕ) → Bool
fills place [] end = place == end
fills place (x ∷ xs) end = x.start == place && fills (place + x.size) xs end

-- the type is known, the size is 1 to 4 bytes, and the padding is zero
abbrev pub is_variable_row : VariableFields → Bool
is_variable_row r = is_some (type_of r.type_number) && (is_within 1 4 r.size && r.padding == 0)

-- each row of a variable is valid
abbrev pub are_variable_rows : Contents → Bool
are_variable_rows c = list_all is_variable_row c.variables

-- the padding of each row of a name is zero, and the spans fill the bytes of names
abbrev pub are_name_rows : Contents → Bool
are_name_rows c = list_all (λ r. r.padding == 0) c.names && fills 0 (map (λ r. r.span) c.names)
    (length c.name_bytes)

-- a transaction's position, at most 64 slots of a method, else 0
abbrev pub sub_fits : Attr → ℕ → Bool
sub_fits a sub = is_of_transaction a
    || (if same_attr a attr.Definition then nat_le sub 64 else sub == 0)

-- the item exists and may have the attribute
abbrev pub has_attribute : Counts → ItemNo → Attr → ℕ → Bool
has_attribute counts item a sub = item_exists counts item
    && (has_attr (kind_of item) a && sub_fits a sub)

-- the row names an item that exists and may have the attribute, and its padding is zero
abbrev pub is_attribute_row : Counts → AttributeFields → Bool
is_attribute_row counts r =
    option_map_or (λ item. option_map_or (λ a. has_attribute counts item a r.sub)
    (attr_from_number r.attribute) false) (item_from_numbers r.kind r.item) false
    && r.padding == 0

-- rows rise by kind, attribute, item and sub, and a method has one body
abbrev pub rises : AttributeFields → AttributeFields → Bool
rises r next =
    nat_lt r.kind next.kind || (r.kind == next.kind &&
    (nat_lt r.attribute next.attribute || (r.attribute == next.attribute &&
    (nat_lt r.item next.item || (r.item == next.item &&
    (nat_lt r.sub next.sub && not (r.attribute == attr_number attr.Definition)))))))

-- each row rises to the next
abbrev pub rise : List AttributeFields → Bool
rise [] = true
rise (r ∷ []) = true
rise (r ∷ next ∷ rest) = rises r next && rise (next ∷ rest)

-- each row of an attribute is valid, the rows rise, and their spans fill the code
abbrev pub are_attribute_rows : Contents → Bool
are_attribute_rows c = list_all (is_attribute_row c.counts) c.attributes
    && (rise c.attributes && fills 0 (map (λ r. r.span) c.attributes) (length c.code))

-- the array and the variable of an element exist
abbrev pub is_element_row : Counts → Element → Bool
is_element_row counts e = array_exists counts e.array && variable_exists counts e.var

-- rows rise by array and number
abbrev pub is_element_before : Element → Element → Bool
is_element_before e next = nat_lt e.array.0 next.array.0
    || (e.array.0 == next.array.0 && nat_lt e.number next.number)

-- each row of an element is before the next
abbrev pub elements_rise : List Element → Bool
elements_rise [] = true
elements_rise (e ∷ []) = true
elements_rise (e ∷ next ∷ rest) = is_element_before e next && elements_rise (next ∷ rest)

-- each row of an element names what exists, and the rows rise
abbrev pub are_element_rows : Contents → Bool
are_element_rows c = list_all (is_element_row c.counts) c.elements && elements_rise c.elements

-- the spans of the strings fill the bytes of strings
abbrev pub are_string_rows : Contents → Bool
are_string_rows c = fills 0 c.strings (length c.string_bytes)

-- the rule on rows: the padding of the header is zero, and the rows of each section are valid
abbrev pub are_rows : Contents → Bool
are_rows c = c.padding == 0
    && (are_variable_rows c && (are_name_rows c && (are_attribute_rows c
    && (are_element_rows c && are_string_rows c))))

-- ---- names and strings

-- the rule on names: the bytes of each are a name of the language
abbrev pub are_names : Contents → Bool
are_names c = list_all (λ r. is_name (part r.span c.name_bytes)) c.names

-- the rule on strings: the bytes of each are a string that an image may have
abbrev pub are_strings : Contents → Bool
are_strings c = list_all (λ span. is_string (part span c.string_bytes)) c.strings

-- ---- units

-- the code of an attribute row, and where it is
pub record PlacedUnit : Type 0 where
  pub context : Context
  pub code : List ℕ

-- the row is the one of a method's body
abbrev pub is_body : AttributeFields → Bool
is_body r = r.attribute == attr_number attr.Definition

-- whether the code of a row is a method's or gives an attribute
abbrev pub sort_of : AttributeFields → Sort
sort_of r = if is_body r then Method else Attribute

-- a method's slots
abbrev pub slots_of : AttributeFields → ℕ
slots_of r = if is_body r then r.sub else 0

-- the unit of a row: its part of the code, and the context that the rules on it look at
abbrev pub placed_unit : Contents → AttributeFields → PlacedUnit
placed_unit c r = record {
  context = record { version = c.version; counts = c.counts; sort = sort_of r; slots = slots_of r };
  code = part r.span c.code;
}

-- the units of all attribute rows, in their order
abbrev pub units : Contents → List PlacedUnit
units c = map (placed_unit c) c.attributes

-- the method has a body: a row DEFINITION
abbrev pub has_body : Contents → MethNo → Bool
has_body c m = list_any (λ r. r.kind == kind_number kinds.Method && (is_body r && r.item == m.0))
    c.attributes

-- where it adds an abort method, that has a body
abbrev pub adds_with_body : Contents → Instruction → Bool
adds_with_body c (instruction.AddAbortMethod m) = has_body c m
adds_with_body c _ = true

-- so do all instructions of all units
abbrev pub all_add_with_body : Contents → Bool
all_add_with_body c = list_all (λ u. list_all (λ x. adds_with_body c x.instruction)
    (instructions u.code)) (units c)

-- each unit keeps the rule by itself
abbrev pub EachUnitKeeps : Contents → UnitRule → Type 0
EachUnitKeeps c which = AllByRecursion (λ u. UnitKeeps u.context u.code which) (units c)

-- the units keep the rule; that on references also asks that each abort method that one adds has a
-- body
abbrev pub UnitsKeep : Contents → UnitRule → Type 0
UnitsKeep c unit_rule.Chain = EachUnitKeeps c unit_rule.Chain
UnitsKeep c unit_rule.Jump = EachUnitKeeps c unit_rule.Jump
UnitsKeep c unit_rule.Depth = EachUnitKeeps c unit_rule.Depth
UnitsKeep c unit_rule.Reference = EachUnitKeeps c unit_rule.Reference
    × IsTrue (all_add_with_body c)

-- ---- the rules, the first that is broken, and valid images

-- The bytes keep this rule.
abbrev pub Keeps : List ℕ → Rule → Type 0
Keeps b rule.Short = IsTrue (nat_le header_length (length b))
Keeps b rule.Magic = IsTrue (has_magic b)
Keeps b rule.Version = IsTrue (is_some (version_of (version_number b)))
Keeps b rule.Length = IsTrue (lengths_agree b)
Keeps b rule.Row = IsTrue (are_rows (contents_in b))
Keeps b rule.Name = IsTrue (are_names (contents_in b))
Keeps b rule.Text = IsTrue (are_strings (contents_in b))
Keeps b (rule.Unit which) = UnitsKeep (contents_in b) which

-- the number of the fault that is given where a rule is broken
abbrev pub fault_number : Rule → ℕ
fault_number rule.Short = 101
fault_number rule.Magic = 102
fault_number rule.Version = 103
fault_number rule.Length = 104
fault_number rule.Row = 105
fault_number rule.Name = 106
fault_number rule.Text = 107
fault_number (rule.Unit unit_rule.Chain) = 108
fault_number (rule.Unit unit_rule.Jump) = 109
fault_number (rule.Unit unit_rule.Depth) = 110
fault_number (rule.Unit unit_rule.Reference) = 111

-- it breaks this rule, and none before it
abbrev pub BreaksFirst : List ℕ → Rule → Type 0
BreaksFirst b broken = ((earlier : Rule) → fault_number earlier < fault_number broken
    → Keeps b earlier) × (¬ Keeps b broken)

-- The bytes are a valid image: they keep every rule.
abbrev pub IsValid : List ℕ → Type 0
IsValid b = (which : Rule) → Keeps b which

-- what the rules on rows, names, strings and units ask of the contents
pub record IsSound (c : Contents) : Type 0 where
  pub rows : IsTrue (are_rows c)
  pub names : IsTrue (are_names c)
  pub strings : IsTrue (are_strings c)
  pub valid_units : AllByRecursion (λ u. IsValidUnit u.context u.code) (units c)
  pub abort_methods : IsTrue (all_add_with_body c)
