-- How the octets of a message are divided: constants, variables, and variables that share octets.
use Rattle.std.specs.Prelude.{ℕ, ◌-◌, ◌*◌, ◌^◌, ◌<◌, ⊤, ◌+◌, ◌%◌, ◌==◌, Bool, true, false, not, nat_lt, if◌then◌else◌, List, [], ◌∷◌, ◌++◌, bit_and, bit_or}
use Rattle.edd_syntax.specs.declared.numbers.VarNo.{VarNo}
use Rattle.edd_syntax.specs.DeviceValues.{VariableType, type_at}
use Rattle.edd_instructions.specs.declared.records.Record.{Record}
use Rattle.edd_instructions.specs.declared.records.Record.TheVariants as records
use Rattle.edd_octets.specs.declared.fields.Part.{Part}

-- a field of a message: an octet that is always the same, or octets with bits of variables
pub data Field : Type 0 where
  Constant : ℕ → Field
  Variables : List Part → Field

-- ---- how many octets

-- the octets of a number
abbrev pub octets_for : ℕ → ℕ
octets_for n = if nat_lt n (2 ^ 8) then 1
    else (if nat_lt n (2 ^ 16) then 2 else (if nat_lt n (2 ^ 24) then 3 else 4))

-- the bits that some part has
abbrev pub union : List Part → ℕ
union [] = 0
union (p ∷ rest) = bit_or p.mask (union rest)

-- how many octets a field has: as many as its highest bit asks for
abbrev pub width_of : Field → ℕ
width_of (Constant n) = 1
width_of (Variables parts) = octets_for (union parts)

-- how many octets the fields have
abbrev pub length_of : List Field → ℕ
length_of [] = 0
length_of (f ∷ rest) = width_of f + length_of rest

-- ---- which field

-- an INFO item, whose qualifiers have the bit 1, is carried and not kept
abbrev pub is_kept : (qualifiers : ℕ) → Bool
is_kept qualifiers = qualifiers % 2 == 0

-- all bits of a variable
abbrev pub all_bits : VariableType → ℕ
all_bits t = 2 ^ (8 * t.size) - 1

-- some of the mask's bits are taken
abbrev pub overlaps : List Part → (mask : ℕ) → Bool
overlaps begun mask = not (bit_and (union begun) mask == 0)

-- the field that an open one with these parts ends as; without parts there is none
abbrev pub closed : List Part → List Field
closed [] = []
closed (p ∷ rest) = Variables (p ∷ rest) ∷ []

-- the open field, if it ends before an item with this mask: its parts have some of the mask's bits
abbrev pub ended : (begun : List Part) → (mask : ℕ) → List Field
ended begun mask = if overlaps begun mask then closed begun else []

-- the parts of the open field that an item with this mask shares
abbrev pub sharing : (begun : List Part) → (mask : ℕ) → List Part
sharing begun mask = if overlaps begun mask then [] else begun

-- an item with a mask
abbrev pub masked : VarNo → (mask qualifiers : ℕ) → Part
masked v mask qualifiers =
    record { variable = v; mask = mask; is_kept = is_kept qualifiers }

-- an item without a mask, which has all bits of its variable
abbrev pub whole : List VariableType → VarNo → (qualifiers : ℕ) → Part
whole types v qualifiers = masked v (all_bits (type_at types v)) qualifiers

-- The fields of items, where earlier items have left a field open with the parts `begun`. A constant
-- has an octet of its own, and a variable without a mask has octets of its own. Items with masks
-- share a field, which is open until it ends: after an item whose mask has bit 0, before an item
-- whose mask has a bit of an earlier one, before a constant, before a variable without a mask, and
-- at the end of the message. Records that are no items of a message have no octets.
abbrev pub fields_after : List VariableType → (begun : List Part) → List Record → List Field
fields_after types begun [] = closed begun
fields_after types begun (records.DataConst n ∷ rest) =
    closed begun ++ (Constant n ∷ fields_after types [] rest)
fields_after types begun (records.DataVar v mask qualifiers ∷ rest) = elim (mask == 0) [
  | true ↦ closed begun
      ++ (Variables (whole types v qualifiers ∷ []) ∷ fields_after types [] rest)
  | false ↦ ended begun mask ++ elim (mask % 2 == 0) [
    | true ↦ fields_after types (sharing begun mask ++ (masked v mask qualifiers ∷ [])) rest
    | false ↦ Variables (sharing begun mask ++ (masked v mask qualifiers ∷ []))
        ∷ fields_after types [] rest
  ]
]
fields_after types begun (_ ∷ rest) = fields_after types begun rest

-- the fields of a message
abbrev pub fields_of : List VariableType → List Record → List Field
fields_of types items = fields_after types [] items

-- ---- the items of an image

-- a constant has 8 bits, and a mask 32
abbrev pub IsItem : Record → Type 0
IsItem (records.DataConst n) = n < 2 ^ 8
IsItem (records.DataVar v mask qualifiers) = mask < 2 ^ 32
IsItem _ = ⊤

-- each constant has 8 bits, and each mask 32
abbrev pub AreItems : List Record → Type 0
AreItems [] = ⊤
AreItems (r ∷ rest) = IsItem r × AreItems rest
