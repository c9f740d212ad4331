-- What is taken from octets that came: the sets of variables, or why they are not octets of these
-- fields.
use Rattle.std.specs.Prelude.{ℕ, ◌+◌, ◌*◌, ◌^◌, ◌==◌, Bool, true, false, nat_lt, if◌then◌else◌, ℤ, List, [], ◌∷◌, ◌++◌, length, take, drop, Option, Some, None, Result, Ok, Err, slice_set}
use Rattle.edd_syntax.specs.declared.numbers.VarNo.{VarNo}
use Rattle.edd_syntax.specs.Answers.{Change}
use Rattle.edd_syntax.specs.DeviceValues.{VariableType, type_at, value_at}
use Rattle.edd_octets.specs.declared.fault.OctetsFault.{OctetsFault}
use Rattle.edd_octets.specs.declared.fault.OctetsFault.TheVariants.{OutOfType, TooLong, TooShort, WrongConstant}
use Rattle.edd_octets.specs.declared.fields.Part.{Part}
use Rattle.edd_octets.specs.Fields.{Field, Constant, Variables, length_of, width_of}
use Rattle.edd_octets.specs.Masks.{bits_of, named_by, picked, renewed, value_of}

-- bits of a variable that came
pub record Received : Type 0 where
  pub variable : VarNo
  -- which bits
  pub named : ℕ
  -- what they are
  pub bits : ℕ

-- the number that octets are, the highest one first, after what came before them
abbrev pub number_after : ℕ → List ℕ → ℕ
number_after n [] = n
number_after n (octet ∷ rest) = number_after (n * 256 + octet) rest

-- the number that octets are
abbrev pub number_of : List ℕ → ℕ
number_of octets = number_after 0 octets

-- what comes with the number of a field with this part, before what comes with others; what is not
-- kept is left out
abbrev pub received_part : ℕ → Part → List Received → List Received
received_part number p others = if p.is_kept then record {
  variable = p.variable;
  named = named_by p.mask;
  bits = picked p.mask number;
} ∷ others else others

-- what comes with the number of a field with these parts
abbrev pub received_in : ℕ → List Part → List Received
received_in number [] = []
received_in number (p ∷ rest) = received_part number p (received_in number rest)

-- what comes with the octets of fields
abbrev pub received : List Field → List ℕ → List Received
received [] octets = []
received (Constant n ∷ rest) octets = received rest (drop 1 octets)
received (Variables parts ∷ rest) octets =
    received_in (number_of (take (width_of (Variables parts)) octets)) parts
    ++ received rest (drop (width_of (Variables parts)) octets)

-- ---- the fault

-- the place of the first octet that differs from its constant
abbrev pub wrong_constant : (place : ℕ) → List Field → List ℕ → Option ℕ
wrong_constant place [] octets = None
wrong_constant place (Constant n ∷ rest) octets = elim (number_of (take 1 octets) == n) [
  | true ↦ wrong_constant (place + 1) rest (drop 1 octets)
  | false ↦ Some place
]
wrong_constant place (Variables parts ∷ rest) octets =
    wrong_constant (place + width_of (Variables parts)) rest
    (drop (width_of (Variables parts)) octets)

-- the bits that came are bits of their variable
abbrev pub fits : List VariableType → Received → Bool
fits types r = nat_lt r.bits (2 ^ (8 * (type_at types r.variable).size))

-- the first variable with bits that its type does not have, where a mask has more
abbrev pub misfit : List VariableType → List Received → Option VarNo
misfit types [] = None
misfit types (r ∷ rest) = elim (fits types r) [
  | true ↦ misfit types rest
  | false ↦ Some r.variable
]

-- Why the octets are not those of the fields: too few, too many, a constant that differs, or bits
-- that a variable does not have, in this order.
abbrev pub fault_in : List VariableType → List Field → List ℕ → Option OctetsFault
fault_in types fields octets =
    if nat_lt (length octets) (length_of fields) then Some TooShort
    else (if nat_lt (length_of fields) (length octets) then Some TooLong
    else elim (wrong_constant 0 fields octets) [
      | Some place ↦ Some (WrongConstant place)
      | None ↦ elim (misfit types (received fields octets)) [
        | Some variable ↦ Some (OutOfType variable)
        | None ↦ None
      ]
    ])

-- ---- the sets

-- The value of a variable with the bits that came; all others are as they were.
abbrev pub value_with : List VariableType → List ℤ → Received → ℤ
value_with types values r =
    let t = type_at types r.variable in
    value_of t (renewed r.named (bits_of t (value_at values r.variable)) r.bits)

-- the sets of what came, one after the other
abbrev pub sets_of : List VariableType → List ℤ → List Received → List Change
sets_of types values [] = []
sets_of types values (r ∷ rest) =
    record { variable = r.variable; value = value_with types values r }
    ∷ sets_of types (slice_set values r.variable.0 (value_with types values r)) rest

-- what is taken from the octets of fields under the values of the receiver
abbrev pub decoded : List VariableType → List ℤ → List Field → List ℕ
    → Result (List Change) OctetsFault
decoded types values fields octets = elim (fault_in types fields octets) [
  | Some fault ↦ Err fault
  | None ↦ Ok (sets_of types values (received fields octets))
]
