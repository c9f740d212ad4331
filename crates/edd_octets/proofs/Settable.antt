-- What is taken from octets can be set.
use Rattle.std.proofs.Common.{◌≡◌, ℕ, ◌<◌, ◌==◌, ◌%◌, Bool, true, false, ℤ, pos, List, [], ◌∷◌, ◌++◌, length, take, drop, Option, Some, None, Result, Ok, Err, refl, sym, subst, ◌∙◌}
use Rattle.std.specs.Prelude.{if◌then◌else◌, slice_set}
use Rattle.std.proofs.lemmas.Option.{slice_get-get_or}
use Rattle.edd_syntax.specs.declared.numbers.VarNo.{VarNo}
use Rattle.edd_syntax.specs.declared.types.VarType.TheVariants as var_type
use Rattle.edd_syntax.specs.Answers.{Change, SetFault, set_fault, sets_fault}
use Rattle.edd_syntax.specs.DeviceValues.{AreDeviceValues, VariableType, type_at, value_at}
use Rattle.edd_instructions.specs.declared.records.Record.{Record}
use Rattle.edd_instructions.specs.declared.records.Record.TheVariants as records
use Rattle.edd_instructions.specs.Validity.{IsValid}
use Rattle.edd_instructions.proofs.Widths.{store_in_range}
use Rattle.edd_loader.proofs.VariableTypes.{types_counted}
use Rattle.edd_machine.specs.Types.{types_in}
use Rattle.edd_machine.proofs.SetFaults.{no_set_fault}
use Rattle.edd_octets.specs.declared.fault.OctetsFault.{OctetsFault}
use Rattle.edd_octets.specs.declared.fields.Part.{Part}
use Rattle.edd_octets.specs.declared.messages.Message.{Message}
use Rattle.edd_octets.specs.Decoding.{Received, fault_in, number_of, received, received_in, sets_of, value_with}
use Rattle.edd_octets.specs.Fields.{Constant, Field, Variables, closed, ended, fields_after, masked, sharing, whole, width_of}
use Rattle.edd_octets.specs.Masks.{bits_of, named_by, picked, renewed}
use Rattle.edd_octets.specs.Messages.{IsDecoded, attribute_of}
use Rattle.edd_octets.proofs.KnownVariables.{AreKnown, items_known}

module _ (count : ℕ) where
  -- each is of a variable that exists
  abbrev AreThere : List Part → Type 0
  AreThere [] = Unit {0}
  AreThere (p ∷ rest) = (p.variable.0 < count) × AreThere rest

  abbrev IsOfThem : Field → Type 0
  IsOfThem (Constant n) = Unit {0}
  IsOfThem (Variables parts) = AreThere parts

  abbrev AreOfThem : List Field → Type 0
  AreOfThem [] = Unit {0}
  AreOfThem (f ∷ rest) = IsOfThem f × AreOfThem rest

  abbrev pub HaveCome : List Received → Type 0
  HaveCome [] = Unit {0}
  HaveCome (r ∷ rest) = (r.variable.0 < count) × HaveCome rest

  -- ---- the fields

  closed_there : (begun : List Part) → AreThere begun → AreOfThem (closed begun)
  closed_there [] there = tt
  closed_there (p ∷ rest) there = (there, tt)

  both_there : (xs ys : List Field) → AreOfThem xs → AreOfThem ys → AreOfThem (xs ++ ys)
  both_there [] ys of_them more = more
  both_there (f ∷ rest) ys of_them more = (of_them.0, both_there rest ys of_them.1 more)

  one_more : (begun : List Part) (p : Part) → AreThere begun → p.variable.0 < count
      → AreThere (begun ++ (p ∷ []))
  one_more [] p there is = (is, tt)
  one_more (q ∷ rest) p there is = (there.0, one_more rest p there.1 is)

  ended_there : (begun : List Part) → AreThere begun → (overlaps : Bool)
      → AreOfThem (if overlaps then closed begun else [])
  ended_there begun there true = closed_there begun there
  ended_there begun there false = tt

  shared_there : (begun : List Part) → AreThere begun → (overlaps : Bool) (p : Part)
      → p.variable.0 < count → AreThere ((if overlaps then [] else begun) ++ (p ∷ []))
  shared_there begun there true p is = (is, tt)
  shared_there begun there false p is = one_more begun p there is

  module _ (types : List VariableType) where
    by_mask : (items : List Record) (v : VarNo) (mask q : ℕ) (begun : List Part) → AreThere begun
        → v.0 < count
        → ((more : List Part) → AreThere more → AreOfThem (fields_after types more items))
        → (is_whole goes_on : Bool)
        → AreOfThem (elim is_whole as (λ (b : Bool). List Field) [
          | true ↦ closed begun ++ (Variables (whole types v q ∷ []) ∷ fields_after types [] items)
          | false ↦ ended begun mask ++ elim goes_on as (λ (b : Bool). List Field) [
            | true ↦ fields_after types (sharing begun mask ++ (masked v mask q ∷ [])) items
            | false ↦ Variables (sharing begun mask ++ (masked v mask q ∷ []))
                ∷ fields_after types [] items
          ]
        ])
    by_mask items v mask q begun there is others true goes_on =
        both_there (closed begun) _ (closed_there begun there) ((is, tt), others [] tt)
    by_mask items v mask q begun there is others false true =
        both_there (ended begun mask) _ (ended_there begun there _)
        (others (sharing begun mask ++ (masked v mask q ∷ []))
        (shared_there begun there _ (masked v mask q) is))
    by_mask items v mask q begun there is others false false =
        both_there (ended begun mask) _ (ended_there begun there _)
        (shared_there begun there _ (masked v mask q) is, others [] tt)

    fields_there : (items : List Record) (begun : List Part) → AreThere begun
        → AreKnown count items → AreOfThem (fields_after types begun items)
    fields_there [] begun there known = closed_there begun there
    fields_there (records.DataConst n ∷ rest) begun there known =
        both_there (closed begun) _ (closed_there begun there)
        (tt, fields_there rest [] tt known.1)
    fields_there (records.DataVar v mask q ∷ rest) begun there known =
        by_mask rest v mask q begun there known.0 (λ more is. fields_there rest more is known.1)
        (mask == 0) (mask % 2 == 0)
    fields_there (_ ∷ rest) begun there known = fields_there rest begun there known.1

  -- ---- what came

  part_came : (p : Part) (number : ℕ) (is_kept : Bool) (others : List Received)
      → p.variable.0 < count → HaveCome others
      → HaveCome (if is_kept then record {
        variable = p.variable;
        named = named_by p.mask;
        bits = picked p.mask number;
      } ∷ others else others)
  part_came p number true others is came = (is, came)
  part_came p number false others is came = came

  parts_came : (number : ℕ) (parts : List Part) → AreThere parts
      → HaveCome (received_in number parts)
  parts_came number [] there = tt
  parts_came number (p ∷ rest) there =
      part_came p number p.is_kept (received_in number rest) there.0
      (parts_came number rest there.1)

  also_came : (xs ys : List Received) → HaveCome xs → HaveCome ys → HaveCome (xs ++ ys)
  also_came [] ys came more = more
  also_came (r ∷ rest) ys came more = (came.0, also_came rest ys came.1 more)

  all_came : (fields : List Field) (octets : List ℕ) → AreOfThem fields
      → HaveCome (received fields octets)
  all_came [] octets there = tt
  all_came (Constant n ∷ rest) octets there = all_came rest (drop 1 octets) there.1
  all_came (Variables parts ∷ rest) octets there =
      also_came (received_in (number_of (take (width_of (Variables parts)) octets)) parts) _
      (parts_came _ parts there.0)
      (all_came rest (drop (width_of (Variables parts)) octets) there.1)

-- ---- the sets

goes_on : (o next : Option SetFault) → o ≡ None
    → elim o as (λ p. Option SetFault) [ Some fault ↦ Some fault | None ↦ next ] ≡ next
goes_on None next e = refl
goes_on (Some fault) next e = absurd cc

module _ (types : List VariableType) where
  one_set : (values : List ℤ) (r : Received) → r.variable.0 < length types
      → set_fault types (record { variable = r.variable; value = value_with types values r })
      ≡ None
  one_set values r inside =
      let t = type_at types r.variable in
      no_set_fault types (record { variable = r.variable; value = value_with types values r }) t
      (slice_get-get_or types r.variable.0 (record { type = var_type.Integer; size = 1 }) inside)
      (store_in_range t
      (pos (renewed r.named (bits_of t (value_at values r.variable)) r.bits)))

  all_set : (all : List Received) (values : List ℤ) → HaveCome (length types) all
      → sets_fault types (sets_of types values all) ≡ None
  all_set [] values came = refl
  all_set (r ∷ rest) values came =
      goes_on _ _ (one_set values r came.0)
      ∙ all_set rest (slice_set values r.variable.0 (value_with types values r)) came.1

taken_by : (o : Option OctetsFault) (own sets : List Change)
    → elim o as (λ p. Result (List Change) OctetsFault) [ Some fault ↦ Err fault | None ↦ Ok own ]
    ≡ Ok sets → own ≡ sets
taken_by None own sets e = cc
taken_by (Some fault) own sets e = absurd cc

pub settable : (b : List ℕ) (message : Message) (values : List ℤ) (octets : List ℕ)
    (sets : List Change) → IsValid b → AreDeviceValues (types_in b) values
    → IsDecoded b message values octets sets → sets_fault (types_in b) sets ≡ None
settable b message values octets sets valid are is =
    let types = types_in b in
    let fields = is.0 in
    let has = is.1 in
    let known : AreKnown (length types) has.0 =
    subst (λ (n : ℕ). AreKnown n has.0) (sym (types_counted b valid))
    (items_known b (attribute_of message) values has.0 valid are has.1) in
    let there : AreOfThem (length types) fields =
    subst (AreOfThem (length types)) (sym has.3)
    (fields_there (length types) types has.0 [] tt known) in
    subst (λ (xs : List Change). sets_fault types xs ≡ None)
    (taken_by (fault_in types fields octets)
    (sets_of types values (received fields octets)) sets is.2)
    (all_set types (received fields octets) values
    (all_came (length types) fields octets there))
