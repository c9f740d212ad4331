-- The laws of octets for the messages of a valid image.
use Rattle.std.proofs.Common.{◌≡◌, ℕ, ◌==◌, ℤ, List, [], length, refl, sym, subst, ◌∙◌}
use Rattle.std.specs.Prelude.{if◌then◌else◌}
use Rattle.std.specs.Int.{bit_at}
use Rattle.std.proofs.lemmas.Bool.{eq-eqb}
use Rattle.std.proofs.lemmas.Slice.Zip.{AllZip-long}
use Rattle.edd_syntax.specs.declared.numbers.VarNo.{VarNo}
use Rattle.edd_syntax.specs.Answers.{Change, values_set}
use Rattle.edd_syntax.specs.DeviceValues.{AreDeviceValues, IsInRange, VariableType}
use Rattle.edd_instructions.specs.Validity.{IsValid}
use Rattle.edd_machine.specs.Types.{types_in}
use Rattle.edd_octets.specs.declared.messages.Message.{Message}
use Rattle.edd_octets.specs.Arrival.{Arrives, bits_under, names}
use Rattle.edd_octets.specs.Decoding.{received, sets_of}
use Rattle.edd_octets.specs.Encoding.{encoded}
use Rattle.edd_octets.specs.Fields.{Field}
use Rattle.edd_octets.specs.Messages.{HasFields, IsDecoded}
use Rattle.edd_octets.proofs.FieldLaws.{fields_fit}
use Rattle.edd_octets.proofs.MessageLaws.{arrived, taken}
use Rattle.edd_octets.proofs.ReceivedLaws.{AreFit}
use Rattle.edd_octets.proofs.SizeLaws.{sizes_small}

-- as many values as types
same_length : (types : List VariableType) (values : List ℤ) → AreDeviceValues types values
    → length values ≡ length types
same_length types values are = AllZip-long IsInRange types values are

module _ (b : List ℕ) (message : Message) (valid : IsValid b) where
  fit : (values : List ℤ) (fields : List Field) → HasFields b message values fields → AreFit fields
  fit values fields has =
      subst (λ (fs : List Field). AreFit fs) (sym has.3)
      (fields_fit (types_in b) (sizes_small b valid) has.0 [] tt tt has.2)

pub arriving : (b : List ℕ) (message : Message) (sender receiver : List ℤ) (fields : List Field)
    → IsValid b → AreDeviceValues (types_in b) sender → AreDeviceValues (types_in b) receiver
    → HasFields b message receiver fields
    → (sets : List Change)
    × IsDecoded b message receiver (encoded (types_in b) sender fields) sets
    × Arrives (types_in b) sender receiver (values_set receiver sets)
    (received fields (encoded (types_in b) sender fields))
arriving b message sender receiver fields valid are ours has =
    let types = types_in b in
    let sizes = sizes_small b valid in
    let fits = fit b message valid receiver fields has in
    let long : length sender ≡ length receiver =
    same_length types sender are ∙ sym (same_length types receiver ours) in (
      sets_of types receiver (received fields (encoded types sender fields)),
      (fields, has, taken types sizes fields fits sender receiver long),
      arrived types sizes fields fits sender receiver long,
    )

-- a bit that came is that of either sender
named_bit : (types : List VariableType) (one other : List ℤ) (fields : List Field) (v : VarNo)
    (i : ℕ) → bit_at (names (received fields (encoded types one fields)) v) i ≡ 1
    → bit_at (bits_under types (values_set one (sets_of types one
    (received fields (encoded types one fields)))) v) i
    ≡ (if bit_at (names (received fields (encoded types one fields)) v) i == 1
    then bit_at (bits_under types one v) i else bit_at (bits_under types one v) i)
    → bit_at (bits_under types (values_set one (sets_of types one
    (received fields (encoded types one fields)))) v) i
    ≡ (if bit_at (names (received fields (encoded types one fields)) v) i == 1
    then bit_at (bits_under types other v) i else bit_at (bits_under types one v) i)
    → bit_at (bits_under types one v) i ≡ bit_at (bits_under types other v) i
named_bit types one other fields v i named first second =
    let is = eq-eqb (bit_at (names (received fields (encoded types one fields)) v) i) 1 named in
    sym (rw is at first) ∙ rw is at second

pub telling : (b : List ℕ) (message : Message) (one other : List ℤ) (fields : List Field)
    → IsValid b → AreDeviceValues (types_in b) one → AreDeviceValues (types_in b) other
    → HasFields b message one fields
    → encoded (types_in b) one fields ≡ encoded (types_in b) other fields → (v : VarNo) (i : ℕ)
    → bit_at (names (received fields (encoded (types_in b) one fields)) v) i ≡ 1
    → bit_at (bits_under (types_in b) one v) i ≡ bit_at (bits_under (types_in b) other v) i
telling b message one other fields valid are theirs has same v i named =
    let types = types_in b in
    let sizes = sizes_small b valid in
    let fits = fit b message valid one fields has in
    let long : length other ≡ length one =
    same_length types other theirs ∙ sym (same_length types one are) in
    named_bit types one other fields v i named
    (arrived types sizes fields fits one one refl v i)
    (subst (λ (octets : List ℕ). Arrives types other one
    (values_set one (sets_of types one (received fields octets))) (received fields octets))
    (sym same) (arrived types sizes fields fits other one long) v i)
