-- What is encoded arrives.
use Rattle.std.proofs.Common.{◌≡◌, ℕ, ℤ, List, length, None, Ok, refl, ap, ◌∙◌, arith}
use Rattle.std.proofs.lemmas.Bool.{le-ltb}
use Rattle.edd_syntax.specs.Answers.{values_set}
use Rattle.edd_syntax.specs.DeviceValues.{VariableType}
use Rattle.edd_octets.specs.Arrival.{Arrives}
use Rattle.edd_octets.specs.Decoding.{decoded, fault_in, misfit, received, sets_of}
use Rattle.edd_octets.specs.Encoding.{encoded}
use Rattle.edd_octets.specs.Fields.{Field, length_of}
use Rattle.edd_octets.proofs.ArrivalLaws.{AreSmall, arrives}
use Rattle.edd_octets.proofs.ReceivedLaws.{AreFit, constants_right, length_encoded, none_misfits, owns, owns_own, received_encoded}

module _ (types : List VariableType) (sizes : AreSmall types) (fields : List Field)
    (fit : AreFit fields) (sender : List ℤ) where
  abbrev sent : List ℕ
  sent = encoded types sender fields

  no_misfit : misfit types (received fields sent) ≡ None
  no_misfit = ap (misfit types) (received_encoded types sender fields fit)
      ∙ none_misfits types sender (owns types sender fields) (owns_own types sender fields fit)

  pub no_fault : fault_in types fields sent ≡ None
  no_fault = rw (
    length_encoded types sender fields,
    le-ltb (length_of fields) (length_of fields) (omega arith),
    constants_right types sender 0 fields fit,
    no_misfit,
  ) refl

  module _ (receiver : List ℤ) (long : length sender ≡ length receiver) where
    pub taken : decoded types receiver fields sent
        ≡ Ok (sets_of types receiver (received fields sent))
    taken = rw (decoded, no_fault) refl

    pub arrived : Arrives types sender receiver
        (values_set receiver (sets_of types receiver (received fields sent))) (received fields sent)
    arrived =
        rw (received_encoded types sender fields fit)
        (arrives types sender sizes (owns types sender fields) receiver
        (owns_own types sender fields fit) long)
