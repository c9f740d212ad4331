use Rattle.std.proofs.Common.{◌≡◌, ℕ, ◌+◌, false, ℤ, List, [], get_or, drop, bit_or, sym, ap, ◌∙◌, arith}
use Rattle.std.specs.Int.Bits.{or_zero_r}
use Rattle.std.proofs.Math.ListN.{drop_of_length-le}
use Rattle.edd_syntax.specs.DeviceValues.{VariableType}
use Rattle.edd_machine.specs.Types.{types_in}
use Rattle.edd_octets.specs.declared.fields.Part.{Part}
use Rattle.edd_octets.specs.Encoding.{bits_at, gathered}
use Rattle.edd_octets.specs.Masks.{placed}
use Rattle.edd_octets.proofs.Loops.{next}
use Rattle.edd_octets.proofs.PartLaws.{or_again}
use Rattle.edd_octets.proofs.encoding.gathered.Goals as goal

abbrev part : Part
part = record { variable = record { 0 = 0 }; mask = 0; is_kept = false }

pub loop-part-preserved : goal.loop-part-preserved
loop-part-preserved c =
    let types : List VariableType = types_in c.args.image.now in
    let values : List ℤ = c.args.values.now in
    let parts : List Part = c.args.parts.now in
    let i : ℕ = c.loop-part.part-index in
    let number : ℕ = c.loop-part.number in
    let mask : ℕ = (get_or parts i part).mask in
    let one : c.placed-number.result ≡ placed mask (bits_at types values (get_or parts i part)) =
    c.placed-number.ensures ∙ ap (placed mask) c.bits_at.ensures in
    ap (λ (n : ℕ). bit_or (bit_or number n) (gathered types values (drop (i + 1) parts))) one
    ∙ sym (or_again number (placed mask (bits_at types values (get_or parts i part)))
    (gathered types values (drop (i + 1) parts)))
    ∙ ap (λ (ps : List Part). bit_or number (gathered types values ps))
    (sym (next parts i part c.loop-part-test.true))
    ∙ c.loop-part.invariant

pub returns : goal.returns
returns c =
    let types : List VariableType = types_in c.args.image.now in
    let values : List ℤ = c.args.values.now in
    let parts : List Part = c.args.parts.now in
    let i : ℕ = c.loop-part.part-index in
    let number : ℕ = c.loop-part.number in
    let none : drop i parts ≡ [] = drop_of_length-le parts {i = i} (omega (arith, c.loop-part-test.false)) in
    sym (or_zero_r number)
    ∙ ap (λ (ps : List Part). bit_or number (gathered types values ps)) (sym none)
    ∙ c.loop-part.invariant
