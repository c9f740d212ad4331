use Rattle.std.proofs.Common.{◌≡◌, ℕ, ◌+◌, false, List, [], get_or, drop, bit_or, sym, ap, ◌∙◌, arith}
use Rattle.std.specs.Int.Bits.{or_zero_r}
use Rattle.std.proofs.Math.ListN.{drop_of_length-le}
use Rattle.edd_octets.specs.declared.fields.Part.{Part}
use Rattle.edd_octets.specs.Fields.{union}
use Rattle.edd_octets.proofs.Loops.{next}
use Rattle.edd_octets.proofs.PartLaws.{or_again}
use Rattle.edd_octets.proofs.fields.union.Goals as goal

abbrev part : Part
part = record { variable = record { 0 = 0 }; mask = 0; is_kept = false }

pub loop-part-preserved : goal.loop-part-preserved
loop-part-preserved c =
    let parts : List Part = c.args.parts.now in
    let i : ℕ = c.loop-part.part-index in
    let taken : ℕ = c.loop-part.taken in
    sym (or_again taken (get_or parts i part).mask (union (drop (i + 1) parts)))
    ∙ ap (λ (ps : List Part). bit_or taken (union ps)) (sym (next parts i part c.loop-part-test.true))
    ∙ c.loop-part.invariant

pub returns : goal.returns
returns c =
    let parts : List Part = c.args.parts.now in
    let i : ℕ = c.loop-part.part-index in
    let taken : ℕ = c.loop-part.taken in
    let none : drop i parts ≡ [] = drop_of_length-le parts {i = i} (omega (arith, c.loop-part-test.false)) in
    sym (or_zero_r taken) ∙ ap (λ (ps : List Part). bit_or taken (union ps)) (sym none)
    ∙ c.loop-part.invariant
