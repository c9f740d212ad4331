use Rattle.std.proofs.Common.{◌≡◌, ◌*◌, ℕ, ℤ, pos, FitsSigned, w64, to_z, of_z, arith, rules, ap, ◌∙◌}
use Rattle.std.specs.Prelude.{unsigned_abs}
use Rattle.std.proofs.lemmas.Int.{to_z-of_z}
use Rattle.edd_syntax.specs.TwosComplement.{residue, store}
use Rattle.edd_octets.proofs.ArrivalLaws.{below_all}
use Rattle.edd_octets.proofs.NumberLaws.{residue_small}
use Rattle.edd_octets.proofs.masks.bits_of.Goals as goal

-- the number that is cast
is_residue : (c : goal.After-stored)
    → to_z w64 (of_z w64 c.stored.result) ≡ pos (residue (8 * c.args.kind.size) c.args.value)
unfolding store
is_residue c =
    let fits : FitsSigned w64 c.stored.result = search rules in
    to_z-of_z w64 c.stored.result fits ∙ c.stored.ensures
    ∙ ap (λ (z : ℤ). pos (residue (8 * c.args.kind.size) z))
    (to_z-of_z w64 c.args.value c.ranges.value)

pub overflow_cast-result : goal.overflow_cast-result
overflow_cast-result c =
    let size : ℕ = c.args.kind.size in
    let small = below_all size (residue (8 * size) c.args.value) c.requires.high
    (residue_small (8 * size) c.args.value) in
    rw (is_residue c) (tt, omega (arith, small))

pub returns : goal.returns
returns c = ap unsigned_abs (is_residue c)
