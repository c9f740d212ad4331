use Rattle.std.proofs.Common.{◌≡◌, ◌≤◌, ℕ, length}
use Rattle.edd_loader.specs.Variants.{all_variants}
use Rattle.edd_loader.proofs.words.are_variants.Given as goal

abbrev pub invariant-loop-rest : goal.invariant-loop-rest
invariant-loop-rest l = (n : ℕ) × (length l.rest ≤ n)
    × (all_variants n l.rest ≡ all_variants (length l.bytes) l.bytes)

abbrev pub decreases-loop-rest : goal.decreases-loop-rest
decreases-loop-rest l = length l.rest
