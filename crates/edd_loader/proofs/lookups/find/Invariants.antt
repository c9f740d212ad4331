use Rattle.std.proofs.Common.{◌≡◌, ℕ, ◌<◌, Some}
use Rattle.edd_image.specs.Contents.{contents_in}
use Rattle.edd_loader.specs.Lookups.{name_in_row}
use Rattle.edd_loader.proofs.lookups.find.Given as goal

-- none of the first names is this one
abbrev pub invariant-loop-place : goal.invariant-loop-place
invariant-loop-place l = (k : ℕ) → k < l.place → name_in_row (contents_in l.bytes) k ≡ Some l.name
    → ⊥
