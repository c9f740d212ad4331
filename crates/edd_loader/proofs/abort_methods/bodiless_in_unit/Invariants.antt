use Rattle.std.proofs.Common.{◌≡◌, ◌≤◌, ◌-◌, length}
use Rattle.std.specs.List.{list_all}
use Rattle.edd_image.specs.Contents.{contents_in}
use Rattle.edd_instructions.specs.Validity.{adds_with_body}
use Rattle.edd_loader.specs.AbortMethods.{unit_adds_with_body}
use Rattle.edd_unit_rules.proofs.Listing.{from_place}
use Rattle.edd_loader.proofs.abort_methods.bodiless_in_unit.Given as goal

abbrev pub invariant-loop-instruction : goal.invariant-loop-instruction
invariant-loop-instruction l = record {
  inside : l.place ≤ length l.unit;
  same : list_all (λ x. adds_with_body (contents_in l.bytes) x.instruction)
      (from_place l.unit l.place) ≡ unit_adds_with_body (contents_in l.bytes) l.unit;
}

abbrev pub decreases-loop-instruction : goal.decreases-loop-instruction
decreases-loop-instruction l = length l.unit - l.place
