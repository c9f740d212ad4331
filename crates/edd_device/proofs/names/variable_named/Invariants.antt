use Rattle.std.proofs.Common.{◌≡◌, ◌-◌}
use Rattle.edd_syntax.specs.declared.numbers.ItemNo.TheVariants as items
use Rattle.edd_image.specs.Fields.{counts_in}
use Rattle.edd_device.specs.Names.{first_of, is_named}
use Rattle.edd_device.proofs.names.variable_named.Given as goal

-- the first of all is the first from this one on
abbrev pub invariant-loop-number : goal.invariant-loop-number
invariant-loop-number l = first_of (λ n. is_named l.image l.name (items.Variable (record {
  0 = n;
}))) 0
    (counts_in l.image).variables
    ≡ first_of (λ n. is_named l.image l.name (items.Variable (record { 0 = n }))) l.number
    ((counts_in l.image).variables - l.number)
