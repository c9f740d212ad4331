-- A description whose image has the first version of the layout has no arrays.
use Rattle.std.proofs.Common.{◌≡◌, refl, ap, Bool, true, false, arith}
use Rattle.std.specs.Prelude.{nat_lt, if◌then◌else◌}
use Rattle.std.specs.List.{list_any}
use Rattle.std.proofs.lemmas.Bool.{ltb-false, or_left}
use Rattle.edd_syntax.specs.declared.numbers.Kind.TheVariants as kind
use Rattle.edd_syntax.specs.declared.reference.Target.{Target}
use Rattle.edd_syntax.specs.Item.{Description}
use Rattle.edd_syntax.specs.LayoutVersion.{body_names_it}
use Rattle.edd_syntax.specs.Resolution.{count_of}
use Rattle.edd_syntax.specs.SubsetRules.{bodies_of}
use Rattle.edd_image.specs.declared.versions.Version.TheVariants.{One, Two}
use Rattle.edd_instructions.specs.Agreement.{version_for}

pub none_in_first : (d : Description Target) → version_for d ≡ One
    → count_of kind.Array d.items ≡ 0
none_in_first d first = by_test (nat_lt 0 (count_of kind.Array d.items)) refl
  where
    by_test : (b : Bool) → nat_lt 0 (count_of kind.Array d.items) ≡ b
        → count_of kind.Array d.items ≡ 0
    by_test true is =
        let second : version_for d ≡ Two = ap (λ (b : Bool). if b then Two else One)
        (or_left (nat_lt 0 (count_of kind.Array d.items))
        (list_any body_names_it (bodies_of d)) is) in
        absurd (cc (first, second))
    by_test false is =
        let none = ltb-false 0 (count_of kind.Array d.items) is in omega (arith, none)
