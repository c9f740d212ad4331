-- In the version of an image an element may be read where there is an array, and in the second
-- version an abort method may be listed.
use Rattle.std.proofs.Common.{◌≡◌, refl, ap, ℕ, ◌-◌, Bool, true, arith}
use Rattle.std.specs.Prelude.{◌&&◌, nat_lt, if◌then◌else◌}
use Rattle.std.proofs.lemmas.Bool.{and_parts, and_from, lt-ltb, ltb-true, or_left}
use Rattle.std.specs.List.{list_any}
use Rattle.edd_syntax.specs.declared.numbers.Kind.TheVariants as kind
use Rattle.edd_syntax.specs.declared.numbers.ArrNo.{ArrNo}
use Rattle.edd_syntax.specs.declared.numbers.MethNo.{MethNo}
use Rattle.edd_syntax.specs.declared.reference.Target.{Target}
use Rattle.edd_syntax.specs.Item.{Description}
use Rattle.edd_syntax.specs.LayoutVersion.{body_names_it, needs_second_version}
use Rattle.edd_syntax.specs.Resolution.{count_of}
use Rattle.edd_syntax.specs.SubsetRules.{bodies_of}
use Rattle.edd_instructions.specs.Agreement.{version_for}
use Rattle.edd_instructions.specs.declared.instruction.Instruction.{Instruction}
use Rattle.edd_instructions.specs.declared.instruction.Instruction.TheVariants as instruction
use Rattle.edd_image.specs.declared.parts.Counts.{Counts}
use Rattle.edd_instructions.specs.declared.unit.Context.{Context}
use Rattle.edd_instructions.specs.declared.unit.Sort.{Sort}
use Rattle.edd_instructions.specs.declared.unit.Sort.TheVariants.{Attribute, Method}
use Rattle.edd_image.specs.declared.versions.Version.{Version}
use Rattle.edd_image.specs.declared.versions.Version.TheVariants.{One, Two}
use Rattle.edd_image.specs.Existing.{array_exists}
use Rattle.edd_instructions.specs.References.{names_exist}
use Rattle.edd_instructions.specs.Units.{is_allowed}
use Rattle.edd_code.specs.Blocks.{Block, Nothing, Straight, Then, WhenNotZero, WhenZero, Either, Match}
use Rattle.edd_code.specs.Flow.{FlowsIn, all_straight, depth_after, may_stand}

-- where there are arrays, the version is the second
abbrev pub HoldsArrays : Version → Counts → Type 0
HoldsArrays version counts = nat_lt 0 counts.arrays ≡ true → version ≡ Two

-- a description that needs the second version has it
pub needed : (d : Description Target) → needs_second_version d ≡ true → version_for d ≡ Two
needed d is = ap (λ (b : Bool). if b then Two else One) is

-- one with arrays does
pub with_arrays : (d : Description Target) → nat_lt 0 (count_of kind.Array d.items) ≡ true
    → version_for d ≡ Two
with_arrays d is = needed d
    (or_left (nat_lt 0 (count_of kind.Array d.items)) (list_any body_names_it (bodies_of d)) is)

second : (version : Version) (counts : Counts) (a : ArrNo) → HoldsArrays version counts
    → array_exists counts a ≡ true → version ≡ Two
second version counts a holds is =
    holds (lt-ltb 0 counts.arrays (omega (arith, ltb-true a.0 counts.arrays is)))

pub in_attributes : (version : Version) (counts : Counts) (a : ArrNo) → HoldsArrays version counts
    → array_exists counts a ≡ true
    → is_allowed version Attribute (instruction.ReadElement a) ≡ true
in_attributes version counts a holds is = rw (second version counts a holds is) refl

pub in_methods : (version : Version) (counts : Counts) (a : ArrNo) → HoldsArrays version counts
    → array_exists counts a ≡ true → is_allowed version Method (instruction.ReadElement a) ≡ true
in_methods version counts a holds is = rw (second version counts a holds is) refl

-- in the second version a method may list an abort method
pub abort_methods_allowed : {version : Version} (m : MethNo) → version ≡ Two
    → is_allowed version Method (instruction.AddAbortMethod m) ≡ true
abort_methods_allowed m is = rw is refl

-- ---- what flows in the newest version flows in one where its instructions may be

module _ (f g : Instruction → Bool) where
  abbrev Both : Block → Type 0
  Both b = (all_straight f b ≡ true) × (all_straight g b ≡ true)

  of_both : (a b : Block) → Both a → Both b
      → ((all_straight f a && all_straight f b) ≡ true)
      × ((all_straight g a && all_straight g b) ≡ true)
  of_both a b p q = (and_from _ _ p.0 q.0, and_from _ _ p.1 q.1)

  pub each_passes : (b : Block) → all_straight (λ i. f i && g i) b ≡ true → Both b
  each_passes Nothing h = (refl, refl)
  each_passes (Straight i) h = and_parts (f i) (g i) h
  each_passes (Then first second) h =
      let parts = and_parts _ _ h in
      of_both first second (each_passes first parts.0) (each_passes second parts.1)
  each_passes (WhenNotZero body) h = each_passes body h
  each_passes (WhenZero body) h = each_passes body h
  each_passes (Either first otherwise) h =
      let parts = and_parts _ _ h in
      of_both first otherwise (each_passes first parts.0) (each_passes otherwise parts.1)
  each_passes (Match label body rest) h =
      let parts = and_parts _ _ h in
      of_both body rest (each_passes body parts.0) (each_passes rest parts.1)

module _ (version : Version) (sort : Sort) where
  pub flows_there : (b : Block) (d : ℕ) → FlowsIn Two sort b d
      → all_straight (is_allowed version sort) b ≡ true → FlowsIn version sort b d
  flows_there Nothing d flows h = tt
  flows_there (Straight i) d flows h = (
    and_from (is_allowed version sort i) _ h (and_parts (is_allowed Two sort i) _ flows.0).1,
    flows.1,
    flows.2,
  )
  flows_there (Then first second) d flows h =
      let parts = and_parts _ _ h in (
        flows_there first d flows.0 parts.0,
        flows_there second (depth_after first d) flows.1 parts.1,
      )
  flows_there (WhenNotZero body) d flows h =
      (flows.0, flows.1, flows_there body (d - 1) flows.2 h, flows.3)
  flows_there (WhenZero body) d flows h =
      (flows.0, flows.1, flows_there body (d - 1) flows.2 h, flows.3)
  flows_there (Either first otherwise) d flows h =
      let parts = and_parts _ _ h in (
        flows.0,
        flows.1,
        flows_there first (d - 1) flows.2 parts.0,
        flows_there otherwise (d - 1) flows.3 parts.1,
        flows.4,
        flows.5,
      )
  flows_there (Match label body rest) d flows h =
      let parts = and_parts _ _ h in (
        flows.0,
        flows.1,
        flows_there body (d - 1) flows.2 parts.0,
        flows_there rest d flows.3 parts.1,
        flows.4,
        flows.5,
      )

-- so does a block whose instructions may be in the context
pub in_its_version : (context : Context) (b : Block) (d : ℕ) → FlowsIn Two context.sort b d
    → all_straight (may_stand context) b ≡ true → FlowsIn context.version context.sort b d
in_its_version context b d flows h =
    let each = each_passes (is_allowed context.version context.sort) (names_exist context) b h in
    flows_there context.version context.sort b d flows each.0

pub names_in : (context : Context) (b : Block) → all_straight (may_stand context) b ≡ true
    → all_straight (names_exist context) b ≡ true
names_in context b h =
    let each = each_passes (is_allowed context.version context.sort) (names_exist context) b h in
    each.1
