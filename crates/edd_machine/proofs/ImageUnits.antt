-- The units of a valid image: valid, and their code among its bytes.
use Rattle.std.proofs.Common.{◌≡◌, ℕ, zero, suc, ◌+◌, ◌-◌, ◌≤◌, List, [], ◌∷◌, length, take, drop, Some, refl, sym, ap, ◌∙◌, arith}
use Rattle.std.specs.List.{AllByRecursion, slice_get}
use Rattle.std.proofs.lemmas.Bool.{leb-true}
use Rattle.std.proofs.lemmas.List.{drop-take}
use Rattle.edd_instructions.specs.declared.rules.Rule.TheVariants as rule
use Rattle.edd_instructions.specs.declared.rules.UnitRule.TheVariants as unit_rule
use Rattle.edd_image.specs.Fields.{counts_in, code_start, code_length, attribute_rows_start, attribute_count}
use Rattle.edd_image.specs.Contents.{AttributeFields, part, rows_from, attribute_fields, contents_in}
use Rattle.edd_instructions.specs.Units.{UnitKeeps, IsValidUnit}
use Rattle.edd_instructions.specs.Validity.{PlacedUnit, placed_unit, units, IsValid}
use Rattle.edd_loader.specs.Sections.{lies_within}
use Rattle.edd_loader.proofs.Halving.{holds_at}
use Rattle.edd_loader.proofs.LookupLaws.{all_at}
use Rattle.edd_loader.proofs.RuleOrder.{valid_sections}
use Rattle.edd_loader.proofs.Spaces.{rooms, spans}
use Rattle.edd_loader.proofs.UnitTurns.{all_of_map}
use Rattle.edd_machine.specs.Running.{unit_at, code_at}

pub unit_valid : (b : List ℕ) (n : ℕ) (r : AttributeFields) → IsValid b
    → slice_get (contents_in b).attributes n ≡ Some r
    → IsValidUnit (placed_unit (contents_in b) r).context (placed_unit (contents_in b) r).code
unit_valid b n r valid at =
    let c = contents_in b in
    let keeps = λ (which : _)
    (h : AllByRecursion (λ (u : PlacedUnit). UnitKeeps u.context u.code which) (units c)).
    holds_at (λ (x : AttributeFields). UnitKeeps (placed_unit c x).context (placed_unit c x).code
    which)
    c.attributes n r (all_of_map (placed_unit c)
    (λ (u : PlacedUnit). UnitKeeps u.context u.code which) c.attributes h) at in
    record {
      chain = keeps unit_rule.Chain (valid (rule.Unit unit_rule.Chain));
      jumps = keeps unit_rule.Jump (valid (rule.Unit unit_rule.Jump));
      depths = keeps unit_rule.Depth (valid (rule.Unit unit_rule.Depth));
      references = keeps unit_rule.Reference (valid (rule.Unit unit_rule.Reference)).0;
    }

pub counts_are : (b : List ℕ) (r : AttributeFields) → (placed_unit (contents_in b) r).context.counts
    ≡ counts_in b
unfolding contents_in
counts_are b r = refl

-- ---- where the code is

row_lies : (b : List ℕ) (n : ℕ) (r : AttributeFields) → IsValid b
    → slice_get (contents_in b).attributes n ≡ Some r → r.span.start + r.span.size ≤ code_length b
unfolding contents_in
row_lies b n r valid at =
    leb-true (r.span.start + r.span.size) (code_length b)
    (all_at (λ (x : AttributeFields). lies_within (code_length b) x.span)
    (rows_from (attribute_fields b) 16 (attribute_count b) (attribute_rows_start b)) n r
    (spans b (valid_sections b valid) (valid rule.Row)).units at)

pub unit_inside : (b : List ℕ) (n : ℕ) (r : AttributeFields) → IsValid b
    → slice_get (contents_in b).attributes n ≡ Some r → (unit_at b r).start + (unit_at b r).size
    ≤ length b
unit_inside b n r valid at =
    omega (arith, row_lies b n r valid at, (rooms b (valid_sections b valid)).code)

take_fewer : {A : Type 0} (n m : ℕ) (xs : List A) → n ≤ m → take n (take m xs) ≡ take n xs
take_fewer zero m xs le = refl
take_fewer (suc n) zero xs le = absurd (omega arith)
take_fewer (suc n) (suc m) [] le = refl
take_fewer (suc n) (suc m) (x ∷ xs) le =
    ap (λ (ys : List _). x ∷ ys) (take_fewer n m xs (omega arith))

drop_none : {A : Type 0} (k : ℕ) → drop {A = A} k [] ≡ []
drop_none zero = refl
drop_none (suc k) = refl

drop_more : {A : Type 0} (n m : ℕ) (xs : List A) → drop m (drop n xs) ≡ drop (n + m) xs
drop_more zero m xs = let e : 0 + m ≡ m = omega arith in rw e refl
drop_more {A} (suc n) m [] = let e : suc n + m ≡ suc (n + m) =
    omega arith in rw e (drop_none {A = A} m)
drop_more (suc n) m (x ∷ xs) = let e : suc n + m ≡ suc (n + m) =
    omega arith in rw e (drop_more n m xs)

part_of_part : (from long start size : ℕ) (b : List ℕ) → start + size ≤ long
    → part (record { start = from + start; size = size }) b
    ≡ part (record { start = start; size = size })
    (part (record { start = from; size = long }) b)
part_of_part from long start size b le =
    let behind : long ≡ start + (long - start) = omega arith in
    let whole : drop start (take long (drop from b))
    ≡ take (long - start) (drop start (drop from b)) =
    ap (λ (k : ℕ). drop start (take k (drop from b))) behind ∙ drop-take start (long - start)
    (drop from b) in
    sym (ap (take size) whole ∙ take_fewer size (long - start) (drop start (drop from b))
    (omega arith) ∙ ap (take size) (drop_more from start b))

pub unit_code : (b : List ℕ) (n : ℕ) (r : AttributeFields) → IsValid b
    → slice_get (contents_in b).attributes n ≡ Some r → code_at b (unit_at b r)
    ≡ (placed_unit (contents_in b) r).code
unfolding contents_in
unit_code b n r valid at = part_of_part (code_start b) (code_length b) r.span.start r.span.size b
    (row_lies b n r valid at)
