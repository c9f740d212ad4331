-- What one turn of the loop over the units does to a rule on them all.
use Rattle.std.proofs.Common.{◌≡◌, ℕ, List, [], ◌∷◌, map, Option, Some, refl, ap, subst, sym, ◌∙◌}
use Rattle.std.specs.Prelude.{unwrap_or}
use Rattle.std.specs.List.{AllByRecursion}
use Rattle.edd_image.specs.declared.parts.Counts.{Counts}
use Rattle.edd_image.specs.declared.versions.Version.{Version}
use Rattle.edd_image.specs.declared.versions.Version.TheVariants.{One}
use Rattle.edd_instructions.specs.declared.unit.Context.{Context}
use Rattle.edd_instructions.specs.declared.rules.UnitRule.{UnitRule}
use Rattle.edd_image.specs.Fields.{version_number, counts_in, attribute_count, attribute_rows_start, code_start, code_length}
use Rattle.edd_image.specs.Contents.{AttributeFields, part, rows_from, attribute_fields, contents_in, version_of}
use Rattle.edd_instructions.specs.Units.{UnitKeeps}
use Rattle.edd_instructions.specs.Validity.{PlacedUnit, sort_of, slots_of, placed_unit, units}
use Rattle.edd_loader.specs.UnitRows.{RowKeeps, context_of}

pub first_holds : {A : Type 0} (P : A → Type 0) (rows rest : List A) (r : A) → rows ≡ r ∷ rest
    → AllByRecursion P rows → P r
first_holds P rows rest r e h = (subst (AllByRecursion P) e h).0

pub rest_holds : {A : Type 0} (P : A → Type 0) (rows rest : List A) (r : A) → rows ≡ r ∷ rest
    → AllByRecursion P rows → AllByRecursion P rest
rest_holds P rows rest r e h = (subst (AllByRecursion P) e h).1

pub both_hold : {A : Type 0} (P : A → Type 0) (rows rest : List A) (r : A) → rows ≡ r ∷ rest → P r
    → AllByRecursion P rest → AllByRecursion P rows
both_hold P rows rest r e here others = subst (AllByRecursion P) (sym e) (here, others)

pub none_hold : {A : Type 0} (P : A → Type 0) (rows : List A) → rows ≡ [] → AllByRecursion P rows
none_hold P rows e = subst (AllByRecursion P) (sym e) tt

pub all_of_map : {A B : Type 0} (f : A → B) (P : B → Type 0) (xs : List A)
    → AllByRecursion P (map f xs) → AllByRecursion (λ x. P (f x)) xs
all_of_map f P [] h = tt
all_of_map f P (x ∷ xs) h = (h.0, all_of_map f P xs h.1)

pub map_of_all : {A B : Type 0} (f : A → B) (P : B → Type 0) (xs : List A)
    → AllByRecursion (λ x. P (f x)) xs → AllByRecursion P (map f xs)
map_of_all f P [] h = tt
map_of_all f P (x ∷ xs) h = (h.0, map_of_all f P xs h.1)

-- ---- the unit of a row

pub holds_here : (P : Context → List ℕ → Type 0) (version : Version) (counts : Counts)
    (code unit : List ℕ) (r : AttributeFields) (context : Context) (place size : ℕ)
    → context ≡ context_of version counts r → unit ≡ part (record { start = place; size = size })
    code → place ≡ r.span.start → size ≡ r.span.size
    → P context unit → P (context_of version counts r) (part r.span code)
holds_here P version counts code unit r context place size e u p s h =
    let same : unit ≡ part r.span code = u ∙ rw (p, s) refl in
    subst (λ (c : Context). P c (part r.span code)) e (subst (λ (x : List ℕ). P context x) same h)

-- the rule that is said of the unit at hand is said of the row's
pub kept_here : (version : Version) (counts : Counts) (code unit : List ℕ) (r : AttributeFields)
    (context : Context) (place size : ℕ) (which : UnitRule) → context ≡ context_of version counts r
    → unit ≡ part (record { start = place; size = size }) code → place ≡ r.span.start
    → size ≡ r.span.size
    → RowKeeps version counts code which r → UnitKeeps context unit which
kept_here version counts code unit r context place size which e u p s h =
    let same : unit ≡ part r.span code = u ∙ rw (p, s) refl in
    subst (λ (c : Context). UnitKeeps c unit which) (sym e)
    (subst (λ (x : List ℕ). UnitKeeps (context_of version counts r) x which) (sym same) h)

-- ---- the units of an image, and those of its rows

abbrev rows_hold : (P : Context → List ℕ → Type 0) → Version → Counts → List ℕ
    → List AttributeFields → Type 0
rows_hold P version counts code rows =
    AllByRecursion (λ r. P (record {
      version = version;
      counts = counts;
      sort = sort_of r;
      slots = slots_of r;
    }) (part r.span code)) rows

-- what the parts of the image are, however they were come by
pub record AreUnitsOf (b code : List ℕ) (version : Version) (counts : Counts)
    (rows : List AttributeFields) : Type 0 where
  pub code_is : code ≡ part (record { start = code_start b; size = code_length b }) b
  pub version_is : version_of (version_number b) ≡ Some version
  pub counts_are : counts ≡ counts_in b
  pub rows_are : rows ≡ rows_from (attribute_fields b) 16 (attribute_count b)
      (attribute_rows_start b)

pub are_units_of : (b code : List ℕ) (version : Version) (counts : Counts)
    (start count place size : ℕ) → code ≡ part (record { start = place; size = size }) b
    → place ≡ code_start b → size ≡ code_length b → version_of (version_number b) ≡ Some version
    → counts ≡ counts_in b → start ≡ attribute_rows_start b → count ≡ attribute_count b
    → AreUnitsOf b code version counts (rows_from (attribute_fields b) 16 count start)
are_units_of b code version counts start count place size u p s v k e f = record {
  code_is = u ∙ rw (p, s) refl;
  version_is = v;
  counts_are = k;
  rows_are = rw (e, f) refl;
}

pub to_units : (P : Context → List ℕ → Type 0) (b code : List ℕ) (version : Version)
    (counts : Counts) (rows : List AttributeFields) → AreUnitsOf b code version counts rows
    → AllByRecursion (λ r. P (context_of version counts r) (part r.span code)) rows
    → AllByRecursion (λ u. P u.context u.code) (units (contents_in b))
unfolding contents_in
to_units P b code version counts rows same h =
    let c = contents_in b in
    let one = subst (λ (x : List ℕ). rows_hold P version counts x rows) same.code_is h in
    let two = subst (λ (x : Counts). rows_hold P version x c.code rows) same.counts_are one in
    let three = subst (λ (x : List AttributeFields). rows_hold P version c.counts c.code x)
    same.rows_are two in
    map_of_all (placed_unit c) (λ (u : PlacedUnit). P u.context u.code) c.attributes
    (subst (λ (v : Version). rows_hold P v c.counts c.code c.attributes)
    (sym (ap (λ (o : Option Version). unwrap_or o One) same.version_is)) three)

pub from_units : (P : Context → List ℕ → Type 0) (b code : List ℕ) (version : Version)
    (counts : Counts) (rows : List AttributeFields) → AreUnitsOf b code version counts rows
    → AllByRecursion (λ u. P u.context u.code) (units (contents_in b))
    → AllByRecursion (λ r. P (context_of version counts r) (part r.span code)) rows
unfolding contents_in
from_units P b code version counts rows same h =
    let c = contents_in b in
    let all = all_of_map (placed_unit c) (λ (u : PlacedUnit). P u.context u.code) c.attributes h in
    let three = subst (λ (v : Version). rows_hold P v c.counts c.code c.attributes)
    (ap (λ (o : Option Version). unwrap_or o One) same.version_is) all in
    let two = subst (λ (x : List AttributeFields). rows_hold P version c.counts c.code x)
    (sym same.rows_are) three in
    let one = subst (λ (x : Counts). rows_hold P version x c.code rows) (sym same.counts_are) two in
    subst (λ (x : List ℕ). rows_hold P version counts x rows) (sym same.code_is) one
