-- What the units of a description's rows make of its image.
use Rattle.std.proofs.Common.{◌≡◌, refl, sym, subst, ℕ, suc, ◌+◌, ◌<◌, ◌≤◌, Bool, true, false, List, [], ◌∷◌, ◌++◌, length, map, arith}
use Rattle.std.specs.Prelude.{sum, if◌then◌else◌, ⊤, nat_lt, ◌≢◌, OnOk, Result, Ok, Err}
use Rattle.std.specs.List.{All, AllPairs, Contains, flat_map, sum_by}
use Rattle.std.proofs.lemmas.List.{append-nil, length-append}
use Rattle.std.proofs.lemmas.List.Sums.{sum-map, sum_by-cons}
use Rattle.std.proofs.lemmas.Grind.{common_steps}
use Rattle.edd_syntax.specs.declared.limits.Limit.TheVariants as limit
use Rattle.edd_syntax.specs.declared.numbers.Attr.TheVariants as attr
use Rattle.edd_syntax.specs.declared.numbers.AttrRef.{AttrRef}
use Rattle.edd_syntax.specs.declared.numbers.ItemNo.TheVariants as items
use Rattle.edd_syntax.specs.declared.numbers.MethNo.{MethNo}
use Rattle.edd_syntax.specs.declared.reference.Target.{Target}
use Rattle.edd_syntax.specs.Numbers.{same_attr}
use Rattle.edd_syntax.specs.Refusal.{TooMany, refused_if}
use Rattle.edd_syntax.specs.Rows.{rows}
use Rattle.edd_syntax.specs.Strings.{different, too_many_strings, unit_strings}
use Rattle.edd_syntax.specs.Words.{Words}
use Rattle.edd_syntax.specs.Item.{Description}
use Rattle.edd_instructions.specs.Agreement.{IsAttributeCode}
use Rattle.edd_instructions.specs.MethodAgreement.{IsMethodCode}
use Rattle.edd_assembly.specs.Assembly.{Lowered}
use Rattle.edd_assembly.specs.LoweredUnits.{plain_row, IsBodyCode, IsMethodOf, IsUnitOf, AreUnitsOf}
use Rattle.edd_assembly.specs.RowContents.{strings_of_row, limit_of_row}
use Rattle.edd_compiler.specs.Lowering.{IsCodeOf, IsRowCode, HasLowered, HasTooMany}

-- ---- the units

both_within : (a b c e : ℕ) → a ≤ c → b ≤ e → a + b ≤ c + e
both_within a b c e first second = omega arith

module _ (d : Description Target) (table : List Words) (few : length table ≤ 65535) where
  -- what the unit of a row is under the table itself
  here_code : (l : Lowered) → IsCodeOf d table l → IsRowCode d table l
  here_code l is = subst (λ t. IsRowCode d t l) (append-nil table)
      (is.means [] (subst (λ (t : List Words). length t ≤ 65535) (sym (append-nil table)) few))

  module _ (bodies : (m : MethNo) (slots : ℕ) (code : List ℕ) → IsMethodCode d table m slots code
      → IsBodyCode d table slots code) where
    unit_of_code : (l : Lowered) → IsCodeOf d table l → IsUnitOf d table l
    unit_of_code l is = by_attribute (same_attr l.row.attr attr.Definition) (here_code l is)
      where
        by_attribute : (b : Bool)
            → elim b as (λ _. Type 0) [
              | true ↦ (m : MethNo) × (l.row.item ≡ items.Method m)
                  × IsMethodCode d table m l.row.sub l.code
              | false ↦ IsAttributeCode d table l.row l.code
            ]
            → elim b as (λ _. Type 0) [
              | true ↦ IsBodyCode d table l.row.sub l.code
              | false ↦ IsAttributeCode d table l.row l.code
            ]
        by_attribute true code = bodies code.0 l.row.sub l.code code.2
        by_attribute false code = code

    pub are_units : (units : List Lowered) → HasLowered d (rows d.items) table units
        → AreUnitsOf d table units
    are_units units has = record {
      in_order = has.in_order;
      each = λ k x h. unit_of_code _
          (has.each k x h);
    }

  -- ---- the methods

  method_of_code : (l : Lowered) → IsCodeOf d table l → IsMethodOf d table l
  method_of_code l is = by_attribute (same_attr l.row.attr attr.Definition) (here_code l is)
    where
      by_attribute : (b : Bool)
          → elim b as (λ _. Type 0) [
            | true ↦ (m : MethNo) × (l.row.item ≡ items.Method m)
                × IsMethodCode d table m l.row.sub l.code
            | false ↦ IsAttributeCode d table l.row l.code
          ]
          → elim b as (λ _. Type 0) [
            | true ↦ (m : MethNo) × (l.row.item ≡ items.Method m)
                × IsMethodCode d table m l.row.sub l.code
            | false ↦ ⊤
          ]
      by_attribute true code = code
      by_attribute false code = tt

  pub are_methods : (units : List Lowered) → HasLowered d (rows d.items) table units
      → All (IsMethodOf d table) units
  are_methods units has = λ k x h. method_of_code _ (has.each k x h)

-- ---- the length of the code

module _ (d : Description Target) (table : List Words) where
  -- the slots of a body make no difference
  same_limit : (l : Lowered) → limit_of_row d (plain_row l) ≡ limit_of_row d l.row
  same_limit l = here (same_attr l.row.attr attr.Definition) refl
    where
      here : (b : Bool) → same_attr l.row.attr attr.Definition ≡ b
          → limit_of_row d (if b then record l.row { sub = 0 } else l.row) ≡ limit_of_row d l.row
      here true is = rw is refl
      here false is = refl

  within_limits : (units : List Lowered) → All (IsCodeOf d table) units
      → length (flat_map (λ l. l.code) units) ≤ sum_by (limit_of_row d) (map plain_row units)
  within_limits [] all = omega arith
  within_limits (l ∷ rest) all = subst (λ n. length (l.code ++ flat_map (λ u. u.code) rest) ≤ n)
      (sym (sum_by-cons (limit_of_row d) (plain_row l) (map plain_row rest)))
      (subst (λ n. n ≤ limit_of_row d (plain_row l) + sum_by (limit_of_row d) (map plain_row rest))
      (sym (length-append l.code (flat_map (λ u. u.code) rest)))
      (both_within (length l.code) (length (flat_map (λ u. u.code) rest))
      (limit_of_row d (plain_row l)) (sum_by (limit_of_row d) (map plain_row rest))
      (subst (λ n. length l.code ≤ n) (sym (same_limit l)) (all 0 l (omega arith)).short)
      (within_limits rest (λ k x h. all (suc k) x (omega arith)))))

  pub code_within : (units : List Lowered) → HasLowered d (rows d.items) table units
      → length (flat_map (λ l. l.code) units) ≤ sum (map (limit_of_row d) (rows d.items))
  code_within units has = subst (λ n. length (flat_map (λ l. l.code) units) ≤ n)
      (sym (sum-map (limit_of_row d) (rows d.items)))
      (subst (λ rs. length (flat_map (λ l. l.code) units) ≤ sum_by (limit_of_row d) rs) has.in_order
      (within_limits units has.each))

-- ---- the strings

module _ (d : Description Target) where
  few : (n : ℕ) → n ≤ 65535 → refused_if (nat_lt 65535 n) (TooMany limit.Strings) ≡ []
  few n h = grind (arith, common_steps)

  many : (n : ℕ) → 65535 < n → refused_if (nat_lt 65535 n) (TooMany limit.Strings)
      ≡ TooMany limit.Strings ∷ []
  many n h = grind (arith, common_steps)

  module _ (within : (xs ys : List Words) → ((w : Words) → Contains xs w → Contains ys w)
      → length (different xs) ≤ length (different ys)) where
    pub few_strings : ((xs : List Words) → AllPairs (λ s t. s ≢ t) xs → length (different xs)
        ≡ length xs)
        → ((w : Words) → Contains (unit_strings d) w → (row : AttrRef) × Contains (rows d.items) row
        × Contains (strings_of_row d row) w)
        → (table : List Words) (units : List Lowered) → AllPairs (λ s t. s ≢ t) table
        → length table ≤ 65535
        → HasLowered d (rows d.items) table units → too_many_strings d ≡ []
    few_strings itself in_rows table units apart short has =
        let all_held = λ (w : Words) (there : Contains (unit_strings d) w).
        let found = in_rows w there in
        has.holds found.0 found.1 w found.2 in
        let least = within (unit_strings d) table all_held in
        let most = itself table apart in
        few (length (different (unit_strings d))) (omega arith)

    pub too_many : ((row : AttrRef) (w : Words) → Contains (strings_of_row d row) w
        → Contains (unit_strings d) w)
        → HasTooMany d → too_many_strings d ≡ TooMany limit.Strings ∷ []
    too_many of_rows has =
        let all_held = λ (w : Words) (there : Contains has.0 w).
        let found = has.2 w there in
        of_rows found.0 w found.1 in
        let least = within has.0 (unit_strings d) all_held in
        let over = has.1 in
        many (length (different (unit_strings d))) (omega arith)

-- what always holds, holds where the answer is good
pub on_ok : {A E P : Type 0} (r : Result A E) → P → OnOk r P
on_ok (Ok x) p = p
on_ok (Err e) p = tt
