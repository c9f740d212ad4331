-- The units of rows, one more at a time.
use Rattle.std.proofs.Common.{◌≡◌, refl, sym, ap, subst, ◌∙◌, ℕ, ◌+◌, ◌<◌, ◌≤◌, inl, inr, List, [], ◌∷◌, ◌++◌, length, map, take, get_or, zero, suc, add-one, arith}
use Rattle.std.specs.List.{All, Contains}
use Rattle.std.proofs.Math.Logic.{⊎_elim}
use Rattle.std.proofs.Math.Seq.{take-suc}
use Rattle.std.proofs.lemmas.List.{append_assoc, map_push}
use Rattle.std.proofs.lemmas.List.Elements.{All-push, Contains-append_cases}
use Rattle.edd_syntax.specs.declared.numbers.AttrRef.{AttrRef}
use Rattle.edd_syntax.specs.declared.reference.Target.{Target}
use Rattle.edd_syntax.specs.Words.{Words}
use Rattle.edd_syntax.specs.Item.{Description}
use Rattle.edd_syntax.specs.Strings.{different}
use Rattle.edd_assembly.specs.Assembly.{Lowered}
use Rattle.edd_code.specs.Tables.{Grows}
use Rattle.edd_assembly.specs.LoweredUnits.{plain_row}
use Rattle.edd_assembly.specs.RowContents.{strings_of_row}
use Rattle.edd_compiler.specs.declared.fault.Fault.{Fault}
use Rattle.edd_compiler.specs.declared.fault.Fault.TheVariants as fault
use Rattle.edd_compiler.specs.Faults.{IsOfLowering}
use Rattle.edd_compiler.specs.Lowering.{IsCodeOf, IsRowCode, HasLowered, AddsRow, HasTooMany}

first_rows : (all : List AttrRef) (i : ℕ) (row any : AttrRef) → i < length all
    → row ≡ get_or all i any → take (i + 1) all ≡ take i all ++ row ∷ []
first_rows all i row any h is = ap (λ n. take n all) (add-one i) ∙ take-suc all i any h
    ∙ ap (λ r. take i all ++ r ∷ []) (sym is)

nothing_before : (k : ℕ) → k < 0 → ⊥
nothing_before k h = omega arith

single : {X : Type 0} (x y : X) → Contains (x ∷ []) y → x ≡ y
single x y (zero, h, is) = is
single x y (suc k, h, is) = absurd (nothing_before k (omega arith))

module _ (d : Description Target) where
  -- code stays the code of its row where the table grows
  code_stays : (old new : List Words) (l : Lowered) → Grows old new → IsCodeOf d old l
      → IsCodeOf d new l
  code_stays old new l grows is = record {
    means = λ more few.
        let longer = ap (λ table. table ++ more) grows.1 ∙ append_assoc old grows.0 more in
        subst (λ table. IsRowCode d table l) (sym longer)
        (is.means (grows.0 ++ more) (subst (λ (table : List Words). length table ≤ 65535) longer
        few));
    short = is.short;
  }

  pub nothing_lowered : (rows : List AttrRef) (table : List Words) (units : List Lowered)
      → rows ≡ [] → table ≡ [] → units ≡ [] → HasLowered d rows table units
  nothing_lowered rows table units no_rows no_table no_units =
      rw (no_rows, no_table, no_units) (record {
        in_order = refl;
        each = λ k x h. absurd (nothing_before k h);
        holds = λ row in_none. absurd (nothing_before in_none.0 in_none.1);
        only = λ w in_none. absurd (nothing_before in_none.0 in_none.1);
      })

  pub one_more : (rows : List AttrRef) (row : AttrRef) (old new : List Words)
      (before after : List Lowered)
      → HasLowered d rows old before → AddsRow d row old before new after
      → HasLowered d (rows ++ row ∷ []) new after
  one_more rows row old new before after has adds = record {
    in_order = ap (map plain_row) adds.pushed ∙ map_push plain_row before adds.unit
        ∙ ap (λ rs. rs ++ plain_row adds.unit ∷ []) has.in_order
        ∙ ap (λ r. rows ++ r ∷ []) adds.of_row;
    each = subst (All (IsCodeOf d new)) (sym adds.pushed)
        (All-push (IsCodeOf d new) before adds.unit
        (λ k x h. code_stays old new _ adds.grown (has.each k x h)) adds.code);
    holds = λ r there w of_row. (adds.strings w).1 (⊎_elim
        (λ before. inl (has.holds r before w of_row))
        (λ last. inr (subst (λ x. Contains (strings_of_row d x) w) (sym (single row r last))
        of_row))
        (Contains-append_cases rows (row ∷ []) r there));
    only = λ w there. ⊎_elim (λ held. has.only w held) (λ of_row. (row, of_row))
        ((adds.strings w).0 there);
  }

  -- strings of the rows so far and of the next
  pub too_many_at : (rows : List AttrRef) (table : List Words) (units : List Lowered)
      (row : AttrRef) → HasLowered d rows table units
      → 65535 < length (different (table ++ strings_of_row d row)) → HasTooMany d
  too_many_at rows table units row has over = (
    table ++ strings_of_row d row,
    over,
    λ w there. ⊎_elim (λ held. has.only w held) (λ of_row. (row, of_row))
        (Contains-append_cases table (strings_of_row d row) w there),
  )

  -- the same in a loop over all rows
  pub next_row : (all : List AttrRef) (i : ℕ) (row any : AttrRef) (old new : List Words)
      (before after : List Lowered) → i < length all → row ≡ get_or all i any
      → HasLowered d (take i all) old before → AddsRow d row old before new after
      → HasLowered d (take (i + 1) all) new after
  next_row all i row any old new before after h is has adds =
      subst (λ rows. HasLowered d rows new after) (sym (first_rows all i row any h is))
      (one_more (take i all) row old new before after has adds)

-- what says more may be said of too many strings
pub over_more : {P Q : Type 0} (e : Fault) → (P → Q) → IsOfLowering P e → IsOfLowering Q e
over_more fault.TooManyStrings more is = more is
over_more _ more is = is
