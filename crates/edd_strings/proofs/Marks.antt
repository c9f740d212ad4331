-- A raw text that is read from mark to mark: a mark is a bar or a backslash.
use Rattle.std.proofs.Common.{◌≡◌, ◌≢◌, ℕ, zero, suc, ◌+◌, ◌-◌, ◌<◌, ◌≤◌, true, false, List, [], ◌∷◌, length, get_or, take, nat_eq, refl, sym, ap, subst, ◌∙◌, add-zero, arith, inl, inr, IsTrue}
use Rattle.std.proofs.Math.Seq.{length-take-le}
use Rattle.std.proofs.lemmas.Bool.{cases_lt, or_parts}
use Rattle.std.proofs.lemmas.Bool.Decides.{nat_tests}
use Rattle.std.proofs.lemmas.List.{get_or-take}
use Rattle.std.specs.List.{list_any}
use Rattle.edd_syntax.specs.Words.{has_escapes, unescape}
use Rattle.edd_strings.specs.Parts.{AreUnmarked, is_mark}
use Rattle.edd_strings.proofs.Pieces.{IsReadTo, read_other}
use Rattle.edd_strings.proofs.Unescaping.{unescape-plain}

-- no byte before this place is a backslash
abbrev pub IsPlainTo : List ℕ → ℕ → Type 0
IsPlainTo xs at = (i : ℕ) → i < at → get_or xs i 0 ≢ 92

-- here is a mark, or the end
abbrev pub IsMarkAt : List ℕ → ℕ → Type 0
IsMarkAt xs at = at < length xs → IsTrue (is_mark (get_or xs at 0))

pub no_backslash : (c : ℕ) → is_mark c ≡ false → c ≢ 92
no_backslash c none = grind (arith, nat_tests, none)

pub no_bar : (c : ℕ) → is_mark c ≡ false → c ≢ 124
no_bar c none = grind (arith, nat_tests, none)

pub marked_backslash : (c : ℕ) → IsTrue (is_mark c) → c ≢ 124 → c ≡ 92
marked_backslash c mark other = grind (arith, nat_tests, mark)

read_many : (raw : List ℕ) (n from : ℕ) → AreUnmarked raw from (from + n) → IsReadTo raw from
    → IsReadTo raw (from + n)
read_many raw zero from none so_far = subst (IsReadTo raw) (sym (add-zero from)) so_far
read_many raw (suc n) from none so_far =
    let here = none from (omega arith) (omega arith) in
    let same : (from + 1) + n ≡ from + suc n = omega arith in
    subst (IsReadTo raw) same (read_many raw n (from + 1)
    (λ i past below. none i (omega arith) (omega arith))
    (read_other raw from here.0 (no_backslash _ here.1) (no_bar _ here.1) so_far))

-- up to the next mark all is text
pub read_to_mark : (raw : List ℕ) (from to : ℕ) → from ≤ to → AreUnmarked raw from to
    → IsReadTo raw from → IsReadTo raw to
read_to_mark raw from to ahead none so_far =
    let gap : (n : ℕ) × (to ≡ from + n) = (to - from, omega arith) in
    rw (gap.1) (read_many raw gap.0 from (λ i past below. none i past (omega arith)) so_far)

pub unmarked_next : (raw : List ℕ) (from at : ℕ) → at < length raw
    → is_mark (get_or raw at 0) ≡ false → AreUnmarked raw from at → AreUnmarked raw from (at + 1)
unmarked_next raw from at inside none h i past below =
    elim (cases_lt i at) [
      | inl before ↦ h i past before
      | inr over ↦
          let same : at ≡ i = omega arith in (
            omega arith,
            ap (λ n. is_mark (get_or raw n 0)) (sym same) ∙ none,
          )
    ]

-- up to the next mark nothing is escaped
pub plain_to_mark : (raw : List ℕ) (from to : ℕ) → AreUnmarked raw from to → IsPlainTo raw from
    → IsPlainTo raw to
plain_to_mark raw from to none h i below =
    elim (cases_lt i from) [
      | inl before ↦ h i before
      | inr past ↦ no_backslash _ (none i past below).1
    ]

-- a step from behind a mark to the next one, over bytes that are those of the text
pub to_mark : (raw bytes : List ℕ) (from to : ℕ) → bytes ≡ raw → from ≤ to
    → AreUnmarked bytes from to → IsMarkAt bytes to → IsReadTo raw from
    → IsReadTo raw to × (IsPlainTo raw from → IsPlainTo raw to) × IsMarkAt raw to
to_mark raw bytes from to same ahead none mark so_far =
    let none_here : AreUnmarked raw from to = subst (λ bs. AreUnmarked bs from to) same none in (
      read_to_mark raw from to ahead none_here so_far,
      plain_to_mark raw from to none_here,
      subst (λ bs. IsMarkAt bs to) same mark,
    )

pub plain_next : (xs : List ℕ) (at : ℕ) → get_or xs at 0 ≢ 92 → IsPlainTo xs at
    → IsPlainTo xs (at + 1)
plain_next xs at here h i below =
    elim (cases_lt i at) [
      | inl before ↦ h i before
      | inr past ↦ (λ e. here (ap (λ n. get_or xs n 0) (omega arith) ∙ e))
    ]

pub unescape-front : (xs : List ℕ) (at : ℕ) → at < length xs → IsPlainTo xs at
    → unescape (take at xs) ≡ take at xs
unescape-front xs at inside h =
    unescape-plain (take at xs)
    (λ i below e. let before : i < at = omega (arith, below, length-take-le at xs (omega arith)) in
    h i before (sym (get_or-take at xs i 0 before) ∙ e))

pub unescape-all : (xs : List ℕ) (at : ℕ) → length xs ≤ at → IsPlainTo xs at → unescape xs ≡ xs
unescape-all xs at over h = unescape-plain xs (λ i below. h i (omega arith))

-- where a search for a backslash finds none
pub plain_unfound : (xs : List ℕ) → list_any (λ y. nat_eq y 92) xs ≡ false → has_escapes xs ≡ true
plain_unfound [] none = refl
plain_unfound (x ∷ xs) none =
    let parts = or_parts (nat_eq x 92) (list_any (λ y. nat_eq y 92) xs) none in
    rw (has_escapes, parts.0) (plain_unfound xs parts.1)
