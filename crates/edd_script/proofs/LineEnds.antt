-- The first of the lines of a text.
use Rattle.std.proofs.Common.{◌≡◌, ℕ, zero, suc, ◌+◌, ◌<◌, ◌≤◌, cond, List, [], ◌∷◌, length, take, drop, Some, None, refl, ap, ◌∙◌, arith, inl, inr}
use Rattle.std.specs.Prelude.{◌==◌, ltb}
use Rattle.std.specs.List.{position_or_len, onto_first}
use Rattle.std.proofs.lemmas.Bool.{cases_Bool}
use Rattle.std.proofs.lemmas.Grind.{common_steps}
use Rattle.edd_script.specs.Lines.{lines}

-- where the first LF is, or the length
abbrev pub end_of : List ℕ → ℕ
end_of bs = position_or_len (λ b. b == 10) bs

first_of_lines : (b : ℕ) (bs : List ℕ) (place : ℕ) → place ≡ end_of (b ∷ bs) → lines (b ∷ bs)
    ≡ take (suc place) (b ∷ bs) ∷ lines (drop (suc place) (b ∷ bs))
first_of_lines b [] zero e = elim (cases_Bool (b == 10)) [ inl lf ↦ rw lf refl | inr other ↦ rw other refl ]
first_of_lines b [] (suc k) e = elim (cases_Bool (b == 10)) [ inl lf ↦ rw lf refl | inr other ↦ rw other refl ]
first_of_lines b (x ∷ xs) zero e = elim (cases_Bool (b == 10)) [
  | inl lf ↦ rw lf refl
  | inr other ↦ let further : 0 ≡ 1 + end_of (x ∷ xs) = rw other at e in absurd (omega (arith, further))
]
first_of_lines b (x ∷ xs) (suc k) e = elim (cases_Bool (b == 10)) [
  | inl lf ↦ let here : suc k ≡ 0 = rw lf at e in absurd (omega (arith, here))
  | inr other ↦
      let further : suc k ≡ 1 + end_of (x ∷ xs) = rw other at e in
      let next : k ≡ end_of (x ∷ xs) = omega (arith, further) in
      rw other (ap (onto_first b) (first_of_lines x xs k next))
]

one_more : (n : ℕ) → n + 1 ≡ suc n
one_more n = omega arith

pub to_its_end : (bs : List ℕ) (place : ℕ) → 0 < length bs → Some place
    ≡ cond (ltb (end_of bs) (length bs)) (Some (end_of bs)) None
    → lines bs ≡ take (place + 1) bs ∷ lines (drop (place + 1) bs)
to_its_end [] place some found = absurd (omega arith)
to_its_end (b ∷ bs) place some found =
    let same : place ≡ end_of (b ∷ bs) = grind (arith, common_steps) in
    rw (one_more place) (first_of_lines b bs place same)

pub whole_line : (bs : List ℕ) → 0 < length bs → None
    ≡ cond (ltb (end_of bs) (length bs)) (Some (end_of bs)) None → lines bs ≡ bs ∷ []
whole_line [] some found = absurd (omega arith)
whole_line (b ∷ bs) some found =
    let past : length (b ∷ bs) ≤ end_of (b ∷ bs) = grind (arith, common_steps) in
    let taken : take (suc (end_of (b ∷ bs))) (b ∷ bs) ≡ b ∷ bs = grind (arith, common_steps) in
    let dropped : drop (suc (end_of (b ∷ bs))) (b ∷ bs) ≡ [] = grind (arith, common_steps) in
    first_of_lines b bs (end_of (b ∷ bs)) refl ∙ rw (taken, dropped) refl
