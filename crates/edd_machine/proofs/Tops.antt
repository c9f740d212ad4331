-- The list of the operands, the topmost first, where the last of the items is set.
use Rattle.std.proofs.Common.{◌≡◌, ℕ, ◌-◌, ◌<◌, ℤ, List, [], ◌∷◌, ◌++◌, length, reverse, drop, slice_set, sym, ap, ◌∙◌, arith}
use Rattle.std.proofs.lemmas.Grind.{reverse_onto}
use Rattle.std.proofs.lemmas.List.{reverse-append, reverse-reverse, length-append}
use Rattle.std.proofs.Math.Seq.{set-append_seam}

set_behind : (front : List ℤ) (top z : ℤ) → reverse (slice_set (front ++ top ∷ []) (length front) z)
    ≡ z ∷ reverse front
set_behind front top z = ap (λ (items : List ℤ). reverse items) (set-append_seam front top [] z)
    ∙ reverse-append front (z ∷ [])

-- with the items upside down
set_under : (r : List ℤ) (z : ℤ) → 0 < length r
    → reverse (slice_set (reverse r) (length (reverse r) - 1) z) ≡ z ∷ drop 1 r
set_under [] z p = absurd (omega (arith, p))
set_under (top ∷ below) z p =
    let front = reverse below in
    let last : length (front ++ top ∷ []) - 1 ≡ length front =
    omega (arith, length-append front (top ∷ [])) in
    ap (λ (items : List ℤ). reverse (slice_set items (length items - 1) z))
    (reverse_onto below top [])
    ∙ ap (λ (n : ℕ). reverse (slice_set (front ++ top ∷ []) n z)) last
    ∙ set_behind front top z
    ∙ ap (λ (l : List ℤ). z ∷ l) (reverse-reverse below)

pub set_last : (items : List ℤ) (z : ℤ) → 0 < length (reverse items)
    → reverse (slice_set items (length items - 1) z) ≡ z ∷ drop 1 (reverse items)
set_last items z p =
    ap (λ (i : List ℤ). reverse (slice_set i (length i - 1) z)) (sym (reverse-reverse items))
    ∙ set_under (reverse items) z p
