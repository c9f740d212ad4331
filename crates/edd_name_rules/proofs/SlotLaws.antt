-- The locals of parts and of attributes, one after another.
use Rattle.std.proofs.Common.{◌≡◌, sym, ap, ◌∙◌, refl, ℕ, zero, suc, ◌+◌, ◌<◌, ◌≤◌, Bool, true, false, List, [], ◌∷◌, length, get_or, map, arith}
use Rattle.std.specs.Prelude.{◌||◌}
use Rattle.std.specs.List.{list_any, sum, sum_by}
use Rattle.std.proofs.lemmas.List.Sums.{sum-map, sum_by-append}
use Rattle.edd_syntax.specs.Item.{Attribute}
use Rattle.edd_syntax.specs.Statement.{Part, Declare, body_from, slots_of, slots_in}
use Rattle.edd_name_rules.specs.Spending.{locals_in}

pub slots_split : {R : Type 0} (x : Part R) (xs : List (Part R)) → slots_in (body_from (x ∷ xs))
    ≡ slots_in (body_from (x ∷ [])) + slots_in (body_from xs)
unfolding slots_of
slots_split (Declare declarators) xs = omega arith
slots_split _ xs = omega arith

pub sum_split : {X : Type 0} (f : X → ℕ) (x : X) (xs : List X)
    → sum (map f (x ∷ xs)) ≡ sum (map f (x ∷ [])) + sum (map f xs)
sum_split f x xs =
    sum-map f (x ∷ xs) ∙ sum_by-append f (x ∷ []) xs
    ∙ ap (λ n. n + sum_by f xs) (sym (sum-map f (x ∷ []))) ∙ ap (λ n. sum (map f (x ∷ [])) + n)
    (sym (sum-map f xs))

pub locals_split : {R : Type 0} (a : Attribute R) (rest : List (Attribute R))
    → locals_in (a ∷ rest) ≡ locals_in (a ∷ []) + locals_in rest
locals_split a rest = sum_split _ a rest

pub sum_one : {X : Type 0} (f : X → ℕ) (x : X) → f x ≡ sum (map f (x ∷ []))
sum_one f x = omega arith

pub locals_within : {R X : Type 0} (view : X → Attribute R) (i : ℕ) (xs : List X) (x : X)
    → i < length xs → x ≡ get_or xs i x → locals_in (view x ∷ []) ≤ locals_in (map view xs)
locals_within view i [] x h is = absurd (omega arith)
locals_within view zero (y ∷ ys) x h is =
    let e = ap (λ z. locals_in (view z ∷ [])) is in
    let f = locals_split (view y) (map view ys) in
    omega (arith, e, f)
locals_within view (suc i) (y ∷ ys) x h is =
    let e = locals_within view i ys x (omega arith) is in
    let f = locals_split (view y) (map view ys) in
    omega (arith, e, f)

neither : (a b : Bool) → (a || b) ≡ false → (a ≡ false) × (b ≡ false)
neither false b h = (refl, h)
neither true b h = absurd (true_false h)
  where
    true_false : true ≡ false → ⊥
    true_false e = cc

-- what holds of none holds not of one
pub none_of_any : {X Y : Type 0} (p : Y → Bool) (view : X → Y) (i : ℕ) (xs : List X) (x : X)
    → i < length xs → x ≡ get_or xs i x → list_any p (map view xs) ≡ false → p (view x) ≡ false
none_of_any p view i [] x h is none = absurd (omega arith)
none_of_any p view zero (y ∷ ys) x h is none = ap (λ z. p (view z)) is
    ∙ (neither (p (view y)) (list_any p (map view ys)) none).0
none_of_any p view (suc i) (y ∷ ys) x h is none = none_of_any p view i ys x (omega arith) is
    (neither (p (view y)) (list_any p (map view ys)) none).1
