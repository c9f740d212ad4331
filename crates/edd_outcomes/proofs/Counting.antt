-- Each outcome is counted as one thing.
use Rattle.std.proofs.Common.{◌≡◌, ℕ, suc, ◌+◌, Bool, List, [], ◌∷◌, count_by, length, refl, arith}
use Rattle.std.specs.Prelude.{cond}
use Rattle.std.proofs.lemmas.List.Sums.{sum_by-cons}
use Rattle.edd_outcomes.specs.declared.score.Outcome.{Outcome}
use Rattle.edd_outcomes.specs.declared.score.Outcome.TheVariants as outcome
use Rattle.edd_outcomes.specs.Outcomes.{is_failed, is_left_out, is_passed, is_refused}

-- 1 where the outcome is counted, else 0
abbrev one_of : (Outcome → Bool) → Outcome → ℕ
one_of p x = cond (p x) 1 0

one_kind : (x : Outcome) → one_of is_passed x + one_of is_failed x + one_of is_left_out x
    + one_of is_refused x ≡ 1
one_kind outcome.Passed = refl
one_kind outcome.Updated = refl
one_kind outcome.Failed = refl
one_kind outcome.LeftOut = refl
one_kind outcome.Refused = refl

one_more : (a b c d p f l r n passed failed left_out refused : ℕ)
    → passed ≡ a + p → failed ≡ b + f → left_out ≡ c + l → refused ≡ d + r
    → a + b + c + d ≡ 1 → p + f + l + r ≡ n
    → passed + failed + left_out + refused ≡ suc n
one_more a b c d p f l r n passed failed left_out refused ps fs ls rs one are =
    omega (arith, ps, fs, ls, rs, one, are)

all_counted : (xs : List Outcome) → count_by is_passed xs + count_by is_failed xs
    + count_by is_left_out xs + count_by is_refused xs ≡ length xs
all_counted [] = refl
all_counted (x ∷ xs) = one_more (one_of is_passed x) (one_of is_failed x) (one_of is_left_out x)
    (one_of is_refused x) (count_by is_passed xs) (count_by is_failed xs) (count_by is_left_out xs)
    (count_by is_refused xs) (length xs) _ _ _ _
    (sum_by-cons (one_of is_passed) x xs) (sum_by-cons (one_of is_failed) x xs)
    (sum_by-cons (one_of is_left_out) x xs) (sum_by-cons (one_of is_refused) x xs)
    (one_kind x) (all_counted xs)

-- so the numbers of all kinds are as many as there are
pub each_once : (xs : List Outcome) (passed failed left_out refused : ℕ)
    → passed ≡ count_by is_passed xs → failed ≡ count_by is_failed xs
    → left_out ≡ count_by is_left_out xs → refused ≡ count_by is_refused xs
    → passed + failed + left_out + refused ≡ length xs
each_once xs passed failed left_out refused p f l r = omega (arith, p, f, l, r, all_counted xs)
