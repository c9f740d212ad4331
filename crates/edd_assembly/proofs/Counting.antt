-- How many different strings a list has.
use Rattle.std.proofs.Common.{◌≡◌, ◌≢◌, refl, sym, ap, subst, ◌∙◌, suc, ◌≤◌, inl, inr, Bool, true, false, cond, List, [], ◌∷◌, length, arith}
use Rattle.std.specs.List.{AllPairs, Contains}
use Rattle.std.proofs.lemmas.Bool.{false≢true, or_cases, or_left, or_right}
use Rattle.std.proofs.lemmas.List.Kept.{AllPairs-cons}
use Rattle.std.proofs.lemmas.List.Elements.{All-contains_itself}
use Rattle.edd_syntax.specs.Words.{Words}
use Rattle.edd_syntax.specs.Strings.{same_words, different}
use Rattle.edd_code.proofs.Different.{has, Contains-has, has-Contains, fewer_different}

-- each string once is none that was not there
different_within : (xs : List Words) (w : Words) → has w (different xs) ≡ true → has w xs ≡ true
different_within [] w h = h
different_within (x ∷ xs) w h = here (has x xs) (different_within xs w) h
  where
    here : (b : Bool) → (has w (different xs) ≡ true → has w xs ≡ true)
        → has w (cond b (different xs) (x ∷ different xs)) ≡ true → has w (x ∷ xs) ≡ true
    here true within k = or_right (same_words w x) (has w xs) (within k)
    here false within k = elim (or_cases (same_words w x) (has w (different xs)) k) [
      | inl e ↦ or_left (same_words w x) (has w xs) e
      | inr e ↦ or_right (same_words w x) (has w xs) (within e)
    ]

different_apart : (xs : List Words) → AllPairs (λ s t. s ≢ t) (different xs)
different_apart [] = λ i j d before below. absurd (omega arith)
different_apart (x ∷ xs) = here (has x xs) refl (different_apart xs)
  where
    here : (b : Bool) → has x xs ≡ b → AllPairs (λ s t. s ≢ t) (different xs)
        → AllPairs (λ s t. s ≢ t) (cond b (different xs) (x ∷ different xs))
    here true is rest = rest
    here false is rest =
        AllPairs-cons (λ s t. s ≢ t) x (different xs)
        (λ k d below e. false≢true
        (sym is ∙ different_within xs x
        (Contains-has (different xs) x
        (subst (Contains (different xs)) (sym e)
        (All-contains_itself (different xs) k d below))))) rest

pub fewer_within : (xs ys : List Words) → ((w : Words) → Contains xs w → Contains ys w)
    → length (different xs) ≤ length (different ys)
fewer_within xs ys within =
    fewer_different ys (different xs) (different_apart xs)
    (λ w held. within w (has-Contains xs w
    (different_within xs w (Contains-has (different xs) w held))))

-- different strings are themselves each once
pub none_lost : (xs : List Words) → AllPairs (λ s t. s ≢ t) xs → length (different xs) ≡ length xs
none_lost [] apart = refl
none_lost (x ∷ xs) apart =
    here (has x xs) refl (none_lost xs (λ i j d before below. apart (suc i) (suc j) d (omega arith)
    (omega arith)))
  where
    here : (b : Bool) → has x xs ≡ b → length (different xs) ≡ length xs
        → length (cond b (different xs) (x ∷ different xs)) ≡ length (x ∷ xs)
    here true is rest = let held =
        has-Contains xs x is in absurd (apart 0 (suc held.0) x (omega arith) (omega (arith, held.1))
        (sym held.2))
    here false is rest = ap suc rest
