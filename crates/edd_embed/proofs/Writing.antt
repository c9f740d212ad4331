-- What one more element does to a list that is written at its front.
use Rattle.std.proofs.Common.{◌≡◌, ℕ, ◌+◌, ◌<◌, ◌≤◌, List, [], ◌∷◌, ◌++◌, length, get_or, take, drop, map, refl, sym, ap, ◌∙◌, arith}
use Rattle.std.specs.Prelude.{slice_set}
use Rattle.std.proofs.lemmas.List.{take_more, take_more_set, map_push, drop-set-lt, drop-drop, length-set, take-append-drop, length-take-le}
use Rattle.edd_embed.specs.Records.{written_over}

-- the first elements are written, and the others are as they were
pub record Written {A B : Type 0} (f : A → B) (xs : List A) (start room : List B) (i : ℕ)
    : Type 0 where
  pub before : take i room ≡ map f (take i xs)
  pub after : drop i room ≡ drop i start
  pub long : length room ≡ length start

pub one_more : {A B : Type 0} (f : A → B) (xs : List A) (start room : List B) (i : ℕ) (x : A)
    → i < length xs → i < length room → x ≡ get_or xs i x → Written f xs start room i
    → Written f xs start (slice_set room i (f x)) (i + 1)
one_more f xs start room i x h r is w = record {
  before = take_more_set room i (f x) r ∙ ap (λ ys. ys ++ f x ∷ []) w.before
      ∙ sym (map_push f (take i xs) x) ∙ ap (λ y. map f (take i xs ++ y ∷ [])) is
      ∙ sym (ap (map f) (take_more xs i x h));
  after = drop-set-lt (i + 1) room i (f x) (omega arith) ∙ sym (drop-drop 1 i room)
      ∙ ap (drop 1) w.after ∙ drop-drop 1 i start;
  long = length-set room i (f x) ∙ w.long;
}

pub all_written : {A B : Type 0} (f : A → B) (xs : List A) (start room : List B) (n : ℕ)
    → n ≤ length start → Written f xs start room n
    → room ≡ written_over (map f (take n xs)) start
all_written f xs start room n h w =
    let long : length (map f (take n xs)) ≡ n =
    sym (ap length w.before) ∙ length-take-le n room (omega (arith, h, w.long)) in
    sym (take-append-drop n room) ∙ ap (λ ys. ys ++ drop n room) w.before
    ∙ ap (λ ys. map f (take n xs) ++ ys) w.after
    ∙ ap (λ k. map f (take n xs) ++ drop k start) (sym long)

pub mapped_twice : {A B C : Type 0} (f : A → B) (g : B → C) (xs : List A)
    → map (λ x. g (f x)) xs ≡ map g (map f xs)
mapped_twice f g [] = refl
mapped_twice f g (x ∷ xs) = ap (λ ys. g (f x) ∷ ys) (mapped_twice f g xs)
