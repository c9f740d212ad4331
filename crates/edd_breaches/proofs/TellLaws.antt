-- Breaches that are told one after another.
use Rattle.std.proofs.Common.{◌≡◌, sym, ap, ◌∙◌, subst, Bool, true, false, ℕ, ◌+◌, ◌<◌, List, [], ◌∷◌, ◌++◌, length, get_or, take, map, append_assoc}
use Rattle.std.proofs.lemmas.Grind.{flat_map-append}
use Rattle.std.proofs.lemmas.List.{append-nil, map-append, take_more}
use Rattle.std.specs.List.{flat_map}
use Rattle.edd_breaches.specs.declared.breach.Breach.{Breach}
use Rattle.edd_breaches.specs.Told.{Told, Tells, told_at, told_if, told_of, refusals}
use Rattle.edd_syntax.specs.declared.numbers.TokenNo.{TokenNo}
use Rattle.edd_syntax.specs.Refusal.{Refusal}

pub tells_none : (old : List Breach) → Tells [] old old
unfolding Tells
tells_none old = sym (append-nil (map told_of old))

pub tells_append : (xs ys : List Told) (old mid new : List Breach) → Tells xs old mid
    → Tells ys mid new → Tells (xs ++ ys) old new
unfolding Tells
tells_append xs ys old mid new h k = k ∙ ap (λ all. all ++ ys) h
    ∙ append_assoc (map told_of old) xs ys

pub tells_cons : (x : Told) (ys : List Told) (old mid new : List Breach) → Tells (x ∷ []) old mid
    → Tells ys mid new → Tells (x ∷ ys) old new
tells_cons x ys old mid new h k = tells_append (x ∷ []) ys old mid new h k

-- a breach that is put at the end
pub tells_one : (b : Breach) (old new : List Breach) → new ≡ old ++ b ∷ []
    → Tells (told_of b ∷ []) old new
unfolding Tells
tells_one b old new grown = ap (map told_of) grown ∙ map-append told_of old (b ∷ [])

-- those of one more element of a list
pub tells_more : {X : Type 0} (f : X → List Told) (i : ℕ) (xs : List X) (x : X)
    (old mid new : List Breach) → i < length xs → x ≡ get_or xs i x
    → Tells (flat_map f (take i xs)) old mid → Tells (f x) mid new
    → Tells (flat_map f (take (i + 1) xs)) old new
tells_more f i xs x old mid new h is before more =
    subst (λ all. Tells all old new)
    (ap (λ y. flat_map f (take i xs) ++ f y) is
    ∙ ap (λ ys. flat_map f (take i xs) ++ ys) (sym (append-nil (f (get_or xs i x))))
    ∙ sym (flat_map-append f (take i xs) (get_or xs i x ∷ []))
    ∙ ap (flat_map f) (sym (take_more xs i x h)))
    (tells_append (flat_map f (take i xs)) (f x) old mid new before more)

pub ruleset tells = (tells_none, tells_append, tells_cons, tells_one)

-- ---- what is told where something holds

pub told_not : (b : Bool) (why : Refusal) (at : TokenNo) (old : List Breach) → b ≡ false
    → Tells (told_if b why at) old old
told_not b why at old h = subst (λ t. Tells (told_if t why at) old old) (sym h) (tells_none old)

pub told_so : (b : Bool) (why : Refusal) (at : TokenNo) (old new : List Breach) → b ≡ true
    → Tells (told_at why at ∷ []) old new → Tells (told_if b why at) old new
told_so b why at old new h tells = subst (λ t. Tells (told_if t why at) old new) (sym h) tells

pub ruleset told_where = (told_not, told_so)

-- ---- without their places

pub refusals_append : (xs ys : List Told) → refusals (xs ++ ys) ≡ refusals xs ++ refusals ys
refusals_append xs ys = map-append (λ t. t.refusal) xs ys
