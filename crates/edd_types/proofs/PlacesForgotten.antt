-- What is told, without the places: parts one after another, and lists.
use Rattle.std.proofs.Common.{◌≡◌, refl, sym, ap, ◌∙◌, Bool, true, false, List, [], ◌∷◌, ◌++◌, map}
use Rattle.std.specs.List.{flat_map}
use Rattle.std.proofs.lemmas.Grind.{flat_map-append}
use Rattle.edd_breaches.proofs.TellLaws.{refusals_append}
use Rattle.edd_breaches.specs.Told.{Told, told_at, told_if, refusals}
use Rattle.edd_syntax.specs.declared.numbers.TokenNo.{TokenNo}
use Rattle.edd_syntax.specs.Refusal.{Refusal, refused_if}

pub if_forgotten : (b : Bool) (why : Refusal) (at : TokenNo)
    → refusals (told_if b why at) ≡ refused_if b why
if_forgotten true why at = refl
if_forgotten false why at = refl

-- several at one place
pub place_forgotten : (all : List Refusal) (at : TokenNo)
    → refusals (map (λ why. told_at why at) all) ≡ all
place_forgotten [] at = refl
place_forgotten (why ∷ rest) at = ap (λ ys. why ∷ ys) (place_forgotten rest at)

-- two parts
pub joined : (xs ys : List Told) (ps qs : List Refusal) → refusals xs ≡ ps → refusals ys ≡ qs
    → refusals (xs ++ ys) ≡ ps ++ qs
joined xs ys ps qs first second = refusals_append xs ys ∙ ap (λ zs. zs ++ refusals ys) first
    ∙ ap (λ zs. ps ++ zs) second

-- two parts, each with what `f` says of its own
pub spread : {Y : Type 0} (f : Y → List Refusal) (xs ys : List Told) (ps qs : List Y)
    → refusals xs ≡ flat_map f ps → refusals ys ≡ flat_map f qs
    → refusals (xs ++ ys) ≡ flat_map f (ps ++ qs)
spread f xs ys ps qs first second = joined xs ys (flat_map f ps) (flat_map f qs) first second
    ∙ sym (flat_map-append f ps qs)

-- a list, whose elements are viewed in two ways
module _ {X Y : Type 0} (told : X → List Told) (view : X → Y) where
  pub each_forgotten : (f : Y → List Refusal) → ((x : X) → refusals (told x) ≡ f (view x))
      → (xs : List X) → refusals (flat_map told xs) ≡ flat_map f (map view xs)
  each_forgotten f same [] = refl
  each_forgotten f same (x ∷ xs) =
      joined (told x) (flat_map told xs) (f (view x)) (flat_map f (map view xs)) (same x)
      (each_forgotten f same xs)

  -- each with what `f` says of all that is in it
  pub all_forgotten : {Z : Type 0} (f : Z → List Refusal) (parts : Y → List Z)
      → ((x : X) → refusals (told x) ≡ flat_map f (parts (view x))) → (xs : List X)
      → refusals (flat_map told xs) ≡ flat_map f (flat_map parts (map view xs))
  all_forgotten f parts same [] = refl
  all_forgotten f parts same (x ∷ xs) =
      spread f (told x) (flat_map told xs) (parts (view x)) (flat_map parts (map view xs)) (same x)
      (all_forgotten f parts same xs)
