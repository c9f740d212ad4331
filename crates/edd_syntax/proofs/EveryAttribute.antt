-- Two functions of attributes that agree on the list of them agree on each: so a law on all
-- attributes is computed.
use Rattle.std.proofs.Common.{◌≡◌, refl, sym, ap, ◌∙◌, ℕ, zero, suc, ◌-◌, List, [], ◌∷◌, map, Some}
use Rattle.std.specs.Prelude.{slice_get}
use Rattle.std.proofs.lemmas.Option.{none-some, same_Some}
use Rattle.edd_syntax.specs.declared.numbers.Attr.{Attr}
use Rattle.edd_syntax.specs.declared.numbers.Attr.TheVariants as attr
use Rattle.edd_syntax.specs.Numbers.{attr_number}
use Rattle.edd_syntax.specs.Rows.{attributes_in_order}

-- what a member of a list gives stands at its place
pub at_its_place : {A B : Type 0} (f : A → B) (xs : List A) (n : ℕ) (x : A) → slice_get xs n ≡ Some x
    → slice_get (map f xs) n ≡ Some (f x)
at_its_place f [] n x h = absurd (none-some x h)
at_its_place f (y ∷ ys) zero x h = ap (λ z. Some (f z)) (same_Some y x h)
at_its_place f (y ∷ ys) (suc n) x h = at_its_place f ys n x h

agree_on : {A B : Type 0} (f g : A → B) (xs : List A) → map f xs ≡ map g xs → (n : ℕ) (x : A)
    → slice_get xs n ≡ Some x → f x ≡ g x
agree_on f g xs same n x h =
    same_Some (f x) (g x) (sym (at_its_place f xs n x h) ∙ ap (λ ys. slice_get ys n) same
    ∙ at_its_place g xs n x h)

stands_at : (a : Attr) → slice_get attributes_in_order (attr_number a - 1) ≡ Some a
stands_at attr.Label = refl
stands_at _ = refl

pub every_attr : {B : Type 0} (f g : Attr → B) → map f attributes_in_order
    ≡ map g attributes_in_order → (a : Attr) → f a ≡ g a
every_attr f g same a = agree_on f g attributes_in_order same (attr_number a - 1) a (stands_at a)
