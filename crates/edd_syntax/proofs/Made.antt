-- What a value keeps that is made of values that may be missing.
use Rattle.std.proofs.Common.{◌≡◌, refl, sym, ap, ◌∙◌, Option, Some, None}
use Rattle.std.proofs.lemmas.Option.{none-some, same_Some}
use Rattle.edd_syntax.specs.ResolvedTrees.{◌>>=◌}

pub bind_some : {A B : Type 0} (o : Option A) (f : A → Option B) (z : B) → (o >>= f) ≡ Some z
    → (x : A) × (o ≡ Some x) × (f x ≡ Some z)
bind_some None f z h = absurd (none-some z h)
bind_some (Some x) f z h = (x, refl, h)

module _ {Y Z : Type 0} (f : Y → Z) where
  pub stays : (a b : Y) → Some a ≡ Some b → f b ≡ f a
  stays a b h = ap f (sym (same_Some a b h))

  pub made : {A : Type 0} (o : Option A) (make : A → Y) (b : Y) (v : Z)
      → ((x : A) → o ≡ Some x → f (make x) ≡ v) → (o >>= λ x. Some (make x)) ≡ Some b → f b ≡ v
  made None make b v same h = absurd (none-some b h)
  made (Some x) make b v same h = stays (make x) b h ∙ same x refl

  pub made_of_two : {A B : Type 0} (o : Option A) (p : Option B) (make : A → B → Y) (b : Y) (v : Z)
      → ((x : A) (y : B) → o ≡ Some x → p ≡ Some y → f (make x y) ≡ v)
      → (o >>= λ x. p >>= λ y. Some (make x y)) ≡ Some b → f b ≡ v
  made_of_two None p make b v same h = absurd (none-some b h)
  made_of_two (Some x) p make b v same h = made p (make x) b v (λ y q. same x y refl q) h

  pub made_of_three : {A B C : Type 0} (o : Option A) (p : Option B) (q : Option C) (make : A → B
      → C → Y) (b : Y) (v : Z)
      → ((x : A) (y : B) (z : C) → o ≡ Some x → p ≡ Some y → q ≡ Some z → f (make x y z) ≡ v)
      → (o >>= λ x. p >>= λ y. q >>= λ z. Some (make x y z)) ≡ Some b → f b ≡ v
  made_of_three None p q make b v same h = absurd (none-some b h)
  made_of_three (Some x) p q make b v same h =
      made_of_two p q (make x) b v (λ y z k l. same x y z refl k l) h

  pub made_of_four : {A B C D : Type 0} (o : Option A) (p : Option B) (q : Option C) (r : Option D)
      (make : A → B → C → D → Y) (b : Y) (v : Z)
      → ((x : A) (y : B) (z : C) (u : D) → o ≡ Some x → p ≡ Some y → q ≡ Some z → r ≡ Some u
      → f (make x y z u) ≡ v)
      → (o >>= λ x. p >>= λ y. q >>= λ z. r >>= λ u. Some (make x y z u)) ≡ Some b → f b ≡ v
  made_of_four None p q r make b v same h = absurd (none-some b h)
  made_of_four (Some x) p q r make b v same h =
      made_of_three p q r (make x) b v (λ y z u k l m. same x y z u refl k l m) h
