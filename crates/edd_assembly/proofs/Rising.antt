-- Lists that rise, put together.
use Rattle.std.proofs.Common.{◌≡◌, refl, ap, ◌∙◌, ◌<◌, Bool, true, false, List, [], ◌∷◌, ◌++◌, arith}
use Rattle.std.specs.Prelude.{◌&&◌, ◌==◌}
use Rattle.std.specs.List.{AllByRecursion}
use Rattle.std.proofs.lemmas.Bool.{false≢true}
use Rattle.std.proofs.lemmas.Grind.{common_steps}
use Rattle.edd_image.specs.Contents.{AttributeFields}
use Rattle.edd_instructions.specs.Validity.{rises, rise}

abbrev Rows : Type 0
Rows = List AttributeFields

-- each row of the first list comes before each row of the second
abbrev pub AllBefore : Rows → Rows → Type 0
AllBefore xs ys = AllByRecursion (λ x. AllByRecursion (λ y. rises x y ≡ true) ys) xs

both : {a b : Bool} → a ≡ true → b ≡ true → (a && b) ≡ true
both {b} x y = ap (λ c. c && b) x ∙ y

left_of : (a b : Bool) → (a && b) ≡ true → a ≡ true
left_of true b h = refl
left_of false b h = h

right_of : (a b : Bool) → (a && b) ≡ true → b ≡ true
right_of true b h = h
right_of false b h = absurd (false≢true h)

pub rise_append : (xs ys : Rows) → rise xs ≡ true → rise ys ≡ true → AllBefore xs ys
    → rise (xs ++ ys) ≡ true
rise_append [] ys h k before = k
rise_append (x ∷ []) [] h k before = refl
rise_append (x ∷ []) (y ∷ ys) h k before = both before.0.0 k
rise_append (x ∷ z ∷ xs) ys h k before =
    both (left_of (rises x z) (rise (z ∷ xs)) h)
    (rise_append (z ∷ xs) ys (right_of (rises x z) (rise (z ∷ xs)) h) k before.1)

pub all_append : (P : AttributeFields → Type 0) (xs ys : Rows) → AllByRecursion P xs
    → AllByRecursion P ys → AllByRecursion P (xs ++ ys)
all_append P [] ys h k = k
all_append P (x ∷ xs) ys h k = (h.0, all_append P xs ys h.1 k)

pub all_map : (P Q : AttributeFields → Type 0) → ((r : AttributeFields) → P r → Q r) → (xs : Rows)
    → AllByRecursion P xs → AllByRecursion Q xs
all_map P Q f [] h = h
all_map P Q f (x ∷ xs) h = (f x h.0, all_map P Q f xs h.1)

-- the rows of one list have something, and those of the other something, that puts them in order
pub all_before : (P Q : AttributeFields → Type 0)
    → ((x y : AttributeFields) → P x → Q y → rises x y ≡ true) → (xs ys : Rows)
    → AllByRecursion P xs → AllByRecursion Q ys → AllBefore xs ys
all_before P Q later xs ys h k = all_map P (λ x. AllByRecursion (λ y. rises x y ≡ true) ys)
    (λ x p. all_map Q (λ y. rises x y ≡ true) (λ y q. later x y p q) ys k) xs h

-- ---- what puts two rows in order

pub by_kind : (x y : AttributeFields) → x.kind < y.kind → rises x y ≡ true
by_kind x y h = grind (arith, common_steps)

pub by_attribute : (x y : AttributeFields) → x.kind ≡ y.kind → x.attribute < y.attribute
    → rises x y ≡ true
by_attribute x y same h = grind (arith, common_steps)

pub by_item : (x y : AttributeFields) → x.kind ≡ y.kind → x.attribute ≡ y.attribute
    → x.item < y.item → rises x y ≡ true
by_item x y same alike h = grind (arith, common_steps)

pub by_position : (x y : AttributeFields) → x.kind ≡ y.kind → x.attribute ≡ y.attribute
    → x.item ≡ y.item → x.sub < y.sub → (x.attribute == 21) ≡ false → rises x y ≡ true
by_position x y same alike one h no_body = grind (arith, common_steps)
