-- Lists that rise, one for each of the members of a list that ascends.
use Rattle.std.proofs.Common.{◌≡◌, refl, ℕ, suc, ◌<◌, Bool, true, List, [], ◌∷◌, ◌++◌, nat_le, arith}
use Rattle.std.specs.Prelude.{◌&&◌}
use Rattle.std.specs.List.{AllByRecursion, flat_map}
use Rattle.std.proofs.lemmas.Bool.{leb-true, and_parts}
use Rattle.edd_image.specs.Contents.{AttributeFields}
use Rattle.edd_instructions.specs.Validity.{rises, rise}
use Rattle.edd_assembly.proofs.Rising.{AllBefore, rise_append, all_append, all_map, all_before}

abbrev Rows : Type 0
Rows = List AttributeFields

abbrev Before : Rows → AttributeFields → Type 0
Before ys x = AllByRecursion (λ y. rises x y ≡ true) ys

before_both : (xs ys zs : Rows) → AllBefore xs ys → AllBefore xs zs → AllBefore xs (ys ++ zs)
before_both [] ys zs h k = record {}
before_both (x ∷ xs) ys zs h k =
    (all_append (λ y. rises x y ≡ true) ys zs h.0 k.0, before_both xs ys zs h.1 k.1)

before_none : (xs : Rows) → AllBefore xs []
before_none [] = record {}
before_none (x ∷ xs) = (record {}, before_none xs)

next : (n : ℕ) → n < suc n
next n = omega arith

-- `P n` is kept by the rows of a member with the number n, and rows of a smaller number come before
-- those of a larger one
module _ {A : Type 0} (number : A → ℕ) (P : ℕ → AttributeFields → Type 0)
    (in_order : (m n : ℕ) → m < n → (x y : AttributeFields) → P m x → P n y → rises x y ≡ true)
    (block : A → Rows) (kept : (a : A) → AllByRecursion (P (number a)) (block a))
    (block_rises : (a : A) → rise (block a) ≡ true) where
  -- the numbers ascend from `least` on
  abbrev pub ascends : (least : ℕ) → List A → Bool
  ascends least [] = true
  ascends least (a ∷ rest) = nat_le least (number a) && ascends (suc (number a)) rest

  before_blocks : (m : ℕ) (xs : Rows) → AllByRecursion (P m) xs → (least : ℕ) → m < least
      → (members : List A) → ascends least members ≡ true → AllBefore xs (flat_map block members)
  before_blocks m xs h least less [] up = before_none xs
  before_blocks m xs h least less (a ∷ rest) up =
      let from = leb-true least (number a) (and_parts _ _ up).0 in
      before_both xs (block a) (flat_map block rest)
      (all_before (P m) (P (number a)) (in_order m (number a) (omega (arith, less, from))) xs
      (block a) h (kept a))
      (before_blocks m xs h (suc (number a)) (omega (arith, less, from)) rest (and_parts _ _ up).1)

  pub blocks_rise : (least : ℕ) (members : List A) → ascends least members ≡ true
      → rise (flat_map block members) ≡ true
  blocks_rise least [] up = refl
  blocks_rise least (a ∷ rest) up =
      let further = (and_parts (nat_le least (number a)) (ascends (suc (number a)) rest) up).1 in
      rise_append (block a) (flat_map block rest) (block_rises a)
      (blocks_rise (suc (number a)) rest further)
      (before_blocks (number a) (block a) (kept a) (suc (number a)) (next (number a)) rest further)

  pub blocks_keep : (Q : AttributeFields → Type 0) → ((n : ℕ) (x : AttributeFields) → P n x → Q x)
      → (members : List A) → AllByRecursion Q (flat_map block members)
  blocks_keep Q weaker [] = record {}
  blocks_keep Q weaker (a ∷ rest) = all_append Q (block a) (flat_map block rest)
      (all_map (P (number a)) Q (weaker (number a)) (block a) (kept a)) (blocks_keep Q weaker rest)
