-- The rows of written attributes.
use Rattle.std.proofs.Common.{◌≡◌, refl, sym, ap, ◌∙◌, ℕ, ◌+◌, ◌<◌, ◌≤◌, Bool, List, [], ◌∷◌, ◌++◌, length, get_or, drop, map}
use Rattle.std.proofs.lemmas.List.{append-nil, append_assoc, at_drop_more}
use Rattle.std.proofs.Math.ListN.{drop_of_length-le}
use Rattle.std.proofs.Math.Bool.{or_assoc, or-false}
use Rattle.std.specs.Prelude.{◌||◌}
use Rattle.std.specs.List.{list_any, flat_map}
use Rattle.edd_syntax.specs.declared.numbers.Attr.{Attr}
use Rattle.edd_syntax.specs.Item.{TypePart}
use Rattle.edd_syntax.specs.declared.reference.Target.{Target}
use Rattle.edd_syntax.specs.Numbers.{same_attr}
use Rattle.edd_syntax.specs.Rows.{part_attr, part_stands_for}

pub any_part : (a : Attr) (parts : List (TypePart Target)) → list_any (part_stands_for a) parts
    ≡ list_any (same_attr a) (map part_attr parts)
unfolding part_stands_for
any_part a [] = refl
any_part a (p ∷ parts) = ap (λ b. same_attr a (part_attr p) || b) (any_part a parts)

pub marks_part : (a b : Attr) (p : TypePart Target) → b ≡ part_attr p → same_attr a b
    ≡ part_stands_for a p
unfolding part_stands_for
marks_part a b p is = ap (same_attr a) is

-- ---- a loop that notes whether an element has something

module _ {X Y : Type 0} (f : Y → Bool) (view : X → Y) where
  -- whether an element from the i-th on has it
  abbrev pub any_from : ℕ → List X → Bool
  any_from i xs = list_any f (map view (drop i xs))

  next_any : (i : ℕ) (xs : List X) (x : X) → i < length xs → x ≡ get_or xs i x
      → any_from i xs ≡ (f (view x) || any_from (i + 1) xs)
  next_any i xs x h is = at_drop_more (λ ys. list_any f (map view ys)) xs i x h
      ∙ ap (λ y. f (view y) || any_from (i + 1) xs) (sym is)

  -- what was found and what the elements from the i-th on have
  abbrev pub found_and_rest : Bool → ℕ → List X → Bool
  found_and_rest b i xs = b || any_from i xs

  pub found_more : (old new total : Bool) (i : ℕ) (xs : List X) (x : X) → i < length xs
      → x ≡ get_or xs i x → new ≡ (old || f (view x)) → found_and_rest old i xs ≡ total
      → found_and_rest new (i + 1) xs ≡ total
  found_more old new total i xs x h is grown invariant =
      ap (λ b. b || any_from (i + 1) xs) grown
      ∙ or_assoc old (f (view x)) (any_from (i + 1) xs)
      ∙ ap (λ b. old || b) (sym (next_any i xs x h is)) ∙ invariant

  pub found_all : (found total : Bool) (i : ℕ) (xs : List X) → length xs ≤ i
      → found_and_rest found i xs ≡ total → found ≡ total
  found_all found total i xs h invariant = sym (or-false found)
      ∙ ap (λ ys. found || list_any f (map view ys)) (sym (drop_of_length-le xs h)) ∙ invariant

-- ---- a loop that appends what each element gives

module _ {Y Z : Type 0} (f : Y → List Z) where
  abbrev pub each_and_rest : List Z → ℕ → List Y → List Z
  each_and_rest zs i ys = zs ++ flat_map f (drop i ys)

  pub each_appended : (old new total : List Z) (i : ℕ) (ys : List Y) (y : Y) → i < length ys
      → y ≡ get_or ys i y → new ≡ old ++ f y → each_and_rest old i ys ≡ total
      → each_and_rest new (i + 1) ys ≡ total
  each_appended old new total i ys y h is grown invariant =
      ap (λ zs. zs ++ flat_map f (drop (i + 1) ys)) grown
      ∙ append_assoc old (f y) (flat_map f (drop (i + 1) ys))
      ∙ ap (λ zs. old ++ zs) (ap (λ x. f x ++ flat_map f (drop (i + 1) ys)) is
      ∙ sym (at_drop_more (flat_map f) ys i y h))
      ∙ invariant

  pub each_done : (zs total : List Z) (i : ℕ) (ys : List Y) → length ys ≤ i → each_and_rest zs i ys
      ≡ total → zs ≡ total
  each_done zs total i ys h invariant = sym (append-nil zs) ∙ ap (λ xs. zs ++ flat_map f xs)
      (sym (drop_of_length-le ys h)) ∙ invariant
