-- A loop that looks for the body of a method among its attributes.
use Rattle.std.proofs.Common.{◌≡◌, refl, sym, ap, ◌∙◌, ℕ, ◌+◌, ◌<◌, ◌≤◌, List, [], ◌∷◌, length, get_or, drop, map, Some}
use Rattle.std.specs.Prelude.{option_map}
use Rattle.std.specs.Option.{option_to_list}
use Rattle.std.proofs.lemmas.List.{at_drop_more}
use Rattle.std.proofs.Math.ListN.{drop_of_length-le}
use Rattle.edd_syntax.specs.declared.reference.Target.{Target}
use Rattle.edd_syntax.specs.Execution.{body_in}
use Rattle.edd_syntax.specs.Item as item
use Rattle.edd_syntax.specs.Item.{Attribute}
use Rattle.edd_syntax.specs.Statement.{Body, Nil}
use Rattle.edd_syntax.specs.SubsetRules.{bodies_in}

here : (a : Attribute Target) (rest : List (Attribute Target)) {b : Body Target}
    → b ∷ [] ≡ bodies_in a → body_in (a ∷ rest) ≡ b
here (item.Definition body) rest h = let same = h in cc
here _ rest h = absurd (cc h)

passed : (a : Attribute Target) (rest : List (Attribute Target)) → [] ≡ bodies_in a
    → body_in (a ∷ rest) ≡ body_in rest
passed (item.Definition body) rest h = absurd (cc h)
passed _ rest h = refl

module _ {X Y : Type 0} (view : X → Attribute Target) (body : Y → Body Target) where
  -- what is found from the i-th attribute on
  abbrev pub found_from : ℕ → List X → Body Target
  found_from i xs = body_in (map view (drop i xs))

  pub stops : (i : ℕ) (xs : List X) (x : X) (y : Y) → i < length xs → x ≡ get_or xs i x
      → option_to_list (option_map body (Some y)) ≡ bodies_in (view x)
      → found_from i xs ≡ found_from 0 xs → body y ≡ found_from 0 xs
  stops i xs x y h is found invariant =
      sym (here (view x) (map view (drop (i + 1) xs)) found)
      ∙ ap (λ z. body_in (view z ∷ map view (drop (i + 1) xs))) is
      ∙ sym (at_drop_more (λ zs. body_in (map view zs)) xs i x h) ∙ invariant

  pub goes_on : (i : ℕ) (xs : List X) (x : X) → i < length xs → x ≡ get_or xs i x
      → [] ≡ bodies_in (view x)
      → found_from i xs ≡ found_from 0 xs → found_from (i + 1) xs ≡ found_from 0 xs
  goes_on i xs x h is none invariant =
      sym (passed (view x) (map view (drop (i + 1) xs)) none)
      ∙ ap (λ z. body_in (view z ∷ map view (drop (i + 1) xs))) is
      ∙ sym (at_drop_more (λ zs. body_in (map view zs)) xs i x h) ∙ invariant

  pub none_found : (i : ℕ) (xs : List X) → length xs ≤ i → found_from i xs ≡ found_from 0 xs
      → Nil ≡ found_from 0 xs
  none_found i xs h invariant = ap (λ zs. body_in (map view zs)) (sym (drop_of_length-le xs h))
      ∙ invariant
