-- The texts of a body have their numbers in a table that holds them.
use Rattle.std.proofs.Common.{◌≡◌, refl, ap, zero, suc, Bool, true, false, cond, List, [], ◌∷◌, Some, arith}
use Rattle.std.specs.List.{AllByRecursion, Contains, flat_map, slice_get}
use Rattle.edd_syntax.specs.declared.reference.Target.{Target}
use Rattle.edd_syntax.specs.Strings.{expr_texts, same_words, strings_of_texts}
use Rattle.edd_syntax.specs.SubsetRules.{Placed}
use Rattle.edd_syntax.specs.Text as texts
use Rattle.edd_syntax.specs.Words.{Words, words_of}
use Rattle.edd_instructions.specs.Agreement.{string_of_table}
use Rattle.edd_code.specs.Numbered.{HasNumbers, IsNumbered}
use Rattle.edd_code.specs.Tables.{number_in, place_in}
use Rattle.edd_code.proofs.Different.{words_refl, words_same}
use Rattle.edd_methods.proofs.CheckedBodies.{flat_parts}

-- a string that a table holds is at its place
pub found_at_place : (table : List Words) (w : Words) → Contains table w
    → slice_get table (place_in table w) ≡ Some w
unfolding place_in
found_at_place [] w held = absurd (omega (arith, held.1))
found_at_place (v ∷ rest) w held = by_test (λ there. found_at_place rest w there) (same_words v w)
    refl
  where
    rest_holds : same_words v w ≡ false → Contains (v ∷ rest) w → Contains rest w
    rest_holds other (zero, below, is) =
        absurd (cc (other, ap (λ u. same_words u w) is, words_refl w))
    rest_holds other (suc k, below, is) = (k, omega (arith, below), is)

    by_test : (Contains rest w → slice_get rest (place_in rest w) ≡ Some w) → (b : Bool)
        → same_words v w ≡ b
        → slice_get (v ∷ rest) (cond b 0 (suc (place_in rest w))) ≡ Some w
    by_test further true same = ap Some (words_same v w same)
    by_test further false other = further (rest_holds other held)

module _ (table : List Words) where
  abbrev Numbered : texts.Text → Type 0
  Numbered t = IsNumbered (string_of_table table) (number_in table) t

  each_numbered : (ts : List texts.Text)
      → ((w : Words) → Contains (strings_of_texts ts) w → Contains table w)
      → AllByRecursion Numbered ts
  each_numbered [] held = tt
  each_numbered (t ∷ rest) held = (
    found_at_place table (words_of t) (held (words_of t) (0, omega arith, refl)),
    each_numbered rest (λ w there. held w (suc there.0, omega (arith, there.1), there.2)),
  )

  pub all_numbered : (ps : List (Placed Target))
      → ((w : Words) → Contains (strings_of_texts (flat_map (λ p. expr_texts p.expression) ps)) w
      → Contains table w)
      → AllByRecursion (λ p. HasNumbers (string_of_table table) (number_in table) p.expression) ps
  all_numbered ps held = flat_parts Numbered (λ p. expr_texts p.expression) ps
      (each_numbered (flat_map (λ p. expr_texts p.expression) ps) held)
