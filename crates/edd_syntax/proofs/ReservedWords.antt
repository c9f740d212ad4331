-- A word is looked up at its place alone.
use Rattle.std.proofs.Common.{◌≡◌, ℕ, ◌==◌, Bool, true, false, ◌&&◌, cond, List, [], ◌∷◌, Some, refl, sym, ap}
use Rattle.std.specs.Prelude.{bytes_eq, find}
use Rattle.std.proofs.lemmas.Bool.{eqb-false}
use Rattle.std.proofs.lemmas.Slice.Eq.{bytes_eq-Decides}
use Rattle.edd_syntax.specs.declared.symbols.Keyword.{Keyword}
use Rattle.edd_syntax.specs.declared.symbols.Keyword.TheVariants as word
use Rattle.edd_syntax.specs.Keywords.{place, keyword_at}
use Rattle.edd_syntax.specs.Token.{all_keywords, keyword_of, spelling}

written : (word : List ℕ) (k : Keyword) → bytes_eq (spelling k) word ≡ true → word ≡ spelling k
written word k e = sym ((bytes_eq-Decides (spelling k) word).0 e)

-- each reserved word is at its place
found : (word : List ℕ) (ks : List Keyword)
    → keyword_at (place word) word ks ≡ find (λ k. bytes_eq (spelling k) word) ks
unfolding keyword_at
found word [] = refl
found word (k ∷ ks) =
    go (bytes_eq (spelling k) word) (place word == place (spelling k)) refl refl (found word ks)
  where
    go : (t p : Bool) → bytes_eq (spelling k) word ≡ t → (place word == place (spelling k)) ≡ p
        → keyword_at (place word) word ks ≡ find (λ j. bytes_eq (spelling j) word) ks
        → cond (p && t) (Some k) (keyword_at (place word) word ks)
        ≡ cond t (Some k) (find (λ j. bytes_eq (spelling j) word) ks)
    go true true is at more = refl
    go true false is at more = absurd (eqb-false _ _ at (ap place (written word k is)))
    go false true is at more = more
    go false false is at more = more

pub at_its_place : (word : List ℕ) (p : ℕ) → p ≡ place word
    → keyword_at p word all_keywords ≡ keyword_of word
at_its_place word p is = rw is (found word all_keywords)

-- each reserved word is found by its spelling, so that the list of them lacks none
pub each_is_found : (k : Keyword) → keyword_of (spelling k) ≡ Some k
each_is_found word.Manufacturer = refl
each_is_found _ = refl
