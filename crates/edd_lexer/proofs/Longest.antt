-- A token is the longest one where it begins: a longer one alone would be read there in its place.
use Rattle.std.proofs.Common.{◌≡◌, ◌⊎◌, inl, inr, ℕ, ◌≤◌, false, List, [], ◌∷◌, ◌++◌, drop, length, refl, sym, ap, ◌∙◌, append_assoc, arith}
use Rattle.std.proofs.lemmas.List.{length-append, append-nil}
use Rattle.edd_syntax.specs.Token.{Token}
use Rattle.edd_syntax.specs.Names.{goes_on_name}
use Rattle.edd_lexer.specs.Bytes.{begins, goes_on_number}
use Rattle.edd_lexer.specs.Strings.{quote}
use Rattle.edd_lexer.specs.Signs.{symbol_bytes, lengthens}
use Rattle.edd_lexer.specs.Tokens.{Stands, word, integer, decimal, string, sign}
use Rattle.edd_lexer.specs.Longest.{TokensStandAlone, TokensAreLongest}
use Rattle.edd_lexer.specs.Reading.{step_at, token}
use Rattle.edd_lexer.proofs.Cuts.{token_cut}
use Rattle.edd_lexer.proofs.CompleteSigns.{token_again}

pub alone : TokensStandAlone
unfolding token_cut
alone here rest t (word bytes whole name stop is) =
    (bytes, whole, word bytes (sym (append-nil bytes)) name refl is)
alone here rest t (integer bytes n whole spelled fits free is) =
    (bytes, whole, integer bytes n (sym (append-nil bytes)) spelled fits refl is)
alone here rest t (decimal bytes whole spelled free is) =
    (bytes, whole, decimal bytes (sym (append-nil bytes)) spelled refl is)
alone here rest t (string inside raw whole closed good is) =
    let cut = token_cut here t rest (string inside raw whole closed good is) in (
      cut.0,
      cut.1,
      string (raw ++ quote ∷ []) raw refl
          (record { whole = refl; inside = closed.inside }) good is,
    )
alone here rest t (sign s whole free is) =
    (symbol_bytes s, whole, sign s (sym (append-nil (symbol_bytes s))) refl is)

-- a token stands as well where the text ends sooner after it
shorter : (here : List ℕ) (t : Token) (rest : List ℕ) (stands : Stands here t rest) (c : ℕ)
    (more behind : List ℕ) → rest ≡ c ∷ (more ++ behind)
    → Stands ((token_cut here t rest stands).0 ++ c ∷ more) t (c ∷ more)
unfolding token_cut
shorter here t rest (word bytes whole name stop is) c more behind e =
    word bytes refl name (sym (ap (begins goes_on_name) e) ∙ stop) is
shorter here t rest (integer bytes n whole spelled fits free is) c more behind e =
    integer bytes n refl spelled fits (sym (ap (begins goes_on_number) e) ∙ free) is
shorter here t rest (decimal bytes whole spelled free is) c more behind e =
    decimal bytes refl spelled (sym (ap (begins goes_on_number) e) ∙ free) is
shorter here t rest (string inside raw whole closed good is) c more behind e =
    string ((raw ++ quote ∷ []) ++ c ∷ more) raw refl
    (record { whole = append_assoc raw (quote ∷ []) (c ∷ more); inside = closed.inside }) good
    is
shorter here t rest (sign s whole free is) c more behind e =
    sign s refl (sym (ap (begins (lengthens s)) e) ∙ free) is

-- of two beginnings of a text the second is no longer than the first, or goes on after it
parted : (a x b y : List ℕ) → a ++ x ≡ b ++ y
    → (length x ≤ length y) ⊎ ((c : ℕ) × (more : List ℕ) × (b ≡ a ++ c ∷ more)
    × (x ≡ c ∷ (more ++ y)))
parted [] x [] y e = inl (omega (arith, ap length e))
parted [] x (c ∷ b) y e = inr (c, b, refl, e)
parted (p ∷ a) x [] y e = inl (omega (arith, ap length e, length-append a x))
parted (p ∷ a) x (q ∷ b) y e = go (parted a x b y (ap (drop 1) e))
  where
    go : (length x ≤ length y) ⊎ ((c : ℕ) × (more : List ℕ) × (b ≡ a ++ c ∷ more)
        × (x ≡ c ∷ (more ++ y)))
        → (length x ≤ length y) ⊎ ((c : ℕ) × (more : List ℕ) × (q ∷ b ≡ p ∷ (a ++ c ∷ more))
        × (x ≡ c ∷ (more ++ y)))
    go (inl h) = inl h
    go (inr (c, more, f, g)) = let same : p ≡ q =
        cc in inr (c, more, ap (λ (h : ℕ). h ∷ b) (sym same) ∙ ap (λ (t : List ℕ). p ∷ t) f, g)

pub longest : TokensAreLongest
longest here rest t stands bytes behind other whole is_alone =
    let cut = token_cut here t rest stands in go
    (parted cut.0 rest bytes behind (sym cut.1 ∙ whole))
  where
    go : (length rest ≤ length behind)
        ⊎ ((c : ℕ) × (more : List ℕ) × (bytes ≡ (token_cut here t rest stands).0 ++ c ∷ more)
        × (rest ≡ c ∷ (more ++ behind)))
        → length rest ≤ length behind
    go (inl h) = h
    go (inr (c, more, f, g)) =
        let first : step_at false ((token_cut here t rest stands).0 ++ c ∷ more)
        ≡ token t (c ∷ more) = token_again false _ t (c ∷ more)
        (shorter here t rest stands c more behind g) in
        let second : step_at false bytes ≡ token other [] =
        token_again false bytes other [] is_alone in
        let both : token t (c ∷ more) ≡ token other [] = sym first
        ∙ (ap (step_at false) (sym f) ∙ second) in
        absurd cc
