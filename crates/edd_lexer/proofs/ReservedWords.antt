-- The token of a word is a reserved word that is spelled so, or a name.
use Rattle.std.proofs.Common.{◌≡◌, ℕ, Bool, true, false, cond, List, [], ◌∷◌, Option, Some, None, refl, sym, inl, inr, ◌⊎◌}
use Rattle.std.specs.Prelude.{bytes_eq, find}
use Rattle.std.proofs.lemmas.Slice.Eq.{bytes_eq-Decides}
use Rattle.edd_syntax.specs.declared.symbols.Keyword.{Keyword}
use Rattle.edd_syntax.specs.Token.{Token, Reserved, Identifier, all_keywords, spelling, word_token}

abbrev of_word : List ℕ → Option Keyword → Token
of_word word None = Identifier word
of_word word (Some k) = Reserved k

-- the one of these reserved words that is written so
abbrev written : List ℕ → List Keyword → Option Keyword
written word ks = find (λ k. bytes_eq (spelling k) word) ks

-- what is found is spelled so, or the word is a name
abbrev pub Tokened : List ℕ → Token → Type 0
Tokened word t = ((k : Keyword) × (t ≡ Reserved k) × (word ≡ spelling k)) ⊎ (t ≡ Identifier word)

tokened : (word : List ℕ) (ks : List Keyword) → Tokened word (of_word word (written word ks))
tokened word [] = inr refl
tokened word (k ∷ ks) = go (bytes_eq (spelling k) word) refl (tokened word ks)
  where
    go : (t : Bool) → bytes_eq (spelling k) word ≡ t → Tokened word (of_word word (written word ks))
        → Tokened word (of_word word (cond t (Some k) (written word ks)))
    go true e more = inl (k, refl, sym ((bytes_eq-Decides (spelling k) word).0 e))
    go false e more = more

pub word_tokened : (word : List ℕ) → Tokened word (word_token word)
word_tokened word = tokened word all_keywords
