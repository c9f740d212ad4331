-- What it says of the tokens that a step of reading did not fail.
use Rattle.std.proofs.Common.{◌≡◌, ℕ, ◌≤◌, Bool, true, false, cond, ◌&&◌, List, [], ◌∷◌, drop, Option, Some, None, refl, sym, ap, subst, ◌∙◌, inl, inr, ◌⊎◌, arith}
use Rattle.std.specs.Prelude.{nat_le}
use Rattle.std.proofs.lemmas.Option.{none-some, some_pair_parts}
use Rattle.edd_syntax.specs.declared.symbols.Keyword.{Keyword}
use Rattle.edd_syntax.specs.declared.symbols.Symbol.{Symbol}
use Rattle.edd_syntax.specs.Token.{Token, Reserved, Identifier, Sign}
use Rattle.edd_syntax.specs.ItemGrammar.{WordHere}
use Rattle.edd_grammar.specs.Reading.{◌>>=◌, on_option, at, expect, at_word, expect_word, name_at, word_by}
use Rattle.edd_grammar.proofs.SameSigns.{same_sign_is, same_sign_self, same_word_is, same_word_self}

pub bind_some : {A B : Type 0} (o : Option A) (f : A → Option B) (y : B) → (o >>= f) ≡ Some y
    → (x : A) × (o ≡ Some x) × (f x ≡ Some y)
bind_some (Some x) f y e = (x, refl, e)
bind_some None f y e = absurd cc

-- a test that did not fail
pub guard_some : {A : Type 0} (b : Bool) (o : Option A) (y : A) → cond b o None ≡ Some y
    → (b ≡ true) × (o ≡ Some y)
guard_some true o y e = (refl, e)
guard_some false o y e = absurd cc

pub chosen : {A : Type 0} (b : Bool) (x y z : A) → cond b x y ≡ z → ((b ≡ true) × (x ≡ z))
    ⊎ ((b ≡ false) × (y ≡ z))
chosen true x y z e = inl (refl, e)
chosen false x y z e = inr (refl, e)

pub option_cases : {A B : Type 0} (o : Option A) (none : B) (some : A → B) (z : B)
    → on_option o none some ≡ z → ((o ≡ None) × (none ≡ z))
    ⊎ ((x : A) × (o ≡ Some x) × (some x ≡ z))
option_cases None none some z e = inl (refl, e)
option_cases (Some x) none some z e = inr (x, refl, e)

pub both_true : (a b : Bool) → (a && b) ≡ true → (a ≡ true) × (b ≡ true)
both_true true b e = (refl, e)
both_true false b e = absurd cc

-- what holds of the tree and the tokens that were read
pub as_read : {A : Type 0} (P : A → List Token → Type 0) (a x : A) (r s : List Token)
    → ◌≡◌ {A = Option (A × List Token)} (Some (a, r)) (Some (x, s)) → P a r → P x s
as_read {A} P a x r s e h =
    let parts = some_pair_parts a x r s e in
    subst (λ (t : List Token). P x t) parts.1 (subst (λ (y : A). P y r) parts.0 h)

pub le_is : (a b : ℕ) → nat_le a b ≡ true → a ≤ b
le_is a b e = grind arith

pub at_is : (s : Symbol) (here : List Token) → at s here ≡ true → here ≡ Sign s ∷ drop 1 here
at_is s [] e = absurd cc
at_is s (Sign t ∷ rest) e = ap (λ k. Sign k ∷ rest) (sym (same_sign_is s t e))
at_is s (_ ∷ rest) e = absurd cc

pub expect_is : (s : Symbol) (here rest : List Token) → expect s here ≡ Some rest
    → here ≡ Sign s ∷ rest
unfolding expect
expect_is s here rest e =
    let g = guard_some (at s here) (Some (drop 1 here)) rest e in
    at_is s here g.0 ∙ ap (λ t. Sign s ∷ t) (let same : drop 1 here ≡ rest = cc (g.1) in same)

pub expect_again : (s : Symbol) (rest : List Token) → expect s (Sign s ∷ rest) ≡ Some rest
unfolding expect
expect_again s rest = rw (same_sign_self s) refl

pub at_word_is : (k : Keyword) (here : List Token) → at_word k here ≡ true
    → here ≡ Reserved k ∷ drop 1 here
at_word_is k [] e = absurd cc
at_word_is k (Reserved w ∷ rest) e = ap (λ n. Reserved n ∷ rest) (sym (same_word_is k w e))
at_word_is k (_ ∷ rest) e = absurd cc

-- a word that stands for something is there
pub word_is : {A : Type 0} (table : Keyword → Option A) (x : A) (here : List Token)
    → word_by table here ≡ Some x → WordHere table x here (drop 1 here)
word_is table x (Reserved w ∷ rest) e = (w, e, refl)
word_is table x _ e = absurd (none-some x e)

pub expect_word_is : (k : Keyword) (here rest : List Token) → expect_word k here ≡ Some rest
    → here ≡ Reserved k ∷ rest
unfolding expect_word
expect_word_is k here rest e =
    let g = guard_some (at_word k here) (Some (drop 1 here)) rest e in
    at_word_is k here g.0 ∙ ap (λ t. Reserved k ∷ t) (let same : drop 1 here
    ≡ rest = cc (g.1) in same)

pub expect_word_again : (k : Keyword) (rest : List Token) → expect_word k (Reserved k ∷ rest)
    ≡ Some rest
unfolding expect_word
expect_word_again k rest = rw (same_word_self k) refl

pub name_is : (here : List Token) (n : List ℕ) (rest : List Token) → name_at here ≡ Some (n, rest)
    → here ≡ Identifier n ∷ rest
name_is [] n rest e = absurd cc
name_is (Identifier m ∷ behind) n rest e = as_read (λ k t. Identifier m ∷ behind ≡ Identifier k ∷ t)
    m n behind rest e refl
name_is (_ ∷ behind) n rest e = absurd cc
