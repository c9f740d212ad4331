-- What follows from each alternative of a reader, from a sign that is expected, and from the word
-- of a construct.
use Rattle.std.proofs.Common.{◌≡◌, ℕ, ◌≤◌, Bool, true, false, cond, List, ◌∷◌, drop, Some, refl, subst}
use Rattle.edd_syntax.specs.declared.symbols.Keyword.{Keyword}
use Rattle.edd_syntax.specs.declared.symbols.Symbol.{Symbol}
use Rattle.edd_syntax.specs.Token.{Token, Reserved, Sign}
use Rattle.edd_grammar.specs.Reading.{◌>>=◌, Read, expect, at_word}
use Rattle.edd_grammar.proofs.Steps.{bind_some, as_read, at_word_is, expect_is}
use Rattle.edd_grammar.proofs.Branches.{Spelling, SoundOf}

-- of a test, from either of its answers
pub branch : {A P : Type 0} (b : Bool) (x y z : A) → cond b x y ≡ z → (b ≡ true → x ≡ z → P)
    → (b ≡ false → y ≡ z → P) → P
branch true x y z e first second = first refl e
branch false x y z e first second = second refl e

-- what holds of the tokens holds of the sign and those after it
pub expected : (P : List Token → Type 0) (s : Symbol) (here rest : List Token)
    → expect s here ≡ Some rest → P here → P (Sign s ∷ rest)
expected P s here rest e h = subst P (expect_is s here rest e) h

-- a word and what comes after it, of which a tree is made
pub worded : {A V : Type 0} (Here : Spelling A) (tall : A → ℕ) (height_left : ℕ) (k : Keyword)
    (Inner : Spelling V) (inner_tall : V → ℕ) (inner : List Token → Read V)
    → SoundOf Inner inner_tall height_left inner
    → (make : V → A) → ((v : V) (here behind rest : List Token) → here ≡ Reserved k ∷ behind
    → Inner v behind rest → Here (make v) here rest)
    → ((v : V) → inner_tall v ≤ height_left → tall (make v) ≤ height_left)
    → (here : List Token) (x : A) (rest : List Token) → at_word k here ≡ true
    → ◌>>=◌ {B = A × List Token} (inner (drop 1 here)) (λ v. Some (make v.0, v.1))
    ≡ Some (x, rest) → Here x here rest × (tall x ≤ height_left)
worded Here tall height_left k Inner inner_tall inner sound make spelled low here x rest t e =
    let a = bind_some (inner (drop 1 here)) _ (x, rest) e in
    let s = sound (drop 1 here) a.0.0 a.0.1 a.1 in
    as_read (λ x r. Here x here r × (tall x ≤ height_left)) (make a.0.0) x a.0.1 rest a.2
    (spelled a.0.0 here (drop 1 here) a.0.1 (at_word_is k here t) s.0, low a.0.0 s.1)
