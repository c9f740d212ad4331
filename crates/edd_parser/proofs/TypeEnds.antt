-- Where a type of another word ends.
use Rattle.std.proofs.Common.{◌≡◌, ℕ, zero, suc, ◌+◌, ◌-◌, ◌<◌, true, false, List, [], ◌∷◌, drop, length, Some, None, refl, ap, arith}
use Rattle.edd_syntax.specs.declared.symbols.Symbol.TheVariants as sign
use Rattle.edd_syntax.specs.Token.{Token, Sign}
use Rattle.edd_syntax.specs.ItemGrammar.{behind_braces}
use Rattle.edd_grammar.specs.Reading.{at}
use Rattle.edd_grammar.specs.WordReading.{at_end}
use Rattle.edd_grammar.specs.TypeReading.{behind_other}
use Rattle.edd_grammar.proofs.Steps.{at_is}

pub shorter : (here : List Token) → at_end here ≡ false → length (drop 1 here) + 1 ≡ length here
shorter [] e = absurd cc
shorter (t ∷ rest) e = omega arith

pub one_less : (here : List Token) → 0 < length here → length (drop 1 here) + 1 ≡ length here
one_less [] lt = absurd (omega arith)
one_less (t ∷ rest) lt = omega arith

pub braces_none : (inside : ℕ) (here : List Token) → length here ≡ 0
    → behind_braces (inside + 1) here ≡ None
braces_none inside [] e = let same : inside + 1 ≡ suc inside = omega arith in rw same refl
braces_none inside (t ∷ rest) e = absurd (omega arith)

pub braces_open : (inside : ℕ) (here : List Token) → at sign.OpenBrace here ≡ true
    → behind_braces (inside + 1) here ≡ behind_braces (inside + 1 + 1) (drop 1 here)
braces_open inside here e =
    let same : inside + 1 ≡ suc inside = omega arith in
    let more : suc inside + 1 ≡ suc (suc inside) = omega arith in
    rw (same, more) (ap (behind_braces (suc inside)) (at_is sign.OpenBrace here e))

pub braces_done : (inside : ℕ) (here : List Token) → inside ≡ 0 → at sign.CloseBrace here ≡ true
    → behind_braces (inside + 1) here ≡ Some (drop 1 here)
braces_done inside here none e =
    let same : inside + 1 ≡ 1 = omega arith in
    rw same (ap (behind_braces 1) (at_is sign.CloseBrace here e))

pub braces_close : (inside : ℕ) (here : List Token) → 0 < inside → at sign.CloseBrace here ≡ true
    → behind_braces (inside + 1) here ≡ behind_braces (inside - 1 + 1) (drop 1 here)
braces_close zero here lt e = absurd (omega arith)
braces_close (suc inside) here lt e =
    let same : suc inside + 1 ≡ suc (suc inside) = omega arith in
    let less : suc inside - 1 + 1 ≡ suc inside = omega arith in
    rw (same, less) (ap (behind_braces (suc (suc inside))) (at_is sign.CloseBrace here e))

pub braces_skip : (inside : ℕ) (here : List Token) → 0 < length here
    → at sign.OpenBrace here ≡ false → at sign.CloseBrace here ≡ false
    → behind_braces (inside + 1) here ≡ behind_braces (inside + 1) (drop 1 here)
braces_skip inside [] lt a b = absurd (omega arith)
braces_skip inside (Sign sign.OpenBrace ∷ rest) lt a b = absurd cc
braces_skip inside (Sign sign.CloseBrace ∷ rest) lt a b = absurd cc
braces_skip inside (_ ∷ rest) lt a b =
    let same : inside + 1 ≡ suc inside = omega arith in rw same refl

pub ruleset braces = (one_less, braces_none, braces_open, braces_done, braces_close, braces_skip)

pub other_none : (here : List Token) → at_end here ≡ true → behind_other here ≡ None
unfolding behind_other
other_none [] e = refl
other_none (t ∷ rest) e = absurd cc

pub other_semicolon : (here : List Token) → at sign.Semicolon here ≡ true
    → behind_other here ≡ Some (drop 1 here)
unfolding behind_other
other_semicolon here e = ap behind_other (at_is sign.Semicolon here e)

pub other_open : (here : List Token) → at sign.OpenBrace here ≡ true
    → behind_other here ≡ behind_braces 1 (drop 1 here)
unfolding behind_other
other_open here e = ap behind_other (at_is sign.OpenBrace here e)

pub other_close : (here : List Token) → at sign.CloseBrace here ≡ true → behind_other here ≡ None
unfolding behind_other
other_close here e = ap behind_other (at_is sign.CloseBrace here e)

pub other_skip : (here : List Token) → at_end here ≡ false → at sign.Semicolon here ≡ false
    → at sign.OpenBrace here ≡ false → at sign.CloseBrace here ≡ false
    → behind_other here ≡ behind_other (drop 1 here)
unfolding behind_other
other_skip [] e a b c = absurd cc
other_skip (Sign sign.Semicolon ∷ rest) e a b c = absurd cc
other_skip (Sign sign.OpenBrace ∷ rest) e a b c = absurd cc
other_skip (Sign sign.CloseBrace ∷ rest) e a b c = absurd cc
other_skip (_ ∷ rest) e a b c = refl

pub ruleset others = (shorter, other_none, other_semicolon, other_open, other_close, other_skip)
