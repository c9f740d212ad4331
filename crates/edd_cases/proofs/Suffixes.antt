-- What `strip_suffix` gives, by bytes.
use Rattle.std.proofs.Common.{◌≡◌, ℕ, ◌-◌, ◌<◌, true, false, List, [], ◌∷◌, ◌++◌, length, take, Option, Some, None, MatchOption, Bor, ap, sym, ◌∙◌, arith, inl, inr}
use Rattle.std.specs.Prelude.{◌==◌, slice_index, unwrap_or}
use Rattle.std.specs.Str.Lines.{strip_carriage_return}
use Rattle.std.specs.Str.Pattern.{FindsCharSuffix, StripsSuffix}
use Rattle.std.proofs.lemmas.Bool.{cases_Bool, eqb-true, eq-eqb}
use Rattle.std.proofs.lemmas.Str.{len_utf8_ascii, encode_ascii}
use Rattle.std.proofs.lemmas.Grind.{common_steps}

-- the last byte is this one, and the text without it is left; or it isn't
abbrev pub IsStripped : ℕ → List ℕ → Option (Bor (List ℕ)) → Type 0
IsStripped b text given = MatchOption given ((slice_index text (length text - 1) == b) ≡ false)
    (λ left. ((slice_index text (length text - 1) == b) ≡ true)
    × (left.now ≡ take (length text - 1) text))

parts : (b : ℕ) (text : List ℕ) → slice_index text (length text - 1) ≡ b → 0 < b
    → text ≡ take (length text - 1) text ++ (b ∷ [])
parts b [] is some = absurd (omega (arith, is))
parts b (x ∷ xs) is some = grind (arith, common_steps)

pub stripped : (b : ℕ) (text : List ℕ) (given : Option (Bor (List ℕ))) → 0 < b → b < 128
    → MatchOption given (FindsCharSuffix b text None)
    (λ left. StripsSuffix (FindsCharSuffix b) text left.now) → IsStripped b text given
stripped b text None some ascii lacks = elim (cases_Bool (slice_index text (length text - 1) == b)) [
  | inl is ↦ absurd (lacks (take (length text - 1) text)
      (parts b text (eqb-true _ b is) some ∙ ap (λ e. take (length text - 1) text ++ e) (sym (encode_ascii b ascii))))
  | inr not ↦ not
]
stripped b text (Some left) some ascii strips =
    let one : strips.0 ≡ 1 = strips.1.0 ∙ len_utf8_ascii b ascii in (
      eq-eqb _ b (ap (λ n. slice_index text (length text - n)) (sym one) ∙ strips.1.1.byte ascii),
      strips.2 ∙ ap (λ n. take (length text - n) text) one,
    )

pub past_return : (text : List ℕ) (whole : Bor (List ℕ)) → whole.now ≡ text
    → (given : Option (Bor (List ℕ))) → IsStripped 13 text given
    → (unwrap_or given whole).now ≡ strip_carriage_return text
past_return text whole same None lacks = rw lacks same
past_return text whole same (Some left) cr = rw cr.0 cr.1
