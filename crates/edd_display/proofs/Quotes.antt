-- A text is determined by what is between its quotes.
use Rattle.std.proofs.Common.{◌≡◌, eqb, false, ℕ, List, [], ◌∷◌, ◌++◌, refl, sym, ap, drop, ◌∙◌, arith, inl, inr}
use Rattle.std.proofs.lemmas.Bool.{cases_eq, ne_eqb}
use Rattle.std.proofs.lemmas.Bool.Decides.{nat_tests}
use Rattle.std.proofs.lemmas.List.{append_cancel_right}
use Rattle.std.specs.List.{flat_map}
use Rattle.edd_syntax.specs.Words.{unescape}
use Rattle.edd_display.specs.Words.{escape, quoted}

plain_step : (c : ℕ) (rest : List ℕ) → eqb c 92 ≡ false → unescape (c ∷ rest) ≡ c ∷ unescape rest
unfolding unescape
plain_step c rest other = rw (unescape, other) refl

-- an escape stands for its byte
escape_read : (c : ℕ) (rest : List ℕ) → unescape (escape c ++ rest) ≡ c ∷ unescape rest
unfolding unescape
escape_read c rest = elim (cases_eq c 34) [
  | inl e ↦ rw e refl
  | inr no_quote ↦ elim (cases_eq c 92) [
    | inl e ↦ rw e refl
    | inr no_backslash ↦ elim (cases_eq c 10) [
      | inl e ↦ rw e refl
      | inr no_feed ↦ elim (cases_eq c 9) [
        | inl e ↦ rw e refl
        | inr no_tab ↦
            let same : escape c ≡ c ∷ [] = grind (arith, nat_tests) in
            rw same (plain_step c rest (ne_eqb c 92 no_backslash))
      ]
    ]
  ]
]

pub escapes_read : (text : List ℕ) → unescape (flat_map escape text) ≡ text
unfolding unescape
escapes_read [] = refl
escapes_read (c ∷ text) =
    escape_read c (flat_map escape text) ∙ ap (λ zs. c ∷ zs) (escapes_read text)

pub texts_same : (text other : List ℕ) → quoted text ≡ quoted other → text ≡ other
unfolding quoted
texts_same text other same =
    let inside : flat_map escape text ≡ flat_map escape other =
    append_cancel_right (flat_map escape text) (flat_map escape other) (34 ∷ []) (ap (drop 1) same) in
    sym (escapes_read text) ∙ ap unescape inside ∙ escapes_read other
