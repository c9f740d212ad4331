-- Paths and texts are read as they are spelled, and what is read is spelled so.
use Rattle.std.proofs.Common.{◌≡◌, ℕ, true, false, List, [], ◌∷◌, ◌++◌, Some, refl, sym, ap, ◌∙◌}
use Rattle.edd_syntax.specs.declared.symbols.Symbol.TheVariants as sign
use Rattle.edd_syntax.specs.Text as texts
use Rattle.edd_syntax.specs.Text.{Name, Quoted, Key}
use Rattle.edd_syntax.specs.Token.{Token, Reserved, Identifier, Integer, String, Sign}
use Rattle.edd_syntax.specs.Token as token
use Rattle.edd_syntax.specs.Reference.{Path}
use Rattle.edd_syntax.specs.Grammar.{MembersHere, PathHere, BeginsString, StringsHere, TextHere, joined}
use Rattle.edd_grammar.specs.Reading.{at, expect, name_at, members_at, path_behind, path_at, strings_at, is_text, text_at, key_at}
use Rattle.edd_grammar.proofs.Steps.{bind_some, as_read, at_is, expect_is, expect_again, name_is}

-- ---- what is read is spelled

members_sound : (here : List Token) → MembersHere (members_at here).0 here (members_at here).1
members_sound (Sign sign.Dot ∷ Identifier m ∷ rest) = (rest, refl, members_sound rest)
members_sound _ = refl

pub path_behind_sound : (base : Name) (here : List Token)
    → PathHere (path_behind base here).0 (Identifier base ∷ here) (path_behind base here).1
unfolding path_behind
path_behind_sound base here = (here, refl, members_sound here)

pub path_sound : (here : List Token) (r : Path) (rest : List Token) → path_at here ≡ Some (r, rest)
    → PathHere r here rest
unfolding path_at
path_sound here r rest e =
    let n = bind_some (name_at here) _ (r, rest) e in
    rw (name_is here n.0.0 n.0.1 n.1) (as_read (λ r t. PathHere r (Identifier n.0.0 ∷ n.0.1) t) _ r
    _ rest n.2 (path_behind_sound n.0.0 n.0.1))

-- the strings that follow each other
strings_sound : (here : List Token) → (ss : List (List ℕ)) × ((strings_at here).0 ≡ joined ss)
    × StringsHere ss here (strings_at here).1
strings_sound (String s ∷ rest) =
    let h = strings_sound rest in
    (s ∷ h.0, ap (λ t. s ++ t) h.1, (rest, refl, h.2))
strings_sound [] = ([], refl, (refl, λ b. b))
strings_sound (Identifier m ∷ rest) = ([], refl, (refl, λ b. b))
strings_sound (Reserved m ∷ rest) = ([], refl, (refl, λ b. b))
strings_sound (Integer m ∷ rest) = ([], refl, (refl, λ b. b))
strings_sound (token.Decimal ∷ rest) = ([], refl, (refl, λ b. b))
strings_sound (Sign m ∷ rest) = ([], refl, (refl, λ b. b))

pub text_sound : (here : List Token) (w : texts.Text) (rest : List Token) → is_text here ≡ true
    → text_at here ≡ Some (w, rest) → TextHere w here rest
unfolding text_at key_at
text_sound (String s ∷ here) w rest t e =
    let h = strings_sound here in
    as_read (λ w r. TextHere w (String s ∷ here) r) _ w _ rest e (
      s,
      h.0,
      ap (λ t. s ++ t) h.1,
      (here, refl, h.2),
    )
text_sound (Sign m ∷ here) w rest t e =
    let open-is = at_is sign.OpenBracket (Sign m ∷ here) t in
    let n = bind_some (name_at here) _ (w, rest) e in
    let c = bind_some (expect sign.CloseBracket n.0.1) _ (w, rest) n.2 in
    let name-is = name_is here n.0.0 n.0.1 n.1 in
    let close-is = expect_is sign.CloseBracket n.0.1 c.0 c.1 in
    as_read (λ w r. TextHere w (Sign m ∷ here) r) _ w _ rest c.2
    (open-is ∙ ap (λ t. Sign sign.OpenBracket ∷ t)
    (name-is ∙ ap (λ t. Identifier n.0.0 ∷ t) close-is))
text_sound [] w rest t e = absurd cc
text_sound (Reserved m ∷ here) w rest t e = absurd cc
text_sound (Identifier m ∷ here) w rest t e = absurd cc
text_sound (Integer m ∷ here) w rest t e = absurd cc
text_sound (token.Decimal ∷ here) w rest t e = absurd cc

-- ---- what is spelled is read

-- no further member is next
abbrev pub NoDot : List Token → Type 0
NoDot here = at sign.Dot here ≡ false

no_members : (rest : List Token) → NoDot rest → members_at rest ≡ ([], rest)
no_members (Sign sign.Dot ∷ Identifier m ∷ rest) n = absurd cc
no_members _ n = refl

pub members_again : (ms : List Name) (here rest : List Token) → NoDot rest
    → MembersHere ms here rest → members_at here ≡ (ms, rest)
members_again [] here rest n h = ap members_at h ∙ no_members rest n
members_again (m ∷ ms) here rest n h = ap members_at h.1
    ∙ ap (λ (x : List Name × List Token). (m ∷ x.0, x.1)) (members_again ms h.0 rest n h.2)

pub path_behind_again : (r : Path) (behind rest : List Token) → NoDot rest
    → MembersHere r.members behind rest → path_behind r.base behind ≡ (r, rest)
unfolding path_behind
path_behind_again r behind rest n h =
    ap (λ (x : List Name × List Token). (record { base = r.base; members = x.0 }, x.1))
    (members_again r.members behind rest n h)

-- A path is read as it is spelled, where no further member follows.
pub path_again : (r : Path) (here rest : List Token) → NoDot rest → PathHere r here rest
    → path_at here ≡ Some (r, rest)
unfolding path_at
path_again r here rest n h = rw (h.1, path_behind_again r h.0 rest n h.2) refl

no_strings : (rest : List Token) → ¬ BeginsString rest → strings_at rest ≡ ([], rest)
no_strings (String s ∷ rest) n = absurd (n tt)
no_strings _ n = refl

strings_again : (ss : List (List ℕ)) (here rest : List Token) → StringsHere ss here rest
    → strings_at here ≡ (joined ss, rest)
strings_again [] here rest h = ap strings_at h.0 ∙ no_strings rest h.1
strings_again (s ∷ ss) here rest h = ap strings_at h.1
    ∙ ap (λ (x : List ℕ × List Token). (s ++ x.0, x.1)) (strings_again ss h.0 rest h.2)

pub text_again : (w : texts.Text) (here rest : List Token) → TextHere w here rest
    → (is_text here ≡ true) × (text_at here ≡ Some (w, rest))
unfolding text_at key_at
text_again (Quoted raw) here rest h = (
  ap is_text h.3.1,
  ap text_at h.3.1 ∙ (let e = strings_again h.1 h.3.0 rest h.3.2 in
      ap (λ (x : List ℕ × List Token). Some (Quoted (h.0 ++ x.0), x.1)) e
      ∙ ap (λ (x : List ℕ). Some (Quoted x, rest)) (sym h.2)),
)
text_again (Key k) here rest h =
    (ap is_text h, ap text_at h ∙ rw (expect_again sign.CloseBracket rest) refl)
