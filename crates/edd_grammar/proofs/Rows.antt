-- Repetitions are read as they are spelled.
use Rattle.std.proofs.Common.{◌≡◌, ℕ, zero, suc, ◌≤◌, ◌<◌, Bool, true, false, List, [], ◌∷◌, length, map, Some, refl, sym, ap, subst, ◌∙◌, arith}
use Rattle.edd_syntax.specs.declared.symbols.Symbol.TheVariants as sign
use Rattle.edd_syntax.specs.Token.{Token, Sign}
use Rattle.edd_syntax.specs.Grammar.{NextSign}
use Rattle.edd_syntax.specs.ItemGrammar.{RowHere, TimesHere, ClosedHere}
use Rattle.edd_syntax.specs.Size.{greatest_of}
use Rattle.edd_grammar.specs.Reading.{Read, at, expect}
use Rattle.edd_grammar.specs.WordReading.{at_close, row_at, skip_semicolons, closed, braced, row_inside}
use Rattle.edd_grammar.proofs.Steps.{bind_some, as_read, expect_is, expect_again}
use Rattle.edd_grammar.proofs.Alternatives.{branch, expected}
use Rattle.edd_grammar.proofs.Branches.{Spelling, SoundOf}

-- ---- braces

-- what is in braces
abbrev pub BracedHere : {A : Type 0} → Spelling A → Spelling A
BracedHere Here x here rest = (inside : List Token) × NextSign sign.OpenBrace here inside
    × Here x inside (Sign sign.CloseBrace ∷ rest)

pub braced_sound : {A : Type 0} (Here : Spelling A) (tall : A → ℕ) (height_left : ℕ)
    (inner : List Token → Read A) → SoundOf Here tall height_left inner
    → SoundOf (BracedHere Here) tall height_left (braced inner)
unfolding braced
braced_sound Here tall height_left inner sound here x rest e =
    let a = bind_some (expect sign.OpenBrace here) _ (x, rest) e in
    let b = bind_some (inner a.0) _ (x, rest) a.2 in
    let c = bind_some (expect sign.CloseBrace b.0.1) _ (x, rest) b.2 in
    let s = sound a.0 b.0.0 b.0.1 b.1 in
    as_read (λ x r. BracedHere Here x here r × (tall x ≤ height_left)) b.0.0 x c.0 rest c.2 (
      (
        a.0,
        expect_is sign.OpenBrace here a.0 a.1,
        expected (Here b.0.0 a.0) sign.CloseBrace
            b.0.1 c.0 c.1 s.0,
      ),
      s.1,
    )

pub braced_again : {A : Type 0} (inner : List Token → Read A) (x : A)
    (here inside rest : List Token) → here ≡ Sign sign.OpenBrace ∷ inside
    → inner inside ≡ Some (x, Sign sign.CloseBrace ∷ rest) → braced inner here ≡ Some (x, rest)
unfolding braced
braced_again inner x here inside rest e again =
    rw (e, expect_again sign.OpenBrace inside, again, expect_again sign.CloseBrace rest) refl

-- ---- rows

-- the height of the highest
abbrev pub tallest : {A : Type 0} → (A → ℕ) → List A → ℕ
tallest tall xs = greatest_of (map tall xs)

module _ {A : Type 0} (Here : Spelling A) (tall : A → ℕ) (height_left : ℕ) (element : List Token
    → Read A) (sound : SoundOf Here tall height_left element) where
  -- elements that are read are spelled, and they end there
  abbrev RowEnds : (List Token → Bool) → List Token → List A → List Token → Type 0
  RowEnds ends here xs rest = RowHere Here xs here rest × (tallest tall xs ≤ height_left)
      × (ends rest ≡ true)

  pub row_sound : (ends : List Token → Bool) (n : ℕ) (here : List Token) (xs : List A)
      (rest : List Token) → row_at ends element n here ≡ Some (xs, rest) → RowEnds ends here xs rest
  unfolding row_at
  row_sound ends zero here xs rest e = absurd cc
  row_sound ends (suc n) here xs rest e =
      branch (ends here) _ _ _ e
      (λ t y. as_read (RowEnds ends here) [] xs here rest y (refl, omega arith, t))
      (λ _ y. let a = bind_some (element here) _ (xs, rest) y in
      let b = bind_some (row_at ends element n a.0.1) _ (xs, rest) a.2 in
      let first = sound here a.0.0 a.0.1 a.1 in
      let more = row_sound ends n a.0.1 b.0.0 b.0.1 b.1 in
      as_read (RowEnds ends here) (a.0.0 ∷ b.0.0) xs b.0.1 rest b.2 (
        (a.0.1, first.0, more.0),
        omega (arith, first.1, more.1),
        more.2,
      ))

  pub row_inside_sound : SoundOf (RowHere Here) (tallest tall) height_left (row_inside element)
  unfolding row_inside
  row_inside_sound here xs rest e = let s = row_sound at_close (suc (length here)) here xs rest
      e in (s.0, s.1)

-- What is asked of the elements of a row that ends where `ends` says: an element is read where
-- `Follows` holds of what follows, as it does at the end and where the next element begins.
pub record RowOf {A : Type 0} (Here : Spelling A) (tall : A → ℕ) (height_left : ℕ)
    (Follows : List Token → Type 0) (ends : List Token → Bool) (element : List Token
    → Read A) : Type
    0 where
  pub again : (x : A) (here rest : List Token) → Here x here rest → tall x ≤ height_left
      → Follows rest → element here ≡ Some (x, rest)
  pub no_end : (x : A) (here rest : List Token) → Here x here rest → ends here ≡ false
  pub shorter : (x : A) (here rest : List Token) → Here x here rest → length rest < length here
  pub at_end : (rest : List Token) → ends rest ≡ true → Follows rest
  pub at_next : (x : A) (here rest : List Token) → Here x here rest → Follows here

pub row_shorter : {A : Type 0} (Here : Spelling A)
    → ((x : A) (here rest : List Token) → Here x here rest → length rest < length here)
    → (xs : List A) (here rest : List Token) → RowHere Here xs here rest → length rest ≤ length here
row_shorter Here shorter [] here rest h = omega (arith, ap length h)
row_shorter Here shorter (x ∷ xs) here rest h =
    omega (arith, shorter x here h.0 h.1, row_shorter Here shorter xs h.0 rest h.2)

module _ {A : Type 0} (Here : Spelling A) (tall : A → ℕ) (height_left : ℕ) (Follows : List Token
    → Type 0) (ends : List Token → Bool) (element : List Token → Read A)
    (elements : RowOf Here tall height_left Follows ends element) where
  pub row_follows : (xs : List A) (here rest : List Token) → RowHere Here xs here rest
      → ends rest ≡ true → Follows here
  row_follows [] here rest h e = subst Follows (sym h) (elements.at_end rest e)
  row_follows (x ∷ xs) here rest h e = elements.at_next x here h.0 h.1

  pub row_again : (n : ℕ) (xs : List A) (here rest : List Token) → length here < n
      → RowHere Here xs here rest → tallest tall xs ≤ height_left → ends rest ≡ true
      → row_at ends element n here ≡ Some (xs, rest)
  unfolding row_at
  row_again zero xs here rest lt h low e = absurd (omega arith)
  row_again (suc n) [] here rest lt h low e = rw (h, e) refl
  row_again (suc n) (x ∷ xs) here rest lt h low e =
      let first = elements.again x here h.0 h.1 (omega arith) (row_follows xs h.0 rest h.2 e) in
      let more = row_again n xs h.0 rest (let s = elements.shorter x here h.0 h.1 in
      omega arith) h.2
      (omega arith) e in
      rw (elements.no_end x here h.0 h.1, first, more) refl

pub row_inside_again : {A : Type 0} (Here : Spelling A) (tall : A → ℕ) (height_left : ℕ)
    (Follows : List Token → Type 0) (element : List Token → Read A)
    → RowOf Here tall height_left Follows at_close element
    → (xs : List A) (here rest : List Token) → RowHere Here xs here (Sign sign.CloseBrace ∷ rest)
    → tallest tall xs ≤ height_left → row_inside element here
    ≡ Some (xs, Sign sign.CloseBrace ∷ rest)
unfolding row_inside
row_inside_again Here tall height_left Follows element elements xs here rest h low =
    row_again Here tall height_left Follows at_close element elements (suc (length here)) xs here
    (Sign sign.CloseBrace ∷ rest) (omega arith) h low refl

-- ---- semicolons after elements

semicolons_sound : (here : List Token)
    → (n : ℕ) × TimesHere n sign.Semicolon here (skip_semicolons here)
semicolons_sound (Sign sign.Semicolon ∷ rest) = let h =
    semicolons_sound rest in (suc h.0, (rest, refl, h.1))
semicolons_sound _ = (0, refl)

no_semicolons : (rest : List Token) → at sign.Semicolon rest ≡ false → skip_semicolons rest ≡ rest
no_semicolons (Sign sign.Semicolon ∷ rest) e = absurd cc
no_semicolons _ e = refl

semicolons_again : (n : ℕ) (here rest : List Token) → TimesHere n sign.Semicolon here rest
    → at sign.Semicolon rest ≡ false → skip_semicolons here ≡ rest
semicolons_again zero here rest h e = ap skip_semicolons h ∙ no_semicolons rest e
semicolons_again (suc n) here rest h e = ap skip_semicolons h.1 ∙ semicolons_again n h.0 rest h.2 e

semicolons_shorter : (n : ℕ) (here rest : List Token) → TimesHere n sign.Semicolon here rest
    → length rest ≤ length here
semicolons_shorter zero here rest h = omega (arith, ap length h)
semicolons_shorter (suc n) here rest h =
    omega (arith, ap length h.1, semicolons_shorter n h.0 rest h.2)

module _ {A : Type 0} (Here : Spelling A) where
  -- an element and the semicolons after it
  abbrev pub ThenSemicolons : Spelling A
  ThenSemicolons x here rest = (behind : List Token) × Here x here behind × (n : ℕ)
      × TimesHere n sign.Semicolon behind rest

  pub closed_row : (xs : List A) (here rest : List Token) → RowHere ThenSemicolons xs here rest
      → ClosedHere Here xs here rest
  closed_row [] here rest h = h
  closed_row (x ∷ xs) here rest h = (h.1.0, h.0, h.1.1, h.1.2, h.1.3, closed_row xs h.0 rest h.2)

  pub row_closed : (xs : List A) (here rest : List Token) → ClosedHere Here xs here rest
      → RowHere ThenSemicolons xs here rest
  row_closed [] here rest h = h
  row_closed (x ∷ xs) here rest h = (h.1, (h.0, h.2, h.3, h.4), row_closed xs h.1 rest h.5)

  pub closed_sound : (tall : A → ℕ) (height_left : ℕ) (element : List Token → Read A)
      → SoundOf Here tall height_left element → SoundOf ThenSemicolons tall height_left
      (closed element)
  unfolding closed
  closed_sound tall height_left element sound here x rest e =
      let a = bind_some (element here) _ (x, rest) e in
      let s = sound here a.0.0 a.0.1 a.1 in
      let n = semicolons_sound a.0.1 in
      as_read (λ x r. ThenSemicolons x here r × (tall x ≤ height_left)) a.0.0 x
      (skip_semicolons a.0.1) rest a.2 ((a.0.1, s.0, n.0, n.1), s.1)

  pub closed_shorter : ((x : A) (here rest : List Token) → Here x here rest
      → length rest < length here) → (x : A) (here rest : List Token) → ThenSemicolons x here rest
      → length rest < length here
  closed_shorter shorter x here rest h =
      omega (arith, shorter x here h.0 h.1, semicolons_shorter h.2 h.0 rest h.3)

  -- elements that are read whatever follows, and begin with no semicolon
  pub closed_elements : (tall : A → ℕ) (height_left : ℕ) (ends : List Token → Bool)
      (element : List Token → Read A)
      → ((x : A) (here rest : List Token) → Here x here rest → tall x ≤ height_left
      → element here ≡ Some (x, rest))
      → ((x : A) (here rest : List Token) → Here x here rest → ends here ≡ false)
      → ((x : A) (here rest : List Token) → Here x here rest → at sign.Semicolon here ≡ false)
      → ((x : A) (here rest : List Token) → Here x here rest → length rest < length here)
      → ((rest : List Token) → ends rest ≡ true → at sign.Semicolon rest ≡ false)
      → RowOf ThenSemicolons tall height_left (λ rest. at sign.Semicolon rest ≡ false) ends
      (closed element)
  unfolding closed
  closed_elements tall height_left ends element again no_end no_semicolon shorter at_end = record {
    again = λ x here rest h low f. rw (
      again x here h.0 h.1 low,
      semicolons_again h.2 h.0 rest h.3
          f,
    ) refl;
    no_end = λ x here rest h. no_end x here h.0 h.1;
    shorter = closed_shorter shorter;
    at_end = at_end;
    at_next = λ x here rest h. no_semicolon x here h.0 h.1;
  }
