-- A run at the front and what comes after it make the whole.
use Rattle.std.proofs.Common.{◌≡◌, ◌≢◌, ℕ, ◌+◌, ◌-◌, Bool, true, false, ◌&&◌, List, [], ◌∷◌, ◌++◌, take, length, refl, ap, sym, ◌∙◌, arith}
use Rattle.std.specs.Char.{is_ascii_digit, is_ascii_hexdigit}
use Rattle.std.specs.List.{list_all}
use Rattle.std.proofs.lemmas.List.{take_at, length-append}
use Rattle.edd_lexer.specs.Bytes.{front, behind, begins}

pub both : (a b : Bool) → (a && b) ≡ true → (a ≡ true) × (b ≡ true)
both true b e = (refl, e)
both false b e = absurd cc

module _ (test : ℕ → Bool) where
  pub front_behind : (xs : List ℕ) → front test xs ++ behind test xs ≡ xs
  front_behind [] = refl
  front_behind (b ∷ xs) = at_first (test b) refl (front_behind xs)
    where
      at_first : (t : Bool) → test b ≡ t → front test xs ++ behind test xs ≡ xs
          → front test (b ∷ xs) ++ behind test (b ∷ xs) ≡ b ∷ xs
      at_first true e h = rw e (ap (λ t. b ∷ t) h)
      at_first false e h = rw e refl

  pub front_length : (xs : List ℕ) → length (front test xs) + length (behind test xs) ≡ length xs
  front_length xs = omega (
    arith,
    length-append (front test xs) (behind test xs),
    ap length (front_behind xs),
  )

  -- the run, cut off by its length
  pub front_is : (xs : List ℕ) → take (length xs - length (behind test xs)) xs ≡ front test xs
  front_is xs =
      let n : length (front test xs) ≡ length xs - length (behind test xs) =
      omega (arith, front_length xs) in
      ap (λ ys. take (length xs - length (behind test xs)) ys) (sym (front_behind xs))
      ∙ take_at (front test xs) (behind test xs) (length xs - length (behind test xs)) n

  pub front_each : (xs : List ℕ) → list_all test (front test xs) ≡ true
  front_each [] = refl
  front_each (b ∷ xs) = at_first (test b) refl (front_each xs)
    where
      at_first : (t : Bool) → test b ≡ t → list_all test (front test xs) ≡ true
          → list_all test (front test (b ∷ xs)) ≡ true
      at_first true e h = rw (e, e) h
      at_first false e h = rw e refl

  pub behind_stops : (xs : List ℕ) → begins test (behind test xs) ≡ false
  behind_stops [] = refl
  behind_stops (b ∷ xs) = at_first (test b) refl (behind_stops xs)
    where
      at_first : (t : Bool) → test b ≡ t → begins test (behind test xs) ≡ false
          → begins test (behind test (b ∷ xs)) ≡ false
      at_first true e h = rw e h
      at_first false e h = rw (e, e) refl

  -- a run that passes, with something after it that doesn't, is the longest
  pub run_again : (bytes rest : List ℕ) → list_all test bytes ≡ true → begins test rest ≡ false
      → (front test (bytes ++ rest) ≡ bytes) × (behind test (bytes ++ rest) ≡ rest)
  run_again [] [] e stop = (refl, refl)
  run_again [] (c ∷ rest) e stop = (rw stop refl, rw stop refl)
  run_again (b ∷ bytes) rest e stop =
      let parts = both (test b) (list_all test bytes) e in
      let more = run_again bytes rest parts.1 stop in
      (rw parts.0 (ap (λ t. b ∷ t) more.0), rw parts.0 more.1)

  pub some_front : (here : List ℕ) → begins test here ≡ true → front test here ≢ []
  some_front [] e f = absurd cc
  some_front (b ∷ here) e f = absurd (let g : b ∷ front test here ≡ [] = rw e at f in cc)

  pub no_behind : (here : List ℕ) → begins test here ≡ false → behind test here ≡ here
  no_behind [] e = refl
  no_behind (b ∷ here) e = rw e refl

  pub some_begins : (xs rest : List ℕ) → xs ≢ [] → list_all test xs ≡ true
      → begins test (xs ++ rest) ≡ true
  some_begins [] rest some e = absurd (some refl)
  some_begins (x ∷ xs) rest some e = (both (test x) (list_all test xs) e).0

-- a test that a stronger one fails
pub weaker : (test other : ℕ → Bool) (rest : List ℕ) → ((b : ℕ) → test b ≡ true → other b ≡ true)
    → begins other rest ≡ false → begins test rest ≡ false
weaker test other [] h e = refl
weaker test other (b ∷ rest) h e = go (test b) refl
  where
    go : (t : Bool) → test b ≡ t → test b ≡ false
    go true f = absurd (let s = h b f in cc)
    go false f = f

-- a decimal digit is a hexadecimal one
digit_is_hex : (b : ℕ) → is_ascii_digit b ≡ true → is_ascii_hexdigit b ≡ true
digit_is_hex b e = grind arith

pub each_hex : (xs : List ℕ) → list_all is_ascii_digit xs ≡ true → list_all is_ascii_hexdigit xs
    ≡ true
each_hex [] e = refl
each_hex (b ∷ xs) e = let parts = both (is_ascii_digit b) (list_all is_ascii_digit xs) e in rw
    (digit_is_hex b parts.0) (each_hex xs parts.1)

pub ruleset runs = (front_is, front_length, front_each, each_hex)
