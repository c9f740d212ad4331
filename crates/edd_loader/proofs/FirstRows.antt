-- What a test of the first rows of a section says when there is one row more.
use Rattle.std.proofs.Common.{◌≡◌, ℕ, zero, suc, ◌+◌, ◌-◌, ◌*◌, ◌<◌, Bool, true, false, ◌&&◌, nat_eq, List, [], ◌∷◌, ◌++◌, map, refl, sym, ap, ◌∙◌, arith, mul-suc}
use Rattle.std.specs.List.{list_all}
use Rattle.std.proofs.lemmas.Bool.{and_parts, eq-eqb, ne_eqb}
use Rattle.std.proofs.lemmas.List.{map-append}
use Rattle.std.proofs.lemmas.List.Folds.{list_all-append}
use Rattle.edd_image.specs.Contents.{Span, rows_from}
use Rattle.edd_loader.specs.Spots.{follow}
use Rattle.edd_loader.proofs.RowTurns.{no_row, row_at, rows_behind, rows_on}

-- all rows are those from the first one on
pub all_rows : {A : Type 0} (read : ℕ → A) (size count start : ℕ)
    → rows_on read size count start 0 ≡ rows_from read size count start
all_rows read size count start =
    let whole : count - 0 ≡ count = omega arith in
    let here : start + size * 0 ≡ start = omega arith in
    rw (whole, here) refl

-- one row more is the one that comes after the n others
pub rows_more : {A : Type 0} (read : ℕ → A) (size n more place : ℕ) → more ≡ suc n
    → rows_from read size more place ≡ rows_from read size n place
    ++ (read (place + size * n) ∷ [])
unfolding rows_from
rows_more read size zero more place e =
    let here : place ≡ place + size * 0 = omega arith in
    rw e (ap (λ p. read p ∷ []) here)
rows_more read size (suc n) more place e =
    let there : (place + size) + size * n ≡ place + size * suc n = rw mul-suc (omega arith) in
    rw e (ap (λ rest. read place ∷ rest)
    (rows_more read size n (suc n) (place + size) refl
    ∙ ap (λ p. rows_from read size n (place + size) ++ (read p ∷ [])) there))

-- ---- a test of each row

pub each_none : {A : Type 0} (p : A → Bool) (read : ℕ → A) (size place : ℕ)
    → list_all p (rows_from read size 0 place) ≡ true
each_none p read size place = ap (list_all p) (no_row read size 0 place refl)

last_passes : (a b : Bool) → a ≡ true → (a && (b && true)) ≡ b
last_passes true true e = refl
last_passes true false e = refl
last_passes false b e = absurd cc

-- where the rows before pass, it is up to the last one
pub each_more : {A : Type 0} (p : A → Bool) (read : ℕ → A) (size n more place : ℕ) → more ≡ suc n
    → list_all p (rows_from read size n place) ≡ true
    → list_all p (rows_from read size more place) ≡ p (read (place + size * n))
each_more p read size n more place e before =
    ap (list_all p) (rows_more read size n more place e)
    ∙ list_all-append p (rows_from read size n place) (read (place + size * n) ∷ [])
    ∙ last_passes (list_all p (rows_from read size n place)) (p (read (place + size * n))) before

-- ---- spans that follow one another

-- where the last span ends
abbrev pub ends : ℕ → List Span → ℕ
ends place [] = place
ends place (x ∷ xs) = ends (place + x.size) xs

ends_push : (place : ℕ) (xs : List Span) (x : Span) → ends place (xs ++ (x ∷ []))
    ≡ ends place xs + x.size
ends_push place [] x = refl
ends_push place (y ∷ ys) x = ends_push (place + y.size) ys x

follow_push : (place : ℕ) (xs : List Span) (x : Span) → follow place xs ≡ true
    → follow place (xs ++ (x ∷ [])) ≡ nat_eq x.start (ends place xs)
follow_push place [] x e = last_passes true (nat_eq x.start place) refl
follow_push place (y ∷ ys) x e =
    let parts = and_parts (nat_eq y.start place) (follow (place + y.size) ys) e in
    ap (λ (b : Bool). b && follow (place + y.size) (ys ++ (x ∷ []))) parts.0
    ∙ follow_push (place + y.size) ys x parts.1

pub spans_more : {A : Type 0} (span : A → Span) (read : ℕ → A) (size n more place : ℕ)
    → more ≡ suc n → map span (rows_from read size more place)
    ≡ map span (rows_from read size n place) ++ (span (read (place + size * n)) ∷ [])
spans_more span read size n more place e =
    ap (map span) (rows_more read size n more place e)
    ∙ map-append span (rows_from read size n place) (read (place + size * n) ∷ [])

module _ (xs new : List Span) (x : Span) (place : ℕ) (more : new ≡ xs ++ (x ∷ []))
    (here : place ≡ ends 0 xs) where
  pub ends_more : (size : ℕ) → size ≡ x.size → place + size ≡ ends 0 new
  ends_more size long = rw (here, long) (sym (ap (ends 0) more ∙ ends_push 0 xs x))

  pub follow_more : (begin : ℕ) → begin ≡ x.start → begin ≡ place → follow 0 xs ≡ true
      → follow 0 new ≡ true
  follow_more begin there same before = ap (follow 0) more ∙ follow_push 0 xs x before
      ∙ eq-eqb x.start (ends 0 xs) (sym there ∙ same ∙ here)

  pub follow_ends : (begin : ℕ) → begin ≡ x.start → (begin ≡ place → ⊥) → follow 0 xs ≡ true
      → follow 0 new ≡ false
  follow_ends begin there other before = ap (follow 0) more ∙ follow_push 0 xs x before
      ∙ ne_eqb x.start (ends 0 xs) (λ same. other (there ∙ same ∙ sym here))

-- both tests pass
pub both_pass : (a b : Bool) → a ≡ true → b ≡ true → (a && b) ≡ true
both_pass a b e f = rw (e, f) refl

-- ---- rows that rise

module _ {A : Type 0} (rising : List A → Bool) (below : A → A → Bool)
    (one : (x : A) → rising (x ∷ []) ≡ true)
    (more : (x y : A) (rest : List A) → rising (x ∷ y ∷ rest) ≡ (below x y && rising (y ∷ rest)))
  where
    rises_push : (xs : List A) (a b : A) → rising (xs ++ (a ∷ [])) ≡ true
        → rising ((xs ++ (a ∷ [])) ++ (b ∷ [])) ≡ below a b
    rises_push [] a b e = more a b [] ∙ ap (λ (p : Bool). below a b && p) (one b)
        ∙ last_passes true (below a b) refl
    rises_push (x ∷ []) a b e =
        let parts = and_parts (below x a) (rising (a ∷ [])) (sym (more x a []) ∙ e) in
        more x a (b ∷ []) ∙ ap (λ (p : Bool). p && rising (a ∷ b ∷ [])) parts.0
        ∙ rises_push [] a b (one a)
    rises_push (x ∷ y ∷ ys) a b e =
        let parts = and_parts (below x y) (rising (y ∷ (ys ++ (a ∷ []))))
        (sym (more x y (ys ++ (a ∷ []))) ∙ e) in
        more x y ((ys ++ (a ∷ [])) ++ (b ∷ []))
        ∙ ap (λ (p : Bool). p && rising (y ∷ ((ys ++ (a ∷ [])) ++ (b ∷ [])))) parts.0
        ∙ rises_push (y ∷ ys) a b parts.1

    pub first_rises : (read : ℕ → A) (size place : ℕ)
        → rising (rows_from read size (0 + 1) place) ≡ true
    first_rises read size place = ap rising (rows_more read size 0 (0 + 1) place refl)
        ∙ ap (λ (xs : List A). rising (xs ++ (read (place + size * 0) ∷ [])))
        (no_row read size 0 place refl) ∙ one (read (place + size * 0))

    -- where the rows so far rise, it is up to the last two
    pub risen_more : (read : ℕ → A) (size n place : ℕ)
        → rising (rows_from read size (n + 1) place) ≡ true
        → rising (rows_from read size (n + 1 + 1) place)
        ≡ below (read (place + size * n)) (read (place + size * (n + 1)))
    risen_more read size n place e =
        let last = rows_more read size n (n + 1) place (omega arith) in
        ap rising (rows_more read size (n + 1) (n + 1 + 1) place (omega arith))
        ∙ ap (λ (xs : List A). rising (xs ++ (read (place + size * (n + 1)) ∷ []))) last
        ∙ rises_push (rows_from read size n place) (read (place + size * n))
        (read (place + size * (n + 1))) (sym (ap rising last) ∙ e)

-- the first of the rows after a row
pub next_first : {A : Type 0} (read : ℕ → A) (size count start i : ℕ) → i + 1 < count
    → rows_from read size ((count - i) - 1) ((start + size * i) + size)
    ≡ read (start + size * (i + 1)) ∷ rows_on read size count start (i + 1 + 1)
next_first read size count start i lt = rows_behind read size count start i
    ∙ row_at read size count start (i + 1) lt
