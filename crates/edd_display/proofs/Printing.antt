-- What was written grows piece by piece.
use Rattle.std.proofs.Common.{◌≡◌, ℕ, zero, suc, ◌+◌, ◌<◌, ℤ, arith, List, [], ◌∷◌, ◌++◌, length, take, get_or, Option, Some, None, refl, sym, ap, ◌∙◌, append_assoc, append-nil, subst}
use Rattle.std.proofs.lemmas.List.{take_more}
use Rattle.std.proofs.lemmas.List.Concat.{flat_map-append}
use Rattle.std.specs.Io.KnownBytes.{Appends}
use Rattle.std.specs.List.{flat_map, range_with_len}
use Rattle.edd_syntax.specs.declared.numbers.AttrRef.{AttrRef}
use Rattle.edd_syntax.specs.declared.numbers.ItemNo.{ItemNo}
use Rattle.edd_image.specs.Contents.{contents_in}
use Rattle.edd_instructions.specs.Reading.{Reading, IsReading}
use Rattle.edd_display.specs.Shown.{Entry, Identification, Head, Row, LineOf, Shows, Prints, identification_line, head_line, reading_line}

-- ---- lists that grow

range_suc : (a n : ℕ) → range_with_len a (suc n) ≡ range_with_len a n ++ (a + n) ∷ []
range_suc a zero = let same : a ≡ a + 0 = omega arith in ap (λ k. k ∷ []) same
range_suc a (suc n) =
    let same : a + 1 + n ≡ a + suc n = omega arith in
    ap (λ zs. a ∷ zs) (range_suc (a + 1) n ∙ ap (λ k. range_with_len (a + 1) n ++ k ∷ []) same)

pub range_more : (n : ℕ) → range_with_len 0 (n + 1) ≡ range_with_len 0 n ++ n ∷ []
range_more n =
    let next : n + 1 ≡ suc n = omega arith in
    let same : 0 + n ≡ n = omega arith in
    ap (range_with_len 0) next ∙ range_suc 0 n ∙ ap (λ k. range_with_len 0 n ++ k ∷ []) same

pub flat_map_one : {X A : Type 0} (f : X → List A) (x : X) → flat_map f (x ∷ []) ≡ f x
flat_map_one f x = append-nil (f x)

-- one more element
pub items_more : {X A : Type 0} (f : X → List A) (xs : List X) (i : ℕ) (d : X) → i < length xs
    → flat_map f (take (i + 1) xs) ≡ flat_map f (take i xs) ++ f (get_or xs i d)
items_more f xs i d inside =
    ap (flat_map f) (take_more xs i d inside)
    ∙ flat_map-append f (take i xs) (get_or xs i d ∷ [])
    ∙ ap (λ zs. flat_map f (take i xs) ++ zs) (flat_map_one f (get_or xs i d))

-- one more number
pub numbers_more : {A : Type 0} (f : ℕ → List A) (n : ℕ)
    → flat_map f (range_with_len 0 (n + 1)) ≡ flat_map f (range_with_len 0 n) ++ f n
numbers_more f n =
    ap (flat_map f) (range_more n)
    ∙ flat_map-append f (range_with_len 0 n) (n ∷ [])
    ∙ ap (λ zs. flat_map f (range_with_len 0 n) ++ zs) (flat_map_one f n)

-- ---- bytes

pub appends_nothing : (old : Option (List ℕ)) → Appends old old []
appends_nothing None = tt
appends_nothing (Some xs) = sym (append-nil xs)

pub appends_join : (old mid new : Option (List ℕ)) (a b : List ℕ) → Appends old mid a
    → Appends mid new b → Appends old new (a ++ b)
appends_join None mid new a b p q = tt
appends_join (Some xs) None new a b p q = absurd p
appends_join (Some xs) (Some ys) None a b p q = q
appends_join (Some xs) (Some ys) (Some zs) a b p q =
    q ∙ ap (λ t. t ++ b) p ∙ append_assoc xs a b

pub appends_numbers : (f : ℕ → List ℕ) (n : ℕ) (old mid new : Option (List ℕ))
    → Appends old mid (flat_map f (range_with_len 0 n)) → Appends mid new (f n)
    → Appends old new (flat_map f (range_with_len 0 (n + 1)))
appends_numbers f n old mid new p q =
    rw (numbers_more f n) (appends_join old mid new (flat_map f (range_with_len 0 n)) (f n) p q)

-- ---- lines of entries

module _ (b : List ℕ) (values : List ℤ) (code : List ℕ) where
  shows_join : (xs ys : List Entry) (t u : List ℕ) → Shows b values code xs t
      → Shows b values code ys u → Shows b values code (xs ++ ys) (t ++ u)
  unfolding Shows
  shows_join [] ys t u p q = rw p q
  shows_join (x ∷ xs) ys t u (line, others, here, rest, whole) q = (
    line,
    others ++ u,
    here,
    shows_join xs ys others u rest q,
    ap (λ s. s ++ u) whole ∙ append_assoc line others u,
  )

  pub prints_nothing : (old : Option (List ℕ)) → Prints b values code [] old old
  unfolding Prints Shows
  prints_nothing old = ([], refl, appends_nothing old)

  pub prints_join : (xs ys : List Entry) (old mid new : Option (List ℕ))
      → Prints b values code xs old mid → Prints b values code ys mid new
      → Prints b values code (xs ++ ys) old new
  unfolding Prints
  prints_join xs ys old mid new (t, shown, grown) (u, more, further) =
      (t ++ u, shows_join xs ys t u shown more, appends_join old mid new t u grown further)

  pub prints_end : (xs : List Entry) (old mid new : Option (List ℕ))
      → Prints b values code xs old mid → Prints b values code [] mid new
      → Prints b values code xs old new
  prints_end xs old mid new p q =
      subst (λ (ys : List Entry). Prints b values code ys old new) (append-nil xs)
      (prints_join xs [] old mid new p q)

  -- the line of one entry
  prints_one : (e : Entry) (line : List ℕ) (old new : Option (List ℕ)) → LineOf b values code e line
      → Appends old new line → Prints b values code (e ∷ []) old new
  unfolding Prints Shows
  prints_one e line old new is grown = (line, (line, [], is, refl, sym (append-nil line)), grown)

  -- the lines of entries behind one that has been printed
  pub prints_after_identification : (xs : List Entry) (old mid new : Option (List ℕ))
      → Appends old mid (identification_line (contents_in b).counts) → Prints b values code xs mid new
      → Prints b values code (Identification ∷ xs) old new
  unfolding LineOf
  prints_after_identification xs old mid new grown further =
      prints_join (Identification ∷ []) xs old mid new
      (prints_one Identification (identification_line (contents_in b).counts) old mid refl grown)
      further

  pub prints_after_head : (item : ItemNo) (xs : List Entry) (old mid new : Option (List ℕ))
      → Appends old mid (head_line (contents_in b) item) → Prints b values code xs mid new
      → Prints b values code (Head item ∷ xs) old new
  unfolding LineOf
  prints_after_head item xs old mid new grown further =
      prints_join (Head item ∷ []) xs old mid new
      (prints_one (Head item) (head_line (contents_in b) item) old mid refl grown) further

  pub prints_row : (row : AttrRef) (r : Reading) (old new : Option (List ℕ))
      → IsReading b row values r → Appends old new (reading_line (contents_in b) code row r)
      → Prints b values code (Row row ∷ []) old new
  unfolding LineOf
  prints_row row r old new is grown =
      prints_one (Row row) (reading_line (contents_in b) code row r) old new (r, is, refl) grown

  -- one more element of a list has its lines
  pub prints_items : {X : Type 0} (f : X → List Entry) (xs : List X) (i : ℕ) (d : X)
      (old mid new : Option (List ℕ)) → i < length xs
      → Prints b values code (flat_map f (take i xs)) old mid
      → Prints b values code (f (get_or xs i d)) mid new
      → Prints b values code (flat_map f (take (i + 1) xs)) old new
  prints_items f xs i d old mid new inside p q =
      rw (items_more f xs i d inside)
      (prints_join (flat_map f (take i xs)) (f (get_or xs i d)) old mid new p q)

  pub prints_numbers : (f : ℕ → List Entry) (n : ℕ) (old mid new : Option (List ℕ))
      → Prints b values code (flat_map f (range_with_len 0 n)) old mid
      → Prints b values code (f n) mid new
      → Prints b values code (flat_map f (range_with_len 0 (n + 1))) old new
  prints_numbers f n old mid new p q =
      rw (numbers_more f n) (prints_join (flat_map f (range_with_len 0 n)) (f n) old mid new p q)
