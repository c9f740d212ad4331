-- Members by their names, one list of them after another.
use Rattle.std.proofs.Common.{◌≡◌, refl, sym, ap, ◌∙◌, ℕ, zero, suc, ◌+◌, ◌<◌, ◌≤◌, List, [], ◌∷◌, ◌++◌, length, get_or, drop, take, map, Option, Some, None, add-one, append_assoc, arith}
use Rattle.std.specs.Prelude.{Bool, true, false, if◌then◌else◌, option_map, option_and_then, find, filter, slice_get}
use Rattle.std.specs.List.{flat_map}
use Rattle.std.specs.Option.{option_or}
use Rattle.std.proofs.Math.Seq.{take-suc}
use Rattle.std.proofs.lemmas.List.{append-nil, at_drop_more}
use Rattle.std.proofs.lemmas.List.Folds.{find-append}
use Rattle.edd_name_meanings.specs.declared.members.Collection.{Collection}
use Rattle.edd_name_meanings.specs.Members.{found_in, AreCollections}
use Rattle.edd_syntax.specs.Text.{Name}
use Rattle.edd_syntax.specs.Reference.{Path}
use Rattle.edd_syntax.specs.Item.{Item}
use Rattle.edd_syntax.specs.Resolution.{member_in}

-- all of a list that is no longer than that
pub take_all : {X : Type 0} (n : ℕ) (xs : List X) → length xs ≤ n → take n xs ≡ xs
take_all zero [] h = refl
take_all zero (x ∷ xs) h = absurd (omega arith)
take_all (suc n) [] h = refl
take_all (suc n) (x ∷ xs) h = ap (λ ys. x ∷ ys) (take_all n xs (omega arith))

or_assoc : {X : Type 0} (a b c : Option X) → option_or (option_or a b) c
    ≡ option_or a (option_or b c)
or_assoc (Some x) b c = refl
or_assoc None b c = refl

pub or_none : {X : Type 0} (a : Option X) → option_or a None ≡ a
or_none (Some x) = refl
or_none None = refl

pub mapped_if : {X Y : Type 0} (f : X → Y) (b : Bool) (x : X)
    → option_map f (if b then Some x else None) ≡ find (λ y. b) (f x ∷ [])
mapped_if f true x = refl
mapped_if f false x = refl

module _ {X Y M : Type 0} (view : X → Y) (gives : Y → List M) (test : M → Bool) where
  -- the first that is found among those of the first i elements
  abbrev pub found_up_to : ℕ → List X → Option M
  found_up_to i xs = find test (flat_map gives (map view (take i xs)))

  more : (i : ℕ) (xs : List X) (x : X) → i < length xs → x ≡ get_or xs i x
      → flat_map gives (map view (take (i + 1) xs)) ≡ flat_map gives (map view (take i xs))
      ++ gives (view x)
  more i xs x h is =
      ap (λ n. flat_map gives (map view (take n xs))) (add-one i)
      ∙ ap (λ ys. flat_map gives (map view ys)) (take-suc xs i x h)
      ∙ split (take i xs) (get_or xs i x)
      ∙ ap (λ y. flat_map gives (map view (take i xs)) ++ gives (view y)) (sym is)
    where
      split : (ys : List X) (y : X) → flat_map gives (map view (ys ++ y ∷ []))
          ≡ flat_map gives (map view ys) ++ gives (view y)
      split [] y = append-nil (gives (view y))
      split (z ∷ ys) y = ap (λ ms. gives (view z) ++ ms) (split ys y)
          ∙ sym (append_assoc (gives (view z)) (flat_map gives (map view ys)) (gives (view y)))

  -- a is what was found before the loop, now what is found before the i-th element, and next after
  -- it
  pub gathered_more : (a now next : Option M) (i : ℕ) (xs : List X) (x : X) → i < length xs
      → x ≡ get_or xs i x → next ≡ option_or now (find test (gives (view x)))
      → now ≡ option_or a (found_up_to i xs) → next ≡ option_or a (found_up_to (i + 1) xs)
  gathered_more a now next i xs x h is put known =
      put ∙ ap (λ o. option_or o (find test (gives (view x)))) known ∙ or_assoc a (found_up_to i xs)
      (find test (gives (view x)))
      ∙ ap (option_or a) (sym (find-append test (flat_map gives (map view (take i xs)))
      (gives (view x))) ∙ ap (find test) (sym (more i xs x h is)))

-- ---- a loop that looks for a member

module _ {X Y M : Type 0} (view : X → Y) (gives : Y → List M) (test : M → Bool) where
  -- the first that is found from the i-th element on
  abbrev pub found_from : ℕ → List X → Option M
  found_from i xs = find test (flat_map gives (map view (drop i xs)))

  next_found : (i : ℕ) (xs : List X) (x : X) → i < length xs → x ≡ get_or xs i x
      → found_from i xs ≡ option_or (find test (gives (view x))) (found_from (i + 1) xs)
  next_found i xs x h is =
      at_drop_more (λ ys. find test (flat_map gives (map view ys))) xs i x h
      ∙ find-append test (gives (view (get_or xs i x))) (flat_map gives (map view (drop (i + 1) xs)))
      ∙ ap (λ y. option_or (find test (gives (view y))) (found_from (i + 1) xs)) (sym is)

  pub looks_on : (i : ℕ) (xs : List X) (x : X) → i < length xs → x ≡ get_or xs i x
      → None ≡ find test (gives (view x)) → found_from i xs ≡ found_from 0 xs
      → found_from (i + 1) xs ≡ found_from 0 xs
  looks_on i xs x h is none invariant =
      ap (λ o. option_or o (found_from (i + 1) xs)) none ∙ sym (next_found i xs x h is) ∙ invariant

  pub finds : (i : ℕ) (xs : List X) (x : X) (m : M) → i < length xs → x ≡ get_or xs i x
      → Some m ≡ find test (gives (view x)) → found_from i xs ≡ found_from 0 xs
      → Some m ≡ found_from 0 xs
  finds i xs x m h is some invariant =
      ap (λ o. option_or o (found_from (i + 1) xs)) some ∙ sym (next_found i xs x h is) ∙ invariant

-- ---- collections

pub one_more_collection : (cs : List Collection) (is : List (Item Path)) (c : Collection)
    (i : Item Path) → AreCollections cs is → ((q : Name) → found_in c q ≡ member_in i q)
    → AreCollections (cs ++ c ∷ []) (is ++ i ∷ [])
one_more_collection [] [] c i all one = (one, tt)
one_more_collection [] (j ∷ is) c i all one = absurd all
one_more_collection (d ∷ cs) [] c i all one = absurd all
one_more_collection (d ∷ cs) (j ∷ is) c i all one = (all.0, one_more_collection cs is c i all.1 one)

pub at_number : (cs : List Collection) (is : List (Item Path)) → AreCollections cs is
    → (n : ℕ) (q : Name) → option_and_then (λ c. found_in c q) (slice_get cs n)
    ≡ option_and_then (λ i. member_in i q) (slice_get is n)
at_number [] [] all n q = refl
at_number [] (i ∷ is) all n q = absurd all
at_number (c ∷ cs) [] all n q = absurd all
at_number (c ∷ cs) (i ∷ is) all zero q = all.0 q
at_number (c ∷ cs) (i ∷ is) all (suc n) q = at_number cs is all.1 n q

module _ {X Y : Type 0} (view : X → Y) (test : Y → Bool) where
  pub filtered_more : (i : ℕ) (xs : List X) (x : X) → i < length xs → x ≡ get_or xs i x
      → filter test (map view (take i xs)) ++ filter test (view x ∷ [])
      ≡ filter test (map view (take (i + 1) xs))
  filtered_more i xs x h is =
      ap (λ y. filter test (map view (take i xs)) ++ filter test (view y ∷ [])) is
      ∙ sym (split (take i xs) (get_or xs i x)) ∙ ap (λ ys. filter test (map view ys))
      (sym (take-suc xs i x h)) ∙ ap (λ n. filter test (map view (take n xs))) (sym (add-one i))
    where
      behind : (b : Bool) (z : Y) (ms ns : List Y) → (if b then z ∷ (ms ++ ns) else ms ++ ns)
          ≡ (if b then z ∷ ms else ms) ++ ns
      behind true z ms ns = refl
      behind false z ms ns = refl

      split : (ys : List X) (y : X) → filter test (map view (ys ++ y ∷ []))
          ≡ filter test (map view ys) ++ filter test (view y ∷ [])
      split [] y = refl
      split (z ∷ ys) y = ap (λ ms. if test (view z) then view z ∷ ms else ms) (split ys y)
          ∙ behind (test (view z)) (view z) (filter test (map view ys)) (filter test (view y ∷ []))

pub at_index : {X : Type 0} (xs : List X) (i : ℕ) (x : X) → i < length xs → x ≡ get_or xs i x
    → slice_get xs i ≡ Some x
at_index [] i x h is = absurd (omega arith)
at_index (y ∷ ys) zero x h is = ap (λ z. Some z) (sym is)
at_index (y ∷ ys) (suc i) x h is = at_index ys i x (omega arith) is
