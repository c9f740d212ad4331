-- Loops that append the names of one element after another.
use Rattle.std.proofs.Common.{◌≡◌, refl, sym, ap, ◌∙◌, ℕ, ◌+◌, ◌<◌, ◌≤◌, Bool, true, false, List, [], ◌∷◌, ◌++◌, length, get_or, arith}
use Rattle.std.specs.List.{flat_map}
use Rattle.std.proofs.lemmas.Grind.{flat_map-append, common_steps}
use Rattle.std.proofs.lemmas.List.{append-nil, length-append}
use Rattle.edd_syntax.specs.declared.numbers.Kind.{Kind}
use Rattle.edd_syntax.specs.declared.reference.Target.{Target}
use Rattle.edd_syntax.specs.Text.{Name}
use Rattle.edd_syntax.specs.Item.{kind_of_item, Item}
use Rattle.edd_syntax.specs.Numbers.{same_kind}
use Rattle.edd_image.specs.declared.parts.NameRow.{NameRow}
use Rattle.edd_assembly.specs.Assembly.{name_row_at, name_rows, names_of_kind, names_of_kinds}
use Rattle.edd_syntax.proofs.Appending.{with_rest, appended, all_appended}

-- the bytes of names
abbrev pub bytes_of : List Name → List ℕ
bytes_of ns = flat_map (λ n. n) ns

pub name_rows-append : (s : ℕ) (ns ms : List Name) → name_rows s (ns ++ ms) ≡ name_rows s ns
    ++ name_rows (s + length (bytes_of ns)) ms
name_rows-append s [] ms = ap (λ k. name_rows k ms) (omega arith)
name_rows-append s (n ∷ ns) ms =
    ap (λ rows. name_row_at s n ∷ rows) (name_rows-append (s + length n) ns ms)
    ∙ ap (λ k. name_row_at s n ∷ (name_rows (s + length n) ns ++ name_rows k ms))
    (omega (arith, length-append n (bytes_of ns)))

module _ {X Y : Type 0} (names : List Y → List Name) (view : X → Y) (none : names [] ≡ [])
    (splits : (y : Y) (ys : List Y) → names (y ∷ ys) ≡ names (y ∷ []) ++ names ys) where
  pub rows_split : (s : ℕ) (y : Y) (ys : List Y) → name_rows s (names (y ∷ ys))
      ≡ name_rows s (names (y ∷ [])) ++ name_rows (s + length (bytes_of (names (y ∷ []))))
      (names ys)
  rows_split s y ys = ap (name_rows s) (splits y ys) ∙ name_rows-append s (names (y ∷ []))
      (names ys)

  pub bytes_split : (s : Unit {0}) (y : Y) (ys : List Y) → bytes_of (names (y ∷ ys))
      ≡ bytes_of (names (y ∷ [])) ++ bytes_of (names ys)
  bytes_split s y ys = ap bytes_of (splits y ys) ∙ flat_map-append (λ n. n) (names (y ∷ []))
      (names ys)

  -- the rows so far, and those of the elements from the i-th on, whose bytes start at s
  abbrev pub names_and_rest : List NameRow → ℕ → ℕ → List X → List NameRow
  names_and_rest zs s i xs = with_rest (λ t ys. name_rows t (names ys))
      (λ t y. name_rows t (names (y ∷ []))) (λ t y. t + length (bytes_of (names (y ∷ [])))) view
      rows_split zs s i xs

  abbrev pub bytes_and_rest : List ℕ → ℕ → List X → List ℕ
  bytes_and_rest bs i xs = with_rest (λ t ys. bytes_of (names ys))
      (λ t y. bytes_of (names (y ∷ []))) (λ t y. t) view bytes_split bs (record {}) i xs

  pub names_appended : (old : List NameRow) {new : List NameRow} (total : List NameRow)
      (before : List ℕ) {after : List ℕ} (i : ℕ) (xs : List X) {x : X} → i < length xs
      → x ≡ get_or xs i x → new ≡ old ++ name_rows (length before) (names (view x ∷ [])) → after
      ≡ before ++ bytes_of (names (view x ∷ [])) → names_and_rest old (length before) i xs ≡ total
      → names_and_rest new (length after) (i + 1) xs ≡ total
  names_appended old {new} total before i xs {x} h is grown longer invariant =
      ap (λ n. names_and_rest new n (i + 1) xs)
      (ap length longer ∙ length-append before (bytes_of (names (view x ∷ []))))
      ∙ appended (λ t ys. name_rows t (names ys)) (λ t y. name_rows t (names (y ∷ [])))
      (λ t y. t + length (bytes_of (names (y ∷ [])))) view rows_split old new total
      (length before) i xs x h is grown invariant

  pub bytes_appended : (old : List ℕ) {new : List ℕ} (total : List ℕ) (i : ℕ) (xs : List X) {x : X}
      → i < length xs → x ≡ get_or xs i x → new ≡ old ++ bytes_of (names (view x ∷ []))
      → bytes_and_rest old i xs ≡ total → bytes_and_rest new (i + 1) xs ≡ total
  bytes_appended old {new} total i xs {x} h is grown invariant =
      appended (λ t ys. bytes_of (names ys)) (λ t y. bytes_of (names (y ∷ []))) (λ t y. t) view
      bytes_split old new total (record {}) i xs x h is grown invariant

  pub names_done : (zs total : List NameRow) (s i : ℕ) (xs : List X) → length xs ≤ i
      → names_and_rest zs s i xs ≡ total → zs ≡ total
  names_done zs total s i xs h invariant = all_appended (λ t ys. name_rows t (names ys))
      (λ t y. name_rows t (names (y ∷ []))) (λ t y. t + length (bytes_of (names (y ∷ [])))) view
      rows_split zs total s i xs h (ap (name_rows s) none) invariant

  pub bytes_done : (bs total : List ℕ) (i : ℕ) (xs : List X) → length xs ≤ i
      → bytes_and_rest bs i xs ≡ total → bs ≡ total
  bytes_done bs total i xs h invariant = all_appended (λ t ys. bytes_of (names ys))
      (λ t y. bytes_of (names (y ∷ []))) (λ t y. t) view bytes_split bs total (record {}) i xs h
      (ap bytes_of none) invariant

-- ---- the names of items of a kind, and of kinds

pub kind_split : (k : Kind) (y : Item Target) (ys : List (Item Target)) → names_of_kind k (y ∷ ys)
    ≡ names_of_kind k (y ∷ []) ++ names_of_kind k ys
kind_split k y ys = by_kind (same_kind (kind_of_item y.sort) k) refl
  where
    by_kind : (b : Bool) → same_kind (kind_of_item y.sort) k ≡ b → names_of_kind k (y ∷ ys)
        ≡ names_of_kind k (y ∷ []) ++ names_of_kind k ys
    by_kind true is = grind (arith, common_steps)
    by_kind false is = grind (arith, common_steps)

pub kinds_split : (items : List (Item Target)) (k : Kind) (ks : List Kind)
    → names_of_kinds items (k ∷ ks) ≡ names_of_kinds items (k ∷ []) ++ names_of_kinds items ks
kinds_split items k ks = ap (λ ns. ns ++ names_of_kinds items ks)
    (sym (append-nil (names_of_kind k items)))
