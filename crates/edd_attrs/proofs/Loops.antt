-- A loop that writes one element after the other.
use Rattle.std.proofs.Common.{◌≡◌, refl, sym, ap, subst, ◌∙◌, ℕ, ◌+◌, ◌<◌, ◌≤◌, List, [], ◌∷◌, ◌++◌, length, get_or, map, take, drop, zero, suc, Option, arith, append_assoc}
use Rattle.std.specs.List.{flat_map}
use Rattle.std.proofs.lemmas.Grind.{flat_map-append}
use Rattle.std.proofs.lemmas.List.{append-nil, take_more, take_all, take-append-drop, drop_more, drop_all}
use Rattle.edd_syntax.specs.declared.numbers.StrNo.{StrNo}
use Rattle.edd_syntax.specs.Words.{Words}
use Rattle.edd_instructions.specs.Agreement.{string_of_table}
use Rattle.edd_code.specs.Blocks.{Block, Nothing, Then, bytes_at}
use Rattle.edd_code.proofs.Closing.{nothing_written}
use Rattle.edd_code.specs.Tables.{GrowsBy, Overflows}
use Rattle.edd_code.specs.Written.{WritesBlock}
use Rattle.edd_attrs.proofs.Among.{within_left, within_right, overflows_later}
use Rattle.edd_code.proofs.Growing.{nothing_added, both_added}
use Rattle.edd_attrs.proofs.Written.{both_blocks}

-- a table that begins with the new one begins with the old one
pub later_on : (b : List Words) {c : List Words} (more later : List Words) → c ≡ b ++ more
    → c ++ later ≡ b ++ (more ++ later)
later_on b more later e = ap (λ (t : List Words). t ++ later) e ∙ append_assoc b more later

-- an element is at its place when the elements are viewed
pub viewed_at : {X Y : Type 0} (view : X → Y) (xs : List X) (i : ℕ) {x : X} → i < length xs
    → x ≡ get_or xs i x → view x ≡ get_or (map view xs) i (view x)
viewed_at view [] i h is = absurd (omega arith)
viewed_at view (y ∷ xs) zero h is = ap view is
viewed_at view (y ∷ xs) (suc i) {x} h is = viewed_at view xs i (omega arith) is

-- what is after the first i elements begins with the one at i
pub dropped : {X : Type 0} (xs : List X) (i : ℕ) {x : X} → i < length xs → x ≡ get_or xs i x
    → drop i xs ≡ x ∷ drop (i + 1) xs
dropped {X} xs i {x} h is = drop_more xs i x h ∙ ap (λ (y : X). y ∷ drop (i + 1) xs) (sym is)

module _ {X A : Type 0} (f : X → List A) where
  pub flat_take : (xs : List X) (i : ℕ) (x : X) → i < length xs → x ≡ get_or xs i x
      → flat_map f (take (i + 1) xs) ≡ flat_map f (take i xs) ++ f x
  flat_take xs i x h is =
      ap (flat_map f) (take_more xs i x h) ∙ flat_map-append f (take i xs) (get_or xs i x ∷ [])
      ∙ ap (λ (ys : List A). flat_map f (take i xs) ++ ys) (append-nil (f (get_or xs i x))
      ∙ ap f (sym is))

  pub flat_drop : (xs : List X) (i : ℕ) (x : X) → i < length xs → x ≡ get_or xs i x
      → flat_map f (drop i xs) ≡ f x ++ flat_map f (drop (i + 1) xs)
  flat_drop xs i x h is = ap (flat_map f) (dropped xs i h is)

  pub flat_parts : (xs : List X) (i : ℕ) → flat_map f xs ≡ flat_map f (take i xs)
      ++ flat_map f (drop i xs)
  flat_parts xs i = ap (flat_map f) (sym (take-append-drop i xs)) ∙ flat_map-append f (take i xs)
      (drop i xs)

module _ {X : Type 0} (strings : X → List Words) (of : (StrNo → Option Words) → List X → Block
    → Type 0) where
  -- one element more: the block of those after it becomes that of it and those after it
  pub record Step (x : X) (b : List Words) (between : List ℕ) (c : List Words)
      (after : List ℕ) : Type 0 where
    pub table : GrowsBy b (strings x) c
    pub around : Block → Block
    pub written : (y : Block) → after ++ bytes_at (length after) y ≡ between
        ++ bytes_at (length between) (around y)
    pub is : (later : List Words) (rest : List X) (y : Block)
        → of (string_of_table (c ++ later)) rest y
        → of (string_of_table (c ++ later)) (x ∷ rest) (around y)

  -- the first i elements are written, and the table grew: the block of those after them becomes
  -- that of all
  pub record Front (i : ℕ) (xs : List X) (a : List Words) (before : List ℕ) (b : List Words)
      (between : List ℕ) : Type 0 where
    pub table : GrowsBy a (flat_map strings (take i xs)) b
    pub around : Block → Block
    pub written : (y : Block) → between ++ bytes_at (length between) y ≡ before
        ++ bytes_at (length before) (around y)
    pub is : (later : List Words) (y : Block) → of (string_of_table (b ++ later)) (drop i xs) y
        → of (string_of_table (b ++ later)) xs (around y)

  pub front_starts : (xs : List X) (a : List Words) (before : List ℕ) → Front 0 xs a before a before
  front_starts xs a before = record {
    table = nothing_added a;
    around = λ y. y;
    written = λ y. refl;
    is = λ later y h. h;
  }

  pub front_grows : {i : ℕ} {xs : List X} {x : X} {a b c : List Words}
      {before between after : List ℕ} → i < length xs → x ≡ get_or xs i x
      → Front i xs a before b between → Step x b between c after → Front (i + 1) xs a before c after
  front_grows {i} {xs} {x} {a} {b} {c} h is front step = record {
    table = subst (λ (ws : List Words). GrowsBy a ws c) (sym (flat_take strings xs i x h is))
        (both_added front.table step.table);
    around = λ y. front.around (step.around y);
    written = λ y. step.written y ∙ front.written (step.around y);
    is = λ later y held.
        let e : c ++ later ≡ b ++ (step.table.more ++ later) =
        later_on b step.table.more later step.table.grown in
        let here : of (string_of_table (c ++ later)) (drop i xs) (step.around y) =
        subst (λ (ys : List X). of (string_of_table (c ++ later)) ys (step.around y))
        (sym (dropped xs i h is)) (step.is later (drop (i + 1) xs) y held) in
        subst (λ (t : List Words). of (string_of_table t) xs (front.around (step.around y))) (sym e)
        (front.is (step.table.more ++ later) (step.around y)
        (subst (λ (t : List Words). of (string_of_table t) (drop i xs) (step.around y)) e
        here));
  }

  pub front_overflows : {i : ℕ} {xs : List X} {x : X} {a b : List Words} {before between : List ℕ}
      → i < length xs → x ≡ get_or xs i x → Front i xs a before b between → Overflows b (strings x)
      → Overflows a (flat_map strings xs)
  front_overflows {i} {xs} {x} {a} {b} h is front over =
      overflows_later a b front.table over (within_left (flat_map strings (take i xs))
      (flat_map strings (drop i xs)) (flat_parts strings xs i)) (λ w held. within_right (flat_map
      strings (take i xs)) (flat_map strings (drop i xs)) (flat_parts strings xs i) w (within_left
      (strings x) (flat_map strings (drop (i + 1) xs)) (flat_drop strings xs i x h is) w held))

  pub front_ends : {i : ℕ} {xs : List X} {a b : List Words} {before after : List ℕ} → length xs ≤ i
      → Front i xs a before b after → ((numbered : StrNo → Option Words) → of numbered [] Nothing)
      → WritesBlock a before (flat_map strings xs) (λ numbered block. of numbered xs block) b after
  front_ends {i} {xs} {a} {b} {after} h front none = record {
    table = subst (λ (ys : List X). GrowsBy a (flat_map strings ys) b) (take_all i xs h)
        front.table;
    block = front.around Nothing;
    written = nothing_written after ∙ front.written Nothing;
    is = λ later. front.is later Nothing
        (subst (λ (ys : List X). of (string_of_table (b ++ later)) ys Nothing)
        (sym (drop_all i xs h)) (none (string_of_table (b ++ later))));
  }

  -- an element whose block is in front of that of the rest
  pub block_step : (x : X) {b c : List Words} {between after : List ℕ} {one : (StrNo → Option Words)
      → Block → Type 0} → WritesBlock b between (strings x) one c after
      → ((numbered : StrNo → Option Words) (rest : List X) (p q : Block) → one numbered p
      → of numbered rest q → of numbered (x ∷ rest) (Then p q)) → Step x b between c after
  block_step x {c} {between} {after} w cons = record {
    table = w.table;
    around = λ y. Then w.block y;
    written = λ y. both_blocks between {after =
        (after ++ bytes_at (length after) y)} w.block y w.written refl;
    is = λ later rest y held. cons (string_of_table (c ++ later)) rest w.block y (w.is later) held;
  }

  -- an element that gives nothing
  pub no_step : (x : X) (b c : List Words) {between after : List ℕ} → c ≡ b → after ≡ between
      → strings x ≡ [] → ((numbered : StrNo → Option Words) (rest : List X) (q : Block)
      → of numbered rest q → of numbered (x ∷ rest) q) → Step x b between c after
  no_step x b c same_table same_code none skip = record {
    table = subst (λ (t : List Words). GrowsBy b (strings x) t) (sym same_table)
        (subst (λ (ws : List Words). GrowsBy b ws b) (sym none) (nothing_added b));
    around = λ y. y;
    written = λ y. ap (λ (code : List ℕ). code ++ bytes_at (length code) y) same_code;
    is = λ later rest y held. skip (string_of_table (c ++ later)) rest y held;
  }
