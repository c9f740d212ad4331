-- Maps of names, and the numbers of items.
use Rattle.std.proofs.Common.{◌≡◌, refl, sym, ap, ◌∙◌, ℕ, zero, suc, ◌+◌, ◌<◌, ◌≤◌, List, [], ◌∷◌, ◌++◌, length, get_or, take, map, Option, Some, None, add-one, append_assoc, subst, arith}
use Rattle.std.specs.Prelude.{Bool, true, false, cond, if◌then◌else◌, is_some, option_map, find, nat_lt}
use Rattle.std.specs.Option.{option_or}
use Rattle.std.specs.List.{list_any}
use Rattle.std.specs.HashMap.{HashMap, UpdatesBy}
use Rattle.std.specs.Str.{bytes_eq}
use denote.Ref.{Bor}
use Rattle.std.proofs.Math.Seq.{take-suc}
use Rattle.std.proofs.lemmas.Bool.{false≢true}
use Rattle.std.proofs.lemmas.Bool.Decides.{nat_tests}
use Rattle.std.proofs.lemmas.Grind.{common_steps}
use Rattle.std.proofs.lemmas.List.{append-nil}
use Rattle.std.proofs.lemmas.List.Folds.{find-append}
use Rattle.std.proofs.lemmas.Map.Text.{hash_map_updates_str}
use Rattle.std.proofs.lemmas.Slice.Eq.{bytes_eq-Decides}
use Rattle.edd_syntax.specs.declared.numbers.Kind.{Kind}
use Rattle.edd_syntax.specs.declared.numbers.Kind.TheVariants as kind
use Rattle.edd_syntax.specs.Text.{Name}
use Rattle.edd_syntax.specs.Item.{Item, kind_of_item}
use Rattle.edd_syntax.specs.NameRules.{item_limit}
use Rattle.edd_syntax.specs.Numbers.{item_number, same_kind}
use Rattle.edd_syntax.specs.Resolution.{count_of, kinds, look_up, numbered_names}
use Rattle.edd_name_meanings.specs.Numbering.{at, if_named}
use Rattle.edd_name_rules.proofs.Counting.{one_item, items_split}
use Rattle.edd_name_rules.proofs.Repeating.{map_append}

-- ---- a value that is put at a name unless there is one

new_one : {X : Type 0} (o : Option X) (b : Bool) (v : X) → (b ≡ true → is_some o ≡ false)
    → cond b (Some v) o ≡ option_or o (if b then Some v else None)
new_one (Some x) true v h = absurd (false≢true (sym (h refl)))
new_one None true v h = refl
new_one (Some x) false v h = refl
new_one None false v h = refl

pub absent : {X S : Type 0} (m n : HashMap (Bor (List ℕ)) X S) (name : Name) (v : X) (q : Name)
    → is_some (at name m) ≡ false
    → UpdatesBy (λ x y. bytes_eq x.now y.now) (λ k. bytes_eq name k.now) m n (Some v)
    → at q n ≡ option_or (at q m) (if_named name q v)
absent m n name v q h updates =
    hash_map_updates_str name m n (Some v) updates q ∙ new_one (at q m) (bytes_eq name q) v
    (λ e. subst (λ n. is_some (at n m) ≡ false) ((bytes_eq-Decides name q).0 e) h)

-- a value that is put back
back : {X : Type 0} (o : Option X) (b : Bool) (v w : X) → (b ≡ true → o ≡ Some w)
    → cond b (Some w) (cond b (Some v) o) ≡ option_or o (if b then Some v else None)
back o true v w h = ap (λ p. option_or p (Some v)) (sym (h refl))
back (Some x) false v w h = refl
back None false v w h = refl

pub put_back : {X S : Type 0} (m n o : HashMap (Bor (List ℕ)) X S) (name : Name) (v w : X) (q : Name)
    → at name m ≡ Some w
    → UpdatesBy (λ x y. bytes_eq x.now y.now) (λ k. bytes_eq name k.now) m n (Some v)
    → UpdatesBy (λ x y. bytes_eq x.now y.now) (λ k. bytes_eq name k.now) n o (Some w)
    → at q o ≡ option_or (at q m) (if_named name q v)
put_back m n o name v w q h first second =
    hash_map_updates_str name n o (Some w) second q
    ∙ ap (cond (bytes_eq name q) (Some w)) (hash_map_updates_str name m n (Some v) first q)
    ∙ back (at q m) (bytes_eq name q) v w
    (λ e. subst (λ n. at n m ≡ Some w) ((bytes_eq-Decides name q).0 e) h)

-- ---- the names and numbers of items, one after another

pub mapped_or : {X Y : Type 0} (f : X → Y) (a b : Option X) → option_map f (option_or a b)
    ≡ option_or (option_map f a) (option_map f b)
mapped_or f (Some x) b = refl
mapped_or f None b = refl

found_one : {X : Type 0} (e : Name × X) (b : Bool)
    → option_map (λ entry. entry.1) (if b then Some e else None) ≡ (if b then Some e.1 else None)
found_one e true = refl
found_one e false = refl

look_up_last : {X : Type 0} (q : Name) (xs : List (Name × X)) (name : Name) (x : X)
    → look_up q (xs ++ (name, x) ∷ []) ≡ option_or (look_up q xs) (if_named name q x)
look_up_last q xs name x =
    ap (option_map (λ entry. entry.1))
    (find-append (λ entry. bytes_eq entry.0 q) xs ((name, x) ∷ []))
    ∙ mapped_or (λ entry. entry.1) (find (λ entry. bytes_eq entry.0 q) xs) _
    ∙ ap (option_or (look_up q xs)) (found_one (name, x) (bytes_eq name q))

module _ {R : Type 0} where
  numbered_last : (before xs : List (Item R)) (x : Item R) → numbered_names before (xs ++ x ∷ [])
      ≡ numbered_names before xs
      ++ (x.name, item_number (kind_of_item x.sort) (count_of (kind_of_item x.sort) (before ++ xs)))
      ∷ []
  numbered_last before [] x =
      ap (λ ys. (x.name, item_number (kind_of_item x.sort) (count_of (kind_of_item x.sort) ys))
      ∷ []) (sym (append-nil before))
  numbered_last before (y ∷ xs) x =
      ap (λ es. (y.name, item_number (kind_of_item y.sort) (count_of (kind_of_item y.sort) before))
      ∷ es)
      (numbered_last (before ++ y ∷ []) xs x
      ∙ ap (λ ys. numbered_names (before ++ y ∷ []) xs
      ++ (x.name, item_number (kind_of_item x.sort) (count_of (kind_of_item x.sort) ys)) ∷ [])
      (append_assoc before (y ∷ []) xs))

  count_last : (k : Kind) (xs : List (Item R)) (x : Item R) → count_of k (xs ++ x ∷ [])
      ≡ count_of k xs + (if same_kind (kind_of_item x.sort) k then 1 else 0)
  count_last k [] x = let e = one_item k x in omega (arith, e)
  count_last k (y ∷ xs) x = let e = items_split k y (xs ++ x ∷ []) in let h =
      count_last k xs x in let f = items_split k y xs in omega (arith, e, h, f)

module _ {X R : Type 0} (view : X → Item R) where
  -- the first i items
  abbrev pub so_far : ℕ → List X → List (Item R)
  so_far i xs = map view (take i xs)

  so_far_more : (i : ℕ) (xs : List X) (x : X) → i < length xs → x ≡ get_or xs i x
      → so_far (i + 1) xs ≡ so_far i xs ++ view x ∷ []
  so_far_more i xs x h is =
      ap (λ n. so_far n xs) (add-one i) ∙ ap (map view) (take-suc xs i x h)
      ∙ map_append view (take i xs) (get_or xs i x ∷ []) ∙ ap (λ y. so_far i xs ++ view y ∷ [])
      (sym is)

  pub numbered_more : (i : ℕ) (xs : List X) (x : X) (q : Name) (n : ℕ) → i < length xs
      → x ≡ get_or xs i x → n ≡ count_of (kind_of_item (view x).sort) (so_far i xs)
      → option_or (look_up q (numbered_names [] (so_far i xs)))
      (if_named (view x).name q (item_number (kind_of_item (view x).sort) n))
      ≡ look_up q (numbered_names [] (so_far (i + 1) xs))
  numbered_more i xs x q n h is counted =
      ap (λ m. option_or (look_up q (numbered_names [] (so_far i xs)))
      (if_named (view x).name q (item_number (kind_of_item (view x).sort) m))) counted
      ∙ sym (look_up_last q (numbered_names [] (so_far i xs)) (view x).name
      (item_number (kind_of_item (view x).sort)
      (count_of (kind_of_item (view x).sort) (so_far i xs))))
      ∙ ap (look_up q) (sym (numbered_last [] (so_far i xs) (view x)))
      ∙ ap (λ ys. look_up q (numbered_names [] ys)) (sym (so_far_more i xs x h is))

  pub counted_more : (k : Kind) (i : ℕ) (xs : List X) (x : X) → i < length xs → x ≡ get_or xs i x
      → count_of k (so_far i xs) + (if same_kind (kind_of_item (view x).sort) k then 1 else 0)
      ≡ count_of k (so_far (i + 1) xs)
  counted_more k i xs x h is = sym (count_last k (so_far i xs) (view x))
      ∙ ap (count_of k) (sym (so_far_more i xs x h is))

  pub fewer : (k : Kind) (i : ℕ) (xs : List X) → count_of k (so_far i xs) ≤ count_of k (map view xs)
  fewer k zero [] = omega arith
  fewer k zero (x ∷ xs) = omega arith
  fewer k (suc i) [] = omega arith
  fewer k (suc i) (x ∷ xs) = let e = items_split k (view x) (map view xs) in let f =
      items_split k (view x) (map view (take i xs)) in let h =
      fewer k i xs in omega (arith, e, f, h)

pub few_of : (n : Kind → ℕ) → list_any (λ k. nat_lt item_limit (n k)) kinds ≡ false → (k : Kind)
    → n k ≤ item_limit
few_of n h kind.Variable = grind (arith, common_steps, nat_tests)
few_of n h _ = grind (arith, common_steps, nat_tests)
