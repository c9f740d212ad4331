-- What a name means exists.
use Rattle.std.proofs.Common.{◌≡◌, refl, sym, ap, subst, ◌∙◌, ℕ, ◌+◌, ◌<◌, Bool, true, false, List, [], ◌∷◌, ◌++◌, length, filter, Option, Some, None, cond, arith, append_assoc, length-append}
use Rattle.std.specs.Prelude.{nat_lt, find, option_map, option_and_then, if◌then◌else◌}
use Rattle.std.specs.Str.{bytes_eq}
use Rattle.std.specs.List.{list_all}
use Rattle.std.proofs.lemmas.List.Elements.{filter-append}
use Rattle.std.proofs.lemmas.Option.{same_Some}
use Rattle.std.proofs.lemmas.Bool.{lt-ltb, and_parts}
use Rattle.edd_syntax.specs.declared.numbers.Kind.{Kind}
use Rattle.edd_syntax.specs.declared.numbers.Kind.TheVariants as kind
use Rattle.edd_syntax.specs.declared.numbers.ItemNo.{ItemNo}
use Rattle.edd_syntax.specs.Reference.{Path}
use Rattle.edd_syntax.specs.declared.reference.Target.TheVariants.{Item}
use Rattle.edd_syntax.specs.declared.reference.Target.{Target}
use Rattle.edd_syntax.specs.Text.{Name}
use Rattle.edd_syntax.specs.Item as item
use Rattle.edd_syntax.specs.Item.{kind_of_item, Description}
use Rattle.edd_syntax.specs.Numbers.{same_kind, item_number, kind_of, index_of}
use Rattle.edd_syntax.specs.Resolution.{count_of, numbered_names, item_named, FoundMember, of_kind, item_of_member, member_at, along, is_among, item_meant, meaning}

-- the item is one of so many of its kind
abbrev pub is_item_of : (Kind → ℕ) → ItemNo → Bool
is_item_of count i = nat_lt (index_of i) (count (kind_of i))

kind_is : (k : Kind) (n : ℕ) → kind_of (item_number k n) ≡ k
kind_is kind.Variable n = refl
kind_is _ n = refl

index_is : (k : Kind) (n : ℕ) → index_of (item_number k n) ≡ n
index_is kind.Variable n = refl
index_is _ n = refl

same_self : (k : Kind) → same_kind k k ≡ true
same_self kind.Variable = refl
same_self _ = refl

counted : (k : Kind) (xs ys : List (item.Item Path)) → count_of k (xs ++ ys) ≡ count_of k xs
    + count_of k ys
counted k xs ys = ap length (filter-append (λ i. same_kind (kind_of_item i.sort) k) xs ys)
    ∙ length-append (filter (λ i. same_kind (kind_of_item i.sort) k) xs)
    (filter (λ i. same_kind (kind_of_item i.sort) k) ys)

counts_itself : (i : item.Item Path) (rest : List (item.Item Path))
    → 0 < count_of (kind_of_item i.sort) (i ∷ rest)
counts_itself i rest = here (same_kind (kind_of_item i.sort) (kind_of_item i.sort))
    (same_self (kind_of_item i.sort))
  where
    here : (b : Bool) → b ≡ true
        → 0 < length (cond b (i ∷ filter
        (λ j. same_kind (kind_of_item j.sort) (kind_of_item i.sort)) rest)
        (filter (λ j. same_kind (kind_of_item j.sort) (kind_of_item i.sort)) rest))
    here true h = omega arith
    here false h = absurd cc

-- each number that a name has is that of an item
numbered_exist : (all before rest : List (item.Item Path)) → before ++ rest ≡ all
    → list_all (λ entry. is_item_of (λ k. count_of k all) entry.1) (numbered_names before rest)
    ≡ true
numbered_exist all before [] h = refl
numbered_exist all before (i ∷ rest) h =
    let k = kind_of_item i.sort in
    let n = count_of k before in
    let below : n < count_of k all =
    omega (arith, counted k before (i ∷ rest), counts_itself i rest, ap (count_of k) h) in
    let here : is_item_of (λ j. count_of j all) (item_number k n) ≡ true =
    ap (λ (m : ℕ). nat_lt m (count_of (kind_of (item_number k n)) all)) (index_is k n)
    ∙ ap (λ (j : Kind). nat_lt n (count_of j all)) (kind_is k n)
    ∙ lt-ltb n (count_of k all) below in
    rw here (numbered_exist all (before ++ i ∷ []) rest (append_assoc before (i ∷ []) rest ∙ h))

-- the test is true of what there is
abbrev pub IfSomeTrue : {A : Type 0} → (A → Bool) → Option A → Type 0
IfSomeTrue {A} p o = (x : A) → o ≡ Some x → p x ≡ true

pub found_has : {A : Type 0} (p test : A → Bool) (xs : List A) → list_all p xs ≡ true
    → IfSomeTrue p (find test xs)
found_has p test [] h x e = absurd cc
found_has p test (y ∷ xs) h x e = here (test y) (and_parts (p y) (list_all p xs) h).0
    (found_has p test xs (and_parts (p y) (list_all p xs) h).1 x) e
  where
    here : (b : Bool) → p y ≡ true → (find test xs ≡ Some x → p x ≡ true)
        → cond b (Some y) (find test xs) ≡ Some x → p x ≡ true
    here true h k e = subst (λ z. p z ≡ true) (same_Some y x e) h
    here false h k e = k e

pub mapped : {A B : Type 0} (f : A → B) (p : A → Bool) (q : B → Bool)
    → ((x : A) → p x ≡ true → q (f x) ≡ true) → (o : Option A) → IfSomeTrue p o
    → IfSomeTrue q (option_map f o)
mapped f p q keeps None h y e = absurd cc
mapped f p q keeps (Some x) h y e = subst (λ z. q z ≡ true) (same_Some (f x) y e)
    (keeps x (h x refl))

module _ (unit : Description Path) where
  abbrev pub exists_in : ItemNo → Bool
  exists_in i = is_item_of (λ k. count_of k unit.items) i

  named_exists : (name : Name) → IfSomeTrue exists_in (item_named unit name)
  named_exists name =
      mapped (λ entry. entry.1) (λ entry. exists_in entry.1) exists_in (λ x h. h)
      (find (λ entry. bytes_eq entry.0 name) (numbered_names [] unit.items))
      (found_has (λ entry. exists_in entry.1) (λ entry. bytes_eq entry.0 name)
      (numbered_names [] unit.items) (numbered_exist unit.items [] unit.items refl))

  of_kind_exists : (k : Kind) (i j : ItemNo) → exists_in i ≡ true → of_kind k i ≡ Some j
      → exists_in j ≡ true
  of_kind_exists k i j h e = here (same_kind (kind_of i) k) e
    where
      here : (b : Bool) → cond b (Some i) None ≡ Some j → exists_in j ≡ true
      here true e = subst (λ z. exists_in z ≡ true) (same_Some i j e) h
      here false e = absurd cc

  then_exists : {A : Type 0} (o : Option A) (f : A → Option ItemNo)
      → ((x : A) → o ≡ Some x → IfSomeTrue exists_in (f x))
      → IfSomeTrue exists_in (option_and_then f o)
  then_exists None f h j e = absurd cc
  then_exists (Some x) f h j e = h x refl j e

  member_exists : (found : FoundMember) → IfSomeTrue exists_in (item_of_member unit found)
  member_exists found = then_exists (item_named unit found.0.item.base) (of_kind found.1)
      (λ i e j f. of_kind_exists found.1 i j (named_exists found.0.item.base i e) f)

  along_exists : (i : ItemNo) (members : List Name) → exists_in i ≡ true
      → IfSomeTrue exists_in (along unit i members)
  along_exists i [] h j e = subst (λ z. exists_in z ≡ true) (same_Some i j e) h
  along_exists i (m ∷ rest) h j e =
      here (option_and_then (item_of_member unit) (member_at unit i m))
      (then_exists (member_at unit i m) (item_of_member unit) (λ found f. member_exists found))
      (λ k g. along_exists k rest g) e
    where
      here : (o : Option ItemNo) → IfSomeTrue exists_in o
          → ((k : ItemNo) → exists_in k ≡ true → IfSomeTrue exists_in (along unit k rest))
          → elim o as (λ _. Option ItemNo) [ Some k ↦ along unit k rest | None ↦ None ] ≡ Some j
          → exists_in j ≡ true
      here None h more e = absurd cc
      here (Some k) h more e = more k (h k refl) j e

  -- what a reference means, where it is no local, is an item of these kinds
  pub item_meant_exists : (kinds : List Kind) (path : Path) (t : Target)
      → item_meant unit kinds path ≡ Some t → (i : ItemNo) × (t ≡ Item i) × (exists_in i ≡ true)
      × (is_among kinds i ≡ true)
  item_meant_exists kinds path t e =
      here (option_and_then (λ i. along unit i path.members) (item_named unit path.base))
      (then_exists (item_named unit path.base) (λ i. along unit i path.members)
      (λ i f. along_exists i path.members (named_exists path.base i f))) e
    where
      there : (i : ItemNo) (b : Bool) → is_among kinds i ≡ b → exists_in i ≡ true
          → cond b (Some (Item i)) None ≡ Some t → (j : ItemNo) × (t ≡ Item j)
          × (exists_in j ≡ true) × (is_among kinds j ≡ true)
      there i true is h e = (i, sym (same_Some (Item i) t e), h, is)
      there i false is h e = absurd cc

      here : (o : Option ItemNo) → IfSomeTrue exists_in o
          → elim o as (λ _. Option Target) [
            | Some i ↦ if is_among kinds i then Some (Item i) else
                None
            | None ↦ None
          ] ≡ Some t
          → (j : ItemNo) × (t ≡ Item j) × (exists_in j ≡ true) × (is_among kinds j ≡ true)
      here None h e = absurd cc
      here (Some i) h e = there i (is_among kinds i) refl (h i refl) e

  -- so it is in an attribute
  pub meant_exists : (kinds : List Kind) (path : Path) (t : Target) → meaning unit [] kinds path
      ≡ Some t → (i : ItemNo) × (t ≡ Item i) × (exists_in i ≡ true) × (is_among kinds i ≡ true)
  meant_exists kinds path t e = item_meant_exists kinds path t e
