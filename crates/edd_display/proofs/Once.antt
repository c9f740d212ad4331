-- No entry of an image stands twice: they differ in kind, item, attribute or position.
use Rattle.std.proofs.Common.{◌≡◌, ◌≢◌, ℕ, zero, suc, ◌+◌, ◌≤◌, Bool, true, false, List, [], ◌∷◌, ◌++◌, map, refl, sym, ap, arith, inl, inr, if◌then◌else◌, length, take}
use Rattle.std.specs.Prelude.{⊤, ◌||◌}
use Rattle.std.proofs.lemmas.Bool.{cases_Bool, eqb-true}
use Rattle.std.specs.List.{AllByRecursion, flat_map, prefix_len, range_with_len}
use Rattle.edd_syntax.specs.declared.numbers.Kind.{Kind}
use Rattle.edd_syntax.specs.declared.numbers.Kind.TheVariants.{Variable}
use Rattle.edd_syntax.specs.declared.numbers.ItemNo.{ItemNo}
use Rattle.edd_syntax.specs.declared.numbers.Attr.{Attr}
use Rattle.edd_syntax.specs.declared.numbers.Attr.TheVariants as attr
use Rattle.edd_syntax.specs.Numbers.{attr_number, has_attr, index_of, item_number, kind_number, kind_of, same_attr}
use Rattle.edd_syntax.specs.Attributes.{is_of_transaction}
use Rattle.edd_image.specs.Contents.{Contents}
use Rattle.edd_instructions.specs.Agreement.{count_in}
use Rattle.edd_display.specs.Shown.{AreOnce, Entry, Identification, Head, Row, attribute_entries, attributes, entries_of, has_transaction, item_entries, kind_entries, kinds, positions_of, row_at, transaction_entries}

-- ---- numbers that rise

-- each number is n or more, and below those after it
abbrev Rise : (n : ℕ) → List ℕ → Type 0
Rise n [] = ⊤
Rise n (x ∷ xs) = (n ≤ x) × Rise (suc x) xs

lower : (n m : ℕ) (xs : List ℕ) → n ≤ m → Rise m xs → Rise n xs
lower n m [] le h = tt
lower n m (x ∷ xs) le h = (omega (arith, le, h.0), h.1)

range_rises : (n a k : ℕ) → n ≤ a → Rise n (range_with_len a k)
range_rises n a zero le = tt
range_rises n a (suc k) le = (le, range_rises (suc a) (a + 1) k (omega arith))

take_rises : (n k : ℕ) (xs : List ℕ) → Rise n xs → Rise n (take k xs)
take_rises n zero xs h = tt
take_rises n (suc k) [] h = tt
take_rises n (suc k) (x ∷ xs) h = (h.0, take_rises (suc x) k xs h.1)

same_rises : (n : ℕ) (xs : List ℕ) → Rise n xs → Rise n (map (λ x. x) xs)
same_rises n [] h = tt
same_rises n (x ∷ xs) h = (h.0, same_rises (suc x) xs h.1)

-- ---- lists of entries

all_append : (P : Entry → Type 0) (xs ys : List Entry) → AllByRecursion P xs
    → AllByRecursion P ys → AllByRecursion P (xs ++ ys)
all_append P [] ys p q = q
all_append P (x ∷ xs) ys p q = (p.0, all_append P xs ys p.1 q)

all_of_all : {X : Type 0} (P : Entry → Type 0) (f : X → List Entry)
    → ((x : X) → AllByRecursion P (f x)) → (xs : List X) → AllByRecursion P (flat_map f xs)
all_of_all P f all [] = tt
all_of_all P f all (x ∷ xs) = all_append P (f x) (flat_map f xs) (all x) (all_of_all P f all xs)

module _ (number : Entry → ℕ) where
  -- each has this number
  abbrev Have : ℕ → List Entry → Type 0
  Have n es = AllByRecursion (λ e. number e ≡ n) es

  -- each has a number of n or more
  abbrev Above : ℕ → List Entry → Type 0
  Above n es = AllByRecursion (λ e. n ≤ number e) es

  above_have : (n m : ℕ) (xs : List Entry) → n ≤ m → Have m xs → Above n xs
  above_have n m [] le h = tt
  above_have n m (x ∷ xs) le h = (omega (arith, le, h.0), above_have n m xs le h.1)

  above_all : {X : Type 0} (key : X → ℕ) (f : X → List Entry) → ((x : X) → Have (key x) (f x))
      → (n : ℕ) (xs : List X) → Rise n (map key xs) → Above n (flat_map f xs)
  above_all key f have n [] h = tt
  above_all key f have n (x ∷ xs) h =
      all_append (λ e. n ≤ number e) (f x) (flat_map f xs)
      (above_have n (key x) (f x) h.0 (have x))
      (above_all key f have n xs
      (lower n (suc (key x)) (map key xs) (omega (arith, h.0)) h.1))

  differ : (e : Entry) (n : ℕ) (ys : List Entry) → number e ≡ n → Above (suc n) ys
      → AllByRecursion (λ later. e ≢ later) ys
  differ e n [] is h = tt
  differ e n (y ∷ ys) is h =
      (λ same. absurd (omega (arith, is, h.0, ap number same)), differ e n ys is h.1)

  once_append : (n : ℕ) (xs ys : List Entry) → Have n xs → Above (suc n) ys → AreOnce xs
      → AreOnce ys → AreOnce (xs ++ ys)
  once_append n [] ys have above p q = q
  once_append n (x ∷ xs) ys have above p q = (
    all_append (λ later. x ≢ later) xs ys p.0 (differ x n ys have.0 above),
    once_append n xs ys have.1 above p.1 q,
  )

  -- entries for things whose numbers rise, which are those of the entries
  once_all : {X : Type 0} (key : X → ℕ) (f : X → List Entry) → ((x : X) → Have (key x) (f x))
      → ((x : X) → AreOnce (f x)) → (n : ℕ) (xs : List X) → Rise n (map key xs)
      → AreOnce (flat_map f xs)
  once_all key f have once n [] h = tt
  once_all key f have once n (x ∷ xs) h =
      once_append (key x) (f x) (flat_map f xs) (have x)
      (above_all key f have (suc (key x)) xs h.1) (once x)
      (once_all key f have once (suc (key x)) xs h.1)

-- ---- the numbers of an entry

-- the kind, from 1 on; the identification is before all kinds
abbrev number_of_kind : Entry → ℕ
number_of_kind Identification = 0
number_of_kind (Head item) = kind_number (kind_of item)
number_of_kind (Row ref) = kind_number (kind_of ref.item)

-- the item among those of its kind
abbrev number_of_item : Entry → ℕ
number_of_item Identification = 0
number_of_item (Head item) = index_of item
number_of_item (Row ref) = index_of ref.item

-- the attribute at whose place the entry is, from 1 on; the name of the item is before them
abbrev place_of_attribute : Entry → ℕ
place_of_attribute (Row ref) = if is_of_transaction ref.attr then 15 else attr_number ref.attr
place_of_attribute _ = 0

-- the position of a transaction
abbrev number_of_position : Entry → ℕ
number_of_position (Row ref) = ref.sub
number_of_position _ = 0

-- the attribute itself
abbrev number_of_attribute : Entry → ℕ
number_of_attribute (Row ref) = attr_number ref.attr
number_of_attribute _ = 0

-- ---- transactions

three_once : (item : ItemNo) (sub : ℕ) → AreOnce (transaction_entries item sub)
three_once item sub = (
  (
    λ same. absurd (omega (arith, ap number_of_attribute same)),
    (λ same. absurd (omega (arith, ap number_of_attribute same)), tt),
  ),
  ((λ same. absurd (omega (arith, ap number_of_attribute same)), tt), (tt, tt)),
)

positions_rise : (c : Contents) (item : ItemNo) → Rise 0 (positions_of c item)
unfolding positions_of
positions_rise c item =
    take_rises 0 (prefix_len (has_transaction c item) (range_with_len 0 65536))
    (range_with_len 0 65536) (range_rises 0 0 65536 (omega arith))

transactions_once : (c : Contents) (item : ItemNo)
    → AreOnce (flat_map (transaction_entries item) (positions_of c item))
transactions_once c item =
    once_all number_of_position (λ k. k) (transaction_entries item) (λ k. (refl, (refl, (refl, tt))))
    (three_once item) 0 (positions_of c item)
    (same_rises 0 (positions_of c item) (positions_rise c item))

-- ---- the attributes of an item

-- what is so of each row of the item is so of each entry of its attributes
rows_of_item : (P : Entry → Type 0) (c : Contents) (item : ItemNo)
    → ((a : Attr) (sub : ℕ) → P (Row (row_at item a sub))) → (a : Attr)
    → AllByRecursion P (attribute_entries c item a)
unfolding attribute_entries
rows_of_item P c item all a = elim (cases_Bool (has_attr (kind_of item) a)) [
  | inr no_attribute ↦ rw no_attribute tt
  | inl has ↦ rw has (elim (cases_Bool (same_attr a attr.Transaction)) [
    | inl is ↦ rw is (all_of_all P (transaction_entries item)
        (λ k. (all attr.Transaction k, (all attr.Request k, (all attr.Reply k, tt))))
        (positions_of c item))
    | inr other ↦ rw other (elim (cases_Bool (is_of_transaction a || same_attr a attr.Definition)) [
      | inl none ↦ rw none tt
      | inr one ↦ rw one (all a 0, tt)
    ])
  ])
]

or_first : (x y : Bool) → (x || y) ≡ false → x ≡ false
or_first true y e = absurd cc
or_first false y e = refl

places : (c : Contents) (item : ItemNo) (a : Attr)
    → Have place_of_attribute (attr_number a) (attribute_entries c item a)
unfolding attribute_entries
places c item a = elim (cases_Bool (has_attr (kind_of item) a)) [
  | inr no_attribute ↦ rw no_attribute tt
  | inl has ↦ rw has (elim (cases_Bool (same_attr a attr.Transaction)) [
    | inl is ↦
        let same : 15 ≡ attr_number a = sym (eqb-true (attr_number a) 15 is) in
        rw is (all_of_all (λ e. place_of_attribute e ≡ attr_number a) (transaction_entries item)
        (λ k. (same, (same, (same, tt)))) (positions_of c item))
    | inr other ↦ rw other (elim (cases_Bool (is_of_transaction a || same_attr a attr.Definition)) [
      | inl none ↦ rw none tt
      | inr one ↦
          let alone : is_of_transaction a ≡ false = or_first _ _ one in
          let here : place_of_attribute (Row (row_at item a 0)) ≡ attr_number a = rw alone refl in
          rw one (here, tt)
    ])
  ])
]

attribute_once : (c : Contents) (item : ItemNo) (a : Attr) → AreOnce (attribute_entries c item a)
unfolding attribute_entries
attribute_once c item a = elim (cases_Bool (has_attr (kind_of item) a)) [
  | inr no_attribute ↦ rw no_attribute tt
  | inl has ↦ rw has (elim (cases_Bool (same_attr a attr.Transaction)) [
    | inl is ↦ rw is (transactions_once c item)
    | inr other ↦ rw other (elim (cases_Bool (is_of_transaction a || same_attr a attr.Definition)) [
      | inl none ↦ rw none tt
      | inr one ↦ rw one (tt, tt)
    ])
  ])
]

attributes_rise : (n : ℕ) → n ≤ 1 → Rise n (map attr_number attributes)
attributes_rise n le = range_rises n 1 (length attributes) le

-- ---- items and kinds

item_once : (c : Contents) (item : ItemNo) → AreOnce (item_entries c item)
unfolding item_entries
item_once c item = (
  differ place_of_attribute (Head item) 0 (flat_map (attribute_entries c item) attributes) refl
      (above_all place_of_attribute attr_number (attribute_entries c item) (places c item) 1 attributes
      (attributes_rise 1 (omega arith))),
  once_all place_of_attribute attr_number (attribute_entries c item) (places c item)
      (attribute_once c item) 0 attributes (attributes_rise 0 (omega arith)),
)

-- what is so of the name and of each row of an item is so of each of its entries
entries_of_item : (P : Entry → Type 0) (c : Contents) (item : ItemNo) → P (Head item)
    → ((a : Attr) (sub : ℕ) → P (Row (row_at item a sub)))
    → AllByRecursion P (item_entries c item)
unfolding item_entries
entries_of_item P c item head all =
    (head, all_of_all P (attribute_entries c item) (rows_of_item P c item all) attributes)

same_index : (k : Kind) (n : ℕ) → index_of (item_number k n) ≡ n
same_index Variable n = refl
same_index _ n = refl

same_kind : (k : Kind) (n : ℕ) → kind_number (kind_of (item_number k n)) ≡ kind_number k
same_kind Variable n = refl
same_kind _ n = refl

kind_once : (c : Contents) (k : Kind) → AreOnce (kind_entries c k)
unfolding kind_entries
kind_once c k =
    once_all number_of_item (λ n. n) (λ n. item_entries c (item_number k n))
    (λ n. entries_of_item (λ e. number_of_item e ≡ n) c (item_number k n) (same_index k n)
    (λ a sub. same_index k n))
    (λ n. item_once c (item_number k n)) 0 (range_with_len 0 (count_in c.counts k))
    (same_rises 0 (range_with_len 0 (count_in c.counts k))
    (range_rises 0 0 (count_in c.counts k) (omega arith)))

of_kind : (c : Contents) (k : Kind) → Have number_of_kind (kind_number k) (kind_entries c k)
unfolding kind_entries
of_kind c k =
    all_of_all (λ e. number_of_kind e ≡ kind_number k) (λ n. item_entries c (item_number k n))
    (λ n. entries_of_item (λ e. number_of_kind e ≡ kind_number k) c (item_number k n) (same_kind k n)
    (λ a sub. same_kind k n))
    (range_with_len 0 (count_in c.counts k))

kinds_rise : (n : ℕ) → n ≤ 1 → Rise n (map kind_number kinds)
kinds_rise n le = range_rises n 1 6 le

pub entries_once : (c : Contents) → AreOnce (entries_of c)
unfolding entries_of
entries_once c = (
  differ number_of_kind Identification 0 (flat_map (kind_entries c) kinds) refl
      (above_all number_of_kind kind_number (kind_entries c) (of_kind c) 1 kinds
      (kinds_rise 1 (omega arith))),
  once_all number_of_kind kind_number (kind_entries c) (of_kind c) (kind_once c) 0 kinds
      (kinds_rise 0 (omega arith)),
)
