-- A row of an item's attribute is among the rows of a description at the positions of the
-- attribute, and nowhere else.
use Rattle.std.proofs.Common.{◌≡◌, refl, sym, ap, ◌∙◌, ℕ, zero, suc, ◌+◌, ◌≤◌, Bool, true, false, List, [], ◌∷◌, map, Some, arith}
use Rattle.std.specs.Prelude.{◌==◌, ◌&&◌, ◌||◌, slice_get}
use Rattle.std.specs.List.{flat_map, list_any}
use Rattle.std.proofs.lemmas.Bool.{false≢true, and_from, and_left, and_right, or_from, ne_eqb, eq-eqb}
use Rattle.std.proofs.lemmas.Option.{none-some, same_Some}
use Rattle.std.proofs.lemmas.List.Folds.{list_any-append}
use Rattle.edd_syntax.specs.declared.numbers.Kind.{Kind}
use Rattle.edd_syntax.specs.declared.numbers.Kind.TheVariants as kind
use Rattle.edd_syntax.specs.declared.numbers.Attr.{Attr}
use Rattle.edd_syntax.specs.declared.numbers.AttrRef.{AttrRef}
use Rattle.edd_syntax.specs.declared.reference.Target.{Target}
use Rattle.edd_syntax.specs.Item.{Attribute, Item}
use Rattle.edd_syntax.specs.Resolution.{kinds}
use Rattle.edd_syntax.specs.Numbers.{kind_number, kind_of, index_of, item_number, attr_number, same_kind, same_attr}
use Rattle.edd_syntax.specs.Rows.{positions, rows_at, item_rows, rows_from, of_kind, rows_of_attr, rows_of_kind, attributes_in_order, rows}
use Rattle.edd_syntax.proofs.EveryAttribute.{every_attr}
use Rattle.edd_instructions.specs.Reading.{is_row_of}
use Rattle.edd_syntax.proofs.KnownByNumber.{same_kinds, same_attrs, numbered_kind, numbered_index}
use Rattle.edd_assembly.proofs.RowsRise.{key}

-- the row is the one of this attribute
abbrev pub same_ref : AttrRef → AttrRef → Bool
same_ref ref r = is_row_of ref.item ref.attr (key r) && r.sub == ref.sub

-- ---- tests on lists

pub any_mapped : {A B : Type 0} (p : B → Bool) (f : A → B) (xs : List A) → list_any p (map f xs)
    ≡ list_any (λ x. p (f x)) xs
any_mapped p f [] = refl
any_mapped p f (x ∷ xs) = ap (λ b. p (f x) || b) (any_mapped p f xs)

none_of : {A : Type 0} (q : A → Bool) (xs : List A) → list_any (λ x. false && q x) xs ≡ false
none_of q [] = refl
none_of q (x ∷ xs) = none_of q xs

any_both : {A : Type 0} (b : Bool) (q : A → Bool) (xs : List A) → list_any (λ x. b && q x) xs
    ≡ (b && list_any q xs)
any_both true q xs = refl
any_both false q xs = none_of q xs

or_itself : (c v : Bool) → (v || (c && v)) ≡ v
or_itself c true = refl
or_itself c false = and_right c false refl

-- only the block of one member passes the test
module _ {A B : Type 0} (p : B → Bool) (f : A → List B) (same : A → Bool) (v : Bool) (here : (x : A)
    → same x ≡ true → list_any p (f x) ≡ v) (elsewhere : (x : A) → same x ≡ false
    → list_any p (f x) ≡ false) where
  one_block : (xs : List A) → list_any p (flat_map f xs) ≡ (list_any same xs && v)
  one_block [] = refl
  one_block (x ∷ xs) = list_any-append p (f x) (flat_map f xs) ∙ pick (same x) refl (one_block xs)
    where
      pick : (b : Bool) → same x ≡ b → list_any p (flat_map f xs) ≡ (list_any same xs && v)
          → (list_any p (f x) || list_any p (flat_map f xs)) ≡ ((b || list_any same xs) && v)
      pick true is rest = ap (λ c. c || list_any p (flat_map f xs)) (here x is)
          ∙ ap (λ c. v || c) rest ∙ or_itself (list_any same xs) v
      pick false is rest = ap (λ c. c || list_any p (flat_map f xs)) (elsewhere x is) ∙ rest

-- ---- the rows of an item

module _ (ref : AttrRef) where
  -- the rows of the m-th item of a kind are those of the item and attribute
  abbrev is_here : Kind → Attr → ℕ → Bool
  is_here k a m = kind_number (kind_of (item_number k m)) == kind_number (kind_of ref.item)
      && (attr_number a == attr_number ref.attr && index_of (item_number k m) == index_of ref.item)

  item_any : (k : Kind) (a : Attr) (m : ℕ) (ws : List (Attribute Target))
      → list_any (same_ref ref) (item_rows (item_number k m) a ws)
      ≡ (is_here k a m && list_any (λ s. s == ref.sub) (positions a ws))
  unfolding rows_at
  item_any k a m ws = any_mapped (same_ref ref)
      (λ s. record { item = item_number k m; attr = a; sub = s }) (positions a ws)
      ∙ any_both (is_here k a m) (λ s. s == ref.sub) (positions a ws)

  other_item : (k : Kind) (a : Attr) (m : ℕ) → (index_of ref.item ≡ m → ⊥) → is_here k a m ≡ false
  other_item k a m other =
      and_right (kind_number (kind_of (item_number k m)) == kind_number (kind_of ref.item))
      (attr_number a == attr_number ref.attr && index_of (item_number k m) == index_of ref.item)
      (and_right (attr_number a == attr_number ref.attr)
      (index_of (item_number k m) == index_of ref.item)
      (ne_eqb (index_of (item_number k m)) (index_of ref.item)
      (λ e. other (sym e ∙ numbered_index k m))))

  -- items that are all others have none of the rows
  none_from : (k : Kind) (a : Attr) (n : ℕ) → ((m : ℕ) → n ≤ m → is_here k a m ≡ false)
      → (xs : List (Item Target)) → list_any (same_ref ref) (rows_from k a n xs) ≡ false
  none_from k a n other [] = refl
  none_from k a n other (i ∷ rest) =
      list_any-append (same_ref ref) (item_rows (item_number k n) a i.attributes)
      (rows_from k a (suc n) rest)
      ∙ or_from (list_any (same_ref ref) (item_rows (item_number k n) a i.attributes))
      (list_any (same_ref ref) (rows_from k a (suc n) rest))
      (item_any k a n i.attributes
      ∙ and_left (is_here k a n) (list_any (λ s. s == ref.sub) (positions a i.attributes))
      (other n (omega arith)))
      (none_from k a (suc n) (λ m h. other m (omega (arith, h))) rest)

  -- the item of the number has them
  here_from : (k : Kind) (a : Attr) (n m : ℕ) → kind_of ref.item ≡ k → ref.attr ≡ a
      → index_of ref.item ≡ n + m → (xs : List (Item Target)) (i : Item Target)
      → slice_get xs m ≡ Some i
      → list_any (same_ref ref) (rows_from k a n xs) ≡ list_any (λ s. s == ref.sub)
      (positions a i.attributes)
  here_from k a n m of as' at [] i h = absurd (none-some i h)
  here_from k a n zero of as' at (x ∷ rest) i h =
      list_any-append (same_ref ref) (item_rows (item_number k n) a x.attributes)
      (rows_from k a (suc n) rest)
      ∙ ap (λ b. list_any (same_ref ref) (item_rows (item_number k n) a x.attributes) || b)
      (none_from k a (suc n) (λ m above. other_item k a m (λ e. omega (arith, e, at, above)))
      rest)
      ∙ or_nothing (list_any (same_ref ref) (item_rows (item_number k n) a x.attributes))
      ∙ item_any k a n x.attributes
      ∙ ap (λ b. b && list_any (λ s. s == ref.sub) (positions a x.attributes)) it
      ∙ ap (λ (y : Item Target). list_any (λ s. s == ref.sub) (positions a y.attributes))
      (same_Some x i h)
    where
      or_nothing : (b : Bool) → (b || false) ≡ b
      or_nothing true = refl
      or_nothing false = refl

      it : is_here k a n ≡ true
      it =
          and_from _ _ (eq-eqb (kind_number (kind_of (item_number k n)))
          (kind_number (kind_of ref.item)) (ap kind_number (numbered_kind k n ∙ sym of)))
          (and_from _ _ (eq-eqb (attr_number a) (attr_number ref.attr) (ap attr_number (sym as')))
          (eq-eqb (index_of (item_number k n)) (index_of ref.item)
          (numbered_index k n ∙ omega (arith, at))))
  here_from k a n (suc m) of as' at (x ∷ rest) i h =
      list_any-append (same_ref ref) (item_rows (item_number k n) a x.attributes)
      (rows_from k a (suc n) rest)
      ∙ ap (λ b. b || list_any (same_ref ref) (rows_from k a (suc n) rest))
      (item_any k a n x.attributes
      ∙ and_left (is_here k a n) (list_any (λ s. s == ref.sub) (positions a x.attributes))
      (other_item k a n (λ e. omega (arith, e, at))))
      ∙ here_from k a (suc n) m of as' (omega (arith, at)) rest i h

-- ---- all rows

every_kind : (k : Kind) → list_any (same_kind k) kinds ≡ true
every_kind kind.Variable = refl
every_kind _ = refl

every_attribute : (a : Attr) → list_any (same_attr a) attributes_in_order ≡ true
every_attribute = every_attr (λ a. list_any (same_attr a) attributes_in_order) (λ a. true) refl

module _ (items : List (Item Target)) (ref : AttrRef) where
  abbrev any_row : List AttrRef → Bool
  any_row rs = list_any (same_ref ref) rs

  other_kind : (k : Kind) → same_kind (kind_of ref.item) k ≡ false → (a : Attr) (m : ℕ)
      → is_here ref k a m ≡ false
  other_kind k other a m =
      and_left (kind_number (kind_of (item_number k m)) == kind_number (kind_of ref.item))
      (attr_number a == attr_number ref.attr && index_of (item_number k m) == index_of ref.item)
      (ne_eqb (kind_number (kind_of (item_number k m))) (kind_number (kind_of ref.item))
      (λ e. false≢true (sym other ∙ eq-eqb (kind_number (kind_of ref.item)) (kind_number k)
      (sym e ∙ ap kind_number (numbered_kind k m)))))

  other_attribute : (k : Kind) (a : Attr) → same_attr ref.attr a ≡ false → (m : ℕ)
      → is_here ref k a m ≡ false
  other_attribute k a other m =
      and_right (kind_number (kind_of (item_number k m)) == kind_number (kind_of ref.item))
      (attr_number a == attr_number ref.attr && index_of (item_number k m) == index_of ref.item)
      (and_left (attr_number a == attr_number ref.attr)
      (index_of (item_number k m) == index_of ref.item)
      (ne_eqb (attr_number a) (attr_number ref.attr)
      (λ e. false≢true (sym other ∙ eq-eqb (attr_number ref.attr) (attr_number a) (sym e)))))

  none_of_kind : (k : Kind) → same_kind (kind_of ref.item) k ≡ false
      → any_row (rows_of_kind items k) ≡ false
  unfolding rows_of_kind
  none_of_kind k other =
      one_block (same_ref ref) (rows_of_attr items k) (λ a. false) false
      (λ a is. absurd (false≢true is))
      (λ a is. none_from ref k a 0 (λ m h. other_kind k other a m) (of_kind k items))
      attributes_in_order
      ∙ and_right (list_any (λ a. false) attributes_in_order) false refl

  module _ (i : Item Target) (there : slice_get (of_kind (kind_of ref.item) items)
      (index_of ref.item) ≡ Some i) where
    abbrev stands : Bool
    stands = list_any (λ s. s == ref.sub) (positions ref.attr i.attributes)

    of_attribute : (a : Attr) → same_attr ref.attr a ≡ true
        → any_row (rows_of_attr items (kind_of ref.item) a) ≡ stands
    of_attribute a is =
        here_from ref (kind_of ref.item) a 0 (index_of ref.item) refl (same_attrs ref.attr a is)
        (omega arith) (of_kind (kind_of ref.item) items) i there
        ∙ ap (λ b. list_any (λ s. s == ref.sub) (positions b i.attributes))
        (sym (same_attrs ref.attr a is))

    of_its_kind : any_row (rows_of_kind items (kind_of ref.item)) ≡ stands
    unfolding rows_of_kind
    of_its_kind =
        one_block (same_ref ref) (rows_of_attr items (kind_of ref.item)) (same_attr ref.attr) stands
        of_attribute
        (λ a other. none_from ref (kind_of ref.item) a 0
        (λ m h. other_attribute (kind_of ref.item) a other m)
        (of_kind (kind_of ref.item) items)) attributes_in_order
        ∙ ap (λ b. b && stands) (every_attribute ref.attr)

    pub among_rows : list_any (same_ref ref) (rows items) ≡ list_any (λ s. s == ref.sub)
        (positions ref.attr i.attributes)
    among_rows =
        one_block (same_ref ref) (rows_of_kind items) (same_kind (kind_of ref.item)) stands
        (λ k is. ap (λ j. any_row (rows_of_kind items j)) (sym (same_kinds (kind_of ref.item) k is))
        ∙ of_its_kind) none_of_kind kinds
        ∙ ap (λ b. b && stands) (every_kind (kind_of ref.item))
