-- The rows of a description rise.
use Rattle.std.proofs.Common.{◌≡◌, refl, sym, ap, ◌∙◌, subst, ℕ, suc, ◌<◌, ◌≤◌, Bool, true, false, List, [], ◌∷◌, ◌++◌, map, arith}
use Rattle.std.specs.Prelude.{◌==◌, if◌then◌else◌}
use Rattle.std.specs.List.{AllByRecursion, flat_map}
use Rattle.std.proofs.lemmas.List.{map-append}
use Rattle.std.proofs.Math.Logic.{◌⊎◌, inl, inr, ⊎_elim}
use Rattle.std.proofs.lemmas.Bool.{false≢true}
use Rattle.edd_syntax.specs.declared.numbers.Kind.{Kind}
use Rattle.edd_syntax.specs.declared.numbers.Kind.TheVariants as kind
use Rattle.edd_syntax.specs.declared.numbers.Attr.{Attr}
use Rattle.edd_syntax.specs.declared.numbers.Attr.TheVariants as attr
use Rattle.edd_syntax.specs.declared.numbers.ItemNo.{ItemNo}
use Rattle.edd_syntax.specs.declared.numbers.AttrRef.{AttrRef}
use Rattle.edd_syntax.specs.declared.reference.Target.{Target}
use Rattle.edd_syntax.specs.Item as item
use Rattle.edd_syntax.specs.Item.{Attribute, Item}
use Rattle.edd_syntax.specs.Resolution.{kinds}
use Rattle.edd_syntax.specs.Numbers.{kind_number, kind_of, index_of, item_number, attr_number, same_attr}
use Rattle.edd_syntax.specs.Attributes.{is_of_transaction}
use Rattle.edd_syntax.specs.Rows.{is_written, transaction_positions, positions, rows_at, item_rows, rows_from, of_kind, rows_of_attr, rows_of_kind, attributes_in_order, rows}
use Rattle.edd_image.specs.Contents.{AttributeFields}
use Rattle.edd_instructions.specs.Validity.{rises, rise}
use Rattle.edd_assembly.proofs.BlocksRise.{blocks_rise, blocks_keep}
use Rattle.edd_assembly.proofs.Rising.{rise_append, all_append, all_map, all_before, by_kind, by_attribute, by_item, by_position}

-- the fields of a row that put it in order
abbrev pub key : AttrRef → AttributeFields
key r = record {
  kind = kind_number (kind_of r.item);
  attribute = attr_number r.attr;
  item = index_of r.item;
  sub = r.sub;
  padding = 0;
  span = record { start = 0; size = 0 };
}

kind_back : (k : Kind) (n : ℕ) → kind_number (kind_of (item_number k n)) ≡ kind_number k
kind_back kind.Variable n = refl
kind_back _ n = refl

index_back : (k : Kind) (n : ℕ) → index_of (item_number k n) ≡ n
index_back kind.Variable n = refl
index_back _ n = refl

not_body : (a : Attr) → is_of_transaction a ≡ true → same_attr a attr.Definition ≡ false
not_body attr.Transaction h = refl
not_body attr.Request h = refl
not_body attr.Reply h = refl
not_body a h = absurd (false≢true h)

-- for a method's body `slots` says what is in the place of a position
module _ (slots : AttrRef → ℕ) where
  abbrev pub with_slots : AttrRef → AttrRef
  with_slots r = if same_attr r.attr attr.Definition then record r { sub = slots r } else r

  abbrev pub keys : List AttrRef → List AttributeFields
  keys rs = map (λ r. key (with_slots r)) rs

  -- ---- the rows of one item

  abbrev of_item : (k : Kind) (a : Attr) (n : ℕ) → AttributeFields → Type 0
  of_item k a n f = (f.kind ≡ kind_number k) × (f.attribute ≡ attr_number a) × (f.item ≡ n)

  one_key : (b : Bool) (k : Kind) (a : Attr) (n : ℕ) (r s : AttrRef) → r.item ≡ item_number k n
      → s.item ≡ item_number k n → r.attr ≡ a → s.attr ≡ a
      → of_item k a n (key (if b then r else s))
  one_key true k a n r s i j at also = (
    ap (λ x. kind_number (kind_of x)) i ∙ kind_back k n,
    ap attr_number at,
    ap index_of i
        ∙ index_back k n,
  )
  one_key false k a n r s i j at also = (
    ap (λ x. kind_number (kind_of x)) j ∙ kind_back k n,
    ap attr_number also,
    ap index_of j
        ∙ index_back k n,
  )

  pub keys_of_item : (k : Kind) (a : Attr) (n : ℕ) (subs : List ℕ)
      → AllByRecursion (of_item k a n) (keys (rows_at (item_number k n) a subs))
  unfolding rows_at
  keys_of_item k a n [] = record {}
  keys_of_item k a n (s ∷ subs) = (
    one_key (same_attr a attr.Definition) k a n
        (record {
          item = item_number k n;
          attr = a;
          sub = slots (record { item = item_number k n; attr = a; sub = s });
        })
        (record { item = item_number k n; attr = a; sub = s }) refl refl refl refl,
    keys_of_item k a n subs,
  )

  -- a position is not changed outside methods' bodies
  same_sub : (i : ItemNo) (a : Attr) (s : ℕ) → same_attr a attr.Definition ≡ false
      → (key (with_slots (record { item = i; attr = a; sub = s }))).sub ≡ s
  same_sub i a s no_body =
      ap (λ b. (key (if b then
      (record { item = i; attr = a; sub = slots (record { item = i; attr = a; sub = s }) }) else
      (record { item = i; attr = a; sub = s }))).sub) no_body

  abbrev at_least : (k : Kind) (a : Attr) (n m : ℕ) → AttributeFields → Type 0
  at_least k a n m f = (f.kind ≡ kind_number k) × (f.attribute ≡ attr_number a) × (f.item ≡ n)
      × (m ≤ f.sub)

  keys_at_least : (k : Kind) (a : Attr) (n m : ℕ) → same_attr a attr.Definition ≡ false
      → (subs : List ℕ) → AllByRecursion (λ s. m ≤ s) subs
      → AllByRecursion (at_least k a n m) (keys (rows_at (item_number k n) a subs))
  unfolding rows_at
  keys_at_least k a n m no_body [] h = record {}
  keys_at_least k a n m no_body (s ∷ subs) h =
      let here = (keys_of_item k a n (s ∷ subs)).0 in (
        (here.0, here.1, here.2, omega (arith, h.0, same_sub (item_number k n) a s no_body)),
        keys_at_least k a n m no_body subs h.1,
      )

  -- ---- the positions of transactions ascend

  position_step : (next : ℕ) (x : Attribute Target) (rest : List (Attribute Target))
      → (transaction_positions next (x ∷ rest) ≡ next ∷ transaction_positions (suc next) rest)
      ⊎ (transaction_positions next (x ∷ rest) ≡ transaction_positions next rest)
  position_step next (item.Transaction number parts) rest = inl refl
  position_step next _ rest = inr refl

  abbrev FromOn : ℕ → List ℕ → Type 0
  FromOn m subs = AllByRecursion (λ s. m ≤ s) subs

  from_on : (m next : ℕ) → m ≤ next → (attributes : List (Attribute Target))
      → FromOn m (transaction_positions next attributes)
  from_on m next h [] = record {}
  from_on m next h (x ∷ rest) =
      ⊎_elim (λ is. subst (FromOn m) (sym is) (h, from_on m (suc next) (omega arith) rest))
      (λ is. subst (FromOn m) (sym is) (from_on m next h rest)) (position_step next x rest)

  module _ (k : Kind) (a : Attr) (n : ℕ) (no_body : same_attr a attr.Definition ≡ false)
      (not_21 : (attr_number a == 21) ≡ false) where
    abbrev block : List ℕ → List AttributeFields
    block subs = keys (rows_at (item_number k n) a subs)

    first : (t : ℕ) → AllByRecursion (λ f. (f.kind ≡ kind_number k) × (f.attribute ≡ attr_number a)
        × (f.item ≡ n) × (f.sub ≡ t)) (block (t ∷ []))
    unfolding rows_at
    first t = let here = (keys_of_item k a n (t ∷ [])).0
        in ((here.0, here.1, here.2, same_sub (item_number k n) a t no_body), record {})

    one_before : (s : ℕ) (subs : List ℕ) → FromOn (suc s) subs
        → AllByRecursion (λ x. AllByRecursion (λ y. rises x y ≡ true) (block subs)) (block (s ∷ []))
    one_before s subs h =
        all_before (λ f. (f.kind ≡ kind_number k) × (f.attribute ≡ attr_number a) × (f.item ≡ n)
        × (f.sub ≡ s)) (at_least k a n (suc s))
        (λ x y p q. by_position x y (p.0 ∙ sym q.0) (p.1 ∙ sym q.1) (p.2 ∙ sym q.2)
        (omega (arith, p.3, q.3)) (ap (λ m. m == 21) p.1 ∙ not_21))
        (block (s ∷ [])) (block subs) (first s) (keys_at_least k a n (suc s) no_body subs h)

    joined : (s : ℕ) (subs : List ℕ) → block (s ∷ subs) ≡ block (s ∷ []) ++ block subs
    unfolding rows_at
    joined s subs = refl

    single : (s : ℕ) → rise (block (s ∷ [])) ≡ true
    unfolding rows_at
    single s = refl

    pub positions_rise : (next : ℕ) (attributes : List (Attribute Target))
        → rise (block (transaction_positions next attributes)) ≡ true
    unfolding rows_at
    positions_rise next [] = refl
    positions_rise next (x ∷ rest) =
        ⊎_elim
        (λ is. ap (λ subs. rise (block subs)) is
        ∙ ap rise (joined next (transaction_positions (suc next) rest))
        ∙ rise_append (block (next ∷ [])) (block (transaction_positions (suc next) rest))
        (single next) (positions_rise (suc next) rest)
        (one_before next (transaction_positions (suc next) rest)
        (from_on (suc next) (suc next) (omega arith) rest)))
        (λ is. ap (λ subs. rise (block subs)) is ∙ positions_rise next rest)
        (position_step next x rest)

  -- ---- the rows of one item, and of items by their numbers

  pick : (k : Kind) (a : Attr) (n : ℕ) (attributes : List (Attribute Target)) (b c : Bool)
      → is_of_transaction a ≡ b
      → rise (keys (rows_at (item_number k n) a (if b then transaction_positions 0 attributes else
      (if c then 0 ∷ [] else [])))) ≡ true
  unfolding rows_at
  pick k a n attributes true c is = positions_rise k a n (not_body a is) (not_body a is) 0
      attributes
  pick k a n attributes false true is = refl
  pick k a n attributes false false is = refl

  item_rises : (k : Kind) (a : Attr) (n : ℕ) (attributes : List (Attribute Target))
      → rise (keys (item_rows (item_number k n) a attributes)) ≡ true
  item_rises k a n attributes = pick k a n attributes (is_of_transaction a)
      (is_written a attributes) refl

  abbrev items_from : (k : Kind) (a : Attr) (n : ℕ) → AttributeFields → Type 0
  items_from k a n f = (f.kind ≡ kind_number k) × (f.attribute ≡ attr_number a) × (n ≤ f.item)

  keys_append : (xs ys : List AttrRef) → keys (xs ++ ys) ≡ keys xs ++ keys ys
  keys_append xs ys = map-append (λ r. key (with_slots r)) xs ys

  keys_from : (k : Kind) (a : Attr) (n : ℕ) (items : List (Item Target))
      → AllByRecursion (items_from k a n) (keys (rows_from k a n items))
  keys_from k a n [] = record {}
  keys_from k a n (i ∷ rest) =
      subst (AllByRecursion (items_from k a n))
      (sym (keys_append (item_rows (item_number k n) a i.attributes)
      (rows_from k a (suc n) rest)))
      (all_append (items_from k a n) (keys (item_rows (item_number k n) a i.attributes))
      (keys (rows_from k a (suc n) rest))
      (all_map (of_item k a n) (items_from k a n) (λ f h. (h.0, h.1, omega (arith, h.2)))
      (keys (item_rows (item_number k n) a i.attributes))
      (keys_of_item k a n (positions a i.attributes)))
      (all_map (items_from k a (suc n)) (items_from k a n) (λ f h. (h.0, h.1, omega (arith, h.2)))
      (keys (rows_from k a (suc n) rest)) (keys_from k a (suc n) rest)))

  items_rise : (k : Kind) (a : Attr) (n : ℕ) (items : List (Item Target))
      → rise (keys (rows_from k a n items)) ≡ true
  items_rise k a n [] = refl
  items_rise k a n (i ∷ rest) =
      ap rise (keys_append (item_rows (item_number k n) a i.attributes)
      (rows_from k a (suc n) rest))
      ∙ rise_append (keys (item_rows (item_number k n) a i.attributes))
      (keys (rows_from k a (suc n) rest)) (item_rises k a n i.attributes)
      (items_rise k a (suc n) rest)
      (all_before (of_item k a n) (items_from k a (suc n))
      (λ x y p q. by_item x y (p.0 ∙ sym q.0) (p.1 ∙ sym q.1) (omega (arith, p.2, q.2)))
      (keys (item_rows (item_number k n) a i.attributes)) (keys (rows_from k a (suc n) rest))
      (keys_of_item k a n (positions a i.attributes)) (keys_from k a (suc n) rest))

  -- ---- attributes by their numbers, and kinds by theirs

  keys_of_blocks : {A : Type 0} (f : A → List AttrRef) (members : List A)
      → keys (flat_map f members) ≡ flat_map (λ a. keys (f a)) members
  keys_of_blocks f [] = refl
  keys_of_blocks f (a ∷ rest) = keys_append (f a) (flat_map f rest) ∙ ap (λ ks. keys (f a) ++ ks)
      (keys_of_blocks f rest)

  module _ (items : List (Item Target)) where
    module _ (k : Kind) where
      abbrev of_attribute : ℕ → AttributeFields → Type 0
      of_attribute m f = (f.kind ≡ kind_number k) × (f.attribute ≡ m)

      by_number : (m n : ℕ) → m < n → (x y : AttributeFields) → of_attribute m x → of_attribute n y
          → rises x y ≡ true
      by_number m n h x y p q = by_attribute x y (p.0 ∙ sym q.0) (omega (arith, p.1, q.1, h))

      abbrev attribute_keys : Attr → List AttributeFields
      attribute_keys a = keys (rows_of_attr items k a)

      kept : (a : Attr) → AllByRecursion (of_attribute (attr_number a)) (attribute_keys a)
      kept a = all_map (items_from k a 0) (of_attribute (attr_number a)) (λ f h. (h.0, h.1))
          (attribute_keys a) (keys_from k a 0 (of_kind k items))

      each_rises : (a : Attr) → rise (attribute_keys a) ≡ true
      each_rises a = items_rise k a 0 (of_kind k items)

      kind_rises : rise (keys (rows_of_kind items k)) ≡ true
      unfolding rows_of_kind
      kind_rises = ap rise (keys_of_blocks (rows_of_attr items k) attributes_in_order)
          ∙ blocks_rise attr_number of_attribute by_number attribute_keys kept each_rises 1
          attributes_in_order refl

      kind_kept : AllByRecursion (λ f. f.kind ≡ kind_number k) (keys (rows_of_kind items k))
      unfolding rows_of_kind
      kind_kept = subst (AllByRecursion (λ f. f.kind ≡ kind_number k))
          (sym (keys_of_blocks (rows_of_attr items k) attributes_in_order))
          (blocks_keep attr_number of_attribute by_number attribute_keys kept each_rises
          (λ f. f.kind ≡ kind_number k) (λ n x h. h.0) attributes_in_order)

    abbrev kind_keys : Kind → List AttributeFields
    kind_keys k = keys (rows_of_kind items k)

    pub rows_rise : rise (keys (rows items)) ≡ true
    rows_rise = ap rise (keys_of_blocks (rows_of_kind items) kinds)
        ∙ blocks_rise kind_number (λ m f. f.kind ≡ m)
        (λ m n h x y p q. by_kind x y (omega (arith, p, q, h))) kind_keys kind_kept kind_rises 1
        kinds refl
