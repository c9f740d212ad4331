-- Each row of a description is of an item that there is, which may have the attribute.
use Rattle.std.proofs.Common.{◌≡◌, refl, ap, ◌∙◌, ℕ, suc, ◌+◌, ◌<◌, ◌≤◌, Bool, true, List, [], ◌∷◌, length, arith}
use Rattle.std.specs.Prelude.{◌==◌, ◌&&◌, ◌||◌}
use Rattle.std.specs.List.{flat_map, list_all}
use Rattle.std.proofs.lemmas.Bool.{and_from, lt-ltb}
use Rattle.std.proofs.lemmas.List.Folds.{list_all-append, list_all-map}
use Rattle.edd_syntax.specs.declared.numbers.Kind.{Kind}
use Rattle.edd_syntax.specs.declared.numbers.Kind.TheVariants as kind
use Rattle.edd_syntax.specs.declared.numbers.Attr.{Attr}
use Rattle.edd_syntax.specs.declared.numbers.AttrRef.{AttrRef}
use Rattle.edd_syntax.specs.declared.reference.Target.{Target}
use Rattle.edd_syntax.specs.Item.{Attribute, Item, Identification}
use Rattle.edd_syntax.specs.Numbers.{kind_of, item_number, has_attr}
use Rattle.edd_syntax.specs.Resolution.{count_of, kinds}
use Rattle.edd_syntax.specs.Attributes.{is_of_transaction}
use Rattle.edd_syntax.specs.Rows.{positions, rows_at, item_rows, rows_from, of_kind, rows_of_attr, rows_of_kind, attributes_in_order, rows}
use Rattle.edd_syntax.specs.WellFormed.{belongs_to}
use Rattle.edd_image.specs.declared.parts.Counts.{Counts}
use Rattle.edd_image.specs.Existing.{item_exists}
use Rattle.edd_instructions.specs.Agreement.{counts_of}
use Rattle.edd_syntax.proofs.Belonging.{Belong, all_belong, fits_at, positions_fit}
use Rattle.edd_syntax.proofs.ItemForms.{is_formed, all_weaker, own_when_formed}
use Rattle.edd_syntax.proofs.KnownByNumber.{numbered_kind}

-- the item exists and may have the attribute, which is at 0 where it is not of a transaction
abbrev pub is_placed : Counts → AttrRef → Bool
is_placed counts r = item_exists counts r.item
    && (has_attr (kind_of r.item) r.attr && (is_of_transaction r.attr || r.sub == 0))

-- ---- all rows

pub all_blocks : {A B : Type 0} (p : B → Bool) (f : A → List B)
    → ((x : A) → list_all p (f x) ≡ true) → (xs : List A) → list_all p (flat_map f xs) ≡ true
all_blocks p f each [] = refl
all_blocks p f each (x ∷ xs) = list_all-append p (f x) (flat_map f xs)
    ∙ and_from (list_all p (f x)) (list_all p (flat_map f xs)) (each x) (all_blocks p f each xs)

module _ (identification : Identification) (items : List (Item Target)) (strings : ℕ)
    (formed : list_all is_formed items ≡ true) where
  abbrev counts : Counts
  counts = counts_of identification items strings

  pub exists : (k : Kind) (n : ℕ) → n < count_of k items → item_exists counts (item_number k n)
      ≡ true
  exists kind.Variable n h = lt-ltb n (count_of kind.Variable items) h
  exists x n h = lt-ltb n (count_of x items) h

  module _ (k : Kind) (a : Attr) where
    item_placed : (n : ℕ) → n < count_of k items → (ws : List (Attribute Target))
        → list_all (belongs_to k) ws ≡ true
        → list_all (is_placed counts) (item_rows (item_number k n) a ws) ≡ true
    unfolding rows_at
    item_placed n below ws h =
        list_all-map (is_placed counts) (λ s. record { item = item_number k n; attr = a; sub = s })
        (positions a ws)
        ∙ all_weaker (fits_at k a)
        (λ s. is_placed counts (record { item = item_number k n; attr = a; sub = s }))
        (λ s fits. and_from (item_exists counts (item_number k n))
        (has_attr (kind_of (item_number k n)) a && (is_of_transaction a || s == 0))
        (exists k n below)
        (ap (λ j. has_attr j a && (is_of_transaction a || s == 0)) (numbered_kind k n) ∙ fits))
        (positions a ws) (positions_fit k a ws h)

    items_placed : (n : ℕ) (xs : List (Item Target)) → Belong k xs
        → n + length xs ≤ count_of k items → list_all (is_placed counts) (rows_from k a n xs) ≡ true
    items_placed n [] h within = refl
    items_placed n (i ∷ rest) h within =
        list_all-append (is_placed counts) (item_rows (item_number k n) a i.attributes)
        (rows_from k a (suc n) rest)
        ∙ and_from (list_all (is_placed counts) (item_rows (item_number k n) a i.attributes))
        (list_all (is_placed counts) (rows_from k a (suc n) rest))
        (item_placed n (omega (arith, within)) i.attributes h.0)
        (items_placed (suc n) rest h.1 (omega (arith, within)))

    attribute_placed : list_all (is_placed counts) (rows_of_attr items k a) ≡ true
    attribute_placed = items_placed 0 (of_kind k items) (all_belong k items
        (own_when_formed items formed)) (omega arith)

  kind_placed : (k : Kind) → list_all (is_placed counts) (rows_of_kind items k) ≡ true
  unfolding rows_of_kind
  kind_placed k = all_blocks (is_placed counts) (rows_of_attr items k) (attribute_placed k)
      attributes_in_order

  pub rows_placed : list_all (is_placed counts) (rows items) ≡ true
  rows_placed = all_blocks (is_placed counts) (rows_of_kind items) kind_placed kinds
