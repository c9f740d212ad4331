-- What is written belongs to its item: a kind that may not have an attribute has no row of it.
use Rattle.std.proofs.Common.{◌≡◌, refl, sym, ap, ◌∙◌, ℕ, suc, Bool, true, false, List, [], ◌∷◌, ◌++◌, map}
use Rattle.std.specs.Prelude.{◌==◌, ◌&&◌, ◌||◌, if◌then◌else◌}
use Rattle.std.specs.List.{AllByRecursion, list_all, list_any}
use Rattle.std.proofs.Math.Logic.{⊎_elim}
use Rattle.std.proofs.lemmas.Bool.{false≢true, and_parts, and_from, or_left, or_right, or_cases}
use Rattle.edd_syntax.specs.declared.numbers.NumberOption.TheVariants as number_option
use Rattle.edd_syntax.specs.declared.numbers.FormatOption.TheVariants as format_option
use Rattle.edd_syntax.specs.declared.numbers.Kind.{Kind}
use Rattle.edd_syntax.specs.declared.numbers.Kind.TheVariants as kind
use Rattle.edd_syntax.specs.declared.numbers.Attr.{Attr}
use Rattle.edd_syntax.specs.declared.numbers.Attr.TheVariants as attr
use Rattle.edd_syntax.specs.declared.reference.Target.{Target}
use Rattle.edd_syntax.specs.Item as item
use Rattle.edd_syntax.specs.Item.{kind_of_item, TypePart, Attribute, Item}
use Rattle.edd_syntax.specs.Numbers.{has_attr, item_number, same_kind, same_attr, text_attr}
use Rattle.edd_syntax.specs.Attributes.{is_of_transaction}
use Rattle.edd_syntax.specs.Rows.{part_attr, stands_for, is_written, transaction_positions, positions, rows_at, rows_from, of_kind, rows_of_attr}
use Rattle.edd_syntax.specs.WellFormed.{belongs_to, has_own_attributes}
use Rattle.edd_syntax.proofs.KnownByNumber.{same_kinds, same_attrs}

or_nothing : (b : Bool) → (b || false) ≡ true → b ≡ true
or_nothing true h = refl
or_nothing false h = h

-- ---- what is written belongs to its item

module _ (k : Kind) (a : Attr) where
  same : (b : Attr) → has_attr k b ≡ true → list_any (same_attr a) (b ∷ []) ≡ true
      → has_attr k a ≡ true
  same b h is = ap (has_attr k) (same_attrs a b (or_nothing (same_attr a b) is)) ∙ h

  part_has : (p : TypePart Target) → same_kind k kind.Variable ≡ true → has_attr k (part_attr p)
      ≡ true
  part_has (item.OneNumber number_option.DefaultValue c) h = or_left (same_kind k kind.Variable) false h
  part_has (item.OneFormat format_option.DisplayFormat c) h =
      or_left (same_kind k kind.Variable) false h
  part_has _ h = or_left (same_kind k kind.Variable) false h

  parts_have : (parts : List (TypePart Target)) → same_kind k kind.Variable ≡ true
      → list_any (same_attr a) (map part_attr parts) ≡ true → has_attr k a ≡ true
  parts_have [] h is = absurd (false≢true is)
  parts_have (p ∷ rest) h is = ⊎_elim (λ e. ap (has_attr k) (same_attrs a (part_attr p) e)
      ∙ part_has p h) (parts_have rest h)
      (or_cases (same_attr a (part_attr p)) (list_any (same_attr a) (map part_attr rest)) is)

  written_has : (w : Attribute Target) → belongs_to k w ≡ true → stands_for a w ≡ true
      → has_attr k a ≡ true
  unfolding stands_for
  written_has (item.OneText which c) h is = same (text_attr which) h is
  written_has (item.Class words) h is = same attr.Class h is
  written_has (item.Handling c) h is = same attr.Handling h is
  written_has (item.Validity c) h is = same attr.Validity h is
  written_has (item.TypeOf word parts) h is = parts_have parts h is
  written_has (item.Number n) h is = same attr.Number h is
  written_has (item.Operation o) h is = same attr.Operation h is
  written_has (item.Transaction number parts) h is = absurd (false≢true is)
  written_has (item.ResponseCodes responses) h is = same attr.ResponseCodes h is
  written_has (item.Items entries) h is = same attr.Items h is
  written_has (item.Members members) h is = same attr.Members h is
  written_has (item.Elements elements) h is = same attr.Elements h is
  written_has (item.Definition body) h is = same attr.Definition h is

  any_written_has : (ws : List (Attribute Target)) → list_all (belongs_to k) ws ≡ true
      → is_written a ws ≡ true → has_attr k a ≡ true
  any_written_has [] h is = absurd (false≢true is)
  any_written_has (w ∷ ws) h is =
      let parts = and_parts (belongs_to k w) (list_all (belongs_to k) ws) h in
      ⊎_elim (written_has w parts.0) (any_written_has ws parts.1)
      (or_cases (stands_for a w) (is_written a ws) is)

  -- a position that the attribute may have
  abbrev pub fits_at : ℕ → Bool
  fits_at s = has_attr k a && (is_of_transaction a || s == 0)

  of_any_transaction : has_attr k attr.Transaction ≡ true → is_of_transaction a ≡ true
      → has_attr k a ≡ true
  of_any_transaction h of = from a of
    where
      from : (b : Attr) → is_of_transaction b ≡ true → has_attr k b ≡ true
      from attr.Transaction t = h
      from attr.Request t = h
      from attr.Reply t = h
      from b t = absurd (false≢true t)

  transactions_fit : is_of_transaction a ≡ true → (next : ℕ) (ws : List (Attribute Target))
      → list_all (belongs_to k) ws ≡ true → list_all fits_at (transaction_positions next ws) ≡ true
  transactions_fit of next [] h = refl
  transactions_fit of next (item.Transaction number parts ∷ rest) h =
      let both = and_parts (has_attr k attr.Transaction) (list_all (belongs_to k) rest) h in
      and_from (fits_at next) (list_all fits_at (transaction_positions (suc next) rest))
      (and_from (has_attr k a) (is_of_transaction a || next == 0) (of_any_transaction both.0 of)
      (or_left (is_of_transaction a) (next == 0) of))
      (transactions_fit of (suc next) rest both.1)
  transactions_fit of next (w ∷ rest) h =
      transactions_fit of next rest (and_parts (belongs_to k w) (list_all (belongs_to k) rest) h).1

  pub positions_fit : (ws : List (Attribute Target)) → list_all (belongs_to k) ws ≡ true
      → list_all fits_at (positions a ws) ≡ true
  positions_fit ws h = pick (is_of_transaction a) (is_written a ws) refl refl
    where
      pick : (b c : Bool) → is_of_transaction a ≡ b → is_written a ws ≡ c
          → list_all fits_at (if b then transaction_positions 0 ws else (if c then 0 ∷ [] else []))
          ≡ true
      pick true c of written = transactions_fit of 0 ws h
      pick false true of written =
          and_from (fits_at 0) true (and_from (has_attr k a) (is_of_transaction a || 0 == 0)
          (any_written_has ws h written) (or_right (is_of_transaction a) (0 == 0) refl)) refl
      pick false false of written = refl

  none_fit : has_attr k a ≡ false → (xs : List ℕ) → list_all fits_at xs ≡ true → xs ≡ []
  none_fit lacks [] h = refl
  none_fit lacks (x ∷ xs) h =
      let fits = and_parts (fits_at x) (list_all fits_at xs) h in
      let may = and_parts (has_attr k a) (is_of_transaction a || x == 0) fits.0 in
      absurd (false≢true (sym lacks ∙ may.0))

-- ---- the items of a kind

abbrev pub Belong : Kind → List (Item Target) → Type 0
Belong k xs = AllByRecursion (λ i. list_all (belongs_to k) i.attributes ≡ true) xs

one_belongs : (k : Kind) (i : Item Target) (rest : List (Item Target))
    → has_own_attributes i ≡ true → Belong k rest → (b : Bool)
    → same_kind (kind_of_item i.sort) k ≡ b → Belong k (if b then i ∷ rest else rest)
one_belongs k i rest form others true is = (
  ap (λ j. list_all (belongs_to j) i.attributes) (sym (same_kinds (kind_of_item i.sort) k is))
      ∙ form,
  others,
)
one_belongs k i rest form others false is = others

pub all_belong : (k : Kind) (items : List (Item Target)) → list_all has_own_attributes items ≡ true
    → Belong k (of_kind k items)
all_belong k [] h = record {}
all_belong k (i ∷ rest) h =
    let both = and_parts (has_own_attributes i) (list_all has_own_attributes rest) h in
    one_belongs k i (of_kind k rest) both.0 (all_belong k rest both.1)
    (same_kind (kind_of_item i.sort) k) refl

-- ---- the rows of an attribute that the kind may not have

module _ (k : Kind) (a : Attr) (lacks : has_attr k a ≡ false) where
  no_rows_from : (n : ℕ) (xs : List (Item Target)) → Belong k xs → rows_from k a n xs ≡ []
  unfolding rows_at
  no_rows_from n [] h = refl
  no_rows_from n (i ∷ rest) h =
      ap (λ subs. rows_at (item_number k n) a subs ++ rows_from k a (suc n) rest)
      (none_fit k a lacks (positions a i.attributes) (positions_fit k a i.attributes h.0))
      ∙ no_rows_from (suc n) rest h.1

  pub no_rows : (items : List (Item Target)) → list_all has_own_attributes items ≡ true
      → rows_of_attr items k a ≡ []
  no_rows items own = no_rows_from 0 (of_kind k items) (all_belong k items own)
