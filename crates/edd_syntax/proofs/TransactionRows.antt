-- The rows of transactions, one attribute after another.
use Rattle.std.proofs.Common.{◌≡◌, refl, ℕ, suc, Bool, true, false, arith, List, [], ◌∷◌, ◌++◌, map, filter, if◌then◌else◌, IsTrue}
use Rattle.std.specs.List.{list_all}
use Rattle.std.proofs.lemmas.Bool.{and_parts, and_from}
use Rattle.std.proofs.lemmas.Grind.{common_steps}
use Rattle.edd_syntax.specs.declared.numbers.Kind.{Kind}
use Rattle.edd_syntax.specs.declared.numbers.Attr.{Attr}
use Rattle.edd_syntax.specs.declared.numbers.ItemNo.{ItemNo}
use Rattle.edd_syntax.specs.declared.reference.Target.{Target}
use Rattle.edd_syntax.specs.Item as item
use Rattle.edd_syntax.specs.Item.{kind_of_item, Attribute, Item}
use Rattle.edd_syntax.specs.Numbers.{same_kind}
use Rattle.edd_syntax.specs.NameRules.{is_transaction}
use Rattle.edd_syntax.specs.Rows.{rows_at, transaction_positions, of_kind, Listing, with_these}

module _ (number : ItemNo) (a : Attr) (all : List (Attribute Target)) where
  abbrev pub positions_from : ℕ → List (Attribute Target) → List (Listing Target)
  positions_from next attributes =
      map (with_these all) (rows_at number a (transaction_positions next attributes))

  abbrev pub row_of : ℕ → Attribute Target → List (Listing Target)
  row_of sub x = with_these all (record { item = number; attr = a; sub = sub }) ∷ []

  pub positions_split : (next : ℕ) (x : Attribute Target) (xs : List (Attribute Target))
      → positions_from next (x ∷ xs) ≡ (if is_transaction x then row_of next x else [])
      ++ positions_from (if is_transaction x then suc next else next) xs
  unfolding rows_at
  positions_split next (item.OneText which c) xs = refl
  positions_split next _ xs = refl

  pub no_positions : (next : ℕ) → positions_from next [] ≡ []
  unfolding rows_at
  no_positions next = refl

-- ---- the items of a kind

module _ (k : Kind) where
  -- an item that is of the kind
  abbrev pub if_of_kind : ℕ → Item Target → List (Item Target)
  if_of_kind s i = if same_kind (kind_of_item i.sort) k then i ∷ [] else []

  abbrev pub all_of_kind : ℕ → List (Item Target) → List (Item Target)
  all_of_kind s items = of_kind k items

  pub kind_split : (s : ℕ) (x : Item Target) (xs : List (Item Target))
      → all_of_kind s (x ∷ xs) ≡ if_of_kind s x ++ all_of_kind s xs
  kind_split s x xs = by_kind (same_kind (kind_of_item x.sort) k) refl
    where
      by_kind : (b : Bool) → same_kind (kind_of_item x.sort) k ≡ b → all_of_kind s (x ∷ xs)
          ≡ if_of_kind s x ++ all_of_kind s xs
      by_kind true is = grind (arith, common_steps)
      by_kind false is = grind (arith, common_steps)

-- what holds of all items holds of those that are kept
pub all_kept : {X : Type 0} (f test : X → Bool) (xs : List X) → IsTrue (list_all f xs)
    → IsTrue (list_all f (filter test xs))
all_kept f test [] all = all
all_kept f test (x ∷ xs) all =
    let both = and_parts (f x) (list_all f xs) all in
    by_test (test x) both.0 (all_kept f test xs both.1)
  where
    by_test : (b : Bool) → f x ≡ true → IsTrue (list_all f (filter test xs))
        → IsTrue (list_all f (if b then x ∷ filter test xs else filter test xs))
    by_test true here rest = and_from (f x) (list_all f (filter test xs)) here rest
    by_test false here rest = rest
