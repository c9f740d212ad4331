-- What the parts of the trees of a resolved description keep, as tests.
use Rattle.std.proofs.Common.{◌≡◌, refl, subst, ℕ, arith, ◌^◌, Bool, true, List, [], ◌∷◌, map, Option, Some}
use Rattle.std.specs.Prelude.{◌&&◌, max, nat_lt, nat_le}
use Rattle.std.specs.List.{list_all}
use Rattle.std.proofs.lemmas.Option.{same_Some}
use Rattle.std.proofs.lemmas.Bool.{le-leb, leb-true}
use Rattle.std.proofs.Math.Nat.{le-max_left, le-max_right}
use Rattle.edd_syntax.specs.declared.numbers.Kind.{Kind}
use Rattle.edd_syntax.specs.declared.numbers.Kind.TheVariants as kind
use Rattle.edd_syntax.specs.declared.numbers.ItemNo.TheVariants as item_no
use Rattle.edd_syntax.specs.declared.reference.Target.{Target}
use Rattle.edd_syntax.specs.Expression.{Expr}
use Rattle.edd_syntax.specs.Conditional.{Cond, Conds}
use Rattle.edd_syntax.specs.Size.{leaf, height, cond_height, conds_height, greatest_of}
use Rattle.edd_syntax.specs.Item as item
use Rattle.edd_syntax.specs.Item.{DataItem, MenuEntry, TypePart}
use Rattle.edd_syntax.specs.Targets.{item_of, variable_of}
use Rattle.edd_syntax.specs.WellFormed.{is_pure_expr, is_text, if_some, is_cond, are_conds, is_single}
use Rattle.edd_syntax.specs.ResolvedTrees.{◌>>=◌, each}
use Rattle.edd_instructions.specs.Agreement.{mask_number}
use Rattle.edd_attrs.specs.Trees as trees
use Rattle.edd_attrs.specs.Trees.{Tree}
use Rattle.edd_attrs.specs.Records.{is_label, is_listed, kept_enumerator, kept_response, kept_member, kept_array_element}
use Rattle.edd_syntax.proofs.Existing.{is_item_of}
use Rattle.edd_syntax.proofs.Made.{bind_some}
use Rattle.edd_code.proofs.BothTests.{both_of, both_true}

-- ---- steps that may fail

-- what holds of a value holds of the one that it is
pub along_some : {A : Type 0} (P : A → Bool) {x y : A} → Some x ≡ Some y → P x ≡ true → P y ≡ true
along_some P {x} {y} e h = subst (λ z. P z ≡ true) (same_Some x y e) h

pub each_all : {A B : Type 0} (of : A → Option B) (p : A → Bool) (q : B → Bool)
    → ((x : A) (y : B) → p x ≡ true → of x ≡ Some y → q y ≡ true) → (xs : List A) {ys : List B}
    → list_all p xs ≡ true → each of xs ≡ Some ys → list_all q ys ≡ true
each_all of p q keeps [] {ys} all h = along_some (list_all q) h refl
each_all of p q keeps (x ∷ xs) {ys} all h =
    let parts = both_of (p x) (list_all p xs) all in
    let first = bind_some (of x) (λ y. each of xs >>= λ others. Some (y ∷ others)) ys h in
    let rest = bind_some (each of xs) (λ others. Some (first.0 ∷ others)) ys first.2 in
    along_some (list_all q) rest.2
    (rw (keeps x first.0 parts.0 first.1, each_all of p q keeps xs parts.1 rest.1) refl)

-- ---- lists of tests

pub all_good : {A : Type 0} (p q : A → Bool) → ((x : A) → p x ≡ true → q x ≡ true) → (xs : List A)
    → list_all p xs ≡ true → list_all q xs ≡ true
all_good p q keeps [] h = refl
all_good p q keeps (x ∷ xs) h = let parts = both_of (p x) (list_all p xs) h in both_true
    (keeps x parts.0) (all_good p q keeps xs parts.1)

pub all_both : {A : Type 0} (p q : A → Bool) (xs : List A) → list_all p xs ≡ true
    → list_all q xs ≡ true → list_all (λ x. p x && q x) xs ≡ true
all_both p q [] h k = refl
all_both p q (x ∷ xs) h k =
    let ps = both_of (p x) (list_all p xs) h in
    let qs = both_of (q x) (list_all q xs) k in
    both_true (both_true ps.0 qs.0) (all_both p q xs ps.1 qs.1)

abbrev pub is_low : ℕ → Bool
is_low n = nat_le n 100

low_left : (m n : ℕ) → is_low (max m n) ≡ true → is_low m ≡ true
low_left m n h = le-leb m 100 (omega (arith, le-max_left m n, leb-true (max m n) 100 h))

low_right : (m n : ℕ) → is_low (max m n) ≡ true → is_low n ≡ true
low_right m n h = le-leb n 100 (omega (arith, le-max_right m n, leb-true (max m n) 100 h))

pub all_low : {A : Type 0} (f : A → ℕ) (xs : List A) → is_low (greatest_of (map f xs)) ≡ true
    → list_all (λ x. is_low (f x)) xs ≡ true
all_low f [] h = refl
all_low f (x ∷ xs) h = both_true (low_left (f x) (greatest_of (map f xs)) h)
    (all_low f xs (low_right (f x) (greatest_of (map f xs)) h))

-- ---- what is kept

abbrev pub is_small : ℕ → Bool
is_small n = nat_lt n (2 ^ 32)

abbrev pub good_enumerator : item.Enumerator → Bool
good_enumerator e = is_label e.value && kept_enumerator e

abbrev pub good_response : item.ResponseCode → Bool
good_response r = is_small r.number && kept_response r

abbrev pub any_value : {V : Type 0} → V → Bool
any_value v = true

-- a conditional, and a list of them, whose values pass a test, in which expressions are pure and
-- what they read passes one
module _ (reads : Target → Bool) {V : Type 0} (p : V → Bool) (f : V → ℕ) where
  abbrev pub good_cond : Cond Target V → Bool
  good_cond c = is_cond reads reads p c && is_low (cond_height f c)

  abbrev pub good_conds : Conds Target V → Bool
  good_conds all = are_conds reads reads p all && is_low (conds_height f all)

-- `count` says how many items of a kind there are, and `reads` what may be read
module _ (count : Kind → ℕ) (reads : Target → Bool) where
  abbrev pub good_data : DataItem Target → Bool
  good_data (item.Constant n) = true
  good_data (item.Variable variable mask qualifiers) =
      is_item_of count (item_no.Variable (variable_of variable)) && is_small (mask_number mask)

  abbrev pub good_entry : MenuEntry Target → Bool
  good_entry (item.Text text) = is_text text
  good_entry (item.Reference to qualifiers) =
      is_listed (item_of to) && is_item_of count (item_of to)

  abbrev pub good_member : item.Member Target → Bool
  good_member m = (is_listed (item_of m.item) && is_item_of count (item_of m.item))
      && kept_member m

  abbrev pub good_array_element : item.ArrayElement Target → Bool
  good_array_element e = ((is_small e.number
      && is_item_of count (item_no.Variable (variable_of e.variable)))
      && nat_lt 0 (count kind.Array)) && kept_array_element e

  abbrev pub good_expression : Expr Target → Bool
  good_expression e = is_pure_expr reads reads e

  abbrev pub good_element : TypePart Target → Bool
  good_element (item.Element c) = good_cond reads good_enumerator leaf c
  good_element _ = true

  abbrev pub is_good : Tree → Bool
  is_good (trees.Texts c) = good_cond reads is_text leaf c
  is_good (trees.Handling c) = good_cond reads any_value leaf c
  is_good (trees.Validity c) = good_cond reads any_value leaf c
  is_good (trees.Expressions c) = good_cond reads good_expression height c
      && is_single reads reads c
  is_good (trees.Enumerators parts) = list_all good_element parts
  is_good (trees.Number n) = is_small n
  is_good (trees.Transaction number) = if_some is_small number
  is_good (trees.Data all) = good_conds reads good_data leaf all
  is_good (trees.ResponseCodes responses) = list_all good_response responses
  is_good (trees.Items entries) = good_conds reads good_entry leaf entries
  is_good (trees.Members members) = list_all good_member members
  is_good (trees.Elements all) = list_all good_array_element all
  is_good _ = true
