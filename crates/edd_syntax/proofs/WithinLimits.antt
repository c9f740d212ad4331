-- What a resolved description keeps of the limits on counts.
use Rattle.std.proofs.Common.{◌≡◌, refl, sym, ap, ◌∙◌, ℕ, ◌≤◌, Bool, true, false, List, [], ◌∷◌, ◌++◌, length, map, filter, Option, Some, None, IsTrue, nat_le, nat_lt, arith}
use Rattle.std.specs.List.{list_any, list_all}
use Rattle.std.specs.Option.{option_map_or}
use Rattle.std.proofs.lemmas.Option.{none-some}
use Rattle.std.proofs.lemmas.Grind.{common_steps}
use Rattle.std.specs.Prelude.{◌&&◌}
use Rattle.edd_syntax.specs.Reference.{Path, Target}
use Rattle.edd_syntax.specs.declared.numbers.Kind.{Kind}
use Rattle.edd_syntax.specs.declared.numbers.Kind.TheVariants as kind
use Rattle.edd_syntax.specs.Item as item
use Rattle.edd_syntax.specs.Item.{ItemKind, kind_of_item, Attribute, Item, Description}
use Rattle.edd_syntax.specs.Numbers.{same_kind}
use Rattle.edd_syntax.specs.Resolution.{count_of, kinds, member_kinds}
use Rattle.edd_syntax.specs.ResolvedTrees.{◌>>=◌, each, unchanged, resolved_cond, resolved_conds, resolved_body, at_attribute, resolved_entry, resolved_member, resolved_element, resolved_type_part, resolved_transaction_part, resolved_attribute, resolved_item, resolved_unit, meant_in, Reading}
use Rattle.edd_syntax.specs.NameRules.{is_transaction, transaction_count}
use Rattle.edd_syntax.specs.NameRules.{too_many}
use Rattle.edd_syntax.specs.Resolved.{IsResolved, IsChecked}
use Rattle.edd_syntax.proofs.Made.{bind_some}
use Rattle.std.proofs.Math.Logic.{∥∥₁_elim}
use Rattle.std.proofs.Math.Bridge.{le_prop}
use Rattle.std.proofs.Math.Bool.{Bool-set}
use Rattle.edd_syntax.specs.Refusal.{Refusal, refused_if}

-- what a function gives of the value that is there
at_some : {A C : Type 0} (f : A → C) (d : C) (x y : A) → Some x ≡ Some y → f x ≡ f y
at_some f d x y h = ap (λ o. option_map_or f o d) h

-- ---- one after another

module _ {A B C : Type 0} (of : A → Option B) (f : A → C) (g : B → C) (keeps : (x : A) (y : B)
    → of x ≡ Some y → g y ≡ f x) where
  pub each_keeps : (xs : List A) (ys : List B) → each of xs ≡ Some ys → map g ys ≡ map f xs
  each_keeps [] ys h = sym (at_some (map g) [] [] ys h)
  each_keeps (x ∷ xs) ys h =
      let first = bind_some (of x) (λ y. each of xs >>= λ others. Some (y ∷ others)) ys h in
      let rest = bind_some (each of xs) (λ others. Some (first.0 ∷ others)) ys first.2 in
      sym (at_some (map g) [] (first.0 ∷ rest.0) ys rest.2)
      ∙ ap (λ y. y ∷ map g rest.0) (keeps x first.0 first.1)
      ∙ ap (λ others. f x ∷ others) (each_keeps xs rest.0 rest.1)

filtered : {X C : Type 0} (κ : X → C) (p : C → Bool) (xs : List X)
    → length (filter (λ x. p (κ x)) xs) ≡ length (filter p (map κ xs))
filtered κ p [] = refl
filtered κ p (x ∷ xs) = grind (arith, common_steps, filtered κ p xs)

all_mapped : {X C : Type 0} (κ : X → C) (p : C → Bool) (xs : List X) → list_all (λ x. p (κ x)) xs
    ≡ list_all p (map κ xs)
all_mapped κ p [] = refl
all_mapped κ p (x ∷ xs) = ap (λ b. p (κ x) && b) (all_mapped κ p xs)

-- ---- an attribute, an item and a unit with the meaning of names

made : {A : Type 0} (o : Option A) (make : A → Attribute Target) (b : Attribute Target) (v : Bool)
    → ((x : A) → is_transaction (make x) ≡ v) → (o >>= λ x. Some (make x)) ≡ Some b
    → is_transaction b ≡ v
made None make b v same h = absurd (none-some b h)
made (Some x) make b v same h = sym (at_some is_transaction v (make x) b h) ∙ same x

keeps_transaction : (names : Reading) (sort : ItemKind) (a : Attribute Path)
    (b : Attribute Target) → resolved_attribute names sort a ≡ Some b
    → is_transaction b ≡ is_transaction a
keeps_transaction names sort (item.OneText which c) b h =
    made (resolved_cond (at_attribute names) unchanged c) (item.OneText which) b false (λ x. refl) h
keeps_transaction names sort (item.Class words) b h =
    sym (at_some is_transaction false (item.Class words) b h)
keeps_transaction names sort (item.Handling c) b h =
    made (resolved_cond (at_attribute names) unchanged c) item.Handling b false (λ x. refl) h
keeps_transaction names sort (item.Validity c) b h =
    made (resolved_cond (at_attribute names) unchanged c) item.Validity b false (λ x. refl) h
keeps_transaction names sort (item.TypeOf word parts) b h =
    made (each (resolved_type_part names) parts) (item.TypeOf word) b false (λ x. refl) h
keeps_transaction names sort (item.Number n) b h =
    sym (at_some is_transaction false (item.Number n) b h)
keeps_transaction names sort (item.Operation o) b h =
    sym (at_some is_transaction false (item.Operation o) b h)
keeps_transaction names sort (item.Transaction number parts) b h =
    made (each (resolved_transaction_part names) parts) (item.Transaction number) b true (λ x. refl)
    h
keeps_transaction names sort (item.ResponseCodes responses) b h =
    sym (at_some is_transaction false (item.ResponseCodes responses) b h)
keeps_transaction names sort (item.Items entries) b h =
    made (resolved_conds (at_attribute names) (resolved_entry names) entries) item.Items b false
    (λ x. refl) h
keeps_transaction names sort (item.Members members) b h =
    made (each (resolved_member names (member_kinds sort)) members) item.Members b false (λ x. refl)
    h
keeps_transaction names sort (item.Elements elements) b h =
    made (each (resolved_element names) elements) item.Elements b false (λ x. refl) h
keeps_transaction names sort (item.Definition body) b h = made (resolved_body names body [] 0)
    item.Definition b false (λ x. refl) h

keeps_sort : (names : Reading) (i : Item Path) (y : Item Target)
    → resolved_item names i ≡ Some y → y.sort ≡ i.sort
keeps_sort names i y h = let x = bind_some (each (resolved_attribute names i.sort) i.attributes)
    (λ attributes. Some (record { sort = i.sort; name = i.name; attributes = attributes })) y
    h in sym (at_some (λ z. z.sort) i.sort
    (record { sort = i.sort; name = i.name; attributes = x.0 }) y x.2)

keeps_count : (names : Reading) (i : Item Path) (y : Item Target)
    → resolved_item names i ≡ Some y → transaction_count y ≡ transaction_count i
keeps_count names i y h =
    let x = bind_some (each (resolved_attribute names i.sort) i.attributes)
    (λ attributes. Some (record { sort = i.sort; name = i.name; attributes = attributes })) y
    h in
    sym (at_some transaction_count 0 (record { sort = i.sort; name = i.name; attributes = x.0 }) y
    x.2)
    ∙ filtered is_transaction (λ b. b) x.0
    ∙ ap (λ bs. length (filter (λ b. b) bs))
    (each_keeps (resolved_attribute names i.sort) is_transaction is_transaction
    (keeps_transaction names i.sort) i.attributes x.0 x.1)
    ∙ sym (filtered is_transaction (λ b. b) i.attributes)

module _ (unit : Description Path) (items : List (Item Target))
    (meant : each (resolved_item (meant_in unit)) unit.items ≡ Some items) where
  pub same_count : (k : Kind) → count_of k items ≡ count_of k unit.items
  same_count k =
      filtered (λ i. i.sort) (λ s. same_kind (kind_of_item s) k) items
      ∙ ap (λ ss. length (filter (λ s. same_kind (kind_of_item s) k) ss))
      (each_keeps (resolved_item (meant_in unit)) (λ i. i.sort) (λ i. i.sort)
      (keeps_sort (meant_in unit)) unit.items
      items meant)
      ∙ sym (filtered (λ i. i.sort) (λ s. same_kind (kind_of_item s) k) unit.items)

  same_transactions : list_all (λ i. nat_le (transaction_count i) 4096) items
      ≡ list_all (λ i. nat_le (transaction_count i) 4096) unit.items
  same_transactions =
      all_mapped transaction_count (λ n. nat_le n 4096) items
      ∙ ap (list_all (λ n. nat_le n 4096))
      (each_keeps (resolved_item (meant_in unit)) transaction_count
      transaction_count (keeps_count (meant_in unit)) unit.items items meant)
      ∙ sym (all_mapped transaction_count (λ n. nat_le n 4096) unit.items)

-- ---- what no breach says

pub not_empty : {A : Type 0} {x : A} {xs : List A} → ¬ (x ∷ xs ≡ [])
not_empty h = omega (arith, ap length h)

pub no_refusal : (b : Bool) (why : Refusal) → refused_if b why ≡ [] → b ≡ false
no_refusal true why h = absurd (not_empty h)
no_refusal false why h = refl

pub no_front : {A : Type 0} (xs ys : List A) → xs ++ ys ≡ [] → xs ≡ []
no_front [] ys h = refl
no_front (x ∷ xs) ys h = absurd (not_empty h)

pub no_rest : {A : Type 0} (xs ys : List A) → xs ++ ys ≡ [] → ys ≡ []
no_rest [] ys h = h
no_rest (x ∷ xs) ys h = absurd (not_empty h)

none_over : {X : Type 0} (n : X → ℕ) (xs : List X) → list_any (λ x. nat_lt 4096 (n x)) xs ≡ false
    → IsTrue (list_all (λ x. nat_le (n x) 4096) xs)
none_over n [] h = refl
none_over n (x ∷ xs) h = grind (arith, common_steps, none_over n xs)

few_of_kind : (items : List (Item Path)) (k : Kind)
    → list_any (λ j. nat_lt 4096 (count_of j items)) kinds ≡ false → count_of k items ≤ 4096
few_of_kind items kind.Variable h = grind (arith, common_steps)
few_of_kind items _ h = grind (arith, common_steps)

-- ---- a checked description

pub items_meant : (d : Description Target) (r : IsResolved d)
    → each (resolved_item (meant_in r.unit)) r.unit.items ≡ Some d.items
unfolding resolved_unit
items_meant d r =
    let x = bind_some (each (resolved_item (meant_in r.unit)) r.unit.items)
    (λ items. Some (record { identification = r.unit.identification; items = items })) d
    r.meanings in
    x.1 ∙ ap Some (at_some (λ e. e.items) []
    (record { identification = r.unit.identification; items = x.0 }) d x.2)

module _ (d : Description Target) (checked : IsChecked d) where
  none_too_many : too_many checked.is_resolved.unit ≡ []
  none_too_many = no_front (too_many checked.is_resolved.unit) _ checked.is_resolved.no_breach

  pub few : (k : Kind) → count_of k d.items ≤ 4096
  few k =
      let u = checked.is_resolved.unit in
      omega (
        arith,
        same_count u d.items (items_meant d checked.is_resolved) k,
        few_of_kind u.items k (no_refusal _ _ (no_front _ _ none_too_many)),
      )

  pub few_transactions : IsTrue (list_all (λ i. nat_le (transaction_count i) 4096) d.items)
  few_transactions =
      let u = checked.is_resolved.unit in
      same_transactions u d.items (items_meant d checked.is_resolved)
      ∙ none_over transaction_count u.items
      (no_refusal _ _ (no_front _ _ (no_rest _ _ none_too_many)))

-- the facts as they stand in a checked description
pub few_when_checked : (d : Description Target) → ∥ IsChecked d ∥₁ → (k : Kind)
    → count_of k d.items ≤ 4096
few_when_checked d checked k = ∥∥₁_elim checked le_prop (λ c. few d c k)

pub few_transactions_when_checked : (d : Description Target) → ∥ IsChecked d ∥₁
    → IsTrue (list_all (λ i. nat_le (transaction_count i) 4096) d.items)
few_transactions_when_checked d checked =
    ∥∥₁_elim checked (Bool-set _ _) (λ c. few_transactions d c)
