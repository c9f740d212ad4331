-- Where no use of a name has a fault, each member of a collection names an item of the kind after
-- OF.
use Rattle.std.proofs.Common.{◌≡◌, refl, ℕ, zero, suc, Bool, true, false, List, [], ◌∷◌, ◌++◌, Option, Some, None, subst}
use Rattle.std.specs.Prelude.{IsTrue, not, ◌&&◌, ◌||◌, if◌then◌else◌, filter, find, is_some, option_map, option_and_then, slice_get}
use Rattle.std.specs.List.{flat_map, list_all}
use Rattle.std.specs.Str.{bytes_eq}
use Rattle.edd_name_meanings.specs.Meanings.{AllMembersNamed, NoFault, faults_in}
use Rattle.edd_syntax.specs.declared.numbers.Kind.{Kind}
use Rattle.edd_syntax.specs.declared.numbers.ItemNo.{ItemNo}
use Rattle.edd_syntax.specs.Device.{items_of, item_at}
use Rattle.edd_syntax.specs.Item as item
use Rattle.edd_syntax.specs.Item.{ItemKind, CollectionItem, Attribute, Item, Member, Description, kind_of_item}
use Rattle.edd_syntax.specs.NameRules.{faults_along, faults_of_use}
use Rattle.edd_syntax.specs.NameUses.{Use, OfItem, attribute_uses, item_uses, unit_uses}
use Rattle.edd_syntax.specs.Numbers.{same_kind, kind_of, index_of}
use Rattle.edd_syntax.specs.Reference.{Path}
use Rattle.edd_syntax.specs.Refusal.{Refusal, WrongKind, UnknownName, refused_if, first_of}
use Rattle.edd_syntax.specs.Resolution.{FoundMember, members_in, member_kind, member_in, of_kind, item_of_member, item_named}
use Rattle.edd_syntax.specs.Text.{Name}
use Rattle.edd_syntax.specs.WellFormed.{is_path, is_plain, is_not_empty, is_member, is_attribute, stands_in, is_item, are_items}

-- ---- what holds of each element of a list

abbrev pub Every : {A : Type 0} → (A → Type 0) → List A → Type 0
Every P [] = Unit {0}
Every P (x ∷ xs) = P x × Every P xs

pub every_append : {A : Type 0} (P : A → Type 0) (xs ys : List A) → Every P (xs ++ ys)
    → Every P xs × Every P ys
every_append P [] ys h = (tt, h)
every_append P (x ∷ xs) ys h = let r = every_append P xs ys h.1 in ((h.0, r.0), r.1)

every_joined : {A : Type 0} (P : A → Type 0) (xs ys : List A) → Every P xs → Every P ys
    → Every P (xs ++ ys)
every_joined P [] ys h k = k
every_joined P (x ∷ xs) ys h k = (h.0, every_joined P xs ys h.1 k)

pub every_flat : {A B : Type 0} (P : B → Type 0) (f : A → List B) (xs : List A)
    → Every P (flat_map f xs) → Every (λ x. Every P (f x)) xs
every_flat P f [] h = tt
every_flat P f (x ∷ xs) h = let r = every_append P (f x) (flat_map f xs)
    h in (r.0, every_flat P f xs r.1)

both : {A : Type 0} (P Q R : A → Type 0) → ((x : A) → P x → Q x → R x) → (xs : List A) → Every P xs
    → Every Q xs → Every R xs
both P Q R f [] h k = tt
both P Q R f (x ∷ xs) h k = (f x h.0 k.0, both P Q R f xs h.1 k.1)

every_then_flat : {A B : Type 0} (P : B → Type 0) (f : A → List B) (xs : List A)
    → Every (λ x. Every P (f x)) xs → Every P (flat_map f xs)
every_then_flat P f [] h = tt
every_then_flat P f (x ∷ xs) h = every_joined P (f x) (flat_map f xs) h.0
    (every_then_flat P f xs h.1)

false_true : false ≡ true → ⊥
false_true e = cc

and_both : (a b : Bool) → IsTrue (a && b) → IsTrue a × IsTrue b
and_both true true h = (h, h)
and_both true false h = absurd (false_true h)
and_both false b h = absurd (false_true h)

every_true : {A : Type 0} (p : A → Bool) (xs : List A) → IsTrue (list_all p xs)
    → Every (λ x. IsTrue (p x)) xs
every_true p [] h = tt
every_true p (x ∷ xs) h = let r = and_both (p x) (list_all p xs) h in (r.0, every_true p xs r.1)

none_some : {A : Type 0} (x : A) → None ≡ Some x → ⊥
none_some x e = cc

same_some : {A : Type 0} (x y : A) → Some x ≡ Some y → x ≡ y
same_some x y e = cc

no_head : {A : Type 0} (x : A) (xs : List A) → x ∷ xs ≡ [] → ⊥
no_head x xs e = cc

found_keeps : {A : Type 0} (P : A → Type 0) (p : A → Bool) (xs : List A) (x : A) → Every P xs
    → find p xs ≡ Some x → P x
found_keeps P p [] x h e = absurd (none_some x e)
found_keeps P p (y ∷ ys) x h e =
    let here : (b : Bool) → (if b then Some y else find p ys) ≡ Some x
    → P x = λ b. elim b as (λ b. (if b then Some y else find p ys) ≡ Some x → P x) [
      | true ↦ λ e. subst P (same_some y x e) h.0
      | false ↦ λ e. found_keeps P p ys x h.1 e
    ] in
    here (p y) e

filtered : {A : Type 0} (P : A → Type 0) (p : A → Bool) (xs : List A) → Every P xs
    → Every P (filter p xs)
filtered P p [] h = tt
filtered P p (y ∷ ys) h =
    let rest = filtered P p ys h.1 in
    let here : (b : Bool) → Every P (if b then y ∷ filter p ys else filter p ys) =
    λ b. elim b as (λ b. Every P (if b then y ∷ filter p ys else filter p ys)) [
      | true ↦ (h.0, rest)
      | false ↦ rest
    ] in
    here (p y)

at_keeps : {A : Type 0} (P : A → Type 0) (xs : List A) (i : ℕ) (x : A) → Every P xs
    → slice_get xs i ≡ Some x → P x
at_keeps P [] i x h e = absurd (none_some x e)
at_keeps P (y ∷ ys) zero x h e = subst P (same_some y x e) h.0
at_keeps P (y ∷ ys) (suc i) x h e = at_keeps P ys i x h.1 e

module _ (unit : Description Path) where
  abbrev Fine : Use → Type 0
  Fine u = faults_of_use unit u ≡ []

  no_first : (xs ys : List Refusal) → None ≡ first_of (xs ++ ys) → (xs ≡ []) × (None ≡ first_of ys)
  no_first [] ys h = (refl, h)
  no_first (x ∷ xs) ys h = absurd (none_some x h)

  pub all_fine : (us : List Use) → None ≡ first_of (flat_map (faults_of_use unit) us) → Every Fine
      us
  all_fine [] h = tt
  all_fine (u ∷ us) h = let r = no_first (faults_of_use unit u) (flat_map (faults_of_use unit) us)
      h in (r.0, all_fine us r.1)

  -- ---- members

  abbrev Names : Kind → Member Path → Type 0
  Names of m = is_some (item_of_member unit (m, of)) ≡ true

  of_same_kind : (i : ItemNo) (of : Kind) (name : Name) (b : Bool)
      → refused_if (not (b || false)) (WrongKind name) ≡ [] → is_some (if b then Some i else None)
      ≡ true
  of_same_kind i of name true e = refl
  of_same_kind i of name false e = absurd (no_head _ _ e)

  named : (of : Kind) (name : Name) (o : Option ItemNo) (members : List Name)
      → IsTrue (not (is_not_empty members))
      → ◌≡◌ {A = List Refusal}
      (elim o [
        | Some i ↦ faults_along unit (of ∷ []) name (kind_of i) (Some i) members
        | None ↦ UnknownName name ∷ []
      ]) [] → is_some (option_and_then (of_kind of) o) ≡ true
  named of name None members plain e = absurd (no_head _ _ e)
  named of name (Some i) [] plain e = of_same_kind i of name (same_kind (kind_of i) of) e
  named of name (Some i) (m ∷ rest) plain e = absurd (false_true plain)

  member_names : (of : Kind) (m : Member Path) → IsTrue (is_member is_path is_plain m)
      → Every Fine (OfItem [] (of ∷ []) m.item ∷ []) → Names of m
  member_names of m good fine =
      let texts = (and_both _ _ good).0 in
      let plain = (and_both _ _ (and_both _ _ texts).0).1 in
      named of m.item.base (item_named unit m.item.base) m.item.members (and_both _ _ plain).1
      fine.0

  attribute_names : (of : Kind) (a : Attribute Path) → IsTrue (is_attribute is_path is_plain a)
      → Every Fine (attribute_uses (CollectionItem of) a) → Every (Names of) (members_in a)
  attribute_names of (item.Members members) good fine =
      both (λ m. IsTrue (is_member is_path is_plain m))
      (λ m. Every Fine (OfItem [] (of ∷ []) m.item ∷ [])) (Names of) (member_names of) members
      (every_true (is_member is_path is_plain) members good)
      (every_flat Fine (λ m. OfItem [] (of ∷ []) m.item ∷ []) members fine)
  attribute_names of _ good fine = tt

  stands_well : (of : Kind) (a : Attribute Path)
      → IsTrue (stands_in is_path is_plain (kind_of_item (CollectionItem of)) a)
      → Every Fine (attribute_uses (CollectionItem of) a) → Every (Names of) (members_in a)
  stands_well of a good fine = attribute_names of a (and_both _ _ (and_both _ _ good).0).1 fine

  -- ---- items

  abbrev Named : FoundMember → Type 0
  Named found = is_some (item_of_member unit found) ≡ true

  picked : (of : Kind) (o : Option (Member Path)) (found : FoundMember)
      → ((x : Member Path) → o ≡ Some x → Names of x) → option_map (λ m. (m, of)) o ≡ Some found
      → Named found
  picked of None found h e = absurd (none_some found e)
  picked of (Some x) found h e = subst Named (same_some (x, of) found e) (h x refl)

  item_names : (sort : ItemKind) (attributes : List (Attribute Path)) (m : Name)
      (found : FoundMember) → IsTrue (list_all (stands_in is_path is_plain (kind_of_item sort))
      attributes) → Every Fine (flat_map (attribute_uses sort) attributes)
      → ◌≡◌ {A = Option FoundMember}
      (elim (member_kind sort) [
        | Some of ↦ option_map (λ x. (x, of))
            (find (λ x. bytes_eq x.name m) (flat_map members_in attributes))
        | None ↦ None
      ]) (Some found)
      → Named found
  item_names (CollectionItem of) attributes m found good fine e =
      let each = both _ _ (λ a. Every (Names of) (members_in a)) (stands_well of) attributes
      (every_true (stands_in is_path is_plain (kind_of_item (CollectionItem of))) attributes
      good) (every_flat Fine (attribute_uses (CollectionItem of)) attributes fine) in
      picked of (find (λ x. bytes_eq x.name m) (flat_map members_in attributes)) found
      (λ x is. found_keeps (Names of) (λ x. bytes_eq x.name m) (flat_map members_in attributes) x
      (every_then_flat (Names of) members_in attributes each) is) e
  item_names _ attributes m found good fine e = absurd (none_some found e)

  abbrev Good : Item Path → Type 0
  Good i = (m : Name) (found : FoundMember) → member_in i m ≡ Some found → Named found

  item_good : (i : Item Path) → IsTrue (is_item is_path is_plain i) → Every Fine (item_uses i)
      → Good i
  item_good i good fine m found e = item_names i.sort i.attributes m found (and_both _ _ good).1
      fine e

  within : (o : Option (Item Path)) (m : Name) (found : FoundMember)
      → ((i : Item Path) → o ≡ Some i → Good i) → option_and_then (λ i. member_in i m) o
      ≡ Some found → Named found
  within None m found h e = absurd (none_some found e)
  within (Some i) m found h e = h i refl m found e

  pub all_named : IsTrue (are_items unit.items) → NoFault unit (unit_uses unit)
      → AllMembersNamed unit
  unfolding are_items NoFault faults_in AllMembersNamed
  all_named good none = λ i m found e.
      let fine = every_flat Fine item_uses unit.items (all_fine (unit_uses unit) none) in
      let goods = both _ _ Good item_good unit.items
      (every_true (is_item is_path is_plain) unit.items good) fine in
      within (item_at unit i) m found (λ it is. at_keeps Good (items_of (kind_of i) unit)
      (index_of i) it (filtered Good (λ x. same_kind (kind_of_item x.sort) (kind_of i))
      unit.items goods) is) e
