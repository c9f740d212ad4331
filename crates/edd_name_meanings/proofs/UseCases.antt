-- A use has one fault and no meaning, or a meaning and no fault, or it goes through a member that
-- names nothing, which has its own fault.
use Rattle.std.proofs.Common.{◌≡◌, refl, sym, ap, ◌∙◌, ℕ, zero, suc, Bool, true, false, not, List, [], ◌∷◌, ◌++◌, map, Option, Some, None, subst}
use Rattle.std.specs.Prelude.{if◌then◌else◌, is_some, option_and_then, option_map, slice_get, filter, find}
use Rattle.std.specs.Str.{bytes_eq}
use Rattle.std.proofs.lemmas.List.{append-nil}
use Rattle.edd_breaches.specs.declared.breach.Breach.{Breach}
use Rattle.edd_breaches.specs.Told as breaches
use Rattle.edd_breaches.specs.Told.{refusal_of, told_at, told_of}
use Rattle.edd_breaches.proofs.TellLaws.{tells_one}
use Rattle.edd_name_meanings.specs.Meanings.{AllMembersNamed, IsFaultOf, faults_in, item_among}
use Rattle.edd_name_meanings.specs.Copies.{Tells, told_in}
use Rattle.edd_name_meanings.specs.Places.{place_of_use}
use Rattle.edd_name_meanings.specs.StandIns.{kinds_at, or_stand_in, read_in, reading_of, stand_in}
use Rattle.edd_syntax.specs.declared.numbers.Kind.{Kind}
use Rattle.edd_syntax.specs.declared.numbers.Kind.TheVariants as kind
use Rattle.edd_syntax.specs.declared.numbers.ItemNo.{ItemNo}
use Rattle.edd_syntax.specs.declared.operators.Builtin.{Builtin}
use Rattle.edd_syntax.specs.declared.reference.Path as code
use Rattle.edd_syntax.specs.declared.reference.Target.{Target}
use Rattle.edd_syntax.specs.declared.reference.Target.TheVariants.{Item, Local, Function}
use Rattle.edd_syntax.specs.Device.{item_at}
use Rattle.edd_syntax.specs.Item as item
use Rattle.edd_syntax.specs.Item.{Description, ItemKind, VariableItem, CommandItem, MenuItem, CollectionItem, MethodItem, ArrayItem, kind_of_item}
use Rattle.edd_syntax.specs.NameRules.{faults_along, faults_of_item, faults_of_local, faults_of_use, is_kind_among}
use Rattle.edd_syntax.specs.NameUses.{Use, OfItem, OfArray, OfFunction}
use Rattle.edd_syntax.specs.Numbers.{index_of, kind_of, same_kind}
use Rattle.edd_syntax.specs.Reference.{Path}
use Rattle.edd_syntax.specs.Refusal.{Refusal, UnknownName, WrongKind, first_of, refused_if}
use Rattle.edd_syntax.specs.Resolution.{FoundMember, along, array_kinds, builtins, item_meant, item_named, item_of_member, local_meant, look_up, member_at, member_in, member_kind, members_of, of_kind}
use Rattle.edd_syntax.specs.ResolvedTrees.{meant_in}
use Rattle.edd_syntax.proofs.KnownByNumber.{same_kinds}
use Rattle.edd_syntax.specs.Text.{Name}

some_none : {A : Type 0} (x : A) → Some x ≡ None → ⊥
some_none x e = cc

false_true : false ≡ true → ⊥
false_true e = cc

-- the faults and the meaning of a use
data Case (unit : Description Path) (faults : List Refusal) (meant : Option Target) : Type 0 where
  Faulty : (r : Refusal) → faults ≡ r ∷ [] → meant ≡ None → Case unit faults meant
  Fine : (t : Target) → faults ≡ [] → meant ≡ Some t → Case unit faults meant
  Unnamed : faults ≡ [] → meant ≡ None → (AllMembersNamed unit → ⊥) → Case unit faults meant

-- ---- an item of another kind than a collection has no members

kept_first : {A : Type 0} (p : A → Bool) (y : A) (ys : List A) (n : ℕ) (x : A)
    → ((n : ℕ) → slice_get (filter p ys) n ≡ Some x → p x ≡ true) → p y ≡ true
    → slice_get (y ∷ filter p ys) n ≡ Some x → p x ≡ true
kept_first p y ys zero x next keeps is = let same : Some y ≡ Some x = is in
    let e : y ≡ x = cc in ap p (sym e) ∙ keeps
kept_first p y ys (suc n) x next keeps is = next n is

kept_by : {A : Type 0} (p : A → Bool) (xs : List A) (n : ℕ) (x : A)
    → slice_get (filter p xs) n ≡ Some x → p x ≡ true
kept_by p [] n x is = absurd (some_none x (sym is))
kept_by p (y ∷ ys) n x is =
    let here : (b : Bool) → p y ≡ b
    → slice_get (if b then y ∷ filter p ys else filter p ys) n ≡ Some x
    → p x ≡ true = λ b. elim b as (λ b. p y ≡ b
    → slice_get (if b then y ∷ filter p ys else filter p ys) n ≡ Some x → p x ≡ true) [
      | true ↦ λ keeps. kept_first p y ys n x (λ m. kept_by p ys m x) keeps
      | false ↦ λ keeps is. kept_by p ys n x is
    ] in
    here (p y) refl is

of_other_kind : (sort : ItemKind) (k : Kind) → same_kind (kind_of_item sort) k ≡ true
    → same_kind k kind.Collection ≡ false → member_kind sort ≡ None
of_other_kind VariableItem k is other = refl
of_other_kind CommandItem k is other = refl
of_other_kind MenuItem k is other = refl
of_other_kind (CollectionItem of) kind.Variable is other = absurd (false_true is)
of_other_kind (CollectionItem of) kind.Command is other = absurd (false_true is)
of_other_kind (CollectionItem of) kind.Menu is other = absurd (false_true is)
of_other_kind (CollectionItem of) kind.Collection is other = absurd (false_true (sym other))
of_other_kind (CollectionItem of) kind.Method is other = absurd (false_true is)
of_other_kind (CollectionItem of) kind.Array is other = absurd (false_true is)
of_other_kind MethodItem k is other = refl
of_other_kind ArrayItem k is other = refl

module _ (unit : Description Path) where
  no_member : (i : ItemNo) (m : Name) → same_kind (kind_of i) kind.Collection ≡ false
      → member_at unit i m ≡ None
  no_member i m other = within (item_at unit i) refl
    where
      within : (o : Option (item.Item Path)) → item_at unit i ≡ o
          → option_and_then (λ found. member_in found m) o ≡ None
      within None is = refl
      within (Some x) is =
          let k = kept_by (λ y. same_kind (kind_of_item y.sort) (kind_of i)) unit.items (index_of i)
          x is in
          ap (λ o. elim o as (λ _. Option FoundMember) [
            | Some of ↦ option_map (λ found. (found, of))
                (find (λ y. bytes_eq y.name m) (members_of x))
            | None ↦ None
          ]) (of_other_kind x.sort (kind_of i) k other)

  -- ---- along a path

  abbrev meant_along : List Kind → Option ItemNo → List Name → Option Target
  meant_along allowed o members = item_among allowed (option_and_then (λ i. along unit i members) o)

  last_known : (allowed : List Kind) (name : Name) (k : Kind) (i : ItemNo) (b : Bool)
      → is_kind_among allowed k ≡ b → kind_of i ≡ k
      → Case unit (refused_if (not b) (WrongKind name)) (item_among allowed (Some i))
  last_known allowed name k i true among same = Fine (Item i) refl
      (ap (λ b. if b then Some (Item i) else None) (ap (is_kind_among allowed) same ∙ among))
  last_known allowed name k i false among same = Faulty (WrongKind name) refl
      (ap (λ b. if b then Some (Item i) else None) (ap (is_kind_among allowed) same ∙ among))

  unknown_here : (name : Name) (b : Bool) → (AllMembersNamed unit → ⊥)
      → Case unit (refused_if (not b) (WrongKind name)) None
  unknown_here name true unnamed = Unnamed refl refl unnamed
  unknown_here name false unnamed = Faulty (WrongKind name) refl refl

  kind_known : (k : Kind) (o : Option ItemNo) (j : ItemNo) → option_and_then (of_kind k) o ≡ Some j
      → kind_of j ≡ k
  kind_known k None j is = absurd (some_none j (sym is))
  kind_known k (Some i) j is = here (same_kind (kind_of i) k) refl is
    where
      here : (b : Bool) → same_kind (kind_of i) k ≡ b → (if b then Some i else None) ≡ Some j
          → kind_of j ≡ k
      here true same found = let e : Some i ≡ Some j = found in
          let f : i ≡ j = cc in ap kind_of (sym f) ∙ same_kinds (kind_of i) k same
      here false same found = absurd (some_none j (sym found))

  goes_on : (allowed : List Kind) (rest : List Name) (o : Option ItemNo) → meant_along allowed o
      rest
      ≡ item_among allowed (elim o as (λ _. Option ItemNo) [
        | Some j ↦ along unit j rest
        | None ↦ None
      ])
  goes_on allowed rest (Some j) = refl
  goes_on allowed rest None = refl

  no_name : (i : ItemNo) (m : Name) (found : FoundMember) → member_at unit i m ≡ Some found
      → item_of_member unit found ≡ None → AllMembersNamed unit → ⊥
  unfolding AllMembersNamed
  no_name i m found is none all = false_true (sym (ap is_some none) ∙ all i m found is)

  step_to : (allowed : List Kind) (i : ItemNo) (m : Name) (rest : List Name)
      → ((found : FoundMember) → member_at unit i m ≡ Some found
      → Case unit (faults_along unit allowed m found.1 (item_of_member unit found) rest)
      (meant_along allowed (item_of_member unit found) rest))
      → (o : Option FoundMember) → member_at unit i m ≡ o
      → Case unit (elim o as (λ _. List Refusal) [
        | Some found ↦ faults_along unit allowed m found.1 (item_of_member unit found) rest
        | None ↦ UnknownName m ∷ []
      ]) (item_among allowed (elim (option_and_then (item_of_member unit) o)
      as (λ _. Option ItemNo) [
        | Some j ↦ along unit j rest
        | None ↦ None
      ]))
  step_to allowed i m rest next None is = Faulty (UnknownName m) refl refl
  step_to allowed i m rest next (Some found) is =
      subst (Case unit (faults_along unit allowed m found.1 (item_of_member unit found) rest))
      (goes_on allowed rest (item_of_member unit found)) (next found is)

  step_from : (allowed : List Kind) (name : Name) (k : Kind) (i : ItemNo) (m : Name)
      (rest : List Name) → kind_of i ≡ k
      → ((found : FoundMember) → member_at unit i m ≡ Some found
      → Case unit (faults_along unit allowed m found.1 (item_of_member unit found) rest)
      (meant_along allowed (item_of_member unit found) rest))
      → (b : Bool) → same_kind k kind.Collection ≡ b
      → Case unit (if not b then WrongKind name ∷ []
      else elim (member_at unit i m) as (λ _. List Refusal) [
        | Some found ↦ faults_along unit allowed m found.1 (item_of_member unit found) rest
        | None ↦ UnknownName m ∷ []
      ]) (meant_along allowed (Some i) (m ∷ rest))
  step_from allowed name k i m rest same next true is =
      step_to allowed i m rest next (member_at unit i m) refl
  step_from allowed name k i m rest same next false is =
      Faulty (WrongKind name) refl
      (ap (λ o. item_among allowed (elim (option_and_then (item_of_member unit) o)
      as (λ _. Option ItemNo) [
        | Some j ↦ along unit j rest
        | None ↦ None
      ])) (no_member i m (ap (λ x. same_kind x kind.Collection) same ∙ is)))

  case_along : (allowed : List Kind) (name : Name) (k : Kind) (o : Option ItemNo)
      (members : List Name) → ((i : ItemNo) → o ≡ Some i → kind_of i ≡ k)
      → (o ≡ None → AllMembersNamed unit → ⊥)
      → Case unit (faults_along unit allowed name k o members) (meant_along allowed o members)
  case_along allowed name k (Some i) [] same known =
      last_known allowed name k i (is_kind_among allowed k) refl (same i refl)
  case_along allowed name k None [] same known = unknown_here name (is_kind_among allowed k)
      (known refl)
  case_along allowed name k None (m ∷ rest) same known =
      unknown_here name (same_kind k kind.Collection) (known refl)
  case_along allowed name k (Some i) (m ∷ rest) same known =
      step_from allowed name k i m rest (same i refl)
      (λ found is. case_along allowed m found.1 (item_of_member unit found) rest
      (kind_known found.1 (item_named unit found.0.item.base)) (no_name i m found is))
      (same_kind k kind.Collection) refl

  -- ---- uses

  case_of_local : (path : Path) (slot : ℕ) (members : List Name)
      → Case unit (faults_of_local path members) (local_meant slot members)
  case_of_local path slot [] = Fine (Local slot) refl refl
  case_of_local path slot (m ∷ rest) = Faulty (WrongKind path.base) refl refl

  case_of_item : (allowed : List Kind) (path : Path)
      → Case unit (faults_of_item unit allowed path) (item_meant unit allowed path)
  case_of_item allowed path = here (item_named unit path.base)
    where
      same_item : (i j : ItemNo) → Some i ≡ Some j → kind_of j ≡ kind_of i
      same_item i j same = ap kind_of cc

      here : (o : Option ItemNo) → Case unit (elim o as (λ _. List Refusal) [
        | Some i ↦ faults_along unit allowed path.base (kind_of i) (Some i) path.members
        | None ↦ UnknownName path.base ∷ []
      ]) (meant_along allowed o path.members)
      here None = Faulty (UnknownName path.base) refl refl
      here (Some i) = case_along allowed path.base (kind_of i) (Some i) path.members (same_item i)
          (λ clash. absurd (some_none i clash))

  case_of_use : (u : Use) → Case unit (faults_of_use unit u) (reading_of (meant_in unit) u)
  case_of_use (OfItem scope allowed path) = here (look_up path.base scope)
    where
      here : (o : Option ℕ) → Case unit (elim o as (λ _. List Refusal) [
        | Some slot ↦ faults_of_local path path.members
        | None ↦ faults_of_item unit allowed path
      ]) (elim o as (λ _. Option Target) [
        | Some slot ↦ local_meant slot path.members
        | None ↦ item_meant unit allowed path
      ])
      here (Some slot) = case_of_local path slot path.members
      here None = case_of_item allowed path
  case_of_use (OfArray scope path) = here (look_up path.base scope)
    where
      here : (o : Option ℕ) → Case unit (elim o as (λ _. List Refusal) [
        | Some slot ↦ WrongKind path.base ∷ []
        | None ↦ faults_of_item unit array_kinds path
      ]) (elim o as (λ _. Option Target) [
        | Some slot ↦ None
        | None ↦ item_meant unit array_kinds path
      ])
      here (Some slot) = Faulty (WrongKind path.base) refl refl
      here None = case_of_item array_kinds path
  case_of_use (OfFunction path) = here (look_up path.base builtins)
    where
      here : (o : Option Builtin) → Case unit (elim o as (λ _. List Refusal) [
        | Some f ↦ []
        | None ↦ UnknownName path.base ∷ []
      ]) (option_map Function o)
      here (Some f) = Fine (Function f) refl refl
      here None = Faulty (UnknownName path.base) refl refl

  -- ---- the fault of a use

  -- is all that is told of it, and the use has no meaning
  alone : (u : Use) (r : Refusal) → first_of (faults_of_use unit u) ≡ Some r
      → (faults_of_use unit u ≡ r ∷ []) × (reading_of (meant_in unit) u ≡ None)
  alone u r first = here (case_of_use u)
    where
      here : Case unit (faults_of_use unit u) (reading_of (meant_in unit) u)
          → (faults_of_use unit u ≡ r ∷ []) × (reading_of (meant_in unit) u ≡ None)
      here (Faulty s is none) = let same : Some s ≡ Some r = sym (ap first_of is) ∙ first in
          (is ∙ ap (λ t. t ∷ []) cc, none)
      here (Fine t is meant) = absurd (some_none r (sym first ∙ ap first_of is))
      here (Unnamed is none unnamed) = absurd (some_none r (sym first ∙ ap first_of is))

  fault_alone : (b : Breach) (u : Use) (p : code.Path) → IsFaultOf b unit u p
      → (faults_of_use unit u ≡ refusal_of b.rule ∷ []) × (reading_of (meant_in unit) u ≡ None)
  unfolding IsFaultOf faults_in
  fault_alone b u p fault = alone u (refusal_of b.rule)
      (ap first_of (sym (append-nil (faults_of_use unit u))) ∙ fault.0)

  told : (b : Breach) (u : Use) (p : code.Path) → IsFaultOf b unit u p
      → told_of b ∷ [] ≡ told_in unit (u ∷ []) (p ∷ [])
  unfolding IsFaultOf
  told b u p fault =
      ap (λ place. (record { refusal = refusal_of b.rule; place = place }) ∷ []) fault.1
      ∙ ap (λ rs. map (λ why. told_at why (place_of_use unit u p)) rs ++ [])
      (sym (fault_alone b u p fault).0)

  pub tells_fault : (b : Breach) (u : Use) (p : code.Path) (old new : List Breach)
      → IsFaultOf b unit u p → new ≡ old ++ b ∷ [] → Tells unit (u ∷ []) (p ∷ []) old new
  unfolding Tells
  tells_fault b u p old new fault grown = (
    refl,
    subst (λ all. breaches.Tells all old new) (told b u p fault) (tells_one b old new grown),
  )

  -- ---- what is read at a use

  read_is : (u : Use) → reading_of (read_in unit) u
      ≡ or_stand_in (kinds_at u) (reading_of (meant_in unit) u)
  read_is (OfItem scope kinds path) = refl
  read_is _ = refl

  -- with a fault, what stands for its meaning
  pub reads_at_fault : (b : Breach) (u : Use) (p : code.Path) → IsFaultOf b unit u p
      → reading_of (read_in unit) u ≡ Some (stand_in (kinds_at u))
  reads_at_fault b u p fault = read_is u ∙ ap (or_stand_in (kinds_at u)) (fault_alone b u p fault).1

  -- without one, its meaning
  pub reads_as_meant : (u : Use) → faults_of_use unit u ≡ [] → AllMembersNamed unit
      → reading_of (read_in unit) u ≡ reading_of (meant_in unit) u
  reads_as_meant u fine named = here (case_of_use u)
    where
      here : Case unit (faults_of_use unit u) (reading_of (meant_in unit) u)
          → reading_of (read_in unit) u ≡ reading_of (meant_in unit) u
      here (Faulty r is none) = absurd (some_none r (ap first_of (sym is ∙ fine)))
      here (Fine t is meant) = read_is u ∙ ap (or_stand_in (kinds_at u)) meant ∙ sym meant
      here (Unnamed is none unnamed) = absurd (unnamed named)
