-- The body of a method of a checked description declares at most 64 locals.
use Rattle.std.proofs.Common.{◌≡◌, refl, sym, ap, ◌∙◌, subst, ℕ, suc, ◌+◌, ◌≤◌, Bool, true, false, List, [], ◌∷◌, length, map, Option, Some, None, nat_lt, nat_le, arith}
use Rattle.std.specs.Prelude.{sum}
use Rattle.std.specs.List.{fold, list_all, list_any}
use Rattle.std.proofs.lemmas.Grind.{common_steps}
use Rattle.std.proofs.lemmas.Option.{none-some, same_Some}
use Rattle.std.proofs.lemmas.Bool.{or_parts, and_from, leb-true}
use Rattle.std.proofs.Math.Logic.{∥∥₁_elim}
use Rattle.std.proofs.Math.Bool.{Bool-set}
use Rattle.edd_syntax.specs.Reference.{Path}
use Rattle.edd_syntax.specs.declared.reference.Target.{Target}
use Rattle.edd_syntax.specs.declared.reference.Target.TheVariants.{Local}
use Rattle.edd_syntax.specs.declared.limits.Limit.TheVariants as limit
use Rattle.edd_syntax.specs.declared.numbers.Kind.TheVariants as kind
use Rattle.edd_syntax.specs.declared.numbers.MethNo.{MethNo}
use Rattle.edd_syntax.specs.declared.numbers.ItemNo.TheVariants as items_no
use Rattle.edd_syntax.specs.Statement as s
use Rattle.edd_syntax.specs.Statement.{Declarator, Stmt, Body, Nil, Cons, Declare, Statement, CaseLabel, DefaultLabel, slots_of, slots_in}
use Rattle.edd_syntax.specs.Item as item
use Rattle.edd_syntax.specs.Item.{ItemKind, kind_of_item, Attribute, Item, Description}
use Rattle.edd_syntax.specs.Device.{item_at}
use Rattle.edd_syntax.specs.Execution.{body_in, body_of}
use Rattle.edd_syntax.specs.NameRules.{locals_of, transaction_count, too_many}
use Rattle.edd_syntax.specs.Numbers.{same_kind}
use Rattle.edd_syntax.specs.Refusal.{TooMany, refused_if}
use Rattle.edd_syntax.specs.Resolution.{Scope, member_kinds, declared, all_declared, count_of, kinds}
use Rattle.edd_syntax.specs.ResolvedTrees.{◌>>=◌, each, unchanged, resolved_expr, resolved_optional, resolved_cond, resolved_conds, at_scope, resolved_declarators, resolved_stmt, resolved_body, at_attribute, resolved_entry, resolved_member, resolved_element, resolved_type_part, resolved_transaction_part, resolved_attribute, resolved_item, resolved_unit, meant_in, Reading}
use Rattle.edd_syntax.specs.Resolved.{IsChecked}
use Rattle.edd_syntax.proofs.WithinLimits.{each_keeps, no_front, no_rest, no_refusal}
use Rattle.edd_instructions.specs.MethodAgreement.{IsMethodCode}
use Rattle.edd_syntax.specs.Words.{Words}
use Rattle.edd_syntax.specs.Text.{Name}
use Rattle.edd_assembly.specs.LoweredUnits.{IsBodyCode}
use Rattle.edd_syntax.proofs.Made.{bind_some}
use Rattle.edd_syntax.proofs.ItemForms.{at_some, all_mapped}
use Rattle.edd_assembly.proofs.WrittenBodies.{of_picked}

-- ---- the meaning of names leaves the number of locals

module _ {Y : Type 0} (f : Y → ℕ) (n : ℕ) where
  -- what is made of a part that is there
  through : {A : Type 0} (o : Option A) (make : A → Option Y) {y : Y} → (o >>= make) ≡ Some y
      → ((x : A) → o ≡ Some x → make x ≡ Some y → f y ≡ n) → f y ≡ n
  through None make {y} h more = absurd (none-some y h)
  through (Some x) make h more = more x refl h

  it_is : {x y : Y} → Some x ≡ Some y → f x ≡ n → f y ≡ n
  it_is {x} {y} h same = ap f (sym (same_Some x y h)) ∙ same

module _ (names : Reading) where
  same_length : (scope : Scope) (next : ℕ) (ds : List (Declarator Path))
      (ys : List (Declarator Target)) → resolved_declarators names scope next ds ≡ Some ys
      → length ys ≡ length ds
  same_length scope next [] ys h = it_is length 0 h refl
  same_length scope next (d ∷ rest) ys h =
      through length (suc (length rest)) (resolved_optional (at_scope names scope) d.value) _ h
      (λ value e k. through length (suc (length rest)) (resolved_declarators names (declared d.place
      next scope) (next + 1) rest) _ k (λ others e' l. it_is length (suc (length rest)) l
      (ap suc (same_length (declared d.place next scope) (next + 1) rest others e'))))

  mutual
    unfolding resolved_stmt slots_of

    same_slots : (x : Stmt Path) (scope : Scope) (next : ℕ) (y : Stmt Target)
        → resolved_stmt names x scope next ≡ Some y → slots_of y ≡ slots_of x
    same_slots s.Empty scope next y h = it_is slots_of 0 h refl
    same_slots (s.Evaluate e) scope next y h =
        through slots_of 0 (resolved_expr (at_scope names scope) e) _ h
        (λ e' is k. it_is slots_of 0 k refl)
    same_slots (s.Block body) scope next y h =
        through slots_of (slots_in body) (resolved_body names body scope next) _ h
        (λ b is k. it_is slots_of (slots_in body) k (same_slots_in body scope next b is))
    same_slots (s.If condition first) scope next y h =
        through slots_of (slots_of first) (resolved_expr (at_scope names scope) condition) _ h
        (λ c is k. through slots_of (slots_of first) (resolved_stmt names first scope next) _ k
        (λ a is' l. it_is slots_of (slots_of first) l (same_slots first scope next a is')))
    same_slots (s.IfElse condition first otherwise) scope next y h =
        let all = slots_of first + slots_of otherwise in
        through slots_of all (resolved_expr (at_scope names scope) condition) _ h (λ c is k. through
        slots_of all (resolved_stmt names first scope next) _ k (λ a is' l. through slots_of all
        (resolved_stmt names otherwise scope (next + slots_of first)) _ l (λ b is'' m. it_is
        slots_of all m (ap (λ n. n + slots_of b) (same_slots first scope next a is') ∙ ap
        (λ n. slots_of first + n) (same_slots otherwise scope (next + slots_of first) b is'')))))
    same_slots (s.While condition body) scope next y h =
        through slots_of (slots_of body) (resolved_expr (at_scope names scope) condition) _ h
        (λ c is k. through slots_of (slots_of body) (resolved_stmt names body scope next) _ k
        (λ b is' l. it_is slots_of (slots_of body) l (same_slots body scope next b is')))
    same_slots (s.Do body condition) scope next y h =
        through slots_of (slots_of body) (resolved_stmt names body scope next) _ h (λ b is'
        k. through slots_of (slots_of body) (resolved_expr (at_scope names scope) condition) _ k
        (λ c is l. it_is slots_of (slots_of body) l (same_slots body scope next b is')))
    same_slots (s.For initial condition update body) scope next y h =
        through slots_of (slots_of body) (resolved_optional (at_scope names scope) initial) _ h
        (λ i is k. through slots_of (slots_of body)
        (resolved_optional (at_scope names scope) condition) _ k (λ c is' l. through slots_of
        (slots_of body) (resolved_optional (at_scope names scope) update) _ l
        (λ u is'' m. through slots_of (slots_of body) (resolved_stmt names body scope next) _ m
        (λ b is''' n. it_is slots_of (slots_of body) n (same_slots body scope next b is''')))))
    same_slots (s.Switch on body) scope next y h =
        through slots_of (slots_in body) (resolved_expr (at_scope names scope) on) _ h
        (λ o is k. through slots_of (slots_in body) (resolved_body names body scope next) _ k
        (λ b is' l. it_is slots_of (slots_in body) l (same_slots_in body scope next b is')))
    same_slots s.Break scope next y h = it_is slots_of 0 h refl
    same_slots s.Continue scope next y h = it_is slots_of 0 h refl
    same_slots s.Return scope next y h = it_is slots_of 0 h refl

    same_slots_in : (x : Body Path) (scope : Scope) (next : ℕ) (y : Body Target)
        → resolved_body names x scope next ≡ Some y → slots_in y ≡ slots_in x
    same_slots_in Nil scope next y h = it_is slots_in 0 h refl
    same_slots_in (Cons (Declare declarators) rest) scope next y h =
        let all = length declarators + slots_in rest in
        let inner = all_declared scope next declarators in
        through slots_in all (resolved_declarators names scope next declarators) _ h
        (λ ds is k. through slots_in all
        (resolved_body names rest inner (next + length declarators)) _ k (λ r is' l. it_is slots_in
        all l (ap (λ n. n + slots_in r) (same_length scope next declarators ds is) ∙ ap (λ n. length
        declarators + n) (same_slots_in rest inner (next + length declarators) r is'))))
    same_slots_in (Cons (Statement first) rest) scope next y h =
        let all = slots_of first + slots_in rest in
        through slots_in all (resolved_stmt names first scope next) _ h (λ a is k. through slots_in
        all (resolved_body names rest scope (next + slots_of first)) _ k (λ r is' l. it_is slots_in
        all l (ap (λ n. n + slots_in r) (same_slots first scope next a is)
        ∙ ap (λ n. slots_of first + n) (same_slots_in rest scope (next + slots_of first) r is'))))
    same_slots_in (Cons (CaseLabel label) rest) scope next y h =
        through slots_in (slots_in rest) (resolved_body names rest scope next) _ h
        (λ r is k. it_is slots_in (slots_in rest) k (same_slots_in rest scope next r is))
    same_slots_in (Cons DefaultLabel rest) scope next y h =
        through slots_in (slots_in rest) (resolved_body names rest scope next) _ h
        (λ r is k. it_is slots_in (slots_in rest) k (same_slots_in rest scope next r is))

-- ---- the locals of an item

-- the locals of a body, and none of another attribute
abbrev locals_in : {R : Type 0} → Attribute R → ℕ
locals_in (item.Definition body) = slots_in body
locals_in _ = 0

keeps_locals : (names : Reading) (sort : ItemKind) (a : Attribute Path)
    (b : Attribute Target) → resolved_attribute names sort a ≡ Some b → locals_in b ≡ locals_in a
keeps_locals names sort (item.OneText which c) b h =
    through locals_in 0 (resolved_cond (at_attribute names) unchanged c) _ h
    (λ x is k. it_is locals_in 0 k refl)
keeps_locals names sort (item.Class words) b h = it_is locals_in 0 h refl
keeps_locals names sort (item.Handling c) b h =
    through locals_in 0 (resolved_cond (at_attribute names) unchanged c) _ h
    (λ x is k. it_is locals_in 0 k refl)
keeps_locals names sort (item.Validity c) b h =
    through locals_in 0 (resolved_cond (at_attribute names) unchanged c) _ h
    (λ x is k. it_is locals_in 0 k refl)
keeps_locals names sort (item.TypeOf word parts) b h =
    through locals_in 0 (each (resolved_type_part names) parts) _ h
    (λ x is k. it_is locals_in 0 k refl)
keeps_locals names sort (item.Number n) b h = it_is locals_in 0 h refl
keeps_locals names sort (item.Operation o) b h = it_is locals_in 0 h refl
keeps_locals names sort (item.Transaction number parts) b h =
    through locals_in 0 (each (resolved_transaction_part names) parts) _ h
    (λ x is k. it_is locals_in 0 k refl)
keeps_locals names sort (item.ResponseCodes responses) b h =
    it_is locals_in 0 h refl
keeps_locals names sort (item.Items entries) b h =
    through locals_in 0 (resolved_conds (at_attribute names) (resolved_entry names) entries) _ h
    (λ x is k. it_is locals_in 0 k refl)
keeps_locals names sort (item.Members members) b h =
    through locals_in 0 (each (resolved_member names (member_kinds sort)) members) _ h
    (λ x is k. it_is locals_in 0 k refl)
keeps_locals names sort (item.Elements elements) b h =
    through locals_in 0 (each (resolved_element names) elements) _ h
    (λ x is k. it_is locals_in 0 k refl)
keeps_locals names sort (item.Definition body) b h =
    through locals_in (slots_in body) (resolved_body names body [] 0) _ h
    (λ x is k. it_is locals_in (slots_in body) k (same_slots_in names body [] 0 x is))

sum_from : (n : ℕ) (xs : List ℕ) → fold (λ a x. a + x) n xs ≡ n + sum xs
sum_from n [] = omega arith
sum_from n (x ∷ xs) = sum_from (n + x) xs ∙ omega (arith, sum_from (0 + x) xs)

-- sums are the same where they are the same of each element alone
same_sums : {A : Type 0} (f g : A → ℕ) → ((x : A) → sum (map f (x ∷ [])) ≡ sum (map g (x ∷ [])))
    → (xs : List A) → sum (map f xs) ≡ sum (map g xs)
same_sums f g same [] = refl
same_sums f g same (x ∷ xs) = sum_from (0 + f x) (map f xs)
    ∙ omega (arith, same x, same_sums f g same xs) ∙ sym (sum_from (0 + g x) (map g xs))

module _ {R : Type 0} (sort : ItemKind) (name : Name) where
  of_one : (a : Attribute R) → locals_of (record { sort = sort; name = name; attributes = a ∷ [] })
      ≡ sum (map locals_in (a ∷ []))
  of_one (item.OneText which c) = refl
  of_one _ = refl

  -- they are those of the rule on counts
  locals_are : (attributes : List (Attribute R))
      → locals_of (record { sort = sort; name = name; attributes = attributes })
      ≡ sum (map locals_in attributes)
  locals_are attributes = same_sums _ locals_in of_one attributes

-- a body has no more than all bodies of its item
first_body : (attributes : List (Attribute Target)) → slots_in (body_in attributes)
    ≤ sum (map locals_in attributes)
unfolding slots_of
first_body [] = omega arith
first_body (item.Definition body ∷ rest) =
    omega (arith, sum_from (0 + slots_in body) (map locals_in rest))
first_body (_ ∷ rest) = first_body rest

-- ---- a checked description

abbrev has_few : {R : Type 0} → Item R → Bool
has_few i = nat_le (locals_of i) 64

keeps_few : (names : Reading) (i : Item Path) (y : Item Target)
    → resolved_item names i ≡ Some y → has_few y ≡ has_few i
keeps_few names i y h =
    let x = bind_some (each (resolved_attribute names i.sort) i.attributes)
    (λ attributes. Some (record { sort = i.sort; name = i.name; attributes = attributes })) y
    h in
    ap (λ n. nat_le n 64)
    (sym (at_some locals_of 0 (record { sort = i.sort; name = i.name; attributes = x.0 }) y x.2)
    ∙ locals_are i.sort i.name x.0
    ∙ ap sum (each_keeps (resolved_attribute names i.sort) locals_in locals_in
    (keeps_locals names i.sort) i.attributes x.0 x.1)
    ∙ sym (locals_are i.sort i.name i.attributes))

none_over : {R : Type 0} (items : List (Item R)) → list_any (λ i. nat_lt 64 (locals_of i)) items
    ≡ false → list_all has_few items ≡ true
none_over [] h = refl
none_over (i ∷ rest) h =
    let parts = or_parts (nat_lt 64 (locals_of i)) (list_any (λ j. nat_lt 64 (locals_of j)) rest)
    h in
    and_from (has_few i) (list_all has_few rest) (grind (arith, common_steps, parts.0))
    (none_over rest parts.1)

all_few : (d : Description Target) → IsChecked d → list_all has_few d.items ≡ true
unfolding resolved_unit
all_few d checked =
    let r = checked.is_resolved in
    let u = r.unit in
    let x = bind_some (each (resolved_item (meant_in u)) u.items)
    (λ items. Some (record { identification = u.identification; items = items })) d
    r.meanings in
    let many = no_front (too_many u) _ r.no_breach in
    let behind_items = no_rest (refused_if (list_any (λ k. nat_lt 4096 (count_of k u.items)) kinds)
    (TooMany limit.Items)) _ many in
    let behind_transactions =
    no_rest (refused_if (list_any (λ i. nat_lt 4096 (transaction_count i)) u.items)
    (TooMany limit.Transactions)) _ behind_items in
    sym (at_some (λ (e : Description Target). list_all has_few e.items) false
    (record { identification = u.identification; items = x.0 }) d x.2)
    ∙ all_mapped has_few x.0
    ∙ ap (list_all (λ b. b))
    (each_keeps (resolved_item (meant_in u)) has_few has_few (keeps_few (meant_in u)) u.items x.0
    x.1)
    ∙ sym (all_mapped has_few u.items)
    ∙ none_over u.items (no_refusal (list_any (λ i. nat_lt 64 (locals_of i)) u.items)
    (TooMany limit.Locals) (no_front _ _ behind_transactions))

few_slots : (d : Description Target) → ∥ IsChecked d ∥₁ → (m : MethNo) → slots_in (body_of d m) ≤ 64
unfolding slots_of
few_slots d checked m = by_item (item_at d (items_no.Method m)) refl
  where
    by_item : (o : Option (Item Target)) → item_at d (items_no.Method m) ≡ o
        → slots_in (elim o as (λ w. Body Target) [ Some i ↦ body_in i.attributes | None ↦ Nil ])
        ≤ 64
    by_item None is = omega arith
    by_item (Some i) is =
        let few = leb-true (locals_of i) 64
        (of_picked has_few (λ j. same_kind (kind_of_item j.sort) kind.Method) d.items m.0 i
        (∥∥₁_elim checked (Bool-set _ _) (all_few d)) is) in
        omega (arith, few, locals_are i.sort i.name i.attributes, first_body i.attributes)

pub body_code : (d : Description Target) {strings : List Words} (m : MethNo) {slots : ℕ}
    (code : List ℕ) → ∥ IsChecked d ∥₁ → IsMethodCode d strings m slots code
    → IsBodyCode d strings slots code
body_code d m code checked is =
    record {
      few_slots = subst (λ n. n ≤ 64) (sym is.locals) (few_slots d checked m);
      valid = is.valid;
    }
