-- The declarators of a resolved body have slots below the number of them.
use Rattle.std.proofs.Common.{◌≡◌, refl, subst, ℕ, ◌+◌, ◌≤◌, List, [], ◌∷◌, length, Option, Some, None, arith}
use Rattle.std.proofs.lemmas.Option.{none-some, same_Some}
use Rattle.edd_syntax.specs.declared.reference.Target.{Target}
use Rattle.edd_syntax.specs.declared.reference.Target.TheVariants.{Local}
use Rattle.edd_syntax.specs.Reference.{Path}
use Rattle.edd_syntax.specs.Statement.{Declarator, Stmt, Evaluate, Block, If, IfElse, While, Do, For, Switch, Body, Nil, Cons, Declare, Statement, slots_of, slots_in}
use Rattle.edd_syntax.specs.Resolution.{Scope, declared, all_declared}
use Rattle.edd_syntax.specs.ResolvedTrees.{◌>>=◌, resolved_expr, resolved_optional, at_scope, resolved_declarators, resolved_stmt, resolved_body, Reading}
use Rattle.edd_methods.specs.TreeExpressions.{IsSlotBelow, EachSlotOf, HasSlots, EachSlot}

-- ---- a higher limit

module _ (m n : ℕ) (le : m ≤ n) where
  slot_below : (t : Target) → IsSlotBelow m t → IsSlotBelow n t
  slot_below (Local slot) is = omega (arith, is, le)
  slot_below _ is = absurd is

  pub each_slot_of : (ds : List (Declarator Target)) → EachSlotOf m ds → EachSlotOf n ds
  each_slot_of [] slots = tt
  each_slot_of (d ∷ rest) slots = (slot_below d.place slots.0, each_slot_of rest slots.1)

  mutual
    pub has_slots : (x : Stmt Target) → HasSlots m x → HasSlots n x
    has_slots (Block body) slots = each_slot body slots
    has_slots (If condition first) slots = has_slots first slots
    has_slots (IfElse condition first otherwise) slots =
        (has_slots first slots.0, has_slots otherwise slots.1)
    has_slots (While condition body) slots = has_slots body slots
    has_slots (Do body condition) slots = has_slots body slots
    has_slots (For first condition update body) slots = has_slots body slots
    has_slots (Switch on body) slots = each_slot body slots
    has_slots _ slots = tt

    pub each_slot : (b : Body Target) → EachSlot m b → EachSlot n b
    each_slot Nil slots = tt
    each_slot (Cons (Declare ds) rest) slots = (each_slot_of ds slots.0, each_slot rest slots.1)
    each_slot (Cons (Statement x) rest) slots = (has_slots x slots.0, each_slot rest slots.1)
    each_slot (Cons _ rest) slots = each_slot rest slots

-- ---- resolved trees

-- a value that is made of another
pub bound : {A B : Type 0} (o : Option A) (f : A → Option B) {b : B} → (o >>= f) ≡ Some b
    → (x : A) × (o ≡ Some x) × (f x ≡ Some b)
bound None f {b} h = absurd (none-some b h)
bound (Some x) f h = (x, refl, h)

-- as many slots as before, from `next` on
abbrev AreIn : (slots next : ℕ) → List (Declarator Target) → Type 0
AreIn slots next ds = (length ds ≡ slots) × EachSlotOf (next + slots) ds

abbrev IsIn : (slots next : ℕ) → Stmt Target → Type 0
IsIn slots next x = (slots_of x ≡ slots) × HasSlots (next + slots) x

abbrev pub IsInBody : (slots next : ℕ) → Body Target → Type 0
IsInBody slots next b = (slots_in b ≡ slots) × EachSlot (next + slots) b

module _ (names : Reading) where
  declarators_in : (ds : List (Declarator Path)) (scope : Scope) (next : ℕ)
      (ds' : List (Declarator Target)) → resolved_declarators names scope next ds ≡ Some ds'
      → AreIn (length ds) next ds'
  declarators_in [] scope next ds' h = subst (AreIn 0 next) (same_Some [] ds' h) (refl, tt)
  declarators_in (d ∷ rest) scope next ds' h =
      let a = bound (resolved_optional (at_scope names scope) d.value) _ h in
      let b =
      bound (resolved_declarators names (declared d.place next scope) (next + 1) rest) _ a.2 in
      let i = declarators_in rest (declared d.place next scope) (next + 1) b.0 b.1 in
      subst (AreIn (length (d ∷ rest)) next) (same_Some _ ds' b.2) (
        omega (arith, i.0),
        (
          omega arith,
          each_slot_of (next + 1 + length rest)
              (next + length (d ∷ rest)) (omega arith) b.0 i.1,
        ),
      )

  mutual
    unfolding resolved_stmt slots_of

    pub statement_in : (x : Stmt Path) (scope : Scope) (next : ℕ) (x' : Stmt Target)
        → resolved_stmt names x scope next ≡ Some x' → IsIn (slots_of x) next x'
    statement_in (Evaluate e) scope next x' h =
        let a = bound (resolved_expr (at_scope names scope) e) _ h in
        subst (IsIn 0 next) (same_Some _ x' a.2) (refl, tt)
    statement_in (Block body) scope next x' h =
        let a = bound (resolved_body names body scope next) _ h in
        let i = body_in body scope next a.1 in
        subst (IsIn (slots_in body) next) (same_Some _ x' a.2) (i.0, i.1)
    statement_in (If condition first) scope next x' h =
        let a = bound (resolved_expr (at_scope names scope) condition) _ h in
        let b = bound (resolved_stmt names first scope next) _ a.2 in
        let i = statement_in first scope next b.0 b.1 in
        subst (IsIn (slots_of first) next) (same_Some _ x' b.2) (i.0, i.1)
    statement_in (IfElse condition first otherwise) scope next x' h =
        let a = bound (resolved_expr (at_scope names scope) condition) _ h in
        let b = bound (resolved_stmt names first scope next) _ a.2 in
        let c = bound (resolved_stmt names otherwise scope (next + slots_of first)) _ b.2 in
        let i = statement_in first scope next b.0 b.1 in
        let j = statement_in otherwise scope (next + slots_of first) c.0 c.1 in
        let all = next + (slots_of first + slots_of otherwise) in
        subst (IsIn (slots_of first + slots_of otherwise) next) (same_Some _ x' c.2) (
          omega (arith, i.0, j.0),
          (
            has_slots (next + slots_of first) all (omega arith) b.0 i.1,
            has_slots (next + slots_of first + slots_of otherwise) all (omega arith) c.0 j.1,
          ),
        )
    statement_in (While condition body) scope next x' h =
        let a = bound (resolved_expr (at_scope names scope) condition) _ h in
        let b = bound (resolved_stmt names body scope next) _ a.2 in
        let i = statement_in body scope next b.0 b.1 in
        subst (IsIn (slots_of body) next) (same_Some _ x' b.2) (i.0, i.1)
    statement_in (Do body condition) scope next x' h =
        let a = bound (resolved_stmt names body scope next) _ h in
        let b = bound (resolved_expr (at_scope names scope) condition) _ a.2 in
        let i = statement_in body scope next a.0 a.1 in
        subst (IsIn (slots_of body) next) (same_Some _ x' b.2) (i.0, i.1)
    statement_in (For first condition update body) scope next x' h =
        let a = bound (resolved_optional (at_scope names scope) first) _ h in
        let b = bound (resolved_optional (at_scope names scope) condition) _ a.2 in
        let c = bound (resolved_optional (at_scope names scope) update) _ b.2 in
        let d = bound (resolved_stmt names body scope next) _ c.2 in
        let i = statement_in body scope next d.0 d.1 in
        subst (IsIn (slots_of body) next) (same_Some _ x' d.2) (i.0, i.1)
    statement_in (Switch on body) scope next x' h =
        let a = bound (resolved_expr (at_scope names scope) on) _ h in
        let b = bound (resolved_body names body scope next) _ a.2 in
        let i = body_in body scope next b.1 in
        subst (IsIn (slots_in body) next) (same_Some _ x' b.2) (i.0, i.1)
    statement_in _ scope next x' h = subst (IsIn 0 next) (same_Some _ x' h) (refl, tt)

    pub body_in : (b : Body Path) (scope : Scope) (next : ℕ) {b' : Body Target}
        → resolved_body names b scope next ≡ Some b' → IsInBody (slots_in b) next b'
    body_in Nil scope next {b'} h = subst (IsInBody 0 next) (same_Some _ b' h) (refl, tt)
    body_in (Cons (Declare ds) rest) scope next {b'} h =
        let a = bound (resolved_declarators names scope next ds) _ h in
        let c =
        bound (resolved_body names rest (all_declared scope next ds) (next + length ds)) _ a.2 in
        let i = declarators_in ds scope next a.0 a.1 in
        let j = body_in rest (all_declared scope next ds) (next + length ds) c.1 in
        let all = next + (length ds + slots_in rest) in
        subst (IsInBody (length ds + slots_in rest) next) (same_Some _ b' c.2) (
          omega (arith, i.0, j.0),
          (
            each_slot_of (next + length ds) all (omega arith) a.0 i.1,
            each_slot (next + length ds + slots_in rest) all (omega arith) c.0 j.1,
          ),
        )
    body_in (Cons (Statement x) rest) scope next {b'} h =
        let a = bound (resolved_stmt names x scope next) _ h in
        let c = bound (resolved_body names rest scope (next + slots_of x)) _ a.2 in
        let i = statement_in x scope next a.0 a.1 in
        let j = body_in rest scope (next + slots_of x) c.1 in
        let all = next + (slots_of x + slots_in rest) in
        subst (IsInBody (slots_of x + slots_in rest) next) (same_Some _ b' c.2) (
          omega (arith, i.0, j.0),
          (
            has_slots (next + slots_of x) all (omega arith) a.0 i.1,
            each_slot (next + slots_of x + slots_in rest) all (omega arith) c.0 j.1,
          ),
        )
    body_in (Cons _ rest) scope next {b'} h =
        let a = bound (resolved_body names rest scope next) _ h in
        let i = body_in rest scope next a.1 in
        subst (IsInBody (slots_in rest) next) (same_Some _ b' a.2) (i.0, i.1)
