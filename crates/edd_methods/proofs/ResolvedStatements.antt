-- What the expressions in a resolved body refer to exists.
use Rattle.std.proofs.Common.{◌≡◌, subst, ℕ, ◌+◌, ◌≤◌, Bool, true, false, List, [], ◌∷◌, ◌++◌, length, Option, Some, None, arith}
use Rattle.std.specs.List.{AllByRecursion, flat_map, list_all}
use Rattle.std.proofs.lemmas.Option.{same_Some}
use Rattle.std.proofs.lemmas.Bool.{lt-ltb, and_parts, and_from}
use Rattle.edd_syntax.specs.declared.numbers.Kind.TheVariants as kind
use Rattle.edd_syntax.specs.declared.reference.Target.{Target}
use Rattle.edd_syntax.specs.Expression.{Expr}
use Rattle.edd_syntax.specs.Item.{Description}
use Rattle.edd_syntax.specs.Reference.{Path}
use Rattle.edd_syntax.specs.Resolution.{Scope, argument_kinds, count_of, declared, all_declared, variable_kinds}
use Rattle.edd_syntax.specs.ResolvedTrees.{at_scope, resolved_expr, resolved_optional, resolved_declarators, resolved_stmt, resolved_body, meant_in}
use Rattle.edd_syntax.specs.Statement.{Declarator, Stmt, Evaluate, Block, If, IfElse, While, Do, For, Switch, Body, Nil, Cons, Declare, Statement, slots_of, slots_in}
use Rattle.edd_syntax.specs.SubsetRules.{Placed, part_of, optional_part, stmt_expressions, body_expressions}
use Rattle.edd_syntax.specs.WellFormed.{if_some, is_path, is_plain, is_expr, is_declarator, is_stmt, is_body}
use Rattle.edd_instructions.specs.declared.unit.Context.{Context}
use Rattle.edd_code.specs.MethodReads.{uses_existing}
use Rattle.edd_methods.proofs.ResolvedExpressions.{array_there, any, IsBelow, expr_good, meant_there}
use Rattle.edd_methods.proofs.ResolvedSlots.{bound}

-- each expression refers to what there is
abbrev pub ReferToExisting : Context → List (Placed Target) → Type 0
ReferToExisting context ps = AllByRecursion (λ p. is_expr (uses_existing context) any p.expression
    ≡ true) ps

module _ (unit : Description Path) (context : Context)
    (variables : count_of kind.Variable unit.items ≡ context.counts.variables)
    (arrays : count_of kind.Array unit.items ≡ context.counts.arrays)
    (methods : count_of kind.Method unit.items ≡ context.counts.methods) where
  abbrev All : List (Placed Target) → Type 0
  All ps = ReferToExisting context ps

  joined : (ps qs : List (Placed Target)) → All ps → All qs → All (ps ++ qs)
  joined [] qs h k = k
  joined (p ∷ ps) qs h k = (h.0, joined ps qs h.1 k)

  -- the locals of a scope and those to come have slots
  abbrev Fits : Scope → (end : ℕ) → Type 0
  Fits scope end = IsBelow context.slots scope × (end ≤ context.slots)

  part_at : (e : Expr Path) (scope : Scope) {e' : Expr Target} → IsBelow context.slots scope
      → is_expr is_path is_plain e ≡ true
      → resolved_expr (at_scope (meant_in unit) scope) e ≡ Some e' → All (part_of e')
  part_at e scope {e'} below is h = (
    expr_good (at_scope (meant_in unit) scope) (uses_existing context)
        (meant_there unit context variables arrays methods variable_kinds scope below)
        (λ name. meant_there unit context variables arrays methods (argument_kinds name) scope
        below)
        (array_there unit context variables arrays methods scope) e e' is h,
    tt,
  )

  optional_at : (e : Option (Expr Path)) (scope : Scope) (e' : Option (Expr Target))
      → IsBelow context.slots scope → if_some (is_expr is_path is_plain) e ≡ true
      → resolved_optional (at_scope (meant_in unit) scope) e ≡ Some e' → All (optional_part e')
  optional_at None scope e' below is h = subst (λ (o : Option (Expr Target)). All (optional_part o))
      (same_Some None e' h) tt
  optional_at (Some e) scope e' below is h =
      let a = bound (resolved_expr (at_scope (meant_in unit) scope) e) _ h in
      subst (λ (o : Option (Expr Target)). All (optional_part o)) (same_Some _ e' a.2)
      (part_at e scope below is a.1)

  below_declared : (place : Path) (next : ℕ) (scope : Scope) → Fits scope (next + 1)
      → IsBelow context.slots (declared place next scope)
  below_declared place next scope fits =
      and_from _ _ (lt-ltb next context.slots (omega (arith, fits.1))) fits.0

  below_all_declared : (ds : List (Declarator Path)) (scope : Scope) (next : ℕ)
      → Fits scope (next + length ds) → IsBelow context.slots (all_declared scope next ds)
  below_all_declared [] scope next fits = fits.0
  below_all_declared (d ∷ rest) scope next fits =
      below_all_declared rest (declared d.place next scope) (next + 1)
      (below_declared d.place next scope (fits.0, omega (arith, fits.1)), omega (arith, fits.1))

  declarators_at : (ds : List (Declarator Path)) (scope : Scope) (next : ℕ)
      (ds' : List (Declarator Target)) → Fits scope (next + length ds)
      → list_all (is_declarator is_path is_plain) ds ≡ true
      → resolved_declarators (meant_in unit) scope next ds ≡ Some ds'
      → All (flat_map (λ d. optional_part d.value) ds')
  declarators_at [] scope next ds' fits is h =
      subst (λ (xs : List (Declarator Target)). All (flat_map (λ d. optional_part d.value) xs))
      (same_Some [] ds' h) tt
  declarators_at (d ∷ rest) scope next ds' fits is h =
      let below : Fits scope (next + 1) = (fits.0, omega (arith, fits.1)) in
      let end : next + 1 + length rest ≤ context.slots = omega (arith, fits.1) in
      let are = and_parts _ _ is in
      let one = and_parts _ _ are.0 in
      let a = bound (resolved_optional (at_scope (meant_in unit) scope) d.value) _ h in
      let b = bound
      (resolved_declarators (meant_in unit) (declared d.place next scope) (next + 1) rest) _ a.2 in
      subst (λ (xs : List (Declarator Target)). All (flat_map (λ d. optional_part d.value) xs))
      (same_Some _ ds' b.2)
      (joined (optional_part a.0) _ (optional_at d.value scope a.0 fits.0 one.1 a.1)
      (declarators_at rest (declared d.place next scope) (next + 1) b.0
      (below_declared d.place next scope below, end) are.1 b.1))

  abbrev InStatement : Stmt Target → Type 0
  InStatement x = All (stmt_expressions x)

  abbrev InBody : Body Target → Type 0
  InBody b = All (body_expressions b)

  mutual
    unfolding resolved_stmt slots_of

    pub statement_at : (x : Stmt Path) (scope : Scope) (next : ℕ) (x' : Stmt Target)
        → Fits scope (next + slots_of x) → is_stmt is_path is_plain x ≡ true
        → resolved_stmt (meant_in unit) x scope next ≡ Some x'
        → InStatement x'
    statement_at (Evaluate e) scope next x' fits is h =
        let a = bound (resolved_expr (at_scope (meant_in unit) scope) e) _ h in
        subst InStatement (same_Some _ x' a.2) (part_at e scope fits.0 is a.1)
    statement_at (Block body) scope next x' fits is h =
        let a = bound (resolved_body (meant_in unit) body scope next) _ h in
        subst InStatement (same_Some _ x' a.2) (body_at false body scope next a.0 fits is a.1)
    statement_at (If condition first) scope next x' fits is h =
        let are = and_parts _ _ is in
        let a = bound (resolved_expr (at_scope (meant_in unit) scope) condition) _ h in
        let b = bound (resolved_stmt (meant_in unit) first scope next) _ a.2 in
        subst InStatement (same_Some _ x' b.2) (joined (part_of a.0) _ (part_at condition scope
        fits.0 are.0 a.1) (statement_at first scope next b.0 fits are.1 b.1))
    statement_at (IfElse condition first otherwise) scope next x' fits is h =
        let are = and_parts _ _ is in
        let front = and_parts _ _ are.0 in
        let a = bound (resolved_expr (at_scope (meant_in unit) scope) condition) _ h in
        let b = bound (resolved_stmt (meant_in unit) first scope next) _ a.2 in
        let c =
        bound (resolved_stmt (meant_in unit) otherwise scope (next + slots_of first)) _ b.2 in
        subst InStatement (same_Some _ x' c.2) (joined (part_of a.0) _
        (part_at condition scope fits.0 front.0 a.1) (joined (stmt_expressions b.0) _ (statement_at
        first scope next b.0 (fits.0, omega (arith, fits.1)) front.1 b.1) (statement_at otherwise
        scope (next + slots_of first) c.0 (fits.0, omega (arith, fits.1)) are.1 c.1)))
    statement_at (While condition body) scope next x' fits is h =
        let are = and_parts _ _ is in
        let a = bound (resolved_expr (at_scope (meant_in unit) scope) condition) _ h in
        let b = bound (resolved_stmt (meant_in unit) body scope next) _ a.2 in
        subst InStatement (same_Some _ x' b.2) (joined (part_of a.0) _ (part_at condition scope
        fits.0 are.0 a.1) (statement_at body scope next b.0 fits are.1 b.1))
    statement_at (Do body condition) scope next x' fits is h =
        let are = and_parts _ _ is in
        let a = bound (resolved_stmt (meant_in unit) body scope next) _ h in
        let b = bound (resolved_expr (at_scope (meant_in unit) scope) condition) _ a.2 in
        subst InStatement (same_Some _ x' b.2) (joined (stmt_expressions a.0) _ (statement_at body
        scope next a.0 fits are.0 a.1) (part_at condition scope fits.0 are.1 b.1))
    statement_at (For first condition update body) scope next x' fits is h =
        let three = and_parts _ _ is in
        let two = and_parts _ _ three.0 in
        let one = and_parts _ _ two.0 in
        let a = bound (resolved_optional (at_scope (meant_in unit) scope) first) _ h in
        let b = bound (resolved_optional (at_scope (meant_in unit) scope) condition) _ a.2 in
        let c = bound (resolved_optional (at_scope (meant_in unit) scope) update) _ b.2 in
        let d = bound (resolved_stmt (meant_in unit) body scope next) _ c.2 in
        subst InStatement (same_Some _ x' d.2)
        (joined (optional_part a.0) _ (optional_at first scope a.0 fits.0 one.0 a.1)
        (joined (optional_part b.0) _ (optional_at condition scope b.0 fits.0 one.1 b.1)
        (joined (optional_part c.0) _ (optional_at update scope c.0 fits.0 two.1 c.1)
        (statement_at body scope next d.0 fits three.1 d.1))))
    statement_at (Switch on body) scope next x' fits is h =
        let are = and_parts _ _ is in
        let a = bound (resolved_expr (at_scope (meant_in unit) scope) on) _ h in
        let b = bound (resolved_body (meant_in unit) body scope next) _ a.2 in
        subst InStatement (same_Some _ x' b.2) (joined (part_of a.0) _
        (part_at on scope fits.0 are.0 a.1) (body_at true body scope next b.0 fits are.1 b.1))
    statement_at _ scope next x' fits is h = subst InStatement (same_Some _ x' h) tt

    pub body_at : (labels : Bool) (b : Body Path) (scope : Scope) (next : ℕ) (b' : Body Target)
        → Fits scope (next + slots_in b) → is_body is_path is_plain labels b ≡ true
        → resolved_body (meant_in unit) b scope next ≡ Some b' → InBody b'
    body_at labels Nil scope next b' fits is h = subst InBody (same_Some _ b' h) tt
    body_at labels (Cons (Declare ds) rest) scope next b' fits is h =
        let here : Fits scope (next + length ds) = (fits.0, omega (arith, fits.1)) in
        let end : next + length ds + slots_in rest ≤ context.slots = omega (arith, fits.1) in
        let are = and_parts _ _ is in
        let front = and_parts _ _ are.0 in
        let a = bound (resolved_declarators (meant_in unit) scope next ds) _ h in
        let c = bound (resolved_body (meant_in unit) rest (all_declared scope next ds) (next
        + length ds)) _ a.2 in
        subst InBody (same_Some _ b' c.2)
        (joined (flat_map (λ d. optional_part d.value) a.0) _
        (declarators_at ds scope next a.0 here front.1 a.1)
        (body_at labels rest (all_declared scope next ds) (next + length ds) c.0
        (below_all_declared ds scope next here, end) are.1 c.1))
    body_at labels (Cons (Statement x) rest) scope next b' fits is h =
        let are = and_parts _ _ is in
        let a = bound (resolved_stmt (meant_in unit) x scope next) _ h in
        let c = bound (resolved_body (meant_in unit) rest scope (next + slots_of x)) _ a.2 in
        subst InBody (same_Some _ b' c.2)
        (joined (stmt_expressions a.0) _
        (statement_at x scope next a.0 (fits.0, omega (arith, fits.1)) are.0 a.1)
        (body_at labels rest scope (next + slots_of x) c.0 (fits.0, omega (arith, fits.1)) are.1
        c.1))
    body_at labels (Cons _ rest) scope next b' fits is h =
        let a = bound (resolved_body (meant_in unit) rest scope next) _ h in
        subst InBody (same_Some _ b' a.2)
        (body_at labels rest scope next a.0 fits (and_parts _ _ is).1 a.1)
