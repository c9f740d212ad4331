-- No expression in a body of a resolved description is higher than 100.
use Rattle.std.proofs.Common.{◌≡◌, subst, ℕ, ◌+◌, ◌≤◌, true, List, [], ◌∷◌, ◌++◌, length, Option, Some, None, arith}
use Rattle.std.specs.Prelude.{max, nat_le}
use Rattle.std.specs.List.{AllByRecursion, flat_map, list_all}
use Rattle.std.proofs.lemmas.Bool.{and_parts}
use Rattle.std.proofs.lemmas.Bool.Decides.{nat_tests}
use Rattle.std.proofs.lemmas.Option.{same_Some}
use Rattle.edd_syntax.specs.declared.numbers.Kind.{Kind}
use Rattle.edd_syntax.specs.declared.numbers.MethNo.{MethNo}
use Rattle.edd_syntax.specs.declared.reference.Target.{Target}
use Rattle.edd_syntax.specs.Execution.{body_of}
use Rattle.edd_syntax.specs.Expression as expr
use Rattle.edd_syntax.specs.Expression.{Expr, Literal, Decimal, Reference, Indexed, Parentheses, Unary, Binary, Compare, LogicalAnd, LogicalOr, Conditional, Assign, CompoundAssign, Increment, Call, Arguments}
use Rattle.edd_syntax.specs.Item as item
use Rattle.edd_syntax.specs.Item.{kind_of_item, Attribute, Item, Description}
use Rattle.edd_syntax.specs.Reference.{Path}
use Rattle.edd_syntax.specs.Resolution.{Scope, declared, all_declared}
use Rattle.edd_syntax.specs.Resolved.{IsResolved}
use Rattle.edd_syntax.specs.ResolvedTrees.{Meanings, at_scope, resolved_by, resolved_expr, resolved_arguments, resolved_optional, resolved_declarators, resolved_stmt, resolved_body, meant_in, Reading}
use Rattle.edd_syntax.specs.Size.{height, argument_height, optional_height, declarator_height, statement_height, body_height, attribute_height, height_limit}
use Rattle.edd_syntax.specs.Statement.{Declarator, Stmt, Empty, Evaluate, Block, If, IfElse, While, Do, For, Switch, Body, Nil, Cons, Declare, Statement, slots_of}
use Rattle.edd_syntax.specs.SubsetRules.{Placed, part_of, optional_part, stmt_expressions, body_expressions}
use Rattle.edd_syntax.specs.WellFormed.{is_path, is_plain, is_item, stands_in, are_items}
use Rattle.edd_methods.proofs.CheckedBodies.{OfBody, of_method}
use Rattle.edd_methods.proofs.ResolvedSlots.{bound}
use Rattle.edd_methods.proofs.ResolvedUnits.{unit_made}

-- ---- a tree that is resolved is not higher than the written one

module _ (at : Meanings) where
  -- not higher than so much
  abbrev Low : ℕ → Expr Target → Type 0
  Low n e = height e ≤ n

  abbrev AreLow : ℕ → Arguments Target → Type 0
  AreLow n arguments = argument_height arguments ≤ n

  mutual
    unfolding resolved_by

    low_by : (plain : Path → Option Target) (e : Expr Path) (e' : Expr Target)
        → resolved_by at plain e ≡ Some e' → Low (height e) e'
    low_by plain (Literal value) e' h = subst (Low 1) (same_Some (Literal value) e' h) (omega arith)
    low_by plain Decimal e' h = subst (Low 1) (same_Some Decimal e' h) (omega arith)
    low_by plain (Reference from) e' h = let a = bound (plain from) _ h in
        subst (Low 1) (same_Some _ e' a.2) (omega arith)
    low_by plain (Indexed array index) e' h =
        let a = bound (at.array array) _ h in
        let b = bound (resolved_expr at index) _ a.2 in
        subst (Low (1 + height index)) (same_Some _ e' b.2)
        (omega (arith, low_by at.reference index b.0 b.1))
    low_by plain (Parentheses inner) e' h = let a = bound (resolved_expr at inner) _ h in subst (Low
        (1 + height inner)) (same_Some _ e' a.2) (omega (arith, low_by at.reference inner a.0 a.1))
    low_by plain (Unary op operand) e' h = let a = bound (resolved_expr at operand) _ h in
        subst (Low (1 + height operand)) (same_Some _ e' a.2)
        (omega (arith, low_by at.reference operand a.0 a.1))
    low_by plain (Binary op left right) e' h =
        let a = bound (resolved_expr at left) _ h in
        let b = bound (resolved_expr at right) _ a.2 in
        subst (Low (1 + max (height left) (height right))) (same_Some _ e' b.2)
        (omega (arith, low_by at.reference left a.0 a.1, low_by at.reference right b.0 b.1))
    low_by plain (Compare by left right) e' h =
        let a = bound (resolved_expr at left) _ h in
        let b = bound (resolved_expr at right) _ a.2 in
        subst (Low (1 + max (height left) (height right))) (same_Some _ e' b.2)
        (omega (arith, low_by at.reference left a.0 a.1, low_by at.reference right b.0 b.1))
    low_by plain (LogicalAnd left right) e' h =
        let a = bound (resolved_expr at left) _ h in
        let b = bound (resolved_expr at right) _ a.2 in
        subst (Low (1 + max (height left) (height right))) (same_Some _ e' b.2)
        (omega (arith, low_by at.reference left a.0 a.1, low_by at.reference right b.0 b.1))
    low_by plain (LogicalOr left right) e' h =
        let a = bound (resolved_expr at left) _ h in
        let b = bound (resolved_expr at right) _ a.2 in
        subst (Low (1 + max (height left) (height right))) (same_Some _ e' b.2)
        (omega (arith, low_by at.reference left a.0 a.1, low_by at.reference right b.0 b.1))
    low_by plain (Conditional test first second) e' h =
        let a = bound (resolved_expr at test) _ h in
        let b = bound (resolved_expr at first) _ a.2 in
        let c = bound (resolved_expr at second) _ b.2 in
        subst (Low (1 + max (height test) (max (height first) (height second))))
        (same_Some _ e' c.2)
        (omega (
          arith,
          low_by at.reference test a.0 a.1,
          low_by at.reference first b.0 b.1,
          low_by
              at.reference second c.0 c.1,
        ))
    low_by plain (Assign to value) e' h =
        let a = bound (at.reference to) _ h in
        let b = bound (resolved_expr at value) _ a.2 in
        subst (Low (1 + height value)) (same_Some _ e' b.2)
        (omega (arith, low_by at.reference value b.0 b.1))
    low_by plain (CompoundAssign op to value) e' h =
        let a = bound (at.reference to) _ h in
        let b = bound (resolved_expr at value) _ a.2 in
        subst (Low (1 + height value)) (same_Some _ e' b.2)
        (omega (arith, low_by at.reference value b.0 b.1))
    low_by plain (Increment op to) e' h = let a = bound (at.reference to) _ h in
        subst (Low 1) (same_Some _ e' a.2) (omega arith)
    low_by plain (Call name arguments) e' h =
        let a = bound (at.function name) _ h in
        let b = bound (resolved_arguments at (at.argument name) arguments) _ a.2 in
        subst (Low (1 + argument_height arguments)) (same_Some _ e' b.2)
        (omega (arith, arguments_low (at.argument name) arguments b.0 b.1))

    arguments_low : (plain : Path → Option Target) (arguments : Arguments Path)
        (others : Arguments Target) → resolved_arguments at plain arguments ≡ Some others
        → AreLow (argument_height arguments) others
    arguments_low plain expr.Nil others h = subst (AreLow 0) (same_Some expr.Nil others h)
        (omega arith)
    arguments_low plain (expr.Cons (expr.Text text) rest) others h =
        let a = bound (resolved_arguments at plain rest) _ h in
        subst (AreLow (argument_height rest)) (same_Some _ others a.2)
        (arguments_low plain rest a.0 a.1)
    arguments_low plain (expr.Cons (expr.Value e) rest) others h =
        let a = bound (resolved_by at plain e) _ h in
        let b = bound (resolved_arguments at plain rest) _ a.2 in
        subst (AreLow (max (height e) (argument_height rest))) (same_Some _ others b.2)
        (omega (arith, low_by plain e a.0 a.1, arguments_low plain rest b.0 b.1))

  expr_low : (e : Expr Path) (e' : Expr Target) → resolved_expr at e ≡ Some e' → Low (height e) e'
  expr_low = low_by at.reference

  optional_low : (e : Option (Expr Path)) (e' : Option (Expr Target)) → resolved_optional at e
      ≡ Some e' → optional_height e' ≤ optional_height e
  optional_low None e' h = subst (λ (o : Option (Expr Target)). optional_height o ≤ 0)
      (same_Some None e' h) (omega arith)
  optional_low (Some e) e' h =
      let a = bound (resolved_expr at e) _ h in
      subst (λ (o : Option (Expr Target)). optional_height o ≤ height e) (same_Some _ e' a.2)
      (expr_low e a.0 a.1)

module _ (names : Reading) where
  abbrev DeclaredLow : ℕ → List (Declarator Target) → Type 0
  DeclaredLow n ds = declarator_height ds ≤ n

  declarators_low : (ds : List (Declarator Path)) (scope : Scope) (next : ℕ)
      (ds' : List (Declarator Target)) → resolved_declarators names scope next ds ≡ Some ds'
      → DeclaredLow (declarator_height ds) ds'
  declarators_low [] scope next ds' h = subst (DeclaredLow 0) (same_Some [] ds' h) (omega arith)
  declarators_low (d ∷ rest) scope next ds' h =
      let a = bound (resolved_optional (at_scope names scope) d.value) _ h in
      let b =
      bound (resolved_declarators names (declared d.place next scope) (next + 1) rest) _ a.2 in
      subst (DeclaredLow (max (1 + optional_height d.value) (declarator_height rest)))
      (same_Some _ ds' b.2)
      (omega (
        arith,
        optional_low (at_scope names scope) d.value a.0 a.1,
        declarators_low rest (declared d.place next scope) (next + 1) b.0 b.1,
      ))

  abbrev StatementLow : ℕ → Stmt Target → Type 0
  StatementLow n x = statement_height x ≤ n

  abbrev BodyLow : ℕ → Body Target → Type 0
  BodyLow n b = body_height b ≤ n

  mutual
    unfolding resolved_stmt

    statement_low : (x : Stmt Path) (scope : Scope) (next : ℕ) (x' : Stmt Target)
        → resolved_stmt names x scope next ≡ Some x' → StatementLow (statement_height x) x'
    statement_low (Evaluate e) scope next x' h =
        let a = bound (resolved_expr (at_scope names scope) e) _ h in
        subst (StatementLow (1 + height e)) (same_Some _ x' a.2)
        (omega (arith, expr_low (at_scope names scope) e a.0 a.1))
    statement_low (Block body) scope next x' h =
        let a = bound (resolved_body names body scope next) _ h in
        subst (StatementLow (1 + body_height body)) (same_Some _ x' a.2)
        (omega (arith, body_low body scope next a.0 a.1))
    statement_low (If condition first) scope next x' h =
        let a = bound (resolved_expr (at_scope names scope) condition) _ h in
        let b = bound (resolved_stmt names first scope next) _ a.2 in
        subst (StatementLow (1 + max (height condition) (statement_height first)))
        (same_Some _ x' b.2)
        (omega (
          arith,
          expr_low (at_scope names scope) condition a.0 a.1,
          statement_low first scope next b.0 b.1,
        ))
    statement_low (IfElse condition first otherwise) scope next x' h =
        let a = bound (resolved_expr (at_scope names scope) condition) _ h in
        let b = bound (resolved_stmt names first scope next) _ a.2 in
        let c = bound (resolved_stmt names otherwise scope (next + slots_of first)) _ b.2 in
        subst (StatementLow (1 + max (height condition)
        (max (statement_height first) (statement_height otherwise)))) (same_Some _ x' c.2)
        (omega (
          arith,
          expr_low (at_scope names scope) condition a.0 a.1,
          statement_low first scope next b.0 b.1,
          statement_low otherwise scope
              (next + slots_of first) c.0 c.1,
        ))
    statement_low (While condition body) scope next x' h =
        let a = bound (resolved_expr (at_scope names scope) condition) _ h in
        let b = bound (resolved_stmt names body scope next) _ a.2 in
        subst (StatementLow (1 + max (height condition) (statement_height body)))
        (same_Some _ x' b.2)
        (omega (
          arith,
          expr_low (at_scope names scope) condition a.0 a.1,
          statement_low body scope next b.0 b.1,
        ))
    statement_low (Do body condition) scope next x' h =
        let a = bound (resolved_stmt names body scope next) _ h in
        let b = bound (resolved_expr (at_scope names scope) condition) _ a.2 in
        subst (StatementLow (1 + max (statement_height body) (height condition)))
        (same_Some _ x' b.2)
        (omega (
          arith,
          statement_low body scope next a.0 a.1,
          expr_low (at_scope names scope)
              condition b.0 b.1,
        ))
    statement_low (For first condition update body) scope next x' h =
        let a = bound (resolved_optional (at_scope names scope) first) _ h in
        let b = bound (resolved_optional (at_scope names scope) condition) _ a.2 in
        let c = bound (resolved_optional (at_scope names scope) update) _ b.2 in
        let d = bound (resolved_stmt names body scope next) _ c.2 in
        subst (StatementLow (1 + max (max (optional_height first) (optional_height condition))
        (max (optional_height update) (statement_height body)))) (same_Some _ x' d.2)
        (omega (
          arith,
          optional_low (at_scope names scope) first a.0 a.1,
          optional_low (at_scope names scope) condition b.0 b.1,
          optional_low (at_scope names scope) update c.0 c.1,
          statement_low body scope next d.0 d.1,
        ))
    statement_low (Switch on body) scope next x' h =
        let a = bound (resolved_expr (at_scope names scope) on) _ h in
        let b = bound (resolved_body names body scope next) _ a.2 in
        subst (StatementLow (1 + max (height on) (body_height body))) (same_Some _ x' b.2)
        (omega (
          arith,
          expr_low (at_scope names scope) on a.0 a.1,
          body_low body scope next b.0
              b.1,
        ))
    statement_low _ scope next x' h = subst (StatementLow 1) (same_Some _ x' h) (omega arith)

    body_low : (b : Body Path) (scope : Scope) (next : ℕ) (b' : Body Target)
        → resolved_body names b scope next ≡ Some b' → BodyLow (body_height b) b'
    body_low Nil scope next b' h = subst (BodyLow 0) (same_Some _ b' h) (omega arith)
    body_low (Cons (Declare ds) rest) scope next b' h =
        let a = bound (resolved_declarators names scope next ds) _ h in
        let c =
        bound (resolved_body names rest (all_declared scope next ds) (next + length ds)) _ a.2 in
        subst (BodyLow (max (1 + declarator_height ds) (body_height rest))) (same_Some _ b' c.2)
        (omega (
          arith,
          declarators_low ds scope next a.0 a.1,
          body_low rest (all_declared scope next ds) (next + length ds) c.0 c.1,
        ))
    body_low (Cons (Statement x) rest) scope next b' h =
        let a = bound (resolved_stmt names x scope next) _ h in
        let c = bound (resolved_body names rest scope (next + slots_of x)) _ a.2 in
        subst (BodyLow (max (statement_height x) (body_height rest))) (same_Some _ b' c.2)
        (omega (
          arith,
          statement_low x scope next a.0 a.1,
          body_low rest scope (next + slots_of x)
              c.0 c.1,
        ))
    body_low (Cons _ rest) scope next b' h =
        let a = bound (resolved_body names rest scope next) _ h in
        subst (BodyLow (body_height rest)) (same_Some _ b' a.2) (body_low rest scope next a.0 a.1)

-- ---- so its expressions are not

module _ (n : ℕ) where
  -- none is higher than n
  abbrev pub NoneHigher : List (Placed Target) → Type 0
  NoneHigher ps = AllByRecursion (λ p. height p.expression ≤ n) ps

  joined : (ps qs : List (Placed Target)) → NoneHigher ps → NoneHigher qs → NoneHigher (ps ++ qs)
  joined [] qs h k = k
  joined (p ∷ ps) qs h k = (h.0, joined ps qs h.1 k)

  optional_listed : (e : Option (Expr Target)) → optional_height e ≤ n
      → NoneHigher (optional_part e)
  optional_listed None h = tt
  optional_listed (Some e) h = (h, tt)

  declared_listed : (ds : List (Declarator Target)) → declarator_height ds ≤ n
      → NoneHigher (flat_map (λ d. optional_part d.value) ds)
  declared_listed [] h = tt
  declared_listed (d ∷ rest) h =
      joined (optional_part d.value) (flat_map (λ d. optional_part d.value) rest)
      (optional_listed d.value (omega (arith, h))) (declared_listed rest (omega (arith, h)))

  mutual
    statement_listed : (x : Stmt Target) → statement_height x ≤ n → NoneHigher (stmt_expressions x)
    statement_listed Empty h = tt
    statement_listed (Evaluate e) h = (omega (arith, h), tt)
    statement_listed (Block body) h = body_listed body (omega (arith, h))
    statement_listed (If condition first) h =
        (omega (arith, h), statement_listed first (omega (arith, h)))
    statement_listed (IfElse condition first otherwise) h = (
      omega (arith, h),
      joined (stmt_expressions first) (stmt_expressions otherwise)
          (statement_listed first (omega (arith, h)))
          (statement_listed otherwise (omega (arith, h))),
    )
    statement_listed (While condition body) h =
        (omega (arith, h), statement_listed body (omega (arith, h)))
    statement_listed (Do body condition) h = joined (stmt_expressions body) (part_of condition)
        (statement_listed body (omega (arith, h))) (omega (arith, h), tt)
    statement_listed (For first condition update body) h =
        joined (optional_part first) (optional_part condition
        ++ (optional_part update ++ stmt_expressions body))
        (optional_listed first (omega (arith, h)))
        (joined (optional_part condition) (optional_part update ++ stmt_expressions body)
        (optional_listed condition (omega (arith, h)))
        (joined (optional_part update) (stmt_expressions body)
        (optional_listed update (omega (arith, h))) (statement_listed body (omega (arith, h)))))
    statement_listed (Switch on body) h = (omega (arith, h), body_listed body (omega (arith, h)))
    statement_listed _ h = tt

    body_listed : (b : Body Target) → body_height b ≤ n → NoneHigher (body_expressions b)
    body_listed Nil h = tt
    body_listed (Cons (Declare ds) rest) h =
        joined (flat_map (λ d. optional_part d.value) ds) (body_expressions rest)
        (declared_listed ds (omega (arith, h))) (body_listed rest (omega (arith, h)))
    body_listed (Cons (Statement x) rest) h = joined (stmt_expressions x) (body_expressions rest)
        (statement_listed x (omega (arith, h))) (body_listed rest (omega (arith, h)))
    body_listed (Cons _ rest) h = body_listed rest h

-- ---- written bodies are within the limit

abbrev IsLow : Body Path → Type 0
IsLow b = body_height b ≤ height_limit

low_attribute : (a : Attribute Path) → attribute_height a ≤ height_limit → OfBody IsLow a
low_attribute (item.Definition body) h = h
low_attribute _ h = tt

within : (n m : ℕ) → nat_le n m ≡ true → n ≤ m
within n m h = grind (arith, nat_tests, h)

low_attributes : (k : Kind) (xs : List (Attribute Path))
    → list_all (stands_in is_path is_plain k) xs ≡ true → AllByRecursion (OfBody IsLow) xs
low_attributes k [] is = tt
low_attributes k (a ∷ rest) is =
    let are = and_parts (stands_in is_path is_plain k a)
    (list_all (stands_in is_path is_plain k) rest) is in (
      low_attribute a (within (attribute_height a) height_limit (and_parts _ _ are.0).1),
      low_attributes k rest are.1,
    )

low_items : (xs : List (Item Path)) → are_items xs ≡ true
    → AllByRecursion (λ i. AllByRecursion (OfBody IsLow) i.attributes) xs
unfolding are_items
low_items [] is = tt
low_items (i ∷ rest) is =
    let are = and_parts (is_item is_path is_plain i) (are_items rest) is in (
      low_attributes (kind_of_item i.sort) i.attributes (and_parts _ _ are.0).1,
      low_items rest are.1,
    )

-- in a body with a meaning
abbrev LowBody : Body Target → Type 0
LowBody b = NoneHigher height_limit (body_expressions b)

low_made : (names : Reading) (b : Body Path) (b' : Body Target) → IsLow b
    → resolved_body names b [] 0 ≡ Some b' → LowBody b'
low_made names b b' low h =
    body_listed height_limit b' (omega (arith, low, body_low names b [] 0 b' h))

pub body_is_low : (d : Description Target) → IsResolved d → (m : MethNo)
    → NoneHigher height_limit (body_expressions (body_of d m))
body_is_low d is m = of_method LowBody tt d m
    (unit_made is.unit IsLow LowBody (low_made (meant_in is.unit)) d
    (low_items is.unit.items is.well_formed) is.meanings)
