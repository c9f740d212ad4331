-- Expressions, conditionals and statements keep the number of their nodes with the meaning of each
-- name in its place.
use Rattle.std.proofs.Common.{◌≡◌, refl, ap, ℕ, ◌+◌, List, [], ◌∷◌, length, Option, Some, None, arith}
use Rattle.edd_syntax.specs.Reference.{Path}
use Rattle.edd_syntax.specs.declared.reference.Target.{Target}
use Rattle.edd_syntax.specs.declared.reference.Target.TheVariants.{Local}
use Rattle.edd_syntax.specs.Expression as expr
use Rattle.edd_syntax.specs.Expression.{Expr, Literal, Decimal, Reference, Indexed, Parentheses, Unary, Binary, Compare, LogicalAnd, LogicalOr, Conditional, Assign, CompoundAssign, Increment, Call, Text, Arguments}
use Rattle.edd_syntax.specs.Conditional as cond
use Rattle.edd_syntax.specs.Conditional.{Cond, Value, If, Select, Conds, Arms, NoArms, ConsArm, Case, Default}
use Rattle.edd_syntax.specs.Statement as s
use Rattle.edd_syntax.specs.Statement.{Declarator, Stmt, Body, Nil, Cons, Declare, Statement, CaseLabel, DefaultLabel, slots_of}
use Rattle.edd_syntax.specs.Resolution.{Scope, declared, all_declared}
use Rattle.edd_syntax.specs.ResolvedTrees.{Meanings, resolved_by, resolved_expr, resolved_arguments, resolved_optional, resolved_cond, resolved_conds, resolved_arms, at_scope, resolved_declarators, resolved_stmt, resolved_body, Reading}
use Rattle.edd_syntax.specs.Size.{nodes, argument_nodes, cond_nodes, conds_nodes, arms_nodes, optional_nodes, declarator_nodes, statement_nodes, body_nodes}
use Rattle.edd_syntax.proofs.Made.{stays, made, made_of_two, made_of_three, made_of_four}

module _ (at : Meanings) where
  mutual
    unfolding resolved_by

    -- where `plain` says what a plain reference means
    keeps : (plain : Path → Option Target) (e : Expr Path) (e' : Expr Target)
        → resolved_by at plain e ≡ Some e' → nodes e' ≡ nodes e
    keeps plain (Literal value) e' h = stays nodes (Literal value) e' h
    keeps plain Decimal e' h = stays nodes Decimal e' h
    keeps plain (Reference from) e' h = made nodes (plain from) Reference e' _ (λ x p. refl) h
    keeps plain (Indexed array index) e' h = made_of_two nodes (at.array array)
        (resolved_expr at index) Indexed e' _
        (λ x y p q. ap (λ n. 1 + n) (keeps at.reference index y q)) h
    keeps plain (Parentheses inner) e' h = made nodes (resolved_expr at inner) Parentheses e' _
        (λ x p. ap (λ n. 1 + n) (keeps at.reference inner x p)) h
    keeps plain (Unary op operand) e' h = made nodes (resolved_expr at operand) (Unary op) e' _
        (λ x p. ap (λ n. 1 + n) (keeps at.reference operand x p)) h
    keeps plain (Binary op left right) e' h =
        made_of_two nodes (resolved_expr at left) (resolved_expr at right) (Binary op) e' _
        (λ x y p q. omega (arith, keeps at.reference left x p, keeps at.reference right y q)) h
    keeps plain (Compare by left right) e' h =
        made_of_two nodes (resolved_expr at left) (resolved_expr at right) (Compare by) e' _
        (λ x y p q. omega (arith, keeps at.reference left x p, keeps at.reference right y q)) h
    keeps plain (LogicalAnd left right) e' h =
        made_of_two nodes (resolved_expr at left) (resolved_expr at right) LogicalAnd e' _
        (λ x y p q. omega (arith, keeps at.reference left x p, keeps at.reference right y q)) h
    keeps plain (LogicalOr left right) e' h =
        made_of_two nodes (resolved_expr at left) (resolved_expr at right) LogicalOr e' _
        (λ x y p q. omega (arith, keeps at.reference left x p, keeps at.reference right y q)) h
    keeps plain (Conditional test first second) e' h =
        made_of_three nodes (resolved_expr at test) (resolved_expr at first)
        (resolved_expr at second) Conditional e' _
        (λ x y z p q r. omega (
          arith,
          keeps at.reference test x p,
          keeps at.reference first y q,
          keeps at.reference second z r,
        )) h
    keeps plain (Assign to value) e' h = made_of_two nodes (at.reference to)
        (resolved_expr at value) Assign e'
        _ (λ x y p q. ap (λ n. 1 + n) (keeps at.reference value y q)) h
    keeps plain (CompoundAssign op to value) e' h =
        made_of_two nodes (at.reference to) (resolved_expr at value) (CompoundAssign op) e' _
        (λ x y p q. ap (λ n. 1 + n) (keeps at.reference value y q)) h
    keeps plain (Increment op to) e' h = made nodes (at.reference to) (Increment op) e' _
        (λ x p. refl) h
    keeps plain (Call name arguments) e' h =
        made_of_two nodes (at.function name) (resolved_arguments at (at.argument name) arguments)
        Call e' _ (λ x y p q. ap (λ n. 1 + n)
        (arguments_keep (at.argument name) arguments y q)) h

    arguments_keep : (plain : Path → Option Target) (all : Arguments Path)
        (all' : Arguments Target) → resolved_arguments at plain all ≡ Some all'
        → argument_nodes all' ≡ argument_nodes all
    arguments_keep plain expr.Nil all' h = stays argument_nodes expr.Nil all' h
    arguments_keep plain (expr.Cons (Text text) rest) all' h =
        made argument_nodes (resolved_arguments at plain rest) (expr.Cons (Text text)) all' _
        (λ x p. arguments_keep plain rest x p) h
    arguments_keep plain (expr.Cons (expr.Value e) rest) all' h =
        made_of_two argument_nodes (resolved_by at plain e) (resolved_arguments at plain rest)
        (λ e' rest'. expr.Cons (expr.Value e') rest') all' _
        (λ x y p q. omega (arith, keeps plain e x p, arguments_keep plain rest y q)) h

  pub expr_keeps : (e : Expr Path) (e' : Expr Target) → resolved_expr at e ≡ Some e'
      → nodes e' ≡ nodes e
  expr_keeps = keeps at.reference

  pub optional_keeps : (o : Option (Expr Path)) (o' : Option (Expr Target)) → resolved_optional at o
      ≡ Some o' → optional_nodes o' ≡ optional_nodes o
  optional_keeps None o' h = stays optional_nodes None o' h
  optional_keeps (Some e) o' h = made optional_nodes (resolved_expr at e) Some o' _
      (λ x p. expr_keeps e x p) h

  -- ---- conditionals, whose values keep theirs

  module _ {V W : Type 0} (of : V → Option W) (f : V → ℕ) (g : W → ℕ) (keeps : (v : V) (w : W)
      → of v ≡ Some w → g w ≡ f v) where
    mutual
      unfolding resolved_cond resolved_conds resolved_arms

      pub cond_keeps : (c : Cond Path V) (c' : Cond Target W) → resolved_cond at of c ≡ Some c'
          → cond_nodes g c' ≡ cond_nodes f c
      cond_keeps (Value v) c' h = made (cond_nodes g) (of v) Value c' _
          (λ w p. ap (λ n. 1 + n) (keeps v w p)) h
      cond_keeps (If condition first otherwise) c' h =
          made_of_three (cond_nodes g) (resolved_expr at condition) (resolved_conds at of first)
          (resolved_conds at of otherwise) If c' _
          (λ x y z p q r. omega (
            arith,
            expr_keeps condition x p,
            conds_keep first y q,
            conds_keep otherwise z r,
          )) h
      cond_keeps (Select on arms) c' h =
          made_of_two (cond_nodes g) (resolved_expr at on) (resolved_arms at of arms) Select c' _
          (λ x y p q. omega (arith, expr_keeps on x p, arms_keep arms y q)) h

      pub conds_keep : (all : Conds Path V) (all' : Conds Target W) → resolved_conds at of all
          ≡ Some all' → conds_nodes g all' ≡ conds_nodes f all
      conds_keep cond.Nil all' h = stays (conds_nodes g) cond.Nil all' h
      conds_keep (cond.Cons first rest) all' h =
          made_of_two (conds_nodes g) (resolved_cond at of first) (resolved_conds at of rest)
          cond.Cons all' _
          (λ x y p q. omega (arith, cond_keeps first x p, conds_keep rest y q)) h

      pub arms_keep : (arms : Arms Path V) (arms' : Arms Target W) → resolved_arms at of arms
          ≡ Some arms' → arms_nodes g arms' ≡ arms_nodes f arms
      arms_keep NoArms arms' h = stays (arms_nodes g) NoArms arms' h
      arms_keep (ConsArm (Case label body) rest) arms' h =
          made_of_two (arms_nodes g) (resolved_conds at of body) (resolved_arms at of rest)
          (λ body' rest'. ConsArm (Case label body') rest') arms' _
          (λ x y p q. omega (arith, conds_keep body x p, arms_keep rest y q)) h
      arms_keep (ConsArm (Default body) rest) arms' h =
          made_of_two (arms_nodes g) (resolved_conds at of body) (resolved_arms at of rest)
          (λ body' rest'. ConsArm (Default body') rest') arms' _
          (λ x y p q. omega (arith, conds_keep body x p, arms_keep rest y q)) h

-- ---- statements

module _ (names : Reading) where
  pub declarators_keep : (scope : Scope) (next : ℕ) (ds : List (Declarator Path))
      (ds' : List (Declarator Target)) → resolved_declarators names scope next ds ≡ Some ds'
      → declarator_nodes ds' ≡ declarator_nodes ds
  declarators_keep scope next [] ds' h = stays declarator_nodes [] ds' h
  declarators_keep scope next (d ∷ rest) ds' h =
      made_of_two declarator_nodes (resolved_optional (at_scope names scope) d.value)
      (resolved_declarators names (declared d.place next scope) (next + 1) rest)
      (λ value others. record { place = Local next; value = value } ∷ others) ds' _
      (λ x y p q. omega (
        arith,
        optional_keeps (at_scope names scope) d.value x p,
        declarators_keep (declared d.place next scope) (next + 1) rest y q,
      )) h

  mutual
    unfolding resolved_stmt resolved_body

    pub statement_keeps : (t : Stmt Path) (scope : Scope) (next : ℕ) (t' : Stmt Target)
        → resolved_stmt names t scope next ≡ Some t' → statement_nodes t' ≡ statement_nodes t
    statement_keeps s.Empty scope next t' h = stays statement_nodes s.Empty t' h
    statement_keeps (s.Evaluate e) scope next t' h =
        made statement_nodes (resolved_expr (at_scope names scope) e) s.Evaluate t' _
        (λ x p. ap (λ n. 1 + n) (expr_keeps (at_scope names scope) e x p)) h
    statement_keeps (s.Block body) scope next t' h =
        made statement_nodes (resolved_body names body scope next) s.Block t' _
        (λ x p. ap (λ n. 1 + n) (body_keeps body scope next x p)) h
    statement_keeps (s.If condition first) scope next t' h =
        made_of_two statement_nodes (resolved_expr (at_scope names scope) condition)
        (resolved_stmt names first scope next) s.If t' _
        (λ x y p q. omega (
          arith,
          expr_keeps (at_scope names scope) condition x p,
          statement_keeps first scope next y q,
        )) h
    statement_keeps (s.IfElse condition first otherwise) scope next t' h =
        made_of_three statement_nodes (resolved_expr (at_scope names scope) condition)
        (resolved_stmt names first scope next)
        (resolved_stmt names otherwise scope (next + slots_of first)) s.IfElse t' _
        (λ x y z p q r. omega (
          arith,
          expr_keeps (at_scope names scope) condition x p,
          statement_keeps first scope next y q,
          statement_keeps otherwise scope
              (next + slots_of first) z r,
        )) h
    statement_keeps (s.While condition body) scope next t' h =
        made_of_two statement_nodes (resolved_expr (at_scope names scope) condition)
        (resolved_stmt names body scope next) s.While t' _
        (λ x y p q. omega (
          arith,
          expr_keeps (at_scope names scope) condition x p,
          statement_keeps body scope next y q,
        )) h
    statement_keeps (s.Do body condition) scope next t' h =
        made_of_two statement_nodes (resolved_stmt names body scope next)
        (resolved_expr (at_scope names scope) condition) s.Do t' _
        (λ x y p q. omega (
          arith,
          statement_keeps body scope next x p,
          expr_keeps (at_scope names scope) condition y q,
        )) h
    statement_keeps (s.For initial condition update body) scope next t' h =
        made_of_four statement_nodes (resolved_optional (at_scope names scope) initial)
        (resolved_optional (at_scope names scope) condition)
        (resolved_optional (at_scope names scope) update) (resolved_stmt names body scope next)
        s.For t' _
        (λ x y z u p q r m. omega (
          arith,
          optional_keeps (at_scope names scope) initial x p,
          optional_keeps (at_scope names scope) condition y q,
          optional_keeps (at_scope names scope)
              update z r,
          statement_keeps body scope next u m,
        )) h
    statement_keeps (s.Switch on body) scope next t' h =
        made_of_two statement_nodes (resolved_expr (at_scope names scope) on)
        (resolved_body names body scope next) s.Switch t' _
        (λ x y p q. omega (
          arith,
          expr_keeps (at_scope names scope) on x p,
          body_keeps body scope next y q,
        )) h
    statement_keeps s.Break scope next t' h = stays statement_nodes s.Break t' h
    statement_keeps s.Continue scope next t' h = stays statement_nodes s.Continue t' h
    statement_keeps s.Return scope next t' h = stays statement_nodes s.Return t' h

    pub body_keeps : (b : Body Path) (scope : Scope) (next : ℕ) (b' : Body Target)
        → resolved_body names b scope next ≡ Some b' → body_nodes b' ≡ body_nodes b
    body_keeps Nil scope next b' h = stays body_nodes Nil b' h
    body_keeps (Cons (Declare declarators) rest) scope next b' h =
        made_of_two body_nodes (resolved_declarators names scope next declarators)
        (resolved_body names rest (all_declared scope next declarators)
        (next + length declarators)) (λ declarators' rest'. Cons (Declare declarators') rest')
        b' _
        (λ x y p q. omega (
          arith,
          declarators_keep scope next declarators x p,
          body_keeps rest (all_declared scope next declarators) (next + length declarators) y q,
        ))
        h
    body_keeps (Cons (Statement first) rest) scope next b' h =
        made_of_two body_nodes (resolved_stmt names first scope next)
        (resolved_body names rest scope (next + slots_of first))
        (λ first' rest'. Cons (Statement first') rest') b' _
        (λ x y p q. omega (
          arith,
          statement_keeps first scope next x p,
          body_keeps rest scope (next + slots_of first) y q,
        )) h
    body_keeps (Cons (CaseLabel label) rest) scope next b' h =
        made body_nodes (resolved_body names rest scope next) (Cons (CaseLabel label)) b' _
        (λ x p. ap (λ n. 1 + n) (body_keeps rest scope next x p)) h
    body_keeps (Cons DefaultLabel rest) scope next b' h =
        made body_nodes (resolved_body names rest scope next) (Cons DefaultLabel) b' _
        (λ x p. ap (λ n. 1 + n) (body_keeps rest scope next x p)) h
