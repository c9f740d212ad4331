-- Calls and decimals without their places are those of the rules of the profile.
use Rattle.std.proofs.Common.{◌≡◌, refl, sym, ap, ◌∙◌, Bool, true, false, List, [], ◌∷◌, map}
use Rattle.std.specs.Prelude.{Option, Some, None, Vec, option_map}
use Rattle.std.specs.List.{flat_map}
use Rattle.std.specs.declared.alloc.Global.{Global}
use Rattle.std.proofs.lemmas.List.{append-nil}
use Rattle.edd_breaches.specs.Told.{refusals}
use Rattle.edd_syntax.specs.declared.reference.Target.{Target}
use Rattle.edd_syntax.specs.declared.expr.Expr.{Expr, Row_of-Argument, end_of-Argument, more_of-Argument}
use Rattle.edd_syntax.specs.declared.expr.Expr.TheVariants.{Literal, Decimal, Reference, Indexed', Parentheses', Unary', Binary', Compare', LogicalAnd', LogicalOr', Conditional', Assign', CompoundAssign', Increment, Call'}
use Rattle.edd_syntax.specs.declared.expr.Argument.TheVariants as argument
use Rattle.edd_syntax.specs.declared.stmt.Stmt.{Stmt, Row_of-Part, end_of-Part, more_of-Part}
use Rattle.edd_syntax.specs.declared.stmt.Stmt.TheVariants.{Empty, Evaluate, Block', If', IfElse', While', Do', For', Switch', Break, Continue, Return}
use Rattle.edd_syntax.specs.declared.stmt.Stmt.TheVariants as s
use Rattle.edd_syntax.specs.declared.stmt.Part.{Part}
use Rattle.edd_syntax.specs.declared.stmt.Part.TheVariants.{Declare, Statement}
use Rattle.edd_syntax.specs.declared.stmt.Declarator.{Declarator}
use Rattle.edd_syntax.specs.Expression.{arguments_from}
use Rattle.edd_syntax.specs.Statement.{body_from}
use Rattle.edd_syntax.specs.TreeView.{numbered_expr, numbered_declarator, numbered_stmt, numbered_part, arguments_in, parts_in}
use Rattle.edd_syntax.specs.Refusal.{Refusal}
use Rattle.edd_syntax.specs.SubsetRules.{Placed, optional_part, part_of, stmt_expressions, body_expressions, call_mismatches, argument_mismatches, decimals, argument_decimals}
use Rattle.edd_syntax.proofs.TreeRows.{block_is}
use Rattle.edd_types.specs.declared.sought.Sought.{Sought}
use Rattle.edd_types.specs.declared.sought.Calls.TheVariants as calls
use Rattle.edd_types.specs.declared.sought.Sought.TheVariants as sought
use Rattle.edd_types.specs.Expressions.{expr_told, arguments_told_in, optional_told, stmt_told, parts_told_in, part_told}
use Rattle.edd_types.proofs.Arguments.{same_breaches}
use Rattle.edd_types.proofs.BodyRows.{expressions_in_block}
use Rattle.edd_types.proofs.PlacesForgotten.{place_forgotten, joined, spread, all_forgotten}

-- ---- calls

mutual
  pub calls_are : (is_statement : Bool) (e : Expr Target)
      → refusals (expr_told (sought.Call calls.All) is_statement e)
      ≡ call_mismatches is_statement (numbered_expr e)
  calls_are is_statement (Literal value) = refl
  calls_are is_statement (Decimal at) = refl
  calls_are is_statement (Reference from) = refl
  calls_are is_statement (Indexed' array p index) = calls_are false index
  calls_are is_statement (Parentheses' p inner) = calls_are false inner
  calls_are is_statement (Unary' op p operand) = calls_are false operand
  calls_are is_statement (Binary' op p left q right) = joined _ _ _ _ (calls_are false left)
      (calls_are false right)
  calls_are is_statement (Compare' by p left q right) = joined _ _ _ _ (calls_are false left)
      (calls_are false right)
  calls_are is_statement (LogicalAnd' p left q right) = joined _ _ _ _ (calls_are false left)
      (calls_are false right)
  calls_are is_statement (LogicalOr' p left q right) = joined _ _ _ _ (calls_are false left)
      (calls_are false right)
  calls_are is_statement (Conditional' p test q first r second) =
      joined _ _ _ _ (calls_are false test)
      (joined _ _ _ _ (calls_are false first) (calls_are false second))
  calls_are is_statement (Assign' to p value) = calls_are false value
  calls_are is_statement (CompoundAssign' op to p value) = calls_are false value
  calls_are is_statement (Increment by to) = refl
  calls_are is_statement (Call' at function shape arguments) =
      joined _ _ _ _ (place_forgotten _ at
      ∙ same_breaches is_statement function (arguments_from (arguments_in (λ r. r) arguments)))
      (calls_in_are _ arguments)

  calls_in_are : (n : _) (row : Row_of-Argument Target n)
      → refusals (arguments_told_in (sought.Call calls.All) row)
      ≡ argument_mismatches (arguments_from (arguments_in (λ r. r) row))
  calls_in_are n end_of-Argument = refl
  calls_in_are n (more_of-Argument (argument.Text text) rest) = calls_in_are _ rest
  calls_in_are n (more_of-Argument (argument.Value e) rest) = joined _ _ _ _ (calls_are false e)
      (calls_in_are _ rest)

-- ---- decimals

mutual
  pub decimals_are : (is_statement : Bool) (e : Expr Target)
      → refusals (expr_told sought.Decimal is_statement e) ≡ decimals (numbered_expr e)
  decimals_are is_statement (Literal value) = refl
  decimals_are is_statement (Decimal at) = refl
  decimals_are is_statement (Reference from) = refl
  decimals_are is_statement (Indexed' array p index) = decimals_are false index
  decimals_are is_statement (Parentheses' p inner) = decimals_are false inner
  decimals_are is_statement (Unary' op p operand) = decimals_are false operand
  decimals_are is_statement (Binary' op p left q right) = joined _ _ _ _ (decimals_are false left)
      (decimals_are false right)
  decimals_are is_statement (Compare' by p left q right) = joined _ _ _ _ (decimals_are false left)
      (decimals_are false right)
  decimals_are is_statement (LogicalAnd' p left q right) = joined _ _ _ _ (decimals_are false left)
      (decimals_are false right)
  decimals_are is_statement (LogicalOr' p left q right) = joined _ _ _ _ (decimals_are false left)
      (decimals_are false right)
  decimals_are is_statement (Conditional' p test q first r second) =
      joined _ _ _ _ (decimals_are false test)
      (joined _ _ _ _ (decimals_are false first) (decimals_are false second))
  decimals_are is_statement (Assign' to p value) = decimals_are false value
  decimals_are is_statement (CompoundAssign' op to p value) = decimals_are false value
  decimals_are is_statement (Increment by to) = refl
  decimals_are is_statement (Call' at function shape arguments) = decimals_in_are _ arguments

  decimals_in_are : (n : _) (row : Row_of-Argument Target n)
      → refusals (arguments_told_in sought.Decimal row)
      ≡ argument_decimals (arguments_from (arguments_in (λ r. r) row))
  decimals_in_are n end_of-Argument = refl
  decimals_in_are n (more_of-Argument (argument.Text text) rest) = decimals_in_are _ rest
  decimals_in_are n (more_of-Argument (argument.Value e) rest) =
      joined _ _ _ _ (decimals_are false e) (decimals_in_are _ rest)

-- ---- the expressions of statements

module _ (b : Sought) (f : Placed Target → List Refusal)
    (same : (is_statement : Bool) (e : Expr Target) → refusals (expr_told b is_statement e)
    ≡ f (record { is_statement = is_statement; expression = numbered_expr e })) where
  pub one_is : (is_statement : Bool) (e : Expr Target) → refusals (expr_told b is_statement e)
      ≡ flat_map f (record { is_statement = is_statement; expression = numbered_expr e } ∷ [])
  one_is is_statement e = same is_statement e ∙ sym (append-nil _)

  optional_is : (e : Option (Expr Target)) → refusals (optional_told b e)
      ≡ flat_map f (optional_part (option_map numbered_expr e))
  optional_is None = refl
  optional_is (Some e) = one_is false e

  declarators_are : (all : List (Declarator Target))
      → refusals (flat_map (λ d. optional_told b d.value) all)
      ≡ flat_map f (flat_map (λ d. optional_part d.value) (map numbered_declarator all))
  declarators_are = all_forgotten (λ d. optional_told b d.value) numbered_declarator f
      (λ d. optional_part d.value) (λ d. optional_is d.value)

  mutual
    stmt_is : (x : Stmt Target) → refusals (stmt_told b x)
        ≡ flat_map f (stmt_expressions (numbered_stmt x))
    stmt_is Empty = refl
    stmt_is (Evaluate e) = one_is true e
    stmt_is (Block' shape parts) = parts_are _ parts
    stmt_is (If' test p first) = joined _ _ _ _ (same false test) (stmt_is first)
    stmt_is (IfElse' test p first q otherwise) = joined _ _ _ _ (same false test)
        (spread f _ _ (stmt_expressions (numbered_stmt first))
        (stmt_expressions (numbered_stmt otherwise)) (stmt_is first) (stmt_is otherwise))
    stmt_is (While' test p body) = joined _ _ _ _ (same false test) (stmt_is body)
    stmt_is (Do' p body test) = spread f _ _ (stmt_expressions (numbered_stmt body))
        (part_of (numbered_expr test)) (stmt_is body) (one_is false test)
    stmt_is (For' initial test update p body) =
        spread f _ _ (optional_part (option_map numbered_expr initial)) _ (optional_is initial)
        (spread f _ _ (optional_part (option_map numbered_expr test)) _ (optional_is test)
        (spread f _ _ (optional_part (option_map numbered_expr update))
        (stmt_expressions (numbered_stmt body)) (optional_is update) (stmt_is body)))
    stmt_is (Switch' on shape parts) = joined _ _ _ _ (same false on) (parts_are _ parts)
    stmt_is (Break at) = refl
    stmt_is (Continue at) = refl
    stmt_is Return = refl

    parts_are : (n : _) (row : Row_of-Part Target n) → refusals (parts_told_in b row)
        ≡ flat_map f (body_expressions (body_from (parts_in (λ r. r) row)))
    parts_are n end_of-Part = refl
    parts_are n (more_of-Part (Declare declarators) rest) =
        spread f _ _ (flat_map (λ d. optional_part d.value)
        (map numbered_declarator declarators.items))
        (body_expressions (body_from (parts_in (λ r. r) rest)))
        (declarators_are declarators.items) (parts_are _ rest)
    parts_are n (more_of-Part (Statement first) rest) =
        spread f _ _ (stmt_expressions (numbered_stmt first))
        (body_expressions (body_from (parts_in (λ r. r) rest))) (stmt_is first) (parts_are _ rest)
    parts_are n (more_of-Part _ rest) = parts_are _ rest

  -- those of a method's body, which is a block
  pub body_is : (v : Vec (Part Target) Global) → refusals (flat_map (part_told b) v.items)
      ≡ flat_map f (body_expressions (body_from (map numbered_part v.items)))
  body_is v = ap refusals (expressions_in_block b (s.Block v) v v.items refl refl)
      ∙ stmt_is (s.Block v)
      ∙ ap (λ x. flat_map f (stmt_expressions x)) (block_is (λ r. r) (s.Block v) v refl)
