-- What expressions and statements in the code stand for: trees of the pure syntax, without places
-- and pointers. `f` says what a reference stands for.
use Rattle.std.specs.Prelude.{List, [], ◌∷◌, map, option_map}
use Rattle.edd_syntax.specs.declared.reference.Path.{Path}
use Rattle.edd_syntax.specs.declared.reference.Target.{Target}
use Rattle.edd_syntax.specs.declared.expr.Expr.{Expr, Row_of-Argument, end_of-Argument, more_of-Argument}
use Rattle.edd_syntax.specs.declared.expr.Expr.TheVariants.{Literal, Decimal, Reference, Indexed', Parentheses', Unary', Binary', Compare', LogicalAnd', LogicalOr', Conditional', Assign', CompoundAssign', Increment, Call'}
use Rattle.edd_syntax.specs.declared.expr.Argument.{Argument}
use Rattle.edd_syntax.specs.declared.expr.Argument.TheVariants as argument
use Rattle.edd_syntax.specs.declared.stmt.Stmt.{Stmt, Row_of-Part, end_of-Part, more_of-Part}
use Rattle.edd_syntax.specs.declared.stmt.Stmt.TheVariants.{Empty, Evaluate, Block', If', IfElse', While', Do', For', Switch', Break, Continue, Return}
use Rattle.edd_syntax.specs.declared.stmt.Part.{Part}
use Rattle.edd_syntax.specs.declared.stmt.Part.TheVariants.{Declare, Statement, CaseLabel, DefaultLabel}
use Rattle.edd_syntax.specs.declared.stmt.Declarator.{Declarator}
use Rattle.edd_syntax.specs.WordsView.{text_of, text_bytes}
use Rattle.edd_syntax.specs.Reference as references
use Rattle.edd_syntax.specs.Expression as pure
use Rattle.edd_syntax.specs.Statement as statement

-- a path of names
abbrev pub path_of : Path → references.Path
path_of p = record { base = text_bytes p.base; members = map text_bytes p.members.items }

-- an expression
abbrev mutual
  pub expr_of : {R S : Type 0} → (R → S) → Expr R → pure.Expr S
  expr_of f (Literal value) = pure.Literal value
  expr_of f (Decimal at) = pure.Decimal
  expr_of f (Reference from) = pure.Reference (f from)
  expr_of f (Indexed' array p index) = pure.Indexed (f array) (expr_of f index)
  expr_of f (Parentheses' p inner) = pure.Parentheses (expr_of f inner)
  expr_of f (Unary' op p operand) = pure.Unary op (expr_of f operand)
  expr_of f (Binary' op p left q right) = pure.Binary op (expr_of f left) (expr_of f right)
  expr_of f (Compare' by p left q right) = pure.Compare by (expr_of f left) (expr_of f right)
  expr_of f (LogicalAnd' p left q right) = pure.LogicalAnd (expr_of f left) (expr_of f right)
  expr_of f (LogicalOr' p left q right) = pure.LogicalOr (expr_of f left) (expr_of f right)
  expr_of f (Conditional' p test q first r second) = pure.Conditional (expr_of f test)
      (expr_of f first) (expr_of f second)
  expr_of f (Assign' to p value) = pure.Assign (f to) (expr_of f value)
  expr_of f (CompoundAssign' op to p value) = pure.CompoundAssign op (f to) (expr_of f value)
  expr_of f (Increment by to) = pure.Increment by (f to)
  expr_of f (Call' at function shape arguments) =
      pure.Call (f function) (pure.arguments_from (arguments_in f arguments))

  -- the arguments that a vector holds
  pub arguments_in : {R S : Type 0} {n : _} → (R → S) → Row_of-Argument R n → List (pure.Argument S)
  arguments_in f end_of-Argument = []
  arguments_in f (more_of-Argument first rest) = argument_of f first ∷ arguments_in f rest

  -- an argument
  pub argument_of : {R S : Type 0} → (R → S) → Argument R → pure.Argument S
  argument_of f (argument.Text text) = pure.Text (text_of text)
  argument_of f (argument.Value e) = pure.Value (expr_of f e)

-- a declarator
abbrev pub declarator_of : {R S : Type 0} → (R → S) → Declarator R → statement.Declarator S
declarator_of f d = record { place = f d.place; value = option_map (expr_of f) d.value }

-- a statement
abbrev mutual
  pub stmt_of : {R S : Type 0} → (R → S) → Stmt R → statement.Stmt S
  stmt_of f Empty = statement.Empty
  stmt_of f (Evaluate e) = statement.Evaluate (expr_of f e)
  stmt_of f (Block' shape parts) = statement.Block (statement.body_from (parts_in f parts))
  stmt_of f (If' test p first) = statement.If (expr_of f test) (stmt_of f first)
  stmt_of f (IfElse' test p first q otherwise) = statement.IfElse (expr_of f test) (stmt_of f first)
      (stmt_of f otherwise)
  stmt_of f (While' test p body) = statement.While (expr_of f test) (stmt_of f body)
  stmt_of f (Do' p body test) = statement.Do (stmt_of f body) (expr_of f test)
  stmt_of f (For' initial test update p body) =
      statement.For (option_map (expr_of f) initial) (option_map (expr_of f) test)
      (option_map (expr_of f) update) (stmt_of f body)
  stmt_of f (Switch' on shape parts) =
      statement.Switch (expr_of f on) (statement.body_from (parts_in f parts))
  stmt_of f (Break at) = statement.Break
  stmt_of f (Continue at) = statement.Continue
  stmt_of f Return = statement.Return

  -- the parts that a vector holds
  pub parts_in : {R S : Type 0} {n : _} → (R → S) → Row_of-Part R n → List (statement.Part S)
  parts_in f end_of-Part = []
  parts_in f (more_of-Part first rest) = part_of f first ∷ parts_in f rest

  -- a part of a body
  pub part_of : {R S : Type 0} → (R → S) → Part R → statement.Part S
  part_of f (Declare declarators) = statement.Declare (map (declarator_of f) declarators.items)
  part_of f (Statement s) = statement.Statement (stmt_of f s)
  part_of f (CaseLabel at label) = statement.CaseLabel label
  part_of f (DefaultLabel at) = statement.DefaultLabel

-- ---- trees whose references are numbers already

-- an expression
abbrev pub numbered_expr : Expr Target → pure.Expr Target
numbered_expr = expr_of (λ r. r)

-- an argument
abbrev pub numbered_argument : Argument Target → pure.Argument Target
numbered_argument = argument_of (λ r. r)

-- a declarator
abbrev pub numbered_declarator : Declarator Target → statement.Declarator Target
numbered_declarator = declarator_of (λ r. r)

-- a statement
abbrev pub numbered_stmt : Stmt Target → statement.Stmt Target
numbered_stmt = stmt_of (λ r. r)

-- a part of a body
abbrev pub numbered_part : Part Target → statement.Part Target
numbered_part = part_of (λ r. r)
