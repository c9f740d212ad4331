-- What is told of the expressions of attributes and methods.
use Rattle.std.specs.Prelude.{Bool, true, false, not, ◌&&◌, ◌||◌, List, [], ◌∷◌, ◌++◌, map, Option, Some, None}
use Rattle.std.specs.List.{flat_map}
use Rattle.edd_breaches.specs.Told.{Told, told_at}
use Rattle.edd_syntax.specs.declared.numbers.TokenNo.{TokenNo}
use Rattle.edd_syntax.specs.declared.reference.Target.{Target}
use Rattle.edd_syntax.specs.declared.reference.Target.TheVariants.{Local, Item, Function}
use Rattle.edd_syntax.specs.declared.expr.Expr.{Expr, Row_of-Argument, end_of-Argument, more_of-Argument}
use Rattle.edd_syntax.specs.declared.expr.Expr.TheVariants.{Literal, Decimal, Reference, Indexed', Parentheses', Unary', Binary', Compare', LogicalAnd', LogicalOr', Conditional', Assign', CompoundAssign', Increment, Call'}
use Rattle.edd_syntax.specs.declared.expr.Argument.{Argument}
use Rattle.edd_syntax.specs.declared.expr.Argument.TheVariants as argument
use Rattle.edd_syntax.specs.declared.stmt.Stmt.{Stmt, Row_of-Part, end_of-Part, more_of-Part}
use Rattle.edd_syntax.specs.declared.stmt.Stmt.TheVariants.{Empty, Evaluate, Block', If', IfElse', While', Do', For', Switch', Break, Continue, Return}
use Rattle.edd_syntax.specs.declared.stmt.Part.{Part}
use Rattle.edd_syntax.specs.declared.stmt.Part.TheVariants.{Declare, Statement, CaseLabel, DefaultLabel}
use Rattle.edd_syntax.specs.declared.operators.Parameter.{Parameter}
use Rattle.edd_syntax.specs.Expression as pure
use Rattle.edd_syntax.specs.Expression.{Arguments, arguments_from}
use Rattle.edd_syntax.specs.TreeView.{arguments_in}
use Rattle.edd_syntax.specs.Refusal.{Refusal, FloatValue, Mismatch, refused_if}
use Rattle.edd_syntax.specs.Builtins.{parameters}
use Rattle.edd_syntax.specs.SubsetRules.{fits, is_abort}
use Rattle.edd_types.specs.declared.sought.Calls.{Calls}
use Rattle.edd_types.specs.declared.sought.Calls.TheVariants as calls
use Rattle.edd_types.specs.declared.sought.Sought.{Sought}
use Rattle.edd_types.specs.declared.sought.Sought.TheVariants as sought

-- ---- expressions

-- of a decimal
abbrev pub decimal_told : Sought → (at : TokenNo) → List Told
decimal_told sought.Decimal at = told_at FloatValue at ∷ []
decimal_told _ at = []

-- ---- calls

-- the call of what is no function, which stands for the name of one that does not exist
abbrev pub is_nameless : pure.Argument Target → Bool
is_nameless (pure.Value (pure.Call (Function f) arguments)) = false
is_nameless (pure.Value (pure.Call (Local slot) arguments)) = true
is_nameless (pure.Value (pure.Call (Item i) arguments)) = true
is_nameless _ = false

-- a function may have the argument for this parameter
abbrev pub fits_among : Calls → Parameter → pure.Argument Target → Bool
fits_among calls.All p argument = fits p argument
fits_among calls.Named p argument = is_nameless argument || fits p argument

-- there are as many arguments as parameters, and each fits
abbrev pub all_fit_among : Calls → List Parameter → Arguments Target → Bool
all_fit_among which [] pure.Nil = true
all_fit_among which [] (pure.Cons first rest) = false
all_fit_among which (p ∷ parameters) pure.Nil = false
all_fit_among which (p ∷ parameters) (pure.Cons first rest) = fits_among which p first
    && all_fit_among which parameters rest

-- a call of what is no function is a breach where all calls are looked for
abbrev pub nameless_breaches : Calls → List Refusal
nameless_breaches calls.All = Mismatch ∷ []
nameless_breaches calls.Named = []

-- the breach of one call: its arguments, an abort inside an expression, or what is no function
abbrev pub call_breaches_among : Calls → (is_statement : Bool) → (function : Target)
    → Arguments Target → List Refusal
call_breaches_among which is_statement (Function f) arguments =
    refused_if (not (all_fit_among which (parameters f) arguments)
    || (is_abort f && not is_statement)) Mismatch
call_breaches_among which is_statement (Local slot) arguments = nameless_breaches which
call_breaches_among which is_statement (Item i) arguments = nameless_breaches which

-- of one call, which may be a whole statement
abbrev pub call_told : Sought → (is_statement : Bool) → (function : Target) → Arguments Target
    → (at : TokenNo) → List Told
call_told (sought.Call which) is_statement function arguments at =
    map (λ why. told_at why at) (call_breaches_among which is_statement function arguments)
call_told _ is_statement function arguments at = []

-- of an expression, which may be a whole statement
abbrev mutual
  pub expr_told : Sought → (is_statement : Bool) → Expr Target → List Told
  expr_told s is_statement (Literal value) = []
  expr_told s is_statement (Decimal at) = decimal_told s at
  expr_told s is_statement (Reference from) = []
  expr_told s is_statement (Indexed' array p index) = expr_told s false index
  expr_told s is_statement (Parentheses' p inner) = expr_told s false inner
  expr_told s is_statement (Unary' op p operand) = expr_told s false operand
  expr_told s is_statement (Binary' op p left q right) = expr_told s false left
      ++ expr_told s false right
  expr_told s is_statement (Compare' by p left q right) = expr_told s false left
      ++ expr_told s false right
  expr_told s is_statement (LogicalAnd' p left q right) = expr_told s false left
      ++ expr_told s false right
  expr_told s is_statement (LogicalOr' p left q right) = expr_told s false left
      ++ expr_told s false right
  expr_told s is_statement (Conditional' p test q first r second) = expr_told s false test
      ++ (expr_told s false first ++ expr_told s false second)
  expr_told s is_statement (Assign' to p value) = expr_told s false value
  expr_told s is_statement (CompoundAssign' op to p value) = expr_told s false value
  expr_told s is_statement (Increment by to) = []
  expr_told s is_statement (Call' at function shape arguments) =
      call_told s is_statement function (arguments_from (arguments_in (λ r. r) arguments)) at
      ++ arguments_told_in s arguments

  -- of the arguments that a vector holds
  pub arguments_told_in : {n : _} → Sought → Row_of-Argument Target n → List Told
  arguments_told_in s end_of-Argument = []
  arguments_told_in s (more_of-Argument first rest) = argument_told s first
      ++ arguments_told_in s rest

  -- of an argument
  pub argument_told : Sought → Argument Target → List Told
  argument_told s (argument.Text text) = []
  argument_told s (argument.Value e) = expr_told s false e

-- of an expression under conditions, or in one of them
abbrev pub condition_told : Sought → Expr Target → List Told
condition_told sought.Enumerator e = []
condition_told (sought.Call which) e = expr_told (sought.Call which) false e
condition_told sought.Decimal e = expr_told sought.Decimal false e
condition_told sought.Constant e = []
condition_told sought.Default e = []

-- ---- statements

-- of an expression that may be missing
abbrev pub optional_told : Sought → Option (Expr Target) → List Told
optional_told s None = []
optional_told s (Some e) = expr_told s false e

-- of the expressions of a statement
abbrev mutual
  pub stmt_told : Sought → Stmt Target → List Told
  stmt_told s Empty = []
  stmt_told s (Evaluate e) = expr_told s true e
  stmt_told s (Block' shape parts) = parts_told_in s parts
  stmt_told s (If' test p first) = expr_told s false test ++ stmt_told s first
  stmt_told s (IfElse' test p first q otherwise) = expr_told s false test
      ++ (stmt_told s first ++ stmt_told s otherwise)
  stmt_told s (While' test p body) = expr_told s false test ++ stmt_told s body
  stmt_told s (Do' p body test) = stmt_told s body ++ expr_told s false test
  stmt_told s (For' initial test update p body) = optional_told s initial
      ++ (optional_told s test ++ (optional_told s update ++ stmt_told s body))
  stmt_told s (Switch' on shape parts) = expr_told s false on ++ parts_told_in s parts
  stmt_told s (Break at) = []
  stmt_told s (Continue at) = []
  stmt_told s Return = []

  -- of the parts that a vector holds
  pub parts_told_in : {n : _} → Sought → Row_of-Part Target n → List Told
  parts_told_in s end_of-Part = []
  parts_told_in s (more_of-Part first rest) = part_told s first ++ parts_told_in s rest

  -- of a part
  pub part_told : Sought → Part Target → List Told
  part_told s (Declare declarators) = flat_map (λ d. optional_told s d.value) declarators.items
  part_told s (Statement first) = stmt_told s first
  part_told s (CaseLabel at label) = []
  part_told s (DefaultLabel at) = []
