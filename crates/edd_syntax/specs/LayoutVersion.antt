-- Whether an image of a description needs the second version of the layout: where there is an
-- array, or where a method names add_abort_method, also in code that is never reached.
use Rattle.std.specs.Prelude.{Bool, true, false, List, ◌||◌, nat_lt}
use Rattle.std.specs.List.{list_any}
use Rattle.edd_syntax.specs.declared.numbers.Kind.TheVariants as kind
use Rattle.edd_syntax.specs.declared.operators.Builtin.TheVariants as builtin
use Rattle.edd_syntax.specs.Reference.{Target, Function}
use Rattle.edd_syntax.specs.Expression as expr
use Rattle.edd_syntax.specs.Expression.{Expr, Indexed, Parentheses, Unary, Binary, Compare, LogicalAnd, LogicalOr, Conditional, Assign, CompoundAssign, Call, Arguments}
use Rattle.edd_syntax.specs.Statement.{Body}
use Rattle.edd_syntax.specs.Item.{Description}
use Rattle.edd_syntax.specs.Resolution.{count_of}
use Rattle.edd_syntax.specs.SubsetRules.{Placed, body_expressions, bodies_of}

-- it is the function that lists abort methods
abbrev pub is_add_abort_method : Target → Bool
is_add_abort_method (Function builtin.AddAbortMethod) = true
is_add_abort_method _ = false

-- whether an expression, or one of its arguments, names that function
abbrev mutual
  pub names_it : Expr Target → Bool
  names_it (Indexed array index) = names_it index
  names_it (Parentheses inner) = names_it inner
  names_it (Unary op operand) = names_it operand
  names_it (Binary op left right) = names_it left || names_it right
  names_it (Compare by left right) = names_it left || names_it right
  names_it (LogicalAnd left right) = names_it left || names_it right
  names_it (LogicalOr left right) = names_it left || names_it right
  names_it (Conditional test first second) =
      names_it test || (names_it first || names_it second)
  names_it (Assign to value) = names_it value
  names_it (CompoundAssign op to value) = names_it value
  names_it (Call function arguments) = is_add_abort_method function || argument_names_it arguments
  names_it _ = false

  -- whether one of these arguments does
  pub argument_names_it : Arguments Target → Bool
  argument_names_it expr.Nil = false
  argument_names_it (expr.Cons (expr.Text text) rest) = argument_names_it rest
  argument_names_it (expr.Cons (expr.Value e) rest) = names_it e || argument_names_it rest

-- whether one of these expressions does
abbrev pub one_names_it : List (Placed Target) → Bool
one_names_it = list_any (λ p. names_it p.expression)

-- whether an expression of a method's body does
abbrev pub body_names_it : Body Target → Bool
body_names_it body = one_names_it (body_expressions body)

-- the first version has neither arrays nor abort methods (this profile)
abbrev pub needs_second_version : Description Target → Bool
needs_second_version unit =
    nat_lt 0 (count_of kind.Array unit.items) || list_any body_names_it (bodies_of unit)
