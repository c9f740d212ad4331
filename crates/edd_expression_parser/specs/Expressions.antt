-- What the code's expressions stand for.
use Rattle.std.specs.Prelude.{ℕ, List, map, Some}
use Rattle.edd_syntax.specs.declared.expr.Expr as code
use Rattle.edd_syntax.specs.declared.expr.Argument as argument
use Rattle.edd_syntax.specs.declared.reference.Path as path
use Rattle.edd_syntax.specs.declared.symbols.Symbol.{Symbol}
use Rattle.edd_syntax.specs.Token.{Token}
use Rattle.edd_syntax.specs.Grammar.{Site, loosest}
use Rattle.edd_syntax.specs.Reference.{Path}
use Rattle.edd_syntax.specs.Expression as pure_tree
use Rattle.edd_syntax.specs.Size.{argument_height}
use Rattle.edd_syntax.specs.TreeView.{path_of, expr_of, argument_of}
use Rattle.edd_grammar.specs.Reading.{◌>>=◌, Read, expect}
use Rattle.edd_grammar.specs.ExpressionReading.{expr_at}

-- an expression as the pure tree
abbrev pub expr_view : code.Expr path.Path → pure_tree.Expr Path
expr_view e = expr_of path_of e

-- an argument as the pure tree
abbrev pub pure_argument : argument.Argument path.Path → pure_tree.Argument Path
pure_argument a = argument_of path_of a

-- the arguments that a list has
abbrev pub listed : List (argument.Argument path.Path) → pure_tree.Arguments Path
listed all = pure_tree.arguments_from (map pure_argument all)

-- the height of one argument
abbrev pub argument_levels : argument.Argument path.Path → ℕ
argument_levels a = argument_height (pure_tree.Cons (pure_argument a) pure_tree.Nil)

-- an expression up to this sign, with the sign
unfoldable pub up_to_at : Site → ℕ → Symbol → List Token → Read (pure_tree.Expr Path)
up_to_at p height_left s here = do
  (e, behind) ← expr_at p height_left (loosest p) here
  rest ← expect s behind
  Some (e, rest)
