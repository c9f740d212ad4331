-- The arguments of a call, as the list that the code has of them.
use Rattle.std.proofs.Common.{◌≡◌, List, [], ◌∷◌, ◌++◌, max, arith}
use Rattle.edd_syntax.specs.Size.{argument_height}
use Rattle.edd_syntax.specs.declared.expr.Argument as argument
use Rattle.edd_syntax.specs.declared.expr.Argument.TheVariants as is
use Rattle.edd_syntax.specs.declared.reference.Path.{Path}
use Rattle.edd_expression_parser.specs.Expressions.{listed, argument_levels}

-- one more argument at the end
pub listed_height : (all : List (argument.Argument Path)) (a : argument.Argument Path)
    → argument_height (listed (all ++ a ∷ [])) ≡ max (argument_height (listed all))
    (argument_levels a)
listed_height [] (is.Value e) = omega arith
listed_height [] (is.Text w) = omega arith
listed_height (is.Value f ∷ all) a = omega (arith, listed_height all a)
listed_height (is.Text w ∷ all) a = omega (arith, listed_height all a)
