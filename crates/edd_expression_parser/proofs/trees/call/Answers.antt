use Rattle.std.proofs.Common.{ap, refl, ◌∙◌, arith}
use Rattle.edd_syntax.specs.Expression as tree
use Rattle.edd_syntax.specs.Size.{height}
use Rattle.edd_syntax.specs.TreeView.{path_of}
use Rattle.edd_syntax.proofs.TreeRows.{call_is}
use Rattle.edd_expression_parser.specs.Expressions.{listed}
use Rattle.edd_expression_parser.proofs.trees.call.Goals as goal

pub invariant_of-result : goal.invariant_of-result
invariant_of-result c =
    let all = c.args.arguments in
    record {
      counted = omega (
        arith,
        ap height (call_is path_of _ c.args.at c.in_ok-function.function all.arguments
            refl),
        all.counted,
      );
    }

pub returns : goal.returns
returns c =
    let all = c.args.arguments.arguments in
    call_is path_of _ c.args.at c.in_ok-function.function all refl
    ∙ ap (λ f. tree.Call f (listed all.items)) c.in_ok-function.ensures
