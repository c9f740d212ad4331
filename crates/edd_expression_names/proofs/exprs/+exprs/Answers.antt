use Rattle.std.proofs.Common.{sym, arith, refl}
use Rattle.std.proofs.Math.ListN.{drop_of_length-le}
use Rattle.edd_syntax.specs.Expression.{arguments_from}
use Rattle.edd_syntax.specs.NameUses.{argument_uses}
use Rattle.edd_syntax.specs.ResolvedTrees.{at_scope, resolved_arguments}
use Rattle.edd_syntax.specs.TreeView.{path_of, argument_of, numbered_argument}
use Rattle.edd_name_meanings.specs.Directory.{description_of, read_by}
use Rattle.edd_name_meanings.specs.Meanings.{scope_of}
use Rattle.edd_expression_names.specs.ResolvedParts.{resolved_argument}
use Rattle.edd_name_meanings.specs.PathsIn.{paths_in_arguments}
use Rattle.edd_expression_names.proofs.Copying.{one_more, told_at_end, meant_at_end}
use Rattle.edd_expression_names.proofs.ExprSteps.{argument_uses_split, paths_split, arguments_joined, no_arguments, call_told, call_means, call_falls, argument_falls}
use Rattle.edd_expression_names.proofs.TokenSteps.{call_kept, kept_at_end, kept_more}
use Rattle.edd_name_meanings.specs.TokensIn.{tokens_in_argument}
use Rattle.edd_expression_names.proofs.exprs.+exprs.Goals as goal

pub copy_arguments-loop-argument-preserved : goal.copy_arguments-loop-argument-preserved
copy_arguments-loop-argument-preserved t c = (
  one_more (description_of c.args.names.now) (argument_of path_of) numbered_argument
      (λ xs. argument_uses (scope_of c.args.scope.now) c.args.kinds.now (arguments_from xs))
      (argument_uses_split (scope_of c.args.scope.now) c.args.kinds.now) paths_in_arguments
      paths_split
      (resolved_argument (at_scope (read_by c.args.names.now) (scope_of c.args.scope.now))
      ((read_by c.args.names.now).reference (scope_of c.args.scope.now) c.args.kinds.now))
      (λ xs. resolved_arguments
      (at_scope (read_by c.args.names.now) (scope_of c.args.scope.now))
      ((read_by c.args.names.now).reference (scope_of c.args.scope.now) c.args.kinds.now)
      (arguments_from xs)) arguments_from
      (arguments_joined (at_scope (read_by c.args.names.now) (scope_of c.args.scope.now))
      ((read_by c.args.names.now).reference (scope_of c.args.scope.now) c.args.kinds.now))
      c.args.told.now.items c.loop-argument.argument-index c.args.arguments.now
      c.argument-item.result c.loop-argument.all.items c.push.new.self.items
      c.in_ok-copy_argument.field-0 c.loop-argument.told.items c.copy_argument.new.told.items
      (omega arith) c.argument-item.is c.in_ok-copy_argument.ensures.told
      c.in_ok-copy_argument.ensures.sound c.in_ok-push.ensures.items c.loop-argument.invariant.0,
  kept_more tokens_in_argument tokens_in_argument c.loop-argument.argument-index
      c.args.arguments.now c.argument-item.result c.loop-argument.all.items c.push.new.self.items
      c.in_ok-copy_argument.field-0 (omega arith) c.argument-item.is
      c.in_ok-copy_argument.ensures.kept c.in_ok-push.ensures.items c.loop-argument.invariant.1,
)

pub copy_arguments-returns-clause-told : goal.copy_arguments-returns-clause-told
copy_arguments-returns-clause-told t c =
    told_at_end (description_of c.args.names.now) (argument_of path_of) numbered_argument
    (λ xs. argument_uses (scope_of c.args.scope.now) c.args.kinds.now (arguments_from xs))
    (argument_uses_split (scope_of c.args.scope.now) c.args.kinds.now) paths_in_arguments
    paths_split
    (resolved_argument (at_scope (read_by c.args.names.now) (scope_of c.args.scope.now))
    ((read_by c.args.names.now).reference (scope_of c.args.scope.now) c.args.kinds.now))
    (λ xs. resolved_arguments
    (at_scope (read_by c.args.names.now) (scope_of c.args.scope.now))
    ((read_by c.args.names.now).reference (scope_of c.args.scope.now) c.args.kinds.now)
    (arguments_from xs)) arguments_from
    (arguments_joined (at_scope (read_by c.args.names.now) (scope_of c.args.scope.now))
    ((read_by c.args.names.now).reference (scope_of c.args.scope.now) c.args.kinds.now))
    c.args.told.now.items refl refl c.loop-argument.argument-index c.args.arguments.now
    c.loop-argument.all.items c.loop-argument.told.items
    (drop_of_length-le c.args.arguments.now (omega arith)) c.loop-argument.invariant.0

pub copy_arguments-returns-clause-sound : goal.copy_arguments-returns-clause-sound
copy_arguments-returns-clause-sound t c =
    meant_at_end (description_of c.args.names.now) (argument_of path_of) numbered_argument
    (λ xs. argument_uses (scope_of c.args.scope.now) c.args.kinds.now (arguments_from xs))
    (argument_uses_split (scope_of c.args.scope.now) c.args.kinds.now) paths_in_arguments
    paths_split
    (resolved_argument (at_scope (read_by c.args.names.now) (scope_of c.args.scope.now))
    ((read_by c.args.names.now).reference (scope_of c.args.scope.now) c.args.kinds.now))
    (λ xs. resolved_arguments
    (at_scope (read_by c.args.names.now) (scope_of c.args.scope.now))
    ((read_by c.args.names.now).reference (scope_of c.args.scope.now) c.args.kinds.now)
    (arguments_from xs)) arguments_from
    (arguments_joined (at_scope (read_by c.args.names.now) (scope_of c.args.scope.now))
    ((read_by c.args.names.now).reference (scope_of c.args.scope.now) c.args.kinds.now))
    c.args.told.now.items
    (no_arguments
    (at_scope (read_by c.args.names.now) (scope_of c.args.scope.now))
    ((read_by c.args.names.now).reference (scope_of c.args.scope.now) c.args.kinds.now))
    c.loop-argument.argument-index c.args.arguments.now c.loop-argument.all.items
    c.loop-argument.told.items
    (drop_of_length-le c.args.arguments.now (omega arith)) c.loop-argument.invariant.0

pub copy_arguments-returns-clause-kept : goal.copy_arguments-returns-clause-kept
copy_arguments-returns-clause-kept t c =
    kept_at_end tokens_in_argument tokens_in_argument c.loop-argument.argument-index
    c.args.arguments.now c.loop-argument.all.items
    (drop_of_length-le c.args.arguments.now (omega arith)) c.loop-argument.invariant.1

pub copy_among-returns-in_ok-function-in-Call-clause-kept :
    goal.copy_among-returns-in_ok-function-in-Call-clause-kept
copy_among-returns-in_ok-function-in-Call-clause-kept t c =
    call_kept c.args.e.now c.in-Call.at _ _ c.deref-in-Call.result.now
    c.in_ok-function-in-Call.function c.in_ok-function-in-Call.arguments c.in-Call.is
    c.deref-in-Call.ensures.value c.in_ok-function-in-Call.ensures.kept

pub copy_among-returns-in_ok-function-in-Call-clause-told :
    goal.copy_among-returns-in_ok-function-in-Call-clause-told
copy_among-returns-in_ok-function-in-Call-clause-told t c =
    call_told (description_of c.args.names.now) c.args.e.now _ _ _ c.deref-in-Call.result.now
    c.in-Call.is
    c.deref-in-Call.ensures.value (scope_of c.args.scope.now) c.args.kinds.now
    c.args.told.now.items c.copy_call.new.told.items
    c.in_ok-function-in-Call.ensures.told

pub copy_among-returns-in_ok-function-in-Call-clause-sound :
    goal.copy_among-returns-in_ok-function-in-Call-clause-sound
copy_among-returns-in_ok-function-in-Call-clause-sound t c =
    call_means (description_of c.args.names.now) c.args.e.now _ _ _ c.deref-in-Call.result.now
    c.in-Call.is
    c.deref-in-Call.ensures.value
    (at_scope (read_by c.args.names.now) (scope_of c.args.scope.now))
    ((read_by c.args.names.now).reference (scope_of c.args.scope.now) c.args.kinds.now)
    c.in_ok-function-in-Call.function c.in_ok-function-in-Call.arguments
    c.in_ok-function-in-Call.ensures.function c.in_ok-function-in-Call.ensures.arguments

pub copy_among-copy_call-requires : goal.copy_among-copy_call-requires
copy_among-copy_call-requires t c = (
  call_falls t c.args.e.now _ _ _ c.deref-in-Call.result.now c.in-Call.is
      c.deref-in-Call.ensures.value (sym c.decreases),
  tt,
)

pub copy_arguments-copy_argument-requires : goal.copy_arguments-copy_argument-requires
copy_arguments-copy_argument-requires t c = (
  argument_falls t c.loop-argument.argument-index c.args.arguments.now c.argument-item.result
      (omega arith) c.argument-item.is (sym c.decreases),
  tt,
)
