use Rattle.std.proofs.Common.{refl, sym, ap, ◌∙◌, map, arith}
use Rattle.std.proofs.Math.ListN.{drop_of_length-le}
use Rattle.edd_syntax.specs.Resolution.{all_declared, declared}
use Rattle.edd_syntax.specs.TreeView.{path_of, declarator_of, numbered_declarator}
use Rattle.edd_name_meanings.specs.Directory.{description_of, read_by}
use Rattle.edd_name_meanings.specs.PathsIn.{paths_in_declarators}
use Rattle.edd_name_meanings.specs.Meanings.{scope_of}
use Rattle.edd_expression_names.proofs.CopyingIn.{at_start, one_more, told_at_end, meant_at_end}
use Rattle.edd_statement_names.proofs.DeclaratorSteps.{behind, uses_here, uses_from, uses_split, paths_here, paths_split, meant_here, meant_from, declarators_joined, declared_more}
use Rattle.edd_expression_names.proofs.TokenSteps.{kept_at_start, kept_more, kept_at_end}
use Rattle.edd_name_meanings.specs.TokensIn.{tokens_in_declarator}
use Rattle.edd_statement_names.proofs.declarators.copy_declarators.Goals as goal

pub loop-declarator-init : goal.loop-declarator-init
loop-declarator-init c = (
  at_start (description_of c.args.names.now) (declarator_of path_of) numbered_declarator behind
      uses_here uses_from uses_split paths_here paths_in_declarators paths_split
      (meant_here (read_by c.args.names.now))
      (meant_from (read_by c.args.names.now)) (λ ws. ws)
      (declarators_joined (read_by c.args.names.now)) (
        scope_of c.args.scope.now.items,
        c.args.next.now,
      ) c.args.told.now.items
      (scope_of c.args.scope.now.items, c.args.next.now) c.args.declarators.now
      _ c.args.told.now.items refl c.in_ok-copies.ensures.items refl,
  refl,
  omega arith,
  kept_at_start tokens_in_declarator tokens_in_declarator c.args.declarators.now _
      c.in_ok-copies.ensures.items,
)

pub copy_next-requires : goal.copy_next-requires
copy_next-requires c = let n = c.loop-declarator.invariant.2 in let r =
    c.requires in omega (arith, n, r)

pub loop-declarator-preserved : goal.loop-declarator-preserved
loop-declarator-preserved c = (
  one_more (description_of c.args.names.now) (declarator_of path_of) numbered_declarator behind
      uses_here uses_from uses_split paths_here paths_in_declarators paths_split
      (meant_here (read_by c.args.names.now))
      (meant_from (read_by c.args.names.now)) (λ ws. ws)
      (declarators_joined (read_by c.args.names.now)) (
        scope_of c.args.scope.now.items,
        c.args.next.now,
      ) c.args.told.now.items
      (scope_of c.loop-declarator.scope.items, c.loop-declarator.next)
      (scope_of c.copy_next.new.scope.items, c.copy_next.new.next)
      c.loop-declarator.declarator-index c.args.declarators.now c.declarator-item.result
      c.loop-declarator.copies.items c.push.new.self.items c.in_ok-copy_next.field-0
      c.loop-declarator.told.items c.copy_next.new.told.items (omega arith) c.declarator-item.is
      (ap (λ p. (p, c.copy_next.new.next)) c.in_ok-copy_next.ensures.scope
      ∙ ap (λ n. (
        declared (declarator_of path_of c.declarator-item.result).place
            c.loop-declarator.next (scope_of c.loop-declarator.scope.items),
        n,
      )) c.in_ok-copy_next.ensures.next)
      c.in_ok-copy_next.ensures.told c.in_ok-copy_next.ensures.sound
      c.in_ok-push.ensures.items c.loop-declarator.invariant.0,
  declared_more (declarator_of path_of)
      (scope_of c.loop-declarator.scope.items, c.loop-declarator.next)
      (scope_of c.copy_next.new.scope.items, c.copy_next.new.next)
      c.loop-declarator.declarator-index c.args.declarators.now c.declarator-item.result _
      (omega arith) c.declarator-item.is
      (ap (λ p. (p, c.copy_next.new.next)) c.in_ok-copy_next.ensures.scope
      ∙ ap (λ n. (
        declared (declarator_of path_of c.declarator-item.result).place
            c.loop-declarator.next (scope_of c.loop-declarator.scope.items),
        n,
      )) c.in_ok-copy_next.ensures.next) c.loop-declarator.invariant.1,
  (let n = c.loop-declarator.invariant.2 in let m = c.in_ok-copy_next.ensures.next in omega
      (arith, n, m)),
  kept_more tokens_in_declarator tokens_in_declarator c.loop-declarator.declarator-index
      c.args.declarators.now c.declarator-item.result c.loop-declarator.copies.items
      c.push.new.self.items c.in_ok-copy_next.field-0 (omega arith) c.declarator-item.is
      c.in_ok-copy_next.ensures.kept c.in_ok-push.ensures.items c.loop-declarator.invariant.3,
)

pub returns-clause-told : goal.returns-clause-told
returns-clause-told c = told_at_end (description_of c.args.names.now) (declarator_of path_of)
    numbered_declarator behind
    uses_here uses_from uses_split paths_here paths_in_declarators paths_split
    (meant_here (read_by c.args.names.now))
    (meant_from (read_by c.args.names.now)) (λ ws. ws)
    (declarators_joined (read_by c.args.names.now)) (
      scope_of c.args.scope.now.items,
      c.args.next.now,
    ) c.args.told.now.items (λ s. refl) refl
    (scope_of c.loop-declarator.scope.items, c.loop-declarator.next)
    c.loop-declarator.declarator-index c.args.declarators.now c.loop-declarator.copies.items
    c.loop-declarator.told.items
    (drop_of_length-le c.args.declarators.now (omega arith)) c.loop-declarator.invariant.0

pub returns-clause-sound : goal.returns-clause-sound
returns-clause-sound c = meant_at_end (description_of c.args.names.now) (declarator_of path_of)
    numbered_declarator behind
    uses_here uses_from uses_split paths_here paths_in_declarators paths_split
    (meant_here (read_by c.args.names.now))
    (meant_from (read_by c.args.names.now)) (λ ws. ws)
    (declarators_joined (read_by c.args.names.now)) (
      scope_of c.args.scope.now.items,
      c.args.next.now,
    ) c.args.told.now.items (λ s. refl)
    (scope_of c.loop-declarator.scope.items, c.loop-declarator.next)
    c.loop-declarator.declarator-index c.args.declarators.now c.loop-declarator.copies.items
    c.loop-declarator.told.items
    (drop_of_length-le c.args.declarators.now (omega arith)) c.loop-declarator.invariant.0

pub returns-clause-kept : goal.returns-clause-kept
returns-clause-kept c =
    kept_at_end tokens_in_declarator tokens_in_declarator c.loop-declarator.declarator-index
    c.args.declarators.now c.loop-declarator.copies.items
    (drop_of_length-le c.args.declarators.now (omega arith)) c.loop-declarator.invariant.3

pub returns-clause-scope : goal.returns-clause-scope
returns-clause-scope c =
    ap (λ ds. all_declared (scope_of c.loop-declarator.scope.items) c.loop-declarator.next
    (map (declarator_of path_of) ds))
    (sym (drop_of_length-le c.args.declarators.now (omega arith)))
    ∙ c.loop-declarator.invariant.1
