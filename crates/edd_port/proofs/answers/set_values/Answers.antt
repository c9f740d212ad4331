use Rattle.std.proofs.Common.{ℤ, ◌+◌, map, drop, get_or, pos, rules, sym, ap, ◌∙◌, w64, FitsSigned}
use Rattle.std.specs.Prelude.{slice_set}
use Rattle.std.proofs.lemmas.Int.{to_z-of_z}
use Rattle.edd_syntax.specs.declared.numbers.VarNo.{VarNo}
use Rattle.edd_syntax.specs.Answers.{values_set}
use Rattle.edd_port.specs.Refusals.{change_of}
use Rattle.edd_port.proofs.Sets.{others_exist, one_is_made}
use Rattle.edd_port.proofs.answers.set_values.Goals as goal

pub loop-set-preserved : goal.loop-set-preserved
loop-set-preserved c =
    let d : VarNo × ℤ = (record { 0 = 0 }, pos 0) in
    let set : VarNo × ℤ = get_or c.args.sets.now c.loop-set.set-index d in
    let fits : FitsSigned w64 set.1 = search rules in
    record {
      exist = others_exist c.args.numbers.now c.args.sets.now c.loop-set.set-index d
          c.loop-set-test.true c.loop-set.invariant.exist;
      values = c.loop-set.invariant.values ∙ one_is_made c.loop-set.numbers c.args.sets.now
          c.loop-set.set-index d c.loop-set-test.true
          ∙ ap (λ (z : ℤ). values_set (slice_set c.loop-set.numbers set.0.0 z)
          (map change_of (drop (c.loop-set.set-index + 1) c.args.sets.now)))
          (sym (to_z-of_z w64 set.1 fits));
    }
