use Rattle.std.proofs.Common.{rules, ◌≡◌, ℕ, ℤ, ◌++◌, [], ◌∷◌, List, length, Some, arith, sym, ap, subst, ◌∙◌, w64, FitsSigned}
use Rattle.std.proofs.lemmas.Int.{to_z-of_z}
use Rattle.std.specs.Prelude.{slice_get}
use Rattle.std.proofs.lemmas.List.{length-append}
use Rattle.edd_loader.proofs.VariableTypes.{types_counted}
use Rattle.edd_machine.specs.Types.{types_in}
use Rattle.edd_device.specs.Starts.{StartsAs}
use Rattle.edd_device.proofs.Ranges.{from_each, grown, starts_within}
use Rattle.edd_device.proofs.starting.start_values.Goals as goal

pub loop-variable-preserved : goal.loop-variable-preserved
loop-variable-preserved c =
    let fits : FitsSigned w64 c.in_ok-number.number = search rules in
    let items : c.push.new.self.items ≡ c.loop-variable.numbers.items ++ c.in_ok-number.number ∷ []
    =
    c.in_ok-push.ensures.items
    ∙ ap (λ (z : ℤ). c.loop-variable.numbers.items ++ z ∷ [])
    (to_z-of_z w64 c.in_ok-number.number fits) in
    record {
      count = omega (
        arith,
        c.loop-variable.invariant.count,
        ap (λ (xs : List ℤ). length xs) items,
        length-append c.loop-variable.numbers.items (c.in_ok-number.number ∷ []),
      );
      starts = λ k n e. grown (StartsAs c.args.image.now) c.loop-variable.numbers.items
          c.in_ok-number.number c.loop-variable.invariant.starts
          (subst (λ (j : ℕ). StartsAs c.args.image.now j c.in_ok-number.number)
          (sym c.loop-variable.invariant.count) c.in_ok-number.ensures) k n
          (subst (λ (xs : List ℤ). slice_get xs k ≡ Some n) items e);
    }

pub returns-clause-starts : goal.returns-clause-starts
returns-clause-starts c = record {
  count = omega (
    arith,
    c.loop-variable.invariant.count,
    c.loop-variable-test.false,
    ap (λ n. n.variables) c.counts-variable-end.ensures,
    types_counted c.args.image.now c.bytes-bytes.ensures.valid,
  );
  starts = c.loop-variable.invariant.starts;
}

pub returns-clause-values : goal.returns-clause-values
returns-clause-values c =
    let count : length c.loop-variable.numbers.items ≡ length (types_in c.args.image.now) =
    omega (
      arith,
      c.loop-variable.invariant.count,
      c.loop-variable-test.false,
      ap (λ n. n.variables) c.counts-variable-end.ensures,
      types_counted c.args.image.now c.bytes-bytes.ensures.valid,
    ) in
    from_each (types_in c.args.image.now) c.loop-variable.numbers.items count
    (λ k t z e f. starts_within c.args.image.now k t e z (c.loop-variable.invariant.starts k z f))
