use Rattle.std.proofs.Common.{◌≡◌, false, true, ◌-◌, suc, sym, ◌∙◌, ◌⊎◌, inl, inr, arith}
use Rattle.edd_instructions.specs.declared.records.Status.TheVariants.{Running}
use Rattle.edd_port.proofs.Advancing.{begins, goes, ends}
use Rattle.edd_port.proofs.steps.execute.Goals.{then-loop-left-test+else-matches, in-Running, in_default, else-loop-left-test}
use Rattle.edd_port.proofs.steps.execute.Goals as goal

pub loop-left-init : goal.loop-left-init
loop-left-init c = record { run = begins _ _ _ _ c.requires; method = λ sort. sort }

pub loop-left-preserved : goal.loop-left-preserved
loop-left-preserved c =
    let fewer : c.loop-left.left ≡ suc (c.loop-left.left - 1) = omega arith in
    let runs : c.loop-left.machine.status ≡ Running = elim c.match-matches.branch [
      | in-Running w ↦ w.in-Running.is
      | in_default w ↦ let clash : false ≡ true = sym w.matches-is ∙ c.if-matches.true in absurd cc
    ] in
    record {
      run = goes _ _ _ _ _ _ _ _ _ _ c.loop-left.invariant.run runs fewer c.step.ensures.step
          c.step.ensures.machine;
      method = λ sort. c.step.ensures.method (c.loop-left.invariant.method sort);
    }

pub returns : goal.returns
returns c =
    let over : (c.loop-left.left ≡ 0) ⊎ (c.loop-left.machine.status ≡ Running → ⊥) =
    elim c.loop-left-test.branch [
      | then-loop-left-test+else-matches w ↦ inr (elim w.match-matches.branch [
        | in-Running w' ↦ let clash : true ≡ false = sym w'.matches-is
            ∙ w.if-matches.false in absurd cc
        | in_default w' ↦ w'.in_default.not-Running
      ])
      | else-loop-left-test w ↦ inl (omega (arith, w.loop-left-test.false))
    ] in
    let done = ends _ _ _ _ _ _ _ c.loop-left.invariant.run over in
    record {
      machine = done.machine;
      method = c.loop-left.invariant.method;
      state = done.state;
      count = done.counts;
      ending = done.ending;
      all = done.all;
      moves = done.moves;
    }
