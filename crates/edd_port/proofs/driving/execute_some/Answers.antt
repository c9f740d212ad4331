use Rattle.std.proofs.Common.{◌≡◌, ℕ, ◌+◌, ◌≤◌, [], sym, ap, ◌∙◌, arith}
use Rattle.edd_instructions.specs.AbortMethods.{next, start_in}
use Rattle.edd_image.specs.Contents.{contents_in}
use Rattle.edd_instructions.proofs.StepCounts.{at_most_following}
use Rattle.edd_port.specs.Runs.{advanced, counted, environment}
use Rattle.edd_port.proofs.driving.execute_some.Goals as goal

few : (c : goal.After-from) → c.from.result ≤ c.budget_of.result
few c = omega (
  arith,
  c.from.ensures,
  c.execute-count.ensures.count,
  at_most_following (next (start_in (contents_in c.args.session.now.image)))
      (environment c.args.session.now.image) c.budget_of.result c.args.session.now.state [],
)

pub overflow_sub-result : goal.overflow_sub-result
overflow_sub-result c = omega (arith, few c, c.budget_of.ensures.within)

pub returns : goal.returns
returns c =
    let steps : (advanced c.args.session.now c.budget_of.result).steps ≡ c.from.result =
    sym c.execute-count.ensures.count ∙ sym c.from.ensures in
    record {
      budget = c.budget_of.result;
      within = c.budget_of.ensures.within;
      image = c.execute-count.ensures.image;
      state = c.execute-count.ensures.state;
      taken = c.execute-count.ensures.taken ∙ ap (λ (n : ℕ). counted (c.args.session.now.taken + n))
          c.execute-count.ensures.count;
      counts = omega (arith, steps, few c, c.budget_of.ensures.within);
      some = omega (
        arith,
        c.requires.some,
        c.from.ensures,
        c.execute-count.ensures.moves
            c.requires.runs (c.budget_of.ensures.some c.requires.some),
      );
    }
