use Rattle.std.proofs.Common.{◌≡◌, ℤ, List, length, rules, subst}
use Rattle.edd_machine.specs.Running.{state_of, IsStateIn}
use Rattle.edd_port.proofs.Sets.{written}
use Rattle.edd_port.proofs.session.Session.execute.Goals as goal

pub invariant_of-self : goal.invariant_of-self
invariant_of-self c =
    let b = c.self.inside.image.now in
    let m = c.execute-count.new.machine in
    let count : length c.execute-count.new.values ≡ c.self.inside.values.numbers.len = search rules
    in (
      c.self.invariant.0,
      subst (λ (values : List ℤ). IsStateIn b m.unit (state_of b m values))
          (written _ _ c.self.inside.values.numbers.items count) c.execute-count.ensures.machine,
      c.execute-count.ensures.method c.self.invariant.2,
    )
