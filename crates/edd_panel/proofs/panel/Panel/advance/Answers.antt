use Rattle.std.proofs.Common.{◌≡◌, List, ℕ, sym, subst, ◌∙◌}
use Rattle.edd_syntax.specs.DeviceValues.{AreDeviceValues}
use Rattle.edd_machine.specs.Types.{types_in}
use Rattle.edd_panel.proofs.Held.{as_many}
use Rattle.edd_panel.proofs.panel.Panel.advance.Goals as goal

pub keep-requires : goal.keep-requires
keep-requires c =
    let same : c.advance-turn.new.self.image ≡ c.self.inside.image.now =
    c.advance-turn.ensures.image
    ∙ c.self.invariant.1 c.in-Some.session (sym c.take.ensures.value ∙ c.in-Some.is) in
    let left : AreDeviceValues (types_in c.self.inside.image.now)
    c.values_in.result.now.numbers.items =
    subst (λ (b : List ℕ). AreDeviceValues (types_in b) c.values_in.result.now.numbers.items) same
    c.values_in.ensures.valid in
    as_many (types_in c.self.inside.image.now) c.self.inside.values.numbers.items
    c.values_in.result.now.numbers.items c.self.invariant.0 left
