use Rattle.std.proofs.Common.{sym, ◌∙◌}
use Rattle.edd_panel.proofs.Held.{missing}
use Rattle.edd_panel.proofs.deciding.value_of.Goals as goal

pub returns-in-None : goal.returns-in-None
returns-in-None c = missing c.args.values.now.numbers.items c.args.variable.0
    (sym c.get.ensures ∙ c.in-None.is)
