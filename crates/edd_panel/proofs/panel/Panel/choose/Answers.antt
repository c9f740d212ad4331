use Rattle.std.proofs.Common.{ℤ, w64, ap, subst, ◌∙◌}
use Rattle.std.specs.Prelude.{Option}
use Rattle.std.proofs.lemmas.Int.{to_z-of_z}
use Rattle.std.proofs.lemmas.Result.{IfOk-weaker}
use Rattle.edd_panel.specs.declared.entries.Entry.{Entry}
use Rattle.edd_panel.specs.Happens.{OpensOne, level_of}
use Rattle.edd_panel.specs.Screens.{numbered}
use Rattle.edd_panel.proofs.panel.Panel.choose.Goals as goal

pub returns-clause-does : goal.returns-clause-does
returns-clause-does c = IfOk-weaker c.open_one.result
    (λ happened. OpensOne c.args.self.now (level_of c.args.self.now.path) c.entry_of-entry.result
    happened c.open_one.new.self) _
    (λ happened opens. (
      c.in_ok-listing.listing.lines.items,
      c.in_ok-listing.listing.trap,
      c.in_ok-listing.ensures,
      subst (λ (o : Option Entry). OpensOne c.args.self.now (level_of c.args.self.now.path) o
          happened c.open_one.new.self)
          (c.entry_of-entry.ensures
          ∙ ap (λ (z : ℤ). numbered c.in_ok-listing.listing.lines.items z)
          (to_z-of_z w64 c.args.number c.ranges.number)) opens,
    ))
    c.open_one.ensures.does
