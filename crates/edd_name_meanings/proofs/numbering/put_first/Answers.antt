use Rattle.std.proofs.Common.{sym, ap, ◌∙◌}
use Rattle.std.specs.Prelude.{is_some}
use Rattle.edd_name_meanings.proofs.MapLaws.{absent, put_back}
use Rattle.edd_name_meanings.proofs.numbering.put_first.Goals as goal

pub returns-in-None : goal.returns-in-None
returns-in-None g c = λ q.
    absent c.args.map.now c.insert.new.self c.args.name.now c.args.value q
    (ap is_some (sym (sym c.in-None.is ∙ c.in_ok-insert.ensures.old)))
    c.in_ok-insert.ensures.updates

pub returns-in_ok-insert-in-Some : goal.returns-in_ok-insert-in-Some
returns-in_ok-insert-in-Some g c = λ q.
    put_back c.args.map.now c.insert.new.self c.insert-in-Some.new.self c.args.name.now
    c.args.value c.in-Some.first q (sym c.in_ok-insert.ensures.old ∙ c.in-Some.is)
    c.in_ok-insert.ensures.updates c.in_ok-insert-in-Some.ensures.updates
