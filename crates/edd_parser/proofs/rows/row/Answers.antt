use Rattle.std.proofs.Common.{rules}
use Rattle.edd_parser.proofs.RowLoops.{elements_go_on}
use Rattle.edd_parser.proofs.rows.row.Goals as goal

pub loop-all-preserved : goal.loop-all-preserved
loop-all-preserved g c =
    let more = elements_go_on g.T.RowElement.view g.T.RowElement.read c.args.height_left
    g.met.T.RowElement.shortens c.loop-all.all.items c.in_ok-read_element.field-0 c.loop-all.cursor
    c.read_element.new.cursor (search rules) c.in_ok-read_element.ensures in
    let pushed = c.in_ok-push.ensures.items in
    let before = c.loop-all.invariant in
    search rules
