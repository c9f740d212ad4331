use Rattle.edd_panel.specs.Found.{reading_of}
use Rattle.edd_panel.proofs.tops.mark_named.Goals as goal

pub returns : goal.returns
returns c = (reading_of c.in_ok-found.found, c.in_ok-found.ensures, c.mark_found.ensures)
