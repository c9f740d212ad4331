use Rattle.std.proofs.Common.{sym}
use Rattle.edd_attrs.proofs.CondViews.{case_has_none, default_has_it}
use Rattle.edd_attrs.proofs.conditions.default_in.Goals as goal

pub returns-in-Case : goal.returns-in-Case
returns-in-Case g c = sym (case_has_none g.V.Element.view c.in-Case.body c.in-Case.is)

pub returns-in-Default : goal.returns-in-Default
returns-in-Default g c =
    sym (default_has_it g.V.Element.view c.in-Default.body c.in-Default.is c.deref.ensures.value)
