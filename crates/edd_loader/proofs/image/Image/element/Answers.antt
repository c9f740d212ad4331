use Rattle.std.proofs.Common.{◌≡◌, subst, true}
use Rattle.std.specs.Prelude.{IfSome}
use Rattle.edd_image.specs.Fields.{counts_in}
use Rattle.edd_image.specs.Existing.{variable_exists}
use Rattle.edd_loader.proofs.ElementLaws.{variable_there}
use Rattle.edd_loader.proofs.image.Image.element.Goals as goal

pub returns-clause-exists : goal.returns-clause-exists
returns-clause-exists c =
    subst (λ b. IfSome c.element_at.result (λ v. variable_exists (counts_in b) v ≡ true))
    c.self.view_is (variable_there _ _ _ _ c.self.invariant.0 c.element_at.ensures)
