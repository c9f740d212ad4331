use Rattle.std.proofs.Common.{◌≡◌, map}
use Rattle.edd_syntax.specs.ItemView.{numbered_attribute}
use Rattle.edd_syntax.specs.Execution.{body_in}
use Rattle.std.proofs.Common.{drop}
use Rattle.edd_methods.proofs.method.body_among.Given as goal

-- the attributes so far are no body
abbrev pub invariant-loop-attribute : goal.invariant-loop-attribute
invariant-loop-attribute l = body_in (map numbered_attribute (drop l.attribute-index l.attributes))
    ≡ body_in (map numbered_attribute l.attributes)
