use Rattle.std.proofs.Common.{◌≡◌}
use Rattle.edd_syntax.specs.TreeView.{numbered_part}
use Rattle.edd_syntax.proofs.VersionLaws.{holds_from, in_parts, in_part, parts_split}
use Rattle.edd_syntax.proofs.version.+version_statements.Given as goal

-- no part so far names it
abbrev pub invariant-in_body-loop-part : goal.invariant-in_body-loop-part
invariant-in_body-loop-part l =
    holds_from in_parts in_part numbered_part parts_split l.part-index l.parts
    ≡ holds_from in_parts in_part numbered_part parts_split 0 l.parts
