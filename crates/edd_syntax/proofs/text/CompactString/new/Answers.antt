-- What was copied from a text is one.
use Rattle.std.proofs.Common.{◌∙◌, ap}
use Rattle.std.specs.Str.{is_utf8}
use Rattle.std.proofs.lemmas.Str.{is_utf8-from_IsUtf8}
use Rattle.edd_syntax.proofs.text.CompactString.new.Goals as goal

pub invariant_of-result : goal.invariant_of-result
invariant_of-result c = record {
  valid = ap is_utf8 c.in-Ok.ensures.ok ∙ is_utf8-from_IsUtf8 _ c.utf8.text;
}
