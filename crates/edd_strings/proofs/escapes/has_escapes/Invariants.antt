use Rattle.std.proofs.Common.{◌≡◌, drop, cond}
use Rattle.edd_syntax.specs.Words.{has_escapes, is_escaped}
use Rattle.edd_strings.proofs.escapes.has_escapes.Given as goal

-- the bytes read so far are right, and the rest decides
abbrev pub invariant-loop-byte : goal.invariant-loop-byte
invariant-loop-byte l =
    has_escapes l.raw ≡ cond l.after_backslash (is_escaped (drop l.byte-index l.byte-items))
    (has_escapes (drop l.byte-index l.byte-items))
