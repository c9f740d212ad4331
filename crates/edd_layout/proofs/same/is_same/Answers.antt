use Rattle.std.proofs.Common.{rules, sym}
use Rattle.edd_layout.proofs.SameKinds.{same_kind_is, spelled_alike}
use Rattle.edd_layout.proofs.same.is_same.Goals as goal

pub returns-then-eq : goal.returns-then-eq
returns-then-eq c e = spelled_alike c.args.text.now c.args.other_text.now c.args.token.now
    c.args.other.now c.in-Some-Some.bytes.now c.in-Some-Some.other_bytes.now
    (same_kind_is c.args.token.now.kind c.args.other.now.kind (sym c.if-eq.ensures))
    (search rules) (search rules) (search rules)
