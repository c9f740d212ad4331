use Rattle.std.proofs.Common.{Some, None, refl, sym, ap, ◌∙◌, arith}
use Rattle.edd_cases.proofs.Suffixes.{stripped, past_return}
use Rattle.edd_cases.proofs.lines.without_end.Goals as goal

pub returns-in-None : goal.returns-in-None
returns-in-None c =
    let lacks = stripped 10 c.args.line.now None (omega arith) (omega arith)
    c.in-None.ensures.cases in
    rw lacks refl

pub returns-in-Some : goal.returns-in-Some
returns-in-Some c =
    let lf = stripped 10 c.args.line.now (Some c.in-Some.text) (omega arith) (omega arith)
    c.in-Some.ensures.cases in
    let cr = stripped 13 c.in-Some.text.now c.strip_suffix-in-Some.result (omega arith) (omega arith)
    c.strip_suffix-in-Some.ensures.cases in
    rw (lf.0, sym lf.1) (ap (λ x. x.now) c.unwrap_or.ensures
    ∙ past_return c.in-Some.text.now c.in-Some.text refl c.strip_suffix-in-Some.result cr)
