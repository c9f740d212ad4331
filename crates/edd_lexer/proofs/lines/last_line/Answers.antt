use Rattle.std.proofs.Common.{ap, length, filter, arith}
use Rattle.std.proofs.Math.ListN.{drop_of_length-le}
use Rattle.edd_lexer.specs.Bytes.{is_line_end}
use Rattle.edd_lexer.proofs.lines.last_line.Goals as goal

pub returns : goal.returns
returns c =
    let none = ap (λ bs. length (filter is_line_end bs))
    (drop_of_length-le c.args.text.now {i = c.loop-byte.byte-index} (omega arith)) in
    let rest = c.loop-byte.invariant in
    omega (arith, none, rest.0, rest.1)
