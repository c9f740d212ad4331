use Rattle.std.proofs.Common.{refl, sym, arith, ◌∙◌, w32}
use Rattle.edd_script.proofs.Decimals.{parses}
use Rattle.edd_script.proofs.numbers.code.Goals as goal

pub returns : goal.returns
returns c =
    let first = c.starts_with.ensures.byte (omega arith) (omega arith) (λ w o h. h) in
    c.ok.ensures.value ∙ parses w32 32 c.args.word.now c.parse.result refl (omega arith)
    c.parse.ensures.value.0 (sym first ∙ c.if-starts_with.false)
