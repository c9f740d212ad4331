use Rattle.std.proofs.Common.{sym}
use Rattle.edd_token_reader.proofs.QualifierLoops.{read_refused, read_ends, read_goes_on}
use Rattle.edd_token_reader.proofs.qualifiers.some_qualifiers.Goals as goal

pub returns-in_err-name : goal.returns-in_err-name
returns-in_err-name g c =
    read_refused g.Q.QualifierSet.allowed g.Q.QualifierSet.among c.loop-name.all c.loop-name.cursor
    c.args.cursor.now c.loop-name.invariant c.from_residual.result c.in_err-name.field-0.0
    c.allowed.new.cursor c.from_residual.ensures.1 c.in_err-name.ensures

pub returns-then-eat : goal.returns-then-eat
returns-then-eat g c =
    read_ends g.Q.QualifierSet.allowed g.Q.QualifierSet.among c.loop-name.all c.with-all.result
    c.in_ok-name.name.now c.loop-name.cursor c.args.cursor.now c.allowed.new.cursor c.eat.new.self
    c.loop-name.invariant c.in_ok-name.ensures (sym c.if-eat.ensures.at) c.if-eat.ensures.left
    c.with-all.ensures

pub loop-name-preserved : goal.loop-name-preserved
loop-name-preserved g c =
    read_goes_on g.Q.QualifierSet.allowed g.Q.QualifierSet.among c.loop-name.all c.with-all.result
    c.in_ok-name.name.now c.loop-name.cursor c.args.cursor.now c.allowed.new.cursor c.eat.new.self
    c.skip_comma.new.cursor c.loop-name.invariant c.in_ok-name.ensures (sym c.if-eat.ensures.at)
    c.if-eat.ensures.left c.skip_comma.ensures c.with-all.ensures
