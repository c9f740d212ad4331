use Rattle.std.proofs.Common.{arith}
use Rattle.edd_methods.proofs.WrittenPieces.{part_missing, test_written}
use Rattle.edd_methods.proofs.loops.write_loop_part.Goals as goal

pub returns-in-Missing : goal.returns-in-Missing
returns-in-Missing c = part_missing c.args.out c.args.table.now c.args.code.now c.in-Missing.is

pub returns-in_ok-put-in-Test : goal.returns-in_ok-put-in-Test
returns-in_ok-put-in-Test c =
    test_written c.in-Test.e c.args.out c.args.code.now c.write_one.new.code c.in-Test.is
    (omega arith) c.in_ok-write_one-in-Test.ensures c.in_ok-put-in-Test.ensures.code
