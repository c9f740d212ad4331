-- Each function says what its instruction results in.
use Rattle.std.proofs.Common.{w64, rules, FitsSigned}
use Rattle.std.proofs.lemmas.Int.{to_z-of_z}
use Rattle.edd_machine.proofs.outcome.perform.Goals as goal

pub returns-in-Push : goal.returns-in-Push
returns-in-Push c = λ env s same. rw c.in-Push.is (c.push.ensures c.args.values.now env s)

pub returns-in-Variable : goal.returns-in-Variable
returns-in-Variable c = λ env s same. rw c.in-Variable.is (c.push_variable.ensures env s)

pub returns-in-Pop : goal.returns-in-Pop
returns-in-Pop c = λ env s same. rw c.in-Pop.is (c.pop.ensures c.args.sort c.args.values.now env s)

pub returns-in-Duplicate : goal.returns-in-Duplicate
returns-in-Duplicate c =
    λ env s same. rw c.in-Duplicate.is (c.duplicate.ensures c.args.sort c.args.values.now env s)

pub returns-in-Operate : goal.returns-in-Operate
returns-in-Operate c =
    λ env s same. rw c.in-Operate.is (c.operate_two.ensures c.args.values.now env s)

pub returns-in-Compare : goal.returns-in-Compare
returns-in-Compare c = λ env s same. rw c.in-Compare.is
    (c.compare_two.ensures c.args.sort c.args.values.now env s)

pub returns-in-Negate : goal.returns-in-Negate
returns-in-Negate c = λ env s same. rw c.in-Negate.is (c.negate_top.ensures c.args.values.now env s)

pub returns-in-Not : goal.returns-in-Not
returns-in-Not c =
    λ env s same. rw c.in-Not.is (c.not_top.ensures c.args.sort c.args.values.now env s)

pub returns-in-Complement : goal.returns-in-Complement
returns-in-Complement c =
    λ env s same. rw c.in-Complement.is
    (c.complement_top.ensures c.args.sort c.args.values.now env s)

pub returns-in-JumpIfZero : goal.returns-in-JumpIfZero
returns-in-JumpIfZero c =
    λ env s same. rw c.in-JumpIfZero.is (c.jump_if_zero.ensures c.args.sort c.args.values.now env s)

pub returns-in-JumpIfNotZero : goal.returns-in-JumpIfNotZero
returns-in-JumpIfNotZero c = λ env s same. rw c.in-JumpIfNotZero.is
    (c.jump_if_not_zero.ensures c.args.sort c.args.values.now env s)

pub returns-in-Number : goal.returns-in-Number
returns-in-Number c = λ env s same. rw c.in-Number.is
    (c.give_number.ensures c.args.sort c.args.values.now env s)

pub returns-in-Case : goal.returns-in-Case
returns-in-Case c =
    let fits : FitsSigned w64 c.in-Case.label = search rules in
    λ env s same. rw c.in-Case.is
    (simp to_z-of_z at (c.case.ensures c.args.sort c.args.values.now env s))

pub returns-in-ReadElement : goal.returns-in-ReadElement
returns-in-ReadElement c =
    λ env s same. rw c.in-ReadElement.is (c.read_element.ensures env s same)
