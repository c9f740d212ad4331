use Rattle.std.proofs.Common.{◌+◌, map, arith, sym, ◌∙◌, ap}
use Rattle.std.specs.Prelude.{option_map}
use Rattle.edd_syntax.specs.Answers.{answer_of}
use Rattle.edd_image.specs.Contents.{contents_in}
use Rattle.edd_script.specs.Named.{variables_in}
use Rattle.edd_script.specs.Said.{seen}
use Rattle.edd_script.proofs.Turns.{turn, onward, onward_line}
use Rattle.edd_script.proofs.script.parse.Goals as goal

pub loop-bytes-preserved : goal.loop-bytes-preserved
loop-bytes-preserved c =
    let before = c.loop-bytes.made in
    let after = c.add.new.self in
    let read = sym c.in_ok-parse_line.ensures ∙ ap (option_map seen) c.in-Some-2.is in
    let bound = c.loop-bytes.invariant.0 in
    let shorter = c.in-Some.ensures.shorter in (
      omega (arith, bound, shorter),
      turn (variables_in (contents_in c.args.image.now)) (onward before.values.items (map answer_of before.answers.items))
          (onward after.values.items (map answer_of after.answers.items)) (c.loop-bytes.before + 1)
          c.loop-bytes.rest.now c.in-Some.bytes.now c.in-Some.behind.now (seen c.in-Some-2.read)
          c.in-Some.ensures.sound read
          (onward_line before.values.items after.values.items (map answer_of before.answers.items)
          (map answer_of after.answers.items) (seen c.in-Some-2.read)
          c.in_ok-add-in-Some-2.ensures.values c.in_ok-add-in-Some-2.ensures.answers)
          ∙ c.loop-bytes.invariant.1,
    )
