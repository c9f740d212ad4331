use Rattle.std.proofs.Common.{◌≤◌, List, length, map, ap, ◌∙◌, arith}
use Rattle.std.proofs.lemmas.List.{take_all}
use Rattle.edd_octets.specs.Messages.{change_of}
use Rattle.edd_embed.specs.declared.answers.Setting.{Setting}
use Rattle.edd_embed.specs.Octets.{setting_of}
use Rattle.edd_embed.specs.Records.{written_over}
use Rattle.edd_embed.proofs.Writing.{all_written, mapped_twice}
use Rattle.edd_embed.proofs.octets.write_settings.Goals as goal

pub returns-clause-sound : goal.returns-clause-sound
returns-clause-sound c = λ is.
    let room = c.args.room.now in
    let sets = c.args.sets.now in
    let all : length sets ≤ c.loop-index.index = omega (arith, c.loop-index-test.false) in
    let within : c.loop-index.index ≤ length room =
    omega (arith, c.if-sets-room.false, c.loop-index.auto.index-end) in
    all_written (λ set. setting_of (change_of set)) sets room c.loop-index.room c.loop-index.index
    within c.loop-index.invariant
    ∙ ap (λ (xs : List Setting). written_over xs room)
    (ap (map (λ set. setting_of (change_of set))) (take_all c.loop-index.index sets all)
    ∙ mapped_twice change_of setting_of sets)
