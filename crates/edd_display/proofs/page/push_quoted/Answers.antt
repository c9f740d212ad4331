use Rattle.std.proofs.Common.{string_bytes, ap, ◌∙◌, ◌++◌}
use Rattle.std.specs.List.{flat_map}
use Rattle.std.specs.Char.{encode_utf8}
use Rattle.edd_display.specs.Words.{escape}
use Rattle.edd_display.proofs.Escaping.{quoted_end}
use Rattle.edd_display.proofs.page.push_quoted.Goals as goal

pub returns : goal.returns
unfolding encode_utf8
returns c =
    quoted_end (string_bytes c.args.line.now) (string_bytes c.loop-character.line)
    (string_bytes c.push-2.new.self) c.loop-character.character-iterator.rest.now c.args.text.now
    c.in-None.ensures.steps.0.0
    (c.loop-character.invariant
    ∙ ap (λ xs. xs ++ flat_map escape c.args.text.now) c.in_ok-push.ensures.bytes)
    c.in_ok-push-2.ensures.bytes
