use Rattle.std.proofs.Common.{◌≡◌, ◌++◌, string_bytes, take}
use Rattle.std.specs.List.{flat_map}
use Rattle.edd_image.specs.Contents.{contents_in}
use Rattle.edd_display.specs.Played.{argument_shown}
use Rattle.edd_display.proofs.plays.push_arguments.Given as goal

abbrev pub invariant-loop-argument : goal.invariant-loop-argument
invariant-loop-argument l =
    string_bytes l.line ≡ string_bytes l.initial.line
    ++ flat_map (argument_shown (contents_in l.page.image.now) l.page.language.now)
    (take l.argument-index l.arguments)
