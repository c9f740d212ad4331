use Rattle.std.proofs.Common.{◌≡◌, ◌++◌, string_bytes}
use Rattle.std.specs.List.{flat_map}
use Rattle.edd_display.specs.Words.{escape}
use Rattle.edd_display.proofs.page.push_quoted.Given as goal

-- what is written, and the rest with its escapes, are the text with its escapes
abbrev pub invariant-loop-character : goal.invariant-loop-character
invariant-loop-character l =
    string_bytes l.line ++ flat_map escape l.character-iterator.rest.now
    ≡ (string_bytes l.initial.line) ++ flat_map escape l.text
