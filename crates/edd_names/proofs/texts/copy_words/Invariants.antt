use Rattle.std.proofs.Common.{◌≡◌, map, take}
use Rattle.edd_syntax.specs.WordsView.{text_bytes}
use Rattle.edd_names.proofs.texts.copy_words.Given as goal

-- those so far are copied
abbrev pub invariant-loop-word : goal.invariant-loop-word
invariant-loop-word l = map text_bytes l.copies.items
    ≡ map text_bytes (take l.word-index l.words)
