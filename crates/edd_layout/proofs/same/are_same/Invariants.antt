use Rattle.std.proofs.Common.{◌≡◌, length}
use Rattle.edd_layout.specs.Same.{spellings}
use Rattle.edd_layout.proofs.same.are_same.Given as goal

abbrev pub invariant-loop-left : goal.invariant-loop-left
invariant-loop-left l = spellings l.text l.left ≡ spellings l.other_text l.right
    → spellings l.fn.text l.fn.tokens ≡ spellings l.fn.other_text l.fn.other_tokens

abbrev pub decreases-loop-left : goal.decreases-loop-left
decreases-loop-left l = length l.left
