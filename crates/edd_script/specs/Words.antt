-- The words of a line.
use Rattle.std.specs.Prelude.{ℕ, List, length, nat_lt, ◌==◌}
use Rattle.std.specs.List.{filter, slice_split}

-- the words of a text: what is between spaces, where that isn't empty
abbrev pub words : List ℕ → List (List ℕ)
words text = filter (λ part. nat_lt 0 (length part)) (slice_split (λ b. b == 32) text)
