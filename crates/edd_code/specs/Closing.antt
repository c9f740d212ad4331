-- A jump is written before its target is known: four bytes stay open, and the place after the code
-- so far closes them.
use Rattle.std.specs.Prelude.{ℕ, ◌+◌, List, ◌++◌, length, take, drop}
use Rattle.edd_image.specs.Layout.{u32}
use Rattle.edd_code.specs.Blocks.{target}

-- the length of the code so far, written into the four bytes at `hole`
abbrev pub closed : (code : List ℕ) → (hole : ℕ) → List ℕ
closed code hole = take hole code ++ (u32 (target (length code)) ++ drop (hole + 4) code)
