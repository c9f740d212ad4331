-- Names and texts as they are written in the source.
use Rattle.std.specs.Prelude.{ℕ, List}

-- a name, by its bytes
abbrev pub Name : Type 0
Name = List ℕ

-- a text: the raw insides of adjacent strings, joined and with their escapes, or a key of the
-- dictionary
pub data Text : Type 0 where
  Quoted : (raw : List ℕ) → Text
  Key : (name : Name) → Text
