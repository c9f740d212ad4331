-- The order in which the rows of elements rise, as one number for each row.
use Rattle.std.specs.Prelude.{ℕ, ◌+◌, ◌*◌}
use Rattle.edd_syntax.specs.declared.numbers.Element.{Element}

-- the array and the number, each where it is among the bytes of a row
abbrev pub element_key : (array number : ℕ) → ℕ
element_key array number = array * 281474976710656 + number

-- the key of a row, which holds its array and its number
abbrev pub key_of : Element → ℕ
key_of e = element_key e.array.0 e.number
