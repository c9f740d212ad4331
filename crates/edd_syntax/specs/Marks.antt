-- Attributes that are marked in a number, each by its bit.
use Rattle.std.specs.Prelude.{ℕ, Bool, ◌==◌}
use Rattle.std.specs.Int.{bit_at}
use Rattle.edd_syntax.specs.declared.numbers.Attr.{Attr}
use Rattle.edd_syntax.specs.Numbers.{attr_number}

-- the mark of this attribute is set
abbrev pub is_marked : ℕ → Attr → Bool
is_marked marks a = bit_at marks (attr_number a) == 1
