-- Whole numbers in two's complement: what is left of a number in w bits, and the operators at that
-- width.
use Rattle.std.specs.Prelude.{ℕ, ◌-◌, ◌*◌, ◌^◌, Bool, not, ◌&&◌, ℤ, pos, negsuc, ◌+ℤ◌, ◌-ℤ◌, ◌*ℤ◌, neg_ℤ, nat_lt, suc, if◌then◌else◌, unsigned_abs, bit_and, bit_or, bit_xor, int_lt, int_le, int_div, int_rem, Result, Ok, Err}
use Rattle.std.specs.Int.{int_rem_euclid, int_shr}
use Rattle.std.specs.Ordering.{int_eq}
use Rattle.edd_syntax.specs.declared.operators.Operator.{Operator}
use Rattle.edd_syntax.specs.declared.operators.Operator.TheVariants as operator
use Rattle.edd_syntax.specs.declared.operators.Comparison.{Comparison}
use Rattle.edd_syntax.specs.declared.operators.Comparison.TheVariants as comparison
use Rattle.edd_syntax.specs.declared.operators.UnaryOperator.{UnaryOperator}
use Rattle.edd_syntax.specs.declared.operators.UnaryOperator.TheVariants as unary_operator
use Rattle.edd_syntax.specs.declared.types.VarType.{VarType}
use Rattle.edd_syntax.specs.declared.types.VarType.TheVariants as var_type
use Rattle.edd_syntax.specs.declared.answer.Trap.{Trap}
use Rattle.edd_syntax.specs.declared.answer.Trap.TheVariants as trap

-- the number from 0 to 2 ^ w - 1 that equals z modulo 2 ^ w
abbrev pub residue : ℕ → ℤ → ℕ
residue w z = unsigned_abs (int_rem_euclid z (pos (2 ^ w)))

-- the signed number whose w bits are those of n, a number below 2 ^ w
abbrev pub as_signed : ℕ → ℕ → ℤ
as_signed w n = if nat_lt n (2 ^ (w - 1)) then pos n else negsuc (2 ^ w - suc n)

-- the number from -2 ^ (w - 1) to 2 ^ (w - 1) - 1 that equals z modulo 2 ^ w
unfoldable pub wrap : ℕ → ℤ → ℤ
wrap w z = as_signed w (residue w z)

-- what a variable of a type and a size in octets keeps of z
unfoldable pub store : VarType → (size : ℕ) → ℤ → ℤ
store var_type.Integer size z = wrap (8 * size) z
store var_type.UnsignedInteger size z = pos (residue (8 * size) z)
store var_type.Enumerated size z = pos (residue (8 * size) z)
store var_type.BitEnumerated size z = pos (residue (8 * size) z)

-- 1 or 0
abbrev pub truth : Bool → ℤ
truth b = if b then pos 1 else pos 0

-- the number is 0
abbrev pub is_zero : ℤ → Bool
is_zero z = int_eq z (pos 0)

-- ---- the operators at a width of w bits

-- f of the bits of both operands
abbrev pub bitwise : (ℕ → ℕ → ℕ) → ℕ → ℤ → ℤ → ℤ
bitwise f w a b = as_signed w (f (residue w a) (residue w b))

-- `/` and `%`, by f: a divisor of 0 traps, and so does the least number by -1
abbrev pub divide : (ℤ → ℤ → ℤ) → ℕ → ℤ → ℤ → Result ℤ Trap
divide f w a b =
    if is_zero b then Err trap.DivZero
    else (if int_eq a (neg_ℤ (pos (2 ^ (w - 1)))) && int_eq b (negsuc 0) then Err trap.DivOverflow
    else Ok (f a b))

-- `<<` and `>>`, by f: a count outside 0 to w - 1 traps
abbrev pub shift : (ℤ → ℕ → ℤ) → ℕ → ℤ → ℤ → Result ℤ Trap
shift f w a (pos count) = if nat_lt count w then Ok (f a count) else Err trap.BadShift
shift f w a (negsuc count) = Err trap.BadShift

-- the value of an operator on a and b, or the trap
unfoldable pub operate : ℕ → Operator → ℤ → ℤ → Result ℤ Trap
operate w operator.Add a b = Ok (wrap w (a +ℤ b))
operate w operator.Subtract a b = Ok (wrap w (a -ℤ b))
operate w operator.Multiply a b = Ok (wrap w (a *ℤ b))
operate w operator.Divide a b = divide int_div w a b
operate w operator.Remainder a b = divide int_rem w a b
operate w operator.ShiftLeft a b = shift (λ z count. wrap w (z *ℤ pos (2 ^ count))) w a b
operate w operator.ShiftRight a b = shift int_shr w a b
operate w operator.And a b = Ok (bitwise bit_and w a b)
operate w operator.Or a b = Ok (bitwise bit_or w a b)
operate w operator.Xor a b = Ok (bitwise bit_xor w a b)

-- 1 where the comparison holds, else 0
unfoldable pub compare : Comparison → ℤ → ℤ → ℤ
compare comparison.Equal a b = truth (int_eq a b)
compare comparison.NotEqual a b = truth (not (int_eq a b))
compare comparison.Less a b = truth (int_lt a b)
compare comparison.LessOrEqual a b = truth (int_le a b)
compare comparison.Greater a b = truth (int_lt b a)
compare comparison.GreaterOrEqual a b = truth (int_le b a)

-- the value of an operator before its operand
unfoldable pub apply : ℕ → UnaryOperator → ℤ → ℤ
apply w unary_operator.Plus a = a
apply w unary_operator.Minus a = wrap w (neg_ℤ a)
apply w unary_operator.Not a = truth (is_zero a)
apply w unary_operator.Complement a = neg_ℤ a -ℤ pos 1
