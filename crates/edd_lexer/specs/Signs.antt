-- The signs and operators, by their bytes.
use Rattle.std.specs.Prelude.{ℕ, ◌==◌, Bool, false, ◌||◌, List, ◌++◌, codes}
use Rattle.std.specs.Char.{is_ascii_digit}
use Rattle.edd_syntax.specs.declared.operators.Operator.{Operator}
use Rattle.edd_syntax.specs.declared.operators.Operator.TheVariants as operator
use Rattle.edd_syntax.specs.declared.operators.Comparison.{Comparison}
use Rattle.edd_syntax.specs.declared.operators.Comparison.TheVariants as comparison
use Rattle.edd_syntax.specs.declared.symbols.Symbol.{Symbol}
use Rattle.edd_syntax.specs.declared.symbols.Symbol.TheVariants as symbol

-- how an operator is written
abbrev pub operator_bytes : Operator → List ℕ
operator_bytes operator.Add = codes "+"
operator_bytes operator.Subtract = codes "-"
operator_bytes operator.Multiply = codes "*"
operator_bytes operator.Divide = codes "/"
operator_bytes operator.Remainder = codes "%"
operator_bytes operator.ShiftLeft = codes "<<"
operator_bytes operator.ShiftRight = codes ">>"
operator_bytes operator.And = codes "&"
operator_bytes operator.Or = codes "|"
operator_bytes operator.Xor = codes "^"

-- how a comparison is written
abbrev pub comparison_bytes : Comparison → List ℕ
comparison_bytes comparison.Equal = codes "=="
comparison_bytes comparison.NotEqual = codes "!="
comparison_bytes comparison.Less = codes "<"
comparison_bytes comparison.LessOrEqual = codes "<="
comparison_bytes comparison.Greater = codes ">"
comparison_bytes comparison.GreaterOrEqual = codes ">="

-- how a sign is written
abbrev pub symbol_bytes : Symbol → List ℕ
symbol_bytes symbol.OpenBrace = codes "{"
symbol_bytes symbol.CloseBrace = codes "}"
symbol_bytes symbol.OpenParenthesis = codes "("
symbol_bytes symbol.CloseParenthesis = codes ")"
symbol_bytes symbol.OpenBracket = codes "["
symbol_bytes symbol.CloseBracket = codes "]"
symbol_bytes symbol.Semicolon = codes ";"
symbol_bytes symbol.Comma = codes ","
symbol_bytes symbol.Colon = codes ":"
symbol_bytes symbol.Dot = codes "."
symbol_bytes symbol.Question = codes "?"
symbol_bytes symbol.Exclamation = codes "!"
symbol_bytes symbol.Tilde = codes "~"
symbol_bytes symbol.Equals = codes "="
symbol_bytes symbol.LogicalAnd = codes "&&"
symbol_bytes symbol.LogicalOr = codes "||"
symbol_bytes symbol.Increment = codes "++"
symbol_bytes symbol.Decrement = codes "--"
symbol_bytes (symbol.Operator o) = operator_bytes o
symbol_bytes (symbol.Comparison c) = comparison_bytes c
symbol_bytes (symbol.CompoundAssign o) = operator_bytes o ++ codes "="

-- ---- what makes something longer of a sign, if it follows directly: another sign, a comment, or
-- a number

-- the byte is `=`
abbrev is_equals : ℕ → Bool
is_equals b = b == 61

-- the byte makes something longer of the operator
abbrev pub lengthens_operator : Operator → ℕ → Bool
lengthens_operator operator.Add b = b == 43 || is_equals b
lengthens_operator operator.Subtract b = b == 45 || is_equals b
lengthens_operator operator.Divide b = b == 47 || b == 42 || is_equals b
lengthens_operator operator.And b = b == 38 || is_equals b
lengthens_operator operator.Or b = b == 124 || is_equals b
lengthens_operator _ b = is_equals b

-- the byte makes something longer of the comparison
abbrev pub lengthens_comparison : Comparison → ℕ → Bool
lengthens_comparison comparison.Less b = b == 60 || is_equals b
lengthens_comparison comparison.Greater b = b == 62 || is_equals b
lengthens_comparison _ b = false

-- the byte makes something longer of the sign
abbrev pub lengthens : Symbol → ℕ → Bool
lengthens symbol.Dot b = is_ascii_digit b
lengthens symbol.Exclamation b = is_equals b
lengthens symbol.Equals b = is_equals b
lengthens (symbol.Operator o) b = lengthens_operator o b
lengthens (symbol.Comparison c) b = lengthens_comparison c b
lengthens _ b = false
