-- What is printed of a broken rule: its number, its kind, and the names at fault or a line.
use Rattle.std.specs.Prelude.{ℕ, List, [], ◌∷◌, ◌++◌, Option, Some, None, codes, decimal}
use Rattle.edd_breaches.specs.declared.fault.RuleFault.{RuleFault}
use Rattle.edd_breaches.specs.Faults.{limit_word, place_kept, refusal_of_fault}
use Rattle.edd_breaches.specs.Told.{Told}
use Rattle.edd_syntax.specs.declared.numbers.TokenNo.{TokenNo}
use Rattle.edd_syntax.specs.Refusal.{Refusal, TooMany, DuplicateName, DuplicateAttribute, MissingAttribute, UnknownName, WrongKind, FloatVariable, OtherType, BadSize, Mismatch, FloatValue, BreakOutside, ConstRange, DuplicateCase, DuplicateElement}

-- the words of a refusal, without a line
abbrev pub words_of : Refusal → List ℕ
words_of (TooMany limit) = codes "40 TOO_MANY " ++ limit_word limit
words_of (DuplicateName name) = codes "20 DUPLICATE_NAME " ++ name
words_of (DuplicateAttribute word) = codes "23 DUPLICATE_ATTRIBUTE " ++ word
words_of (MissingAttribute item word) = codes "24 MISSING_ATTRIBUTE " ++ (item ++ 32 ∷ word)
words_of (UnknownName name) = codes "21 UNKNOWN_NAME " ++ name
words_of (WrongKind name) = codes "22 WRONG_KIND " ++ name
words_of (FloatVariable variable) = codes "30 FLOAT_VARIABLE " ++ variable
words_of (OtherType variable word) = codes "31 OTHER_TYPE " ++ (variable ++ 32 ∷ word)
words_of (BadSize variable) = codes "32 BAD_SIZE " ++ variable
words_of Mismatch = codes "33 MISMATCH"
words_of FloatValue = codes "34 FLOAT_VALUE"
words_of BreakOutside = codes "35 BREAK_OUTSIDE"
words_of ConstRange = codes "36 CONST_RANGE"
words_of DuplicateCase = codes "37 DUPLICATE_CASE"
words_of DuplicateElement = codes "38 DUPLICATE_ELEMENT"

-- the words of a fault
abbrev pub fault_words : RuleFault → List ℕ
fault_words f =
    elim (refusal_of_fault f) [ Some why ↦ words_of why | None ↦ codes "no memory" ]

-- ---- with a line, where `lines` says on which line a token is

-- of the place that is kept
abbrev pub line_said : (lines : TokenNo → ℕ) → (place : Option TokenNo) → List ℕ
line_said lines None = []
line_said lines (Some at) = codes " line " ++ decimal (lines at)

-- all that is printed of what is told
abbrev pub told_words : (lines : TokenNo → ℕ) → Told → List ℕ
told_words lines t = words_of t.refusal ++ line_said lines (place_kept t.refusal t.place)
