-- The references, the texts and the calls of expressions that methods may have.
use Rattle.std.specs.Prelude.{◌≡◌, Bool, true, false, nat_lt, []}
use Rattle.std.specs.List.{AllByRecursion}
use Rattle.edd_syntax.specs.declared.numbers.StrNo.{StrNo}
use Rattle.edd_syntax.specs.declared.reference.Target.{Target}
use Rattle.edd_syntax.specs.declared.reference.Target.TheVariants.{Local, Item, Function}
use Rattle.edd_syntax.specs.Expression.{Expr}
use Rattle.edd_syntax.specs.Item.{Attribute}
use Rattle.edd_syntax.specs.Strings.{expr_texts}
use Rattle.edd_syntax.specs.SubsetRules.{attribute_expressions, call_mismatches}
use Rattle.edd_syntax.specs.Words.{Words, words_of}
use Rattle.edd_instructions.specs.declared.unit.Context.{Context}
use Rattle.edd_image.specs.Existing.{string_exists}
use Rattle.edd_code.specs.Reads.{item_is_there}

-- where a reference is a variable, an array or a method, it is one of so many, and where it is a
-- local, there is its slot
abbrev pub uses_existing : Context → Target → Bool
uses_existing context (Local slot) = nat_lt slot context.slots
uses_existing context (Item i) = item_is_there context.counts i
uses_existing context (Function f) = true

-- each text has the number of a string that exists
abbrev pub HasStrings : Context → (number : Words → StrNo) → Expr Target → Type 0
HasStrings context number e =
    AllByRecursion (λ t. string_exists context.counts (number (words_of t)) ≡ true) (expr_texts e)

-- expressions of attributes refer to no local
abbrev pub is_no_local : Target → Bool
is_no_local (Local slot) = false
is_no_local (Item i) = true
is_no_local (Function f) = true

-- the calls of each expression of an attribute fit, and so do those of a method's body
abbrev pub CallsFit : Attribute Target → Type 0
CallsFit a = AllByRecursion (λ p. call_mismatches p.is_statement p.expression ≡ [])
    (attribute_expressions a)
