-- The numbers of the texts in an expression of a method.
use Rattle.std.specs.Prelude.{◌≡◌, Option, Some}
use Rattle.std.specs.List.{AllByRecursion}
use Rattle.edd_syntax.specs.declared.numbers.StrNo.{StrNo}
use Rattle.edd_syntax.specs.declared.reference.Target.{Target}
use Rattle.edd_syntax.specs.Text as texts
use Rattle.edd_syntax.specs.Expression.{Expr}
use Rattle.edd_syntax.specs.Strings.{expr_texts}
use Rattle.edd_syntax.specs.Words.{Words, words_of}

module _ (text : StrNo → Option Words) (number : Words → StrNo) where
  -- the number of a text's words is theirs
  abbrev pub IsNumbered : texts.Text → Type 0
  IsNumbered t = text (number (words_of t)) ≡ Some (words_of t)

  -- so it is of each text in the expression
  abbrev pub HasNumbers : Expr Target → Type 0
  HasNumbers e = AllByRecursion IsNumbered (expr_texts e)
