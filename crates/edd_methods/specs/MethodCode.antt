-- The code of a method's body, and what it needs of the body's expressions.
use Rattle.std.specs.Prelude.{◌≡◌, [], Option}
use Rattle.std.specs.List.{AllByRecursion}
use Rattle.edd_syntax.specs.declared.numbers.StrNo.{StrNo}
use Rattle.edd_syntax.specs.declared.reference.Target.{Target}
use Rattle.edd_syntax.specs.Statement.{Body}
use Rattle.edd_syntax.specs.SubsetRules.{body_expressions, call_mismatches}
use Rattle.edd_syntax.specs.Words.{Words}
use Rattle.edd_code.specs.Flow.{AreSpelled}
use Rattle.edd_code.specs.MethodExpressions.{method_block}
use Rattle.edd_code.specs.Numbered.{HasNumbers}
use Rattle.edd_methods.specs.Statements.{Code}
use Rattle.edd_methods.specs.StatementCode.{body_code}
use Rattle.edd_methods.specs.TreeExpressions.{UnlessAbort}

-- number: the number of each text
module _ (number : Words → StrNo) where
  -- the code of a body, with the blocks of its expressions
  abbrev pub method_code : Body Target → Code
  method_code body = body_code (method_block number) body

  -- Each call has the arguments that its function takes, and an abort is a whole statement; the
  -- texts have the numbers of strings; the operands of instructions are in their ranges.
  pub record HasBlocks (text : StrNo → Option Words) (body : Body Target) : Type 0 where
    pub fit : AllByRecursion (λ p. call_mismatches p.is_statement p.expression ≡ [])
        (body_expressions body)
    pub known : AllByRecursion (λ p. HasNumbers text number p.expression) (body_expressions body)
    pub spelled : AllByRecursion (UnlessAbort (λ e. AreSpelled (method_block number e)))
        (body_expressions body)
