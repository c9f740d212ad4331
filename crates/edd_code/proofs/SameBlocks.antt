-- An expression of an attribute has one block in attributes and in methods.
use Rattle.std.proofs.Common.{◌≡◌, refl, ap, Bool, true}
use Rattle.std.proofs.lemmas.Bool.{and_parts}
use Rattle.edd_syntax.specs.declared.numbers.StrNo.{StrNo}
use Rattle.edd_syntax.specs.declared.reference.Target.{Target}
use Rattle.edd_syntax.specs.declared.reference.Target.TheVariants.{Local}
use Rattle.edd_syntax.specs.Expression.{Expr, Literal, Decimal, Reference, Indexed, Parentheses, Unary, Binary, Compare, LogicalAnd, LogicalOr, Conditional}
use Rattle.edd_syntax.specs.WellFormed.{is_pure_expr}
use Rattle.edd_syntax.specs.Words.{Words}
use Rattle.edd_instructions.specs.declared.instruction.Instruction.TheVariants as instruction
use Rattle.edd_code.specs.Blocks.{Block, Straight, Then, WhenNotZero, WhenZero, Either}
use Rattle.edd_code.specs.Expressions as attribute
use Rattle.edd_code.specs.Expressions.{expression_block, element_block, unary_block, truth_block, then_test, instead}
use Rattle.edd_code.specs.MethodExpressions.{load_block, method_block}
use Rattle.edd_code.specs.MethodReads.{is_no_local}

two_same : {a b c d : Block} (f : Block → Block → Block) → a ≡ b → c ≡ d → f a c ≡ f b d
two_same f p q = rw (p, q) refl

read_same : (t : Target) → is_no_local t ≡ true → load_block t ≡ attribute.read_block t
read_same (Local slot) is = absurd cc
read_same _ is = refl

module _ (number : Words → StrNo) (plain : Target → Bool) where
  pub same_block : (e : Expr Target) → is_pure_expr is_no_local plain e ≡ true
      → method_block number e ≡ expression_block e
  unfolding method_block expression_block
  same_block (Literal value) is = refl
  same_block Decimal is = refl
  same_block (Reference from) is = read_same from is
  same_block (Indexed array index) is = ap (λ (b : Block). Then b (element_block array))
      (same_block index (and_parts _ _ is).1)
  same_block (Parentheses inner) is = same_block inner is
  same_block (Unary op operand) is = ap (λ (b : Block). Then b (unary_block op))
      (same_block operand is)
  same_block (Binary op left right) is =
      let are = and_parts _ _ is in
      two_same (λ a b. Then a (Then b (Straight (instruction.Operate op)))) (same_block left are.0)
      (same_block right are.1)
  same_block (Compare by left right) is =
      let are = and_parts _ _ is in
      two_same (λ a b. Then a (Then b (Straight (instruction.Compare by)))) (same_block left are.0)
      (same_block right are.1)
  same_block (LogicalAnd left right) is =
      let are = and_parts _ _ is in
      two_same (λ a b. Then a (then_test (WhenNotZero (instead b)))) (same_block left are.0)
      (same_block right are.1)
  same_block (LogicalOr left right) is =
      let are = and_parts _ _ is in
      two_same (λ a b. Then a (Then truth_block (then_test (WhenZero (instead b)))))
      (same_block left are.0) (same_block right are.1)
  same_block (Conditional test first second) is =
      let are = and_parts _ _ is in
      let front = and_parts _ _ are.0 in
      two_same Then (same_block test front.0)
      (two_same Either (same_block first front.1) (same_block second are.1))
  same_block _ is = absurd cc
