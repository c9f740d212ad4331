-- The unit of a method's code does what the method does.
use Rattle.std.proofs.Common.{◌≡◌, refl, ◌<◌, ◌≤◌, ◌^◌, List, [], ◌∷◌, Option}
use Rattle.std.specs.List.{AllByRecursion}
use Rattle.edd_syntax.specs.declared.numbers.MethNo.{MethNo}
use Rattle.edd_syntax.specs.declared.numbers.StrNo.{StrNo}
use Rattle.edd_syntax.specs.declared.reference.Target.{Target}
use Rattle.edd_syntax.specs.Device as device
use Rattle.edd_syntax.specs.Expression.{Expr}
use Rattle.edd_syntax.specs.Item.{Description}
use Rattle.edd_syntax.specs.Statement.{Body, slots_in}
use Rattle.edd_syntax.specs.SubsetRules.{Placed, body_expressions, call_mismatches}
use Rattle.edd_syntax.specs.Words.{Words}
use Rattle.edd_syntax.specs.Execution as source
use Rattle.edd_syntax.specs.Execution.{body_of, execute_all}
use Rattle.edd_instructions.specs.declared.unit.Sort.TheVariants.{Method}
use Rattle.edd_instructions.specs.Agreement.{string_of_table, machine_of}
use Rattle.edd_instructions.specs.Steps.{Environment}
use Rattle.edd_instructions.specs.Execution.{execute}
use Rattle.edd_instructions.specs.MethodAgreement.{FollowsBody, started, IsMethodCode, method_context}
use Rattle.edd_instructions.specs.Units.{IsValidUnit}
use Rattle.edd_code.specs.Blocks.{Block}
use Rattle.edd_code.specs.MethodExpressions.{method_block}
use Rattle.edd_code.specs.Numbered.{HasNumbers}
use Rattle.edd_code.proofs.MethodValues.{means}
use Rattle.edd_methods.specs.Statements.{size, unit_code}
use Rattle.edd_methods.specs.Following.{Follows}
use Rattle.edd_methods.specs.TreeExpressions.{EachIn, EachSlot, UnlessAbort}
use Rattle.edd_methods.specs.StatementCode.{body_code, IsSpelled, Means}
use Rattle.edd_methods.specs.MethodCode.{method_code, HasBlocks}
use Rattle.edd_methods.proofs.CodeSpelled.{values_spelled}
use Rattle.edd_methods.proofs.ResolvedSlots.{each_slot}
use Rattle.edd_methods.proofs.SameRuns.{followed_so}
use Rattle.edd_methods.proofs.StatementTrees.{body_same, body_is_whole}
use Rattle.edd_methods.proofs.TreeParts.{each_in_listed}
use Rattle.edd_methods.proofs.UnitRuns.{unit_follows}

-- ---- the blocks of expressions are given

module _ (text : StrNo → Option Words) (machine : Environment) (env : device.Environment)
    (block_of : Expr Target → Block) (body : Body Target)
    (means : EachIn (Means block_of text machine env) body)
    (ok : EachIn (IsSpelled block_of) body) (small : size (body_code block_of body) < 2 ^ 31) where
  pub body_follows : Follows text machine (unit_code (body_code block_of body))
      (execute_all env body)
  body_follows =
      unit_follows text machine (body_code block_of body) (values_spelled block_of body ok) small
      (body_is_whole text machine env block_of body means) (execute_all env body)
      (λ n. body_same text machine env block_of n body means)

-- the code of a method's body does what the body does
pub body_agrees : (text : StrNo → Option Words) (unit : Description Target) (m : MethNo)
    (block_of : Expr Target → Block)
    → EachIn (Means block_of text (machine_of (device.environment unit)) (device.environment unit))
    (body_of unit m) → EachIn (IsSpelled block_of) (body_of unit m)
    → size (body_code block_of (body_of unit m)) < 2 ^ 31
    → FollowsBody text (device.environment unit).variables
    (λ n s. source.run_body n (device.environment unit) (body_of unit m) s)
    (λ k s. execute (machine_of (device.environment unit)) k
    (started (record { sort = Method; code = unit_code (body_code block_of (body_of unit m)) }) s)
    s.answers)
unfolding source.run_body
body_agrees text unit m block_of means ok small =
    let env = device.environment unit in
    let code = unit_code (body_code block_of (body_of unit m)) in
    followed_so text env.variables (machine_of env) code (execute_all env (body_of unit m)) refl
    (body_follows text (machine_of env) env block_of (body_of unit m) means ok small)

-- ---- with the blocks of the expressions of methods

-- where calls fit and texts have numbers, each block means its expression
all_meant : (text : StrNo → Option Words) (number : Words → StrNo) (env : device.Environment)
    (ps : List (Placed Target))
    → AllByRecursion (λ p. call_mismatches p.is_statement p.expression ≡ []) ps
    → AllByRecursion (λ p. HasNumbers text number p.expression) ps
    → AllByRecursion (UnlessAbort (Means (method_block number) text (machine_of env) env)) ps
all_meant text number env [] fit known = tt
all_meant text number env (p ∷ ps) fit known = (
  λ is s. means text number env p.is_statement p.expression fit.0 known.0 [] s,
  all_meant text number env ps fit.1 known.1,
)

module _ (unit : Description Target) (m : MethNo) (text : StrNo → Option Words) (number : Words
    → StrNo) (slots : EachSlot (slots_in (body_of unit m)) (body_of unit m))
    (few : slots_in (body_of unit m) ≤ 2 ^ 8) (has : HasBlocks number text (body_of unit m))
    (small : size (method_code number (body_of unit m)) < 2 ^ 31) where
  pub method_agrees : FollowsBody text (device.environment unit).variables
      (λ n s. source.run_body n (device.environment unit) (body_of unit m) s)
      (λ k s. execute (machine_of (device.environment unit)) k
      (started (record {
        sort = Method;
        code = unit_code (method_code number (body_of unit m));
      }) s) s.answers)
  method_agrees =
      let body = body_of unit m in
      let env = device.environment unit in
      body_agrees text unit m (method_block number)
      (listed (Means (method_block number) text (machine_of env) env)
      (all_meant text number env (body_expressions body) has.fit has.known))
      (listed (IsSpelled (method_block number)) has.spelled)
      small
    where
      listed : (P : Expr Target → Type 0)
          → AllByRecursion (UnlessAbort P) (body_expressions (body_of unit m))
          → EachIn P (body_of unit m)
      listed P all = each_in_listed P (body_of unit m)
          (each_slot (slots_in (body_of unit m)) (2 ^ 8) few (body_of unit m) slots) all

-- where the unit is valid, it is the method's code
pub is_method_code : (unit : Description Target) (strings : List Words) (m : MethNo) (number : Words
    → StrNo) → EachSlot (slots_in (body_of unit m)) (body_of unit m)
    → slots_in (body_of unit m) ≤ 2 ^ 8
    → HasBlocks number (string_of_table strings) (body_of unit m)
    → size (method_code number (body_of unit m)) < 2 ^ 31
    → IsValidUnit (method_context unit strings (slots_in (body_of unit m)))
    (unit_code (method_code number (body_of unit m)))
    → IsMethodCode unit strings m (slots_in (body_of unit m))
    (unit_code (method_code number (body_of unit m)))
is_method_code unit strings m number slots few has small valid =
    record {
      locals = refl;
      valid = valid;
      follows = method_agrees unit m (string_of_table strings)
          number slots few has small;
    }
