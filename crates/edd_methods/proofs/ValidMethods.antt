-- The unit of the code of a checked description's method is valid, so it is the method's code.
use Rattle.std.proofs.Common.{◌≡◌, refl, ◌<◌, ◌≤◌, ◌^◌, true, List, [], length, arith}
use Rattle.std.specs.List.{AllByRecursion}
use Rattle.edd_syntax.specs.declared.numbers.MethNo.{MethNo}
use Rattle.edd_syntax.specs.declared.numbers.StrNo.{StrNo}
use Rattle.edd_syntax.specs.declared.reference.Target.{Target}
use Rattle.edd_syntax.specs.Execution.{body_of}
use Rattle.edd_syntax.specs.Expression.{Expr}
use Rattle.edd_syntax.specs.Item.{Description}
use Rattle.edd_syntax.specs.Statement.{slots_in}
use Rattle.edd_syntax.specs.SubsetRules.{body_expressions}
use Rattle.edd_syntax.specs.Words.{Words}
use Rattle.edd_instructions.specs.Agreement.{counts_of, string_of_table, version_for}
use Rattle.edd_instructions.specs.MethodAgreement.{IsMethodCode, method_context}
use Rattle.edd_instructions.specs.Units.{IsValidUnit}
use Rattle.edd_code.specs.Flow.{all_straight, may_stand}
use Rattle.edd_code.specs.MethodExpressions.{method_block}
use Rattle.edd_code.specs.Numbered.{HasNumbers}
use Rattle.edd_methods.specs.MethodCode.{method_code}
use Rattle.edd_methods.specs.StatementCode.{IsSpelled, blocks_by}
use Rattle.edd_methods.specs.Statements.{size, unit_code}
use Rattle.edd_methods.specs.TreeExpressions.{EachIn, UnlessAbort}
use Rattle.edd_methods.proofs.BodyFacts.{BodyFacts}
use Rattle.edd_methods.proofs.CheckedMethods.{expressions_stand, has_blocks, has_method_code}
use Rattle.edd_methods.specs.CodeFlow.{Rests, Gives, Fits}
use Rattle.edd_methods.proofs.CodeFlow.{fits_weaker}
use Rattle.edd_methods.proofs.CodeSpelled.{values_spelled}
use Rattle.edd_methods.proofs.CodeUnits.{Passes, unit_is_valid}
use Rattle.edd_methods.proofs.MethodFits.{RestsThere, GivesThere, IsThere, effect_there, declares_there, all_there}
use Rattle.edd_methods.proofs.ResolvedSlots.{each_slot}
use Rattle.edd_methods.proofs.TreeFits.{body_fits}
use Rattle.edd_methods.proofs.TreeParts.{each_in_listed}

module _ (d : Description Target) (m : MethNo) (is : BodyFacts d m) (strings : List Words)
    (few : length strings ≤ 65536) (number : Words → StrNo)
    (known : AllByRecursion (λ p. HasNumbers (string_of_table strings) number p.expression)
    (body_expressions (body_of d m))) (small : size (method_code number (body_of d m)) < 2 ^ 31)
  where
    listed : (P : Expr Target → Type 0)
        → AllByRecursion (UnlessAbort P) (body_expressions (body_of d m)) → EachIn P (body_of d m)
    listed P all =
        let body = body_of d m in
        each_in_listed P body (each_slot (slots_in body) (2 ^ 8) (omega (arith, is.few_slots)) body
        is.slots) all

    pub code_is_valid : IsValidUnit (method_context d strings (slots_in (body_of d m)))
        (unit_code (method_code number (body_of d m)))
    code_is_valid =
        let body = body_of d m in
        let counts = counts_of d.identification d.items (length strings) in
        let version = version_for d in
        let slots = slots_in body in
        let context = method_context d strings slots in
        let code = method_code number body in
        let R = RestsThere version counts slots number in
        let V = GivesThere version counts slots number in
        let there = all_there version counts slots number (body_expressions body) is.fit is.low
        (expressions_stand d m is strings few number known) in
        let fit : Fits R V code =
        body_fits (blocks_by (method_block number)) (slots_in body)
        (IsThere version counts slots number) R V
        (λ e h. h) (effect_there version counts slots number)
        (declares_there version counts slots number [] tt tt)
        (declares_there version counts slots number) body is.slots
        (listed (IsThere version counts slots number) there) in
        let fits = fits_weaker R V Rests Gives (λ b h. h.0) (λ b h. h.0) code fit in
        let stands : Passes (may_stand context) code =
        fits_weaker R V (λ b. all_straight (may_stand context) b ≡ true)
        (λ b. all_straight (may_stand context) b ≡ true) (λ b h. h.1) (λ b h. h.1) code fit in
        let spelled = values_spelled (method_block number) body
        (listed (IsSpelled (method_block number))
        (has_blocks d m is strings few number known).spelled) in
        unit_is_valid code small context refl spelled fits stands

    pub is_the_methods_code : IsMethodCode d strings m (slots_in (body_of d m))
        (unit_code (method_code number (body_of d m)))
    is_the_methods_code = has_method_code d m is strings few number known small code_is_valid
