-- What is told of each variant of a conditional.
use Rattle.std.proofs.Common.{◌≡◌, refl, ap, ◌∙◌, ℤ, Bool, false, List, ◌++◌}
use Rattle.std.specs.Prelude.{Vec}
use Rattle.std.specs.List.{flat_map}
use Rattle.std.specs.declared.alloc.Global.{Global}
use Rattle.edd_breaches.proofs.TellLaws.{tells_none, tells_append}
use Rattle.edd_breaches.specs.Told.{Told}
use Rattle.edd_syntax.proofs.CondRows.{of_value, of_if, of_select, of_case, of_default}
use Rattle.edd_syntax.specs.declared.numbers.TokenNo.{TokenNo}
use Rattle.edd_syntax.specs.declared.reference.Target.{Target}
use Rattle.edd_syntax.specs.declared.expr.Expr.{Expr}
use Rattle.edd_syntax.specs.declared.cond.Cond.{Cond, Row_of-Cond, end_of-Cond, more_of-Cond, Row_of-Arm, end_of-Arm, more_of-Arm}
use Rattle.edd_syntax.specs.declared.cond.Cond.TheVariants as c
use Rattle.edd_syntax.specs.declared.cond.Arm.{Arm}
use Rattle.edd_syntax.specs.declared.cond.Arm.TheVariants as a
use Rattle.edd_syntax.specs.declared.cond.Arm.TheBlock as block
use Rattle.edd_types.specs.declared.sought.Sought.{Sought}
use Rattle.edd_breaches.specs.Along.{told_along}
use Rattle.edd_types.specs.Expressions.{condition_told}
use Rattle.edd_types.specs.Conditionals.{default_told, has_default, cond_told, conds_told_in, arms_told_in, arm_told}

module _ {V : Type 0} (s : Sought) (of : V → List Told) where
  conds_items : (n : _) (row : Row_of-Cond Target V n) → conds_told_in s of row
      ≡ flat_map (cond_told s of) (block.items-the_row-Cond Target V n row)
  unfolding cond_told
  conds_items n end_of-Cond = refl
  conds_items n (more_of-Cond first rest) =
      ap (λ xs. cond_told s of first ++ xs) (conds_items _ rest)

  arms_items : (n : _) (row : Row_of-Arm Target V n) (had : Bool) → arms_told_in s of had row
      ≡ told_along (arm_told s of) has_default had (block.items-the_row-Arm Target V n row)
  unfolding cond_told
  arms_items n end_of-Arm had = refl
  arms_items n (more_of-Arm first rest) had =
      ap (λ xs. arm_told s of had first ++ xs) (arms_items _ rest (has_default had first))

  conds_of_vec : (v : Vec (Cond Target V) Global)
      → conds_told_in s of (block.hidden-the_row-Cond-0 Target V v)
      ≡ flat_map (cond_told s of) v.items
  conds_of_vec v = conds_items _ (block.hidden-the_row-Cond-0 Target V v)
      ∙ ap (flat_map (cond_told s of)) (block.items_hidden-the_row-Cond-0 Target V v)

  arms_of_vec : (v : Vec (Arm Target V) Global)
      → arms_told_in s of false (block.hidden-the_row-Arm-1 Target V v)
      ≡ told_along (arm_told s of) has_default false v.items
  arms_of_vec v = arms_items _ (block.hidden-the_row-Arm-1 Target V v) false
      ∙ ap (told_along (arm_told s of) has_default false)
      (block.items_hidden-the_row-Arm-1 Target V v)

  pub told_value : (v : V) → cond_told s of (c.Value v) ≡ of v
  unfolding cond_told
  told_value v = refl

  pub told_if : (test : Expr Target) (v w : Vec (Cond Target V) Global)
      → cond_told s of (c.If test v w) ≡ condition_told s test
      ++ (flat_map (cond_told s of) v.items ++ flat_map (cond_told s of) w.items)
  unfolding cond_told
  told_if test v w = ap (λ xs. condition_told s test
      ++ (xs ++ conds_told_in s of (block.hidden-the_row-Cond-0 Target V w))) (conds_of_vec v)
      ∙ ap (λ xs. condition_told s test ++ (flat_map (cond_told s of) v.items ++ xs))
      (conds_of_vec w)

  pub told_select : (on : Expr Target) (v : Vec (Arm Target V) Global)
      → cond_told s of (c.Select on v) ≡ condition_told s on
      ++ told_along (arm_told s of) has_default false v.items
  unfolding cond_told
  told_select on v = ap (λ xs. condition_told s on ++ xs) (arms_of_vec v)

  pub told_case : (had : Bool) (label : ℤ) (v : Vec (Cond Target V) Global)
      → arm_told s of had (a.Case label v) ≡ flat_map (cond_told s of) v.items
  unfolding cond_told
  told_case had label v = conds_of_vec v

  pub told_default : (had : Bool) (at : TokenNo) (v : Vec (Cond Target V) Global)
      → arm_told s of had (a.Default at v) ≡ default_told s had at
      ++ flat_map (cond_told s of) v.items
  unfolding cond_told
  told_default had at v = ap (λ xs. default_told s had at ++ xs) (conds_of_vec v)

-- what closes the arms of a walk over conditionals, and proves that the parts are smaller
pub ruleset walks = (
  tells_none,
  tells_append,
  told_value,
  told_if,
  told_select,
  told_case,
  told_default,
  of_value,
  of_if,
  of_select,
  of_case,
  of_default,
)
