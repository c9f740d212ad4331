-- What each variant of a conditional stands for.
use Rattle.std.proofs.Common.{◌≡◌, refl, ap, ◌∙◌, ℤ, ◌∷◌}
use Rattle.std.specs.Prelude.{Vec, map}
use Rattle.std.specs.declared.alloc.Global.{Global}
use Rattle.edd_syntax.specs.declared.numbers.TokenNo.{TokenNo}
use Rattle.edd_syntax.specs.declared.expr.Expr.{Expr}
use Rattle.edd_syntax.specs.declared.cond.Cond.{Cond, Row_of-Cond, end_of-Cond, more_of-Cond, Row_of-Arm, end_of-Arm, more_of-Arm}
use Rattle.edd_syntax.specs.declared.cond.Cond.TheVariants as c
use Rattle.edd_syntax.specs.declared.cond.Arm.{Arm}
use Rattle.edd_syntax.specs.declared.cond.Arm.TheVariants as a
use Rattle.edd_syntax.specs.declared.cond.Arm.TheBlock as block
use Rattle.edd_syntax.specs.Conditional as pure
use Rattle.edd_syntax.specs.TreeView.{expr_of}
use Rattle.edd_syntax.specs.ItemView.{cond_of, conds_in, arm_of, arms_in}

module _ {R S V W : Type 0} (f : R → S) (g : V → W) where
  conds_items : (n : _) (row : Row_of-Cond R V n)
      → conds_in f g row ≡ map (cond_of f g) (block.items-the_row-Cond R V n row)
  unfolding cond_of
  conds_items n end_of-Cond = refl
  conds_items n (more_of-Cond first rest) = ap (λ xs. cond_of f g first ∷ xs) (conds_items _ rest)

  arms_items : (n : _) (row : Row_of-Arm R V n)
      → arms_in f g row ≡ map (arm_of f g) (block.items-the_row-Arm R V n row)
  unfolding cond_of
  arms_items n end_of-Arm = refl
  arms_items n (more_of-Arm first rest) = ap (λ xs. arm_of f g first ∷ xs) (arms_items _ rest)

  conds_of_vec : (v : Vec (Cond R V) Global) → conds_in f g (block.hidden-the_row-Cond-0 R V v)
      ≡ map (cond_of f g) v.items
  conds_of_vec v = conds_items _ (block.hidden-the_row-Cond-0 R V v)
      ∙ ap (map (cond_of f g)) (block.items_hidden-the_row-Cond-0 R V v)

  arms_of_vec : (v : Vec (Arm R V) Global) → arms_in f g (block.hidden-the_row-Arm-1 R V v)
      ≡ map (arm_of f g) v.items
  arms_of_vec v = arms_items _ (block.hidden-the_row-Arm-1 R V v)
      ∙ ap (map (arm_of f g)) (block.items_hidden-the_row-Arm-1 R V v)

  -- ---- the equations of the view

  pub of_value : (v : V) → cond_of f g (c.Value v) ≡ pure.Value (g v)
  unfolding cond_of
  of_value v = refl

  pub of_if : (test : Expr R) (v w : Vec (Cond R V) Global) → cond_of f g (c.If test v w)
      ≡ pure.If (expr_of f test) (pure.conds_from (map (cond_of f g) v.items))
      (pure.conds_from (map (cond_of f g) w.items))
  unfolding cond_of
  of_if test v w = ap (λ xs. pure.If (expr_of f test) (pure.conds_from xs)
      (pure.conds_from (conds_in f g (block.hidden-the_row-Cond-0 R V w)))) (conds_of_vec v)
      ∙ ap (λ xs. pure.If (expr_of f test) (pure.conds_from (map (cond_of f g) v.items))
      (pure.conds_from xs)) (conds_of_vec w)

  pub of_select : (on : Expr R) (v : Vec (Arm R V) Global) → cond_of f g (c.Select on v)
      ≡ pure.Select (expr_of f on) (pure.arms_from (map (arm_of f g) v.items))
  unfolding cond_of
  of_select on v = ap (λ xs. pure.Select (expr_of f on) (pure.arms_from xs)) (arms_of_vec v)

  pub of_case : (label : ℤ) (v : Vec (Cond R V) Global) → arm_of f g (a.Case label v)
      ≡ pure.Case label (pure.conds_from (map (cond_of f g) v.items))
  unfolding cond_of
  of_case label v = ap (λ xs. pure.Case label (pure.conds_from xs)) (conds_of_vec v)

  pub of_default : (at : TokenNo) (v : Vec (Cond R V) Global) → arm_of f g (a.Default at v)
      ≡ pure.Default (pure.conds_from (map (cond_of f g) v.items))
  unfolding cond_of
  of_default at v = ap (λ xs. pure.Default (pure.conds_from xs)) (conds_of_vec v)

pub ruleset equations = (of_value, of_if, of_select, of_case, of_default)
