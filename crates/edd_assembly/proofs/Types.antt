-- The types of variables, one attribute and one item after another.
use Rattle.std.proofs.Common.{◌≡◌, refl, Bool, true, false, List, [], ◌∷◌, ◌++◌, arith}
use Rattle.std.proofs.lemmas.Grind.{common_steps}
use Rattle.edd_syntax.specs.declared.reference.Target.{Target}
use Rattle.edd_syntax.specs.declared.numbers.Kind.TheVariants as kind
use Rattle.edd_syntax.specs.Item.{kind_of_item, Item}
use Rattle.edd_syntax.specs.Numbers.{same_kind}
use Rattle.edd_assembly.specs.Assembly.{variable_kinds}

-- ---- variables

pub variables_split : (s : Unit {0}) (y : Item Target) (ys : List (Item Target))
    → variable_kinds (y ∷ ys) ≡ variable_kinds (y ∷ []) ++ variable_kinds ys
variables_split s y ys = by_kind (same_kind (kind_of_item y.sort) kind.Variable) refl
  where
    by_kind : (b : Bool) → same_kind (kind_of_item y.sort) kind.Variable ≡ b
        → variable_kinds (y ∷ ys) ≡ variable_kinds (y ∷ []) ++ variable_kinds ys
    by_kind true is = grind (arith, common_steps)
    by_kind false is = grind (arith, common_steps)
