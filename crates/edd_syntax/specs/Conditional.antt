-- Conditionals: values of the type V that depend on expressions. A single value is one `Cond`, each
-- of whose branches is again one; a list is any number of them.
use Rattle.std.specs.Prelude.{ℤ, List, [], ◌∷◌}
use Rattle.edd_syntax.specs.Expression.{Expr}

-- a value, or a choice by an expression
mutual
  pub data Cond (R V : Type 0) : Type 0 where
    Value : V → Cond R V
    -- without ELSE, `otherwise` is empty
    If : (condition : Expr R) → (first otherwise : Conds R V) → Cond R V
    Select : (on : Expr R) → (arms : Arms R V) → Cond R V

  -- a list of conditionals
  pub data Conds (R V : Type 0) : Type 0 where
    Nil : Conds R V
    Cons : (first : Cond R V) → (rest : Conds R V) → Conds R V

  -- an arm of a SELECT
  pub data Arm (R V : Type 0) : Type 0 where
    Case : (label : ℤ) → (body : Conds R V) → Arm R V
    Default : (body : Conds R V) → Arm R V

  -- a list of arms
  pub data Arms (R V : Type 0) : Type 0 where
    NoArms : Arms R V
    ConsArm : (first : Arm R V) → (rest : Arms R V) → Arms R V

-- conditionals from a list of them
abbrev pub conds_from : {R V : Type 0} → List (Cond R V) → Conds R V
conds_from [] = Nil
conds_from (c ∷ rest) = Cons c (conds_from rest)

-- arms from a list of them
abbrev pub arms_from : {R V : Type 0} → List (Arm R V) → Arms R V
arms_from [] = NoArms
arms_from (a ∷ rest) = ConsArm a (arms_from rest)
