-- Statements of methods.
use Rattle.std.specs.Prelude.{ℕ, ◌+◌, ℤ, List, [], ◌∷◌, length, Option}
use Rattle.edd_syntax.specs.Expression.{Expr}

-- a declared local, with its value if one is written
pub record Declarator (R : Type 0) : Type 0 where
  pub place : R
  pub value : Option (Expr R)

-- a statement, whose references are of the type R
mutual
  pub data Stmt (R : Type 0) : Type 0 where
    Empty : Stmt R
    Evaluate : Expr R → Stmt R
    Block : (body : Body R) → Stmt R
    If : (condition : Expr R) → (first : Stmt R) → Stmt R
    IfElse : (condition : Expr R) → (first otherwise : Stmt R) → Stmt R
    While : (condition : Expr R) → (body : Stmt R) → Stmt R
    Do : (body : Stmt R) → (condition : Expr R) → Stmt R
    For : (initial condition update : Option (Expr R)) → (body : Stmt R) → Stmt R
    Switch : (on : Expr R) → (body : Body R) → Stmt R
    Break : Stmt R
    Continue : Stmt R
    Return : Stmt R

  -- what is between braces; labels are between those of a `switch` alone
  pub data Part (R : Type 0) : Type 0 where
    Declare : List (Declarator R) → Part R
    Statement : Stmt R → Part R
    CaseLabel : (label : ℤ) → Part R
    DefaultLabel : Part R

  -- a list of parts
  pub data Body (R : Type 0) : Type 0 where
    Nil : Body R
    Cons : (first : Part R) → (rest : Body R) → Body R

-- a body from a list of its parts
abbrev pub body_from : {R : Type 0} → List (Part R) → Body R
body_from [] = Nil
body_from (p ∷ rest) = Cons p (body_from rest)

-- the declarators of a statement, each of which has a slot of its own
unfoldable mutual
  pub slots_of : {R : Type 0} → Stmt R → ℕ
  slots_of (Block body) = slots_in body
  slots_of (If condition first) = slots_of first
  slots_of (IfElse condition first otherwise) = slots_of first + slots_of otherwise
  slots_of (While condition body) = slots_of body
  slots_of (Do body condition) = slots_of body
  slots_of (For initial condition update body) = slots_of body
  slots_of (Switch on body) = slots_in body
  slots_of _ = 0

  -- the declarators of a body
  pub slots_in : {R : Type 0} → Body R → ℕ
  slots_in Nil = 0
  slots_in (Cons (Declare declarators) rest) = length declarators + slots_in rest
  slots_in (Cons (Statement s) rest) = slots_of s + slots_in rest
  slots_in (Cons (CaseLabel label) rest) = slots_in rest
  slots_in (Cons DefaultLabel rest) = slots_in rest
