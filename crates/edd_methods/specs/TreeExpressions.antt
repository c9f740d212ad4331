-- What holds of the expressions of a tree of statements.
use Rattle.std.specs.Prelude.{◌≡◌, ℕ, ◌<◌, ◌^◌, Bool, false, ◌&&◌, List, [], ◌∷◌, Option, Some, None}
use Rattle.edd_syntax.specs.declared.reference.Target.{Target}
use Rattle.edd_syntax.specs.declared.reference.Target.TheVariants.{Local, Item, Function}
use Rattle.edd_syntax.specs.Expression as expr
use Rattle.edd_syntax.specs.Expression.{Expr, Call}
use Rattle.edd_syntax.specs.Statement.{Declarator, Stmt, Empty, Evaluate, Block, If, IfElse, While, Do, For, Switch, Break, Continue, Return, Body, Nil, Cons, Declare, Statement, CaseLabel, DefaultLabel}
use Rattle.edd_syntax.specs.SubsetRules.{Placed, is_abort}

-- `abort()` or `process_abort()`
abbrev pub is_abort_call : Expr Target → Bool
is_abort_call (Call (Function f) expr.Nil) = is_abort f
is_abort_call _ = false

-- a slot below a limit
abbrev pub IsSlotBelow : (limit : ℕ) → Target → Type 0
IsSlotBelow limit (Local slot) = slot < limit
IsSlotBelow limit (Item i) = ⊥
IsSlotBelow limit (Function f) = ⊥

-- a slot, whose number is a byte
abbrev pub IsSlot : Target → Type 0
IsSlot t = IsSlotBelow (2 ^ 8) t

-- P holds of each expression that is evaluated for its value, and of each whole statement but an
-- abort
module _ (P : Expr Target → Type 0) where
  -- it holds of an expression that may be missing
  abbrev pub EachWritten : Option (Expr Target) → Type 0
  EachWritten None = Unit {0}
  EachWritten (Some e) = P e

  -- it holds of each value of a declaration, and each declarator is a slot
  abbrev pub EachDeclared : List (Declarator Target) → Type 0
  EachDeclared [] = Unit {0}
  EachDeclared (d ∷ rest) = IsSlot d.place × EachWritten d.value × EachDeclared rest

  -- it holds in a statement, and in a body
  abbrev mutual
    pub Each : Stmt Target → Type 0
    Each Empty = Unit {0}
    Each (Evaluate e) = is_abort_call e ≡ false → P e
    Each (Block body) = EachIn body
    Each (If condition first) = P condition × Each first
    Each (IfElse condition first otherwise) = P condition × Each first × Each otherwise
    Each (While condition body) = P condition × Each body
    Each (Do body condition) = P condition × Each body
    Each (For initial condition update body) = EachWritten initial × EachWritten condition
        × EachWritten update × Each body
    Each (Switch on body) = P on × EachIn body
    Each Break = Unit {0}
    Each Continue = Unit {0}
    Each Return = Unit {0}

    -- it holds in a body
    pub EachIn : Body Target → Type 0
    EachIn Nil = Unit {0}
    EachIn (Cons (Declare declarators) rest) = EachDeclared declarators × EachIn rest
    EachIn (Cons (Statement first) rest) = Each first × EachIn rest
    EachIn (Cons (CaseLabel label) rest) = EachIn rest
    EachIn (Cons DefaultLabel rest) = EachIn rest

-- ---- by the list of expressions that the rules of the subset speak of

-- P holds of it, where it isn't an abort that is a whole statement
abbrev pub UnlessAbort : (Expr Target → Type 0) → Placed Target → Type 0
UnlessAbort P p = (p.is_statement && is_abort_call p.expression) ≡ false → P p.expression

-- ---- each declarator has a slot below a limit

module _ (limit : ℕ) where
  -- in a declaration
  abbrev pub EachSlotOf : List (Declarator Target) → Type 0
  EachSlotOf [] = Unit {0}
  EachSlotOf (d ∷ rest) = IsSlotBelow limit d.place × EachSlotOf rest

  -- in a statement, and in a body
  abbrev mutual
    pub HasSlots : Stmt Target → Type 0
    HasSlots Empty = Unit {0}
    HasSlots (Evaluate e) = Unit {0}
    HasSlots (Block body) = EachSlot body
    HasSlots (If condition first) = HasSlots first
    HasSlots (IfElse condition first otherwise) = HasSlots first × HasSlots otherwise
    HasSlots (While condition body) = HasSlots body
    HasSlots (Do body condition) = HasSlots body
    HasSlots (For initial condition update body) = HasSlots body
    HasSlots (Switch on body) = EachSlot body
    HasSlots Break = Unit {0}
    HasSlots Continue = Unit {0}
    HasSlots Return = Unit {0}

    -- in a body
    pub EachSlot : Body Target → Type 0
    EachSlot Nil = Unit {0}
    EachSlot (Cons (Declare declarators) rest) = EachSlotOf declarators × EachSlot rest
    EachSlot (Cons (Statement first) rest) = HasSlots first × EachSlot rest
    EachSlot (Cons (CaseLabel label) rest) = EachSlot rest
    EachSlot (Cons DefaultLabel rest) = EachSlot rest
