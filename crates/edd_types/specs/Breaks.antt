-- What is told of `break` outside a loop and `switch`, and of `continue` outside a loop.
use Rattle.std.specs.Prelude.{Bool, true, not, ◌||◌, List, [], ◌++◌}
use Rattle.edd_breaches.specs.Told.{Told, told_if}
use Rattle.edd_syntax.specs.Refusal.{BreakOutside}
use Rattle.edd_syntax.specs.declared.reference.Target.{Target}
use Rattle.edd_syntax.specs.declared.stmt.Stmt.{Stmt, Row_of-Part, end_of-Part, more_of-Part}
use Rattle.edd_syntax.specs.declared.stmt.Stmt.TheVariants.{Empty, Evaluate, Block', If', IfElse', While', Do', For', Switch', Break, Continue, Return}
use Rattle.edd_syntax.specs.declared.stmt.Part.{Part}
use Rattle.edd_syntax.specs.declared.stmt.Part.TheVariants.{Declare, Statement, CaseLabel, DefaultLabel}

-- in a statement, which may be in a loop or in a `switch`
abbrev mutual
  pub breaks_told : (in_loop in_switch : Bool) → Stmt Target → List Told
  breaks_told in_loop in_switch Empty = []
  breaks_told in_loop in_switch (Evaluate e) = []
  breaks_told in_loop in_switch (Block' shape parts) = breaks_told_in in_loop in_switch parts
  breaks_told in_loop in_switch (If' test p first) = breaks_told in_loop in_switch first
  breaks_told in_loop in_switch (IfElse' test p first q otherwise) =
      breaks_told in_loop in_switch first ++ breaks_told in_loop in_switch otherwise
  breaks_told in_loop in_switch (While' test p body) = breaks_told true in_switch body
  breaks_told in_loop in_switch (Do' p body test) = breaks_told true in_switch body
  breaks_told in_loop in_switch (For' initial test update p body) = breaks_told true in_switch body
  breaks_told in_loop in_switch (Switch' on shape parts) = breaks_told_in in_loop true parts
  breaks_told in_loop in_switch (Break at) = told_if (not (in_loop || in_switch)) BreakOutside at
  breaks_told in_loop in_switch (Continue at) = told_if (not in_loop) BreakOutside at
  breaks_told in_loop in_switch Return = []

  -- in the parts that a vector holds
  pub breaks_told_in : {n : _} → (in_loop in_switch : Bool) → Row_of-Part Target n → List Told
  breaks_told_in in_loop in_switch end_of-Part = []
  breaks_told_in in_loop in_switch (more_of-Part first rest) =
      breaks_told_of in_loop in_switch first ++ breaks_told_in in_loop in_switch rest

  -- in a part
  pub breaks_told_of : (in_loop in_switch : Bool) → Part Target → List Told
  breaks_told_of in_loop in_switch (Declare declarators) = []
  breaks_told_of in_loop in_switch (Statement s) = breaks_told in_loop in_switch s
  breaks_told_of in_loop in_switch (CaseLabel at label) = []
  breaks_told_of in_loop in_switch (DefaultLabel at) = []
