-- The parts of expressions and conditionals with the meaning of their names.
use Rattle.std.specs.Prelude.{Option, Some}
use Rattle.edd_syntax.specs.Reference.{Path}
use Rattle.edd_syntax.specs.declared.reference.Target.{Target}
use Rattle.edd_syntax.specs.Expression.{Argument, Text, Value}
use Rattle.edd_syntax.specs.Conditional.{Arm, Case, Default}
use Rattle.edd_syntax.specs.ResolvedTrees.{◌>>=◌, Meanings, resolved_by, resolved_conds}

-- an argument, where `plain` says what a plain reference means
abbrev pub resolved_argument : (at : Meanings) → (plain : Path → Option Target) → Argument Path
    → Option (Argument Target)
resolved_argument at plain (Text text) = Some (Text text)
resolved_argument at plain (Value e) = do e' ← resolved_by at plain e; Some (Value e')

-- an arm, where `of` says what a value means
abbrev pub resolved_arm : {V W : Type 0} → (at : Meanings) → (of : V → Option W)
    → Arm Path V → Option (Arm Target W)
resolved_arm at of (Case label body) = do body' ← resolved_conds at of body; Some (Case label body')
resolved_arm at of (Default body) = do body' ← resolved_conds at of body; Some (Default body')
