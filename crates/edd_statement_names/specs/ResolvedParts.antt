-- The parts of statements with the meaning of their names.
use Rattle.std.specs.Prelude.{ℕ, ◌+◌, List, [], length, Option, Some}
use Rattle.edd_syntax.specs.Resolution.{Scope, all_declared}
use Rattle.edd_syntax.specs.Statement.{Declarator, Part, Declare, Statement, CaseLabel, DefaultLabel, slots_of}
use Rattle.edd_syntax.specs.declared.reference.Target.TheVariants.{Local}
use Rattle.edd_syntax.specs.NameUses.{Use, declarator_uses, stmt_uses}
use Rattle.edd_syntax.specs.Reference.{Path}
use Rattle.edd_syntax.specs.declared.reference.Path as code_path
use Rattle.edd_syntax.specs.declared.reference.Target.{Target}
use Rattle.edd_syntax.specs.declared.stmt.Part as code_part
use Rattle.edd_syntax.specs.declared.stmt.Part.TheVariants as part
use Rattle.edd_name_meanings.specs.PathsIn.{paths_in_declarators, paths_in_stmt}
use Rattle.edd_syntax.specs.ResolvedTrees.{◌>>=◌, Reading, at_scope, resolved_optional, resolved_declarators, resolved_stmt}

-- a declarator whose slot is `next`
abbrev pub resolved_declarator : Reading → Scope → (next : ℕ) → Declarator Path
    → Option (Declarator Target)
resolved_declarator names scope next d = do
  value ← resolved_optional (at_scope names scope) d.value
  Some (record { place = Local next; value = value })

-- ---- a part of a block, where `next` is the slot of the next declarator

-- the uses of names in it
abbrev pub part_uses : Scope → (next : ℕ) → Part Path → List Use
part_uses scope next (Declare declarators) = declarator_uses scope next declarators
part_uses scope next (Statement s) = stmt_uses s scope next
part_uses scope next (CaseLabel label) = []
part_uses scope next DefaultLabel = []

-- the paths at which these are
abbrev pub paths_in_part : code_part.Part code_path.Path → List code_path.Path
paths_in_part (part.Declare declarators) = paths_in_declarators declarators.items
paths_in_part (part.Statement s) = paths_in_stmt s
paths_in_part (part.CaseLabel at label) = []
paths_in_part (part.DefaultLabel at) = []

-- the part with the meaning of its names, if each has one
abbrev pub resolved_part : Reading → Scope → (next : ℕ) → Part Path → Option (Part Target)
resolved_part names scope next (Declare declarators) = do
  declarators' ← resolved_declarators names scope next declarators
  Some (Declare declarators')
resolved_part names scope next (Statement s) = do
  s' ← resolved_stmt names s scope next
  Some (Statement s')
resolved_part names scope next (CaseLabel label) = Some (CaseLabel label)
resolved_part names scope next DefaultLabel = Some DefaultLabel

-- the locals that can be used after it
abbrev pub scope_behind : Scope → (next : ℕ) → Part Path → Scope
scope_behind scope next (Declare declarators) = all_declared scope next declarators
scope_behind scope next (Statement s) = scope
scope_behind scope next (CaseLabel label) = scope
scope_behind scope next DefaultLabel = scope

-- the next slot after it
abbrev pub next_behind : (next : ℕ) → Part Path → ℕ
next_behind next (Declare declarators) = next + length declarators
next_behind next (Statement s) = next + slots_of s
next_behind next (CaseLabel label) = next
next_behind next DefaultLabel = next
