-- What the maps of names have.
use Rattle.std.specs.Prelude.{ℕ, List, Option, Some, None, if◌then◌else◌}
use Rattle.std.specs.HashMap.{HashMap, get_by}
use Rattle.std.specs.Str.{bytes_eq}
use denote.Ref.{Bor}
use Rattle.edd_name_meanings.specs.declared.numbering.Counts.{Counts}
use Rattle.edd_syntax.specs.declared.numbers.Kind.{Kind}
use Rattle.edd_syntax.specs.declared.numbers.Kind.TheVariants as kind
use Rattle.edd_syntax.specs.Text.{Name}

-- what a map has at a name
abbrev pub at : {X S : Type 0} → Name → HashMap (Bor (List ℕ)) X S → Option X
at q m = get_by (λ k. bytes_eq q k.now) m

-- the value, where the names are the same
abbrev pub if_named : {X : Type 0} → (name q : Name) → X → Option X
if_named name q x = if bytes_eq name q then Some x else None

-- how many items of a kind there were
abbrev pub count_in : Counts → Kind → ℕ
count_in c kind.Variable = c.variables
count_in c kind.Command = c.commands
count_in c kind.Menu = c.menus
count_in c kind.Collection = c.collections
count_in c kind.Method = c.methods
count_in c kind.Array = c.arrays
