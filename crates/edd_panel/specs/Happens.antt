-- What a command does to a panel.
use Rattle.std.specs.Prelude.{◌≡◌, ℕ, ℤ, Bool, false, not, ◌||◌, ◌==◌, ◌⊎◌, List, [], ◌∷◌, ◌++◌, Option, Some, None, bit_and, slice_set}
use Rattle.edd_syntax.specs.declared.answer.Trap.{Trap}
use Rattle.edd_syntax.specs.declared.numbers.AttrRef.{AttrRef}
use Rattle.edd_syntax.specs.declared.numbers.ItemNo.{ItemNo}
use Rattle.edd_syntax.specs.declared.numbers.ItemNo.TheVariants as items
use Rattle.edd_syntax.specs.declared.numbers.MethNo.{MethNo}
use Rattle.edd_image.specs.Fields.{counts_in}
use Rattle.edd_instructions.specs.Reading.{Reading}
use Rattle.edd_port.specs.declared.fault.StartFault.{StartFault}
use Rattle.edd_port.specs.Runs.{Run, OpensIn}
use Rattle.edd_panel.specs.declared.command.Command.{Command}
use Rattle.edd_panel.specs.declared.command.Command.TheVariants as command
use Rattle.edd_panel.specs.declared.command.Happened.{Happened}
use Rattle.edd_panel.specs.declared.command.Happened.TheVariants as happened
use Rattle.edd_panel.specs.declared.entries.Entry.{Entry}
use Rattle.edd_panel.specs.declared.entries.Listed.{Listed}
use Rattle.edd_panel.specs.declared.fault.EditFault.{EditFault}
use Rattle.edd_panel.specs.declared.place.Field.{Field}
use Rattle.edd_panel.specs.declared.place.Level.{Level}
use Rattle.edd_panel.specs.declared.place.Place.{Place}
use Rattle.edd_panel.specs.declared.place.Place.TheVariants as place
use Rattle.edd_panel.specs.Edits.{Decides, reads_of}
use Rattle.edd_panel.specs.Replies.{Replies}
use Rattle.edd_panel.specs.Screens.{IsScreen, numbered}
use Rattle.edd_panel.specs.Standing.{Standing}

-- nothing changes
abbrev pub Stays : Standing → Standing → Type 0
Stays before after = after ≡ before

-- ---- at a variable

-- exactly that variable has that value, and is left
abbrev pub Edited : Standing → Field → ℤ → Standing → Type 0
Edited before f n after = after ≡ record before {
  values = slice_set before.values f.variable.0 n;
  field = None;
}

-- the variable is left, and nothing else changes
abbrev pub Leaves : Standing → Happened → Standing → Type 0
Leaves before h after = (h ≡ happened.Moved) × (after ≡ record before { field = None })

-- an edit that may be made is made, and one that has a fault is refused and changes nothing
abbrev pub EditsBy : Standing → Field → ℤ → Option EditFault → Happened → Standing → Type 0
EditsBy before f n None h after = (h ≡ happened.Edited f.variable n) × Edited before f n after
EditsBy before f n (Some why) h after = (h ≡ happened.Refused why) × Stays before after

-- An edit of the variable to this number is made or refused, as its rules decide.
abbrev pub Edits : Standing → Field → ℤ → Happened → Standing → Type 0
Edits before f n h after = (why : Option EditFault)
    × Decides before.image before.values f.variable f.read_only n why
    × EditsBy before f n why h after

-- What a command does at a variable: a number is an edit, Enter and Back leave it, Abort is unknown.
abbrev pub AtVariable : Standing → Field → Command → Happened → Standing → Type 0
AtVariable before f (command.Number n) h after = Edits before f n h after
AtVariable before f command.Enter h after = Leaves before h after
AtVariable before f command.Back h after = Leaves before h after
AtVariable before f command.Abort h after = (h ≡ happened.Unknown) × Stays before after

-- ---- at a menu

-- the deepest of levels below this one
abbrev pub deepest : Level → List Level → Level
deepest l [] = l
deepest l (m ∷ rest) = deepest m rest

-- the level that is shown: the deepest one, or the top, which is not READ_ONLY
abbrev pub level_of : List Level → Level
level_of = deepest (record { place = place.Top; read_only = false })

-- what is read of the image under the values of the device
abbrev pub reads_in : Standing → AttrRef → Reading → Type 0
reads_in s = reads_of s.image s.values

-- the method runs from its start, under the values of the device
abbrev pub Starts : Standing → MethNo → Standing → Type 0
Starts before m after = (r : Run) × (after ≡ record before { run = Some r })
    × (r.image ≡ before.image) × OpensIn before.image m before.values r.state × (r.taken ≡ 0)

-- the method runs, or can't be started and nothing changes
abbrev pub StartsOr : Standing → MethNo → Happened → Standing → Type 0
StartsOr before m h after = ((h ≡ happened.Started m) × Starts before m after)
    ⊎ ((why : StartFault) × (h ≡ happened.NotStarted why) × Stays before after)

-- the user goes to a place, and nothing else changes
abbrev pub Enters : Standing → Place → (read_only : Bool) → Happened → Standing → Type 0
Enters before p read_only h after = (h ≡ happened.Moved) × (after ≡ record before {
  path = before.path ++ record { place = p; read_only = read_only } ∷ [];
})

-- the variable is open, and nothing else changes
abbrev pub OpensField : Standing → Field → Happened → Standing → Type 0
OpensField before f h after = (h ≡ happened.Moved) × (after ≡ record before { field = Some f })

-- what becomes of the item of an entry that is opened
abbrev pub OpensItem : Standing → ItemNo → (read_only : Bool) → Happened → Standing → Type 0
OpensItem before (items.Variable v) read_only h after =
    OpensField before (record { variable = v; read_only = read_only }) h after
OpensItem before (items.Menu m) read_only h after = Enters before (place.Menu m) read_only h after
OpensItem before (items.Collection c) read_only h after =
    Enters before (place.Collection c) read_only h after
OpensItem before (items.Method m) read_only h after = StartsOr before m h after
OpensItem before (items.Command c) read_only h after = (h ≡ happened.NoEntry) × Stays before after
OpensItem before (items.Array a) read_only h after = (h ≡ happened.NoEntry) × Stays before after

-- the bit of READ_ONLY among the qualifiers of an entry
abbrev pub is_read_only : (qualifiers : ℕ) → Bool
is_read_only qualifiers = not (bit_and qualifiers 2 == 0)

-- An entry is opened, unless its VALIDITY traps. What it opens is READ_ONLY where the level is or
-- the entry.
abbrev pub OpensEntry : Standing → Level → Entry → Happened → Standing → Type 0
OpensEntry before level e h after = elim e.trap [
  | Some why ↦ (h ≡ happened.Trapped why) × Stays before after
  | None ↦ OpensItem before e.item (level.read_only || is_read_only e.qualifiers) h after
]

-- the entry that has the number is opened, if one has it
abbrev pub OpensOne : Standing → Level → Option Entry → Happened → Standing → Type 0
OpensOne before level None h after = (h ≡ happened.NoEntry) × Stays before after
OpensOne before level (Some e) h after = OpensEntry before level e h after

-- A number opens the entry of that number on the screen of the level.
abbrev pub Chooses : Standing → ℤ → Happened → Standing → Type 0
Chooses before n h after = (lines : List Listed) × (trap : Option Trap)
    × IsScreen (counts_in before.image) (reads_in before) (level_of before.path).place lines trap
    × OpensOne before (level_of before.path) (numbered lines n) h after

-- the deepest level is left, if there is one, and nothing else changes
abbrev pub GoesBack : Standing → Happened → Standing → Type 0
GoesBack before h after =
    ((before.path ≡ []) × (h ≡ happened.Unknown) × Stays before after)
    ⊎ (((l : Level) × (before.path ≡ after.path ++ l ∷ [])) × (h ≡ happened.Moved)
    × (after ≡ record before { path = after.path }))

-- What a command does at a menu: a number opens an entry, Back leaves the menu, Enter shows it again,
-- Abort is unknown.
abbrev pub AtMenu : Standing → Command → Happened → Standing → Type 0
AtMenu before (command.Number n) h after = Chooses before n h after
AtMenu before command.Back h after = GoesBack before h after
AtMenu before command.Enter h after = (h ≡ happened.Shown) × Stays before after
AtMenu before command.Abort h after = (h ≡ happened.Unknown) × Stays before after

-- ---- anywhere

-- the command goes to the method that runs, and only the run changes
abbrev pub InMethod : Standing → Run → Command → Happened → Standing → Type 0
InMethod before r c h after = (next : Run) × Replies r c h next
    × (after ≡ record before { run = Some next })

-- What a command does: a method that runs takes it, else the variable that is edited, else the menu.
abbrev pub Happens : Standing → Command → Happened → Standing → Type 0
Happens before c h after = elim before.run [
  | Some r ↦ InMethod before r c h after
  | None ↦ elim before.field [
    | Some f ↦ AtVariable before f c h after
    | None ↦ AtMenu before c h after
  ]
]
