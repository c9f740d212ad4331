-- Sittings: what is done with a panel, one act after the other, and where its values come from.
use Rattle.std.specs.Prelude.{◌≡◌, ℕ, ℤ, false, ◌⊎◌, List, [], ◌∷◌, ◌++◌, Option, Some, None, ⊤, slice_set}
use Rattle.edd_syntax.specs.Answers.{Answer}
use Rattle.edd_syntax.specs.declared.numbers.AttrRef.{AttrRef}
use Rattle.edd_syntax.specs.declared.numbers.ItemNo.{ItemNo}
use Rattle.edd_syntax.specs.declared.numbers.ItemNo.TheVariants as items
use Rattle.edd_syntax.specs.DeviceValues.{AreDeviceValues, VariableType}
use Rattle.edd_image.specs.declared.parts.Counts.{Counts}
use Rattle.edd_instructions.specs.Reading.{Reading}
use Rattle.edd_port.specs.declared.turn.Turn.{Turn}
use Rattle.edd_port.specs.Runs.{Run}
use Rattle.edd_panel.specs.declared.command.Command.{Command}
use Rattle.edd_panel.specs.declared.command.Command.TheVariants as command
use Rattle.edd_panel.specs.declared.command.Happened.{Happened}
use Rattle.edd_panel.specs.declared.entries.Entry.{Entry}
use Rattle.edd_panel.specs.declared.place.Field.{Field}
use Rattle.edd_panel.specs.declared.place.Level.{Level}
use Rattle.edd_panel.specs.declared.place.Place.{Place}
use Rattle.edd_panel.specs.declared.place.Place.TheVariants as place
use Rattle.edd_panel.specs.Advances.{Advances, after_steps, answered_by}
use Rattle.edd_panel.specs.Edits.{MayEditBy}
use Rattle.edd_panel.specs.Happens.{Happens, is_read_only, level_of}
use Rattle.edd_panel.specs.Screens.{IsAmong, Offers}
use Rattle.edd_panel.specs.Standing.{Standing}

-- ---- sittings

-- what is done with a panel, and what came of it
pub data Act : Type 0 where
  -- a command of the user
  Taken : Command → Happened → Act
  -- an answer to the method that runs
  Answered : Answer → Act
  -- at most so many instructions of that method
  Advanced : (budget : ℕ) → Option Turn → Act

-- an act, and the panel after it
pub record Step : Type 0 where
  pub act : Act
  pub after : Standing

-- the act makes the one panel of the other
abbrev pub Does : Standing → Act → Standing → Type 0
Does before (Taken c h) after = Happens before c h after
Does before (Answered a) after = after ≡ answered_by before a
Does before (Advanced budget shown) after = Advances budget before shown after

-- A sitting: each act makes the next panel of the one before, with values of a device with variables
-- of these types.
abbrev pub IsSitting : (types : List VariableType) → Standing → List Step → Type 0
IsSitting types before [] = ⊤
IsSitting types before (s ∷ rest) = Does before s.act s.after × AreDeviceValues types s.after.values
    × IsSitting types s.after rest

-- ---- ways

-- the place that an item has
abbrev pub place_of : ItemNo → Option Place
place_of (items.Menu m) = Some (place.Menu m)
place_of (items.Collection c) = Some (place.Collection c)
place_of _ = None

module _ (counts : Counts) (types : List VariableType)
    (reads : (values : List ℤ) → AttrRef → Reading → Type 0) where
  -- the level that is shown offers the item, through an entry that is not READ_ONLY
  abbrev pub OffersItem : Standing → ItemNo → Type 0
  OffersItem s item = (e : Entry) × Offers counts (reads s.values) (level_of s.path).place e
      × (e.item ≡ item) × (is_read_only e.qualifiers ≡ false)

  -- Each level of the path was entered from those above it, at a moment at which they offered it.
  abbrev pub IsWay : (past : List Standing) → (path : List Level) → Type 0
  IsWay past path = (above : List Level) (l : Level) (below : List Level)
      → path ≡ above ++ l ∷ below
      → (s : Standing) × IsAmong past s × (s.path ≡ above)
      × ((item : ItemNo) × OffersItem s item × (place_of item ≡ Some l.place))

  -- ---- where values come from

  -- Exactly the variable that is open has the number that was typed. It may be set so, it is offered,
  -- and so was each level on the way to it.
  abbrev pub IsEdit : (past : List Standing) → Standing → Act → Standing → Type 0
  IsEdit past before act after = (f : Field) × (n : ℤ) × (h : Happened)
      × (before.field ≡ Some f) × (act ≡ Taken (command.Number n) h)
      × (after.values ≡ slice_set before.values f.variable.0 n)
      × MayEditBy types (reads before.values) before.values f.variable false n
      × OffersItem before (items.Variable f.variable) × IsWay past before.path

  -- the method that ran has left these values
  abbrev pub IsLeft : Standing → Act → Standing → Type 0
  IsLeft before act after = (r : Run) × (budget : ℕ) × (shown : Option Turn)
      × (act ≡ Advanced budget shown) × (before.run ≡ Some r)
      × (after.values ≡ (after_steps r budget).state.values)

  -- the values are as before, or from an edit, or from the method that ran
  abbrev pub IsExplained : (past : List Standing) → Standing → Act → Standing → Type 0
  IsExplained past before act after = (after.values ≡ before.values)
      ⊎ (IsEdit past before act after ⊎ IsLeft before act after)

  -- each act of a sitting is explained by what came before
  abbrev pub AreExplained : (past : List Standing) → Standing → List Step → Type 0
  AreExplained past before [] = ⊤
  AreExplained past before (s ∷ rest) = IsExplained (before ∷ past) before s.act s.after
      × AreExplained (before ∷ past) s.after rest
