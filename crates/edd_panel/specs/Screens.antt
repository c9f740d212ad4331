-- What a screen shows, and which of its entries may be opened, by what is read of attributes.
use Rattle.std.specs.Prelude.{◌≡◌, ◌≢◌, ℕ, zero, suc, ◌+◌, ◌==◌, ℤ, pos, negsuc, Bool, true, false, not, ◌&&◌, ◌||◌, ◌⊎◌, List, [], ◌∷◌, ◌++◌, length, map, Option, Some, None, if◌then◌else◌, bit_and, ⊤, filter_map, replicate, slice_set}
use Rattle.std.specs.Ordering.{int_eq}
use Rattle.edd_syntax.specs.declared.answer.Trap.{Trap}
use Rattle.edd_syntax.specs.declared.numbers.Attr.{Attr}
use Rattle.edd_syntax.specs.declared.numbers.Attr.TheVariants as attr
use Rattle.edd_syntax.specs.declared.numbers.AttrRef.{AttrRef}
use Rattle.edd_syntax.specs.declared.numbers.ItemNo.{ItemNo}
use Rattle.edd_syntax.specs.declared.numbers.ItemNo.TheVariants as items
use Rattle.edd_syntax.specs.declared.numbers.MenuNo.{MenuNo}
use Rattle.edd_syntax.specs.declared.numbers.StrNo.{StrNo}
use Rattle.edd_image.specs.declared.parts.Counts.{Counts}
use Rattle.edd_instructions.specs.declared.records.Record.{Record}
use Rattle.edd_instructions.specs.declared.records.Record.TheVariants as records
use Rattle.edd_instructions.specs.Reading.{Reading, NoItem, Records, Fault}
use Rattle.edd_panel.specs.declared.entries.Entry.{Entry}
use Rattle.edd_panel.specs.declared.entries.Listed.{Listed}
use Rattle.edd_panel.specs.declared.entries.Listed.TheVariants as listed
use Rattle.edd_panel.specs.declared.place.Place.{Place}
use Rattle.edd_panel.specs.declared.place.Place.TheVariants as place
use Rattle.edd_panel.specs.Edits.{first_number}

-- it is one of these
abbrev pub IsAmong : {X : Type 0} → List X → X → Type 0
IsAmong {X} xs x = (before after : List X) × (xs ≡ before ++ x ∷ after)

-- ---- what is written

-- an attribute of an item
abbrev pub of_item : ItemNo → Attr → AttrRef
of_item item a = record { item = item; attr = a; sub = 0 }

-- an entry of an item with these texts and qualifiers
abbrev pub entry : ItemNo → (label help : Option StrNo) → (qualifiers : ℕ) → Entry
entry item label help qualifiers = record {
  item = item;
  label = label;
  help = help;
  qualifiers = qualifiers;
  trap = None;
}

-- an entry without texts and qualifiers
abbrev pub plain : ItemNo → Entry
plain item = entry item None None 0

-- the line that a record of ITEMS or MEMBERS is
abbrev pub line_of : Record → Option Listed
line_of (records.Words text) = Some (listed.Text text)
line_of (records.Entry item quals) = Some (listed.Entry (entry item None None quals))
line_of (records.Member name item label help) = Some (listed.Entry (entry item label help 0))
line_of _ = None

-- so many items by their numbers, from this number on
abbrev pub numbered_from : (ℕ → ItemNo) → (first count : ℕ) → List Listed
numbered_from item first zero = []
numbered_from item first (suc n) =
    listed.Entry (plain (item first)) ∷ numbered_from item (first + 1) n

-- all variables, and then all methods
abbrev pub all_items : Counts → List Listed
all_items counts =
    numbered_from (λ n. items.Variable (record { 0 = n })) 0 counts.variables
    ++ numbered_from (λ n. items.Method (record { 0 = n })) 0 counts.methods

-- these menus
abbrev pub menu_lines : List MenuNo → List Listed
menu_lines = map (λ m. listed.Entry (plain (items.Menu m)))

-- ---- what is left out

-- the bit of HIDDEN among the qualifiers of an entry
abbrev pub is_hidden : (qualifiers : ℕ) → Bool
is_hidden qualifiers = not (bit_and qualifiers 4 == 0)

-- a command and an array are nothing for a technician
abbrev pub is_for_nobody : ItemNo → Bool
is_for_nobody (items.Command n) = true
is_for_nobody (items.Array n) = true
is_for_nobody _ = false

-- an entry that is never shown
abbrev pub is_left_out : Entry → Bool
is_left_out e = is_hidden e.qualifiers || is_for_nobody e.item

-- the number is not 0
abbrev pub is_not_zero : Option ℤ → Bool
is_not_zero (Some n) = not (int_eq n (pos 0))
is_not_zero None = true

-- by VALIDITY the item may be opened: it is not 0, and doesn't trap
abbrev pub is_valid : Reading → Bool
is_valid NoItem = true
is_valid (Records rs) = is_not_zero (first_number rs)
is_valid (Fault why) = false

-- by VALIDITY the place that is shown in place of the top where the menu is alone there
abbrev pub menu_by : Reading → MenuNo → Place
menu_by r m = if is_valid r then place.Menu m else place.Top

-- the lines of an entry by VALIDITY: itself, nothing, or itself with the trap
abbrev pub lines_by : Reading → Entry → List Listed
lines_by NoItem e = listed.Entry e ∷ []
lines_by (Records rs) e = if is_not_zero (first_number rs) then listed.Entry e ∷ [] else []
lines_by (Fault why) e = listed.Entry (record e { trap = Some why }) ∷ []

-- ---- the menus at the top

-- An entry of the menu `of` marks the menu that it names, if that is another one.
abbrev pub mark_entry : (of : ℕ) → Record → List Bool → List Bool
mark_entry of (records.Entry (items.Menu m) quals) marks =
    if m.0 == of then marks else slice_set marks m.0 true
mark_entry of _ marks = marks

-- the marks after all entries of the menu
abbrev pub mark_entries : (of : ℕ) → List Record → List Bool → List Bool
mark_entries of [] marks = marks
mark_entries of (r ∷ rest) marks = mark_entries of rest (mark_entry of r marks)

-- the marks after the entries of each menu from this number on
abbrev pub mark_menus : (first : ℕ) → List (List Record) → List Bool → List Bool
mark_menus first [] marks = marks
mark_menus first (rs ∷ rest) marks = mark_menus (first + 1) rest (mark_entries first rs marks)

-- a menu, where it has no mark, or where all are taken
abbrev pub unmarked : (all : Bool) → (number : ℕ) → (mark : Bool) → List MenuNo
unmarked all number mark = if all || not mark then (record { 0 = number }) ∷ [] else []

-- those of the menus from this number on
abbrev pub unmarked_from : (all : Bool) → (first : ℕ) → List Bool → List MenuNo
unmarked_from all first [] = []
unmarked_from all first (mark ∷ rest) =
    unmarked all first mark ++ unmarked_from all (first + 1) rest

-- each menu has a mark
abbrev pub all_marked : List Bool → Bool
all_marked [] = true
all_marked (mark ∷ rest) = mark && all_marked rest

-- the menus that no other menu names, or all where each is named by one
abbrev pub tops_of : List Bool → List MenuNo
tops_of marks = unmarked_from (all_marked marks) 0 marks

-- the records of a list; a trap, and what is not there, have none
abbrev pub records_of : Reading → List Record
records_of (Records rs) = rs
records_of _ = []

-- ---- by what is read

module _ (counts : Counts) (reads : AttrRef → Reading → Type 0) where
  -- these are read of ITEMS of each menu from this number on
  abbrev pub AreItems : (first : ℕ) → List (List Record) → Type 0
  AreItems first [] = ⊤
  AreItems first (rs ∷ rest) =
      ((r : Reading) × reads (of_item (items.Menu (record { 0 = first })) attr.Items) r
      × (rs ≡ records_of r)) × AreItems (first + 1) rest

  -- these menus are at the top
  abbrev pub AreTops : List MenuNo → Type 0
  AreTops tops = (all : List (List Record)) × (length all ≡ counts.menus) × AreItems 0 all
      × (tops ≡ tops_of (mark_menus 0 all (replicate counts.menus false)))

  -- what is shown of an entry
  abbrev pub ShowsEntry : Entry → List Listed → Type 0
  ShowsEntry e shown = elim (is_left_out e) [
    | true ↦ shown ≡ []
    | false ↦ (r : Reading) × reads (of_item e.item attr.Validity) r × (shown ≡ lines_by r e)
  ]

  -- what is shown of a line
  abbrev pub ShowsLine : Listed → List Listed → Type 0
  ShowsLine (listed.Text text) shown = shown ≡ listed.Text text ∷ []
  ShowsLine (listed.Entry e) shown = ShowsEntry e shown

  -- what is shown of lines, one after the other
  abbrev pub ShowsLines : List Listed → List Listed → Type 0
  ShowsLines [] shown = shown ≡ []
  ShowsLines (line ∷ rest) shown = (here more : List Listed) × ShowsLine line here
      × ShowsLines rest more × (shown ≡ here ++ more)

  -- what is shown of a list that is read; a trap stands in its place
  abbrev pub ShowsRead : Reading → List Listed → Option Trap → Type 0
  ShowsRead NoItem shown trap = (shown ≡ []) × (trap ≡ None)
  ShowsRead (Records rs) shown trap = ShowsLines (filter_map line_of rs) shown × (trap ≡ None)
  ShowsRead (Fault why) shown trap = (shown ≡ []) × (trap ≡ Some why)

  -- what is shown of a list of an item
  abbrev pub ShowsList : AttrRef → List Listed → Option Trap → Type 0
  ShowsList list shown trap = (r : Reading) × reads list r × ShowsRead r shown trap

  -- a menu is shown in place of the top, if it may be opened
  abbrev pub ShowsMenu : MenuNo → Place → Type 0
  ShowsMenu m shown = (r : Reading) × reads (of_item (items.Menu m) attr.Validity) r
      × (shown ≡ menu_by r m)

  -- so is one that is alone at the top
  abbrev pub ShowsAlone : List MenuNo → Place → Type 0
  ShowsAlone (m ∷ []) shown = ShowsMenu m shown
  ShowsAlone _ shown = shown ≡ place.Top

  -- the place whose lines are shown at a place
  abbrev pub IsShownAt : Place → Place → Type 0
  IsShownAt place.Top shown = (tops : List MenuNo) × AreTops tops × ShowsAlone tops shown
  IsShownAt (place.Menu m) shown = shown ≡ place.Menu m
  IsShownAt (place.Collection c) shown = shown ≡ place.Collection c

  -- these are all lines that may be at the top: its menus, or all items where there is no menu
  abbrev pub AreTopLines : List Listed → Type 0
  AreTopLines lines = ((counts.menus ≡ 0) × (lines ≡ all_items counts))
      ⊎ ((counts.menus ≢ 0) × ((tops : List MenuNo) × AreTops tops × (lines ≡ menu_lines tops)))

  -- the lines of a place, and the trap that is in their place
  abbrev pub ShowsPlace : Place → List Listed → Option Trap → Type 0
  ShowsPlace place.Top shown trap = ((lines : List Listed) × AreTopLines lines
      × ShowsLines lines shown) × (trap ≡ None)
  ShowsPlace (place.Menu m) shown trap = ShowsList (of_item (items.Menu m) attr.Items) shown trap
  ShowsPlace (place.Collection c) shown trap =
      ShowsList (of_item (items.Collection c) attr.Members) shown trap

  -- the lines of the screen at a place
  abbrev pub IsScreen : Place → List Listed → Option Trap → Type 0
  IsScreen at shown trap = (p : Place) × IsShownAt at p × ShowsPlace p shown trap

  -- ---- the same in short, of one entry

  -- the list has the entry
  abbrev pub IsListed : AttrRef → Entry → Type 0
  IsListed list e = (rs : List Record) × reads list (Records rs)
      × IsAmong (filter_map line_of rs) (listed.Entry e)

  -- the entry is written there
  abbrev pub IsWritten : Place → Entry → Type 0
  IsWritten place.Top e =
      (lines : List Listed) × AreTopLines lines × IsAmong lines (listed.Entry e)
  IsWritten (place.Menu m) e = IsListed (of_item (items.Menu m) attr.Items) e
  IsWritten (place.Collection c) e = IsListed (of_item (items.Collection c) attr.Members) e

  -- The place offers the entry: it is written there, it isn't HIDDEN, and by VALIDITY its item may
  -- be opened.
  abbrev pub Offers : Place → Entry → Type 0
  Offers at e = ((p : Place) × IsShownAt at p × IsWritten p e) × (is_left_out e ≡ false)
      × ((r : Reading) × reads (of_item e.item attr.Validity) r × (is_valid r ≡ true))

-- ---- numbers

-- the entry of a number, counted from 0
abbrev pub nth_entry : List Listed → ℕ → Option Entry
nth_entry [] n = None
nth_entry (listed.Text text ∷ rest) n = nth_entry rest n
nth_entry (listed.Entry e ∷ rest) zero = Some e
nth_entry (listed.Entry e ∷ rest) (suc n) = nth_entry rest n

-- the entry of a number, counted from 1
abbrev pub numbered : List Listed → ℤ → Option Entry
numbered lines (pos zero) = None
numbered lines (pos (suc n)) = nth_entry lines n
numbered lines (negsuc n) = None
