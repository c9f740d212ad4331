-- Names that were seen.
use Rattle.std.specs.Prelude.{◌≡◌, ◌||◌, Bool, List, map, is_some}
use Rattle.std.specs.HashMap.{get_by}
use Rattle.std.specs.Str.{bytes_eq}
use Rattle.edd_duplicates.specs.declared.seen.Seen.{Seen}
use Rattle.edd_syntax.specs.Text.{Name}
use Rattle.edd_syntax.specs.Refusal.{is_name_in}

-- the list has a name
abbrev pub in_few : Seen → Name → Bool
in_few seen q = is_name_in (map (λ m. m.name.now) seen.few.items) q

-- the map has it
abbrev pub in_many : Seen → Name → Bool
in_many seen q = is_some (get_by (λ k. bytes_eq q k.now) seen.many)

-- the list and the map have these names
abbrev pub HasSeen : List Name → Seen → Type 0
HasSeen names seen = (q : Name) → (in_few seen q || in_many seen q) ≡ is_name_in names q
