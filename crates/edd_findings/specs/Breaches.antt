-- Which broken rules are told of a unit.
use Rattle.std.specs.Prelude.{◌≡◌, Bool, true, false, List, [], ◌∷◌, ◌++◌, Some}
use Rattle.edd_syntax.specs.declared.item.Item as code
use Rattle.edd_syntax.specs.declared.reference.Target.{Target}
use Rattle.edd_syntax.specs.declared.unit.Unit.{Unit}
use Rattle.edd_syntax.specs.Accepted.{name_breaches}
use Rattle.edd_syntax.specs.Item.{Description}
use Rattle.edd_syntax.specs.ItemView.{identification_of, numbered_items}
use Rattle.edd_syntax.specs.NameRules.{too_many}
use Rattle.edd_syntax.specs.Resolved.{description}
use Rattle.edd_syntax.specs.ResolvedTrees.{resolved_unit}
use Rattle.edd_syntax.specs.SubsetRules.{subset_breaches}
use Rattle.edd_breaches.specs.Told.{Told, refusals}
use Rattle.edd_names.specs.Told.{AreAtTokens, IsRead, names_told, told_of_names}
use Rattle.edd_names.specs.Units.{unit_view}
use Rattle.edd_types.specs.declared.sought.Calls.{Calls}
use Rattle.edd_types.specs.declared.sought.Calls.TheVariants as calls
use Rattle.edd_types.specs.Rules.{all_told}

-- which calls are looked for after these breaches of rules on names
abbrev pub calls_after : (names : List Told) → Calls
calls_after [] = calls.All
calls_after (t ∷ rest) = calls.Named

-- these are the unit's items: the same trees at the same tokens, with what each name is read as in
-- its place, which is its meaning or what stands for it
abbrev pub AreItems : Unit → List (code.Item Target) → Type 0
AreItems u items = IsRead (unit_view u) (numbered_items items)
    × AreAtTokens u items

-- the breaches of the profile in the items of a unit; it is not asked what names mean where there
-- is too much of something
abbrev pub profile_told : Unit → (was_asked : Bool) → List (code.Item Target) → List Told
profile_told u true items = all_told (calls_after (names_told u true)) items
profile_told u false items = []

-- what is told of a unit
pub record Lists (u : Unit) (told : List Told) : Type 0 where
  pub was_asked : Bool
  pub items : List (code.Item Target)
  -- first the breaches of the rules on names, then those of the profile
  pub all : told ≡ names_told u was_asked ++ profile_told u was_asked items
  pub are_items : was_asked ≡ true → AreItems u items
  -- of rules on names all that are broken, but for those on uses where there is too much
  pub names : refusals (names_told u was_asked) ≡ told_of_names (unit_view u) was_asked
  pub counted : was_asked ≡ false → too_many (unit_view u) ≡ [] → ⊥
  -- where none of them is broken, the items are what the unit means, and all breaches of the rules
  -- of the profile are told, and no others
  pub profile : (d : Description Target) → name_breaches (unit_view u) ≡ []
      → resolved_unit (unit_view u) ≡ Some d
      → (d ≡ description (identification_of u.identification) (numbered_items items))
      × (refusals told ≡ subset_breaches d)
