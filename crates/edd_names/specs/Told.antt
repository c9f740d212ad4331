-- What is told of the names of a unit.
use Rattle.std.specs.Prelude.{◌≡◌, Bool, true, false, List, [], ◌++◌, Some}
use Rattle.edd_syntax.specs.declared.item.Item as code
use Rattle.edd_syntax.specs.declared.reference.Target.{Target}
use Rattle.edd_syntax.specs.declared.unit.Unit.{Unit}
use Rattle.edd_syntax.specs.Accepted.{name_breaches}
use Rattle.edd_syntax.specs.Item.{Description, Item}
use Rattle.edd_syntax.specs.NameRules.{too_many, duplicate_names, duplicate_attributes, missing_attributes}
use Rattle.edd_syntax.specs.NameUses.{unit_uses}
use Rattle.edd_syntax.specs.Reference.{Path}
use Rattle.edd_syntax.specs.Refusal.{Refusal}
use Rattle.edd_syntax.specs.Resolved.{description}
use Rattle.edd_syntax.specs.ResolvedTrees.{each, resolved_item, resolved_unit}
use Rattle.edd_breaches.specs.Told.{Told}
use Rattle.edd_name_rules.specs.RulesTold.{rules_told}
use Rattle.edd_name_meanings.specs.Copies.{told_in}
use Rattle.edd_name_meanings.specs.PathsIn.{paths_in_items}
use Rattle.edd_name_meanings.specs.StandIns.{read_in}
use Rattle.edd_name_meanings.specs.TokensIn.{tokens_in_items}
use Rattle.edd_names.specs.Units.{unit_view}

-- the breaches of the rules that come before those on uses of names
abbrev pub rules_before : Description Path → List Refusal
rules_before unit = too_many unit
    ++ (duplicate_names unit ++ (duplicate_attributes unit ++ missing_attributes unit))

-- all breaches of the rules on names, where it was asked what names mean, else those before
abbrev pub told_of_names : Description Path → (was_asked : Bool) → List Refusal
told_of_names unit true = name_breaches unit
told_of_names unit false = rules_before unit

-- the same, each at its token: those of the other rules, and of each use at its path
abbrev pub names_told : Unit → (was_asked : Bool) → List Told
names_told u true = rules_told u.items.items
    ++ told_in (unit_view u) (unit_uses (unit_view u)) (paths_in_items u.items.items)
names_told u false = rules_told u.items.items

-- the items are those of the unit, with what each name is read as in its place
abbrev pub IsRead : Description Path → List (Item Target) → Type 0
IsRead unit items = each (resolved_item (read_in unit)) unit.items ≡ Some items

-- the items are at the tokens of the unit's
abbrev pub AreAtTokens : Unit → List (code.Item Target) → Type 0
AreAtTokens u items = tokens_in_items items ≡ tokens_in_items u.items.items

-- the items are what the unit means, where no rule on names is broken
abbrev pub IsMeant : Description Path → List (Item Target) → Type 0
IsMeant unit items = name_breaches unit ≡ []
    → resolved_unit unit ≡ Some (description unit.identification items)
