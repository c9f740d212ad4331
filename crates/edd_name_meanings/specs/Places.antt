-- Where the faults of uses are.
use Rattle.std.specs.Prelude.{◌+◌, ◌-◌, ◌^◌, min, not, if◌then◌else◌, List, [], ◌∷◌, Option, Some, None}
use Rattle.edd_syntax.specs.declared.numbers.Kind.{Kind}
use Rattle.edd_syntax.specs.declared.numbers.Kind.TheVariants as kind
use Rattle.edd_syntax.specs.declared.numbers.ItemNo.{ItemNo}
use Rattle.edd_syntax.specs.declared.numbers.TokenNo.{TokenNo}
use Rattle.edd_syntax.specs.declared.reference.Path as code
use Rattle.edd_syntax.specs.Text.{Name}
use Rattle.edd_syntax.specs.Reference.{Path}
use Rattle.edd_syntax.specs.Item.{Description}
use Rattle.edd_syntax.specs.NameUses.{Use, OfItem, OfArray, OfFunction}
use Rattle.edd_syntax.specs.Numbers.{kind_of, same_kind}
use Rattle.edd_syntax.specs.Resolution.{item_named, item_of_member, look_up, member_at}

-- the token of the name after a dot, which is itself a token; no number is above 32 bits
abbrev pub token_behind : TokenNo → TokenNo
token_behind at = record { 0 = min (at.0 + 2) (2 ^ 32 - 1) }

-- Where the name at fault is along a path, from a name at a token on that names something of kind k,
-- which is the item i where that is known: this name, or the member that is not there.
abbrev pub place_along : Description Path → TokenNo → Kind → Option ItemNo → (members : List Name)
    → TokenNo
place_along unit at k i [] = at
place_along unit at k None (m ∷ rest) = at
place_along unit at k (Some i) (m ∷ rest) =
    if not (same_kind k kind.Collection) then at
    else elim (member_at unit i m) [
      | Some found ↦ place_along unit (token_behind at) found.1 (item_of_member unit found) rest
      | None ↦ token_behind at
    ]

-- the same of a path whose first name is not a local's
abbrev pub place_of_item : Description Path → Path → TokenNo → TokenNo
place_of_item unit path at =
    elim (item_named unit path.base) [
      | Some i ↦ place_along unit at (kind_of i) (Some i) path.members
      | None ↦ at
    ]

-- the token of the name at fault, if one is, in a use that is at this path
abbrev pub place_of_use : Description Path → Use → code.Path → TokenNo
place_of_use unit (OfItem scope kinds path) from =
    elim (look_up path.base scope) [ Some slot ↦ from.at | None ↦ place_of_item unit path from.at ]
place_of_use unit (OfArray scope path) from =
    elim (look_up path.base scope) [ Some slot ↦ from.at | None ↦ place_of_item unit path from.at ]
place_of_use unit (OfFunction path) from = from.at
