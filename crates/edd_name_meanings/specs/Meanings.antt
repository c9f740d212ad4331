-- What is found about uses of names, and what they mean.
use Rattle.std.specs.Prelude.{◌≡◌, true, List, [], ◌∷◌, map, Option, Some, None, is_some, if◌then◌else◌}
use Rattle.std.specs.List.{flat_map}
use Rattle.edd_breaches.specs.declared.breach.Breach.{Breach}
use Rattle.edd_breaches.specs.Told.{refusal_of}
use Rattle.edd_name_meanings.specs.declared.references.Local.{Local}
use Rattle.edd_name_meanings.specs.Places.{place_of_use}
use Rattle.edd_syntax.specs.declared.numbers.Kind.{Kind}
use Rattle.edd_syntax.specs.declared.numbers.ItemNo.{ItemNo}
use Rattle.edd_syntax.specs.declared.numbers.TokenNo.{TokenNo}
use Rattle.edd_syntax.specs.declared.reference.Path as code
use Rattle.edd_syntax.specs.Text.{Name}
use Rattle.edd_syntax.specs.Reference.{Path}
use Rattle.edd_syntax.specs.declared.reference.Target.{Target}
use Rattle.edd_syntax.specs.declared.reference.Target.TheVariants.{Item}
use Rattle.edd_syntax.specs.Item.{Description}
use Rattle.edd_syntax.specs.NameRules.{faults_of_use}
use Rattle.edd_syntax.specs.NameUses.{Use}
use Rattle.edd_syntax.specs.Refusal.{Refusal, first_of}
use Rattle.edd_syntax.specs.Resolution.{Scope, FoundMember, member_at, item_of_member, is_among}

-- each member of a collection names an item of the kind after OF
unfoldable pub AllMembersNamed : Description Path → Type 0
AllMembersNamed unit = (i : ItemNo) (m : Name) (found : FoundMember)
    → member_at unit i m ≡ Some found → is_some (item_of_member unit found) ≡ true

-- an item of one of these kinds
abbrev pub item_among : List Kind → Option ItemNo → Option Target
item_among kinds (Some i) = if is_among kinds i then Some (Item i) else None
item_among kinds None = None

-- the faults of uses
unfoldable pub faults_in : Description Path → List Use → List Refusal
faults_in unit uses = flat_map (faults_of_use unit) uses

-- uses without a fault
unfoldable pub NoFault : Description Path → List Use → Type 0
NoFault unit uses = None ≡ first_of (faults_in unit uses)

-- the breach is the first of these, at this token
abbrev pub IsFirst : Breach → List Refusal → TokenNo → Type 0
IsFirst b all at = (first_of all ≡ Some (refusal_of b.rule)) × (b.place ≡ Some at)

-- the breach is the fault of a use, which is at this path
unfoldable pub IsFaultOf : Breach → Description Path → Use → code.Path → Type 0
IsFaultOf b unit u path = IsFirst b (faults_in unit (u ∷ [])) (place_of_use unit u path)

-- the locals that can be used, the innermost first
abbrev pub scope_of : List Local → Scope
scope_of locals = map (λ l. (l.name.now, l.slot)) locals
