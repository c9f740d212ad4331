-- Which refusal a fault stands for.
use Rattle.std.specs.Prelude.{◌≡◌, List, Option, Some, None, IfSome, codes, string_bytes}
use Rattle.edd_breaches.specs.declared.fault.RuleFault.{RuleFault}
use Rattle.edd_breaches.specs.declared.fault.RuleFault.TheVariants as fault
use Rattle.edd_syntax.specs.declared.limits.Limit.{Limit}
use Rattle.edd_syntax.specs.declared.limits.Limit.TheVariants as limit
use Rattle.edd_syntax.specs.declared.numbers.TokenNo.{TokenNo}
use Rattle.edd_syntax.specs.Refusal as refusal
use Rattle.edd_syntax.specs.Refusal.{Refusal, first_of}
use Rattle.edd_syntax.specs.Text.{Name}

-- the word for what a limit bounds
abbrev pub limit_word : Limit → Name
limit_word limit.Items = codes "items"
limit_word limit.Transactions = codes "transactions"
limit_word limit.Locals = codes "locals"
limit_word limit.Nodes = codes "nodes"
limit_word limit.Strings = codes "strings"

-- the rule that is broken, with its names; memory that was refused breaks none
abbrev pub refusal_of_fault : RuleFault → Option Refusal
refusal_of_fault (fault.TooMany limit) = Some (refusal.TooMany limit)
refusal_of_fault (fault.DuplicateName name) = Some (refusal.DuplicateName (string_bytes name))
refusal_of_fault (fault.DuplicateAttribute word) = Some (refusal.DuplicateAttribute word.now)
refusal_of_fault (fault.MissingAttribute item word) =
    Some (refusal.MissingAttribute (string_bytes item) word.now)
refusal_of_fault (fault.UnknownName name) = Some (refusal.UnknownName (string_bytes name))
refusal_of_fault (fault.WrongKind name) = Some (refusal.WrongKind (string_bytes name))
refusal_of_fault (fault.FloatVariable variable) =
    Some (refusal.FloatVariable (string_bytes variable))
refusal_of_fault (fault.OtherType variable word) =
    Some (refusal.OtherType (string_bytes variable) (string_bytes word))
refusal_of_fault (fault.BadSize variable) = Some (refusal.BadSize (string_bytes variable))
refusal_of_fault (fault.Mismatch at) = Some refusal.Mismatch
refusal_of_fault (fault.FloatValue at) = Some refusal.FloatValue
refusal_of_fault (fault.BreakOutside at) = Some refusal.BreakOutside
refusal_of_fault (fault.ConstRange at) = Some refusal.ConstRange
refusal_of_fault (fault.DuplicateCase at) = Some refusal.DuplicateCase
refusal_of_fault (fault.DuplicateElement at) = Some refusal.DuplicateElement
refusal_of_fault fault.Memory = None

-- the fault is the first of the breaches, unless memory was refused
abbrev pub IsFirstOf : List Refusal → RuleFault → Type 0
IsFirstOf breaches f = IfSome (refusal_of_fault f) (λ why. first_of breaches ≡ Some why)

-- ---- the token at fault, which a fault has whose refusal says no name

-- of a fault
abbrev pub place_of_fault : RuleFault → Option TokenNo
place_of_fault (fault.Mismatch at) = at
place_of_fault (fault.FloatValue at) = at
place_of_fault (fault.BreakOutside at) = at
place_of_fault (fault.ConstRange at) = at
place_of_fault (fault.DuplicateCase at) = at
place_of_fault (fault.DuplicateElement at) = at
place_of_fault _ = None

-- the place that is kept of a refusal
abbrev pub place_kept : Refusal → (place : Option TokenNo) → Option TokenNo
place_kept refusal.Mismatch place = place
place_kept refusal.FloatValue place = place
place_kept refusal.BreakOutside place = place
place_kept refusal.ConstRange place = place
place_kept refusal.DuplicateCase place = place
place_kept refusal.DuplicateElement place = place
place_kept _ place = None
