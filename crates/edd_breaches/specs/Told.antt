-- What is told of rules that are broken.
use Rattle.std.specs.Prelude.{◌≡◌, Bool, true, false, List, [], ◌∷◌, ◌++◌, map, Option, Some}
use Rattle.edd_breaches.specs.declared.breach.Breach.{Breach}
use Rattle.edd_breaches.specs.declared.breach.Rule.{Rule}
use Rattle.edd_breaches.specs.declared.breach.Rule.TheVariants as rule
use Rattle.edd_syntax.specs.declared.numbers.TokenNo.{TokenNo}
use Rattle.edd_syntax.specs.Refusal as refusal
use Rattle.edd_syntax.specs.Refusal.{Refusal}

-- a refusal, and the token at fault; what there is too much of has none
pub record Told : Type 0 where
  pub refusal : Refusal
  pub place : Option TokenNo

-- a refusal at a token
abbrev pub told_at : Refusal → TokenNo → Told
told_at why at = record { refusal = why; place = Some at }

-- the same, where it holds
abbrev pub told_if : Bool → Refusal → TokenNo → List Told
told_if true why at = told_at why at ∷ []
told_if false why at = []

-- the refusal that says the rule
abbrev pub refusal_of : Rule → Refusal
refusal_of (rule.TooMany limit) = refusal.TooMany limit
refusal_of (rule.DuplicateName name) = refusal.DuplicateName name.now
refusal_of (rule.DuplicateAttribute word) = refusal.DuplicateAttribute word.now
refusal_of (rule.MissingAttribute item word) = refusal.MissingAttribute item.now word.now
refusal_of (rule.UnknownName name) = refusal.UnknownName name.now
refusal_of (rule.WrongKind name) = refusal.WrongKind name.now
refusal_of (rule.FloatVariable variable) = refusal.FloatVariable variable.now
refusal_of (rule.OtherType variable word) = refusal.OtherType variable.now word.now
refusal_of (rule.BadSize variable) = refusal.BadSize variable.now
refusal_of rule.Mismatch = refusal.Mismatch
refusal_of rule.FloatValue = refusal.FloatValue
refusal_of rule.BreakOutside = refusal.BreakOutside
refusal_of rule.ConstRange = refusal.ConstRange
refusal_of rule.DuplicateCase = refusal.DuplicateCase
refusal_of rule.DuplicateElement = refusal.DuplicateElement

-- what a breach tells; the token of an earlier one is a help
abbrev pub told_of : Breach → Told
told_of b = record { refusal = refusal_of b.rule; place = b.place }

-- the refusals for breaches
abbrev pub broken : List Breach → List Refusal
broken breaches = map (λ b. refusal_of b.rule) breaches

-- these breaches come after those that were there
unfoldable pub Tells : List Told → (old new : List Breach) → Type 0
Tells more old new = map told_of new ≡ map told_of old ++ more

-- what is broken, without the places
abbrev pub refusals : List Told → List Refusal
refusals told = map (λ t. t.refusal) told
