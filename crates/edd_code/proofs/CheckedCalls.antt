-- In a checked description the calls of each expression fit.
use Rattle.std.proofs.Common.{◌≡◌, List, [], ◌∷◌}
use Rattle.std.specs.List.{AllByRecursion, flat_map}
use Rattle.edd_syntax.specs.declared.reference.Target.{Target}
use Rattle.edd_syntax.specs.Item.{Description}
use Rattle.edd_syntax.specs.SubsetRules.{Placed, type_option_breaches, attribute_expressions, attributes_of, call_mismatches, mismatches}
use Rattle.edd_code.specs.MethodReads.{CallsFit}
use Rattle.edd_code.proofs.Fitting.{front_none}

none_of : {A B : Type 0} (f : A → List B) (xs : List A) → flat_map f xs ≡ []
    → AllByRecursion (λ x. f x ≡ []) xs
none_of f [] h = tt
none_of f (x ∷ xs) h = let parts =
    front_none (f x) (flat_map f xs) h in (parts.0, none_of f xs parts.1)

weaker : {A : Type 0} {P Q : A → Type 0} → ((x : A) → P x → Q x) → (xs : List A)
    → AllByRecursion P xs → AllByRecursion Q xs
weaker f [] h = tt
weaker f (x ∷ xs) h = (f x h.0, weaker f xs h.1)

pub calls_fit : (unit : Description Target) → mismatches unit ≡ []
    → AllByRecursion CallsFit (attributes_of unit)
calls_fit unit h =
    weaker (λ a is. none_of (λ (p : Placed Target). call_mismatches p.is_statement p.expression)
    (attribute_expressions a) (front_none (type_option_breaches a) _ is).1)
    (attributes_of unit) (none_of _ (attributes_of unit) h)
