-- All that is told, without the places: the breaches of the rules of the profile.
use Rattle.std.proofs.Common.{◌≡◌, refl, sym, ap, ◌∙◌, false, List, [], ◌∷◌, ◌++◌}
use Rattle.std.specs.List.{flat_map}
use Rattle.std.proofs.lemmas.Grind.{flat_map-append}
use Rattle.edd_breaches.specs.Told.{refusals}
use Rattle.edd_breaches.specs.declared.breach.Rule.{Rule}
use Rattle.edd_breaches.specs.declared.breach.Rule.TheVariants as rule
use Rattle.edd_syntax.specs.declared.reference.Target.{Target}
use Rattle.edd_syntax.specs.declared.item.Item.{Item}
use Rattle.edd_syntax.specs.declared.item.Attribute.{Attribute}
use Rattle.edd_syntax.specs.Item as item
use Rattle.edd_syntax.specs.Item.{Identification}
use Rattle.edd_syntax.specs.ItemView as view
use Rattle.edd_syntax.specs.ItemView.{name_of, numbered_attribute, numbered_item, numbered_items}
use Rattle.edd_syntax.specs.Refusal.{Refusal}
use Rattle.edd_syntax.specs.Resolved.{description}
use Rattle.edd_syntax.specs.SubsetRules.{attributes_of, attribute_expressions, call_mismatches, decimals, type_breaches, types_in, type_option_breaches, breaks_outside_in, bodies_in, attribute_data_breaches, repeated_cases, repeated_elements, subset_breaches}
use Rattle.edd_types.specs.declared.sought.Calls.TheVariants as calls
use Rattle.edd_types.specs.Rules.{type_told, attribute_told, types_told, rule_told, all_told}
use Rattle.edd_types.proofs.AttributePlaces.{options_are, calls_in_attribute, decimals_in_attribute, type_is, breaks_in_attribute, constants_are, cases_are, elements_are}
use Rattle.edd_types.proofs.PlacesForgotten.{joined, each_forgotten, all_forgotten}

types_are : (items : List (Item Target)) → refusals (types_told items)
    ≡ flat_map (λ i. flat_map (type_breaches i.name) (flat_map types_in i.attributes))
    (numbered_items items)
types_are = each_forgotten (λ i. flat_map (type_told (name_of i)) (view.attributes_of i))
    numbered_item (λ i. flat_map (type_breaches i.name) (flat_map types_in i.attributes))
    (λ i. all_forgotten (type_told (name_of i)) numbered_attribute (type_breaches (name_of i))
    types_in (type_is (name_of i)) (view.attributes_of i))

flat_parts : {X Y : Type 0} (f : Y → List Refusal) (parts : X → List Y) (xs : List X)
    → flat_map (λ x. flat_map f (parts x)) xs ≡ flat_map f (flat_map parts xs)
flat_parts f parts [] = refl
flat_parts f parts (x ∷ xs) = ap (λ ys. flat_map f (parts x) ++ ys) (flat_parts f parts xs)
    ∙ sym (flat_map-append f (parts x) (flat_map parts xs))

-- a rule that speaks of single attributes
rule_is : (i : Identification) (r : Rule) (f : item.Attribute Target → List Refusal)
    → ((a : Attribute Target) → refusals (attribute_told calls.All r a) ≡ f (numbered_attribute a))
    → (items : List (Item Target)) → refusals (rule_told calls.All r items)
    ≡ flat_map f (attributes_of (description i (numbered_items items)))
rule_is i r f same = all_forgotten (λ x. flat_map (attribute_told calls.All r) (view.attributes_of x))
    numbered_item f (λ x. x.attributes)
    (λ x. each_forgotten (attribute_told calls.All r) numbered_attribute f same (view.attributes_of x))

pub all_are : (i : Identification) (items : List (Item Target))
    → refusals (all_told calls.All items) ≡ subset_breaches (description i (numbered_items items))
unfolding all_told
all_are i items =
    joined _ _ _ _ (types_are items)
    (joined _ _ _ _ (rule_is i rule.Mismatch (λ a. type_option_breaches a
    ++ flat_map (λ p. call_mismatches p.is_statement p.expression) (attribute_expressions a))
    (λ a. joined _ _ _ _ (options_are a) (calls_in_attribute a)) items)
    (joined _ _ _ _ (rule_is i rule.FloatValue
    (λ a. flat_map (λ p. decimals p.expression) (attribute_expressions a)) decimals_in_attribute
    items)
    (joined _ _ _ _ (rule_is i rule.BreakOutside
    (λ a. flat_map (breaks_outside_in false false) (bodies_in a)) breaks_in_attribute items
    ∙ flat_parts (breaks_outside_in false false) bodies_in
    (attributes_of (description i (numbered_items items))))
    (joined _ _ _ _ (rule_is i rule.ConstRange attribute_data_breaches constants_are items)
    (joined _ _ _ _ (rule_is i rule.DuplicateCase repeated_cases cases_are items)
    (rule_is i rule.DuplicateElement repeated_elements elements_are items))))))
