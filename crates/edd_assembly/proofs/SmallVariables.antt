-- The variables of a checked description have 1 to 4 octets.
use Rattle.std.proofs.Common.{◌≡◌, refl, ap, ◌∙◌, ℕ, Bool, true, false, List, [], ◌∷◌, Some, None, IsTrue, nat_lt, arith}
use Rattle.std.specs.Prelude.{◌||◌, ◌&&◌, ◌==◌, if◌then◌else◌, codes}
use Rattle.std.specs.Str.{bytes_eq}
use Rattle.std.specs.List.{flat_map, list_all}
use Rattle.std.specs.Option.{option_map_or}
use Rattle.std.proofs.lemmas.Grind.{common_steps}
use Rattle.std.proofs.Math.Logic.{∥∥₁_elim}
use Rattle.std.proofs.Math.Bool.{Bool-set}
use Rattle.edd_syntax.specs.declared.reference.Target.{Target}
use Rattle.edd_syntax.specs.declared.numbers.Kind.TheVariants as kind
use Rattle.edd_syntax.specs.Text.{Name}
use Rattle.edd_syntax.specs.Item as item
use Rattle.edd_syntax.specs.Item.{kind_of_item, Attribute, Item, Description}
use Rattle.edd_syntax.specs.Numbers.{same_kind}
use Rattle.edd_syntax.specs.Names.{is_within}
use Rattle.edd_syntax.specs.Device.{written_type}
use Rattle.edd_syntax.specs.Refusal.{Refusal, BadSize, FloatVariable, OtherType}
use Rattle.edd_syntax.specs.SubsetRules.{type_breaches, types_in, wrong_types}
use Rattle.edd_syntax.specs.Resolved.{IsChecked}
use Rattle.edd_syntax.proofs.WithinLimits.{not_empty, no_front, no_rest, no_refusal}
use Rattle.edd_assembly.specs.Assembly.{is_small_variable}

no_choice : (b : Bool) (x y : Refusal) → ¬ ((if b then x ∷ [] else y ∷ []) ≡ [])
no_choice true x y h = not_empty h
no_choice false x y h = not_empty h

one_to_four : (size : ℕ) → (size == 0 || nat_lt 4 size) ≡ false → IsTrue (is_within 1 4 size)
one_to_four size h = grind (arith, common_steps)

small : (name : Name) (attributes : List (Attribute Target))
    → flat_map (type_breaches name) (flat_map types_in attributes) ≡ []
    → IsTrue (is_within 1 4 (written_type attributes).size)
small name [] h = refl
small name (item.OneText which c ∷ rest) h = small name rest h
small name (item.Class words ∷ rest) h = small name rest h
small name (item.Handling c ∷ rest) h = small name rest h
small name (item.Validity c ∷ rest) h = small name rest h
small name (item.TypeOf (item.Known type None) parts ∷ rest) h = refl
small name (item.TypeOf (item.Known type (Some size)) parts ∷ rest) h =
    one_to_four size (no_refusal (size == 0 || nat_lt 4 size) (BadSize name) (no_front _ _ h))
small name (item.TypeOf (item.Other word) parts ∷ rest) h =
    absurd (no_choice (bytes_eq word (codes "FLOAT") || bytes_eq word (codes "DOUBLE"))
    (FloatVariable name) (OtherType name word) (no_front _ _ h))
small name (item.Number n ∷ rest) h = small name rest h
small name (item.Operation o ∷ rest) h = small name rest h
small name (item.Transaction number parts ∷ rest) h = small name rest h
small name (item.ResponseCodes responses ∷ rest) h = small name rest h
small name (item.Items entries ∷ rest) h = small name rest h
small name (item.Members members ∷ rest) h = small name rest h
small name (item.Elements elements ∷ rest) h = small name rest h
small name (item.Definition body ∷ rest) h = small name rest h

small_item : (i : Item Target) → IsTrue (is_within 1 4 (written_type i.attributes).size)
    → IsTrue (is_small_variable i)
small_item i h = by_kind (same_kind (kind_of_item i.sort) kind.Variable)
  where
    by_kind : (b : Bool) → IsTrue
        (option_map_or (λ attributes. is_within 1 4 (written_type attributes).size)
        (if b then Some i.attributes else None) true)
    by_kind true = h
    by_kind false = refl

abbrev item_breaches : Item Target → List Refusal
item_breaches i = flat_map (type_breaches i.name) (flat_map types_in i.attributes)

small_items : (items : List (Item Target)) → flat_map item_breaches items ≡ []
    → IsTrue (list_all is_small_variable items)
small_items [] h = refl
small_items (i ∷ rest) h =
    both (is_small_variable i) (list_all is_small_variable rest)
    (small_item i (small i.name i.attributes
    (no_front (item_breaches i) (flat_map item_breaches rest) h)))
    (small_items rest (no_rest (item_breaches i) (flat_map item_breaches rest) h))
  where
    both : (a b : Bool) → IsTrue a → IsTrue b → IsTrue (a && b)
    both a b x y = ap (λ c. c && b) x ∙ y

pub small_when_checked : (d : Description Target) → ∥ IsChecked d ∥₁
    → IsTrue (list_all is_small_variable d.items)
small_when_checked d checked =
    ∥∥₁_elim checked (Bool-set _ _)
    (λ c. small_items d.items (no_front (wrong_types d) _ c.no_breach))
