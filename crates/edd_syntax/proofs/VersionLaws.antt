-- Loops that look for a name of add_abort_method.
use Rattle.std.proofs.Common.{◌≡◌, refl, sym, ap, ◌∙◌, ℕ, ◌+◌, ◌<◌, ◌≤◌, Bool, true, false, List, [], ◌∷◌, ◌++◌, length, get_or, drop, map, arith}
use Rattle.std.proofs.lemmas.Grind.{common_steps, flat_map-append}
use Rattle.std.proofs.lemmas.List.{at_drop_more}
use Rattle.std.proofs.Math.ListN.{drop_of_length-le}
use Rattle.std.specs.Prelude.{◌||◌}
use Rattle.std.specs.List.{list_any, flat_map}
use Rattle.edd_syntax.specs.declared.reference.Target.{Target}
use Rattle.edd_syntax.specs.Expression.{Argument, Text, Value, arguments_from}
use Rattle.edd_syntax.specs.Item.{Attribute, Item}
use Rattle.edd_syntax.specs.LayoutVersion.{argument_names_it, one_names_it, body_names_it}
use Rattle.edd_syntax.specs.Statement.{Declarator, Part, Declare, Statement, body_from}
use Rattle.edd_syntax.specs.SubsetRules.{bodies_in, optional_part, stmt_expressions}

-- ---- a loop, where a list has it if its first element or the others have it

module _ {X Y : Type 0} (holds : List Y → Bool) (one : Y → Bool) (view : X → Y)
    (splits : (y : Y) (ys : List Y) → holds (y ∷ ys) ≡ (one y || holds ys)) where
  -- whether the elements from the i-th on have it
  abbrev pub holds_from : ℕ → List X → Bool
  holds_from i xs = holds (map view (drop i xs))

  next_holds : (i : ℕ) (xs : List X) (x : X) → i < length xs → x ≡ get_or xs i x
      → holds_from i xs ≡ (one (view x) || holds_from (i + 1) xs)
  next_holds i xs x h is = at_drop_more (λ ys. holds (map view ys)) xs i x h ∙ splits _ _
      ∙ ap (λ y. one (view y) || holds_from (i + 1) xs) (sym is)

  pub looks_on : (i : ℕ) (xs : List X) (x : X) → i < length xs → x ≡ get_or xs i x
      → one (view x) ≡ false → holds_from i xs ≡ holds_from 0 xs
      → holds_from (i + 1) xs ≡ holds_from 0 xs
  looks_on i xs x h is other invariant = ap (λ b. b || holds_from (i + 1) xs) (sym other)
      ∙ sym (next_holds i xs x h is) ∙ invariant

  pub has_it : (i : ℕ) (xs : List X) (x : X) → i < length xs → x ≡ get_or xs i x
      → one (view x) ≡ true → holds_from i xs ≡ holds_from 0 xs → true ≡ holds_from 0 xs
  has_it i xs x h is found invariant = ap (λ b. b || holds_from (i + 1) xs) (sym found)
      ∙ sym (next_holds i xs x h is) ∙ invariant

  pub has_none : holds [] ≡ false → (i : ℕ) (xs : List X) → length xs ≤ i
      → holds_from i xs ≡ holds_from 0 xs → false ≡ holds_from 0 xs
  has_none none i xs h invariant = sym none
      ∙ ap (λ ys. holds (map view ys)) (sym (drop_of_length-le xs h)) ∙ invariant

-- ---- the lists

any_append : {Y : Type 0} (f : Y → Bool) (xs ys : List Y)
    → list_any f (xs ++ ys) ≡ (list_any f xs || list_any f ys)
any_append f xs ys = grind (arith, common_steps)

abbrev pub in_arguments : List (Argument Target) → Bool
in_arguments xs = argument_names_it (arguments_from xs)

abbrev pub in_argument : Argument Target → Bool
in_argument x = in_arguments (x ∷ [])

pub arguments_split : (x : Argument Target) (xs : List (Argument Target)) → in_arguments (x ∷ xs)
    ≡ (in_argument x || in_arguments xs)
arguments_split (Text text) xs = refl
arguments_split (Value e) xs = grind (arith, common_steps)

abbrev pub in_declarators : List (Declarator Target) → Bool
in_declarators ds = one_names_it (flat_map (λ d. optional_part d.value) ds)

abbrev pub in_declarator : Declarator Target → Bool
in_declarator d = one_names_it (optional_part d.value)

pub declarators_split : (d : Declarator Target) (ds : List (Declarator Target))
    → in_declarators (d ∷ ds) ≡ (in_declarator d || in_declarators ds)
declarators_split d ds = any_append _ (optional_part d.value) _

abbrev pub in_parts : List (Part Target) → Bool
in_parts ps = body_names_it (body_from ps)

abbrev pub in_part : Part Target → Bool
in_part p = in_parts (p ∷ [])

pub parts_split : (p : Part Target) (ps : List (Part Target)) → in_parts (p ∷ ps)
    ≡ (in_part p || in_parts ps)
parts_split (Declare ds) ps = any_append _ (flat_map (λ d. optional_part d.value) ds) _
    ∙ grind (arith, common_steps)
parts_split (Statement s) ps = any_append _ (stmt_expressions s) _ ∙ grind (arith, common_steps)
parts_split _ ps = refl

abbrev pub in_attributes : List (Attribute Target) → Bool
in_attributes xs = list_any body_names_it (flat_map bodies_in xs)

abbrev pub in_attribute : Attribute Target → Bool
in_attribute a = list_any body_names_it (bodies_in a)

pub attributes_split : (a : Attribute Target) (xs : List (Attribute Target))
    → in_attributes (a ∷ xs) ≡ (in_attribute a || in_attributes xs)
attributes_split a xs = any_append body_names_it (bodies_in a) _

abbrev pub in_items : List (Item Target) → Bool
in_items xs = in_attributes (flat_map (λ i. i.attributes) xs)

abbrev pub in_item : Item Target → Bool
in_item i = in_attributes i.attributes

attributes_joined : (xs ys : List (Attribute Target)) → in_attributes (xs ++ ys)
    ≡ (in_attributes xs || in_attributes ys)
attributes_joined xs ys = ap (list_any body_names_it) (flat_map-append bodies_in xs ys)
    ∙ any_append body_names_it (flat_map bodies_in xs) (flat_map bodies_in ys)

pub items_split : (i : Item Target) (xs : List (Item Target)) → in_items (i ∷ xs)
    ≡ (in_item i || in_items xs)
items_split i xs = attributes_joined i.attributes _
