-- What the bodies of a resolved description refer to exists.
use Rattle.std.proofs.Common.{◌≡◌, refl, ap, subst, ◌∙◌, ℕ, Bool, true, false, List, [], ◌∷◌, length, Some, cond, arith}
use Rattle.std.specs.List.{AllByRecursion, list_all}
use Rattle.std.proofs.lemmas.Option.{same_Some}
use Rattle.std.proofs.lemmas.Bool.{and_parts}
use Rattle.edd_syntax.specs.declared.numbers.Kind.{Kind}
use Rattle.edd_syntax.specs.declared.numbers.Kind.TheVariants as kind
use Rattle.edd_syntax.specs.declared.numbers.MethNo.{MethNo}
use Rattle.edd_syntax.specs.declared.reference.Target.{Target}
use Rattle.edd_syntax.specs.Execution.{body_of}
use Rattle.edd_syntax.specs.Item as item
use Rattle.edd_syntax.specs.Item.{kind_of_item, Attribute, Item, Description}
use Rattle.edd_syntax.specs.Numbers.{same_kind}
use Rattle.edd_syntax.specs.Reference.{Path}
use Rattle.edd_syntax.specs.Resolution.{count_of}
use Rattle.edd_syntax.specs.Resolved.{IsResolved}
use Rattle.edd_syntax.specs.ResolvedTrees.{each, resolved_attribute, resolved_body, resolved_item, resolved_unit, meant_in}
use Rattle.edd_syntax.specs.Statement.{Body, slots_in}
use Rattle.edd_syntax.specs.SubsetRules.{body_expressions}
use Rattle.edd_syntax.specs.WellFormed.{is_path, is_plain, is_attribute, is_body, is_item, stands_in, are_items}
use Rattle.edd_image.specs.declared.parts.Counts.{Counts}
use Rattle.edd_instructions.specs.declared.unit.Context.{Context}
use Rattle.edd_instructions.specs.declared.unit.Sort.TheVariants.{Method}
use Rattle.edd_image.specs.declared.versions.Version.TheVariants.{Two}
use Rattle.edd_methods.proofs.CheckedBodies.{OfBody, of_method}
use Rattle.edd_methods.proofs.ResolvedSlots.{bound, body_in}
use Rattle.edd_methods.proofs.ResolvedStatements.{ReferToExisting, body_at}
use Rattle.edd_methods.proofs.ResolvedUnits.{unit_made}

-- ---- there are as many items of a kind as before

module _ (unit : Description Path) (k : Kind) where
  items_stay : (xs : List (Item Path)) (ys : List (Item Target)) → each
      (resolved_item (meant_in unit)) xs
      ≡ Some ys → count_of k xs ≡ count_of k ys
  items_stay [] ys h = subst (λ (ys : List (Item Target)). 0 ≡ count_of k ys) (same_Some [] ys h)
      refl
  items_stay (x ∷ xs) ys h =
      let a = bound (resolved_item (meant_in unit) x) _ h in
      let b = bound (each (resolved_item (meant_in unit)) xs) _ a.2 in
      let c = bound (each (resolved_attribute (meant_in unit) x.sort) x.attributes) _ a.1 in
      let sorts : x.sort ≡ a.0.sort = ap (λ (i : Item Target). i.sort) (same_Some _ a.0 c.2) in
      subst (λ (ys : List (Item Target)). count_of k (x ∷ xs) ≡ count_of k ys) (same_Some _ ys b.2)
      (counted (same_kind (kind_of_item x.sort) k) (same_kind (kind_of_item a.0.sort) k)
      (ap (λ (s : item.ItemKind). same_kind (kind_of_item s) k) sorts) x a.0 _ _
      (items_stay xs b.0 b.1))
    where
      counted : (b c : Bool) → b ≡ c → (x : Item Path) (i : Item Target) (xs : List (Item Path))
          (is : List (Item Target)) → length xs ≡ length is → length (cond b (x ∷ xs) xs)
          ≡ length (cond c (i ∷ is) is)
      counted true true e x i xs is h = omega (arith, h)
      counted false false e x i xs is h = h
      counted true false e x i xs is h = absurd (cc e)
      counted false true e x i xs is h = absurd (cc e)

  pub counts_stay : (d : Description Target) → resolved_unit unit ≡ Some d → count_of k unit.items
      ≡ count_of k d.items
  unfolding resolved_unit
  counts_stay d h =
      let a = bound (each (resolved_item (meant_in unit)) unit.items) _ h in
      items_stay unit.items a.0 a.1 ∙ ap (λ (d : Description Target). count_of k d.items)
      (same_Some _ d a.2)

-- ---- written bodies

-- the body is as the parser makes it
abbrev WellFormed : Body Path → Type 0
WellFormed b = is_body is_path is_plain false b ≡ true

in_attribute : (a : Attribute Path) → is_attribute is_path is_plain a ≡ true → OfBody WellFormed a
in_attribute (item.Definition body) is = is
in_attribute _ is = tt

in_attributes : (k : Kind) (xs : List (Attribute Path)) → list_all (stands_in is_path is_plain k) xs
    ≡ true → AllByRecursion (OfBody WellFormed) xs
in_attributes k [] is = tt
in_attributes k (a ∷ rest) is =
    let are = and_parts (stands_in is_path is_plain k a)
    (list_all (stands_in is_path is_plain k) rest) is in (
      in_attribute a (and_parts _ (is_attribute is_path is_plain a) (and_parts _ _ are.0).0).1,
      in_attributes k rest are.1,
    )

in_items : (xs : List (Item Path)) → are_items xs ≡ true
    → AllByRecursion (λ i. AllByRecursion (OfBody WellFormed) i.attributes) xs
unfolding are_items
in_items [] is = tt
in_items (i ∷ rest) is =
    let are = and_parts (is_item is_path is_plain i) (are_items rest) is in
    (in_attributes (kind_of_item i.sort) i.attributes (and_parts _ _ are.0).1, in_items rest are.1)

-- ---- bodies that mean something

-- the context of the unit of a method that has so many slots, in the newest version
abbrev pub around : Counts → (slots : ℕ) → Context
around counts slots = record {
  version = Two;
  counts = counts;
  sort = Method;
  slots = slots;
}

-- each expression of the body refers to what there is
abbrev pub Refers : Counts → Body Target → Type 0
Refers counts b = ReferToExisting (around counts (slots_in b)) (body_expressions b)

refers : (unit : Description Path) (counts : Counts) → count_of kind.Variable unit.items
    ≡ counts.variables → count_of kind.Array unit.items ≡ counts.arrays
    → count_of kind.Method unit.items ≡ counts.methods → (b : Body Path) (b' : Body Target)
    → WellFormed b
    → resolved_body (meant_in unit) b [] 0 ≡ Some b' → Refers counts b'
refers unit counts variables arrays methods b b' is h =
    let i = body_in (meant_in unit) b [] 0 h in
    body_at unit (around counts (slots_in b')) variables arrays methods false b [] 0 b'
    (refl, omega (arith, i.0))
    is h

pub body_refers : (d : Description Target) → IsResolved d → (counts : Counts)
    → count_of kind.Variable d.items ≡ counts.variables
    → count_of kind.Array d.items ≡ counts.arrays → count_of kind.Method d.items ≡ counts.methods
    → (m : MethNo) → Refers counts (body_of d m)
body_refers d is counts variables arrays methods m =
    of_method (Refers counts) tt d m
    (unit_made is.unit WellFormed (Refers counts)
    (refers is.unit counts (counts_stay is.unit kind.Variable d is.meanings ∙ variables)
    (counts_stay is.unit kind.Array d is.meanings ∙ arrays)
    (counts_stay is.unit kind.Method d is.meanings ∙ methods)) d
    (in_items is.unit.items is.well_formed) is.meanings)
