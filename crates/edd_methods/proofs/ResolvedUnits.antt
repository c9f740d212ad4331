-- What holds of each written body holds of what the body means, in a resolved description.
use Rattle.std.proofs.Common.{◌≡◌, subst, List, [], ◌∷◌, ◌++◌, Option, Some}
use Rattle.std.specs.List.{AllByRecursion, flat_map}
use Rattle.std.proofs.lemmas.Option.{same_Some}
use Rattle.edd_syntax.specs.declared.reference.Target.{Target}
use Rattle.edd_syntax.specs.Reference.{Path}
use Rattle.edd_syntax.specs.Item as item
use Rattle.edd_syntax.specs.Item.{ItemKind, Attribute, Item, Description}
use Rattle.edd_syntax.specs.Resolution.{member_kinds}
use Rattle.edd_syntax.specs.ResolvedTrees.{◌>>=◌, each, resolved_cond, resolved_conds, unchanged, at_attribute, resolved_type_part, resolved_transaction_part, resolved_entry, resolved_member, resolved_element, resolved_body, resolved_attribute, resolved_item, resolved_unit, meant_in}
use Rattle.edd_syntax.specs.Statement.{Body}
use Rattle.edd_syntax.specs.SubsetRules.{attributes_of}
use Rattle.edd_methods.proofs.CheckedBodies.{OfBody}
use Rattle.edd_methods.proofs.ResolvedSlots.{bound}

-- what is made of each of a list
each_made : {A B : Type 0} (of : A → Option B) (P : A → Type 0) (Q : B → Type 0)
    → ((x : A) (y : B) → P x → of x ≡ Some y → Q y)
    → (xs : List A) (ys : List B) → AllByRecursion P xs → each of xs ≡ Some ys → AllByRecursion Q ys
each_made of P Q make [] ys h is = subst (AllByRecursion Q) (same_Some [] ys is) tt
each_made of P Q make (x ∷ xs) ys h is =
    let a = bound (of x) _ is in
    let b = bound (each of xs) _ a.2 in
    subst (AllByRecursion Q) (same_Some _ ys b.2)
    (make x a.0 h.0 a.1, each_made of P Q make xs b.0 h.1 b.1)

-- what is no body
no_body : (Q : Body Target → Type 0) → {A : Type 0} (o : Option A) (f : A → Attribute Target)
    → ((x : A) → OfBody Q (f x)) → {a : Attribute Target} → (o >>= λ x. Some (f x)) ≡ Some a
    → OfBody Q a
no_body Q o f none {a} h = let b = bound o _ h in subst (OfBody Q) (same_Some _ a b.2) (none b.0)

plain_attribute : (Q : Body Target → Type 0) {x : Attribute Target} (a : Attribute Target)
    → OfBody Q x → Some x ≡ Some a → OfBody Q a
plain_attribute Q {x} a none h = subst (OfBody Q) (same_Some x a h) none

-- P holds of each written body, and with it Q of what the body means
module _ (unit : Description Path) (P : Body Path → Type 0) (Q : Body Target → Type 0)
    (make : (b : Body Path) (b' : Body Target) → P b → resolved_body (meant_in unit) b [] 0 ≡ Some
    b' → Q b')
  where
    attribute_made : (sort : ItemKind) (x : Attribute Path) (a : Attribute Target) → OfBody P x
        → resolved_attribute (meant_in unit) sort x ≡ Some a → OfBody Q a
    attribute_made sort (item.OneText which c) a holds h =
        no_body Q (resolved_cond (at_attribute (meant_in unit)) unchanged c) (item.OneText which)
        (λ _. tt) h
    attribute_made sort (item.Class words) a holds h = plain_attribute Q a tt h
    attribute_made sort (item.Handling c) a holds h =
        no_body Q (resolved_cond (at_attribute (meant_in unit)) unchanged c) item.Handling (λ _. tt)
        h
    attribute_made sort (item.Validity c) a holds h =
        no_body Q (resolved_cond (at_attribute (meant_in unit)) unchanged c) item.Validity (λ _. tt)
        h
    attribute_made sort (item.TypeOf word parts) a holds h =
        no_body Q (each (resolved_type_part (meant_in unit)) parts) (item.TypeOf word) (λ _. tt) h
    attribute_made sort (item.Number n) a holds h = plain_attribute Q a tt h
    attribute_made sort (item.Operation o) a holds h = plain_attribute Q a tt h
    attribute_made sort (item.Transaction number parts) a holds h =
        no_body Q (each (resolved_transaction_part (meant_in unit)) parts) (item.Transaction number)
        (λ _. tt) h
    attribute_made sort (item.ResponseCodes responses) a holds h =
        plain_attribute Q a tt h
    attribute_made sort (item.Items entries) a holds h =
        no_body Q (resolved_conds (at_attribute (meant_in unit)) (resolved_entry (meant_in unit))
        entries) item.Items (λ _. tt) h
    attribute_made sort (item.Members members) a holds h =
        no_body Q (each (resolved_member (meant_in unit) (member_kinds sort)) members) item.Members
        (λ _. tt) h
    attribute_made sort (item.Elements elements) a holds h =
        no_body Q (each (resolved_element (meant_in unit)) elements) item.Elements (λ _. tt) h
    attribute_made sort (item.Definition body) a holds h =
        let b = bound (resolved_body (meant_in unit) body [] 0) _ h in
        subst (OfBody Q) (same_Some _ a b.2) (make body b.0 holds b.1)

    -- in each attribute of an item
    abbrev pub ItemHas : Item Path → Type 0
    ItemHas i = AllByRecursion (OfBody P) i.attributes

    item_made : (x : Item Path) (i : Item Target) → ItemHas x → resolved_item (meant_in unit) x ≡
        Some i
        → AllByRecursion (OfBody Q) i.attributes
    item_made x i holds h =
        let a = bound (each (resolved_attribute (meant_in unit) x.sort) x.attributes) _ h in
        subst (λ (i : Item Target). AllByRecursion (OfBody Q) i.attributes) (same_Some _ i a.2)
        (each_made (resolved_attribute (meant_in unit) x.sort) (OfBody P) (OfBody Q)
        (attribute_made x.sort)
        x.attributes a.0 holds a.1)

    pub unit_made : (d : Description Target) → AllByRecursion ItemHas unit.items
        → resolved_unit unit ≡ Some d → AllByRecursion (OfBody Q) (attributes_of d)
    unfolding resolved_unit
    unit_made d holds h =
        let a = bound (each (resolved_item (meant_in unit)) unit.items) _ h in
        subst (λ (d : Description Target). AllByRecursion (OfBody Q) (attributes_of d))
        (same_Some _ d a.2)
        (together a.0 (each_made (resolved_item (meant_in unit)) ItemHas
        (λ i. AllByRecursion (OfBody Q) i.attributes) item_made unit.items a.0 holds a.1))
      where
        in_front : (xs ys : List (Attribute Target)) → AllByRecursion (OfBody Q) xs
            → AllByRecursion (OfBody Q) ys → AllByRecursion (OfBody Q) (xs ++ ys)
        in_front [] ys h k = k
        in_front (x ∷ xs) ys h k = (h.0, in_front xs ys h.1 k)

        together : (is : List (Item Target))
            → AllByRecursion (λ i. AllByRecursion (OfBody Q) i.attributes) is
            → AllByRecursion (OfBody Q) (flat_map (λ i. i.attributes) is)
        together [] h = tt
        together (i ∷ is) h = in_front i.attributes _ h.0 (together is h.1)
