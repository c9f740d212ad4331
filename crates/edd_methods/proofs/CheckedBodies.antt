-- What the methods' bodies of a checked description keep.
use Rattle.std.proofs.Common.{◌≡◌, refl, subst, ℕ, zero, suc, Bool, true, false, List, [], ◌∷◌, ◌++◌, Option, Some, None}
use Rattle.std.specs.Prelude.{slice_get, cond}
use Rattle.std.specs.List.{AllByRecursion, filter, flat_map}
use Rattle.std.proofs.lemmas.Option.{same_Some}
use Rattle.edd_syntax.specs.declared.numbers.ItemNo.TheVariants as item_no
use Rattle.edd_syntax.specs.declared.numbers.MethNo.{MethNo}
use Rattle.edd_syntax.specs.declared.reference.Target.{Target}
use Rattle.edd_syntax.specs.Device.{item_at}
use Rattle.edd_syntax.specs.Execution.{body_in, body_of}
use Rattle.edd_syntax.specs.Item as item
use Rattle.edd_syntax.specs.Item.{Attribute, Item, Description}
use Rattle.edd_syntax.specs.Statement.{Body, Nil}
use Rattle.edd_syntax.specs.SubsetRules.{attributes_of, body_expressions, call_mismatches, mismatches}
use Rattle.edd_code.specs.MethodReads.{CallsFit}
use Rattle.edd_code.proofs.CheckedCalls.{calls_fit}

-- ---- of all attributes, and of a method's body

-- P holds of a body that is written
abbrev pub OfBody : {R : Type 0} → (P : Body R → Type 0) → Attribute R → Type 0
OfBody P (item.Definition body) = P body
OfBody P _ = Unit {0}

pub flat_parts : {A B : Type 0} (P : B → Type 0) (f : A → List B) (xs : List A)
    → AllByRecursion P (flat_map f xs) → AllByRecursion (λ x. AllByRecursion P (f x)) xs
flat_parts P f [] h = tt
flat_parts {A} {B} P f (x ∷ xs) h = let two = parted (f x) h in (two.0, flat_parts P f xs two.1)
  where
    parted : (ys : List B) → AllByRecursion P (ys ++ flat_map f xs)
        → AllByRecursion P ys × AllByRecursion P (flat_map f xs)
    parted [] h = (tt, h)
    parted (y ∷ ys) h = let more = parted ys h.1 in ((h.0, more.0), more.1)

picked : {A : Type 0} (P : A → Type 0) (test : A → Bool) (xs : List A) → AllByRecursion P xs
    → AllByRecursion P (filter test xs)
picked P test [] h = tt
picked {A} P test (x ∷ xs) h = by_test (test x) (picked P test xs h.1)
  where
    by_test : (b : Bool) → AllByRecursion P (filter test xs)
        → AllByRecursion P (cond b (x ∷ filter test xs) (filter test xs))
    by_test true rest = (h.0, rest)
    by_test false rest = rest

got : {A : Type 0} (P : A → Type 0) (xs : List A) (k : ℕ) (x : A) → AllByRecursion P xs
    → slice_get xs k ≡ Some x → P x
got P [] k x h is = absurd (cc is)
got P (y ∷ ys) zero x h is = subst P (same_Some y x is) h.0
got P (y ∷ ys) (suc k) x h is = got P ys k x h.1 is

module _ (P : Body Target → Type 0) (none : P Nil) where
  in_attributes : (xs : List (Attribute Target)) → AllByRecursion (OfBody P) xs → P (body_in xs)
  in_attributes [] h = none
  in_attributes (item.Definition body ∷ rest) h = h.0
  in_attributes (_ ∷ rest) h = in_attributes rest h.1

  -- what holds of each written body holds of that of each method
  pub of_method : (unit : Description Target) (m : MethNo)
      → AllByRecursion (OfBody P) (attributes_of unit) → P (body_of unit m)
  of_method unit m h = by_item (item_at unit (item_no.Method m)) refl
    where
      by_item : (o : Option (Item Target)) → item_at unit (item_no.Method m) ≡ o
          → P (elim o as (λ _. Body Target) [ Some i ↦ body_in i.attributes | None ↦ Nil ])
      by_item None is = none
      by_item (Some i) is =
          in_attributes i.attributes (got (λ i. AllByRecursion (OfBody P) i.attributes) _ _ i
          (picked (λ i. AllByRecursion (OfBody P) i.attributes) _ unit.items
          (flat_parts (OfBody P) (λ i. i.attributes) unit.items h)) is)

-- ---- calls

-- the calls of a body fit
abbrev pub Fit : Body Target → Type 0
Fit body = AllByRecursion (λ p. call_mismatches p.is_statement p.expression ≡ [])
    (body_expressions body)

fit_in : (xs : List (Attribute Target)) → AllByRecursion CallsFit xs
    → AllByRecursion (OfBody Fit) xs
fit_in [] h = tt
fit_in (a ∷ rest) h = (one a h.0, fit_in rest h.1)
  where
    one : (a : Attribute Target) → CallsFit a → OfBody Fit a
    one (item.Definition body) h = h
    one (item.OneText which c) h = tt
    one (item.Class words) h = tt
    one (item.Handling c) h = tt
    one (item.Validity c) h = tt
    one (item.TypeOf word parts) h = tt
    one (item.Number n) h = tt
    one (item.Operation o) h = tt
    one (item.Transaction number parts) h = tt
    one (item.ResponseCodes responses) h = tt
    one (item.Items entries) h = tt
    one (item.Members members) h = tt
    one (item.Elements elements) h = tt

pub body_fits : (unit : Description Target) → mismatches unit ≡ [] → (m : MethNo)
    → Fit (body_of unit m)
body_fits unit none m = of_method Fit tt unit m (fit_in (attributes_of unit) (calls_fit unit none))
