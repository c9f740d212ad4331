-- Reading one element of a row after the other.
use Rattle.std.proofs.Common.{◌≡◌, ℕ, zero, suc, ◌<◌, Bool, true, false, List, [], ◌∷◌, ◌++◌, length, map, Some, None, refl, ap, ◌∙◌, arith}
use Rattle.std.specs.Prelude.{if◌then◌else◌}
use Rattle.edd_syntax.specs.declared.numbers.Kind.{Kind}
use Rattle.edd_syntax.specs.Token.{Token}
use Rattle.edd_syntax.specs.Reference.{Path}
use Rattle.edd_syntax.specs.Item.{Attribute, Item}
use Rattle.edd_syntax.specs.ItemGrammar.{OwnAttributeHere, ItemHere}
use Rattle.edd_syntax.specs.Size.{attribute_height, item_height}
use Rattle.edd_syntax.specs.declared.item.Attribute as code_attribute
use Rattle.edd_syntax.specs.declared.item.Item as code_item
use Rattle.edd_syntax.specs.declared.reference.Path as code_path
use Rattle.edd_grammar.specs.Reading.{◌>>=◌, Read}
use Rattle.edd_grammar.specs.WordReading.{at_close, at_end, closed, row_at}
use Rattle.edd_grammar.specs.AttributeReading.{own_attribute_at}
use Rattle.edd_grammar.specs.UnitReading.{item_at}
use Rattle.edd_grammar.proofs.Rows.{closed_sound}
use Rattle.edd_grammar.proofs.CompleteAttributes.{own_attribute_sound, own_attributes}
use Rattle.edd_grammar.proofs.Items.{item_sound, all_items}
use Rattle.edd_expression_parser.specs.Shortening.{Shortens}
use Rattle.edd_token_reader.proofs.Fronts.{bind_same, regroup, add_element, all_elements, with_elements}
use Rattle.edd_parser.specs.Items.{attribute_view}
use Rattle.edd_parser.specs.Units.{item_view}

-- ---- rows of elements that take a token at least

module _ {B : Type 0} (ends : List Token → Bool) (element : List Token → Read B) where
  -- a row whose bound is the number of tokens
  abbrev pub row_here : List Token → Read (List B)
  row_here here = row_at ends element (suc (length here)) here

  -- one bound that is large enough is as good as another
  same_row : Shortens element → (n m : ℕ) (here : List Token) → length here < n → length here < m
      → row_at ends element n here ≡ row_at ends element m here
  unfolding row_at
  same_row shortens zero m here lt le = absurd (omega arith)
  same_row shortens (suc n) zero here lt le = absurd (omega arith)
  same_row shortens (suc n) (suc m) here lt le =
      ap (λ (t : Read (List B)). if ends here then Some ([], here) else t)
      (bind_same (element here) _ _ (λ x e.
      let s = shortens here x.0 x.1 e in
      ap (λ (t : Read (List B)). t >>= λ more. Some (x.0 ∷ more.0, more.1))
      (same_row shortens n m x.1 (omega arith) (omega arith))))

  pub read_end : {A : Type 0} (view : A → B) (front : List A) (here : List Token) → ends here ≡ true
      → with_elements view front (row_here here) ≡ Some (map view front, here)
  unfolding row_at
  read_end view front here e = rw e (ap (λ (x : List B). Some (x, here)) (all_elements view front))

  pub read_fail : {A : Type 0} (view : A → B) (front : List A) (here : List Token)
      → ends here ≡ false → element here ≡ None → with_elements view front (row_here here) ≡ None
  unfolding row_at
  read_fail view front here e fails = rw (e, fails) refl

  pub read_on : Shortens element → {A : Type 0} (view : A → B) (front : List A) (a : A)
      (here rest : List Token) → ends here ≡ false → element here ≡ Some (view a, rest)
      → with_elements view front (row_here here) ≡ with_elements view (front ++ a ∷ [])
      (row_here rest)
  unfolding row_at
  read_on shortens view front a here rest e read =
      let lt = shortens here (view a) rest read in
      rw (e, read) (regroup (add_element view) front a (row_at ends element (length here) rest))
      ∙ ap (with_elements view (front ++ a ∷ []))
      (same_row shortens (length here) (suc (length rest)) rest lt (omega arith))

-- ---- a row in braces, of elements of any kind

module _ {A B : Type 0} (view : A → B) (element : ℕ → List Token → Read B) (height_left : ℕ) where
  abbrev pub elements_here : List Token → Read (List B)
  elements_here here = row_here at_close (element height_left) here

  pub elements_end : (front : List A) (here : List Token) → at_close here ≡ true
      → with_elements view front (elements_here here) ≡ Some (map view front, here)
  elements_end front here e = read_end at_close (element height_left) view front here e

  pub elements_fail : (front : List A) (here : List Token) → at_close here ≡ false
      → element height_left here ≡ None → with_elements view front (elements_here here) ≡ None
  elements_fail front here e fails = read_fail at_close (element height_left) view
      front here e fails

  module _ (shortens : (height_left : ℕ) → Shortens (element height_left)) where
    pub elements_go_on : (front : List A) (a : A) (here rest : List Token) → at_close here ≡ false
        → element height_left here ≡ Some (view a, rest)
        → with_elements view front (elements_here here) ≡ with_elements view (front ++ a ∷ [])
        (elements_here rest)
    elements_go_on front a here rest e read =
        read_on at_close (element height_left) (shortens height_left) view front a here rest e read

    pub element_shortens : (here : List Token) (x : B) (rest : List Token)
        → element height_left here ≡ Some (x, rest) → length rest < length here
    element_shortens here x rest e = shortens height_left here x rest e

pub ruleset elements_read = (elements_end, elements_fail, elements_go_on, element_shortens)

-- ---- the items of a text

abbrev pub items_here : List Token → Read (List (Item Path))
items_here here = row_here at_end (closed (item_at 100)) here

pub item_shortens : Shortens (closed (item_at 100))
item_shortens here i rest e =
    let elements = all_items 100 in
    elements.shorter i here rest (closed_sound ItemHere item_height 100 (item_at 100)
    (item_sound 100)
    here i rest e).0

pub items_end : (front : List (code_item.Item code_path.Path)) (here : List Token)
    → at_end here ≡ true → with_elements item_view front (items_here here)
    ≡ Some (map item_view front, here)
items_end front here e = read_end at_end (closed (item_at 100)) item_view front here e

pub items_fail : (front : List (code_item.Item code_path.Path)) (here : List Token)
    → at_end here ≡ false → closed (item_at 100) here ≡ None
    → with_elements item_view front (items_here here) ≡ None
items_fail front here e fails = read_fail at_end (closed (item_at 100)) item_view front here e fails

pub items_go_on : (front : List (code_item.Item code_path.Path)) (i : code_item.Item code_path.Path)
    (here rest : List Token) → at_end here ≡ false → closed (item_at 100) here
    ≡ Some (item_view i, rest)
    → with_elements item_view front (items_here here) ≡ with_elements item_view (front ++ i ∷ [])
    (items_here rest)
items_go_on front i here rest e read = read_on at_end (closed (item_at 100)) item_shortens item_view
    front i here rest e read

pub ruleset items_read = (item_shortens, items_end, items_fail, items_go_on)

-- ---- the attributes of an item

module _ (kind : Kind) (height_left : ℕ) where
  abbrev pub attributes_here : List Token → Read (List (Attribute Path))
  attributes_here here = row_here at_close (closed (own_attribute_at kind height_left)) here

  pub attribute_shortens : Shortens (closed (own_attribute_at kind height_left))
  attribute_shortens here a rest e =
      let elements = own_attributes kind height_left in
      elements.shorter a here rest (closed_sound (OwnAttributeHere kind)
      attribute_height height_left
      (own_attribute_at kind height_left) (own_attribute_sound kind height_left) here a rest
      e).0

  pub attributes_end : (front : List (code_attribute.Attribute code_path.Path)) (here : List Token)
      → at_close here ≡ true → with_elements attribute_view front (attributes_here here)
      ≡ Some (map attribute_view front, here)
  attributes_end front here e = read_end at_close (closed (own_attribute_at kind height_left))
      attribute_view front here e

  pub attributes_fail : (front : List (code_attribute.Attribute code_path.Path)) (here : List Token)
      → at_close here ≡ false → closed (own_attribute_at kind height_left) here ≡ None
      → with_elements attribute_view front (attributes_here here) ≡ None
  attributes_fail front here e fails =
      read_fail at_close (closed (own_attribute_at kind height_left)) attribute_view front here e
      fails

  pub attributes_go_on : (front : List (code_attribute.Attribute code_path.Path))
      (a : code_attribute.Attribute code_path.Path) (here rest : List Token) → at_close here ≡ false
      → closed (own_attribute_at kind height_left) here ≡ Some (attribute_view a, rest)
      → with_elements attribute_view front (attributes_here here)
      ≡ with_elements attribute_view (front ++ a ∷ []) (attributes_here rest)
  attributes_go_on front a here rest e read =
      read_on at_close (closed (own_attribute_at kind height_left)) attribute_shortens
      attribute_view front a here rest e read

pub ruleset attributes_read =
    (attribute_shortens, attributes_end, attributes_fail, attributes_go_on)
