-- A description keeps the number of its nodes with the meaning of each name in its place.
use Rattle.std.proofs.Common.{◌≡◌, refl, sym, ap, ◌∙◌, ◌+◌, Bool, true, List, [], ◌∷◌, length, map, Option, Some}
use Rattle.std.specs.Prelude.{◌||◌, sum, if◌then◌else◌}
use Rattle.std.specs.List.{list_any}
use Rattle.std.proofs.lemmas.List.{length-map}
use Rattle.edd_syntax.specs.Reference.{Path}
use Rattle.edd_syntax.specs.declared.reference.Target.{Target}
use Rattle.edd_syntax.specs.Conditional.{Cond}
use Rattle.edd_syntax.specs.Item as item
use Rattle.edd_syntax.specs.Item.{ItemKind, TypePart, TransactionPart, Attribute, Item, Description}
use Rattle.edd_syntax.specs.Resolution.{member_kinds}
use Rattle.edd_syntax.specs.ResolvedTrees.{Meanings, each, unchanged, resolved_expr, resolved_cond, resolved_conds, resolved_body, at_attribute, resolved_data, resolved_entry, resolved_member, resolved_element, resolved_type_part, resolved_transaction_part, resolved_attribute, resolved_item, resolved_unit, meant_in, Reading}
use Rattle.edd_syntax.specs.Size.{nodes, leaf, cond_nodes, type_part_nodes, is_element, transaction_part_nodes, attribute_nodes, item_nodes, unit_nodes}
use Rattle.edd_syntax.proofs.WithinLimits.{each_keeps}
use Rattle.edd_syntax.proofs.Made.{stays, made}
use Rattle.edd_code.proofs.TreeNodes.{expr_keeps, cond_keeps, conds_keep, body_keeps}

any_of_mapped : {X : Type 0} (p : X → Bool) (xs : List X)
    → list_any p xs ≡ list_any (λ b. b) (map p xs)
any_of_mapped p [] = refl
any_of_mapped p (x ∷ xs) = ap (λ b. p x || b) (any_of_mapped p xs)

as_many : {A B : Type 0} (of : A → Option B) (xs : List A) (ys : List B) → each of xs ≡ Some ys
    → length ys ≡ length xs
as_many of xs ys h = sym (length-map ys (λ y. true))
    ∙ ap length (each_keeps of (λ x. true) (λ y. true) (λ x y e. refl) xs ys h)
    ∙ length-map xs (λ x. true)

module _ (names : Reading) where
  leaf_keeps : {V W : Type 0} (of : V → Option W) (v : V) (w : W) → of v ≡ Some w → leaf w ≡ leaf v
  leaf_keeps of v w h = refl

  abbrev at : Meanings
  at = at_attribute names

  part_keeps : (p : TypePart Path) (q : TypePart Target) → resolved_type_part names p ≡ Some q
      → type_part_nodes q ≡ type_part_nodes p
  part_keeps (item.OneNumber which c) q h =
      made type_part_nodes (resolved_cond at (resolved_expr at) c) (item.OneNumber which) q _
      (λ x is. ap (λ n. 1 + n) (cond_keeps at (resolved_expr at) nodes nodes (expr_keeps at) c x
      is)) h
  part_keeps (item.OneFormat which c) q h = made type_part_nodes (resolved_cond at unchanged c)
      (item.OneFormat which) q _ (λ x is. ap (λ n. 1 + n)
      (cond_keeps at unchanged leaf leaf (leaf_keeps unchanged) c x is)) h
  part_keeps (item.Element c) q h = made type_part_nodes (resolved_cond at unchanged c) item.Element
      q _ (λ x is. cond_keeps at unchanged leaf leaf (leaf_keeps unchanged) c x is) h

  element_keeps : (p : TypePart Path) (q : TypePart Target) → resolved_type_part names p ≡ Some q
      → is_element q ≡ is_element p
  element_keeps (item.OneNumber which c) q h = made is_element (resolved_cond at (resolved_expr at) c)
      (item.OneNumber which) q _ (λ x is. refl) h
  element_keeps (item.OneFormat which c) q h = made is_element (resolved_cond at unchanged c)
      (item.OneFormat which) q _ (λ x is. refl) h
  element_keeps (item.Element c) q h = made is_element (resolved_cond at unchanged c) item.Element q
      _ (λ x is. refl) h

  transaction_part_keeps : (p : TransactionPart Path) (q : TransactionPart Target)
      → resolved_transaction_part names p ≡ Some q → transaction_part_nodes q
      ≡ transaction_part_nodes p
  transaction_part_keeps (item.Request all) q h =
      made transaction_part_nodes (resolved_conds at (resolved_data names) all) item.Request q _
      (λ x is. ap (λ n. 1 + n)
      (conds_keep at (resolved_data names) leaf leaf (leaf_keeps (resolved_data names)) all x is)) h
  transaction_part_keeps (item.Reply all) q h =
      made transaction_part_nodes (resolved_conds at (resolved_data names) all) item.Reply q _
      (λ x is. ap (λ n. 1 + n)
      (conds_keep at (resolved_data names) leaf leaf (leaf_keeps (resolved_data names)) all x is)) h

  single_keeps : {V : Type 0} (c : Cond Path V) (x : Cond Target V) → resolved_cond at unchanged c
      ≡ Some x → 1 + cond_nodes leaf x ≡ 1 + cond_nodes leaf c
  single_keeps c x is = ap (λ n. 1 + n) (cond_keeps at unchanged leaf leaf (leaf_keeps unchanged) c
      x is)

  attribute_keeps : (sort : ItemKind) (a : Attribute Path) (b : Attribute Target)
      → resolved_attribute names sort a ≡ Some b → attribute_nodes b ≡ attribute_nodes a
  attribute_keeps sort (item.OneText which c) b h =
      made attribute_nodes (resolved_cond at unchanged c) (item.OneText which) b _
      (λ x is. single_keeps c x is) h
  attribute_keeps sort (item.Class words) b h = stays attribute_nodes (item.Class words) b h
  attribute_keeps sort (item.Handling c) b h = made attribute_nodes (resolved_cond at unchanged c)
      item.Handling b _ (λ x is. single_keeps c x is) h
  attribute_keeps sort (item.Validity c) b h = made attribute_nodes (resolved_cond at unchanged c)
      item.Validity b _ (λ x is. single_keeps c x is) h
  attribute_keeps sort (item.TypeOf word parts) b h =
      made attribute_nodes (each (resolved_type_part names) parts) (item.TypeOf word) b _
      (λ x is.
      ap (λ (t : Bool). 1 + ((if t then 1 else 0) + sum (map type_part_nodes x)))
      (any_of_mapped is_element x
      ∙ ap (list_any (λ t. t)) (each_keeps (resolved_type_part names) is_element is_element
      element_keeps parts x is) ∙ sym (any_of_mapped is_element parts))
      ∙ ap (λ ns. 1 + ((if list_any is_element parts then 1 else 0) + sum ns))
      (each_keeps (resolved_type_part names) type_part_nodes type_part_nodes part_keeps parts x
      is)) h
  attribute_keeps sort (item.Number n) b h = stays attribute_nodes (item.Number n) b h
  attribute_keeps sort (item.Operation o) b h = stays attribute_nodes (item.Operation o) b h
  attribute_keeps sort (item.Transaction number parts) b h =
      made attribute_nodes (each (resolved_transaction_part names) parts) (item.Transaction number)
      b
      _
      (λ x is. ap (λ ns. 1 + sum ns)
      (each_keeps (resolved_transaction_part names) transaction_part_nodes transaction_part_nodes
      transaction_part_keeps parts x is)) h
  attribute_keeps sort (item.ResponseCodes responses) b h =
      stays attribute_nodes (item.ResponseCodes responses) b h
  attribute_keeps sort (item.Items entries) b h =
      made attribute_nodes (resolved_conds at (resolved_entry names) entries) item.Items b _
      (λ x is. ap (λ n. 1 + n)
      (conds_keep at (resolved_entry names) leaf leaf (leaf_keeps (resolved_entry names)) entries
      x is)) h
  attribute_keeps sort (item.Members members) b h =
      made attribute_nodes (each (resolved_member names (member_kinds sort)) members) item.Members b
      _
      (λ x is. ap (λ n. 1 + n) (as_many (resolved_member names (member_kinds sort)) members x is)) h
  attribute_keeps sort (item.Elements elements) b h =
      made attribute_nodes (each (resolved_element names) elements) item.Elements b _
      (λ x is. ap (λ n. 1 + n) (as_many (resolved_element names) elements x is)) h
  attribute_keeps sort (item.Definition body) b h =
      made attribute_nodes (resolved_body names body [] 0) item.Definition b _
      (λ x is. ap (λ n. 1 + n) (body_keeps names body [] 0 x is)) h

  item_keeps : (i : Item Path) (j : Item Target) → resolved_item names i ≡ Some j
      → item_nodes j ≡ item_nodes i
  item_keeps i j h =
      made item_nodes (each (resolved_attribute names i.sort) i.attributes)
      (λ attributes. record { sort = i.sort; name = i.name; attributes = attributes }) j _
      (λ x is. ap sum (each_keeps (resolved_attribute names i.sort) attribute_nodes attribute_nodes
      (attribute_keeps i.sort) i.attributes x is)) h

pub unit_keeps : (unit : Description Path) (d : Description Target) → resolved_unit unit ≡ Some d
    → unit_nodes d ≡ unit_nodes unit
unfolding resolved_unit
unit_keeps unit d h =
    made unit_nodes (each (resolved_item (meant_in unit)) unit.items)
    (λ items. record { identification = unit.identification; items = items }) d _
    (λ x is. ap sum (each_keeps (resolved_item (meant_in unit)) item_nodes item_nodes
    (item_keeps (meant_in unit))
    unit.items x is)) h
