-- The code of an item's attributes is no longer than 32 octets for each of its nodes.
use Rattle.std.proofs.Common.{◌≡◌, refl, sym, ap, ◌∙◌, ℕ, suc, ◌+◌, ◌*◌, ◌≤◌, inl, inr, Bool, true, false, List, [], ◌∷◌, ◌++◌, map, Option, Some, None, arith}
use Rattle.std.specs.Prelude.{◌||◌, slice_get, is_some, sum, if◌then◌else◌}
use Rattle.std.specs.List.{list_any}
use Rattle.std.proofs.lemmas.Bool.{false≢true, or_cases, or_left, or_right, eq-eqb}
use Rattle.edd_syntax.specs.declared.numbers.NumberOption.TheVariants as number_option
use Rattle.edd_syntax.specs.declared.numbers.FormatOption.TheVariants as format_option
use Rattle.edd_syntax.specs.declared.numbers.Attr.{Attr}
use Rattle.edd_syntax.specs.declared.numbers.Attr.TheVariants as attr
use Rattle.edd_syntax.specs.declared.numbers.TextAttribute.{TextAttribute}
use Rattle.edd_syntax.specs.declared.numbers.TextAttribute.TheVariants as text
use Rattle.edd_syntax.specs.declared.reference.Target.{Target}
use Rattle.edd_syntax.specs.Attributes.{is_of_transaction}
use Rattle.edd_syntax.specs.Execution.{body_in}
use Rattle.edd_syntax.specs.Item as item
use Rattle.edd_syntax.specs.Item.{TypePart, TransactionPart, Attribute, Item}
use Rattle.edd_syntax.specs.Numbers.{attr_number, same_attr, text_attr, number_attr, format_attr}
use Rattle.edd_syntax.specs.Rows.{part_attr, stands_for, is_written, transaction_positions, positions, attributes_in_order}
use Rattle.edd_syntax.specs.Size.{type_part_nodes, transaction_part_nodes, attribute_nodes, item_nodes}
use Rattle.edd_attrs.specs.Trees as trees
use Rattle.edd_attrs.specs.Trees.{Tree, Named, trees_of_parts, trees_of_attribute, trees_of, tree_of_transaction_part, transaction_trees, first_tree, tree_in}
use Rattle.edd_attrs.specs.Sizes.{element_nodes, tree_nodes, length_limit}
use Rattle.edd_syntax.proofs.KnownByNumber.{same_attrs}
use Rattle.edd_assembly.proofs.Totals.{total, sum_is_total, total-append, total_le, total_plus}
use Rattle.edd_assembly.proofs.FirstCosts.{cost_of, weight_of, weight, first_cost, first_costs}

-- ---- a written attribute has a tree

behind : (b c e d : Bool) → (b || c) ≡ true → (c ≡ true → (e || d) ≡ true) → (e || (b || d)) ≡ true
behind true c e d h rest = or_right e true refl
behind false c e d h rest = rest h

parts_named : (a : Attr) (parts : List (TypePart Target))
    → list_any (same_attr a) (map part_attr parts) ≡ true
    → (same_attr a attr.Enumerators
    || list_any (same_attr a) (map (λ x. x.0) (trees_of_parts parts))) ≡ true
parts_named a [] h = absurd (false≢true h)
parts_named a (item.OneNumber which c ∷ ps) h = behind (same_attr a (number_attr which))
    (list_any (same_attr a) (map part_attr ps)) (same_attr a attr.Enumerators)
    (list_any (same_attr a) (map (λ x. x.0) (trees_of_parts ps))) h (parts_named a ps)
parts_named a (item.OneFormat which c ∷ ps) h = behind (same_attr a (format_attr which))
    (list_any (same_attr a) (map part_attr ps)) (same_attr a attr.Enumerators)
    (list_any (same_attr a) (map (λ x. x.0) (trees_of_parts ps))) h (parts_named a ps)
parts_named a (item.Element c ∷ ps) h =
    elim (or_cases (same_attr a attr.Enumerators) (list_any (same_attr a) (map part_attr ps)) h) [
      | inl e ↦ or_left (same_attr a attr.Enumerators)
          (list_any (same_attr a) (map (λ x. x.0) (trees_of_parts ps))) e
      | inr e ↦ parts_named a ps e
    ]

written_named : (a : Attr) (w : Attribute Target) → same_attr a attr.Definition ≡ false
    → stands_for a w ≡ true → list_any (same_attr a) (map (λ x. x.0) (trees_of_attribute w)) ≡ true
unfolding stands_for
written_named a (item.TypeOf word parts) plain h = parts_named a parts h
written_named a (item.Definition body) plain h =
    elim (or_cases (same_attr a attr.Definition) false h)
    [ inl e ↦ absurd (false≢true (sym plain ∙ e)) | inr e ↦ absurd (false≢true e) ]
written_named a _ plain h = h

found_first : (a : Attr) (xs ys : List Named) → list_any (same_attr a) (map (λ x. x.0) xs) ≡ true
    → is_some (first_tree a (xs ++ ys)) ≡ true
found_first a [] ys h = absurd (false≢true h)
found_first a (x ∷ xs) ys h = here (same_attr x.0 a) refl (found_first a xs ys)
  where
    here : (b : Bool) → same_attr x.0 a ≡ b → (list_any (same_attr a) (map (λ y. y.0) xs) ≡ true
        → is_some (first_tree a (xs ++ ys)) ≡ true)
        → is_some (elim b as (λ _. Option Tree) [
          | true ↦ Some x.1
          | false ↦ first_tree a (xs ++ ys)
        ]) ≡ true
    here true is rest = refl
    here false is rest = elim
        (or_cases (same_attr a x.0) (list_any (same_attr a) (map (λ y. y.0) xs)) h) [
          | inl e ↦ absurd (false≢true (sym is ∙ ap (λ b. same_attr x.0 b) (same_attrs a x.0 e)
              ∙ eq-eqb (attr_number x.0) (attr_number x.0) refl))
          | inr e ↦ rest e
        ]

found_later : (a : Attr) (xs ys : List Named) → is_some (first_tree a ys) ≡ true
    → is_some (first_tree a (xs ++ ys)) ≡ true
found_later a [] ys h = h
found_later a (x ∷ xs) ys h = here (same_attr x.0 a) (found_later a xs ys h)
  where
    here : (b : Bool) → is_some (first_tree a (xs ++ ys)) ≡ true
        → is_some (elim b as (λ _. Option Tree) [
          | true ↦ Some x.1
          | false ↦ first_tree a (xs ++ ys)
        ]) ≡ true
    here true rest = refl
    here false rest = rest

has_tree : (a : Attr) (ws : List (Attribute Target)) → same_attr a attr.Definition ≡ false
    → is_written a ws ≡ true → is_some (first_tree a (trees_of ws)) ≡ true
has_tree a [] plain h = absurd (false≢true h)
has_tree a (w ∷ ws) plain h = elim (or_cases (stands_for a w) (is_written a ws) h) [
  | inl e ↦ found_first a (trees_of_attribute w) (trees_of ws) (written_named a w plain e)
  | inr e ↦ found_later a (trees_of_attribute w) (trees_of ws) (has_tree a ws plain e)
]

-- ---- bodies

abbrev body_weight : Attribute Target → ℕ
body_weight (item.Definition body) = 32 * attribute_nodes (item.Definition body)
body_weight _ = 0

no_body_part : (parts : List (TypePart Target))
    → list_any (same_attr attr.Definition) (map part_attr parts) ≡ false
no_body_part [] = refl
no_body_part (item.OneNumber number_option.DefaultValue c ∷ ps) = no_body_part ps
no_body_part (item.OneFormat format_option.DisplayFormat c ∷ ps) = no_body_part ps
no_body_part (_ ∷ ps) = no_body_part ps

no_body_text : (which : TextAttribute) → (same_attr attr.Definition (text_attr which) || false)
    ≡ false
no_body_text text.Label = refl
no_body_text _ = refl

body_first : (ws : List (Attribute Target)) → is_written attr.Definition ws ≡ true
    → 32 * attribute_nodes (item.Definition (body_in ws)) ≤ total body_weight ws
unfolding stands_for
body_first [] h = absurd (false≢true h)
body_first (item.Definition body ∷ rest) h = omega arith
body_first (item.TypeOf word parts ∷ rest) h =
    let k : 32 * attribute_nodes (item.Definition (body_in rest)) ≤ total body_weight rest =
    body_first rest (ap (λ b. b || is_written attr.Definition rest) (sym (no_body_part parts))
    ∙ h) in
    omega (arith, k)
body_first (item.OneText which c ∷ rest) h =
    let k : 32 * attribute_nodes (item.Definition (body_in rest)) ≤ total body_weight rest =
    body_first rest (ap (λ b. b || is_written attr.Definition rest) (sym (no_body_text which))
    ∙ h) in
    omega (arith, k)
body_first (w ∷ rest) h =
    let k : 32 * attribute_nodes (item.Definition (body_in rest)) ≤ total body_weight rest =
    body_first rest h in
    omega (arith, k)

-- ---- the code of an attribute, where it has rows

abbrev pub limit_in : List (Attribute Target) → Attr → (sub : ℕ) → ℕ
limit_in ws a sub = if same_attr a attr.Definition then 32 * attribute_nodes
    (item.Definition (body_in ws)) else length_limit (tree_in ws a sub)

abbrev pub rows_limit : List (Attribute Target) → Attr → ℕ
rows_limit ws a = total (limit_in ws a) (positions a ws)

abbrev in_transaction : Attr → List Named → ℕ
in_transaction a trees = length_limit (first_tree a trees)

abbrev transaction_cost : List (Attribute Target) → Attr → ℕ
transaction_cost ws a = if is_of_transaction a then total (in_transaction a) (transaction_trees ws)
    else 0

abbrev body_cost : List (Attribute Target) → Attr → ℕ
body_cost ws a = if same_attr a attr.Definition then total body_weight ws else 0

module _ (a : Attr) where
  abbrev limit_at : List (List Named) → ℕ → ℕ
  limit_at trees sub = length_limit
      (elim (slice_get trees sub) as (λ _. Option Tree) [
        | Some found ↦ first_tree a found
        | None ↦ None
      ])

  -- the transactions one after the other
  over_transactions : (all : List (List Named)) (next : ℕ) (ws : List (Attribute Target))
      → ((m : ℕ) → slice_get all (next + m) ≡ slice_get (transaction_trees ws) m)
      → total (limit_at all) (transaction_positions next ws)
      ≡ total (in_transaction a) (transaction_trees ws)
  over_transactions all next [] at = refl
  over_transactions all next (item.Transaction number parts ∷ rest) at =
      let this = (attr.Transaction, trees.Transaction number) ∷ map tree_of_transaction_part
      parts in
      let first : limit_at all next ≡ in_transaction a this =
      ap (λ o. length_limit (elim o as (λ _. Option Tree) [
        | Some found ↦ first_tree a found
        | None ↦ None
      ]))
      (ap (slice_get all) (omega arith) ∙ at 0) in
      let later = over_transactions all (suc next) rest (λ m. ap (slice_get all) (omega arith)
      ∙ at (suc m)) in
      omega (arith, first, later)
  over_transactions all next (w ∷ rest) at = over_transactions all next rest at

one_limit : (o : Option Tree) → is_some o ≡ true → length_limit o + 0 ≤ cost_of o
one_limit None h = absurd (false≢true h)
one_limit (Some t) h = omega arith

attribute_limit : (ws : List (Attribute Target)) (a : Attr)
    → rows_limit ws a ≤ first_cost (trees_of ws) a + (transaction_cost ws a + body_cost ws a)
attribute_limit ws a = pick (is_of_transaction a) (same_attr a attr.Definition) (is_written a ws)
    refl refl refl
  where
    pick : (t s u : Bool) → is_of_transaction a ≡ t → same_attr a attr.Definition ≡ s
        → is_written a ws ≡ u
        → total (λ sub. if s then 32 * attribute_nodes (item.Definition (body_in ws)) else
        length_limit (
        if t then elim (slice_get (transaction_trees ws) sub) as (λ _. Option Tree)
        [ Some found ↦ first_tree a found | None ↦ None ] else first_tree a (trees_of ws)))
        (if t then transaction_positions 0 ws else (if u then 0 ∷ [] else []))
        ≤ first_cost (trees_of ws) a
        + ((if t then total (in_transaction a) (transaction_trees ws) else 0)
        + (if s then total body_weight ws else 0))
    pick true true u of is written =
        absurd (false≢true (sym (ap is_of_transaction (same_attrs a attr.Definition is)) ∙ of))
    pick true false u of is written =
        omega (
          arith,
          over_transactions a (transaction_trees ws) 0 ws
              (λ m. ap (slice_get (transaction_trees ws)) (omega arith)),
        )
    pick false true true of is written =
        omega (
          arith,
          body_first ws
              (ap (λ b. is_written b ws) (sym (same_attrs a attr.Definition is)) ∙ written),
        )
    pick false true false of is written = omega arith
    pick false false true of is written =
        omega (arith, one_limit (first_tree a (trees_of ws)) (has_tree a ws is written))
    pick false false false of is written = omega arith

-- ---- what all trees, transactions and bodies of an item weigh

parts_weigh : (parts : List (TypePart Target)) → weight (trees_of_parts parts)
    + 32 * sum (map element_nodes parts) ≤ 32 * sum (map type_part_nodes parts)
unfolding length_limit tree_nodes
parts_weigh parts =
    let elements = sum_is_total element_nodes parts in
    let all = sum_is_total type_part_nodes parts in
    omega (arith, elements, all, each_part parts)
  where
    each_part : (ps : List (TypePart Target)) → weight (trees_of_parts ps)
        + 32 * total element_nodes ps ≤ 32 * total type_part_nodes ps
    each_part [] = omega arith
    each_part (item.OneNumber number_option.DefaultValue c ∷ ps) = omega (arith, each_part ps)
    each_part (item.OneNumber number_option.MinValue c ∷ ps) = omega (arith, each_part ps)
    each_part (item.OneNumber number_option.MaxValue c ∷ ps) = omega (arith, each_part ps)
    each_part (item.OneFormat format_option.DisplayFormat c ∷ ps) = omega (arith, each_part ps)
    each_part (item.OneFormat format_option.EditFormat c ∷ ps) = omega (arith, each_part ps)
    each_part (item.Element c ∷ ps) = omega (arith, each_part ps)

transaction_weighs : (parts : List (TransactionPart Target))
    → in_transaction attr.Request (map tree_of_transaction_part parts)
    + in_transaction attr.Reply (map tree_of_transaction_part parts) ≤ 2
    + 32 * total transaction_part_nodes parts
unfolding length_limit tree_nodes
transaction_weighs [] = omega arith
transaction_weighs (item.Request all ∷ ps) = omega (arith, transaction_weighs ps)
transaction_weighs (item.Reply all ∷ ps) = omega (arith, transaction_weighs ps)

abbrev of_transactions : List (Attribute Target) → ℕ
of_transactions ws =
    total (in_transaction attr.Transaction) (transaction_trees ws)
    + (total (in_transaction attr.Request) (transaction_trees ws)
    + total (in_transaction attr.Reply) (transaction_trees ws))

all_weigh : (ws : List (Attribute Target))
    → weight (trees_of ws) + (of_transactions ws + total body_weight ws)
    ≤ 32 * total attribute_nodes ws
unfolding length_limit tree_nodes
all_weigh [] = omega arith
all_weigh (item.TypeOf word parts ∷ rest) =
    omega (
      arith,
      all_weigh rest,
      total-append weight_of (trees_of_parts parts) (trees_of rest),
      parts_weigh parts,
    )
all_weigh (item.Transaction number parts ∷ rest) =
    omega (
      arith,
      all_weigh rest,
      transaction_weighs parts,
      sum_is_total transaction_part_nodes
          parts,
    )
all_weigh (_ ∷ rest) = omega (arith, all_weigh rest)

pub item_limit : (i : Item Target) → total (rows_limit i.attributes) attributes_in_order
    ≤ 32 * item_nodes i
item_limit i =
    let ws = i.attributes in
    let each : total (rows_limit ws) attributes_in_order
    ≤ total (λ a. first_cost (trees_of ws) a + (transaction_cost ws a + body_cost ws a))
    attributes_in_order =
    total_le (rows_limit ws) (λ a. first_cost (trees_of ws) a
    + (transaction_cost ws a + body_cost ws a)) (attribute_limit ws) attributes_in_order in
    let split = total_plus (first_cost (trees_of ws)) (λ a. transaction_cost ws a + body_cost ws a)
    attributes_in_order in
    let others : total (λ a. transaction_cost ws a + body_cost ws a) attributes_in_order
    ≡ of_transactions ws + total body_weight ws = omega arith in
    omega (
      arith,
      each,
      split,
      others,
      first_costs (trees_of ws),
      all_weigh ws,
      sum_is_total attribute_nodes ws,
    )
