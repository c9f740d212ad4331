-- What the trees of a resolved description keep of those of its unit: texts and numbers of tokens,
-- items that exist, variables that are read, and the limit on heights.
use Rattle.std.proofs.Common.{◌≡◌, refl, ap, ◌∙◌, ℕ, Bool, true, false, List, [], ◌∷◌, map, Option, Some, None}
use Rattle.std.specs.Prelude.{◌&&◌, nat_lt, if◌then◌else◌}
use Rattle.std.specs.List.{list_all}
use Rattle.edd_syntax.specs.declared.numbers.Kind.{Kind}
use Rattle.edd_syntax.specs.declared.numbers.Kind.TheVariants as kind
use Rattle.edd_syntax.specs.declared.numbers.ItemNo.{ItemNo}
use Rattle.edd_syntax.specs.declared.numbers.ItemNo.TheVariants as item_no
use Rattle.edd_syntax.specs.Names.{is_name}
use Rattle.edd_syntax.specs.Numbers.{same_kind, has_attr}
use Rattle.edd_syntax.specs.declared.numbers.Attr.TheVariants as attr
use Rattle.edd_syntax.specs.Reference.{Path}
use Rattle.edd_syntax.specs.declared.reference.Target.{Target}
use Rattle.edd_syntax.specs.declared.reference.Target.TheVariants as target
use Rattle.edd_syntax.specs.Expression.{Expr}
use Rattle.edd_syntax.specs.Conditional.{Cond, Conds}
use Rattle.edd_syntax.specs.Size.{leaf, height, cond_height, conds_height, type_part_height, transaction_part_height, attribute_height}
use Rattle.edd_syntax.specs.Item as item
use Rattle.edd_syntax.specs.Item.{ItemKind, CollectionItem, ArrayItem, kind_of_item, DataItem, MenuEntry, TypePart, TransactionPart, Attribute, Item, Description}
use Rattle.edd_syntax.specs.Targets.{item_of, variable_of}
use Rattle.edd_syntax.specs.Resolution.{count_of, variable_kinds, entry_kinds, array_kinds, member_kinds, is_among}
use Rattle.edd_syntax.specs.WellFormed.{is_pure_expr, is_text, if_some, is_path, is_plain, is_cond, are_conds, is_single, is_type_part, is_type, is_attribute, is_enumerator, is_entry, is_data_item, is_response_code, is_member, is_array_element, may_list, is_transaction_part, belongs_to, stands_in, is_item}
use Rattle.edd_syntax.specs.ResolvedTrees.{Meanings, each, unchanged, resolved_expr, resolved_cond, resolved_conds, resolved_body, item_among, at_attribute, resolved_entry, resolved_data, resolved_member, resolved_element, resolved_type_part, resolved_transaction_part, resolved_attribute, resolved_item, meant_in}
use Rattle.edd_instructions.specs.Agreement.{mask_number}
use Rattle.edd_attrs.specs.Trees.{trees_of_part, trees_of_parts, tree_of_transaction_part}
use Rattle.edd_attrs.specs.Records.{is_label, is_listed}
use Rattle.edd_syntax.proofs.Made.{bind_some}
use Rattle.edd_syntax.proofs.Existing.{is_item_of, item_meant_exists, meant_exists}
use Rattle.edd_attrs.proofs.KeptConditions.{expr_pure, expr_height, cond_tested, conds_tested, same_height, same_heights, stays_single}
use Rattle.edd_attrs.proofs.InTrees.{all_append, named, throughout, throughout_item}
use Rattle.edd_code.proofs.BothTests.{both_of, both_true}
use Rattle.edd_attrs.proofs.GoodParts.{along_some, each_all, all_good, all_both, is_low, all_low, is_small, good_enumerator, good_response, any_value, good_cond, good_conds, good_data, good_entry, good_member, good_array_element, good_expression, good_element, is_good}

-- ---- of a unit

same_value : {V : Type 0} (p : V → Bool) (v w : V) → p v ≡ true → unchanged v ≡ Some w → p w ≡ true
same_value p v w h e = along_some p e h

kind_variable : (i : ItemNo) → is_among variable_kinds i ≡ true
    → item_no.Variable (variable_of (target.Item i)) ≡ i
kind_variable (item_no.Variable v) h = refl
kind_variable _ h = absurd cc

entry_listed : (i : ItemNo) → is_among entry_kinds i ≡ true → is_listed i ≡ true
entry_listed (item_no.Array n) h = absurd cc
entry_listed _ h = refl

-- no member is an array
collected_listed : (of : Kind) → may_list (CollectionItem of) ≡ true → (i : ItemNo)
    → is_among (of ∷ []) i ≡ true → is_listed i ≡ true
collected_listed of may (item_no.Variable v) h = refl
collected_listed of may (item_no.Command n) h = refl
collected_listed of may (item_no.Menu n) h = refl
collected_listed of may (item_no.Collection n) h = refl
collected_listed of may (item_no.Method n) h = refl
collected_listed kind.Variable may (item_no.Array n) h = absurd cc
collected_listed _ may (item_no.Array n) h = absurd cc

-- an array is one of the arrays that there are
abbrev pub has_arrays : (Kind → ℕ) → ItemKind → Bool
has_arrays count sort = if same_kind (kind_of_item sort) kind.Array then nat_lt 0 (count kind.Array)
    else true

counted : (count : Kind → ℕ) (sort : ItemKind)
    → has_attr (kind_of_item sort) attr.Elements ≡ true → has_arrays count sort ≡ true
    → nat_lt 0 (count kind.Array) ≡ true
counted count ArrayItem belongs some = some
counted count _ belongs some = absurd cc

members_listed : (sort : ItemKind) → may_list sort ≡ true → (i : ItemNo)
    → is_among (member_kinds sort) i ≡ true → is_listed i ≡ true
members_listed (CollectionItem of) may i h = collected_listed of may i h
members_listed _ may i h = absurd cc

mask_small : (mask : Option ℕ) → if_some is_small mask ≡ true → is_small (mask_number mask) ≡ true
mask_small None h = refl
mask_small (Some m) h = h

enumerator_good : (e : item.Enumerator) → is_enumerator is_path is_plain e ≡ true
    → good_enumerator e ≡ true
enumerator_good e h =
    let helped = both_of _ (if_some is_text e.help) h in
    let told = both_of (is_label e.value) (is_text e.text) helped.0 in
    both_true told.0 (both_true told.1 helped.1)

-- what may be read is an item of the unit
module _ (unit : Description Path) (reads : Target → Bool)
    (readable : (i : ItemNo) → is_item_of (λ k. count_of k unit.items) i ≡ true
    → reads (target.Item i) ≡ true) where
  abbrev count : Kind → ℕ
  count k = count_of k unit.items

  abbrev at : Meanings
  at = at_attribute (meant_in unit)

  kept : (p : Path) (t : Target) → at.reference p ≡ Some t → reads t ≡ true
  kept p t e = let i = meant_exists unit variable_kinds p t e in ap reads i.1 ∙ readable i.0 i.2

  kept_array : (p : Path) (t : Target) → at.array p ≡ Some t → reads t ≡ true
  kept_array p t e = let i = item_meant_exists unit array_kinds p t e in ap reads i.1
      ∙ readable i.0 i.2

  -- conditionals whose values keep a test and their height
  module _ {V W : Type 0} (of : V → Option W) (p : V → Bool) (q : W → Bool) (f : V → ℕ) (g : W → ℕ)
      (keeps : (v : V) (w : W) → p v ≡ true → of v ≡ Some w → q w ≡ true)
      (same : (v : V) (w : W) → p v ≡ true → of v ≡ Some w → g w ≡ f v) where
    cond_good : (c : Cond Path V) (d : Cond Target W) → is_cond is_path is_plain p c ≡ true
        → is_low (cond_height f c) ≡ true → resolved_cond at of c ≡ Some d → good_cond reads q g d
        ≡ true
    cond_good c d h l e = both_true (cond_tested at reads kept kept_array of p q keeps c d h e)
        (ap is_low (same_height at reads kept kept_array of p q keeps f g same c d h e) ∙ l)

    conds_good : (c : Conds Path V) (d : Conds Target W) → are_conds is_path is_plain p c ≡ true
        → is_low (conds_height f c) ≡ true → resolved_conds at of c ≡ Some d
        → good_conds reads q g d ≡ true
    conds_good c d h l e = both_true (conds_tested at reads kept kept_array of p q keeps c d h e)
        (ap is_low (same_heights at reads kept kept_array of p q keeps f g same c d h e) ∙ l)

  one_good : {V : Type 0} (p : V → Bool) (c : Cond Path V) {d : Cond Target V}
      → (is_cond is_path is_plain p c && is_single is_path is_plain c) ≡ true
      → is_low (cond_height leaf c) ≡ true → resolved_cond at unchanged c ≡ Some d
      → good_cond reads p leaf d ≡ true
  one_good p c {d} h l e = cond_good unchanged p p leaf leaf (same_value p) (λ v w k m. refl) c d
      (both_of (is_cond is_path is_plain p c) (is_single is_path is_plain c) h).0 l e

  expressions_good : (c : Cond Path (Expr Path)) (d : Cond Target (Expr Target))
      → (is_cond is_path is_plain (is_pure_expr is_path is_plain) c && is_single is_path is_plain c)
      ≡ true
      → is_low (cond_height height c) ≡ true → resolved_cond at (resolved_expr at) c ≡ Some d
      → (good_cond reads (good_expression count reads) height d && is_single reads reads d)
      ≡ true
  expressions_good c d h l e =
      let parts = both_of (is_cond is_path is_plain (is_pure_expr is_path is_plain) c)
      (is_single is_path is_plain c) h in
      both_true (cond_good (resolved_expr at) (is_pure_expr is_path is_plain)
      (good_expression count reads) height height (expr_pure at reads kept kept_array)
      (expr_height at reads kept kept_array) c d parts.0 l e)
      (stays_single at reads (resolved_expr at) c d parts.1 e)

  entry_good : (e : MenuEntry Path) (f : MenuEntry Target) → is_entry is_path is_plain e ≡ true
      → resolved_entry (meant_in unit) e ≡ Some f → good_entry count reads f ≡ true
  entry_good (item.Text text) f h e = along_some (good_entry count reads) e h
  entry_good (item.Reference to qualifiers) f h e =
      let x = bind_some (item_among (meant_in unit) entry_kinds to)
      (λ to'. Some (item.Reference to' qualifiers)) f e in
      let i = meant_exists unit entry_kinds to x.0 x.1 in
      along_some (good_entry count reads) x.2 (both_true (ap (λ t. is_listed (item_of t)) i.1
      ∙ entry_listed i.0 i.3) (ap (λ t. is_item_of count (item_of t)) i.1 ∙ i.2))

  data_good : (d : DataItem Path) (f : DataItem Target) → is_data_item is_path is_plain d ≡ true
      → resolved_data (meant_in unit) d ≡ Some f → good_data count reads f ≡ true
  data_good (item.Constant n) f h e = along_some (good_data count reads) e refl
  data_good (item.Variable variable mask qualifiers) f h e =
      let x = bind_some (item_among (meant_in unit) variable_kinds variable)
      (λ variable'. Some (item.Variable variable' mask qualifiers))
      f e in
      let i = meant_exists unit variable_kinds variable x.0 x.1 in
      along_some (good_data count reads) x.2 (both_true (ap (λ t. is_item_of count
      (item_no.Variable (variable_of t))) i.1 ∙ ap (is_item_of count) (kind_variable i.0 i.3)
      ∙ i.2) (mask_small mask (both_of (is_path variable) (if_some is_small mask) h).1))

  member_good : (kinds : List Kind) → ((i : ItemNo) → is_among kinds i ≡ true → is_listed i ≡ true)
      → (m : item.Member Path) (f : item.Member Target)
      → is_member is_path is_plain m ≡ true → resolved_member (meant_in unit) kinds m ≡ Some f
      → good_member count reads f ≡ true
  member_good kinds listed m f h e =
      let x = bind_some (item_among (meant_in unit) kinds m.item)
      (λ item'. Some (record { name = m.name; item = item'; label = m.label; help = m.help })) f
      e in
      let i = meant_exists unit kinds m.item x.0 x.1 in
      let helped = both_of _ (if_some is_text m.help) h in
      let labelled = both_of _ (if_some is_text m.label) helped.0 in
      along_some (good_member count reads) x.2
      (both_true (both_true (ap (λ t. is_listed (item_of t)) i.1 ∙ listed i.0 i.3)
      (ap (λ t. is_item_of count (item_of t)) i.1 ∙ i.2)) (both_true labelled.1 helped.1))

  array_element_good : nat_lt 0 (count kind.Array) ≡ true
      → (e : item.ArrayElement Path) (f : item.ArrayElement Target)
      → is_array_element is_path is_plain e ≡ true → resolved_element (meant_in unit) e ≡ Some f
      → good_array_element count reads f ≡ true
  array_element_good some e f h r =
      let x = bind_some (item_among (meant_in unit) variable_kinds e.variable)
      (λ variable'. Some (record {
        number = e.number;
        variable = variable';
        label = e.label;
        help = e.help;
      })) f r in
      let i = meant_exists unit variable_kinds e.variable x.0 x.1 in
      let helped = both_of _ (if_some is_text e.help) h in
      let labelled = both_of _ (if_some is_text e.label) helped.0 in
      let numbered = both_of (is_small e.number) (is_plain e.variable) labelled.0 in
      along_some (good_array_element count reads) x.2 (both_true (both_true
      (both_true numbered.0 (ap (λ t. is_item_of count (item_no.Variable (variable_of t))) i.1
      ∙ ap (is_item_of count) (kind_variable i.0 i.3) ∙ i.2)) some) (both_true labelled.1 helped.1))

  abbrev good_part : TypePart Target → Bool
  good_part q = list_all (named (is_good count reads)) (trees_of_part q)
      && good_element count reads q

  -- an option, whose tree is good
  option_good : {b : Bool} → b ≡ true → ((b && true) && true) ≡ true
  option_good h = rw h refl

  part_good : (p : TypePart Path) (q : TypePart Target)
      → (is_type_part is_path is_plain p && is_low (type_part_height p)) ≡ true
      → resolved_type_part (meant_in unit) p ≡ Some q → good_part q ≡ true
  part_good (item.OneNumber which c) q h e =
      let parts = both_of _ (is_low (cond_height height c)) h in
      let x = bind_some (resolved_cond at (resolved_expr at) c) (λ c'. Some (item.OneNumber which c'))
      q e in
      along_some good_part x.2 (option_good (expressions_good c x.0 parts.0 parts.1 x.1))
  part_good (item.OneFormat which c) q h e =
      let parts = both_of _ (is_low (cond_height leaf c)) h in
      let x = bind_some (resolved_cond at unchanged c) (λ c'. Some (item.OneFormat which c')) q e in
      along_some good_part x.2 (option_good (one_good is_text c parts.0 parts.1 x.1))
  part_good (item.Element c) q h e =
      let parts = both_of (is_cond is_path is_plain (is_enumerator is_path is_plain) c)
      (is_low (cond_height leaf c)) h in
      let x = bind_some (resolved_cond at unchanged c) (λ c'. Some (item.Element c')) q e in
      along_some good_part x.2 (cond_good unchanged (is_enumerator is_path is_plain) good_enumerator
      leaf leaf (λ v w k f. along_some good_enumerator f (enumerator_good v k)) (λ v w k f. refl) c
      x.0 parts.0 parts.1 x.1)

  parts_good : (parts : List (TypePart Target)) → list_all good_part parts ≡ true
      → (list_all (good_element count reads) parts && list_all (named (is_good count reads))
      (trees_of_parts parts)) ≡ true
  parts_good [] h = refl
  parts_good (q ∷ rest) h =
      let parts = both_of (good_part q) (list_all good_part rest) h in
      let here = both_of (list_all (named (is_good count reads)) (trees_of_part q))
      (good_element count reads q) parts.0 in
      let others = both_of (list_all (good_element count reads) rest)
      (list_all (named (is_good count reads)) (trees_of_parts rest)) (parts_good rest parts.1)
      in
      both_true (both_true here.1 others.0)
      (all_append (named (is_good count reads)) (trees_of_part q) (trees_of_parts rest) here.0
      others.1)

  type_parts : (word : item.TypeWord) (parts : List (TypePart Path))
      → is_type is_path is_plain word parts ≡ true → list_all (is_type_part is_path is_plain) parts
      ≡ true
  type_parts (item.Known type size) parts h =
      (both_of _ (list_all (is_type_part is_path is_plain) parts) h).1
  type_parts (item.Other word) [] h = refl
  type_parts (item.Other word) (p ∷ parts) h = absurd (cc ((both_of _ false h).1))

  abbrev good_transaction_part : TransactionPart Target → Bool
  good_transaction_part q = named (is_good count reads) (tree_of_transaction_part q)

  transaction_part_good : (p : TransactionPart Path) (q : TransactionPart Target)
      → (is_transaction_part is_path is_plain p && is_low (transaction_part_height p)) ≡ true
      → resolved_transaction_part (meant_in unit) p ≡ Some q → good_transaction_part q ≡ true
  transaction_part_good (item.Request all) q h e =
      let parts = both_of _ (is_low (conds_height leaf all)) h in
      let x = bind_some (resolved_conds at (resolved_data (meant_in unit)) all)
      (λ all'. Some (item.Request all')) q e in
      along_some good_transaction_part x.2
      (conds_good (resolved_data (meant_in unit)) (is_data_item is_path is_plain)
      (good_data count reads) leaf leaf data_good (λ v w k f. refl) all x.0 parts.0 parts.1 x.1)
  transaction_part_good (item.Reply all) q h e =
      let parts = both_of _ (is_low (conds_height leaf all)) h in
      let x = bind_some (resolved_conds at (resolved_data (meant_in unit)) all)
      (λ all'. Some (item.Reply all')) q e in
      along_some good_transaction_part x.2
      (conds_good (resolved_data (meant_in unit)) (is_data_item is_path is_plain)
      (good_data count reads) leaf leaf data_good (λ v w k f. refl) all x.0 parts.0 parts.1 x.1)

  all_mapped : (parts : List (TransactionPart Target)) → list_all good_transaction_part parts ≡ true
      → list_all (named (is_good count reads)) (map tree_of_transaction_part parts) ≡ true
  all_mapped [] h = refl
  all_mapped (q ∷ rest) h = let parts = both_of (good_transaction_part q)
      (list_all good_transaction_part rest) h in both_true parts.0 (all_mapped rest parts.1)

  response_good : (r : item.ResponseCode) → is_response_code is_path is_plain r ≡ true
      → good_response r ≡ true
  response_good r h = h

  abbrev good_attribute : Attribute Target → Bool
  good_attribute b = throughout (is_good count reads) b

  -- one tree, and none inside
  alone : {b : Bool} → b ≡ true → ((b && true) && true) ≡ true
  alone h = rw h refl

  attribute_good : (sort : ItemKind) → may_list sort ≡ true → has_arrays count sort ≡ true
      → (a : Attribute Path) (b : Attribute Target) → belongs_to (kind_of_item sort) a ≡ true
      → is_attribute is_path is_plain a ≡ true → is_low (attribute_height a) ≡ true
      → resolved_attribute (meant_in unit) sort a ≡ Some b → good_attribute b ≡ true
  attribute_good sort may some (item.OneText which c) b belongs h l e = let x =
      bind_some (resolved_cond at unchanged c) (λ c'. Some (item.OneText which c')) b e in
      along_some good_attribute x.2 (alone (one_good is_text c h l x.1))
  attribute_good sort may some (item.Class words) b belongs h l e =
      along_some good_attribute e refl
  attribute_good sort may some (item.Handling c) b belongs h l e =
      let x = bind_some (resolved_cond at unchanged c) (λ c'. Some (item.Handling c')) b e in
      along_some good_attribute x.2 (alone (one_good any_value c h l x.1))
  attribute_good sort may some (item.Validity c) b belongs h l e =
      let x = bind_some (resolved_cond at unchanged c) (λ c'. Some (item.Validity c')) b e in
      along_some good_attribute x.2 (alone (one_good any_value c h l x.1))
  attribute_good sort may some (item.TypeOf word parts) b belongs h l e =
      let x = bind_some (each (resolved_type_part (meant_in unit)) parts)
      (λ parts'. Some (item.TypeOf word parts')) b e in
      let both = parts_good x.0 (each_all (resolved_type_part (meant_in unit))
      (λ p. is_type_part is_path is_plain p && is_low (type_part_height p)) good_part part_good
      parts (all_both (is_type_part is_path is_plain) (λ p. is_low (type_part_height p)) parts
      (type_parts word parts h) (all_low type_part_height parts l)) x.1) in
      along_some good_attribute x.2 (both_true both refl)
  attribute_good sort may some (item.Number n) b belongs h l e =
      along_some good_attribute e (alone h)
  attribute_good sort may some (item.Operation o) b belongs h l e =
      along_some good_attribute e refl
  attribute_good sort may some (item.Transaction number parts) b belongs h l e =
      let x = bind_some (each (resolved_transaction_part (meant_in unit)) parts)
      (λ parts'. Some (item.Transaction number parts')) b e in
      let told = both_of (if_some is_small number)
      (list_all (is_transaction_part is_path is_plain) parts) h in
      along_some good_attribute x.2 (both_true refl (both_true told.0 (all_mapped x.0 (each_all
      (resolved_transaction_part (meant_in unit)) (λ p. is_transaction_part is_path is_plain p &&
      is_low (transaction_part_height p)) good_transaction_part transaction_part_good parts
      (all_both (is_transaction_part is_path is_plain) (λ p. is_low (transaction_part_height p))
      parts told.1 (all_low transaction_part_height parts l)) x.1))))
  attribute_good sort may some (item.ResponseCodes responses) b belongs h l e =
      along_some good_attribute e
      (alone (all_good (is_response_code is_path is_plain) good_response response_good responses h))
  attribute_good sort may some (item.Items entries) b belongs h l e =
      let x = bind_some (resolved_conds at (resolved_entry (meant_in unit)) entries)
      (λ entries'. Some (item.Items entries')) b e in
      along_some good_attribute x.2
      (alone (conds_good (resolved_entry (meant_in unit)) (is_entry is_path is_plain)
      (good_entry count reads) leaf leaf entry_good (λ v w k f. refl) entries x.0 h l x.1))
  attribute_good sort may some (item.Members members) b belongs h l e =
      let x = bind_some (each (resolved_member (meant_in unit) (member_kinds sort)) members)
      (λ members'. Some (item.Members members')) b e in
      along_some good_attribute x.2 (alone (each_all (resolved_member (meant_in unit)
      (member_kinds sort)) (is_member is_path is_plain) (good_member count reads)
      (member_good (member_kinds sort) (members_listed sort may)) members h x.1))
  attribute_good sort may some (item.Elements elements) b belongs h l e =
      let x = bind_some (each (resolved_element (meant_in unit)) elements)
      (λ elements'. Some (item.Elements elements')) b e in
      along_some good_attribute x.2 (alone (each_all (resolved_element (meant_in unit))
      (is_array_element is_path is_plain) (good_array_element count reads)
      (array_element_good (counted count sort belongs some)) elements h x.1))
  attribute_good sort may some (item.Definition body) b belongs h l e = let x =
      bind_some (resolved_body (meant_in unit) body [] 0) (λ body'. Some (item.Definition body')) b
      e in along_some good_attribute x.2 refl

  abbrev good_item : Item Target → Bool
  good_item i = throughout_item (is_good count reads) i

  pub item_good : (i : Item Path) (j : Item Target)
      → (is_item is_path is_plain i && has_arrays count i.sort) ≡ true
      → resolved_item (meant_in unit) i ≡ Some j → good_item j ≡ true
  item_good i j h e =
      let x = bind_some (each (resolved_attribute (meant_in unit) i.sort) i.attributes)
      (λ attributes. Some (record { sort = i.sort; name = i.name; attributes = attributes })) j
      e in
      let whole = both_of (is_item is_path is_plain i) (has_arrays count i.sort) h in
      let front = both_of (is_name i.name && may_list i.sort) _ whole.0 in
      let may = (both_of (is_name i.name) (may_list i.sort) front.0).1 in
      along_some good_item x.2 (each_all (resolved_attribute (meant_in unit) i.sort)
      (stands_in is_path is_plain (kind_of_item i.sort)) good_attribute (λ a b k.
      let parts = both_of (belongs_to (kind_of_item i.sort) a && is_attribute is_path is_plain a) _
      k in
      let fits = both_of (belongs_to (kind_of_item i.sort) a) (is_attribute is_path is_plain a)
      parts.0 in
      attribute_good i.sort may whole.1 a b fits.0 fits.1 parts.1) i.attributes front.1 x.1)
