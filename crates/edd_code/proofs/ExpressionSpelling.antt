-- The operands of an expression's block are in their ranges, and its instructions may be in an
-- attribute: the variables and arrays that they name exist.
use Rattle.std.proofs.Common.{◌≡◌, refl, ◌≤◌, ◌^◌, Bool, true, false, arith}
use Rattle.std.specs.Prelude.{◌&&◌, nat_lt}
use Rattle.std.proofs.lemmas.Bool.{ltb-true}
use Rattle.edd_syntax.specs.declared.numbers.ItemNo.{ItemNo}
use Rattle.edd_syntax.specs.declared.numbers.ItemNo.TheVariants as item_no
use Rattle.edd_syntax.specs.declared.operators.UnaryOperator.{UnaryOperator}
use Rattle.edd_syntax.specs.declared.operators.UnaryOperator.TheVariants as unary_operator
use Rattle.edd_syntax.specs.declared.reference.Target.{Target}
use Rattle.edd_syntax.specs.declared.reference.Target.TheVariants.{Item}
use Rattle.edd_syntax.specs.Expression.{Expr, Literal, Decimal, Reference, Indexed, Parentheses, Unary, Binary, Compare, LogicalAnd, LogicalOr, Conditional}
use Rattle.edd_syntax.specs.WellFormed.{is_pure_expr}
use Rattle.edd_image.specs.declared.parts.Counts.{Counts}
use Rattle.edd_instructions.specs.declared.unit.Context.{Context}
use Rattle.edd_instructions.specs.declared.unit.Sort.TheVariants.{Attribute}
use Rattle.edd_image.specs.declared.versions.Version.{Version}
use Rattle.edd_image.specs.declared.versions.Version.TheVariants.{Two}
use Rattle.edd_code.specs.Expressions.{expression_block, item_block, read_block, item_element_block, element_block, no_element, unary_block, no_value}
use Rattle.edd_code.specs.Flow.{AreSpelled, all_straight, may_stand}
use Rattle.edd_code.specs.Reads.{item_is_there, reads_existing}
use Rattle.edd_code.proofs.Versions.{in_attributes}

both : (a b : Bool) → (a && b) ≡ true → (a ≡ true) × (b ≡ true)
both true b is = (refl, is)
both false b is = absurd cc

and_is : {a b : Bool} → a ≡ true → b ≡ true → (a && b) ≡ true
and_is p q = rw (p, q) refl

-- ---- ranges

no_value_spelled : AreSpelled no_value
no_value_spelled = omega arith

item_spelled : (counts : Counts) (i : ItemNo) → counts.variables ≤ 65536 → item_is_there counts i
    ≡ true → AreSpelled (item_block i)
item_spelled counts (item_no.Variable v) few is = let below =
    ltb-true v.0 counts.variables is in omega arith
item_spelled counts _ few is = no_value_spelled

read_spelled : (counts : Counts) (t : Target) → counts.variables ≤ 65536 → reads_existing counts t
    ≡ true → AreSpelled (read_block t)
read_spelled counts (Item i) few is = item_spelled counts i few is
read_spelled counts _ few is = no_value_spelled

no_element_spelled : AreSpelled no_element
no_element_spelled = (tt, no_value_spelled)

item_element_spelled : (counts : Counts) (i : ItemNo) → counts.arrays ≤ 65536
    → item_is_there counts i ≡ true → AreSpelled (item_element_block i)
item_element_spelled counts (item_no.Array n) few is = let below =
    ltb-true n.0 counts.arrays is in omega arith
item_element_spelled counts _ few is = no_element_spelled

element_spelled : (counts : Counts) (t : Target) → counts.arrays ≤ 65536 → reads_existing counts t
    ≡ true → AreSpelled (element_block t)
element_spelled counts (Item i) few is = item_element_spelled counts i few is
element_spelled counts _ few is = no_element_spelled

unary_spelled : (op : UnaryOperator) → AreSpelled (unary_block op)
unary_spelled unary_operator.Plus = tt
unary_spelled _ = tt

module _ (counts : Counts) (plain : Target → Bool) (few : counts.variables ≤ 65536)
    (few_arrays : counts.arrays ≤ 65536) where
  pub is_spelled : (e : Expr Target) → is_pure_expr (reads_existing counts) plain e ≡ true
      → AreSpelled (expression_block e)
  unfolding expression_block
  is_spelled (Literal value) is = ltb-true value (2 ^ 32) is
  is_spelled (Reference from) is = read_spelled counts from few is
  is_spelled (Indexed array index) is =
      let p = both _ _ is in
      let q = both _ _ p.0 in
      (is_spelled index p.1, element_spelled counts array few_arrays q.0)
  is_spelled (Parentheses inner) is = is_spelled inner is
  is_spelled (Unary op operand) is = (is_spelled operand is, unary_spelled op)
  is_spelled (Binary op left right) is = let p =
      both _ _ is in (is_spelled left p.0, (is_spelled right p.1, tt))
  is_spelled (Compare by left right) is = let p =
      both _ _ is in (is_spelled left p.0, (is_spelled right p.1, tt))
  is_spelled (LogicalAnd left right) is = let p =
      both _ _ is in (is_spelled left p.0, (tt, (tt, (is_spelled right p.1, (tt, tt)))))
  is_spelled (LogicalOr left right) is = let p =
      both _ _ is in (is_spelled left p.0, ((tt, tt), (tt, (tt, (is_spelled right p.1, (tt, tt))))))
  is_spelled (Conditional test first second) is =
      let p = both _ _ is in
      let q = both _ _ p.0 in
      (is_spelled test q.0, (is_spelled first q.1, is_spelled second p.1))
  is_spelled Decimal is = no_value_spelled
  is_spelled _ is = absurd cc

-- ---- names

module _ (version : Version) (counts : Counts) (plain : Target → Bool)
    (holds_arrays : nat_lt 0 counts.arrays ≡ true → version ≡ Two) where
  -- the context of the unit of an attribute
  abbrev context : Context
  context = record { version = version; counts = counts; sort = Attribute; slots = 0 }

  item_named : (i : ItemNo) → item_is_there counts i ≡ true
      → all_straight (may_stand context) (item_block i) ≡ true
  item_named (item_no.Variable v) is = is
  item_named _ is = refl

  read_named : (t : Target) → reads_existing counts t ≡ true
      → all_straight (may_stand context) (read_block t) ≡ true
  read_named (Item i) is = item_named i is
  read_named _ is = refl

  item_element_named : (i : ItemNo) → item_is_there counts i ≡ true
      → all_straight (may_stand context) (item_element_block i) ≡ true
  item_element_named (item_no.Array n) is = and_is (in_attributes version counts n holds_arrays is)
      is
  item_element_named _ is = refl

  element_named : (t : Target) → reads_existing counts t ≡ true
      → all_straight (may_stand context) (element_block t) ≡ true
  element_named (Item i) is = item_element_named i is
  element_named _ is = refl

  unary_named : (op : UnaryOperator) → all_straight (may_stand context) (unary_block op) ≡ true
  unary_named unary_operator.Plus = refl
  unary_named _ = refl

  pub is_named : (e : Expr Target) → is_pure_expr (reads_existing counts) plain e ≡ true
      → all_straight (may_stand context) (expression_block e) ≡ true
  unfolding expression_block
  is_named (Literal value) is = refl
  is_named (Reference from) is = read_named from is
  is_named (Indexed array index) is =
      let p = both _ _ is in
      let q = both _ _ p.0 in
      and_is (is_named index p.1) (element_named array q.0)
  is_named (Parentheses inner) is = is_named inner is
  is_named (Unary op operand) is = and_is (is_named operand is) (unary_named op)
  is_named (Binary op left right) is = let p = both _ _ is in and_is (is_named left p.0)
      (and_is (is_named right p.1) refl)
  is_named (Compare by left right) is = let p = both _ _ is in and_is (is_named left p.0)
      (and_is (is_named right p.1) refl)
  is_named (LogicalAnd left right) is = let p = both _ _ is in and_is (is_named left p.0)
      (and_is (is_named right p.1) refl)
  is_named (LogicalOr left right) is = let p = both _ _ is in and_is (is_named left p.0)
      (and_is (is_named right p.1) refl)
  is_named (Conditional test first second) is =
      let p = both _ _ is in
      let q = both _ _ p.0 in
      and_is (is_named test q.0) (and_is (is_named first q.1) (is_named second p.1))
  is_named Decimal is = refl
  is_named _ is = absurd cc
