-- The block of a tree of a checked description: it is sound, means the tree, and its strings are
-- the tree's.
use Rattle.std.proofs.Common.{◌≡◌, refl, sym, ap, subst, ℕ, ◌+◌, ◌*◌, ◌≤◌, Bool, true, false, pos, List, [], ◌∷◌, length, Option, Some, None, arith}
use Rattle.std.specs.Prelude.{◌&&◌}
use Rattle.std.specs.List.{list_all}
use Rattle.std.proofs.lemmas.Bool.{leb-true}
use Rattle.std.proofs.Math.Path.{fun_ext}
use Rattle.edd_syntax.specs.declared.numbers.Kind.{Kind}
use Rattle.edd_syntax.specs.declared.numbers.Kind.TheVariants as kind
use Rattle.edd_syntax.specs.declared.numbers.ItemNo.{ItemNo}
use Rattle.edd_syntax.specs.declared.numbers.ItemNo.TheVariants as item_no
use Rattle.edd_syntax.specs.declared.reference.Target.{Target}
use Rattle.edd_syntax.specs.declared.reference.Target.TheVariants as target
use Rattle.edd_syntax.specs.declared.types.Handling as handlings
use Rattle.edd_syntax.specs.declared.types.Handling.TheVariants as handling
use Rattle.edd_syntax.specs.declared.types.Operation as operations
use Rattle.edd_syntax.specs.declared.types.Operation.TheVariants as operation
use Rattle.edd_syntax.specs.Expression.{Expr}
use Rattle.edd_syntax.specs.Conditional.{Cond, Conds}
use Rattle.edd_syntax.specs.Item.{Description}
use Rattle.edd_syntax.specs.Resolution.{count_of}
use Rattle.edd_syntax.specs.Words.{Words}
use Rattle.edd_syntax.specs.Attributes as source
use Rattle.edd_syntax.specs.Attributes.{bit, handling_number, operation_number, enumerator, data_item, response, entry, member, element}
use Rattle.edd_syntax.specs.Size.{leaf, height, nodes, cond_nodes, conds_nodes, cond_height, conds_height}
use Rattle.edd_syntax.specs.SubsetRules.{values_of, conds_defaults}
use Rattle.edd_syntax.specs.WellFormed.{is_text, if_some, is_pure_expr, is_cond, are_conds, is_single}
use Rattle.edd_instructions.specs.declared.instruction.Instruction.TheVariants as instruction
use Rattle.edd_instructions.specs.declared.unit.Context.{Context}
use Rattle.edd_instructions.specs.Agreement.{string_of_table, attribute_context}
use Rattle.edd_code.specs.Blocks as block
use Rattle.edd_code.specs.Blocks.{Block, size}
use Rattle.edd_code.specs.Flow.{AreSpelled, Flows, all_straight, depth_after, may_stand}
use Rattle.edd_code.specs.Reads.{reads_existing}
use Rattle.edd_code.proofs.Versions.{with_arrays}
use Rattle.edd_code.proofs.ExpressionFlow.{expression_runs}
use Rattle.edd_code.proofs.ExpressionSizes.{is_short}
use Rattle.edd_code.proofs.ExpressionSpelling.{is_spelled, is_named}
use Rattle.edd_attrs.specs.Trees as trees
use Rattle.edd_attrs.specs.Trees.{Tree}
use Rattle.edd_attrs.specs.Records.{text_record, class_record, handling_record, validity_record, is_fine, kept_data}
use Rattle.edd_attrs.specs.Sizes.{tree_nodes, length_limit}
use Rattle.edd_attrs.specs.TreeBlocks.{elements, IsCondBlock, IsCondsBlock, IsLineBlock, IsRecordBlock, IsValueBlock, Giving, IsTreeBlock}
use Rattle.edd_attrs.proofs.GoodParts.{is_low, is_small, any_value, good_cond, good_enumerator, good_expression, good_response, good_data, good_entry, good_member, good_array_element, is_good}
use Rattle.edd_attrs.proofs.CheckedTrees.{reads_of, is_ruled, is_whole, no_breach}
use Rattle.edd_attrs.proofs.ElementFacts.{conds_both, elements_tested, elements_low, elements_nodes, enumerator_fine, response_fine, member_fine, array_element_fine, entry_fine, data_fine}
use Rattle.edd_attrs.proofs.SoundBlocks.{ExpressionFacts, IsSound, nothing_sound, then_sound, cond_sound, conds_sound}
use Rattle.edd_attrs.proofs.RecordBlocks.{record_is_sound, line_short}
use Rattle.edd_code.proofs.BothTests.{both_of}

pub handling_small : (h : handlings.Handling) → is_small (handling_number h) ≡ true
handling_small handling.Read = refl
handling_small _ = refl

pub operation_small : (o : operations.Operation) → is_small (operation_number o) ≡ true
operation_small operation.Read = refl
operation_small _ = refl

pub bit_small : (b : Bool) → is_small (bit b) ≡ true
bit_small true = refl
bit_small false = refl

pub always : {V : Type 0} (vs : List V) → list_all any_value vs ≡ true
always [] = refl
always (v ∷ vs) = always vs

module _ (unit : Description Target) (few : (k : Kind) → count_of k unit.items ≤ 4096) where
  abbrev count : Kind → ℕ
  count k = count_of k unit.items

  abbrev reads : Target → Bool
  reads t = reads_of count t

  same_reads : (strings : List Words)
      → reads ≡ reads_existing (attribute_context unit strings).counts
  same_reads strings = fun_ext here
    where
      of_item : (i : ItemNo) → reads (target.Item i)
          ≡ reads_existing (attribute_context unit strings).counts (target.Item i)
      of_item (item_no.Variable v) = refl
      of_item (item_no.Command n) = refl
      of_item (item_no.Menu n) = refl
      of_item (item_no.Collection n) = refl
      of_item (item_no.Method n) = refl
      of_item (item_no.Array n) = refl

      here : (t : Target) → reads t ≡ reads_existing (attribute_context unit strings).counts t
      here (target.Item i) = of_item i
      here _ = refl

  pure_there : (strings : List Words) (e : Expr Target) → is_pure_expr reads reads e ≡ true
      → is_pure_expr (reads_existing (attribute_context unit strings).counts) reads e ≡ true
  pure_there strings e h = subst (λ r. is_pure_expr r reads e ≡ true) (same_reads strings) h

  facts : (strings : List Words) → ExpressionFacts (attribute_context unit strings) reads
  facts strings = record {
    flows = λ e d h. let runs = expression_runs e d h in (runs.flows, runs.after);
    short = is_short;
    spelled = λ e h. is_spelled (attribute_context unit strings).counts reads
        (omega (arith, few kind.Variable)) (omega (arith, few kind.Array)) e
        (pure_there strings e h);
    exist = λ e h. is_named (attribute_context unit strings).version
        (attribute_context unit strings).counts reads (with_arrays unit) e (pure_there strings e h);
  }

  number_fine : (n : ℕ) → is_small n ≡ true → is_fine unit (source.Number (pos n)) ≡ true
  number_fine n h = h

  -- ---- sound

  module _ (strings : List Words) (few_strings : length strings ≤ 65535) where
    abbrev context : Context
    context = attribute_context unit strings

    -- a block whose unit is one of a tree
    pub record IsSoundUnit (b : Block) (t : Option Tree) : Type 0 where
      pub flows : Flows b 0
      pub even : depth_after b 0 ≡ 0
      pub spelled : AreSpelled b
      pub exist : all_straight (may_stand context) b ≡ true
      pub short : size b + 1 ≤ length_limit t

    sound_unit : {b : Block} (t : Tree) {n : ℕ} → 32 * n + 1 ≤ length_limit (Some t)
        → IsSound context b n → IsSoundUnit b (Some t)
    sound_unit t le s = record {
      flows = s.flows;
      even = s.even;
      spelled = s.spelled;
      exist = s.exist;
      short = omega (arith, s.short, le);
    }

    module _ {V : Type 0} (f : V → source.Record) (p : V → Bool) (fine : (v : V) → p v ≡ true
        → is_fine unit (f v) ≡ true) where
      abbrev Gives : V → Block → Type 0
      Gives v b = Giving (string_of_table strings) f v b

      value_sound : (v : V) (b : Block) → Gives v b → p v ≡ true → 1 + leaf v ≤ 100
          → IsSound context b (1 + leaf v)
      value_sound v b is h low = record_is_sound unit few strings few_strings (f v) b (fine v h) is

      one_sound : (c : Cond Target V) (b : Block) → IsCondBlock Gives c b → good_cond reads p leaf c
          ≡ true → IsSound context b (cond_nodes leaf c)
      one_sound c b is h =
          let parts = both_of (is_cond reads reads p c) (is_low (cond_height leaf c)) h in
          cond_sound context reads (facts strings) Gives p leaf leaf value_sound c b is parts.0
          (leb-true (cond_height leaf c) 100 parts.1)

      list_sound : (c : Conds Target V) (b : Block) → IsCondsBlock Gives c b
          → are_conds reads reads p c ≡ true → conds_height leaf c ≤ 100
          → IsSound context b (conds_nodes leaf c)
      list_sound c b is h low = conds_sound context reads (facts strings) Gives p leaf leaf
          value_sound c b is h low

      line_sound : (vs : List V) (b : Block) → IsLineBlock Gives vs b → list_all p vs ≡ true
          → IsSound context b (length vs)
      line_sound [] b is h = subst (λ c. IsSound context c 0) (sym is) (nothing_sound context 0)
      line_sound (v ∷ vs) b is h =
          let parts = both_of (p v) (list_all p vs) h in
          subst (λ c. IsSound context c (length (v ∷ vs))) (sym is.2) (again (then_sound context
          is.1 (value_sound v is.0 is.3 parts.0 (omega arith)) (line_sound vs is.1 is.4 parts.1)))
        where
          again : {x : Block} → IsSound context x (1 + length vs)
              → IsSound context x (length (v ∷ vs))
          again s = record {
            flows = s.flows;
            even = s.even;
            spelled = s.spelled;
            exist = s.exist;
            short = omega (arith, s.short);
          }

    expression_sound : (e : Expr Target) (b : Block) → IsValueBlock e b
        → good_expression count reads e ≡ true → 1 + height e ≤ 100
        → IsSound context b (1 + nodes e)
    expression_sound e b is h low =
        let all = facts strings in
        let flows = all.flows e 0 (omega (arith, low)) in
        subst (λ c. IsSound context c (1 + nodes e)) (sym is) (record {
          flows = (
            flows.0,
            subst (Flows (block.Straight instruction.Number)) (sym flows.1)
                (refl, omega arith, omega arith),
          );
          even = ap (depth_after (block.Straight instruction.Number)) flows.1;
          spelled = (all.spelled e h, tt);
          exist = rw (all.exist e h) refl;
          short = omega (arith, all.short e);
        })

    one_number : (b : Block) (n : ℕ) → is_small n ≡ true
        → IsRecordBlock (string_of_table strings) (source.Number (pos n)) b → IsSound context b 1
    one_number b n h is = record_is_sound unit few strings few_strings (source.Number (pos n)) b h
        is

    number_sound : (t : Tree) (b : Block) (n : ℕ) → 30 ≤ length_limit (Some t) → is_small n ≡ true
        → IsRecordBlock (string_of_table strings) (source.Number (pos n)) b → IsSoundUnit b (Some t)
    number_sound t b n le h is =
        let s = one_number b n h is in
        record {
          flows = s.flows;
          even = s.even;
          spelled = s.spelled;
          exist = s.exist;
          short = omega (arith, le, line_short is.0, ap size is.2);
        }

    transaction_sound : (number : Option ℕ) (b : Block) → if_some is_small number ≡ true
        → IsTreeBlock (string_of_table strings) (trees.Transaction number) b
        → IsSoundUnit b (Some (trees.Transaction number))
    unfolding IsTreeBlock length_limit
    transaction_sound None b h is = subst (λ c. IsSoundUnit c (Some (trees.Transaction None)))
        (sym is) (record {
          flows = tt;
          even = refl;
          spelled = tt;
          exist = refl;
          short = omega arith;
        })
    transaction_sound (Some n) b h is = number_sound (trees.Transaction (Some n)) b n (omega arith)
        h is

    abbrev Whole : Tree → Type 0
    Whole t = is_whole unit t ≡ true

    good : (t : Tree) → Whole t → is_good count reads t ≡ true
    good t h = (both_of (is_good count reads t) (is_ruled t) h).0

    ruled : (t : Tree) → Whole t → is_ruled t ≡ true
    ruled t h = (both_of (is_good count reads t) (is_ruled t) h).1

    pub tree_sound : (t : Tree) (b : Block) → Whole t → IsTreeBlock (string_of_table strings) t b
        → IsSoundUnit b (Some t)
    unfolding IsTreeBlock length_limit tree_nodes
    tree_sound (trees.Texts c) b h is =
        sound_unit _ (omega arith)
        (one_sound text_record is_text (λ t k. refl) c b is (good (trees.Texts c) h))
    tree_sound (trees.Class names) b h is =
        sound_unit _ (omega arith)
        (line_sound class_record any_value (λ n k. refl) names b is (always names))
    tree_sound (trees.Handling c) b h is =
        sound_unit _ (omega arith) (one_sound handling_record any_value (λ v k. handling_small v) c
        b is (good (trees.Handling c) h))
    tree_sound (trees.Validity c) b h is =
        sound_unit _ (omega arith) (one_sound validity_record any_value (λ v k. bit_small v) c b is
        (good (trees.Validity c) h))
    tree_sound (trees.Expressions c) b h is =
        let tests = both_of (good_cond reads (good_expression count reads) height c)
        (is_single reads reads c) (good (trees.Expressions c) h) in
        let parts = both_of (is_cond reads reads (good_expression count reads) c)
        (is_low (cond_height height c)) tests.0 in
        sound_unit _ (omega arith)
        (cond_sound context reads (facts strings) IsValueBlock (good_expression count reads) height
        nodes expression_sound c b is parts.0 (leb-true (cond_height height c) 100 parts.1))
    tree_sound (trees.Enumerators parts) b h is =
        let tests = good (trees.Enumerators parts) h in
        sound_unit _ (omega (arith, elements_nodes parts))
        (list_sound enumerator good_enumerator (enumerator_fine unit reads) (elements parts) b is
        (elements_tested count reads parts tests) (elements_low count reads parts tests))
    tree_sound (trees.Number n) b h is = number_sound (trees.Number n) b n (omega arith)
        (good (trees.Number n) h) is
    tree_sound (trees.Operation o) b h is = number_sound (trees.Operation o) b (operation_number o)
        (omega arith) (operation_small o) is
    tree_sound (trees.Transaction number) b h is =
        transaction_sound number b (good (trees.Transaction number) h) is
    tree_sound (trees.Data all) b h is =
        let tests = both_of (are_conds reads reads (good_data count reads) all)
        (is_low (conds_height leaf all)) (good (trees.Data all) h) in
        let rules = both_of (list_all kept_data (values_of all)) (no_breach (conds_defaults all))
        (ruled (trees.Data all) h) in
        sound_unit _ (omega arith) (list_sound data_item (λ d. good_data count reads d && kept_data
        d) (data_fine unit reads) all b is (conds_both reads (good_data count reads) kept_data all
        tests.0 rules.0) (leb-true (conds_height leaf all) 100 tests.1))
    tree_sound (trees.ResponseCodes responses) b h is =
        sound_unit _ (omega arith) (line_sound response good_response (response_fine unit reads)
        responses b is (good (trees.ResponseCodes responses) h))
    tree_sound (trees.Items entries) b h is =
        let tests = both_of (are_conds reads reads (good_entry count reads) entries)
        (is_low (conds_height leaf entries)) (good (trees.Items entries) h) in
        sound_unit _ (omega arith) (list_sound entry (good_entry count reads) (entry_fine unit
        reads) entries b is tests.0 (leb-true (conds_height leaf entries) 100 tests.1))
    tree_sound (trees.Members members) b h is =
        sound_unit _ (omega arith) (line_sound member (good_member count reads)
        (member_fine unit reads) members b is (good (trees.Members members) h))
    tree_sound (trees.Elements all) b h is =
        sound_unit _ (omega arith) (line_sound element (good_array_element count reads)
        (array_element_fine unit reads) all b is (good (trees.Elements all) h))
