-- The block of a tree of a checked description means the tree, and the table holds the tree's
-- strings.
use Rattle.std.proofs.Common.{◌≡◌, refl, sym, ap, subst, ◌∙◌, ℕ, Bool, true, ℤ, pos, List, [], ◌∷◌, map, Option, Some, None}
use Rattle.std.specs.Prelude.{◌&&◌, Ok, Err}
use Rattle.std.specs.List.{list_all}
use Rattle.edd_syntax.specs.declared.numbers.Kind.{Kind}
use Rattle.edd_syntax.specs.declared.reference.Target.{Target}
use Rattle.edd_syntax.specs.Expression.{Expr}
use Rattle.edd_syntax.specs.Conditional.{Cond, Conds}
use Rattle.edd_syntax.specs.Item as item
use Rattle.edd_syntax.specs.Item.{Description}
use Rattle.edd_syntax.specs.Resolution.{count_of}
use Rattle.edd_syntax.specs.Words.{Words}
use Rattle.edd_syntax.specs.Device as device
use Rattle.edd_syntax.specs.AttributeValue.{Trapping, ◌>>=◌, value, chosen, all_chosen}
use Rattle.edd_syntax.specs.Attributes as source
use Rattle.edd_syntax.specs.Attributes.{each, operation_number, enumerator, data_item, response, entry, member, element}
use Rattle.edd_syntax.specs.Size.{leaf, height, cond_height, conds_height}
use Rattle.edd_syntax.specs.SubsetRules.{values_in, values_of, cond_defaults, conds_defaults}
use Rattle.edd_syntax.specs.Strings.{strings_of_texts, enumerator_texts, entry_texts}
use Rattle.edd_syntax.specs.WellFormed.{is_text, is_cond, are_conds, is_single}
use Rattle.edd_instructions.specs.declared.instruction.Instruction.TheVariants as instruction
use Rattle.edd_instructions.specs.Steps.{Environment, act}
use Rattle.edd_instructions.specs.Agreement.{string_of_table}
use Rattle.edd_code.specs.Blocks as block
use Rattle.edd_code.specs.Blocks.{Block}
use Rattle.edd_code.specs.Outcomes.{and_then, does}
use Rattle.edd_code.specs.Expressions.{expression_block}
use Rattle.edd_code.specs.ExpressionMeaning.{of_value}
use Rattle.edd_code.proofs.ExpressionValues.{means}
use Rattle.edd_attrs.specs.Trees as trees
use Rattle.edd_attrs.specs.Trees.{Tree}
use Rattle.edd_attrs.specs.Records.{text_record, class_record, handling_record, validity_record, is_fine, kept_data}
use Rattle.edd_attrs.specs.Sizes.{tree_strings, strings_of_tree}
use Rattle.edd_attrs.specs.TreeBlocks.{elements, IsCondBlock, IsCondsBlock, IsLineBlock, IsValueBlock, Giving, IsTreeBlock, IsBlockOf}
use Rattle.edd_attrs.proofs.Meanings.{meaning, meaning_at}
use Rattle.edd_attrs.proofs.InTrees.{if_there}
use Rattle.edd_attrs.proofs.GoodParts.{is_low, any_value, good_cond, good_enumerator, good_expression, good_response, good_data, good_entry, good_member, good_array_element, is_good}
use Rattle.edd_attrs.proofs.CheckedTrees.{reads_of, is_ruled, is_whole, none_broken, no_breach}
use Rattle.edd_attrs.proofs.ElementFacts.{conds_both, elements_tested, elements_ruled, elements_same, elements_texts, enumerator_fine, response_fine, member_fine, array_element_fine, entry_fine, data_fine, strings_by, enumerator_strings, entry_strings, texts_strings, members_strings, array_elements_strings, classes_strings, responses_strings}
use Rattle.edd_attrs.proofs.MeaningBlocks.{SameOutcome, nothing_means, cond_means, conds_mean, line_means}
use Rattle.edd_attrs.proofs.GivenRecords.{given_are_chosen, all_are_chosen, expression_given, expression_is_chosen}
use Rattle.edd_attrs.proofs.RecordBlocks.{record_means}
use Rattle.edd_attrs.proofs.HeldStrings.{Held, none_in, cond_held, conds_held, line_held}
use Rattle.edd_attrs.proofs.SoundTrees.{handling_small, operation_small, bit_small, always}
use Rattle.edd_code.proofs.BothTests.{both_of}

module _ (unit : Description Target) (strings : List Words) where
  abbrev count : Kind → ℕ
  count k = count_of k unit.items

  abbrev reads : Target → Bool
  reads t = reads_of count t

  abbrev Whole : Tree → Type 0
  Whole t = is_whole unit t ≡ true

  good : (t : Tree) → Whole t → is_good count reads t ≡ true
  good t h = (both_of (is_good count reads t) (is_ruled t) h).0

  ruled : (t : Tree) → Whole t → is_ruled t ≡ true
  ruled t h = (both_of (is_good count reads t) (is_ruled t) h).1

  -- ---- meaning

  module _ (machine : Environment) (env : device.Environment)
      (same_elements : machine.elements ≡ env.elements) (d : List ℤ) where
    abbrev Same : Trapping (List source.Record) → Block → Type 0
    Same t b = SameOutcome (string_of_table strings) t (does machine d b [])

    module _ {V : Type 0} (f : V → source.Record) (p : V → Bool) (fine : (v : V) → p v ≡ true
        → is_fine unit (f v) ≡ true) where
      abbrev Gives : V → Block → Type 0
      Gives v b = Giving (string_of_table strings) f v b

      abbrev one_record : V → Trapping (List source.Record)
      one_record v = Ok (f v ∷ [])

      value_means : (v : V) (b : Block) → Gives v b → p v ≡ true → Same (one_record v) b
      value_means v b is h = record_means unit strings machine d (f v) b (fine v h) is

      one_means : (c : Cond Target V) (b : Block) → IsCondBlock Gives c b → good_cond reads p leaf c
          ≡ true → Same (each f (chosen env d c)) b
      one_means c b is h =
          subst (λ t. Same t b) (given_are_chosen env d f c)
          (cond_means (string_of_table strings) machine env d (means machine env same_elements d)
          reads Gives p
          one_record value_means c b is
          (both_of (is_cond reads reads p c) (is_low (cond_height leaf c)) h).0)

      list_means : (c : Conds Target V) (b : Block) → IsCondsBlock Gives c b
          → are_conds reads reads p c ≡ true → Same (each f (all_chosen env d c)) b
      list_means c b is h =
          subst (λ t. Same t b) (all_are_chosen env d f c)
          (conds_mean (string_of_table strings) machine env d (means machine env same_elements d)
          reads Gives p
          one_record value_means c b is h)

      in_line : (vs : List V) (b : Block) → IsLineBlock Gives vs b → list_all p vs ≡ true
          → Same (Ok (map f vs)) b
      in_line vs b is h =
          line_means (string_of_table strings) machine env d (means machine env same_elements d)
          Gives p f value_means vs b is h

    expression_means : (e : Expr Target) (b : Block) → IsValueBlock e b
        → good_expression count reads e ≡ true → Same (expression_given env d e) b
    unfolding does act
    expression_means e b is h =
        subst (Same (expression_given env d e)) (sym is)
        (here (value env d e) (means machine env same_elements d e []))
      where
        here : (v : Trapping ℤ) → does machine d (expression_block e) [] ≡ of_value v []
            → SameOutcome (string_of_table strings) (v >>= λ z. Ok (source.Number z ∷ []))
            (and_then (does machine d (expression_block e) [])
            (does machine d (block.Straight instruction.Number)))
        here (Err why) e = ap (λ o. and_then o (does machine d (block.Straight instruction.Number)))
            e
        here (Ok z) e = (
          _,
          ap (λ o. and_then o
              (does machine d (block.Straight instruction.Number))) e,
          (refl, tt),
        )

    transaction_means : (number : Option ℕ) (b : Block) → Whole (trees.Transaction number)
        → IsTreeBlock (string_of_table strings) (trees.Transaction number) b
        → Same (meaning env (trees.Transaction number) d) b
    unfolding IsTreeBlock
    transaction_means None b h is =
        subst (Same (Ok [])) (sym is) (nothing_means (string_of_table strings) machine env d
        (means machine env same_elements d))
    transaction_means (Some n) b h is = record_means unit strings machine d (source.Number (pos n))
        b (good (trees.Transaction (Some n)) h) is

    tree_means : (t : Tree) (b : Block) → Whole t → IsTreeBlock (string_of_table strings) t b
        → Same (meaning env t d) b
    unfolding IsTreeBlock
    tree_means (trees.Texts c) b h is = one_means text_record is_text (λ t k. refl) c b is
        (good (trees.Texts c) h)
    tree_means (trees.Class names) b h is = in_line class_record any_value (λ n k. refl) names b is
        (always names)
    tree_means (trees.Handling c) b h is = one_means handling_record any_value
        (λ v k. handling_small v) c b is (good (trees.Handling c) h)
    tree_means (trees.Validity c) b h is = one_means validity_record any_value (λ v k. bit_small v)
        c b is (good (trees.Validity c) h)
    tree_means (trees.Expressions c) b h is =
        let tests = both_of (good_cond reads (good_expression count reads) height c)
        (is_single reads reads c) (good (trees.Expressions c) h) in
        let parts = both_of (is_cond reads reads (good_expression count reads) c)
        (is_low (cond_height height c)) tests.0 in
        subst (λ t. Same t b) (expression_is_chosen env d reads c tests.1)
        (cond_means (string_of_table strings) machine env d (means machine env same_elements d)
        reads IsValueBlock
        (good_expression count reads) (expression_given env d) expression_means c b is parts.0)
    tree_means (trees.Enumerators parts) b h is =
        subst (λ (all : Conds Target item.Enumerator). Same (each enumerator (all_chosen env d all))
        b) (sym (elements_same env parts))
        (list_means enumerator good_enumerator (enumerator_fine unit reads) (elements parts) b is
        (elements_tested count reads parts (good (trees.Enumerators parts) h)))
    tree_means (trees.Number n) b h is = record_means unit strings machine d (source.Number (pos n))
        b (good (trees.Number n) h) is
    tree_means (trees.Operation o) b h is = record_means unit strings machine d
        (source.Number (pos (operation_number o))) b (operation_small o) is
    tree_means (trees.Transaction number) b h is = transaction_means number b h is
    tree_means (trees.Data all) b h is =
        let tests = both_of (are_conds reads reads (good_data count reads) all)
        (is_low (conds_height leaf all)) (good (trees.Data all) h) in
        let rules = both_of (list_all kept_data (values_of all)) (no_breach (conds_defaults all))
        (ruled (trees.Data all) h) in
        list_means data_item (λ x. good_data count reads x && kept_data x) (data_fine unit reads)
        all b is (conds_both reads (good_data count reads) kept_data all tests.0 rules.0)
    tree_means (trees.ResponseCodes responses) b h is =
        in_line response good_response (response_fine unit reads) responses b is
        (good (trees.ResponseCodes responses) h)
    tree_means (trees.Items entries) b h is =
        list_means entry (good_entry count reads) (entry_fine unit reads) entries b is
        (both_of (are_conds reads reads (good_entry count reads) entries)
        (is_low (conds_height leaf entries)) (good (trees.Items entries) h)).0
    tree_means (trees.Members members) b h is = in_line member (good_member count reads)
        (member_fine unit reads) members b is (good (trees.Members members) h)
    tree_means (trees.Elements all) b h is = in_line element (good_array_element count reads)
        (array_element_fine unit reads) all b is (good (trees.Elements all) h)

    -- a tree that isn't there gives nothing
    pub block_means : (t : Option Tree) (b : Block) → if_there (is_whole unit) t ≡ true
        → IsBlockOf (string_of_table strings) t b → Same (meaning_at env t d) b
    block_means None b h is =
        subst (Same (Ok [])) (sym is) (nothing_means (string_of_table strings) machine env d
        (means machine env same_elements d))
    block_means (Some t) b h is = tree_means t b h is

  -- ---- strings

  no_defaults : {V : Type 0} (c : Cond Target V) → no_breach (cond_defaults c) ≡ true
      → cond_defaults c ≡ []
  no_defaults c h = none_broken (cond_defaults c) h

  texts_held : (c : Cond Target _) (b : Block) → Whole (trees.Texts c)
      → IsTreeBlock (string_of_table strings) (trees.Texts c) b
      → Held strings (tree_strings (trees.Texts c))
  unfolding IsTreeBlock tree_strings
  texts_held c b h is = subst (Held strings) (texts_strings (values_in c))
      (cond_held strings text_record c b is (no_defaults c (ruled (trees.Texts c) h)))

  nothing_held : Held strings []
  nothing_held v held = none_in strings v held

  tree_held : (t : Tree) (b : Block) → Whole t → IsTreeBlock (string_of_table strings) t b
      → Held strings (tree_strings t)
  unfolding IsTreeBlock tree_strings
  tree_held (trees.Texts c) b h is = texts_held c b h is
  tree_held (trees.Class names) b h is = subst (Held strings) (classes_strings names)
      (line_held strings class_record names b is)
  tree_held (trees.Enumerators parts) b h is =
      subst (Held strings) (strings_by enumerator enumerator_texts enumerator_strings
      (values_of (elements parts)) ∙ ap strings_of_texts (sym (elements_texts parts)))
      (conds_held strings enumerator (elements parts) b is
      (elements_ruled parts (ruled (trees.Enumerators parts) h)))
  tree_held (trees.ResponseCodes responses) b h is =
      subst (Held strings) (responses_strings responses) (line_held strings response responses b is)
  tree_held (trees.Items entries) b h is =
      subst (Held strings) (strings_by entry entry_texts entry_strings (values_of entries))
      (conds_held strings entry entries b is
      (none_broken (conds_defaults entries) (ruled (trees.Items entries) h)))
  tree_held (trees.Members members) b h is = subst (Held strings) (members_strings members)
      (line_held strings member members b is)
  tree_held (trees.Elements all) b h is =
      subst (Held strings) (array_elements_strings all) (line_held strings element all b is)
  tree_held _ b h is = nothing_held

  pub block_held : (t : Option Tree) (b : Block) → if_there (is_whole unit) t ≡ true
      → IsBlockOf (string_of_table strings) t b → Held strings (strings_of_tree t)
  block_held None b h is = nothing_held
  block_held (Some t) b h is = tree_held t b h is
