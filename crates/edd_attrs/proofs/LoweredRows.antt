-- What was lowered of a row of a checked description is the code of its attribute.
use Rattle.std.proofs.Common.{◌≡◌, refl, sym, ap, subst, ◌∙◌, ℕ, ◌+◌, ◌*◌, ◌^◌, ◌<◌, ◌≤◌, ◌⊎◌, inl, inr, Bool, true, ℤ, List, [], ◌++◌, length, Option, Some, None, arith, length-append}
use Rattle.std.specs.Prelude.{◌↔◌, ◌&&◌, Result, Ok, Err, IfOk, OnOk}
use Rattle.std.specs.List.{Contains, list_all}
use Rattle.std.proofs.lemmas.List.{append-nil}
use Rattle.std.proofs.lemmas.List.Elements.{Contains-append_left, Contains-append_cases}
use Rattle.edd_syntax.specs.declared.answer.Trap.{Trap}
use Rattle.edd_syntax.specs.declared.numbers.Kind.{Kind}
use Rattle.edd_syntax.specs.declared.numbers.AttrRef.{AttrRef}
use Rattle.edd_syntax.specs.declared.reference.Target.{Target}
use Rattle.edd_syntax.specs.Item.{Description}
use Rattle.edd_syntax.specs.Words.{Words}
use Rattle.edd_syntax.specs.Device.{environment}
use Rattle.edd_syntax.specs.Resolved.{IsChecked}
use Rattle.edd_syntax.specs.Size.{leaf, unit_nodes, conds_height}
use Rattle.edd_syntax.specs.Resolution.{count_of}
use Rattle.edd_syntax.specs.Strings.{different}
use Rattle.edd_syntax.specs.SubsetRules.{values_of, conds_defaults}
use Rattle.edd_syntax.specs.AttributeValue.{Trapping}
use Rattle.edd_syntax.specs.Attributes as source
use Rattle.edd_syntax.specs.WellFormed.{is_text, is_cond, are_conds}
use Rattle.edd_syntax.proofs.WithinLimits.{few_when_checked}
use Rattle.edd_instructions.specs.declared.records.Record.{Record}
use Rattle.edd_instructions.specs.declared.instruction.Instruction.TheVariants as instruction
use Rattle.edd_instructions.specs.declared.unit.Sort.TheVariants.{Attribute}
use Rattle.edd_instructions.specs.Spelling.{spelling}
use Rattle.edd_instructions.specs.Units.{IsValidUnit}
use Rattle.edd_instructions.specs.Reading.{given_within}
use Rattle.edd_instructions.specs.Steps.{opening}
use Rattle.edd_instructions.specs.Agreement.{machine_of, SameRun, UnitMeans, IsAttributeCode, string_of_table, attribute_context, tree_meaning}
use Rattle.edd_code.specs.Blocks.{Block, size, bytes_at, unit_code}
use Rattle.edd_code.specs.Outcomes.{does}
use Rattle.edd_code.proofs.BlockBytes.{lengths}
use Rattle.edd_code.specs.Flow.{all_straight, may_stand}
use Rattle.edd_code.proofs.BlockUnits.{unit_is_valid}
use Rattle.edd_code.proofs.Versions.{in_its_version, names_in}
use Rattle.edd_code.proofs.UnitRuns.{unit_goes, unit_traps}
use Rattle.edd_attrs.specs.Trees as trees
use Rattle.edd_attrs.specs.Trees.{Tree, tree_at}
use Rattle.edd_attrs.specs.Records.{kept_enumerator, kept_data, kept_entry, kept_response, kept_member, kept_array_element}
use Rattle.edd_attrs.specs.Sizes.{strings_at, tree_nodes, length_limit}
use Rattle.edd_code.specs.Tables.{AreDifferent}
use Rattle.edd_attrs.specs.Lowered.{LowersTree, OverflowsTree}
use Rattle.edd_attrs.specs.Kept.{is_kept_tree, is_kept_row}
use Rattle.edd_attrs.specs.TreeBlocks.{elements, IsBlockOf}
use Rattle.edd_code.proofs.Different.{fewer_different}
use Rattle.edd_attrs.proofs.InTrees.{if_there}
use Rattle.edd_attrs.proofs.Meanings.{unit_means}
use Rattle.edd_code.proofs.FewNodes.{few_nodes}
use Rattle.edd_attrs.proofs.NodeBounds.{few_at}
use Rattle.edd_attrs.proofs.GoodParts.{is_low, is_small, all_good, good_cond, good_enumerator, good_element, good_response, good_entry, good_member, good_array_element}
use Rattle.edd_attrs.proofs.CheckedTrees.{reads_of, is_ruled, is_whole, no_breach, whole_when_checked}
use Rattle.edd_attrs.proofs.ElementFacts.{values_pass, all_values_pass, elements_tested, entry_kept}
use Rattle.edd_attrs.proofs.GrowingTables.{still_exist}
use Rattle.edd_attrs.proofs.MeaningBlocks.{SameOutcome}
use Rattle.edd_attrs.proofs.SoundTrees.{IsSoundUnit, tree_sound}
use Rattle.edd_attrs.proofs.MeaningTrees.{block_means, block_held}
use Rattle.edd_code.proofs.BothTests.{both_of}

-- ---- what the code asks of a tree

module _ (unit : Description Target) where
  abbrev count : Kind → ℕ
  count k = count_of k unit.items

  abbrev reads : Target → Bool
  reads t = reads_of count t

  tree_kept : (t : Tree) → is_whole unit t ≡ true → is_kept_tree t ≡ true
  unfolding is_kept_tree
  tree_kept (trees.Texts c) h =
      let tests = both_of (good_cond reads is_text leaf c) _ h in
      values_pass reads is_text c (both_of (is_cond reads reads is_text c) _ tests.0).0
  tree_kept (trees.Enumerators parts) h =
      let tests = both_of (list_all (good_element count reads) parts) _ h in
      all_good good_enumerator kept_enumerator (λ e k. (both_of _ (kept_enumerator e) k).1)
      (values_of (elements parts))
      (all_values_pass reads good_enumerator (elements parts)
      (elements_tested count reads parts tests.0))
  tree_kept (trees.Data all) h =
      (both_of (list_all kept_data (values_of all)) (no_breach (conds_defaults all))
      (both_of _ (is_ruled (trees.Data all)) h).1).0
  tree_kept (trees.ResponseCodes responses) h = all_good good_response kept_response
      (λ r k. (both_of (is_small r.number) (kept_response r) k).1) responses
      (both_of (list_all good_response responses) true h).0
  tree_kept (trees.Items entries) h =
      let tests = both_of (are_conds reads reads (good_entry count reads) entries
      && is_low (conds_height leaf entries)) _ h in
      all_good (good_entry count reads) kept_entry (entry_kept unit reads) (values_of entries)
      (all_values_pass reads (good_entry count reads) entries
      (both_of (are_conds reads reads (good_entry count reads) entries) _ tests.0).0)
  tree_kept (trees.Members members) h =
      all_good (good_member count reads) kept_member (λ m k. (both_of _ (kept_member m) k).1)
      members (both_of (list_all (good_member count reads) members) true h).0
  tree_kept (trees.Elements all) h =
      all_good (good_array_element count reads) kept_array_element
      (λ e k. (both_of _ (kept_array_element e) k).1) all
      (both_of (list_all (good_array_element count reads) all) true h).0
  tree_kept _ h = refl

  row_kept : (t : Option Tree) → if_there (is_whole unit) t ≡ true → is_kept_row t ≡ true
  row_kept None h = refl
  row_kept (Some t) h = tree_kept t h

pub kept_when_checked : (unit : Description Target) (row : AttrRef) → ∥ IsChecked unit ∥₁
    → is_kept_row (tree_at unit row) ≡ true
kept_when_checked unit row checked =
    row_kept unit (tree_at unit row) (whole_when_checked unit row checked)

-- ---- the length of code

limit_small : (t : Tree) (n : ℕ) → tree_nodes t ≤ n → length_limit (Some t) ≤ 32 * n + 30
unfolding length_limit
limit_small (trees.Transaction number) n h = omega arith
limit_small _ n h = omega (arith, h)

limit_at : (o : Option Tree) (n : ℕ) → ((t : Tree) → o ≡ Some t → tree_nodes t ≤ n)
    → length_limit o ≤ 32 * n + 30
unfolding length_limit
limit_at None n h = omega arith
limit_at (Some t) n h = limit_small t n (h t refl)

-- ---- a lowered row

module _ (unit : Description Target) (checked : ∥ IsChecked unit ∥₁) (row : AttrRef) where
  tree : Option Tree
  tree = tree_at unit row

  whole : if_there (is_whole unit) (tree_at unit row) ≡ true
  whole = whole_when_checked unit row checked

  -- too many strings are too many different ones
  pub overflowing : (old : List Words) → AreDifferent old → OverflowsTree old (tree_at unit row)
      → 65535 < length (different (old ++ strings_at unit row))
  overflowing old d over =
      let all = over.held d in
      omega (arith, all.2, fewer_different (old ++ strings_at unit row) all.0 all.1 all.3)

  module _ (old new : List Words) (code : List ℕ)
      (lowered : LowersTree old (tree_at unit row) new code) where
    abbrev b : Block
    b = lowered.block

    now : IsBlockOf (string_of_table new) (tree_at unit row) b
    now = subst (λ (t : List Words). IsBlockOf (string_of_table t) (tree_at unit row) b)
        (append-nil new) (lowered.is [])

    module _ (few_old : length old ≤ 65535) where
      few_new : length new ≤ 65535
      few_new = lowered.table.few few_old

      sound_of : (o : Option Tree) → if_there (is_whole unit) o ≡ true
          → IsBlockOf (string_of_table new) o b
          → IsSoundUnit unit (few_when_checked unit checked) new few_new b o
      unfolding length_limit
      sound_of None w is =
          subst (λ c. IsSoundUnit unit (few_when_checked unit checked) new few_new c None) (sym is)
          (record { flows = tt; even = refl; spelled = tt; exist = refl; short = omega arith })
      sound_of (Some t) w is = tree_sound unit (few_when_checked unit checked) new few_new t b w is

      sound : IsSoundUnit unit (few_when_checked unit checked) new few_new b (tree_at unit row)
      sound = sound_of (tree_at unit row) whole now

      small : size b < 2 ^ 31
      small = omega (
        arith,
        sound.short,
        limit_at (tree_at unit row) (unit_nodes unit)
            (λ t is. few_at unit row t is),
        few_nodes unit checked,
      )

      stands : (later : List Words)
          → all_straight (may_stand (attribute_context unit (new ++ later))) b ≡ true
      stands later = still_exist unit new later b sound.exist

      valid : (later : List Words) → IsValidUnit (attribute_context unit (new ++ later)) code
      valid later =
          subst (λ (bs : List ℕ). IsValidUnit (attribute_context unit (new ++ later)) bs)
          (sym lowered.is_unit)
          (unit_is_valid (attribute_context unit (new ++ later)) b sound.spelled
          (in_its_version (attribute_context unit (new ++ later)) b 0 sound.flows (stands later))
          sound.even small (names_in (attribute_context unit (new ++ later)) b (stands later)))

      means_in : (later : List Words) (values : List ℤ) → (t : Trapping (List source.Record))
          → SameOutcome (string_of_table (new ++ later)) t
          (does (machine_of (environment unit)) values b [])
          → (n : ℕ) × (given : Result (List Record) Trap)
          × (given_within n (machine_of (environment unit))
          (opening (record { sort = Attribute; code = code }) 0 values) ≡ Some given)
          × SameRun (string_of_table (new ++ later)) t given
      means_in later values (Ok xs) same =
          let run = unit_goes (machine_of (environment unit)) values b
          sound.spelled sound.flows small same.0 same.1 in
          (run.0, Ok same.0, here run.0 (Ok same.0) run.1, (same.0, refl, same.2))
        where
          here : (n : ℕ) (given : Result (List Record) Trap)
              → given_within n (machine_of (environment unit))
              (opening (record { sort = Attribute; code = unit_code b }) 0 values) ≡ Some given
              → given_within n (machine_of (environment unit))
              (opening (record { sort = Attribute; code = code }) 0 values) ≡ Some given
          here n given h = ap (λ (bs : List ℕ). given_within n
              (machine_of (environment unit))
              (opening (record { sort = Attribute; code = bs }) 0 values)) lowered.is_unit ∙ h
      means_in later values (Err why) same =
          let run = unit_traps (machine_of (environment unit)) values b
          sound.spelled sound.flows small why same in
          (run.0, Err why, here run.0 (Err why) run.1, refl)
        where
          here : (n : ℕ) (given : Result (List Record) Trap)
              → given_within n (machine_of (environment unit))
              (opening (record { sort = Attribute; code = unit_code b }) 0 values) ≡ Some given
              → given_within n (machine_of (environment unit))
              (opening (record { sort = Attribute; code = code }) 0 values) ≡ Some given
          here n given h = ap (λ (bs : List ℕ). given_within n
              (machine_of (environment unit))
              (opening (record { sort = Attribute; code = bs }) 0 values)) lowered.is_unit ∙ h

      means : (later : List Words)
          → UnitMeans (environment unit) (string_of_table (new ++ later))
          (tree_meaning unit row) code
      means later values are =
          means_in later values (tree_meaning unit row values)
          (subst (λ (m : source.Meaning). SameOutcome (string_of_table (new ++ later)) (m values)
          (does (machine_of (environment unit)) values b []))
          (sym (unit_means unit row))
          (block_means unit (new ++ later) (machine_of (environment unit))
          (environment unit) refl values (tree_at unit row) b whole (lowered.is later)))

      pub lowered_means : (later : List Words) → IsAttributeCode unit (new ++ later) row code
      lowered_means later = record { valid = valid later; means = means later }

      pub lowered_short : length code ≤ length_limit (tree_at unit row)
      lowered_short = omega (
        arith,
        sound.short,
        ap length lowered.is_unit,
        length-append (bytes_at 0 b) (spelling instruction.End),
        lengths 0 b,
      )

    pub lowered_strings : (w : Words)
        → Contains new w ↔ (Contains old w ⊎ Contains (strings_at unit row) w)
    lowered_strings w = (
      λ held. elim (Contains-append_cases old lowered.table.more w
          (subst (λ (t : List Words). Contains t w) lowered.table.grown held)) [
            | inl h ↦ inl h
            | inr h ↦ inr (lowered.table.only w h)
          ],
      λ h. elim h [
        | inl held ↦ subst (λ (t : List Words). Contains t w) (sym lowered.table.grown)
            (Contains-append_left old lowered.table.more w held)
        | inr held ↦ block_held unit new (tree_at unit row) b whole now w held
      ],
    )

pub then_on_ok : {X E : Type 0} {P : X → Type 0} {Q : Type 0} (r : Result X E) → ((x : X) → P x → Q)
    → IfOk r P → OnOk r Q
then_on_ok (Ok x) f h = f x h
then_on_ok (Err e) f h = tt
