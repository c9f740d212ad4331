-- What was lowered of a method of a checked description is the method's code.
use Rattle.std.proofs.Common.{◌≡◌, refl, sym, ap, subst, ◌∙◌, ℕ, ◌+◌, ◌*◌, ◌<◌, ◌≤◌, ◌⊎◌, inl, inr, true, List, [], ◌++◌, length, Option, Some, None, arith, length-append}
use Rattle.std.specs.Prelude.{◌↔◌, IsErrOf, option_map, slice_get, Result, Ok, Err}
use Rattle.std.specs.List.{AllByRecursion, Contains, list_all}
use Rattle.std.proofs.lemmas.List.Elements.{Contains-append_left, Contains-append_cases}
use Rattle.std.proofs.lemmas.Option.{slice_get-map}
use Rattle.edd_syntax.specs.declared.numbers.Kind.TheVariants as kinds
use Rattle.edd_syntax.specs.declared.numbers.MethNo.{MethNo}
use Rattle.edd_syntax.specs.declared.numbers.StrNo.{StrNo}
use Rattle.edd_syntax.specs.declared.reference.Target.{Target}
use Rattle.edd_syntax.specs.Execution.{body_in, body_of}
use Rattle.edd_syntax.specs.Item.{Description, Item}
use Rattle.edd_syntax.specs.Resolved.{IsChecked}
use Rattle.edd_syntax.specs.Rows.{attributes_of_items, of_kind}
use Rattle.edd_syntax.specs.Size.{body_nodes}
use Rattle.edd_syntax.specs.Statement.{Body, Nil, slots_in}
use Rattle.edd_syntax.specs.Strings.{different}
use Rattle.edd_syntax.specs.SubsetRules.{body_expressions}
use Rattle.edd_syntax.specs.WellFormed.{is_text}
use Rattle.edd_syntax.specs.Words.{Words}
use Rattle.edd_instructions.specs.declared.instruction.Instruction.TheVariants.{End}
use Rattle.edd_instructions.specs.Agreement.{counts_of, string_of_table}
use Rattle.edd_instructions.specs.MethodAgreement.{IsMethodCode}
use Rattle.edd_instructions.specs.Spelling.{spelling}
use Rattle.edd_code.specs.MethodExpressions.{method_block}
use Rattle.edd_code.specs.MethodReads.{uses_existing}
use Rattle.edd_code.specs.Numbered.{HasNumbers}
use Rattle.edd_code.specs.Tables.{AreDifferent, Overflows, number_in}
use Rattle.edd_code.proofs.Different.{fewer_different}
use Rattle.edd_methods.specs.LoweredMethods.{LowersBody, found_body, strings_of_method}
use Rattle.edd_methods.specs.Writing.{body_texts}
use Rattle.edd_methods.specs.MethodCode.{method_code}
use Rattle.edd_methods.specs.StatementCode.{blocks_by}
use Rattle.edd_methods.specs.Statements.{bytes_at, size, unit_code}
use Rattle.edd_methods.proofs.BodyFacts.{BodyFacts, body_facts}
use Rattle.edd_methods.proofs.CheckedMethods.{code_is_short}
use Rattle.edd_methods.proofs.CodeBytes.{code_long}
use Rattle.edd_methods.proofs.FewNodes.{few_in_body}
use Rattle.edd_methods.proofs.GoodTexts.{listed_good}
use Rattle.edd_methods.proofs.HeldNumbers.{all_numbered}
use Rattle.edd_methods.proofs.InsideLoops.{leads_nowhere}
use Rattle.edd_methods.proofs.ResolvedExpressions.{any}
use Rattle.edd_methods.proofs.ResolvedReferences.{around}
use Rattle.edd_methods.proofs.ValidMethods.{is_the_methods_code}

module _ (d : Description Target) (checked : ∥ IsChecked d ∥₁) (m : MethNo) where
  abbrev body : Body Target
  body = body_of d m

  facts : BodyFacts d m
  facts = body_facts d checked m

  pub texts_when_checked : list_all is_text (body_texts (body_of d m)) ≡ true
  texts_when_checked =
      listed_good (uses_existing (around (counts_of d.identification d.items 0) (slots_in body)))
      any (body_expressions body) (facts.refer (counts_of d.identification d.items 0) refl refl
      refl)

  pub few_slots : slots_in (body_of d m) ≤ 64
  few_slots = facts.few_slots

  -- too many strings are too many different ones
  pub overflowing : {old : List Words} → AreDifferent old → Overflows old (strings_of_method d m)
      → 65535 < length (different (old ++ strings_of_method d m))
  overflowing {old} apart over =
      let all = over.held apart in
      omega (arith, all.2, fewer_different (old ++ strings_of_method d m) all.0 all.1 all.3)

  module _ (old new : List Words) (code : List ℕ) (apart : AreDifferent old)
      (lowered : LowersBody old (body_of d m) new code) where
    abbrev number : List Words → Words → StrNo
    number more = number_in (new ++ more)

    -- no statement jumps outside, so the end of the unit may as well be the place where it would
    is_unit : (more : List Words) → code ≡ unit_code (method_code (number more) body)
    is_unit more =
        let all = method_code (number more) body in
        lowered.written apart more
        ∙ ap (λ (bytes : List ℕ). bytes ++ spelling End)
        (leads_nowhere (blocks_by (method_block (number more))) body facts.inside 0 0 (size all)
        0 (size all))

    known : (more : List Words)
        → AllByRecursion (λ p. HasNumbers (string_of_table (new ++ more)) (number more)
        p.expression) (body_expressions body)
    known more = all_numbered (new ++ more) (body_expressions body)
        (λ w held. Contains-append_left new more w (lowered.holds w held))

    short_code : (more : List Words) → size (method_code (number more) body) ≤ 32 * body_nodes body
    short_code more = code_is_short d m facts (number more)

    pub lowered_is_code : (more : List Words) → length (new ++ more) ≤ 65535
        → IsMethodCode d (new ++ more) m (slots_in (body_of d m)) code
    lowered_is_code more few =
        subst (λ (bytes : List ℕ). IsMethodCode d (new ++ more) m (slots_in body) bytes)
        (sym (is_unit more))
        (is_the_methods_code d m facts (new ++ more) (omega (arith, few)) (number more) (known more)
        (omega (arith, short_code more, few_in_body d checked m)))

    pub lowered_is_short : length code ≤ 32 * (1 + body_nodes (body_of d m))
    lowered_is_short =
        let all = method_code (number []) body in
        omega (
          arith,
          short_code [],
          ap length (is_unit []),
          length-append (bytes_at 0 (size all) (size all) all) (spelling End),
          code_long 0 (size all) (size all) all,
        )

  pub lowered_strings : {old new : List Words} {code : List ℕ} → LowersBody old (body_of d m) new
      code → (w : Words) → Contains new w ↔ (Contains old w ⊎ Contains (strings_of_method d m) w)
  lowered_strings {old} lowered w = (
    λ held. elim (Contains-append_cases old lowered.table.more w
        (subst (λ (t : List Words). Contains t w) lowered.table.grown held)) [
          | inl h ↦ inl h
          | inr h ↦ inr (lowered.table.only w h)
        ],
    λ h. elim h [
      | inl held ↦ subst (λ (t : List Words). Contains t w) (sym lowered.table.grown)
          (Contains-append_left old lowered.table.more w held)
      | inr held ↦ lowered.holds w held
    ],
  )

-- ---- the body is found by the number of its method

module _ (d : Description Target) (m : MethNo) where
  by_option : (o : Option (Item Target)) → found_body (option_map (λ i. i.attributes) o)
      ≡ elim o as (λ _. Body Target) [ Some i ↦ body_in i.attributes | None ↦ Nil ]
  by_option None = refl
  by_option (Some i) = refl

  pub body_is_found : found_body (slice_get (attributes_of_items kinds.Method d.items) m.0)
      ≡ body_of d m
  body_is_found = ap found_body (slice_get-map (λ i. i.attributes) (of_kind kinds.Method d.items)
      m.0) ∙ by_option (slice_get (of_kind kinds.Method d.items) m.0)

-- the same fault, of a call that gives something else
pub fault_again : {A B E : Type 0} (e f : E) → IsErrOf {T = A} (Err e) f → IsErrOf {T = B} (Err e) f
fault_again {A} {B} {E} e f h = ap again h
  where
    again : Result A E → Result B E
    again (Ok x) = Err e
    again (Err e) = Err e
