-- The code of a method of a checked description.
use Rattle.std.proofs.Common.{◌≡◌, refl, ℕ, true, false, ◌*◌, ◌<◌, ◌≤◌, ◌^◌, List, [], ◌∷◌, length, arith}
use Rattle.std.specs.Prelude.{◌&&◌, nat_lt}
use Rattle.std.specs.List.{AllByRecursion}
use Rattle.std.proofs.lemmas.Bool.{lt-ltb, or_left, or_right}
use Rattle.std.proofs.lemmas.Option.{slice_get_within}
use Rattle.edd_syntax.specs.declared.numbers.Kind.TheVariants as kind
use Rattle.edd_syntax.specs.declared.numbers.MethNo.{MethNo}
use Rattle.edd_syntax.specs.declared.numbers.StrNo.{StrNo}
use Rattle.edd_syntax.specs.declared.reference.Target.{Target}
use Rattle.edd_syntax.specs.Execution.{body_of}
use Rattle.edd_syntax.specs.Expression.{Expr}
use Rattle.edd_syntax.specs.Item.{Description}
use Rattle.edd_syntax.specs.Size.{body_nodes}
use Rattle.edd_syntax.specs.Statement.{slots_in}
use Rattle.edd_syntax.specs.Strings.{expr_texts}
use Rattle.edd_syntax.specs.LayoutVersion.{names_it, one_names_it}
use Rattle.edd_syntax.specs.SubsetRules.{Placed, body_expressions, call_mismatches}
use Rattle.edd_syntax.specs.Text as texts
use Rattle.edd_syntax.specs.Words.{Words, words_of}
use Rattle.edd_instructions.specs.declared.unit.Context.{Context}
use Rattle.edd_instructions.specs.Agreement.{counts_of, string_of_table, version_for}
use Rattle.edd_instructions.specs.MethodAgreement.{IsMethodCode, method_context}
use Rattle.edd_image.specs.declared.parts.Counts.{Counts}
use Rattle.edd_instructions.specs.declared.unit.Sort.TheVariants.{Method}
use Rattle.edd_image.specs.declared.versions.Version.{Version}
use Rattle.edd_image.specs.declared.versions.Version.TheVariants.{Two}
use Rattle.edd_image.specs.Existing.{string_exists}
use Rattle.edd_instructions.specs.Units.{IsValidUnit}
use Rattle.edd_code.specs.Flow.{AreSpelled, all_straight, may_stand}
use Rattle.edd_code.specs.MethodExpressions.{method_block}
use Rattle.edd_code.specs.Numbered.{HasNumbers, IsNumbered}
use Rattle.edd_code.proofs.MethodSizes.{is_short}
use Rattle.edd_code.proofs.MethodSpelling.{method_stands}
use Rattle.edd_code.proofs.Versions.{with_arrays}
use Rattle.edd_methods.specs.MethodCode.{HasBlocks, method_code}
use Rattle.edd_methods.specs.StatementCode.{IsShort}
use Rattle.edd_methods.specs.TreeExpressions.{UnlessAbort, is_abort_call}
use Rattle.edd_methods.proofs.CodeSizes.{body_size}
use Rattle.edd_methods.proofs.ResolvedSlots.{each_slot}
use Rattle.edd_methods.proofs.TreeParts.{each_in_listed}
use Rattle.edd_methods.specs.Statements.{size, unit_code}
use Rattle.edd_methods.proofs.BodyFacts.{BodyFacts}
use Rattle.edd_methods.proofs.NeededVersion.{with_names}
use Rattle.edd_methods.proofs.MethodAgreement.{is_method_code}
use Rattle.edd_methods.proofs.ResolvedExpressions.{any}
use Rattle.edd_methods.proofs.ResolvedStatements.{ReferToExisting}

-- what has a number of the table is a string that exists
strings_there : (context : Context) (strings : List Words) (number : Words → StrNo)
    → context.counts.strings ≡ length strings → (ts : List texts.Text)
    → AllByRecursion (IsNumbered (string_of_table strings) number) ts
    → AllByRecursion (λ t. string_exists context.counts (number (words_of t)) ≡ true) ts
strings_there context strings number long [] h = tt
strings_there context strings number long (t ∷ rest) h =
    let n = number (words_of t) in
    let below = slice_get_within strings n.0 (words_of t) h.0 in (
      lt-ltb n.0 context.counts.strings (omega (arith, below, long)),
      strings_there context strings
          number long rest h.1,
    )

-- the operands of a block are in their ranges, and its instructions may be there
abbrev pub Stands : Context → (number : Words → StrNo) → Expr Target → Type 0
Stands context number e = AreSpelled (method_block number e)
    × (all_straight (may_stand context) (method_block number e) ≡ true)

module _ (version : Version) (counts : Counts) (slots : ℕ)
    (holds_arrays : nat_lt 0 counts.arrays ≡ true → version ≡ Two)
    (strings : List Words) (number : Words → StrNo) (long : counts.strings ≡ length strings)
    (few : length strings ≤ 65536) (variables : counts.variables ≤ 65536)
    (arrays : counts.arrays ≤ 65536) (methods : counts.methods ≤ 65536)
    (few_slots : slots ≤ 65536) where
  abbrev context : Context
  context = record { version = version; counts = counts; sort = Method; slots = slots }

  all_stand : (ps : List (Placed Target))
      → AllByRecursion (λ p. call_mismatches p.is_statement p.expression ≡ []) ps
      → ReferToExisting context ps
      → AllByRecursion (λ p. HasNumbers (string_of_table strings) number p.expression) ps
      → (one_names_it ps ≡ true → version ≡ Two)
      → AllByRecursion (λ p. Stands context number p.expression) ps
  all_stand [] fit refer known second = tt
  all_stand (p ∷ ps) fit refer known second =
      let e = p.expression in
      let there = strings_there context strings number long (expr_texts e) known.0 in
      let x = method_stands version counts slots holds_arrays variables arrays methods
      (omega (arith, long, few)) few_slots number any p.is_statement e fit.0 refer.0 there
      (λ h. second (or_left (names_it e) (one_names_it ps) h)) in (
        (x.spelled, x.named),
        all_stand ps fit.1 refer.1 known.1
            (λ h. second (or_right (names_it e) (one_names_it ps) h)),
      )

module _ (d : Description Target) (m : MethNo) (is : BodyFacts d m) (strings : List Words)
    (few : length strings ≤ 65536) (number : Words → StrNo)
    (known : AllByRecursion (λ p. HasNumbers (string_of_table strings) number p.expression)
    (body_expressions (body_of d m))) where
  pub expressions_stand : AllByRecursion
      (λ p. Stands (method_context d strings (slots_in (body_of d m))) number p.expression)
      (body_expressions (body_of d m))
  expressions_stand =
      let counts = counts_of d.identification d.items (length strings) in
      let variables = is.few_items kind.Variable in
      let arrays = is.few_items kind.Array in
      let methods = is.few_items kind.Method in
      let slots = is.few_slots in
      all_stand (version_for d) counts (slots_in (body_of d m)) (with_arrays d) strings number refl
      few (omega (arith, variables)) (omega (arith, arrays)) (omega (arith, methods))
      (omega (arith, slots)) (body_expressions (body_of d m)) is.fit
      (is.refer counts refl refl refl)
      known (with_names d m)

  pub has_blocks : HasBlocks number (string_of_table strings) (body_of d m)
  has_blocks = record {
    fit = is.fit;
    known = known;
    spelled = each_spelled (body_expressions (body_of d m)) expressions_stand;
  }
    where
      each_spelled : (ps : List (Placed Target))
          → AllByRecursion (λ p. Stands (method_context d strings (slots_in (body_of d m))) number
          p.expression) ps
          → AllByRecursion (λ p. (p.is_statement && is_abort_call p.expression) ≡ false
          → AreSpelled (method_block number p.expression)) ps
      each_spelled [] h = tt
      each_spelled (p ∷ ps) h = (λ _. h.0.0, each_spelled ps h.1)

  pub has_method_code : size (method_code number (body_of d m)) < 2 ^ 31
      → IsValidUnit (method_context d strings (slots_in (body_of d m)))
      (unit_code (method_code number (body_of d m)))
      → IsMethodCode d strings m (slots_in (body_of d m))
      (unit_code (method_code number (body_of d m)))
  has_method_code small valid = is_method_code d strings m number is.slots
      (omega (arith, is.few_slots)) has_blocks small valid

-- ---- how long the code is

all_short : (number : Words → StrNo) (ps : List (Placed Target))
    → AllByRecursion (λ p. call_mismatches p.is_statement p.expression ≡ []) ps
    → AllByRecursion (UnlessAbort (IsShort (method_block number))) ps
all_short number [] fit = tt
all_short number (p ∷ ps) fit = (
  λ _. is_short number p.is_statement p.expression fit.0,
  all_short number ps fit.1,
)

pub code_is_short : (d : Description Target) (m : MethNo) → BodyFacts d m → (number : Words → StrNo)
    → size (method_code number (body_of d m)) ≤ 32 * body_nodes (body_of d m)
code_is_short d m is number =
    let body = body_of d m in
    body_size (method_block number) body
    (each_in_listed (IsShort (method_block number)) body
    (each_slot (slots_in body) (2 ^ 8) (omega (arith, is.few_slots)) body is.slots)
    (all_short number (body_expressions body) is.fit))
