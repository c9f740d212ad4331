-- What an image that agrees with a unit plays is what the unit's method does.
use Rattle.std.proofs.Common.{◌≡◌, ◌≢◌, refl, sym, ap, subst, ◌∙◌, ℕ, ◌+◌, ◌-◌, ◌≤◌, Bool, true, false, cond, nat_eq, ℤ, List, Option, Some, None, ◌⊎◌, inl, inr, arith}
use Rattle.std.specs.Prelude.{option_map}
use Rattle.std.specs.List.{AllByRecursion, list_all}
use Rattle.std.specs.Option.{option_map_or}
use Rattle.std.proofs.lemmas.Bool.{and_parts, cases_lt, eqb-true}
use Rattle.edd_syntax.specs.declared.numbers.Attr.{Attr}
use Rattle.edd_syntax.specs.declared.numbers.Attr.TheVariants as attr
use Rattle.edd_syntax.specs.declared.numbers.ItemNo.{ItemNo}
use Rattle.edd_syntax.specs.declared.numbers.ItemNo.TheVariants as items
use Rattle.edd_syntax.specs.declared.numbers.MethNo.{MethNo}
use Rattle.edd_syntax.specs.declared.reference.Target.{Target}
use Rattle.edd_syntax.specs.Text.{Name}
use Rattle.edd_syntax.specs.Item.{Item, Description}
use Rattle.edd_syntax.specs.Numbers.{attr_from_number, item_from_numbers}
use Rattle.edd_syntax.specs.Answers.{Answer, SetFault, IsValidAnswer}
use Rattle.edd_syntax.specs.DeviceValues.{VariableType, AreDeviceValues}
use Rattle.edd_syntax.specs.Device.{environment, item_at}
use Rattle.edd_syntax.specs.Execution as source
use Rattle.edd_syntax.specs.Execution.{Transcript, run}
use Rattle.edd_image.specs.declared.parts.Counts.{Counts}
use Rattle.edd_image.specs.Contents.{AttributeFields, Contents, contents_in}
use Rattle.edd_image.specs.Existing.{item_exists}
use Rattle.edd_instructions.specs.declared.rules.Rule.TheVariants as rule
use Rattle.edd_instructions.specs.AbortMethods.{start_in, next, execute_in}
use Rattle.edd_instructions.specs.Agreement.{string_numbered}
use Rattle.edd_instructions.specs.Execution as image
use Rattle.edd_instructions.specs.Execution.{Outcome, resumed_following}
use Rattle.edd_instructions.specs.MethodAgreement.{Agrees, AgreesOnRuns, SameOutcome, SameRequests, ending_of}
use Rattle.edd_instructions.specs.Reading.{body_of, environment_of, is_row_of, opening_of}
use Rattle.edd_instructions.specs.Steps.{State}
use Rattle.edd_instructions.specs.Validity.{IsValid, has_attribute, is_attribute_row}
use Rattle.edd_instructions.proofs.Cutting.{cut}
use Rattle.edd_instructions.proofs.NextMethods.{next_asks_nothing}
use Rattle.edd_instructions.proofs.StaysOver.{stays_over_following}
use Rattle.edd_loader.proofs.LookupLaws.{all_at}
use Rattle.edd_loader.proofs.RowRules.{row_rules}
use Rattle.edd_machine.specs.Types.{types_in}
use Rattle.edd_promise.specs.Plays.{BeginsWith}
use Rattle.edd_machine.proofs.AttributeReadings.{stands}

-- the method of a row that is a body exists
by_numbers : (counts : Counts) (m : MethNo) (kind attribute item sub : ℕ) → kind ≡ 5
    → attribute ≡ 21 → item ≡ m.0
    → option_map_or (λ (i : ItemNo). option_map_or (λ (a : Attr). has_attribute counts i a sub)
    (attr_from_number attribute) false) (item_from_numbers kind item) false ≡ true
    → item_exists counts (items.Method m) ≡ true
by_numbers counts m kind attribute item sub is_method is_body is_it h =
    let at_kind = subst (λ (k : ℕ). option_map_or (λ (i : ItemNo). option_map_or
    (λ (a : Attr). has_attribute counts i a sub) (attr_from_number attribute) false)
    (item_from_numbers k item) false ≡ true) is_method h in
    let at_body = subst (λ (k : ℕ). option_map_or (λ (i : ItemNo). option_map_or
    (λ (a : Attr). has_attribute counts i a sub) (attr_from_number k) false)
    (item_from_numbers 5 item) false ≡ true) is_body at_kind in
    let at_item = subst (λ (k : ℕ). option_map_or (λ (i : ItemNo). option_map_or
    (λ (a : Attr). has_attribute counts i a sub) (attr_from_number 21) false)
    (item_from_numbers 5 k) false ≡ true) is_it at_body in
    (and_parts (item_exists counts (items.Method m)) _ at_item).0

pub body_exists : (b : List ℕ) (m : MethNo) (row : AttributeFields) → IsValid b
    → body_of (contents_in b) m ≡ Some row
    → item_exists (contents_in b).counts (items.Method m) ≡ true
body_exists b m row valid found =
    let c = contents_in b in
    let at = stands (is_row_of (items.Method m) attr.Definition) c.attributes row found in
    let kind = and_parts (nat_eq row.kind 5) _ at.2 in
    let rest = and_parts (nat_eq row.attribute 21) _ kind.1 in
    let all = (and_parts (list_all (is_attribute_row c.counts) c.attributes) _
    (row_rules c (valid rule.Row)).attributes).0 in
    let kept = all_at (is_attribute_row c.counts) c.attributes at.0 row all at.1 in
    by_numbers c.counts m row.kind row.attribute row.item row.sub (eqb-true row.kind 5 kind.0)
    (eqb-true row.attribute 21 rest.0) (eqb-true row.item m.0 rest.1)
    (and_parts _ (nat_eq row.padding 0) kept).0

-- a run of the source is out of turns or not
out_or_over : (e : source.Ending) → (e ≡ source.OutOfTurns) ⊎ (e ≢ source.OutOfTurns)
out_or_over source.OutOfTurns = inl refl
out_or_over _ = inr (λ e. cc)

-- one that isn't out of turns doesn't go on
pub not_out : (e : source.Ending) → e ≢ source.OutOfTurns → ending_of e ≢ image.OutOfSteps
not_out source.OutOfTurns h = absurd (h refl)
not_out _ h = λ e. cc

pub never_bad : (e : source.Ending) (f : SetFault) → ending_of e ≡ image.Bad f → ⊥
never_bad source.Ended f e = cc
never_bad _ f e = cc

either_order : (m k : ℕ) → (m ≤ k) ⊎ (k ≤ m)
either_order m k = elim (cases_lt m k) [ inl below ↦ inl (omega arith) | inr above ↦ inr above ]

unnamed : (t : Bool) (x : Option Name) → t ≡ false → cond t x None ≡ None
unnamed true x e = absurd cc
unnamed false x e = refl

module _ (unit : Description Target) (b : List ℕ) (valid : IsValid b)
    (agrees : Agrees unit (contents_in b)) where
  abbrev c : Contents
  c = contents_in b

  abbrev Valid : List Answer → Type 0
  Valid answers = AllByRecursion (IsValidAnswer (types_in b)) answers

  abbrev source_of : MethNo → (turns : ℕ) → List ℤ → List Answer → Transcript
  source_of m n values answers = run n unit m values answers

  abbrev machine_of : AttributeFields → (steps : ℕ) → List ℤ → List Answer → Outcome
  machine_of row k values answers = execute_in c k (opening_of c row values) answers

  agreed : (m : MethNo) (row : AttributeFields) → body_of c m ≡ Some row
      → AgreesOnRuns (string_numbered c) (environment unit).variables (source_of m)
      (machine_of row)
  agreed m row found =
      let there = agrees.on_methods m (body_exists b m row valid found) in
      let one' : Some there.row ≡ Some row = sym there.found ∙ found in
      let one : there.row ≡ row = cc in
      subst (λ (r : AttributeFields). AgreesOnRuns (string_numbered c)
      (environment unit).variables (source_of m) (machine_of r)) one there.agrees

  module _ (m : MethNo) (row : AttributeFields) (found : body_of c m ≡ Some row)
      (values : List ℤ) (answers : List Answer) (are : AreDeviceValues (types_in b) values)
      (all : Valid answers) where
    device : AreDeviceValues (environment unit).variables values
    device = subst (λ (ts : List VariableType). AreDeviceValues ts values) agrees.on_data.types are

    all_of_unit : AllByRecursion (IsValidAnswer (environment unit).variables) answers
    all_of_unit = subst (λ (ts : List VariableType). AllByRecursion (IsValidAnswer ts) answers)
        agrees.on_data.types all

    abbrev Same : (turns steps : ℕ) → Type 0
    Same n k = SameOutcome (string_numbered c) (source_of m n values answers)
        (machine_of row k values answers)

    pub over : (k : ℕ) → (machine_of row k values answers).ending ≢ image.OutOfSteps
        → (n : ℕ) × Same n k
    over k is = (agreed m row found).backward values answers device all_of_unit k is

    pub plays : (n : ℕ) → (source_of m n values answers).ending ≢ source.OutOfTurns
        → (k : ℕ) × Same n k
    plays n is = (agreed m row found).forward values answers device all_of_unit n is

    pub plays_on : (n : ℕ) → (source_of m n values answers).ending ≡ source.OutOfTurns
        → (k : ℕ) × (n ≤ k) × Same n k
    plays_on n is = (agreed m row found).in_progress values answers device all_of_unit n is

    -- more steps result in the same where the run is over
    pub stays : (k j : ℕ) → k ≤ j → (machine_of row k values answers).ending ≢ image.OutOfSteps
        → machine_of row j values answers ≡ machine_of row k values answers
    stays k j le is = stays_over_following (next (start_in c)) (environment_of c) k j le
        (opening_of c row values) answers is

    -- a run that is out of steps has made the first requests and changes of the method
    abbrev Begins : Outcome → Type 0
    Begins o = BeginsWith (string_numbered c) unit m values answers o.requests o.changes

    begins_by : (k j n : ℕ) → k ≤ j
        → (machine_of row k values answers).ending ≡ image.OutOfSteps → Same n j
        → Begins (machine_of row k values answers)
    begins_by k j n le out same =
        let s : State = opening_of c row values in
        let whole : k + (j - k) ≡ j = omega arith in
        let rest : Outcome = execute_in c (j - k) (machine_of row k values answers).state
        (machine_of row k values answers).answers in
        let here : machine_of row j values answers
        ≡ resumed_following (next (start_in c)) (environment_of c) (j - k)
        (machine_of row k values answers) =
        ap (λ (i : ℕ). execute_in c i s answers) (sym whole)
        ∙ cut (next (start_in c)) (next_asks_nothing (start_in c)) (environment_of c) k (j - k) s
        answers out in record {
          turns = n;
          more = rest.requests;
          later = rest.changes;
          requests = subst (λ (o : Outcome). SameRequests (string_numbered c)
              (source_of m n values answers).requests o.requests) here same.requests;
          changes = sym same.changes ∙ ap (λ (o : Outcome). o.changes) here;
        }

    pub begins : (k : ℕ) → (machine_of row k values answers).ending ≡ image.OutOfSteps
        → Begins (machine_of row k values answers)
    begins k out = by_turns (out_or_over (source_of m k values answers).ending)
      where
        by_order : (j : ℕ) → Same k j
            → (source_of m k values answers).ending ≢ source.OutOfTurns
            → (k ≤ j) ⊎ (j ≤ k) → Begins (machine_of row k values answers)
        by_order j same ended (inl le) = begins_by k j k le out same
        by_order j same ended (inr le) =
            let never : (machine_of row j values answers).ending ≢ image.OutOfSteps =
            λ e. not_out (source_of m k values answers).ending ended (sym same.ending ∙ e) in
            absurd (never (ap (λ (o : Outcome). o.ending) (sym (stays j k le never)) ∙ out))

        by_turns : ((source_of m k values answers).ending ≡ source.OutOfTurns)
            ⊎ ((source_of m k values answers).ending ≢ source.OutOfTurns)
            → Begins (machine_of row k values answers)
        by_turns (inl going) = let on = plays_on k going in begins_by k on.0 k on.1 out on.2
        by_turns (inr ended) = let on = plays k ended in
            by_order on.0 on.1 ended (either_order k on.0)

  -- a method without a body in the image is none of the unit
  none_named : (o : Option (Item Target)) → None ≡ option_map (λ i. i.name) o → o ≡ None
  none_named None e = refl
  none_named (Some i) e = absurd cc

  pub no_such_method : (m : MethNo) → body_of c m ≡ None → item_at unit (items.Method m) ≡ None
  no_such_method m none = by_item (item_exists c.counts (items.Method m)) refl
    where
      by_item : (t : Bool) → item_exists c.counts (items.Method m) ≡ t
          → item_at unit (items.Method m) ≡ None
      by_item true is =
          let there = agrees.on_methods m is in
          let clash : None ≡ Some there.row = sym none ∙ there.found in
          absurd cc
      by_item false is =
          none_named (item_at unit (items.Method m))
          (sym (unnamed (item_exists c.counts (items.Method m)) _ is)
          ∙ agrees.on_data.names (items.Method m))
