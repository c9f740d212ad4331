-- What is told of attributes without the places: what the rules of the profile say.
use Rattle.std.proofs.Common.{◌≡◌, refl, sym, ap, ◌∙◌, ℕ, Bool, true, false, List, [], ◌∷◌, ◌++◌, map, if◌then◌else◌}
use Rattle.std.specs.List.{flat_map}
use Rattle.std.proofs.lemmas.List.{append-nil}
use Rattle.edd_syntax.specs.declared.numbers.NumberOption.TheVariants as number_option
use Rattle.edd_breaches.specs.Told.{Told, refusals}
use Rattle.edd_syntax.specs.declared.numbers.TokenNo.{TokenNo}
use Rattle.edd_syntax.specs.declared.reference.Target.{Target}
use Rattle.edd_syntax.specs.declared.types.VarType.{VarType}
use Rattle.edd_syntax.specs.declared.expr.Expr.{Expr}
use Rattle.edd_syntax.specs.declared.cond.Cond.{Cond}
use Rattle.edd_syntax.specs.declared.item.Enumerator.{Enumerator}
use Rattle.edd_syntax.specs.declared.item.DataItem.{DataItem}
use Rattle.edd_syntax.specs.declared.item.ArrayElement.{ArrayElement}
use Rattle.edd_syntax.specs.declared.item.Attribute.{Attribute}
use Rattle.edd_syntax.specs.declared.item.Attribute.TheVariants as attribute
use Rattle.edd_syntax.specs.declared.item.TypeWord.TheVariants as word
use Rattle.edd_syntax.specs.declared.item.TypePart.{TypePart}
use Rattle.edd_syntax.specs.declared.item.TypePart.TheVariants as part
use Rattle.edd_syntax.specs.declared.item.TransactionPart.{TransactionPart}
use Rattle.edd_syntax.specs.declared.item.TransactionPart.TheVariants as transaction
use Rattle.edd_syntax.specs.Text.{Name}
use Rattle.edd_syntax.specs.TreeView.{numbered_expr}
use Rattle.edd_syntax.specs.WordsView.{text_of}
use Rattle.edd_syntax.specs.ItemView.{enumerator_of, numbered_cond, numbered_conds, numbered_data_item, numbered_entry, numbered_array_element, numbered_type_part, numbered_transaction_part, numbered_attribute}
use Rattle.edd_syntax.specs.Refusal.{Refusal, Mismatch, DuplicateCase}
use Rattle.edd_syntax.specs.SubsetRules.{Placed, part_of, no_expressions, cond_expressions, conds_expressions, type_part_expressions, transaction_part_expressions, attribute_expressions, call_mismatches, decimals, is_enumerated, part_breaches, type_option_breaches, breaks_outside_in, bodies_in, data_breaches, transaction_part_breaches, attribute_data_breaches, cond_defaults, conds_defaults, type_part_defaults, transaction_part_defaults, repeated_cases, is_number_in, repeated_numbers, repeated_elements, type_breaches, types_in}
use Rattle.edd_types.specs.declared.sought.Sought.{Sought}
use Rattle.edd_types.specs.declared.sought.Calls.TheVariants as calls
use Rattle.edd_types.specs.declared.sought.Sought.TheVariants as sought
use Rattle.edd_breaches.specs.Along.{told_along}
use Rattle.edd_types.specs.Expressions.{expr_told, condition_told}
use Rattle.edd_types.specs.Conditionals.{nothing_told, enumerator_told, data_told, default_told, cond_told}
use Rattle.edd_types.specs.Attributes.{type_part_told, transaction_part_told, conditions_told, method_told}
use Rattle.edd_duplicates.specs.Elements.{element_told, numbers_behind}
use Rattle.edd_types.specs.Rules.{type_told, option_told, options_told, breaks_told_in_method, constants_told, labels_told_in_method, elements_told}
use Rattle.edd_types.proofs.BodyPlaces.{body_breaks_are, body_labels_are}
use Rattle.edd_types.proofs.ConditionPlaces.{cond_is, list_is, gathered_expressions, gathered_values, gathered_defaults}
use Rattle.edd_types.proofs.ExpressionPlaces.{calls_are, decimals_are, body_is}
use Rattle.edd_types.proofs.PlacesForgotten.{if_forgotten, place_forgotten, joined, each_forgotten, all_forgotten}

-- ---- calls and decimals

module _ (b : Sought) (f : Placed Target → List Refusal)
    (same : (is_statement : Bool) (e : Expr Target) → refusals (expr_told b is_statement e)
    ≡ f (record { is_statement = is_statement; expression = numbered_expr e }))
    (conditions : (e : Expr Target) → condition_told b e ≡ expr_told b false e)
    (defaults : (had : Bool) (at : TokenNo) → default_told b had at ≡ [])
    (enumerators : (e : Enumerator) → enumerator_told b e ≡ [])
    (data_items : (d : DataItem Target) → data_told b d ≡ []) where
  test_is : (e : Expr Target) → refusals (condition_told b e)
      ≡ f (record { is_statement = false; expression = numbered_expr e })
  test_is e = ap refusals (conditions e) ∙ same false e

  value_is : (e : Expr Target) → refusals (condition_told b e)
      ≡ flat_map f (part_of (numbered_expr e))
  value_is e = test_is e ∙ sym (append-nil _)

  -- where no value has an expression
  bare_is : {V W : Type 0} (of : V → List Told) (g : V → W) (none : (v : V) → of v ≡ [])
      (x : Cond Target V) → refusals (cond_told b of x)
      ≡ flat_map f (cond_expressions no_expressions (numbered_cond g x))
  bare_is of g none = cond_is b of g (gathered_expressions f no_expressions) test_is
      (λ had at. ap refusals (defaults had at)) (λ v. ap refusals (none v))

  bare_list_is : {V W : Type 0} (of : V → List Told) (g : V → W) (none : (v : V) → of v ≡ [])
      (all : List (Cond Target V)) → refusals (flat_map (cond_told b of) all)
      ≡ flat_map f (conds_expressions no_expressions (numbered_conds g all))
  bare_list_is of g none = list_is b of g (gathered_expressions f no_expressions) test_is
      (λ had at. ap refusals (defaults had at)) (λ v. ap refusals (none v))

  valued_is : (x : Cond Target (Expr Target)) → refusals (cond_told b (condition_told b) x)
      ≡ flat_map f (cond_expressions part_of (numbered_cond numbered_expr x))
  valued_is = cond_is b (condition_told b) numbered_expr (gathered_expressions f part_of) test_is
      (λ had at. ap refusals (defaults had at)) value_is

  type_part_is : (p : TypePart Target) → refusals (type_part_told b p)
      ≡ flat_map f (type_part_expressions (numbered_type_part p))
  type_part_is (part.OneNumber at which value) = valued_is value
  type_part_is (part.OneFormat at which format) = bare_is (nothing_told b) text_of (λ v. refl) format
  type_part_is (part.Element element) = bare_is (enumerator_told b) enumerator_of enumerators element

  transaction_part_is : (p : TransactionPart Target) → refusals (transaction_part_told b p)
      ≡ flat_map f (transaction_part_expressions (numbered_transaction_part p))
  transaction_part_is (transaction.Request at all) = bare_list_is (data_told b)
      numbered_data_item data_items all.items
  transaction_part_is (transaction.Reply at all) = bare_list_is (data_told b)
      numbered_data_item data_items all.items

  expressions_are : (a : Attribute Target) → refusals (method_told b a ++ conditions_told b a)
      ≡ flat_map f (attribute_expressions (numbered_attribute a))
  expressions_are (attribute.OneText at which c) = bare_is (nothing_told b) text_of (λ v. refl) c
  expressions_are (attribute.Handling at c) = bare_is (nothing_told b) (λ v. v) (λ v. refl) c
  expressions_are (attribute.Validity at c) = bare_is (nothing_told b) (λ v. v) (λ v. refl) c
  expressions_are (attribute.TypeOf at type parts) = all_forgotten (type_part_told b)
      numbered_type_part f type_part_expressions type_part_is parts.items
  expressions_are (attribute.Transaction at number parts) = all_forgotten (transaction_part_told b)
      numbered_transaction_part f transaction_part_expressions transaction_part_is parts.items
  expressions_are (attribute.Items at entries) = bare_list_is (nothing_told b) numbered_entry
      (λ v. refl) entries.items
  expressions_are (attribute.Definition at parts) = ap refusals (append-nil _)
      ∙ body_is b f same parts
  expressions_are _ = refl

pub calls_in_attribute : (a : Attribute Target)
    → refusals (method_told (sought.Call calls.All) a ++ conditions_told (sought.Call calls.All) a)
    ≡ flat_map (λ p. call_mismatches p.is_statement p.expression)
    (attribute_expressions (numbered_attribute a))
calls_in_attribute = expressions_are (sought.Call calls.All)
    (λ p. call_mismatches p.is_statement p.expression) calls_are (λ e. refl) (λ had at. refl)
    (λ e. refl) (λ d. refl)

pub decimals_in_attribute : (a : Attribute Target)
    → refusals (method_told sought.Decimal a ++ conditions_told sought.Decimal a)
    ≡ flat_map (λ p. decimals p.expression) (attribute_expressions (numbered_attribute a))
decimals_in_attribute = expressions_are sought.Decimal (λ p. decimals p.expression) decimals_are
    (λ e. refl) (λ had at. refl) (λ e. refl) (λ d. refl)

-- ---- options and enumerators

each_mismatch : {V : Type 0} (all : List V)
    → flat_map (λ e. Mismatch ∷ []) all ≡ map (λ e. Mismatch) all
each_mismatch [] = refl
each_mismatch (e ∷ rest) = ap (λ xs. Mismatch ∷ xs) (each_mismatch rest)

unless : (b : Bool) (xs : List Told) (ps : List Refusal) → refusals xs ≡ ps
    → refusals (if b then [] else xs) ≡ (if b then [] else ps)
unless true xs ps same = refl
unless false xs ps same = same

option_is : (type : VarType) (p : TypePart Target)
    → refusals (option_told type p) ≡ part_breaches type (numbered_type_part p)
option_is type (part.OneNumber at number_option.DefaultValue value) = refl
option_is type (part.OneNumber at number_option.MinValue value) = if_forgotten (is_enumerated type) Mismatch at
option_is type (part.OneNumber at number_option.MaxValue value) = if_forgotten (is_enumerated type) Mismatch at
option_is type (part.OneFormat at which format) = if_forgotten (is_enumerated type) Mismatch at
option_is type (part.Element element) =
    unless (is_enumerated type) _ _ (cond_is sought.Enumerator (enumerator_told sought.Enumerator)
    enumerator_of (gathered_values (λ e. Mismatch ∷ [])) (λ e. refl) (λ had at. refl) (λ e. refl)
    element ∙ each_mismatch _)

pub options_are : (a : Attribute Target)
    → refusals (options_told a) ≡ type_option_breaches (numbered_attribute a)
options_are (attribute.OneText at which c) = refl
options_are (attribute.Class at words) = refl
options_are (attribute.Handling at c) = refl
options_are (attribute.Validity at c) = refl
options_are (attribute.TypeOf at (word.Known type size) parts) = each_forgotten (option_told type)
    numbered_type_part (part_breaches type) (option_is type) parts.items
options_are (attribute.TypeOf at (word.Other text) parts) = refl
options_are (attribute.Number at n) = refl
options_are (attribute.Operation at o) = refl
options_are (attribute.Transaction at number parts) = refl
options_are (attribute.ResponseCodes at codes) = refl
options_are (attribute.Items at entries) = refl
options_are (attribute.Members at members) = refl
options_are (attribute.Elements at elements) = refl
options_are (attribute.Definition at parts) = refl

-- ---- types

pub type_is : (variable : Name) (a : Attribute Target) → refusals (type_told variable a)
    ≡ flat_map (type_breaches variable) (types_in (numbered_attribute a))
type_is variable (attribute.TypeOf at type parts) = place_forgotten _ at ∙ sym (append-nil _)
type_is variable _ = refl

-- ---- `break` and `continue`

pub breaks_in_attribute : (a : Attribute Target) → refusals (breaks_told_in_method a)
    ≡ flat_map (breaks_outside_in false false) (bodies_in (numbered_attribute a))
breaks_in_attribute (attribute.Definition at parts) = body_breaks_are false false parts
    ∙ sym (append-nil _)
breaks_in_attribute _ = refl

-- ---- constants and masks

constants_in_part : (p : TransactionPart Target)
    → refusals (transaction_part_told sought.Constant p)
    ≡ transaction_part_breaches (numbered_transaction_part p)
constants_in_part (transaction.Request at all) = list_is sought.Constant
    (data_told sought.Constant) numbered_data_item (gathered_values data_breaches) (λ e. refl)
    (λ had n. refl) (λ d. place_forgotten _ _ ∙ sym (append-nil _)) all.items
constants_in_part (transaction.Reply at all) = list_is sought.Constant
    (data_told sought.Constant) numbered_data_item (gathered_values data_breaches) (λ e. refl)
    (λ had n. refl) (λ d. place_forgotten _ _ ∙ sym (append-nil _)) all.items

pub constants_are : (a : Attribute Target)
    → refusals (constants_told a) ≡ attribute_data_breaches (numbered_attribute a)
constants_are (attribute.Transaction at number parts) =
    each_forgotten (transaction_part_told sought.Constant) numbered_transaction_part
    transaction_part_breaches constants_in_part parts.items
constants_are _ = refl

-- ---- labels, and a second DEFAULT

defaults_in : {V W : Type 0} (of : V → List Told) (g : V → W) (none : (v : V) → of v ≡ [])
    (x : Cond Target V) → refusals (cond_told sought.Default of x) ≡ cond_defaults (numbered_cond g x)
defaults_in of g none = cond_is sought.Default of g gathered_defaults (λ e. refl)
    (λ had at. if_forgotten had DuplicateCase at) (λ v. ap refusals (none v))

defaults_in_list : {V W : Type 0} (of : V → List Told) (g : V → W) (none : (v : V) → of v ≡ [])
    (all : List (Cond Target V)) → refusals (flat_map (cond_told sought.Default of) all)
    ≡ conds_defaults (numbered_conds g all)
defaults_in_list of g none = list_is sought.Default of g gathered_defaults (λ e. refl)
    (λ had at. if_forgotten had DuplicateCase at) (λ v. ap refusals (none v))

defaults_in_type_part : (p : TypePart Target) → refusals (type_part_told sought.Default p)
    ≡ type_part_defaults (numbered_type_part p)
defaults_in_type_part (part.OneNumber at which c) = defaults_in (condition_told sought.Default)
    numbered_expr (λ v. refl) c
defaults_in_type_part (part.OneFormat at which c) = defaults_in (nothing_told sought.Default)
    text_of (λ v. refl) c
defaults_in_type_part (part.Element c) = defaults_in (enumerator_told sought.Default)
    enumerator_of (λ v. refl) c

defaults_in_transaction_part : (p : TransactionPart Target)
    → refusals (transaction_part_told sought.Default p)
    ≡ transaction_part_defaults (numbered_transaction_part p)
defaults_in_transaction_part (transaction.Request at all) = defaults_in_list
    (data_told sought.Default) numbered_data_item (λ d. refl) all.items
defaults_in_transaction_part (transaction.Reply at all) = defaults_in_list
    (data_told sought.Default) numbered_data_item (λ d. refl) all.items

pub cases_are : (a : Attribute Target)
    → refusals (labels_told_in_method a ++ conditions_told sought.Default a)
    ≡ repeated_cases (numbered_attribute a)
cases_are (attribute.OneText at which c) = defaults_in (nothing_told sought.Default) text_of
    (λ v. refl) c
cases_are (attribute.Handling at c) = defaults_in (nothing_told sought.Default) (λ v. v)
    (λ v. refl) c
cases_are (attribute.Validity at c) = defaults_in (nothing_told sought.Default) (λ v. v)
    (λ v. refl) c
cases_are (attribute.TypeOf at type parts) = each_forgotten (type_part_told sought.Default)
    numbered_type_part type_part_defaults defaults_in_type_part parts.items
cases_are (attribute.Transaction at number parts) =
    each_forgotten (transaction_part_told sought.Default) numbered_transaction_part
    transaction_part_defaults defaults_in_transaction_part parts.items
cases_are (attribute.Items at entries) = defaults_in_list (nothing_told sought.Default)
    numbered_entry (λ v. refl) entries.items
cases_are (attribute.Definition at parts) = ap refusals (append-nil _) ∙ body_labels_are parts
cases_are _ = refl

-- ---- elements

numbers_are : (before : List ℕ) (all : List (ArrayElement Target))
    → refusals (told_along element_told numbers_behind before all)
    ≡ repeated_numbers before (map numbered_array_element all)
numbers_are before [] = refl
numbers_are before (e ∷ rest) = joined _ _ _ _ (if_forgotten (is_number_in before e.number) _ e.at)
    (numbers_are (e.number ∷ before) rest)

pub elements_are : (a : Attribute Target)
    → refusals (elements_told a) ≡ repeated_elements (numbered_attribute a)
elements_are (attribute.Elements at elements) = numbers_are [] elements.items
elements_are _ = refl
