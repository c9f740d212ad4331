-- What is read of an attribute is always the same.
use Rattle.std.proofs.Common.{◌≡◌, ℕ, zero, suc, Bool, true, false, ℤ, List, Option, Some, None, Result, refl, sym, ap, ◌∙◌}
use Rattle.std.specs.Prelude.{option_map}
use Rattle.edd_syntax.specs.declared.answer.Trap.{Trap}
use Rattle.edd_syntax.specs.declared.numbers.AttrRef.{AttrRef}
use Rattle.edd_instructions.specs.declared.records.Record.{Record}
use Rattle.edd_instructions.specs.declared.records.Status.{Status}
use Rattle.edd_instructions.specs.declared.records.Status.TheVariants.{Running, Asking}
use Rattle.edd_image.specs.Contents.{AttributeFields, Contents, contents_in}
use Rattle.edd_instructions.specs.Steps.{State, Environment, Effect, if_running, step}
use Rattle.edd_instructions.specs.Reading.{at_end, given_by, given_within, with_record, Reading, NoItem, Records, default_records, reading_of, is_no_item, row_of, environment_of, opening_of, reading_within, IsReading}

abbrev pub Given : Type 0
Given = Result (List Record) Trap

-- a state at the end has no step
over : (st : Status) (o : Option Effect) (r : Given) → at_end st ≡ Some r → if_running st o ≡ None
over Running o r e = absurd cc
over (Asking q) o r e = absurd cc
over _ o r e = refl

no_step : (env : Environment) (s : State) (r : Given) → at_end s.status ≡ Some r → step env s ≡ None
unfolding step
no_step env s r e = over s.status _ r e

same_some : {A : Type 0} {x y : A} → Some x ≡ Some y → x ≡ y
same_some e = cc

-- two values that come of one function of one value
mapped : {A B : Type 0} (f : A → B) (o p : Option A) (r q : B)
    → ((x y : A) → o ≡ Some x → p ≡ Some y → x ≡ y) → option_map f o ≡ Some r
    → option_map f p ≡ Some q → r ≡ q
mapped f None p r q h e g = absurd cc
mapped f (Some x) None r q h e g = absurd cc
mapped f (Some x) (Some y) r q h e g = sym (same_some e) ∙ ap f (h x y refl refl) ∙ same_some g

one_by_step : (o : Option Effect) (st : Status) (f g : Effect → Option Given) (r q : Given)
    → ((e : Effect) (x y : Given) → f e ≡ Some x → g e ≡ Some y → x ≡ y) → given_by o st f ≡ Some r
    → given_by o st g ≡ Some q → r ≡ q
one_by_step None st f g r q h a b = same_some (sym a ∙ b)
one_by_step (Some e) st f g r q h a b = mapped (with_record e.emitted) (f e) (g e) r q
    (λ x y. h e x y) a b

one_given : (n m : ℕ) (env : Environment) (s : State) (r q : Given) → given_within n env s ≡ Some r
    → given_within m env s ≡ Some q → r ≡ q
unfolding given_within
one_given zero zero env s r q a b = same_some (sym a ∙ b)
one_given zero (suc m) env s r q a b =
    same_some (sym a ∙ ap (λ (o : Option Effect). given_by o s.status
    (λ e. given_within m env e.state)) (sym (no_step env s r a)) ∙ b)
one_given (suc n) zero env s r q a b =
    same_some (sym a ∙ ap (λ (o : Option Effect). given_by o s.status
    (λ e. given_within n env e.state)) (no_step env s q b) ∙ b)
one_given (suc n) (suc m) env s r q a b = one_by_step (step env s) s.status
    (λ e. given_within n env e.state) (λ e. given_within m env e.state) r q
    (λ e x y. one_given n m env e.state x y) a b

one_reading : (n m : ℕ) (c : Contents) (ref : AttrRef) (values : List ℤ) (r q : Reading)
    → reading_within n c ref values ≡ Some r → reading_within m c ref values ≡ Some q → r ≡ q
one_reading n m c ref values r q a b = by_item (is_no_item c ref) a b
  where
    by_row : (o : Option AttributeFields)
        → elim o as (λ x. Option Reading) [
          | None ↦ Some (Records (default_records ref.attr))
          | Some row ↦ option_map (reading_of ref.attr)
              (given_within n (environment_of c) (opening_of c row values))
        ] ≡ Some r
        → elim o as (λ x. Option Reading) [
          | None ↦ Some (Records (default_records ref.attr))
          | Some row ↦ option_map (reading_of ref.attr)
              (given_within m (environment_of c) (opening_of c row values))
        ] ≡ Some q → r ≡ q
    by_row None e g = same_some (sym e ∙ g)
    by_row (Some row) e g = mapped (reading_of ref.attr) _ _ r q
        (λ x y. one_given n m (environment_of c) (opening_of c row values) x y) e g

    by_item : (t : Bool)
        → elim t as (λ x. Option Reading) [
          | true ↦ Some NoItem
          | false ↦ elim (row_of c ref) as (λ x. Option Reading) [
            | None ↦ Some (Records (default_records ref.attr))
            | Some row ↦ option_map (reading_of ref.attr)
                (given_within n (environment_of c) (opening_of c row values))
          ]
        ] ≡ Some r
        → elim t as (λ x. Option Reading) [
          | true ↦ Some NoItem
          | false ↦ elim (row_of c ref) as (λ x. Option Reading) [
            | None ↦ Some (Records (default_records ref.attr))
            | Some row ↦ option_map (reading_of ref.attr)
                (given_within m (environment_of c) (opening_of c row values))
          ]
        ] ≡ Some q → r ≡ q
    by_item true e g = same_some (sym e ∙ g)
    by_item false e g = by_row (row_of c ref) e g

pub unique : (b : List ℕ) (ref : AttrRef) (values : List ℤ) (r q : Reading)
    → IsReading b ref values r → IsReading b ref values q → r ≡ q
unique b ref values r q first second = one_reading first.0 second.0 (contents_in b) ref values r q
    first.1 second.1
