-- The worked image with a loop does what a method that never ends does; with an end in its place it
-- doesn't.
use Rattle.std.proofs.Common.{◌≡◌, refl, sym, ap, subst, ◌∙◌, ℕ, zero, suc, ℤ, List, [], ◌∷◌, Option, Some, arith}
use Rattle.std.proofs.lemmas.Bool.Decides.{nat_tests}
use Rattle.std.specs.Prelude.{nat_lt, IsTrue}
use Rattle.edd_syntax.specs.declared.numbers.MethNo.{MethNo}
use Rattle.edd_syntax.specs.Answers.{Answer}
use Rattle.edd_syntax.specs.Device.{environment}
use Rattle.edd_syntax.specs.Expression.{Literal}
use Rattle.edd_syntax.specs.Statement.{Nil, While, Block, slots_in}
use Rattle.edd_syntax.specs.TwosComplement.{wrap}
use Rattle.edd_syntax.specs.MethodState as source
use Rattle.edd_syntax.specs.MethodState.{State, Stopped}
use Rattle.edd_syntax.specs.Evaluation.{evaluate}
use Rattle.edd_syntax.specs.Execution as run
use Rattle.edd_syntax.specs.Execution.{Transcript, execute, turns}
use Rattle.edd_instructions.specs.declared.unit.Sort.TheVariants as sort
use Rattle.edd_image.specs.Contents.{AttributeFields, contents_in, rows_from}
use Rattle.edd_image.specs.Front.{number_from}
use Rattle.edd_instructions.specs.Decoding.{instruction_at, instruction_from, basic_from, unary_of, jump_from}
use Rattle.edd_image.specs.Fields.{number_at, variable_rows_start, name_rows_start, attribute_rows_start, element_rows_start, code_start, string_rows_start, name_bytes_start, string_bytes_start, sections_end}
use Rattle.edd_instructions.specs.Steps as steps
use Rattle.edd_instructions.specs.Steps.{Environment, opening, act, step}
use Rattle.edd_instructions.specs.Execution as image
use Rattle.edd_instructions.specs.Execution.{Ended, OutOfSteps, Outcome, preceded, stepped}
use Rattle.edd_instructions.specs.Reading as reading
use Rattle.edd_instructions.specs.AbortMethods.{Start, next, start_in, execute_in}
use Rattle.edd_instructions.specs.Agreement.{string_numbered}
use Rattle.edd_instructions.specs.MethodAgreement.{ending_of, SameOutcome, AgreesOnMethod, AgreesOnMethods}
use Rattle.edd_instructions.specs.Worked.{loop_image}
use Rattle.edd_instructions.specs.WorkedMethods.{loop_unit, end_image}

abbrev first : MethNo
first = record { 0 = 0 }

-- ---- the source goes on, however many turns there are

loop_goes_on : (n : ℕ) (s : State) → execute (environment loop_unit) (While (Literal 1) (Block Nil))
    n s ≡ Stopped source.OutOfTurns s
unfolding execute turns evaluate wrap
loop_goes_on zero s = refl
loop_goes_on (suc n) s = loop_goes_on n s

abbrev in_turns : List ℤ → List Answer → Transcript
in_turns values answers = record {
  requests = [];
  changes = [];
  values = values;
  abort_methods = [];
  answers = answers;
  ending = run.OutOfTurns;
}

source_goes_on : (n : ℕ) (values : List ℤ) (answers : List Answer)
    → run.run n loop_unit first values answers ≡ in_turns values answers
unfolding run.run execute slots_in
source_goes_on n values answers =
    ap (λ o. run.ended (run.after_body n loop_unit
    (source.and_then o (run.next (source.pure run.Normal)))))
    (loop_goes_on n (run.opening 0 values answers))

-- ---- so does the machine, however many steps

abbrev looping : List ℤ → steps.State
looping values = opening
    (record { sort = sort.Method; code = 0x30 ∷ 0x00 ∷ 0x00 ∷ 0x00 ∷ 0x00 ∷ [] }) 0 values

abbrev in_steps : ℕ → List ℤ → List Answer → Outcome
in_steps k values answers = record {
  requests = [];
  changes = [];
  state = looping values;
  answers = answers;
  ending = OutOfSteps;
  steps = k;
}

machine_goes_on : (start_of : MethNo → Option Start) (env : Environment) (k : ℕ)
    (values : List ℤ) (answers : List Answer)
    → image.execute_following (next start_of) env k (looping values) answers
    ≡ in_steps k values answers
unfolding image.execute_following step act instruction_at instruction_from basic_from
    unary_of jump_from number_from
machine_goes_on start_of env zero values answers = refl
machine_goes_on start_of env (suc k) values answers =
    ap (λ (o : Outcome). stepped (preceded [] [] o)) (machine_goes_on start_of env k values answers)

-- ---- the row of the body

abbrev body : AttributeFields
body = record {
  kind = 5;
  attribute = 21;
  item = 0;
  sub = 0;
  padding = 0;
  span = record { start = 0; size = 5 };
}

loop_found : reading.body_of (contents_in loop_image) first ≡ Some body
unfolding contents_in rows_from number_at variable_rows_start name_rows_start attribute_rows_start
    element_rows_start code_start
    string_rows_start name_bytes_start string_bytes_start sections_end
loop_found = refl

loop_opens : (values : List ℤ) → reading.opening_of (contents_in loop_image) body values
    ≡ looping values
unfolding contents_in rows_from number_at variable_rows_start name_rows_start attribute_rows_start
    element_rows_start code_start
    string_rows_start name_bytes_start string_bytes_start sections_end
loop_opens values = refl

-- ---- the image does what the method does

goes_on_so : (k : ℕ) (values : List ℤ) (answers : List Answer)
    → execute_in (contents_in loop_image) k
    (reading.opening_of (contents_in loop_image) body values) answers
    ≡ in_steps k values answers
goes_on_so k values answers =
    ap (λ (s : steps.State). execute_in (contents_in loop_image) k s answers) (loop_opens values)
    ∙ machine_goes_on (start_in (contents_in loop_image))
    (reading.environment_of (contents_in loop_image)) k values answers

loop_agrees : AgreesOnMethod loop_unit (contents_in loop_image) first
loop_agrees = record {
  row = body;
  found = loop_found;
  agrees = record {
    forward = λ values answers are valid n over. absurd
        (over (ap (λ (t : Transcript). t.ending) (source_goes_on n values answers)));
    backward = λ values answers are valid k over.
        absurd (over (ap (λ (o : Outcome). o.ending)
        (goes_on_so k values answers)));
    in_progress = λ values answers are valid n e. (n, omega arith, same n values answers);
  };
}
  where
    same : (n : ℕ) (values : List ℤ) (answers : List Answer)
        → SameOutcome (string_numbered (contents_in loop_image))
        (run.run n loop_unit first values answers)
        (execute_in (contents_in loop_image) n
        (reading.opening_of (contents_in loop_image) body values) answers)
    same n values answers =
        subst (λ (t : Transcript). SameOutcome (string_numbered (contents_in loop_image)) t
        (execute_in (contents_in loop_image) n
        (reading.opening_of (contents_in loop_image) body values) answers))
        (sym (source_goes_on n values answers))
        (subst (λ (o : Outcome). SameOutcome (string_numbered (contents_in loop_image))
        (in_turns values answers) o)
        (sym (goes_on_so n values answers))
        (record {
          requests = tt;
          changes = refl;
          values = refl;
          abort_methods = refl;
          answers = refl;
          ending = refl;
        }))

one_method : (contents_in loop_image).counts.methods ≡ 1
unfolding contents_in rows_from number_at variable_rows_start name_rows_start attribute_rows_start
    element_rows_start code_start
    string_rows_start name_bytes_start string_bytes_start sections_end
one_method = refl

by_number : (n : ℕ) → IsTrue (nat_lt n 1)
    → AgreesOnMethod loop_unit (contents_in loop_image) (record { 0 = n })
by_number zero h = loop_agrees
by_number (suc n) h = absurd (grind (arith, nat_tests))

pub methods_agree : AgreesOnMethods loop_unit (contents_in loop_image)
methods_agree method there =
    by_number method.0 (subst (λ (k : ℕ). IsTrue (nat_lt method.0 k)) one_method there)

-- ---- an end doesn't

end_found : reading.body_of (contents_in end_image) first ≡ Some body
unfolding contents_in rows_from number_at variable_rows_start name_rows_start attribute_rows_start
    element_rows_start code_start
    string_rows_start name_bytes_start string_bytes_start sections_end
end_found = refl

ends : (execute_in (contents_in end_image) 1
    (reading.opening_of (contents_in end_image) body []) []).ending ≡ Ended
unfolding image.execute_following step act instruction_at instruction_from basic_from
    contents_in rows_from number_at variable_rows_start name_rows_start attribute_rows_start
    element_rows_start code_start
    string_rows_start name_bytes_start string_bytes_start sections_end
ends = refl

one_method_ends : (contents_in end_image).counts.methods ≡ 1
unfolding contents_in rows_from number_at variable_rows_start name_rows_start attribute_rows_start
    element_rows_start code_start
    string_rows_start name_bytes_start string_bytes_start sections_end
one_method_ends = refl

ended_is_not_out : Ended ≡ OutOfSteps → ⊥
ended_is_not_out e = cc

pub not_by_an_end : AgreesOnMethods loop_unit (contents_in end_image) → ⊥
not_by_an_end h =
    let here = h first (subst (λ (k : ℕ). IsTrue (nat_lt 0 k)) (sym one_method_ends) refl) in
    let is_body : body ≡ here.row = some_same (sym end_found ∙ here.found) in
    let over = subst (λ (r : AttributeFields).
    (execute_in (contents_in end_image) 1
    (reading.opening_of (contents_in end_image) r []) []).ending ≡ Ended) is_body ends in
    let back = here.agrees.backward [] [] tt tt 1 (λ e. ended_is_not_out (sym over ∙ e)) in
    ended_is_not_out (sym over ∙ back.1.ending ∙ ap (λ (t : Transcript). ending_of t.ending)
    (source_goes_on back.0 [] []))
  where
    some_same : {x y : AttributeFields} → Some x ≡ Some y → x ≡ y
    some_same e = cc
