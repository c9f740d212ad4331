-- The worked image whose loop asks and stores does what its method does, and the two wrong images
-- don't.
use Rattle.std.proofs.Common.{◌≡◌, refl, sym, ap, subst, ◌∙◌, ℕ, zero, suc, ◌≤◌, ℤ, pos, Bool, true, false, List, [], ◌∷◌, ◌++◌, Option, Some, None, append_assoc, append-nil, arith}
use Rattle.std.specs.Prelude.{◌+ℤ◌, slice_set, codes, if◌then◌else◌, ◌≢◌, IsTrue, nat_lt, FitsSigned}
use Rattle.std.specs.Int.{w32}
use Rattle.std.specs.Str.{is_utf8, chars}
use Rattle.std.specs.Char.{encode_utf8}
use Rattle.std.specs.List.{AllByRecursion}
use Rattle.std.proofs.lemmas.Bool.Decides.{nat_tests}
use Rattle.edd_syntax.specs.declared.numbers.MethNo.{MethNo}
use Rattle.edd_syntax.specs.declared.numbers.StrNo.{StrNo}
use Rattle.edd_syntax.specs.Text.{Quoted}
use Rattle.edd_syntax.specs.Answers.{Change, Answer, Go, Abort, values_set, IsValidAnswer}
use Rattle.edd_syntax.specs.Device.{environment}
use Rattle.edd_syntax.specs.DeviceValues.{value_at}
use Rattle.edd_syntax.specs.declared.types.VarType.TheVariants.{UnsignedInteger}
use Rattle.edd_syntax.specs.declared.operators.Comparison.TheVariants.{Less}
use Rattle.edd_syntax.specs.TwosComplement.{wrap, store, operate, compare, apply, is_zero}
use Rattle.edd_syntax.specs.Words.{Words, words_of, pieces, unescape}
use Rattle.edd_syntax.specs.Statement.{Nil, Cons, Statement, Evaluate, slots_in}
use Rattle.edd_syntax.specs.MethodState as source
use Rattle.edd_syntax.specs.MethodState.{State, apply_sets, pure, ◌>>=◌, ◌>>◌, and_then}
use Rattle.edd_syntax.specs.Evaluation.{evaluate, call}
use Rattle.edd_syntax.specs.Execution as run
use Rattle.edd_syntax.specs.Execution.{Transcript, Completion, Normal, execute, execute_all, turns, next, next_turn}
use Rattle.edd_syntax.specs.declared.operators.RequestKind.TheVariants as kind
use Rattle.edd_instructions.specs.declared.requests.Request.{Request}
use Rattle.edd_instructions.specs.declared.requests.Request.TheVariants as requests
use Rattle.edd_instructions.specs.declared.records.Status.TheVariants as status
use Rattle.edd_instructions.specs.declared.unit.Sort.TheVariants as sort
use Rattle.edd_image.specs.Front.{byte_from, number_from}
use Rattle.edd_instructions.specs.Decoding.{operator_of, comparison_of, instruction_at, instruction_from, basic_from, unary_of, jump_from, ask_of, ask_from}
use Rattle.edd_instructions.specs.Steps as steps
use Rattle.edd_instructions.specs.Steps.{Environment, act, step}
use Rattle.edd_instructions.specs.Execution as image
use Rattle.edd_instructions.specs.Execution.{Outcome, preceded, stepped}
use Rattle.edd_instructions.specs.Reading as reading
use Rattle.edd_image.specs.Contents.{AttributeFields, Contents, contents_in, rows_from}
use Rattle.edd_image.specs.Fields.{number_at, variable_rows_start, name_rows_start, attribute_rows_start, element_rows_start, code_start, string_rows_start, name_bytes_start, string_bytes_start, sections_end}
use Rattle.edd_image.specs.Strings.{string_in, variants_from}
use Rattle.edd_instructions.specs.Agreement.{machine_of, string_numbered}
use Rattle.edd_instructions.specs.MethodAgreement.{ending_of, SameRequests, SameOutcome, AgreesOnMethod, AgreesOnMethods}
use Rattle.edd_instructions.proofs.FollowedRuns.{follows_agrees}
use Rattle.edd_instructions.specs.AbortMethods.{start_in, execute_in}
use Rattle.edd_instructions.specs.AbortMethods as abort_methods
use Rattle.edd_instructions.proofs.Followed.{still_waits, answer_met, stays}
use Rattle.edd_instructions.proofs.NextMethods.{next_asks_nothing}
use Rattle.edd_instructions.specs.WorkedMethods.{x, y, test, increased, set, turn, asking_unit, image_with, asking_code, asking_image, exchanged_code, unasked_code}

-- ---- the source

-- what both sides keep of x + 1, and of 2
abbrev one_more : List ℤ → ℤ
one_more values = store UnsignedInteger 1 (wrap 32 (wrap 32 (value_at values x) +ℤ wrap 32 (pos 1)))

abbrev two : ℤ
two = store UnsignedInteger 1 (wrap 32 (pos 2))

-- the test is 0
abbrev is_done : List ℤ → Bool
is_done values = is_zero (compare Less (wrap 32 (value_at values x)) (wrap 32 (pos 1)))

abbrev stored : List ℤ → List Change
stored values = record { variable = x; value = one_more values }
    ∷ record { variable = y; value = two } ∷ []

abbrev after_turn : List ℤ → List ℤ
after_turn values = slice_set (slice_set values 0 (one_more values)) 1 two

abbrev says : Words
says = words_of (Quoted (codes "a"))

abbrev puts : source.Request
puts = record { kind = kind.PutMessage; arguments = source.TextArgument says ∷ [] }

abbrev st : List ℤ → List source.Request → List Change → List Answer → State
st values requests changes answers =
    record {
      slots = [];
      values = values;
      abort_methods = [];
      is_aborting = false;
      requests = requests;
      changes = changes;
      answers = answers;
    }

-- the loop with n turns, where loops in its body have m
abbrev loop : (n m : ℕ) → source.Action Completion
loop n m =
    turns n (evaluate (environment asking_unit) test) (execute (environment asking_unit) turn m)
    (pure (pos 0))

abbrev loop_run : (n m : ℕ) → State → Transcript
loop_run n m s =
    run.ended (run.after_body m asking_unit (and_then (loop n m s) (next (pure Normal))))

-- after the answer
abbrev behind : (n m : ℕ) → State → Transcript
behind n m s =
    run.ended
    (run.after_body m asking_unit
    (and_then
    (and_then
    (execute_all (environment asking_unit)
    (Cons (Statement (Evaluate increased)) (Cons (Statement (Evaluate set)) Nil)) m s)
    (next_turn (pure (pos 0) >> loop n m))) (next (pure Normal))))

sets_applied : (sets : List Change) (s : State)
    → apply_sets sets s
    ≡ record s { values = values_set s.values sets; changes = s.changes ++ sets }
sets_applied [] s = ap (λ (c : List Change). record s { changes = c }) (sym (append-nil s.changes))
sets_applied (set ∷ rest) s =
    sets_applied rest (source.change set.variable set.value s)
    ∙ ap (λ (c : List Change). record s
    { values = values_set (slice_set s.values set.variable.0 set.value) rest; changes = c })
    (append_assoc s.changes (set ∷ []) rest)

module _ (n m : ℕ) (values : List ℤ) (asked : List source.Request) (changed : List Change) where
  abbrev branch : Bool → List Answer → Transcript
  branch b answers =
      run.ended
      (run.after_body m asking_unit
      (and_then
      ((elim b as (λ w. source.Action Completion) [
        | true ↦ pure Normal
        | false ↦ execute (environment asking_unit) turn m >>= next_turn (pure (pos 0) >> loop n m)
      ])
      (st values asked changed answers)) (next (pure Normal))))

  source_ends : (answers : List Answer) → is_done values ≡ true
      → loop_run (suc n) m (st values asked changed answers)
      ≡ run.transcript run.Ended (st values asked changed answers)
  unfolding turns evaluate
  source_ends answers is = ap (λ b. branch b answers) is

  source_waits : is_done values ≡ false → loop_run (suc n) m (st values asked changed [])
      ≡ run.transcript run.Waiting (st values (asked ++ puts ∷ []) changed [])
  unfolding turns evaluate call execute
  source_waits is = ap (λ b. branch b []) is

  source_aborts : (rest : List Answer) → is_done values ≡ false
      → loop_run (suc n) m (st values asked changed (Abort ∷ rest))
      ≡ run.transcript run.Aborted (st values (asked ++ puts ∷ []) changed rest)
  unfolding turns evaluate call execute run.run_listed
  source_aborts rest is = ap (λ b. branch b (Abort ∷ rest)) is

  source_asks : (code : ℤ) (sets : List Change) (rest : List Answer) → is_done values ≡ false
      → loop_run (suc n) m (st values asked changed (Go code sets ∷ rest))
      ≡ behind n m
      (st (values_set values sets) (asked ++ puts ∷ []) (changed ++ sets) rest)
  unfolding turns evaluate call execute
  source_asks code sets rest is =
      ap (λ b. branch b (Go code sets ∷ rest)) is
      ∙ ap (behind n m)
      (sets_applied sets (st values (asked ++ puts ∷ []) changed rest))

  source_stores : (answers : List Answer) → behind n m (st values asked changed answers)
      ≡ loop_run n m
      (st (after_turn values) asked
      ((changed ++ record { variable = x; value = one_more values } ∷ [])
      ++ record { variable = y; value = two } ∷ []) answers)
  unfolding evaluate execute operate
  source_stores answers = refl

-- ---- the machine

abbrev env : Environment
env = machine_of (environment asking_unit)

abbrev held : Contents
held = contents_in asking_image

abbrev follow : steps.State → steps.State
follow = abort_methods.next (start_in held)

abbrev machine_run : ℕ → steps.State → List Answer → Outcome
machine_run k s answers = image.execute_following follow env k s answers

-- at a place of the code
abbrev at : ℕ → List ℤ → List ℤ → steps.State
at place operands values =
    record {
      unit = record { sort = sort.Method; code = asking_code };
      place = place;
      operands = operands;
      slots = [];
      values = values;
      status = status.Running;
      abort_methods = [];
      is_aborting = false;
    }

abbrev asks : List ℤ → steps.State
asks values =
    record (at 20 [] values) { status = status.Asking (requests.PutMessage (record { 0 = 0 })) }

abbrev over : List ℤ → steps.State
over values = record (at 48 [] values) { status = status.Ended }

abbrev ask_step : Outcome → Outcome
ask_step o = stepped (preceded (requests.PutMessage (record { 0 = 0 }) ∷ []) [] o)

-- after so many steps
abbrev stepping : ℕ → Outcome → Outcome
stepping zero o = o
stepping (suc n) o = stepped (stepping n o)

module _ (k : ℕ) (values : List ℤ) (answers : List Answer) where
  machine_tests : machine_run (suc (suc (suc (suc k)))) (at 0 [] values) answers
      ≡ stepping 4 (machine_run k (at (if is_done values then 48 else 14) [] values) answers)
  unfolding image.execute_following step act instruction_at instruction_from basic_from
      comparison_of unary_of jump_from number_from
  machine_tests = refl

  machine_ends : machine_run (suc k) (at 48 [] values) answers
      ≡ stepped (machine_run k (over values) answers)
  unfolding image.execute_following step act instruction_at instruction_from basic_from
  machine_ends = refl

  machine_asks : machine_run (suc k) (at 14 [] values) answers
      ≡ ask_step (machine_run k (asks values) answers)
  unfolding image.execute_following step act instruction_at instruction_from basic_from number_from
      byte_from ask_from ask_of
  machine_asks = refl

  machine_stores : (code : ℤ)
      → machine_run (suc (suc (suc (suc (suc (suc (suc (suc (suc (suc k))))))))))
      (at 20 (code ∷ []) values) answers
      ≡ stepping 10
      (preceded [] (stored values) (machine_run k (at 0 [] (after_turn values)) answers))
  unfolding image.execute_following step act instruction_at instruction_from basic_from operator_of
      comparison_of unary_of jump_from number_from operate
  machine_stores code = refl

machine_over : (k : ℕ) (values : List ℤ) (answers : List Answer)
    → machine_run k (over values) answers
    ≡ image.closed (image.nothing_met (over values) answers None) image.Ended
unfolding image.execute_following
machine_over zero values answers = refl
machine_over (suc k) values answers = refl

-- ---- both

-- one more element after others
one_behind : {A : Type 0} (xs : List A) (x : A) (ys : List A) → (xs ++ x ∷ []) ++ ys ≡ xs ++ x ∷ ys
one_behind xs x ys = append_assoc xs (x ∷ []) ys

module _ (string_numbered : StrNo → Option Words) (known : string_numbered (record { 0 = 0 })
    ≡ Some says) where
  -- what the loop results in on both sides, where so much was asked and changed before
  record Along (asked : List source.Request) (changed : List Change) (t : Transcript)
      (o : Outcome) : Type 0 where
    more : List source.Request
    requests : t.requests ≡ asked ++ more
    same : SameRequests string_numbered more o.requests
    changes : t.changes ≡ changed ++ o.changes
    values : o.state.values ≡ t.values
    abort_methods : o.state.abort_methods ≡ t.abort_methods
    answers : o.answers ≡ t.answers
    ending : o.ending ≡ ending_of t.ending

  module _ (n m : ℕ) (asked : List source.Request) (changed : List Change) where
    -- with n turns the machine comes along within n steps or more
    abbrev Goes : List ℤ → List Answer → Type 0
    Goes values answers = (k : ℕ) × (n ≤ k)
        × Along asked changed (loop_run n m (st values asked changed answers))
        (machine_run k (at 0 [] values) answers)

    goes : (k : ℕ) (values : List ℤ) (answers : List Answer) (t : Transcript) (o : Outcome) → n ≤ k
        → loop_run n m (st values asked changed answers) ≡ t
        → machine_run k (at 0 [] values) answers ≡ o → Along asked changed t o → Goes values answers
    goes k values answers t o enough source_is machine_is h = (
      k,
      enough,
      subst
          (λ (t' : Transcript). Along asked changed t' (machine_run k (at 0 [] values) answers))
          (sym source_is) (subst (λ (o' : Outcome). Along asked changed t o') (sym machine_is) h),
    )

  -- the test, and then the request, where the loop goes on
  to_request : (k : ℕ) (values : List ℤ) (answers : List Answer) → is_done values ≡ false
      → machine_run (suc (suc (suc (suc (suc k))))) (at 0 [] values) answers
      ≡ stepping 4 (ask_step (machine_run k (asks values) answers))
  to_request k values answers is =
      machine_tests (suc k) values answers
      ∙ ap (λ (b : Bool). stepping 4
      (machine_run (suc k) (at (if b then 48 else 14) [] values) answers)) is
      ∙ ap (stepping 4) (machine_asks k values answers)

  asked_once : SameRequests string_numbered (puts ∷ [])
      (requests.PutMessage (record { 0 = 0 }) ∷ [])
  asked_once = ((refl, (known, tt)), tt)

  one_turn : (n m : ℕ) (values : List ℤ) (asked : List source.Request) (changed : List Change)
      (answers : List Answer) → AllByRecursion (IsValidAnswer env.types) answers
      → ((values' : List ℤ) (asked' : List source.Request) (changed' : List Change)
      (rest : List Answer) → AllByRecursion (IsValidAnswer env.types) rest
      → Goes n m asked' changed' values' rest)
      → (b : Bool) → is_done values ≡ b → Goes (suc n) m asked changed values answers
  one_turn n m values asked changed answers valid more true is =
      goes (suc n) m asked changed (suc (suc (suc (suc (suc n))))) values answers _ _ (omega arith)
      (source_ends n m values asked changed answers is)
      (machine_tests (suc n) values answers
      ∙ ap (λ (b : Bool). stepping 4
      (machine_run (suc n) (at (if b then 48 else 14) [] values) answers)) is
      ∙ ap (stepping 4) (machine_ends n values answers
      ∙ ap stepped (machine_over n values answers)))
      (record {
        more = [];
        requests = sym (append-nil asked);
        same = tt;
        changes = sym (append-nil changed);
        values = refl;
        abort_methods = refl;
        answers = refl;
        ending = refl;
      })
  one_turn n m values asked changed [] valid more false is =
      goes (suc n) m asked changed (suc (suc (suc (suc (suc n))))) values [] _ _ (omega arith)
      (source_waits n m values asked changed is)
      (to_request n values [] is
      ∙ ap (λ (o : Outcome). stepping 4 (ask_step o))
      (still_waits follow (next_asks_nothing (start_in held)) env (asks values)
      (requests.PutMessage (record { 0 = 0 })) refl n))
      (record {
        more = puts ∷ [];
        requests = refl;
        same = asked_once;
        changes = sym (append-nil changed);
        values = refl;
        abort_methods = refl;
        answers = refl;
        ending = refl;
      })
  one_turn n m values asked changed (Abort ∷ rest) valid more false is =
      goes (suc n) m asked changed (suc (suc (suc (suc (suc n))))) values (Abort ∷ rest) _ _
      (omega arith) (source_aborts n m values asked changed rest is)
      (to_request n values (Abort ∷ rest) is
      ∙ ap (λ (o : Outcome). stepping 4 (ask_step o))
      (answer_met follow (next_asks_nothing (start_in held)) env (asks values)
      (requests.PutMessage (record { 0 = 0 })) refl Abort rest refl n
      ∙ ap (preceded [] [])
      (stays follow (next_asks_nothing (start_in held)) env _ rest image.Aborted refl n)))
      (record {
        more = puts ∷ [];
        requests = refl;
        same = asked_once;
        changes = sym (append-nil changed);
        values = refl;
        abort_methods = refl;
        answers = refl;
        ending = refl;
      })
  one_turn n m values asked changed (Go code sets ∷ rest) valid more false is =
      let values' = values_set values sets in
      let h = more (after_turn values') (asked ++ puts ∷ [])
      (((changed ++ sets) ++ record { variable = x; value = one_more values' } ∷ [])
      ++ record { variable = y; value = two } ∷ []) rest valid.1 in
      let k = suc (suc (suc (suc (suc (suc (suc (suc (suc (suc h.0))))))))) in
      let o = machine_run h.0 (at 0 [] (after_turn values')) rest in
      goes (suc n) m asked changed (suc (suc (suc (suc (suc k))))) values (Go code sets ∷ rest) _ _
      (omega (arith, h.1))
      (source_asks n m values asked changed code sets rest is
      ∙ source_stores n m values' (asked ++ puts ∷ []) (changed ++ sets) rest)
      (to_request k values (Go code sets ∷ rest) is
      ∙ ap (λ (o : Outcome). stepping 4 (ask_step o))
      (answer_met follow (next_asks_nothing (start_in held)) env (asks values)
      (requests.PutMessage (record { 0 = 0 })) refl (Go code sets) rest valid.0.1 k)
      ∙ ap (λ (o' : Outcome). stepping 4 (ask_step (preceded [] sets o')))
      (machine_stores h.0 values' rest code))
      (record {
        more = puts ∷ h.2.more;
        requests = h.2.requests ∙ one_behind asked puts h.2.more;
        same = ((refl, (known, tt)), h.2.same);
        changes = h.2.changes
            ∙ one_behind
            ((changed ++ sets) ++ record { variable = x; value = one_more values' } ∷ [])
            (record { variable = y; value = two }) o.changes
            ∙ one_behind (changed ++ sets) (record { variable = x; value = one_more values' })
            (record { variable = y; value = two } ∷ o.changes)
            ∙ append_assoc changed sets
            (record { variable = x; value = one_more values' }
            ∷ record { variable = y; value = two } ∷ o.changes);
        values = h.2.values;
        abort_methods = h.2.abort_methods;
        answers = h.2.answers;
        ending = h.2.ending;
      })

  along : (n m : ℕ) (values : List ℤ) (asked : List source.Request) (changed : List Change)
      (answers : List Answer) → AllByRecursion (IsValidAnswer env.types) answers
      → Goes n m asked changed values answers
  unfolding turns image.execute image.execute_following
  along zero m values asked changed answers valid = (
    0,
    omega arith,
    record {
      more = [];
      requests = sym (append-nil asked);
      same = tt;
      changes = sym (append-nil changed);
      values = refl;
      abort_methods = refl;
      answers = refl;
      ending = refl;
    },
  )
  along (suc n) m values asked changed answers valid =
      one_turn n m values asked changed answers valid
      (λ values' asked' changed' rest valid'. along n m values' asked' changed' rest valid')
      (is_done values) refl

-- ---- the image

abbrev first : MethNo
first = record { 0 = 0 }

-- the row of the body
abbrev body : AttributeFields
body = record {
  kind = 5;
  attribute = 21;
  item = 0;
  sub = 0;
  padding = 0;
  span = record { start = 0; size = 49 };
}

body_found : reading.body_of held first ≡ Some body
unfolding contents_in rows_from number_at variable_rows_start name_rows_start attribute_rows_start
    element_rows_start code_start string_rows_start name_bytes_start string_bytes_start sections_end
body_found = refl

opens : (values : List ℤ) → reading.opening_of held body values ≡ at 0 [] values
unfolding contents_in rows_from number_at variable_rows_start name_rows_start attribute_rows_start
    element_rows_start code_start string_rows_start name_bytes_start string_bytes_start sections_end
opens values = refl

same_types : reading.environment_of held ≡ env
unfolding contents_in rows_from number_at variable_rows_start name_rows_start attribute_rows_start
    element_rows_start code_start string_rows_start name_bytes_start string_bytes_start sections_end
same_types = refl

string_known : string_numbered held (record { 0 = 0 }) ≡ Some says
unfolding contents_in rows_from number_at variable_rows_start name_rows_start attribute_rows_start
    element_rows_start code_start string_rows_start name_bytes_start string_bytes_start sections_end
    string_in variants_from number_from is_utf8 chars encode_utf8 words_of pieces unescape byte_from
string_known = refl

one_method : held.counts.methods ≡ 1
unfolding contents_in rows_from number_at variable_rows_start name_rows_start attribute_rows_start
    element_rows_start code_start string_rows_start name_bytes_start string_bytes_start sections_end
one_method = refl

source_runs : (n : ℕ) (values : List ℤ) (answers : List Answer)
    → run.run n asking_unit first values answers ≡ loop_run n n (st values [] [] answers)
unfolding run.run execute slots_in
source_runs n values answers = refl

follows : (values : List ℤ) (answers : List Answer)
    → AllByRecursion (IsValidAnswer env.types) answers → (n : ℕ)
    → (k : ℕ) × (n ≤ k)
    × SameOutcome (string_numbered held) (run.run n asking_unit first values answers)
    (execute_in held k (reading.opening_of held body values) answers)
follows values answers valid n =
    let h = along (string_numbered held) string_known n n values [] [] answers valid in
    let t = loop_run n n (st values [] [] answers) in
    let o = machine_run h.0 (at 0 [] values) answers in
    let same : SameOutcome (string_numbered held) t o = record {
      requests =
          subst (λ (rs : List source.Request). SameRequests (string_numbered held) rs o.requests)
          (sym h.2.requests) h.2.same;
      changes = sym h.2.changes;
      values = h.2.values;
      abort_methods = h.2.abort_methods;
      answers = h.2.answers;
      ending = h.2.ending;
    } in (
      h.0,
      h.1,
      subst (λ (t' : Transcript). SameOutcome (string_numbered held) t'
          (execute_in held h.0 (reading.opening_of held body values) answers))
          (sym (source_runs n values answers))
          (subst (λ (e : Environment). SameOutcome (string_numbered held) t
          (image.execute_following follow e h.0 (reading.opening_of held body values) answers))
          (sym same_types)
          (subst (λ (s : steps.State). SameOutcome (string_numbered held) t
          (machine_run h.0 s answers)) (sym (opens values)) same)),
    )

asking_agrees : AgreesOnMethod asking_unit held first
asking_agrees = record {
  row = body;
  found = body_found;
  agrees =
      follows_agrees (string_numbered held) (environment asking_unit).variables
      (λ n values answers. run.run n asking_unit first values answers) follow
      (reading.environment_of held) (reading.opening_of held body)
      (λ values answers are valid n. follows values answers valid n);
}

by_number : (n : ℕ) → IsTrue (nat_lt n 1) → AgreesOnMethod asking_unit held (record { 0 = n })
by_number zero h = asking_agrees
by_number (suc n) h = absurd (grind (arith, nat_tests))

pub asking_methods_agree : AgreesOnMethods asking_unit held
asking_methods_agree method there =
    by_number method.0 (subst (λ (k : ℕ). IsTrue (nat_lt method.0 k)) one_method there)

-- ---- the wrong images

-- what the method results in where both variables are 0 and one answer is given
abbrev zeros : List ℤ
zeros = pos 0 ∷ pos 0 ∷ []

abbrev one_answer : List Answer
one_answer = Go (pos 0) [] ∷ []

abbrev put : Transcript
put = record {
  requests = puts ∷ [];
  changes = record { variable = x; value = pos 1 } ∷ record { variable = y; value = pos 2 } ∷ [];
  values = pos 1 ∷ pos 2 ∷ [];
  abort_methods = [];
  answers = [];
  ending = run.Ended;
}

source_put : (n : ℕ) → (run.run n asking_unit first zeros one_answer).ending ≢ run.OutOfTurns
    → run.run n asking_unit first zeros one_answer ≡ put
unfolding run.run execute slots_in turns evaluate call wrap store operate compare
source_put zero over = absurd (over refl)
source_put (suc zero) over = absurd (over refl)
source_put (suc (suc n)) over = refl

zero_fits : FitsSigned w32 (pos 0)
zero_fits = record { sfits = omega arith }

-- the run of an image with other code under the same values and answers, from the start of this
-- row's unit
abbrev other_run : List ℕ → AttributeFields → Outcome
other_run code row =
    execute_in (contents_in (image_with code)) 40
    (reading.opening_of (contents_in (image_with code)) row zeros) one_answer

-- an image that agrees results in the same, where it ends
module _ (code : List ℕ) (found : reading.body_of (contents_in (image_with code)) first ≡ Some body)
    (there : (contents_in (image_with code)).counts.methods ≡ 1)
    (ended : (other_run code body).ending ≡ image.Ended) where
  same_row : {r s : AttributeFields} → Some r ≡ Some s → r ≡ s
  same_row e = cc

  not_out : image.Ended ≡ image.OutOfSteps → ⊥
  not_out e = cc

  as_put : AgreesOnMethods asking_unit (contents_in (image_with code))
      → SameOutcome (string_numbered (contents_in (image_with code))) put (other_run code body)
  as_put h =
      let w = contents_in (image_with code) in
      let here = h first (subst (λ (k : ℕ). IsTrue (nat_lt 0 k)) (sym there) refl) in
      let row : body ≡ here.row = same_row (sym found ∙ here.found) in
      let over : (other_run code here.row).ending ≡ image.Ended =
      subst (λ (r : AttributeFields). (other_run code r).ending ≡ image.Ended) row ended in
      let back = here.agrees.backward zeros one_answer (refl, (refl, tt)) ((zero_fits, refl), tt) 40
      (λ e. not_out (sym over ∙ e)) in
      subst (λ (r : AttributeFields). SameOutcome (string_numbered w) put (other_run code r))
      (sym row)
      (subst (λ (t : Transcript). SameOutcome (string_numbered w) t (other_run code here.row))
      (source_put back.0 (λ e. not_out (sym over ∙ back.1.ending ∙ ap ending_of e))) back.1)

exchanged_found : reading.body_of (contents_in (image_with exchanged_code)) first ≡ Some body
unfolding contents_in rows_from number_at variable_rows_start name_rows_start attribute_rows_start
    element_rows_start code_start string_rows_start name_bytes_start string_bytes_start sections_end
exchanged_found = refl

exchanged_counts : (contents_in (image_with exchanged_code)).counts.methods ≡ 1
unfolding contents_in rows_from number_at variable_rows_start name_rows_start attribute_rows_start
    element_rows_start code_start string_rows_start name_bytes_start string_bytes_start sections_end
exchanged_counts = refl

exchanged_ends : (other_run exchanged_code body).ending ≡ image.Ended
unfolding contents_in rows_from number_at variable_rows_start name_rows_start attribute_rows_start
    element_rows_start code_start string_rows_start name_bytes_start string_bytes_start sections_end
    image.execute image.execute_following step act instruction_at instruction_from basic_from
    operator_of comparison_of unary_of jump_from number_from byte_from ask_from ask_of wrap store
    operate compare
exchanged_ends = refl

-- y is changed first
exchanged_changes : (other_run exchanged_code body).changes ≡ record { variable = y; value = pos 2 }
    ∷ record { variable = x; value = pos 1 } ∷ []
unfolding contents_in rows_from number_at variable_rows_start name_rows_start attribute_rows_start
    element_rows_start code_start string_rows_start name_bytes_start string_bytes_start sections_end
    image.execute image.execute_following step act instruction_at instruction_from basic_from
    operator_of comparison_of unary_of jump_from number_from byte_from ask_from ask_of wrap store
    operate compare
exchanged_changes = refl

-- the variable of the first change
abbrev first_changed : List Change → ℕ
first_changed [] = 2
first_changed (change ∷ rest) = change.variable.0

pub not_exchanged : AgreesOnMethods asking_unit (contents_in (image_with exchanged_code)) → ⊥
not_exchanged h =
    omega (
      arith,
      ap first_changed (sym exchanged_changes
          ∙ (as_put exchanged_code exchanged_found exchanged_counts exchanged_ends h).changes),
    )

unasked_found : reading.body_of (contents_in (image_with unasked_code)) first ≡ Some body
unfolding contents_in rows_from number_at variable_rows_start name_rows_start attribute_rows_start
    element_rows_start code_start string_rows_start name_bytes_start string_bytes_start sections_end
unasked_found = refl

unasked_counts : (contents_in (image_with unasked_code)).counts.methods ≡ 1
unfolding contents_in rows_from number_at variable_rows_start name_rows_start attribute_rows_start
    element_rows_start code_start string_rows_start name_bytes_start string_bytes_start sections_end
unasked_counts = refl

unasked_ends : (other_run unasked_code body).ending ≡ image.Ended
unfolding contents_in rows_from number_at variable_rows_start name_rows_start attribute_rows_start
    element_rows_start code_start string_rows_start name_bytes_start string_bytes_start sections_end
    image.execute image.execute_following step act instruction_at instruction_from basic_from
    operator_of comparison_of unary_of jump_from number_from byte_from ask_from ask_of wrap store
    operate compare apply
unasked_ends = refl

unasked_requests : (other_run unasked_code body).requests ≡ []
unfolding contents_in rows_from number_at variable_rows_start name_rows_start attribute_rows_start
    element_rows_start code_start string_rows_start name_bytes_start string_bytes_start sections_end
    image.execute image.execute_following step act instruction_at instruction_from basic_from
    operator_of comparison_of unary_of jump_from number_from byte_from ask_from ask_of wrap store
    operate compare apply
unasked_requests = refl

pub not_unasked : AgreesOnMethods asking_unit (contents_in (image_with unasked_code)) → ⊥
not_unasked h =
    let w = contents_in (image_with unasked_code) in
    subst (λ (rs : List Request). SameRequests (string_numbered w) put.requests rs) unasked_requests
    (as_put unasked_code unasked_found unasked_counts unasked_ends h).requests
