-- Code of statements does what it is to do, wherever it is.
use Rattle.std.proofs.Common.{◌≡◌, refl, sym, ap, ℕ, zero, suc, ◌+◌, ◌≤◌, Bool, true, false, ℤ, List, [], ◌∷◌, arith, Option}
use Rattle.std.specs.Prelude.{if◌then◌else◌}
use Rattle.std.specs.Ordering.{int_eq}
use Rattle.edd_syntax.specs.declared.numbers.StrNo.{StrNo}
use Rattle.edd_syntax.specs.TwosComplement.{is_zero}
use Rattle.edd_syntax.specs.Words.{Words}
use Rattle.edd_syntax.specs.MethodState as source
use Rattle.edd_syntax.specs.MethodState.{State, Done, Action, pure}
use Rattle.edd_syntax.specs.Execution.{Completion, Normal, Breaks, Continues, Returns, next, left}
use Rattle.edd_instructions.specs.declared.instruction.Instruction.TheVariants as instruction
use Rattle.edd_instructions.specs.Steps.{Environment, act, go}
use Rattle.edd_instructions.specs.Execution.{OutOfSteps, execute_following, execute}
use Rattle.edd_code.specs.Blocks as blocks
use Rattle.edd_code.proofs.BlockPlaces.{stand}
use Rattle.edd_code.specs.Reports.{at, report}
use Rattle.edd_code.specs.MethodEffects.{does, CanBeTaken, stopped}
use Rattle.edd_methods.specs.Statements.{Part, Missing, Step, Test, Code, Plain, Then, Guard, Branch, Loop, Switch, Break, Continue, Finish, Arms, Nil, Statement, Case, Default, part_size, tests_size, size, arms_size, default_place}
use Rattle.edd_methods.specs.StatementEffects.{unless_zero, loop_turns, part_of, performs, performs_all, performs_case, performs_default, IsWholePart, IsWhole, AreWhole}
use Rattle.edd_methods.specs.Following.{Exits, Does}
use Rattle.edd_code.proofs.MethodSteps.{Leads, end_reports, over_now}
use Rattle.edd_code.proofs.MethodRuns.{IsRead, goes_to, one_of, jumps, block_comes}
use Rattle.edd_methods.proofs.CodePlaces.{PartIn, TestsIn, CodeIn, ArmsIn}
use Rattle.edd_methods.proofs.Effects.{fewer, here, after_step, test_does, ends_at, begins_at, value_does, step_does, then_does, then_jumps, turn_does, left_does}

module _ (text : StrNo → Option Words) (env : Environment) (code : List ℕ) where
  -- ---- jumps

  break_does : (n p out back q next : ℕ) (s : State) → CanBeTaken env s.answers
      → IsRead code (stand p (instruction.Jump out) next)
      → Does text env code n p [] (record { end = q; out = out; back = back }) s (Done Breaks s)
  break_does n p out back q next s valid read =
      record {
        answers = valid;
        comes = λ k. (suc k, omega arith, jumps text env code p out next read [] s k);
      }

  continue_does : (n p out back q next : ℕ) (s : State) → CanBeTaken env s.answers
      → IsRead code (stand p (instruction.Jump back) next)
      → Does text env code n p [] (record { end = q; out = out; back = back }) s (Done Continues s)
  continue_does n p out back q next s valid read =
      record {
        answers = valid;
        comes = λ k. (suc k, omega arith, jumps text env code p back next read [] s k);
      }

  finish_does : (n p next : ℕ) (to : Exits) (s : State) → CanBeTaken env s.answers
      → IsRead code (stand p instruction.End next) → Does text env code n p [] to s (Done Returns s)
  unfolding act
  finish_does n p next to s valid read = record {
    answers = valid;
    comes = λ k. (
      suc n,
      omega arith,
      end_reports text env code p [] s
          (record { instruction = instruction.End; next = next; stands = read; acts = refl }) n,
    );
  }

  -- a test that takes its operand
  zero_does : (n p there : ℕ) {next : ℕ} (a : ℕ) (z : ℤ) (to : Exits) (s : State)
      (f g : Action Completion) → IsRead code (stand p (instruction.JumpIfZero there) next)
      → Does text env code n there [] to s (f s) → Does text env code n next [] to s (g s)
      → Does text env code n p (z
      ∷ []) to s ((elim (is_zero z) as (λ _. Action Completion) [ true ↦ f | false ↦ g ]) s)
  unfolding act
  zero_does n p there {next} a z to s f g read one two =
      test_does text env code (is_zero z) n p next there next (z ∷ []) [] [] to s
      (instruction.JumpIfZero there) f g read
      (one_of text env code (is_zero z) (at code p (z ∷ []) s) there next []) one two

  -- the operand is dropped
  drops : (p next : ℕ) (a : ℤ) (s : State) → IsRead code (stand p instruction.Pop next)
      → Leads text env code p next (a ∷ []) [] s s
  unfolding act
  drops p next a s read = goes_to text env code p next next (a ∷ []) [] s instruction.Pop read refl

  -- a label of a switch takes the value where it equals it
  case_or_next : (n p at_label next : ℕ) (value label : ℤ) (to : Exits) (s : State)
      (f g : Action Completion) → IsRead code (stand p (instruction.Case label at_label) next)
      → Does text env code n at_label [] to s (source.and_then (f s) left)
      → Does text env code n next (value ∷ []) to s (source.and_then (g s) left)
      → Does text env code n p (value ∷ []) to s
      (source.and_then ((elim (int_eq value label) as (λ _. Action Completion) [
        | true ↦ f
        | false ↦ g
      ]) s) left)
  unfolding act
  case_or_next n p at_label next value label to s f g read one two =
      by_test (int_eq value label) refl
    where
      by_test : (b : Bool) → int_eq value label ≡ b
          → Does text env code n p (value ∷ []) to s
          (source.and_then ((elim b as (λ _. Action Completion) [ true ↦ f | false ↦ g ]) s) left)
      by_test true is = after_step text env code (goes_to text env code p next at_label (value ∷ [])
          [] s (instruction.Case label at_label) read (ap (λ (b : Bool). if b then go (at code p
          (value ∷ []) s) at_label [] else go (at code p (value ∷ []) s) next (value ∷ [])) is)) one
      by_test false is =
          after_step text env code (goes_to text env code p next next (value ∷ []) (value ∷ []) s
          (instruction.Case label at_label) read (ap (λ (b : Bool). if b then go (at code p (value
          ∷ []) s) at_label [] else go (at code p (value ∷ []) s) next (value ∷ [])) is)) two

  -- ---- loops

  -- no step is left
  out_of_steps : (p : ℕ) (s : State) → report text env code 0 p [] s ≡ stopped source.OutOfTurns s
  unfolding execute execute_following
  out_of_steps p s = over_now text s (at code p [] s) s.answers OutOfSteps

  -- a part of a loop: the loop is left at `out`, or goes on after it
  part_does : (part : Part) (n p q out : ℕ) (to : Exits) (s : State) (rest : Action Completion)
      → IsWholePart text env part → PartIn (IsRead code) p out part → p + part_size part ≡ q
      → CanBeTaken env s.answers → ((t : State) → Leads text env code out to.end [] [] t t)
      → ((t : State) → CanBeTaken env t.answers → Does text env code n q [] to t (rest t))
      → Does text env code n p [] to s
      (source.and_then (part_of text env part s) (unless_zero rest))
  part_does Missing n p q out to s rest whole read same valid leaves more =
      begins_at text env code n p s (omega (arith, same)) (more s valid)
  part_does (Step b) n p q out to s rest whole read same valid leaves more =
      step_does text env code n to (does text env b [] s) (unless_zero rest) (whole s)
      (block_comes text env code p b read [] s valid)
      (λ t taken. begins_at text env code n (p + blocks.size b) t (sym same) (more t taken))
  part_does (Test b) n p q out to s rest whole read same valid leaves more =
      value_does text env code n to (does text env b [] s) (unless_zero rest) (whole s) (block_comes
      text env code p b read.0 [] s valid) (λ a t taken. zero_does n (p + blocks.size b) out 0 a to
      t (pure Normal) rest read.1 (after_step text env code (leaves t) (here text env code n to t
      taken)) (begins_at text env code n (p + (blocks.size b + 5)) t (sym same) (more t taken)))

  -- the turns of a loop, from its entry, where its body does f
  turns_do : (n : ℕ) (front back_part : Part) (body : Code) (p out back : ℕ)
      → IsWholePart text env front → IsWholePart text env back_part
      → CodeIn (IsRead code) p out back (Loop front back_part body)
      → (f : Action Completion)
      → ((s : State) → CanBeTaken env s.answers
      → Does text env code n (p + (10 + (part_size back_part + part_size front))) []
      (record {
        end = p + (10 + (part_size back_part + part_size front)) + size body;
        out = p + 5;
        back = p + 10;
      }) s (f s))
      → (m : ℕ) → m ≤ n → (s : State) → CanBeTaken env s.answers
      → Does text env code m (p + (10 + part_size back_part)) []
      (record {
        end = p + (10 + (part_size back_part + (part_size front + (size body + 5))));
        out = out;
        back = back;
      }) s
      (loop_turns m (part_of text env front) f (part_of text env back_part) s)
  unfolding loop_turns
  turns_do n front back_part body p out back in_front behind read f each zero less s valid =
      record {
        answers = tt;
        comes = λ k.
            (0, omega arith, out_of_steps (p + (10 + part_size back_part)) s);
      }
  turns_do n front back_part body p out back in_front behind read f each (suc m) less s valid =
      let b = part_size back_part in
      let g = part_size front in
      let q = p + (10 + (b + (g + (size body + 5)))) in
      let last = p + (10 + (b + (g + size body))) in
      let to : Exits = record { end = q; out = out; back = back } in
      let more = loop_turns m (part_of text env front) f (part_of text env back_part) in
      let leaves = λ (t : State). jumps text env code (p + 5) q (p + 10) read.1 [] t in
      part_does front (suc m) (p + (10 + b)) (p + (10 + (b + g))) (p + 5) to s _ in_front read.3
      (omega arith) valid leaves (λ t taken. turn_does text env code m last (p + 5) (p + 10) to
      (f t) _ (λ u. jumps text env code last (p + 10) q read.5 [] u) leaves (fewer text env code
      (suc m) n (f t) less (ends_at text env code n (p + (10 + (b + g)) + size body) last (p + 5) (p
      + 10) t (omega arith) (each t taken))) (λ u again. part_does back_part m (p + 10) (p
      + (10 + b)) (p + 5) to u more behind read.2 (omega arith) again leaves (λ v kept. turns_do n
      front back_part body p out back in_front behind read f each m (omega (arith, less)) v kept)))

  -- ---- all code

  mutual
    unfolding performs

    pub code_does : (n : ℕ) (c : Code) (p out back : ℕ) → IsWhole text env c
        → CodeIn (IsRead code) p out back c → (s : State) → CanBeTaken env s.answers
        → Does text env code n p [] (record { end = p + size c; out = out; back = back }) s
        (performs text env c n s)
    code_does n (Plain b) p out back whole read s valid =
        let to : Exits = record { end = p + blocks.size b; out = out; back = back } in
        step_does text env code n to (does text env b [] s) (λ a. pure Normal) (whole s)
        (block_comes text env code p b read [] s valid) (λ t taken. here text env code n to t taken)
    code_does n (Then first second) p out back whole read s valid =
        then_does text env code (p + size first) (record {
          end = p + (size first + size second);
          out = out;
          back = back;
        }) (performs text env first n s) (performs text env second n)
        (code_does n first p out back whole.0 read.0 s valid) (λ t taken. ends_at text env code n (p
        + size first + size second) (p + (size first + size second)) out back t (omega arith)
        (code_does n second (p + size first) out back whole.1 read.1 t taken))
    code_does n (Guard test first) p out back whole read s valid =
        let a = blocks.size test in
        let q = p + (a + (5 + size first)) in
        let to : Exits = record { end = q; out = out; back = back } in
        value_does text env code n to (does text env test [] s) _ (whole.0 s)
        (block_comes text env code p test read.0 [] s valid) (λ z t taken. zero_does n (p + a) q 0 z
        to t (pure Normal) (performs text env first n) read.1 (here text env code n to t taken)
        (ends_at text env code n (p + (a + 5) + size first) q out back t (omega arith)
        (code_does n first (p + (a + 5)) out back whole.1 read.2 t taken)))
    code_does n (Branch test first otherwise) p out back whole read s valid =
        let a = blocks.size test in
        let m = p + (a + (5 + size first)) in
        let r = p + (a + (5 + (size first + 5))) in
        let q = p + (a + (5 + (size first + (5 + size otherwise)))) in
        let to : Exits = record { end = q; out = out; back = back } in
        value_does text env code n to (does text env test [] s) _ (whole.0 s) (block_comes text env
        code p test read.0 [] s valid) (λ z t taken. zero_does n (p + a) r 0 z to t
        (performs text env otherwise n) (performs text env first n) read.1 (ends_at text env code n
        (r + size otherwise) q out back t (omega arith) (code_does n otherwise r out back whole.2
        read.4 t taken)) (then_jumps text env code m q out back (performs text env first n t) (jumps
        text env code m q r read.3 []) (ends_at text env code n (p + (a + 5) + size first) m out
        back t (omega arith) (code_does n first (p + (a + 5)) out back whole.1 read.2 t taken))))
    code_does n (Loop front back_part body) p out back whole read s valid =
        let b = part_size back_part in
        let f = part_size front in
        let entry = p + (10 + b) in
        after_step text env code (jumps text env code p entry (p + 5) read.0 [] s)
        (turns_do n front back_part body p out back whole.0 whole.1 read (performs text env body n)
        (λ t taken. code_does n body (p + (10 + (b + f))) (p + 5) (p + 10) whole.2 read.4 t taken) n
        (omega arith) s valid)
    code_does n (Switch on arms) p out back whole read s valid =
        let a = blocks.size on in
        let b = arms_size arms in
        let t = tests_size arms in
        let m = p + (a + (10 + b)) in
        let tests = p + (a + (10 + (b + 5))) in
        let last = p + (a + (10 + (b + (5 + t)))) in
        let next = p + (a + (10 + (b + (5 + (t + 1))))) in
        let q = p + (a + (10 + (b + (5 + (t + 6))))) in
        let to : Exits = record { end = q; out = out; back = back } in
        let ends = λ (v : State). jumps text env code m (p + (a + 5)) tests read.4 [] v in
        let leaves = λ (v : State). jumps text env code (p + (a + 5)) q (p + (a + 10)) read.2 []
        v in
        value_does text env code n to (does text env on [] s) _ (whole.0 s)
        (block_comes text env code p on read.0 [] s valid) (λ z u taken. after_step text env code
        (jumps text env code (p + a) tests (p + (a + 5)) read.1 (z ∷ []) u) (case_does n arms (p
        + (a + 10)) tests last m (p + (a + 5)) to z (performs_default text env arms n) ends leaves
        (omega arith) (omega arith) whole.1 read.3 read.5 (λ v again. after_step text env code
        (drops last next z v read.6) (after_step text env code (jumps text env code next
        (default_place (p + (a + 10)) (p + (a + 5)) arms) q read.7 [] v) (default_does n arms (p
        + (a + 10)) m (p + (a + 5)) to ends leaves (omega arith) whole.1 read.3 v again))) u taken))
    code_does n Break p out back whole read s valid = break_does n p out back (p + 5) (p + 5) s
        valid read
    code_does n Continue p out back whole read s valid = continue_does n p out back (p + 5) (p + 5)
        s valid read
    code_does n Finish p out back whole read s valid =
        finish_does n p (p + 1) (record { end = p + 1; out = out; back = back }) s valid read

    -- the statements of a switch from a place on
    arms_do : (n : ℕ) (arms : Arms) (p m out back : ℕ) → p + arms_size arms ≡ m
        → AreWhole text env arms → ArmsIn (IsRead code) p out back arms → (s : State)
        → CanBeTaken env s.answers
        → Does text env code n p [] (record { end = m; out = out; back = back }) s
        (performs_all text env arms n s)
    arms_do n Nil p m out back same whole read s valid =
        begins_at text env code n p s (omega (arith, same))
        (here text env code n (record { end = m; out = out; back = back }) s valid)
    arms_do n (Statement first rest) p m out back same whole read s valid =
        then_does text env code (p + size first) (record { end = m; out = out; back = back })
        (performs text env first n s) (performs_all text env rest n)
        (code_does n first p out back whole.0 read.0 s valid) (λ t taken. arms_do n rest (p
        + size first) m out back (omega (arith, same)) whole.1 read.1 t taken)
    arms_do n (Case label rest) p m out back same whole read s valid =
        arms_do n rest p m out back same whole read s valid
    arms_do n (Default rest) p m out back same whole read s valid =
        arms_do n rest p m out back same whole read s valid

    -- the tests of a switch from a place on, with the value there, where the statements begin at
    -- another place
    case_does : (n : ℕ) (arms : Arms) (p tests last m out : ℕ) (to : Exits) (value : ℤ)
        (otherwise : Action Completion)
        → ((t : State) → Leads text env code m out [] [] t t)
        → ((t : State) → Leads text env code out to.end [] [] t t) → p + arms_size arms ≡ m
        → tests + tests_size arms ≡ last
        → AreWhole text env arms → ArmsIn (IsRead code) p out to.back arms
        → TestsIn (IsRead code) tests p arms
        → ((s : State) → CanBeTaken env s.answers
        → Does text env code n last (value ∷ []) to s (source.and_then (otherwise s) left))
        → (s : State) → CanBeTaken env s.answers
        → Does text env code n tests (value ∷ []) to s
        (source.and_then (performs_case text env value arms n otherwise s) left)
    case_does n Nil p tests last m out to value otherwise ends leaves same at_last whole read listed
        other s valid =
        begins_at text env code n tests s (omega (arith, at_last)) (other s valid)
    case_does n (Statement first rest) p tests last m out to value otherwise ends leaves same
        at_last whole read listed other s valid =
        case_does n rest (p + size first) tests last m out to value otherwise ends leaves
        (omega (arith, same)) at_last whole.1 read.1 listed other s valid
    case_does n (Case label rest) p tests last m out to value otherwise ends leaves same at_last
        whole read listed other s valid =
        case_or_next n tests p (tests + 13) value label to s (performs_all text env rest n)
        (performs_case text env value rest n otherwise) listed.0 (left_does text env code m out to
        (performs_all text env rest n s) ends leaves (arms_do n rest p m out to.back same whole read
        s valid)) (case_does n rest p (tests + 13) last m out to value otherwise ends leaves same
        (omega (arith, at_last)) whole read listed.1 other s valid)
    case_does n (Default rest) p tests last m out to value otherwise ends leaves same at_last whole
        read listed other s valid =
        case_does n rest p tests last m out to value otherwise ends leaves same at_last whole read
        listed other s valid

    -- the statements of a switch from its default on
    default_does : (n : ℕ) (arms : Arms) (p m out : ℕ) (to : Exits)
        → ((t : State) → Leads text env code m out [] [] t t)
        → ((t : State) → Leads text env code out to.end [] [] t t) → p + arms_size arms ≡ m
        → AreWhole text env arms → ArmsIn (IsRead code) p out to.back arms → (s : State)
        → CanBeTaken env s.answers
        → Does text env code n (default_place p out arms) [] to s
        (source.and_then (performs_default text env arms n s) left)
    default_does n Nil p m out to ends leaves same whole read s valid =
        after_step text env code (leaves s) (here text env code n to s valid)
    default_does n (Statement first rest) p m out to ends leaves same whole read s valid =
        default_does n rest (p + size first) m out to ends leaves (omega (arith, same)) whole.1
        read.1 s valid
    default_does n (Case label rest) p m out to ends leaves same whole read s valid =
        default_does n rest p m out to ends leaves same whole read s valid
    default_does n (Default rest) p m out to ends leaves same whole read s valid =
        left_does text env code m out to (performs_all text env rest n s) ends leaves
        (arms_do n rest p m out to.back same whole read s valid)
