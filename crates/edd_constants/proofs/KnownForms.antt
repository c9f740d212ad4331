-- What is known of the parts of an expression tells what is known of the whole.
use Rattle.std.proofs.Common.{◌≡◌, ℕ, ℤ, pos, Bool, true, false, not, List, ◌∷◌, Ok, Err, refl, sym, ap}
use Rattle.edd_syntax.specs.declared.answer.Trap.{Trap}
use Rattle.edd_syntax.specs.declared.operators.Operator.{Operator}
use Rattle.edd_syntax.specs.declared.operators.Comparison.{Comparison}
use Rattle.edd_syntax.specs.declared.operators.UnaryOperator.{UnaryOperator}
use Rattle.edd_syntax.specs.declared.reference.Target.{Target}
use Rattle.edd_syntax.specs.Expression.{Expr, Argument, Literal, Parentheses, Unary, Binary, Compare, LogicalAnd, LogicalOr, Conditional, Assign, CompoundAssign, Indexed, Reference, Call, arguments_from}
use Rattle.edd_syntax.specs.Expression as tree
use Rattle.edd_syntax.specs.Device.{Environment}
use Rattle.edd_syntax.specs.TwosComplement.{wrap, operate, compare, apply, is_zero, truth}
use Rattle.edd_syntax.specs.AttributeValue as attribute
use Rattle.edd_syntax.specs.AttributeValue.{Trapping, value}
use Rattle.edd_syntax.specs.MethodState as method
use Rattle.edd_syntax.specs.MethodState.{State, Outcome, Done, Stopped, Action, and_then}
use Rattle.edd_syntax.specs.Evaluation.{evaluate, evaluate_all}
use Rattle.edd_constants.specs.Constants.{Fails, Stops, HasValue, HasNone, IsKnown}
use Rattle.edd_instructions.specs.Steps.{width_of}
use Rattle.edd_constants.specs.declared.constants.Known.{Known}
use Rattle.edd_constants.specs.declared.constants.Known.TheVariants.{Number, Traps, Nothing}
use Rattle.edd_instructions.specs.declared.unit.Sort.{Sort}
use Rattle.edd_instructions.specs.declared.unit.Sort.TheVariants.{Attribute, Method}

-- ---- what is done after what traps or stops, and what traps or stops after anything

fails_first : {A B : Type 0} (r : Trapping A) (next : A → Trapping B) → Fails r
    → Fails (attribute.◌>>=◌ r next)
fails_first r next h = (h.0, rw h.1 refl)

fails_later : {A B : Type 0} (r : Trapping A) (next : A → Trapping B) → ((x : A) → Fails (next x))
    → Fails (attribute.◌>>=◌ r next)
fails_later (Ok x) next h = h x
fails_later (Err why) next h = (why, refl)

stops_first : {A B : Type 0} (o : Outcome A) (next : A → Action B) → Stops o
    → Stops (and_then o next)
stops_first o next h = (h.0, h.1, rw h.2 refl)

stops_later : {A B : Type 0} (o : Outcome A) (next : A → Action B)
    → ((x : A) (s : State) → Stops (next x s)) → Stops (and_then o next)
stops_later (Done x s) next h = h x s
stops_later (Stopped why s) next h = (why, s, refl)

-- ---- what is done by a test of a value

when_true : {A : Type 0} (P : A → Type 0) (test : Bool) (x y : A) → test ≡ true → P x
    → P (elim test as (λ t. A) [ true ↦ x | false ↦ y ])
when_true P test x y is h = rw is h

when_false : {A : Type 0} (P : A → Type 0) (test : Bool) (x y : A) → test ≡ false → P y
    → P (elim test as (λ t. A) [ true ↦ x | false ↦ y ])
when_false P test x y is h = rw is h

ok_true : {B : Type 0} (P : Trapping B → Type 0) (r : Trapping ℤ) (x : ℤ) (taken other : Trapping B)
    → r ≡ Ok x → is_zero x ≡ true → P taken → P (attribute.◌>>=◌ r
    (λ a. elim (is_zero a) as (λ t. Trapping B) [ true ↦ taken | false ↦ other ]))
ok_true P r x taken other is test h = rw is (when_true P (is_zero x) taken other test h)

done_true : {B : Type 0} (P : Outcome B → Type 0) (o : Outcome ℤ) (x : ℤ) (s : State)
    (taken other : Action B) → o ≡ Done x s → is_zero x ≡ true → P (taken s) → P (and_then o
    (λ a. elim (is_zero a) as (λ t. Action B) [ true ↦ taken | false ↦ other ]))
done_true {B} P o x s taken other is test h =
    let Q : Action B → Type 0 = λ next. P (next s) in
    rw is (when_true Q (is_zero x) taken other test h)

ok_false : {B : Type 0} (P : Trapping B → Type 0) (r : Trapping ℤ) (x : ℤ) (taken other : Trapping B)
    → r ≡ Ok x → is_zero x ≡ false → P other → P (attribute.◌>>=◌ r
    (λ a. elim (is_zero a) as (λ t. Trapping B) [ true ↦ taken | false ↦ other ]))
ok_false P r x taken other is test h = rw is (when_false P (is_zero x) taken other test h)

done_false : {B : Type 0} (P : Outcome B → Type 0) (o : Outcome ℤ) (x : ℤ) (s : State)
    (taken other : Action B) → o ≡ Done x s → is_zero x ≡ false → P (other s) → P (and_then o
    (λ a. elim (is_zero a) as (λ t. Action B) [ true ↦ taken | false ↦ other ]))
done_false {B} P o x s taken other is test h =
    let Q : Action B → Type 0 = λ next. P (next s) in
    rw is (when_false Q (is_zero x) taken other test h)

-- ---- operators

pub unary_value : (sort : Sort) (op : UnaryOperator) (a : Expr Target) (x z : ℤ) → HasValue sort a x
    → z ≡ apply (width_of sort) op x → HasValue sort (Unary op a) z
unfolding value evaluate
unary_value Attribute op a x z h is = λ env d. rw (h env d, is) refl
unary_value Method op a x z h is = λ env s. rw (h env s, is) refl

pub unary_none : (sort : Sort) (op : UnaryOperator) (a : Expr Target) → HasNone sort a
    → HasNone sort (Unary op a)
unfolding value evaluate
unary_none Attribute op a h = λ env d. fails_first (value env d a) _ (h env d)
unary_none Method op a h = λ env s. stops_first (evaluate env a s) _ (h env s)

pub binary_value : (sort : Sort) (op : Operator) (a b : Expr Target) (x y z : ℤ)
    → HasValue sort a x → HasValue sort b y → operate (width_of sort) op x y ≡ Ok z
    → HasValue sort (Binary op a b) z
unfolding value evaluate
binary_value Attribute op a b x y z h k is = λ env d. rw (h env d, k env d, is) refl
binary_value Method op a b x y z h k is = λ env s. rw (h env s, k env s, is) refl

pub binary_traps : (sort : Sort) (op : Operator) (a b : Expr Target) (x y : ℤ) (why : Trap)
    → HasValue sort a x → HasValue sort b y → operate (width_of sort) op x y ≡ Err why
    → HasNone sort (Binary op a b)
unfolding value evaluate
binary_traps Attribute op a b x y why h k is = λ env d. (why, rw (h env d, k env d, is) refl)
binary_traps Method op a b x y why h k is =
    λ env s. (method.Trapped why, s, rw (h env s, k env s, is) refl)

pub binary_first : (sort : Sort) (op : Operator) (a b : Expr Target) → HasNone sort a
    → HasNone sort (Binary op a b)
unfolding value evaluate
binary_first Attribute op a b h = λ env d. fails_first (value env d a) _ (h env d)
binary_first Method op a b h = λ env s. stops_first (evaluate env a s) _ (h env s)

pub binary_second : (sort : Sort) (op : Operator) (a b : Expr Target) → HasNone sort b
    → HasNone sort (Binary op a b)
unfolding value evaluate
binary_second Attribute op a b h = λ env d. fails_later (value env d a) _
    (λ x. fails_first (value env d b) _ (h env d))
binary_second Method op a b h = λ env s. stops_later (evaluate env a s) _
    (λ x after. stops_first (evaluate env b after) _ (h env after))

pub binary_always : (sort : Sort) (op : Operator) (a b : Expr Target) (y : ℤ) (why : Trap)
    → HasValue sort b y → ((x : ℤ) → operate (width_of sort) op x y ≡ Err why)
    → HasNone sort (Binary op a b)
unfolding value evaluate
binary_always Attribute op a b y why k is = λ env d. fails_later (value env d a) _
    (λ x. (why, rw (k env d, is x) refl))
binary_always Method op a b y why k is = λ env s. stops_later (evaluate env a s) _
    (λ x after. (method.Trapped why, after, rw (k env after, is x) refl))

-- ---- literals and parentheses

pub literal_value : (sort : Sort) (n : ℕ) (z : ℤ) → z ≡ wrap (width_of sort) (pos n)
    → HasValue sort (Literal n) z
unfolding value evaluate
literal_value Attribute n z is = λ env d. ap Ok (sym is)
literal_value Method n z is = λ env s. ap (λ x. Done x s) (sym is)

pub parentheses_known : (sort : Sort) (a : Expr Target) (k : Known) → IsKnown sort a k
    → IsKnown sort (Parentheses a) k
unfolding value evaluate
parentheses_known Attribute a (Number n) h = h
parentheses_known Method a (Number n) h = h
parentheses_known Attribute a (Traps why) h = h
parentheses_known Method a (Traps why) h = h
parentheses_known sort a Nothing h = tt

-- ---- comparisons

pub compare_value : (sort : Sort) (by : Comparison) (a b : Expr Target) (x y z : ℤ)
    → HasValue sort a x → HasValue sort b y → z ≡ compare by x y → HasValue sort (Compare by a b) z
unfolding value evaluate
compare_value Attribute by a b x y z h k is = λ env d. rw (h env d, k env d, is) refl
compare_value Method by a b x y z h k is = λ env s. rw (h env s, k env s, is) refl

pub compare_first : (sort : Sort) (by : Comparison) (a b : Expr Target) → HasNone sort a
    → HasNone sort (Compare by a b)
unfolding value evaluate
compare_first Attribute by a b h = λ env d. fails_first (value env d a) _ (h env d)
compare_first Method by a b h = λ env s. stops_first (evaluate env a s) _ (h env s)

pub compare_second : (sort : Sort) (by : Comparison) (a b : Expr Target) → HasNone sort b
    → HasNone sort (Compare by a b)
unfolding value evaluate
compare_second Attribute by a b h = λ env d. fails_later (value env d a) _
    (λ x. fails_first (value env d b) _ (h env d))
compare_second Method by a b h = λ env s. stops_later (evaluate env a s) _
    (λ x after. stops_first (evaluate env b after) _ (h env after))

-- ---- `&&` and `||`

pub and_zero : (sort : Sort) (a b : Expr Target) (x : ℤ) → HasValue sort a x
    → is_zero x ≡ true
    → HasValue sort (LogicalAnd a b) (pos 0)
unfolding value evaluate
and_zero Attribute a b x h test = λ env d.
    ok_true (λ r. r ≡ Ok (pos 0)) (value env d a) x _ _ (h env d) test
    refl
and_zero Method a b x h test = λ env s.
    done_true (λ o. o ≡ Done (pos 0) s) (evaluate env a s) x s _ _ (h env s) test
    refl

pub and_value : (sort : Sort) (a b : Expr Target) (x y : ℤ) → HasValue sort a x
    → is_zero x ≡ false → HasValue sort b y
    → HasValue sort (LogicalAnd a b) (truth (not (is_zero y)))
unfolding value evaluate
and_value Attribute a b x y h test k = λ env d.
    ok_false (λ r. r ≡ Ok (truth (not (is_zero y)))) (value env d a) x _ _ (h env d) test
    (rw (k env d) refl)
and_value Method a b x y h test k = λ env s.
    done_false (λ o. o ≡ Done (truth (not (is_zero y))) s) (evaluate env a s) x s _ _ (h env s) test
    (rw (k env s) refl)

pub and_first : (sort : Sort) (a b : Expr Target) → HasNone sort a → HasNone sort (LogicalAnd a b)
unfolding value evaluate
and_first Attribute a b h = λ env d. fails_first (value env d a) _ (h env d)
and_first Method a b h = λ env s. stops_first (evaluate env a s) _ (h env s)

pub and_second : (sort : Sort) (a b : Expr Target) (x : ℤ) → HasValue sort a x
    → is_zero x ≡ false → HasNone sort b
    → HasNone sort (LogicalAnd a b)
unfolding value evaluate
and_second Attribute a b x h test k = λ env d.
    ok_false Fails (value env d a) x _ _ (h env d) test
    (fails_first (value env d b) _ (k env d))
and_second Method a b x h test k = λ env s.
    done_false Stops (evaluate env a s) x s _ _ (h env s) test
    (stops_first (evaluate env b s) _ (k env s))

pub or_one : (sort : Sort) (a b : Expr Target) (x : ℤ) → HasValue sort a x
    → is_zero x ≡ false
    → HasValue sort (LogicalOr a b) (pos 1)
unfolding value evaluate
or_one Attribute a b x h test = λ env d.
    ok_false (λ r. r ≡ Ok (pos 1)) (value env d a) x _ _ (h env d) test
    refl
or_one Method a b x h test = λ env s.
    done_false (λ o. o ≡ Done (pos 1) s) (evaluate env a s) x s _ _ (h env s) test
    refl

pub or_value : (sort : Sort) (a b : Expr Target) (x y : ℤ) → HasValue sort a x
    → is_zero x ≡ true → HasValue sort b y
    → HasValue sort (LogicalOr a b) (truth (not (is_zero y)))
unfolding value evaluate
or_value Attribute a b x y h test k = λ env d.
    ok_true (λ r. r ≡ Ok (truth (not (is_zero y)))) (value env d a) x _ _ (h env d) test
    (rw (k env d) refl)
or_value Method a b x y h test k = λ env s.
    done_true (λ o. o ≡ Done (truth (not (is_zero y))) s) (evaluate env a s) x s _ _ (h env s) test
    (rw (k env s) refl)

pub or_first : (sort : Sort) (a b : Expr Target) → HasNone sort a → HasNone sort (LogicalOr a b)
unfolding value evaluate
or_first Attribute a b h = λ env d. fails_first (value env d a) _ (h env d)
or_first Method a b h = λ env s. stops_first (evaluate env a s) _ (h env s)

pub or_second : (sort : Sort) (a b : Expr Target) (x : ℤ) → HasValue sort a x
    → is_zero x ≡ true → HasNone sort b
    → HasNone sort (LogicalOr a b)
unfolding value evaluate
or_second Attribute a b x h test k = λ env d.
    ok_true Fails (value env d a) x _ _ (h env d) test
    (fails_first (value env d b) _ (k env d))
or_second Method a b x h test k = λ env s.
    done_true Stops (evaluate env a s) x s _ _ (h env s) test
    (stops_first (evaluate env b s) _ (k env s))

-- ---- conditional expressions

pub takes_second : (sort : Sort) (t a b : Expr Target) (x : ℤ) (k : Known) → HasValue sort t x
    → is_zero x ≡ true → IsKnown sort b k → IsKnown sort (Conditional t a b) k
unfolding value evaluate
takes_second Attribute t a b x (Number n) h test is = λ env d.
    ok_true (λ r. r ≡ Ok n) (value env d t) x _ _ (h env d) test (is env d)
takes_second Method t a b x (Number n) h test is = λ env s.
    done_true (λ o. o ≡ Done n s) (evaluate env t s) x s _ _ (h env s) test (is env s)
takes_second Attribute t a b x (Traps why) h test is = λ env d.
    ok_true Fails (value env d t) x _ _ (h env d) test (is env d)
takes_second Method t a b x (Traps why) h test is = λ env s.
    done_true Stops (evaluate env t s) x s _ _ (h env s) test (is env s)
takes_second sort t a b x Nothing h test is = tt

pub takes_first : (sort : Sort) (t a b : Expr Target) (x : ℤ) (k : Known) → HasValue sort t x
    → is_zero x ≡ false → IsKnown sort a k → IsKnown sort (Conditional t a b) k
unfolding value evaluate
takes_first Attribute t a b x (Number n) h test is = λ env d.
    ok_false (λ r. r ≡ Ok n) (value env d t) x _ _ (h env d) test (is env d)
takes_first Method t a b x (Number n) h test is = λ env s.
    done_false (λ o. o ≡ Done n s) (evaluate env t s) x s _ _ (h env s) test (is env s)
takes_first Attribute t a b x (Traps why) h test is = λ env d.
    ok_false Fails (value env d t) x _ _ (h env d) test (is env d)
takes_first Method t a b x (Traps why) h test is = λ env s.
    done_false Stops (evaluate env t s) x s _ _ (h env s) test (is env s)
takes_first sort t a b x Nothing h test is = tt

pub test_none : (sort : Sort) (t a b : Expr Target) → HasNone sort t
    → HasNone sort (Conditional t a b)
unfolding value evaluate
test_none Attribute t a b h = λ env d. fails_first (value env d t) _ (h env d)
test_none Method t a b h = λ env s. stops_first (evaluate env t s) _ (h env s)

either_fails : {A : Type 0} (test : Bool) (x y : Trapping A) → Fails x → Fails y
    → Fails (elim test [ true ↦ y | false ↦ x ])
either_fails true x y h k = k
either_fails false x y h k = h

either_stops : {A : Type 0} (test : Bool) (x y : Action A) (s : State) → Stops (x s) → Stops (y s)
    → Stops ((elim test as (λ t. Action A) [ true ↦ y | false ↦ x ]) s)
either_stops true x y s h k = k
either_stops false x y s h k = h

pub both_none : (sort : Sort) (t a b : Expr Target) → HasNone sort a → HasNone sort b
    → HasNone sort (Conditional t a b)
unfolding value evaluate
both_none Attribute t a b h k = λ env d. fails_later (value env d t) _
    (λ x. either_fails (is_zero x) (value env d a) (value env d b) (h env d) (k env d))
both_none Method t a b h k = λ env s. stops_later (evaluate env t s) _
    (λ x after. either_stops (is_zero x) (evaluate env a) (evaluate env b) after (h env after)
    (k env after))

-- ---- elements and stores

pub indexed_none : (sort : Sort) (array : Target) (a : Expr Target) → HasNone sort a
    → HasNone sort (Indexed array a)
unfolding value evaluate
indexed_none Attribute array a h = λ env d. fails_first (value env d a) _ (h env d)
indexed_none Method array a h = λ env s. stops_first (evaluate env a s) _ (h env s)

pub assign_none : (to : Target) (a : Expr Target) → HasNone Method a → HasNone Method (Assign to a)
unfolding evaluate
assign_none to a h = λ env s. stops_first (evaluate env a s) _ (h env s)

-- what stops before one more action stops
stops_before : {A B C : Type 0} (o : Outcome A) (next : A → Action B) (last : B → Action C)
    → Stops (and_then o next) → Stops (and_then o (λ x s. and_then (next x s) last))
stops_before (Done x s) next last h = stops_first (next x s) last h
stops_before (Stopped why s) next last h = (why, s, refl)

pub compound_none : (op : Operator) (to : Target) (a : Expr Target)
    → HasNone Method (Binary op (Reference to) a) → HasNone Method (CompoundAssign op to a)
unfolding evaluate
compound_none op to a h = λ env s. stops_before (evaluate env a s) _ _ (h env s)

-- ---- calls

-- one of the arguments stops
pub data HasStop : List (Argument Target) → Type 0 where
  Here : (e : Expr Target) (rest : List (Argument Target)) → HasNone Method e
      → HasStop (tree.Value e ∷ rest)
  Later : (first : Argument Target) (rest : List (Argument Target)) → HasStop rest
      → HasStop (first ∷ rest)

arguments_stop : (env : Environment) (xs : List (Argument Target)) → HasStop xs → (s : State)
    → Stops (evaluate_all env (arguments_from xs) s)
unfolding evaluate_all
arguments_stop env _ (Here e rest h) s = stops_first (evaluate env e s) _ (h env s)
arguments_stop env _ (Later (tree.Text text) rest h) s =
    stops_first (evaluate_all env (arguments_from rest) s) _ (arguments_stop env rest h s)
arguments_stop env _ (Later (tree.Value e) rest h) s = stops_later (evaluate env e s) _
    (λ x after. stops_first (evaluate_all env (arguments_from rest) after) _
    (arguments_stop env rest h after))

pub call_none : (function : Target) (xs : List (Argument Target)) → HasStop xs
    → HasNone Method (Call function (arguments_from xs))
unfolding evaluate
call_none function xs h = λ env s.
    stops_first (evaluate_all env (arguments_from xs) s) _ (arguments_stop env xs h s)

pub ruleset all = (binary_first, binary_second)
