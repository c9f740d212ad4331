-- What is known of an expression for all devices, values and states.
use Rattle.std.specs.Prelude.{◌≡◌, ℤ, List, Ok, Err, ⊤, not}
use Rattle.edd_syntax.specs.declared.answer.Trap.{Trap}
use Rattle.edd_syntax.specs.declared.reference.Target.{Target}
use Rattle.edd_syntax.specs.Expression.{Expr}
use Rattle.edd_syntax.specs.TwosComplement.{truth, is_zero}
use Rattle.edd_syntax.specs.Device.{Environment}
use Rattle.edd_syntax.specs.MethodState.{State, Stop, Outcome, Done, Stopped}
use Rattle.edd_syntax.specs.AttributeValue.{Trapping, value}
use Rattle.edd_syntax.specs.Evaluation.{evaluate}
use Rattle.edd_instructions.specs.declared.unit.Sort.{Sort}
use Rattle.edd_instructions.specs.declared.unit.Sort.TheVariants.{Attribute, Method}
use Rattle.edd_instructions.specs.Steps.{Fits}
use Rattle.edd_constants.specs.declared.constants.Known.{Known}
use Rattle.edd_constants.specs.declared.constants.Known.TheVariants.{Number, Traps, Nothing}

-- there is no value: it traps
abbrev pub Fails : {A : Type 0} → Trapping A → Type 0
Fails r = (why : Trap) × (r ≡ Err why)

-- there is no value: the action stopped
abbrev pub Stops : {A : Type 0} → Outcome A → Type 0
Stops {A} o = (why : Stop) × (after : State) × (o ≡ Stopped why after)

-- the expression has this value, and changes nothing
abbrev pub HasValue : Sort → Expr Target → ℤ → Type 0
HasValue Attribute e n = (env : Environment) (d : List ℤ) → value env d e ≡ Ok n
HasValue Method e n = (env : Environment) (s : State) → evaluate env e s ≡ Done n s

-- the expression never has a value
abbrev pub HasNone : Sort → Expr Target → Type 0
HasNone Attribute e = (env : Environment) (d : List ℤ) → Fails (value env d e)
HasNone Method e = (env : Environment) (s : State) → Stops (evaluate env e s)

-- what is known of the expression is so, for all devices, values and states
abbrev pub IsKnown : Sort → Expr Target → Known → Type 0
IsKnown sort e (Number n) = HasValue sort e n
IsKnown sort e (Traps why) = HasNone sort e
IsKnown sort e Nothing = ⊤

-- a known number fits the width
abbrev pub KnownFits : Sort → Known → Type 0
KnownFits sort (Number n) = Fits sort n
KnownFits sort (Traps why) = ⊤
KnownFits sort Nothing = ⊤

-- Of each operand of which the first is known, the second is known of the expression of it.
abbrev pub TellsOfOne : Sort → (Expr Target → Expr Target) → Known → Known → Type 0
TellsOfOne sort form operand whole = (a : Expr Target)
    → IsKnown sort a operand → IsKnown sort (form a) whole

-- The same of two operands: the third is known of the expression of both.
abbrev pub TellsOfTwo : Sort → (Expr Target → Expr Target → Expr Target) → Known → Known → Known
    → Type 0
TellsOfTwo sort form first second whole = (a b : Expr Target)
    → IsKnown sort a first → IsKnown sort b second → IsKnown sort (form a b) whole

-- The same of three operands: the fourth is known of the expression of them.
abbrev pub TellsOfThree : Sort → (Expr Target → Expr Target → Expr Target → Expr Target) → Known
    → Known → Known → Known → Type 0
TellsOfThree sort form test first second whole = (t a b : Expr Target) → IsKnown sort t test
    → IsKnown sort a first → IsKnown sort b second → IsKnown sort (form t a b) whole

-- what is known of the truth of a value of which this is known: it is 0 or 1
abbrev pub truth_of : Known → Known
truth_of (Number n) = Number (truth (not (is_zero n)))
truth_of (Traps why) = Traps why
truth_of Nothing = Nothing

-- what is known where such a value is evaluated and then not used: only whether it traps
abbrev pub unused : Known → Known
unused (Number n) = Nothing
unused (Traps why) = Traps why
unused Nothing = Nothing
