-- The values of expressions in methods.
use Rattle.std.specs.Prelude.{true, false, not, ℤ, pos, List, [], ◌∷◌, ◌++◌, Option, Some, None, option_map, ⊤}
use Rattle.edd_syntax.specs.declared.numbers.ItemNo.TheVariants as item_no
use Rattle.edd_syntax.specs.declared.numbers.MethNo.{MethNo}
use Rattle.edd_syntax.specs.declared.numbers.VarNo.{VarNo}
use Rattle.edd_syntax.specs.declared.operators.Operator.TheVariants as operator
use Rattle.edd_syntax.specs.declared.operators.IncrementOperator.{IncrementOperator}
use Rattle.edd_syntax.specs.declared.operators.IncrementOperator.TheVariants.{PreIncrement, PostIncrement, PreDecrement, PostDecrement}
use Rattle.edd_syntax.specs.declared.operators.Builtin.{Builtin}
use Rattle.edd_syntax.specs.declared.operators.Builtin.TheVariants as builtin
use Rattle.edd_syntax.specs.declared.operators.Parameter.{Parameter}
use Rattle.edd_syntax.specs.declared.operators.Parameter.TheVariants as parameter
use Rattle.edd_syntax.specs.Reference.{Target, Local, Item, Function}
use Rattle.edd_syntax.specs.Expression as expr
use Rattle.edd_syntax.specs.Expression.{Expr, Literal, Decimal, Reference, Indexed, Parentheses, Unary, Binary, Compare, LogicalAnd, LogicalOr, Conditional, Assign, CompoundAssign, Increment, Call, Arguments, Nil, Cons}
use Rattle.edd_syntax.specs.TwosComplement.{wrap, truth, is_zero, operate, compare, apply}
use Rattle.edd_syntax.specs.Words.{Words, words_of}
use Rattle.edd_syntax.specs.Device.{Environment}
use Rattle.edd_syntax.specs.Builtins.{parameters, request_parameters}
use Rattle.edd_syntax.specs.MethodState.{RequestArgument, TextArgument, NumberArgument, VariableArgument, Aborted, Action, pure, stop, ◌>>=◌, ◌>>◌, number, read, read_element, assign, add_abort_method, ask}

-- an argument of a function: a text, or a number with the target that a plain reference names
pub data Given : Type 0 where
  Text : (text : Words) → Given
  Number : (value : ℤ) → (of : Option Target) → Given

-- what a plain reference names; no other expression names anything
abbrev pub referred : Expr Target → Option Target
referred (Reference from) = Some from
referred _ = None

-- a variable of the device as an argument, with its value
pub record DeviceValue : Type 0 where
  pub variable : VarNo
  pub value : ℤ

-- what stands for a parameter of this sort
abbrev pub FittingOne : Parameter → Type 0
FittingOne parameter.Text = Words
FittingOne parameter.Number = ℤ
FittingOne parameter.DeviceVariable = DeviceValue
FittingOne parameter.Method = MethNo

-- one for each parameter, in their order
abbrev pub Fitting : List Parameter → Type 0
Fitting [] = ⊤
Fitting (p ∷ parameters) = FittingOne p × Fitting parameters

-- an argument for a parameter, if it fits
abbrev pub fitted_one : (p : Parameter) → Given → Option (FittingOne p)
fitted_one parameter.Text (Text text) = Some text
fitted_one parameter.Text (Number value of) = None
fitted_one parameter.Number (Text text) = None
fitted_one parameter.Number (Number value of) = Some value
fitted_one parameter.DeviceVariable (Number value (Some (Item (item_no.Variable v)))) =
    Some (record { variable = v; value = value })
fitted_one parameter.DeviceVariable _ = None
fitted_one parameter.Method (Number value (Some (Item (item_no.Method m)))) = Some m
fitted_one parameter.Method _ = None

-- the arguments for the parameters, if they are as many and each fits
abbrev pub fitted : (parameters : List Parameter) → List Given → Option (Fitting parameters)
fitted [] [] = Some tt
fitted [] (g ∷ given) = None
fitted (p ∷ parameters) [] = None
fitted (p ∷ parameters) (g ∷ given) = elim (fitted_one p g) [
  | Some first ↦ option_map (λ rest. (first, rest)) (fitted parameters given)
  | None ↦ None
]

-- a fitting argument as the host gets it; no request takes a METHOD
abbrev pub asked_one : (p : Parameter) → FittingOne p → List RequestArgument
asked_one parameter.Text text = TextArgument text ∷ []
asked_one parameter.Number value = NumberArgument value ∷ []
asked_one parameter.DeviceVariable given = VariableArgument given.variable ∷ []
asked_one parameter.Method m = []

-- all of them, in their order
abbrev pub asked : (parameters : List Parameter) → Fitting parameters → List RequestArgument
asked [] given = []
asked (p ∷ parameters) given = asked_one p given.0 ++ asked parameters given.1

module _ (env : Environment) where
  -- `++` and `--` store 1 more or 1 less; before the reference their value is what is read back,
  -- after it what was read before
  abbrev pub increment : IncrementOperator → Target → Action ℤ
  increment PreIncrement to = do
    old ← read to
    new ← number (operate 32 operator.Add old (pos 1))
    assign env to new
  increment PostIncrement to = do
    old ← read to
    new ← number (operate 32 operator.Add old (pos 1))
    assign env to new
    pure old
  increment PreDecrement to = do
    old ← read to
    new ← number (operate 32 operator.Subtract old (pos 1))
    assign env to new
  increment PostDecrement to = do
    old ← read to
    new ← number (operate 32 operator.Subtract old (pos 1))
    assign env to new
    pure old

  -- what a function does with its arguments: it asks the host, reads or stores a variable, aborts,
  -- or lists an abort method; the value of a store is 0
  abbrev pub effect_of : (f : Builtin) → Fitting (parameters f) → Action ℤ
  effect_of (builtin.Ask kind) given =
      ask (record { kind = kind; arguments = asked (request_parameters kind) given })
  effect_of builtin.IvarValue given = pure given.0.value
  effect_of builtin.LvarValue given = pure given.0.value
  effect_of builtin.Iassign given =
      assign env (Item (item_no.Variable given.0.variable)) given.1.0 >> pure (pos 0)
  effect_of builtin.Lassign given =
      assign env (Item (item_no.Variable given.0.variable)) given.1.0 >> pure (pos 0)
  effect_of builtin.Abort given = stop Aborted
  effect_of builtin.ProcessAbort given = stop Aborted
  effect_of builtin.AddAbortMethod given = add_abort_method given.0

  -- Arguments that don't fit the parameters have no effect and the value 0: the rules of the
  -- profile refuse such a call.
  abbrev pub call_builtin : Builtin → List Given → Action ℤ
  call_builtin f given = elim (fitted (parameters f) given) [
    | Some arguments ↦ effect_of f arguments
    | None ↦ pure (pos 0)
  ]

  -- the effect of a call; no checked unit calls anything but a function
  unfoldable pub call : Target → List Given → Action ℤ
  call (Function f) given = call_builtin f given
  call (Local slot) given = pure (pos 0)
  call (Item i) given = pure (pos 0)

  -- the value of an expression: operands from left to right, each number of 32 bits
  unfoldable mutual
    pub evaluate : Expr Target → Action ℤ
    evaluate (Literal value) = pure (wrap 32 (pos value))
    evaluate Decimal = pure (pos 0)
    evaluate (Reference from) = read from
    evaluate (Indexed array index) = do
      at ← evaluate index
      read_element env array at
    evaluate (Parentheses inner) = evaluate inner
    evaluate (Unary op operand) = do
      a ← evaluate operand
      pure (apply 32 op a)
    evaluate (Binary op left right) = do
      a ← evaluate left
      b ← evaluate right
      number (operate 32 op a b)
    evaluate (Compare by left right) = do
      a ← evaluate left
      b ← evaluate right
      pure (compare by a b)
    evaluate (LogicalAnd left right) = do
      a ← evaluate left
      elim (is_zero a) [
        | true ↦ pure (pos 0)
        | false ↦ (do b ← evaluate right; pure (truth (not (is_zero b))))
      ]
    evaluate (LogicalOr left right) = do
      a ← evaluate left
      elim (is_zero a) [
        | true ↦ (do b ← evaluate right; pure (truth (not (is_zero b))))
        | false ↦ pure (pos 1)
      ]
    evaluate (Conditional test first second) = do
      a ← evaluate test
      elim (is_zero a) [ true ↦ evaluate second | false ↦ evaluate first ]
    evaluate (Assign to value) = do
      new ← evaluate value
      assign env to new
    evaluate (CompoundAssign op to value) = do
      old ← read to
      by ← evaluate value
      new ← number (operate 32 op old by)
      assign env to new
    evaluate (Increment op to) = increment op to
    evaluate (Call function arguments) = do
      given ← evaluate_all arguments
      call function given

    -- the arguments of a call, evaluated from left to right
    pub evaluate_all : Arguments Target → Action (List Given)
    evaluate_all Nil = pure []
    evaluate_all (Cons (expr.Text text) rest) = do
      others ← evaluate_all rest
      pure (Text (words_of text) ∷ others)
    evaluate_all (Cons (expr.Value e) rest) = do
      value ← evaluate e
      others ← evaluate_all rest
      pure (Number value (referred e) ∷ others)
