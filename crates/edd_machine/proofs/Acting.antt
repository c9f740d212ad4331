-- The effects of the instructions that a machine has beside those that both sorts of units have.
use Rattle.std.proofs.Common.{◌≡◌, ℕ, ◌<◌, true, ℤ, List, ◌∷◌, length, Option, Some, refl, sym, ap, subst, ◌∙◌, arith, w32, FitsSigned, to_z, of_z}
use Rattle.std.specs.Prelude.{slice_set}
use Rattle.std.specs.List.{slice_get}
use Rattle.std.proofs.lemmas.Bool.{ltb-true}
use Rattle.std.proofs.lemmas.Int.{to_z-of_z}
use Rattle.std.proofs.lemmas.Option.{get_or_from_slice_get}
use Rattle.std.proofs.lemmas.Slice.Zip.{AllZip-long}
use Rattle.edd_syntax.specs.declared.numbers.MethNo.{MethNo}
use Rattle.edd_syntax.specs.declared.numbers.VarNo.{VarNo}
use Rattle.edd_syntax.specs.TwosComplement.{wrap, store}
use Rattle.edd_syntax.specs.DeviceValues.{VariableType, type_at, AreDeviceValues}
use Rattle.edd_instructions.specs.declared.instruction.Instruction.{Instruction}
use Rattle.edd_instructions.specs.declared.instruction.Instruction.TheVariants as instructions
use Rattle.edd_image.specs.declared.parts.VarKind.{VarKind}
use Rattle.edd_image.specs.declared.versions.Version.TheVariants.{One, Two}
use Rattle.edd_instructions.specs.declared.instruction.Ask.{Ask}
use Rattle.edd_instructions.specs.declared.requests.Request.{Request}
use Rattle.edd_image.specs.Contents.{contents_in, fields_of_variable}
use Rattle.edd_instructions.specs.References.{names_exist}
use Rattle.edd_image.specs.Fields.{counts_in}
use Rattle.edd_instructions.specs.Steps.{State, Environment, Effect, ask_for, on_top, on_two, store_in, act, act_ask}
use Rattle.edd_instructions.specs.Validity.{IsValid}
use Rattle.edd_machine.specs.declared.machine.Machine.{Machine}
use Rattle.edd_machine.specs.declared.outcome.Outcome.{Outcome}
use Rattle.edd_machine.specs.declared.outcome.Outcome.TheVariants.{GoesOn}
use Rattle.edd_machine.specs.Outcomes.{IsShared, comes_to}
use Rattle.edd_machine.specs.Running.{state_of, IsEffect, CanAct}
use Rattle.edd_loader.specs.Lookups.{type_of_kind}
use Rattle.edd_machine.specs.Types.{types_in}
use Rattle.edd_loader.proofs.VariableTypes.{type_at_number, types_counted}

pub store_acts : (env : Environment) (s : State) (v : VarNo) (next : ℕ) (a : ℤ) (below : List ℤ)
    (t : VariableType) → s.operands ≡ a ∷ below → type_at env.types v ≡ t
    → act env (instructions.Store v) next s ≡ store_in env s next below (store t.type t.size a)
    (record { variable = v; value = store t.type t.size a })
unfolding act
store_acts env s v next a below t e g =
    ap (λ (operands : List ℤ). on_top operands
    (λ x rest. store_in env s next rest
    (store (type_at env.types v).type (type_at env.types v).size x)
    (record {
      variable = v;
      value = store (type_at env.types v).type (type_at env.types v).size
          x;
    }))) e
    ∙ ap (λ (u : VariableType). store_in env s next below (store u.type u.size a)
    (record { variable = v; value = store u.type u.size a })) g

pub type_there : (b : List ℕ) (v : VarNo) (kind : VarKind) → IsValid b
    → slice_get (contents_in b).variables v.0 ≡ Some (fields_of_variable kind)
    → type_at (types_in b) v ≡ type_of_kind kind
type_there b v kind valid e = get_or_from_slice_get (types_in b) v.0 (type_of_kind kind) _
    (type_at_number b v.0 kind valid e)

pub values_counted : (b : List ℕ) (values : List ℤ) → IsValid b
    → AreDeviceValues (types_in b) values → length values ≡ (counts_in b).variables
values_counted b values valid are = AllZip-long _ (types_in b) values are ∙ types_counted b valid

pub ask_acts : (env : Environment) (request : Ask) (next : ℕ) (s : State) (i : Instruction)
    → i ≡ instructions.Ask request → act env i next s ≡ act_ask request next s
unfolding act
ask_acts env request next s i e = rw e refl

-- The second state is the first without its topmost operand. This number is read of it.
pub record TakesTop (s t : State) (number : ℤ) : Type 0 where
  pub taken : s.operands ≡ number ∷ t.operands
  pub others : t ≡ record s { operands = t.operands }

pub takes_top : (b : List ℕ) (m n : Machine) (values : List ℤ) (number : ℤ)
    → m.operands ≡ number ∷ n.operands → n ≡ record m { operands = n.operands }
    → FitsSigned w32 number
    → TakesTop (state_of b m values) (state_of b n values) (to_z w32 (of_z w32 number))
takes_top b m n values number taken others fits = record {
  taken = taken ∙ ap (λ (z : ℤ). z ∷ n.operands) (sym (to_z-of_z w32 number fits));
  others = ap (λ (x : Machine). state_of b x values) others;
}

-- a request with one number, and one with two
pub asks_one : (s t : State) (next : ℕ) (a : ℤ) (f : ℤ → Request) → TakesTop s t a
    → on_top s.operands (λ x rest. ask_for s next rest (f x)) ≡ ask_for t next t.operands (f a)
asks_one s t next a f top =
    ap (λ (operands : List ℤ). on_top operands (λ x rest. ask_for s next rest (f x))) top.taken
    ∙ ap (λ (v : State). ask_for v next t.operands (f a)) (sym top.others)

pub asks_two : (s t u : State) (next : ℕ) (a z : ℤ) (f : ℤ → ℤ → Request) → TakesTop s t z
    → TakesTop t u a → on_two s.operands (λ x y rest. ask_for s next rest (f x y))
    ≡ ask_for u next u.operands (f a z)
asks_two s t u next a z f upper lower =
    ap (λ (operands : List ℤ). on_two operands (λ x y rest. ask_for s next rest (f x y)))
    (upper.taken ∙ ap (λ (rest : List ℤ). z ∷ rest) lower.taken)
    ∙ ap (λ (v : State). ask_for v next u.operands (f a z))
    (sym (lower.others ∙ ap (λ (v : State). record v { operands = u.operands }) upper.others))

pub effect_same : (o p : Option Effect) (b : List ℕ) (m : Machine) (values : List ℤ) → o ≡ p
    → IsEffect p b m values → IsEffect o b m values
effect_same o p b m values e i = record {
  effect = i.effect;
  is = e ∙ i.is;
  state = i.state;
  emitted = i.emitted;
}

-- the instructions that attributes have
pub shared : (i : Instruction) → ((v : VarNo) → i ≡ instructions.Store v → ⊥)
    → ((n : ℕ) → i ≡ instructions.GetLocal n → ⊥) → ((n : ℕ) → i ≡ instructions.SetLocal n → ⊥)
    → ((r : Ask) → i ≡ instructions.Ask r → ⊥) → (i ≡ instructions.Abort → ⊥)
    → ((m : MethNo) → i ≡ instructions.AddAbortMethod m → ⊥) → IsShared i
shared (instructions.Store v) a b c d e f = absurd (a v refl)
shared (instructions.GetLocal slot) a b c d e f = absurd (b slot refl)
shared (instructions.SetLocal slot) a b c d e f = absurd (c slot refl)
shared (instructions.ReadElement array) a b c d e f = (Two, refl)
shared (instructions.Element n v label help) a b c d e f = (Two, refl)
shared (instructions.Ask request) a b c d e f = absurd (d request refl)
shared instructions.Abort a b c d e f = absurd (e refl)
shared (instructions.AddAbortMethod m) a b c d e f = absurd (f m refl)
shared _ a b c d e f = (One, refl)

-- the variable that an instruction reads has a value
pub variable_there : (b : List ℕ) (i : Instruction) (s : State) (v : VarNo) → CanAct b i s
    → i ≡ instructions.Variable v → v.0 < length s.values
variable_there b i s v can e =
    let exists : names_exist can.context (instructions.Variable v) ≡ true =
    subst (λ (x : Instruction). names_exist can.context x ≡ true) e can.exist in
    omega (
      arith,
      ltb-true v.0 can.context.counts.variables exists,
      can.is.variable_count,
      AllZip-long _ (types_in b) s.values can.is.values,
    )

-- what an outcome makes of a state does not depend on the operands that it had
pub comes_over : (o : Outcome) (operands : List ℤ) (s : State) → comes_to o operands s
    ≡ comes_to o operands (record s { operands = operands })
comes_over (GoesOn place) operands s = refl
comes_over _ operands s = refl

-- what a store leaves, by the numbers that were read again
pub stored_state : (s : State) (next v w : ℕ) (below operands : List ℤ) (kept z read : ℤ) → z ≡ kept
    → read ≡ wrap w z → operands ≡ read ∷ below → (t : State)
    → t ≡ record s { place = next; operands = operands; values = slice_set s.values v z }
    → record s { place = next; operands = wrap w kept ∷ below; values = slice_set s.values v kept }
    ≡ t
stored_state s next v w below operands kept z read e f g t h =
    let after : ℤ → List ℤ → State =
    λ x ops. record s { place = next; operands = ops; values = slice_set s.values v x } in
    sym (h ∙ ap (after z) (g ∙ ap (λ (x : ℤ). x ∷ below) f)
    ∙ ap (λ (x : ℤ). after x (wrap w x ∷ below)) e)
