-- What a request takes and names, and its block.
use Rattle.std.proofs.Common.{◌≡◌, refl, ℕ, zero, suc, ◌+◌, ◌≤◌, true, false, not, List, [], ◌∷◌, ◌++◌, length, Option, Some, None, arith}
use Rattle.std.specs.Prelude.{ℤ, filter, option_map, slice_index_or}
use Rattle.std.specs.Option.{option_to_list}
use Rattle.std.proofs.lemmas.Bool.{and_parts}
use Rattle.edd_syntax.specs.declared.operators.Builtin.TheVariants as builtin
use Rattle.edd_syntax.specs.declared.operators.Parameter.{Parameter}
use Rattle.edd_syntax.specs.declared.operators.Parameter.TheVariants as parameter
use Rattle.edd_syntax.specs.declared.operators.RequestKind.{RequestKind}
use Rattle.edd_syntax.specs.declared.operators.RequestKind.TheVariants as kind
use Rattle.edd_syntax.specs.declared.numbers.StrNo.{StrNo}
use Rattle.edd_syntax.specs.declared.reference.Target.{Target}
use Rattle.edd_syntax.specs.Builtins.{is_number, names_taken, request_parameters}
use Rattle.edd_syntax.specs.Expression.{Text, Value, Arguments, Nil, Cons}
use Rattle.edd_syntax.specs.SubsetRules.{all_fit, fits}
use Rattle.edd_syntax.specs.Words.{Words}
use Rattle.edd_instructions.specs.declared.instruction.Ask.{Ask}
use Rattle.edd_instructions.specs.declared.requests.RequestArgument.{RequestArgument}
use Rattle.edd_instructions.specs.declared.requests.RequestArgument.TheVariants as argument
use Rattle.edd_instructions.specs.Decoding.{string, variable, unused_are_zero}
use Rattle.edd_instructions.specs.Requests.{arguments_asked, kind_asked, request_with}
use Rattle.edd_code.specs.Arguments.{as_variable, asking, named_before, names_of}
use Rattle.edd_code.specs.Blocks.{Then}
use Rattle.edd_code.specs.Expressions.{no_value}
use Rattle.edd_code.specs.MethodExpressions.{argument_blocks, ask_block, call_block, numbers_block}

-- ---- the table of requests

pub few_names : (k : RequestKind) → names_taken k ≤ 2
few_names kind.PutMessage = omega arith
few_names _ = omega arith

-- the arguments by the parameters, with what the instruction names and with the numbers
abbrev pub arranged : List Parameter → List ℕ → List ℤ → List RequestArgument
arranged (parameter.Text ∷ more) (n ∷ names) numbers = argument.Text (string n)
    ∷ arranged more names numbers
arranged (parameter.DeviceVariable ∷ more) (n ∷ names) numbers = argument.Variable (variable n)
    ∷ arranged more names numbers
arranged (parameter.Number ∷ more) names (z ∷ numbers) = argument.Number z
    ∷ arranged more names numbers
arranged (parameter.Method ∷ more) names numbers = arranged more names numbers
arranged _ names numbers = []

pub arranged_so : (k : RequestKind) (s t : ℕ) (x y : ℤ) → arguments_asked (request_with k s t x y)
    ≡ arranged (request_parameters k) (s ∷ t ∷ []) (x ∷ y ∷ [])
arranged_so kind.PutMessage s t x y = refl
arranged_so _ s t x y = refl

pub kind_so : (k : RequestKind) (s t : ℕ) (x y : ℤ) → kind_asked (request_with k s t x y) ≡ k
kind_so kind.PutMessage s t x y = refl
kind_so _ s t x y = refl

-- ---- what it names

-- nothing stands where there are no more names
pub unused : (count : ℕ) (names : List ℕ) → length names ≤ count
    → unused_are_zero count (slice_index_or names 0 0) (slice_index_or names 1 0) ≡ true
unused zero [] h = refl
unused zero (n ∷ names) h = absurd (omega arith)
unused (suc zero) [] h = refl
unused (suc zero) (n ∷ []) h = refl
unused (suc zero) (n ∷ m ∷ names) h = absurd (omega arith)
unused (suc (suc count)) names h = refl

pub named_so : (k : RequestKind) (name : Option ℕ) (names : List ℕ)
    → named_before name (asking k names) ≡ asking k (option_to_list name ++ names)
named_so k None names = refl
named_so k (Some n) names = refl

one_named : (o : Option ℕ) (names : List ℕ) → length (option_to_list o ++ names) ≤ 1
    + length names
one_named None names = omega arith
one_named (Some n) names = omega arith

module _ (number : Words → StrNo) where
  pub names_fit : (ps : List Parameter) (arguments : Arguments Target)
      → all_fit ps arguments ≡ true
      → length (names_of number ps arguments) ≤ length (filter (λ p. not (is_number p)) ps)
  names_fit [] arguments is = omega arith
  names_fit (p ∷ ps) Nil is = absurd cc
  names_fit (parameter.Text ∷ ps) (Cons (Text t) rest) is = omega (arith, names_fit ps rest is)
  names_fit (parameter.Number ∷ ps) (Cons (Text t) rest) is = absurd cc
  names_fit (parameter.DeviceVariable ∷ ps) (Cons (Text t) rest) is = absurd cc
  names_fit (parameter.Method ∷ ps) (Cons (Text t) rest) is = absurd cc
  names_fit (parameter.Text ∷ ps) (Cons (Value e) rest) is = absurd cc
  names_fit (parameter.Number ∷ ps) (Cons (Value e) rest) is = names_fit ps rest is
  names_fit (p ∷ ps) (Cons (Value e) rest) is =
      omega (
        arith,
        one_named (option_map (λ v. v.0) (as_variable (Value e))) (names_of number ps rest),
        names_fit ps rest (and_parts (fits p (Value e)) (all_fit ps rest) is).1,
      )

  -- ---- its block

  pub asks_block : (k : RequestKind) (arguments : Arguments Target)
      → all_fit (request_parameters k) arguments ≡ true
      → call_block number (builtin.Ask k) arguments
      ≡ Then (numbers_block (request_parameters k) (argument_blocks number arguments))
      (ask_block (asking k (names_of number (request_parameters k) arguments)))
  unfolding call_block argument_blocks
  asks_block k Nil is = rw is refl
  asks_block k (Cons x rest) is = rw is refl

  pub misfit_block : (k : RequestKind) (arguments : Arguments Target)
      → all_fit (request_parameters k) arguments ≡ false
      → call_block number (builtin.Ask k) arguments ≡ no_value
  unfolding call_block
  misfit_block k Nil is = rw is refl
  misfit_block k (Cons x rest) is = rw is refl
