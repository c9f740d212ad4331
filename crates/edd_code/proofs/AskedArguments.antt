-- The arguments of a request, one after the other.
use Rattle.std.proofs.Common.{◌≡◌, refl, sym, ap, subst, ◌∙◌, ℕ, ◌-◌, ◌<◌, ◌≤◌, Bool, true, false, not, List, [], ◌∷◌, ◌++◌, length, get_or, drop, take, map, Option, arith}
use Rattle.std.specs.Prelude.{◌≢◌, option_map}
use Rattle.std.specs.Option.{option_to_list}
use Rattle.std.proofs.lemmas.List.{append-nil, take_all}
use Rattle.edd_syntax.specs.declared.operators.Parameter.{Parameter}
use Rattle.edd_syntax.specs.declared.operators.Parameter.TheVariants as parameter
use Rattle.edd_syntax.specs.declared.expr.Argument as code_argument
use Rattle.edd_syntax.specs.declared.expr.Argument.TheVariants as variant
use Rattle.edd_syntax.specs.declared.expr.Expr as code_expr
use Rattle.edd_syntax.specs.declared.text.Text as code_text
use Rattle.edd_syntax.specs.declared.operators.RequestKind.{RequestKind}
use Rattle.edd_syntax.specs.declared.numbers.StrNo.{StrNo}
use Rattle.edd_syntax.specs.declared.reference.Target.{Target}
use Rattle.edd_syntax.specs.TreeView.{numbered_argument, numbered_expr}
use Rattle.edd_syntax.specs.WordsView.{text_of}
use Rattle.edd_syntax.specs.Expression.{Expr, Argument, Text, Value, Arguments, Nil, Cons, arguments_from}
use Rattle.edd_syntax.specs.Strings.{argument_texts, expr_texts, strings_of_texts}
use Rattle.edd_syntax.specs.SubsetRules.{fits}
use Rattle.edd_syntax.specs.Text as texts
use Rattle.edd_syntax.specs.Words.{Words, words_of}
use Rattle.edd_instructions.specs.declared.instruction.Ask.{Ask}
use Rattle.edd_code.specs.Arguments.{as_variable, asking, named_before, named_one, names_of}
use Rattle.edd_code.specs.Blocks.{Block, Nothing, bytes_at, bytes_of, emitted}
use Rattle.edd_code.specs.MethodExpressions.{argument_block, argument_blocks, method_block, number_block, numbers_block}
use Rattle.edd_code.specs.Tables.{GrowsBy, Keeps, Overflows, number_in}
use Rattle.edd_code.specs.Written.{ByNumber, WritesPart}
use Rattle.edd_code.proofs.Asking.{named_so}
use Rattle.edd_code.proofs.Fitting.{of_method_in, of_variable_in}
use Rattle.edd_code.proofs.Numbered.{texts_overflow_first, texts_overflow_second}
use Rattle.edd_code.proofs.NumberedBlocks.{Numbered, held_part, known_on, last_part, plain_part, same_part, text_known, then_part}
use Rattle.edd_code.proofs.TextsHeld.{one_held}

-- the first of a list that is not empty, and the rest
pub first_and_rest : {X : Type 0} (xs : List X) (x : X) → 1 ≤ length xs → x ≡ get_or xs 0 x
    → xs ≡ x ∷ drop 1 xs
first_and_rest [] x some is = absurd (omega arith)
first_and_rest (y ∷ ys) x some is = ap (λ z. z ∷ ys) (sym is)

-- the rest, as a pattern of the code has it
pub rest_is : {X : Type 0} (xs : List X) → take (length xs - 1) (drop 1 xs) ≡ drop 1 xs
rest_is [] = refl
rest_is (x ∷ xs) = take_all (length (x ∷ xs) - 1) xs (omega arith)

pub all_by : {X : Type 0} (xs : List X) (x : X) → 1 ≤ length xs → x ≡ get_or xs 0 x
    → x ∷ take (length xs - 1) (drop 1 xs) ≡ xs
all_by xs x some is = ap (λ ys. x ∷ ys) (rest_is xs) ∙ sym (first_and_rest xs x some is)

one_and_rest : (x : Argument Target) (rest : Arguments Target) → argument_texts (Cons x Nil)
    ++ argument_texts rest ≡ argument_texts (Cons x rest)
one_and_rest (Text t) rest = refl
one_and_rest (Value e) rest = ap (λ ts. ts ++ argument_texts rest) (append-nil (expr_texts e))

-- ---- no arguments

pub no_numbers : (number : Words → StrNo) (ps : List Parameter)
    → numbers_block [] [] ≡ numbers_block ps (argument_blocks number Nil)
unfolding argument_blocks
no_numbers number [] = refl
no_numbers number (p ∷ ps) = refl

pub no_names : (number : Words → StrNo) (kind : RequestKind) (ps : List Parameter)
    → asking kind [] ≡ asking kind (names_of number ps Nil)
no_names number kind [] = refl
no_names number kind (p ∷ ps) = refl

-- ---- one argument, and those behind it

module _ (old mid new : List Words) (before between after : List ℕ) (p : Parameter)
    (ps : List Parameter) (x : Argument Target) (rest : Arguments Target)
    (one : WritesPart old before (argument_texts (Cons x Nil))
    (λ number. number_block p (argument_block number x)) mid between)
    (more : WritesPart mid between (argument_texts rest)
    (λ number. numbers_block ps (argument_blocks number rest)) new after) where
  pub arguments_part : WritesPart old before (argument_texts (Cons x rest))
      (λ number. numbers_block (p ∷ ps) (argument_blocks number (Cons x rest))) new after
  unfolding argument_blocks
  arguments_part = subst (λ ts. WritesPart old before ts
      (λ number. numbers_block (p ∷ ps) (argument_blocks number (Cons x rest))) new after)
      (one_and_rest x rest)
      (then_part before between after (argument_texts (Cons x Nil)) (argument_texts rest)
      (λ number. number_block p (argument_block number x))
      (λ number. numbers_block ps (argument_blocks number rest)) one more)

  pub arguments_named : (kind : RequestKind) (name : Option ℕ) (a : Ask)
      → ByNumber old mid (λ number. named_one number x p) (option_to_list name)
      → ByNumber mid new (λ number. asking kind (names_of number ps rest)) a
      → ByNumber old new (λ number. asking kind (names_of number (p ∷ ps) (Cons x rest)))
      (named_before name a)
  arguments_named kind name a is are d later =
      let number = number_in (new ++ later) in
      ap (named_before name) (are (one.table.different d) later)
      ∙ named_so kind name (names_of number ps rest)
      ∙ ap (λ ns. asking kind (ns ++ names_of number ps rest))
      (known_on old (λ n. named_one n x p) (option_to_list name) is more.table d later)

-- ---- one argument

pub nothing_block : (p : Parameter) → Nothing ≡ number_block p Nothing
nothing_block parameter.Number = refl
nothing_block _ = refl

nothing_written : (code : List ℕ) → code ≡ code ++ bytes_at (length code) Nothing
unfolding emitted bytes_of
nothing_written code = sym (append-nil code)

module _ {old new : List Words} (code : List ℕ) (p : Parameter) where
  pub text_part : {a : code_argument.Argument Target} {t : code_text.Text} (n : StrNo)
      → a ≡ variant.Text t → GrowsBy old (words_of (text_of t) ∷ []) new
      → Keeps new (words_of (text_of t)) n
      → WritesPart old code (argument_texts (Cons (numbered_argument a) Nil))
      (λ number. number_block p (argument_block number (numbered_argument a))) new code
  unfolding argument_block
  text_part {t} n is table keeps =
      subst (λ (x : code_argument.Argument Target). WritesPart old code
      (argument_texts (Cons (numbered_argument x) Nil))
      (λ number. number_block p (argument_block number (numbered_argument x))) new code) (sym is)
      (same_part code code (text_of t ∷ []) (λ number. Nothing)
      (λ number. number_block p Nothing) (λ number. nothing_block p)
      (held_part code code (text_of t ∷ []) Nothing (one_held old new (text_of t) table n keeps)
      (nothing_written code)))

  pub text_named : {a : code_argument.Argument Target} {t : code_text.Text} (n : StrNo)
      → a ≡ variant.Text t → GrowsBy old (words_of (text_of t) ∷ []) new
      → Keeps new (words_of (text_of t)) n
      → ByNumber old new (λ number. named_one number (numbered_argument a) p) (n.0 ∷ [])
  text_named {t} n is table keeps d later =
      text_known old new n table keeps d later ∙ ap (λ (x : code_argument.Argument
      Target). named_one (number_in (new ++ later)) (numbered_argument x) p) (sym is)

  pub value_part : (after : List ℕ) {a : code_argument.Argument Target} (e : code_expr.Expr Target)
      → a ≡ variant.Value e → p ≡ parameter.Number → WritesPart old code
      (expr_texts (numbered_expr e)) (λ number. method_block number (numbered_expr e)) new after
      → WritesPart old code (argument_texts (Cons (numbered_argument a) Nil))
      (λ number. number_block p (argument_block number (numbered_argument a))) new after
  unfolding argument_block
  value_part after e is number w =
      subst (λ (x : code_argument.Argument Target). WritesPart old code
      (argument_texts (Cons (numbered_argument x) Nil))
      (λ n. number_block p (argument_block n (numbered_argument x))) new after) (sym is)
      (subst (λ (q : Parameter). WritesPart old code (expr_texts (numbered_expr e) ++ [])
      (λ n. number_block q (method_block n (numbered_expr e))) new after) (sym number)
      (last_part code after (expr_texts (numbered_expr e))
      (λ n. method_block n (numbered_expr e)) w))

-- a plain reference has no text, and no code
module _ (table : List Words) (code : List ℕ) where
  other_texts : (p : Parameter) (e : Expr Target) → fits p (Value e) ≡ true
      → p ≢ parameter.Number → expr_texts e ≡ []
  other_texts parameter.Text e fit other = absurd cc
  other_texts parameter.Number e fit other = absurd (other refl)
  other_texts parameter.DeviceVariable e fit other =
      of_variable_in (λ x. expr_texts x ≡ []) (λ v. refl) e fit
  other_texts parameter.Method e fit other =
      of_method_in (λ x. expr_texts x ≡ []) (λ m. refl) e fit

  other_block : (p : Parameter) (b : Block) → p ≢ parameter.Number → Nothing ≡ number_block p b
  other_block parameter.Number b other = absurd (other refl)
  other_block _ b other = refl

  pub other_part : (p : Parameter) {a : code_argument.Argument Target} (e : code_expr.Expr Target)
      → a ≡ variant.Value e → p ≢ parameter.Number → fits p (numbered_argument a) ≡ true
      → WritesPart table code (argument_texts (Cons (numbered_argument a) Nil))
      (λ number. number_block p (argument_block number (numbered_argument a))) table code
  unfolding argument_block
  other_part p e is other fit =
      let here : fits p (Value (numbered_expr e)) ≡ true =
      subst (λ (x : code_argument.Argument Target). fits p (numbered_argument x) ≡ true) is fit in
      subst (λ (x : code_argument.Argument Target). WritesPart table code
      (argument_texts (Cons (numbered_argument x) Nil))
      (λ n. number_block p (argument_block n (numbered_argument x))) table code) (sym is)
      (subst (λ (ts : List texts.Text). WritesPart table code (ts ++ [])
      (λ n. number_block p (method_block n (numbered_expr e))) table code)
      (sym (other_texts p (numbered_expr e) here other))
      (same_part code code [] (λ n. Nothing)
      (λ n. number_block p (method_block n (numbered_expr e)))
      (λ n. other_block p (method_block n (numbered_expr e)) other)
      (plain_part table code code Nothing (nothing_written code))))

  pub other_named : (p : Parameter) {a : code_argument.Argument Target} (e : code_expr.Expr Target)
      {name : Option ℕ} → a ≡ variant.Value e → p ≢ parameter.Number
      → name ≡ option_map (λ v. v.0) (as_variable (numbered_argument a)) → ByNumber table table
      (λ number. named_one number (numbered_argument a) p) (option_to_list name)
  other_named p e is other named d later =
      ap option_to_list named
      ∙ ap (λ (x : code_argument.Argument Target).
      option_to_list (option_map (λ v. v.0) (as_variable (numbered_argument x)))) is
      ∙ by_parameter p other
      ∙ ap (λ (x : code_argument.Argument Target). named_one (number_in (table ++ later))
      (numbered_argument x) p) (sym is)
    where
      by_parameter : (q : Parameter) → q ≢ parameter.Number
          → option_to_list (option_map (λ v. v.0) (as_variable (Value (numbered_expr e))))
          ≡ named_one (number_in (table ++ later)) (Value (numbered_expr e)) q
      by_parameter parameter.Number not = absurd (not refl)
      by_parameter _ not = refl

-- ---- the empty list

pub is_none : {X : Type 0} (xs : List X) → length xs < 1 → xs ≡ []
is_none [] h = refl
is_none (x ∷ xs) h = absurd (omega arith)

module _ {X : Type 0} (view : X → Argument Target) (xs : List X) (none : length xs < 1)
    (ps : List Parameter) (table : List Words) (code : List ℕ) where
  pub empty_part : WritesPart table code (argument_texts (arguments_from (map view xs)))
      (λ number. numbers_block ps (argument_blocks number (arguments_from (map view xs)))) table
      code
  empty_part = subst (λ ys. WritesPart table code (argument_texts (arguments_from (map view ys)))
      (λ number. numbers_block ps (argument_blocks number (arguments_from (map view ys)))) table
      code) (sym (is_none xs none))
      (same_part code code [] (λ number. Nothing)
      (λ number. numbers_block ps (argument_blocks number Nil)) (λ number. no_numbers number ps)
      (plain_part table code code Nothing (nothing_written code)))

  pub empty_named : (kind : RequestKind) → ByNumber table table
      (λ number. asking kind (names_of number ps (arguments_from (map view xs))))
      (record { kind = kind; first = 0; second = 0 })
  empty_named kind d later =
      no_names (number_in (table ++ later)) kind ps
      ∙ ap (λ ys. asking kind (names_of (number_in (table ++ later)) ps
      (arguments_from (map view ys)))) (sym (is_none xs none))

-- ---- all arguments

module _ {X : Type 0} (view : X → Argument Target) (xs : List X) (x : X) (some : 1 ≤ length xs)
    (is : x ≡ get_or xs 0 x) where
  pub all_are : Cons (view x) (arguments_from (map view (drop 1 xs)))
      ≡ arguments_from (map view xs)
  all_are = ap (λ ys. arguments_from (map view ys)) (sym (first_and_rest xs x some is))

  pub all_are_by : (ys : List X) → ys ≡ drop 1 xs → Cons (view x) (arguments_from (map view ys))
      ≡ arguments_from (map view xs)
  all_are_by ys behind = ap (λ zs. Cons (view x) (arguments_from (map view zs))) behind ∙ all_are

  pub first_overflows : {old : List Words}
      → Overflows old (strings_of_texts (argument_texts (Cons (view x) Nil)))
      → Overflows old (strings_of_texts (argument_texts (arguments_from (map view xs))))
  first_overflows {old} over =
      subst (λ a. Overflows old (strings_of_texts (argument_texts a))) all_are
      (subst (λ ts. Overflows old (strings_of_texts ts))
      (one_and_rest (view x) (arguments_from (map view (drop 1 xs))))
      (texts_overflow_first old (argument_texts (Cons (view x) Nil)) _ over))

  pub rest_overflows : {old mid : List Words} {before between : List ℕ} (f : Numbered)
      → WritesPart old before (argument_texts (Cons (view x) Nil)) f mid between
      → Overflows mid (strings_of_texts (argument_texts (arguments_from (map view (drop 1 xs)))))
      → Overflows old (strings_of_texts (argument_texts (arguments_from (map view xs))))
  rest_overflows {old} f w over =
      subst (λ a. Overflows old (strings_of_texts (argument_texts a))) all_are
      (subst (λ ts. Overflows old (strings_of_texts ts))
      (one_and_rest (view x) (arguments_from (map view (drop 1 xs))))
      (texts_overflow_second (argument_texts (Cons (view x) Nil))
      (argument_texts (arguments_from (map view (drop 1 xs)))) w over))

-- ---- the request

pub not_true : (b : Bool) → not b ≡ true → b ≡ false
not_true true h = absurd cc
not_true false h = refl
