-- The grammar of labels, conditionals and statements.
use Rattle.std.specs.Prelude.{◌≡◌, ◌⊎◌, ℕ, Bool, true, false, IsTrue, ℤ, pos, neg_ℤ, List, [], ◌∷◌, Option, Some, None}
use Rattle.edd_syntax.specs.declared.operators.Operator.TheVariants as operator
use Rattle.edd_syntax.specs.declared.symbols.Keyword.{Keyword}
use Rattle.edd_syntax.specs.declared.symbols.Keyword.TheVariants as word
use Rattle.edd_syntax.specs.declared.symbols.Symbol.TheVariants as sign
use Rattle.edd_syntax.specs.Token.{Token, Reserved, Integer, Sign}
use Rattle.edd_syntax.specs.Reference.{Path}
use Rattle.edd_syntax.specs.Expression.{Expr}
use Rattle.edd_syntax.specs.Conditional as cond
use Rattle.edd_syntax.specs.Conditional.{Cond, Value, Select, Conds, Arms, NoArms, ConsArm, Case, Default}
use Rattle.edd_syntax.specs.Statement.{Declarator, Stmt, Empty, Evaluate, Block, If, IfElse, While, Do, For, Switch, Break, Continue, Return, Body, Nil, Cons, Declare, Statement, CaseLabel, DefaultLabel}
use Rattle.edd_syntax.specs.Grammar.{Next, NextSign, NextWord, OptionalSign, PlainHere, InAttribute, InMethod, ExprHere, ConditionHere}

-- an integer, or its negative
abbrev pub LabelHere : ℤ → List Token → List Token → Type 0
LabelHere z here rest =
    ((n : ℕ) × (z ≡ pos n) × Next (Integer n) here rest)
    ⊎ ((n : ℕ) × (z ≡ neg_ℤ (pos n)) × (here ≡ Sign (sign.Operator operator.Subtract) ∷ Integer n
    ∷ rest))

-- the next token is this word
abbrev pub BeginsWord : Keyword → List Token → Type 0
BeginsWord k here = (rest : List Token) × NextWord k here rest

-- `WORD label :`
abbrev pub CaseHere : Keyword → ℤ → List Token → List Token → Type 0
CaseHere k label here rest =
    (from colon : List Token) × NextWord k here from × LabelHere label from colon
    × NextSign sign.Colon colon rest

-- ---- conditionals, whose values are spelled by `Here`

-- it is an IF
abbrev pub IsIf : {R V : Type 0} → Cond R V → Type 0
IsIf (Value v) = ⊥
IsIf (cond.If condition first otherwise) = Unit {0}
IsIf (Select on arms) = ⊥

-- there is no ELSE
abbrev pub NoElse : List Token → List Token → Type 0
NoElse here rest = (here ≡ rest) × ¬ BeginsWord word.Else rest

module _ {V : Type 0} (Here : V → List Token → List Token → Type 0) where
  -- ---- a single value: one in each branch, and a semicolon after it

  -- a value with its semicolon, an IF or a SELECT
  abbrev mutual
    pub OneHere : Cond Path V → List Token → List Token → Type 0
    OneHere (Value v) here rest = Here v here (Sign sign.Semicolon ∷ rest)
    OneHere (cond.If condition first otherwise) here rest =
        (test brace inside behind : List Token) × NextWord word.If here test
        × ConditionHere InAttribute condition test brace
        × NextSign sign.OpenBrace brace inside
        × OnlyHere first inside (Sign sign.CloseBrace ∷ behind) × ElseHere otherwise behind rest
    OneHere (Select on arms) here rest =
        (test brace inside : List Token) × NextWord word.Select here test
        × ConditionHere InAttribute on test brace
        × NextSign sign.OpenBrace brace inside
        × SingleValueArmsHere arms inside (Sign sign.CloseBrace ∷ rest)

    -- exactly one value
    pub OnlyHere : Conds Path V → List Token → List Token → Type 0
    OnlyHere cond.Nil here rest = ⊥
    OnlyHere (cond.Cons c cond.Nil) here rest = OneHere c here rest
    OnlyHere (cond.Cons c (cond.Cons d more)) here rest = ⊥

    -- ELSE belongs to the nearest IF, and has braces or another IF after it
    pub ElseHere : Conds Path V → List Token → List Token → Type 0
    ElseHere cond.Nil here rest = NoElse here rest
    ElseHere (cond.Cons c cond.Nil) here rest =
        (from : List Token) × NextWord word.Else here from
        × (((inside : List Token) × NextSign sign.OpenBrace from inside
        × OneHere c inside (Sign sign.CloseBrace ∷ rest))
        ⊎ (IsIf c × OneHere c from rest))
    ElseHere (cond.Cons c (cond.Cons d more)) here rest = ⊥

    -- the arms of a SELECT, with exactly one value in each
    pub SingleValueArmsHere : Arms Path V → List Token → List Token → Type 0
    SingleValueArmsHere NoArms here rest = here ≡ rest
    SingleValueArmsHere (ConsArm (Case label body) arms) here rest =
        (from behind : List Token) × CaseHere word.Case label here from × OnlyHere body from behind
        × SingleValueArmsHere arms behind rest
    SingleValueArmsHere (ConsArm (Default body) arms) here rest =
        (from behind : List Token) × (here ≡ Reserved word.Default ∷ Sign sign.Colon ∷ from)
        × OnlyHere body from behind
        × SingleValueArmsHere arms behind rest

  -- ---- a list: any number of elements, each with a comma after it or none

  -- the elements, each with a comma after it or none
  abbrev mutual
    pub ListHere : Conds Path V → List Token → List Token → Type 0
    ListHere cond.Nil here rest = here ≡ rest
    ListHere (cond.Cons c more) here rest =
        (behind from : List Token) × ElementHere c here behind × OptionalSign sign.Comma behind from
        × ListHere more from rest

    -- a value, an IF or a SELECT
    pub ElementHere : Cond Path V → List Token → List Token → Type 0
    ElementHere (Value v) here rest = Here v here rest
    ElementHere (cond.If condition first otherwise) here rest =
        (test brace inside behind : List Token) × NextWord word.If here test
        × ConditionHere InAttribute condition test brace
        × NextSign sign.OpenBrace brace inside
        × ListHere first inside (Sign sign.CloseBrace ∷ behind)
        × (((otherwise ≡ cond.Nil) × NoElse behind rest)
        ⊎ (((from inside : List Token) × NextWord word.Else behind from
        × NextSign sign.OpenBrace from inside
        × ListHere otherwise inside (Sign sign.CloseBrace ∷ rest))
        ⊎ ((from : List Token) × NextWord word.Else behind from × ElseIfHere otherwise from rest)))
    ElementHere (Select on arms) here rest =
        (test brace inside : List Token) × NextWord word.Select here test
        × ConditionHere InAttribute on test brace
        × NextSign sign.OpenBrace brace inside
        × ListArmsHere arms inside (Sign sign.CloseBrace ∷ rest)

    -- the IF after an ELSE, which has no comma of its own
    pub ElseIfHere : Conds Path V → List Token → List Token → Type 0
    ElseIfHere cond.Nil here rest = ⊥
    ElseIfHere (cond.Cons c cond.Nil) here rest = IsIf c × ElementHere c here rest
    ElseIfHere (cond.Cons c (cond.Cons d more)) here rest = ⊥

    -- the arms of a SELECT, with a list in each
    pub ListArmsHere : Arms Path V → List Token → List Token → Type 0
    ListArmsHere NoArms here rest = here ≡ rest
    ListArmsHere (ConsArm (Case label body) arms) here rest =
        (from behind : List Token) × CaseHere word.Case label here from × ListHere body from behind
        × ListArmsHere arms behind rest
    ListArmsHere (ConsArm (Default body) arms) here rest =
        (from behind : List Token) × (here ≡ Reserved word.Default ∷ Sign sign.Colon ∷ from)
        × ListHere body from behind
        × ListArmsHere arms behind rest

-- ---- declarations

-- `= e` or nothing
abbrev pub ValueHere : Option (Expr Path) → List Token → List Token → Type 0
ValueHere None here rest = here ≡ rest
ValueHere (Some e) here rest = (behind : List Token) × NextSign sign.Equals here behind
    × ExprHere InMethod 1 e behind rest

-- `name` or `name = e`
abbrev pub DeclaratorHere : Declarator Path → List Token → List Token → Type 0
DeclaratorHere d here rest = (behind : List Token) × PlainHere d.place here behind
    × ValueHere d.value behind rest

-- the further declarators, each after a comma
abbrev pub MoreDeclaratorsHere : List (Declarator Path) → List Token → List Token → Type 0
MoreDeclaratorsHere [] here rest = here ≡ rest
MoreDeclaratorsHere (d ∷ more) here rest =
    (from behind : List Token) × NextSign sign.Comma here from × DeclaratorHere d from behind
    × MoreDeclaratorsHere more behind rest

-- one or more, parted by commas
abbrev pub DeclaratorsHere : List (Declarator Path) → List Token → List Token → Type 0
DeclaratorsHere [] here rest = ⊥
DeclaratorsHere (d ∷ more) here rest = (behind : List Token) × DeclaratorHere d here behind
    × MoreDeclaratorsHere more behind rest

-- `int` or `long`, which are the same
abbrev pub LocalTypeHere : List Token → List Token → Type 0
LocalTypeHere here rest = NextWord word.Int here rest ⊎ NextWord word.Long here rest

-- ---- statements

-- a part of `for` that may be missing
abbrev pub OptionalExprHere : Option (Expr Path) → List Token → List Token → Type 0
OptionalExprHere None here rest = here ≡ rest
OptionalExprHere (Some e) here rest = ExprHere InMethod 1 e here rest

-- a statement
abbrev mutual
  pub StmtHere : Stmt Path → List Token → List Token → Type 0
  StmtHere Empty here rest = NextSign sign.Semicolon here rest
  StmtHere (Evaluate e) here rest = ExprHere InMethod 1 e here (Sign sign.Semicolon ∷ rest)
  StmtHere (Block body) here rest =
      (inside : List Token) × NextSign sign.OpenBrace here inside
      × BodyHere false body inside (Sign sign.CloseBrace ∷ rest)
  -- no `else` follows an `if` that has none: it would belong to this `if`
  StmtHere (If condition first) here rest =
      (test from : List Token) × NextWord word.MethodIf here test × ConditionHere InMethod condition
      test from
      × StmtHere first from rest × ¬ BeginsWord word.MethodElse rest
  StmtHere (IfElse condition first otherwise) here rest =
      (test from behind : List Token) × NextWord word.MethodIf here test
      × ConditionHere InMethod condition test from
      × StmtHere first from (Reserved word.MethodElse ∷ behind) × StmtHere otherwise behind rest
  StmtHere (While condition body) here rest =
      (test from : List Token) × NextWord word.While here test × ConditionHere InMethod condition
      test from × StmtHere body from rest
  StmtHere (Do body condition) here rest =
      (from test : List Token) × NextWord word.Do here from
      × StmtHere body from (Reserved word.While ∷ test)
      × ConditionHere InMethod condition test (Sign sign.Semicolon ∷ rest)
  StmtHere (For initial condition update body) here rest =
      (paren inside second third behind : List Token) × NextWord word.For here paren
      × NextSign sign.OpenParenthesis paren inside
      × OptionalExprHere initial inside (Sign sign.Semicolon ∷ second)
      × OptionalExprHere condition second (Sign sign.Semicolon ∷ third)
      × OptionalExprHere update third (Sign sign.CloseParenthesis ∷ behind)
      × StmtHere body behind rest
  StmtHere (Switch on body) here rest =
      (test brace inside : List Token) × NextWord word.Switch here test
      × ConditionHere InMethod on test brace
      × NextSign sign.OpenBrace brace inside
      × BodyHere true body inside (Sign sign.CloseBrace ∷ rest)
  StmtHere Break here rest = here ≡ Reserved word.Break ∷ Sign sign.Semicolon ∷ rest
  StmtHere Continue here rest = here ≡ Reserved word.Continue ∷ Sign sign.Semicolon ∷ rest
  StmtHere Return here rest = here ≡ Reserved word.Return ∷ Sign sign.Semicolon ∷ rest

  -- what is between braces, with labels where it is the braces of a `switch`
  pub BodyHere : (labels : Bool) → Body Path → List Token → List Token → Type 0
  BodyHere labels Nil here rest = here ≡ rest
  BodyHere labels (Cons (Declare declarators) more) here rest =
      (from behind : List Token) × LocalTypeHere here from × DeclaratorsHere declarators from
      (Sign sign.Semicolon ∷ behind)
      × BodyHere labels more behind rest
  BodyHere labels (Cons (Statement first) more) here rest =
      (behind : List Token) × StmtHere first here behind × BodyHere labels more behind rest
  BodyHere labels (Cons (CaseLabel label) more) here rest =
      IsTrue labels × (behind : List Token) × CaseHere word.MethodCase label here behind
      × BodyHere labels more behind rest
  BodyHere labels (Cons DefaultLabel more) here rest =
      IsTrue labels × (behind : List Token) × (here ≡ Reserved word.MethodDefault ∷ Sign sign.Colon
      ∷ behind)
      × BodyHere labels more behind rest
