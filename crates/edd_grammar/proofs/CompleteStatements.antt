-- Statements and bodies are read as they are spelled.
use Rattle.std.proofs.Common.{◌≡◌, ℕ, zero, suc, ◌+◌, ◌≤◌, ◌<◌, max, Bool, true, false, ◌&&◌, List, [], ◌∷◌, length, Option, Some, None, refl, sym, ap, ◌∙◌, inl, inr, arith}
use Rattle.std.specs.Prelude.{ℤ}
use Rattle.std.proofs.lemmas.Option.{some_pair_parts}
use Rattle.edd_syntax.specs.declared.symbols.Keyword.TheVariants as word
use Rattle.edd_syntax.specs.declared.symbols.Symbol.{Symbol}
use Rattle.edd_syntax.specs.declared.symbols.Symbol.TheVariants as sign
use Rattle.edd_syntax.specs.Token.{Token, Reserved, Sign}
use Rattle.edd_syntax.specs.Reference.{Path}
use Rattle.edd_syntax.specs.Expression.{Expr}
use Rattle.edd_syntax.specs.Statement.{Declarator, Stmt, Empty, Evaluate, Block, If, IfElse, While, Do, For, Switch, Break, Continue, Return, Body, Nil, Cons, Declare, Statement, CaseLabel, DefaultLabel}
use Rattle.edd_syntax.specs.Grammar.{InMethod}
use Rattle.edd_syntax.specs.StatementGrammar.{CaseHere, ValueHere, DeclaratorsHere, MoreDeclaratorsHere, LocalTypeHere, OptionalExprHere, StmtHere, BodyHere}
use Rattle.edd_syntax.specs.Size.{optional_height, declarator_height, statement_height, body_height}
use Rattle.edd_grammar.specs.Reading.{Read, at, at_word}
use Rattle.edd_grammar.specs.StatementReading.{at_local_type, declaration_at, case_label_at, part_at, parts_at, body_at, method_else_at, method_if_at, while_at, do_at, optional_at, for_at, switch_at, evaluate_at, simple_at, statement_layer, statement_at, definition_at}
use Rattle.edd_grammar.specs.Following.{SignStops}
use Rattle.edd_grammar.proofs.Steps.{expect_again, expect_word_again}
use Rattle.edd_grammar.proofs.Shorter.{Begins, begins, expr_shorter, begins_no_semicolon, begins_no_brace, begins_no_close_brace, begins_no_close}
use Rattle.edd_grammar.proofs.CompleteExpressions.{expr_again}
use Rattle.edd_grammar.proofs.Labels.{label_again, label_shorter, condition_again, condition_shorter}
use Rattle.edd_grammar.proofs.Branches.{no_word}
use Rattle.edd_grammar.proofs.ValueKinds.{begins_no_word}
use Rattle.edd_grammar.proofs.Declarations.{declarators_again}

-- ---- what statements begin with, and that they take a token at least

-- what may be in place of a statement isn't next
record StartsStatement (here : List Token) : Type 0 where
  pub no_close : at sign.CloseBrace here ≡ false
  pub no_type : at_local_type here ≡ false
  pub no_case : at_word word.MethodCase here ≡ false
  pub no_default : at_word word.MethodDefault here ≡ false

with_sign : (s : Symbol) (here behind : List Token) → here ≡ Sign s ∷ behind
    → at sign.CloseBrace (Sign s ∷ behind) ≡ false → StartsStatement here
with_sign s here behind e f =
    record {
      no_close = ap (at sign.CloseBrace) e ∙ f;
      no_type = ap at_local_type e;
      no_case = ap (at_word word.MethodCase) e;
      no_default = ap (at_word word.MethodDefault) e;
    }

begins_statement : (here : List Token) → Begins here → StartsStatement here
begins_statement here b =
    record {
      no_close = begins_no_close_brace here b;
      no_type = rw (begins_no_word word.Int here b)
          (begins_no_word word.Long here b);
      no_case = begins_no_word word.MethodCase here b;
      no_default = begins_no_word word.MethodDefault here b;
    }

starts_statement : (s : Stmt Path) (here rest : List Token) → StmtHere s here rest
    → StartsStatement here
starts_statement Empty here rest h = with_sign sign.Semicolon here rest h refl
starts_statement (Evaluate e) here rest h = begins_statement here (begins InMethod 1 e here _ h)
starts_statement (Block body) here rest h = with_sign sign.OpenBrace here h.0 h.1 refl
starts_statement (IfElse condition first otherwise) here rest h =
    rw h.3 (record { no_close = refl; no_type = refl; no_case = refl; no_default = refl })
starts_statement (For initial condition update body) here rest h =
    rw h.5 (record { no_close = refl; no_type = refl; no_case = refl; no_default = refl })
starts_statement (Switch on body) here rest h =
    rw h.3 (record { no_close = refl; no_type = refl; no_case = refl; no_default = refl })
starts_statement Break here rest h =
    rw h (record { no_close = refl; no_type = refl; no_case = refl; no_default = refl })
starts_statement Continue here rest h =
    rw h (record { no_close = refl; no_type = refl; no_case = refl; no_default = refl })
starts_statement Return here rest h =
    rw h (record { no_close = refl; no_type = refl; no_case = refl; no_default = refl })
starts_statement _ here rest h =
    rw h.2 (record { no_close = refl; no_type = refl; no_case = refl; no_default = refl })

value_shorter : (v : Option (Expr Path)) (here rest : List Token) → ValueHere v here rest
    → length rest ≤ length here
value_shorter None here rest h = omega (arith, ap length h)
value_shorter (Some e) here rest h =
    omega (arith, ap length h.1, expr_shorter InMethod 1 e h.0 rest h.2)

more_shorter : (ds : List (Declarator Path)) (here rest : List Token)
    → MoreDeclaratorsHere ds here rest → length rest ≤ length here
more_shorter [] here rest h = omega (arith, ap length h)
more_shorter (d ∷ more) here rest h =
    omega (
      arith,
      ap length h.2,
      ap length h.3.1.1,
      value_shorter d.value h.3.0 h.1 h.3.2,
      more_shorter more h.1 rest h.4,
    )

declarators_shorter : (ds : List (Declarator Path)) (here rest : List Token)
    → DeclaratorsHere ds here rest → length rest ≤ length here
declarators_shorter [] here rest h = absurd h
declarators_shorter (d ∷ more) here rest h =
    omega (
      arith,
      ap length h.1.1.1,
      value_shorter d.value h.1.0 h.0 h.1.2,
      more_shorter more h.0 rest h.2,
    )

type_shorter : (here rest : List Token) → LocalTypeHere here rest → length rest < length here
type_shorter here rest (inl h) = omega (arith, ap length h)
type_shorter here rest (inr h) = omega (arith, ap length h)

case_shorter : (z : ℤ) (here rest : List Token) → CaseHere word.MethodCase z here rest
    → length rest < length here
case_shorter z here rest h = omega (
  arith,
  ap length h.2,
  label_shorter z h.0 h.1 h.3,
  ap length h.4,
)

optional_shorter : (e : Option (Expr Path)) (here rest : List Token) → OptionalExprHere e here rest
    → length rest ≤ length here
optional_shorter None here rest h = omega (arith, ap length h)
optional_shorter (Some e) here rest h = omega (arith, expr_shorter InMethod 1 e here rest h)

mutual
  pub statement_shorter : (s : Stmt Path) (here rest : List Token) → StmtHere s here rest
      → length rest < length here
  statement_shorter (Evaluate e) here rest h = omega (arith, expr_shorter InMethod 1 e here _ h)
  statement_shorter (Block body) here rest h =
      omega (arith, ap length h.1, body_shorter false body h.0 _ h.2)
  statement_shorter (If condition first) here rest h =
      omega (
        arith,
        ap length h.2,
        condition_shorter InMethod condition h.0 h.1 h.3,
        statement_shorter first h.1 rest h.4,
      )
  statement_shorter (IfElse condition first otherwise) here rest h =
      omega (
        arith,
        ap length h.3,
        condition_shorter InMethod condition h.0 h.1 h.4,
        statement_shorter first h.1 _ h.5,
        statement_shorter otherwise h.2 rest h.6,
      )
  statement_shorter (While condition body) here rest h =
      omega (
        arith,
        ap length h.2,
        condition_shorter InMethod condition h.0 h.1 h.3,
        statement_shorter body h.1 rest h.4,
      )
  statement_shorter (Do body condition) here rest h =
      omega (
        arith,
        ap length h.2,
        statement_shorter body h.0 _ h.3,
        condition_shorter InMethod
            condition h.1 _ h.4,
      )
  statement_shorter (For initial condition update body) here rest h =
      omega (
        arith,
        ap length h.5,
        ap length h.6,
        optional_shorter initial h.1 _ h.7,
        optional_shorter condition h.2 _ h.8,
        optional_shorter update h.3 _ h.9,
        statement_shorter body h.4 rest h.10,
      )
  statement_shorter (Switch on body) here rest h =
      omega (
        arith,
        ap length h.3,
        condition_shorter InMethod on h.0 h.1 h.4,
        ap length h.5,
        body_shorter true body h.2 _ h.6,
      )
  statement_shorter _ here rest h = omega (arith, ap length h)

  pub body_shorter : (labels : Bool) (body : Body Path) (here rest : List Token)
      → BodyHere labels body here rest → length rest ≤ length here
  body_shorter labels Nil here rest h = omega (arith, ap length h)
  body_shorter labels (Cons (Declare declarators) more) here rest h =
      omega (
        arith,
        type_shorter here h.0 h.2,
        declarators_shorter declarators h.0 _ h.3,
        body_shorter labels more h.1 rest h.4,
      )
  body_shorter labels (Cons (Statement s) more) here rest h =
      omega (arith, statement_shorter s here h.0 h.1, body_shorter labels more h.0 rest h.2)
  body_shorter labels (Cons (CaseLabel label) more) here rest h =
      omega (arith, case_shorter label here h.1 h.2, body_shorter labels more h.1 rest h.3)
  body_shorter labels (Cons DefaultLabel more) here rest h =
      omega (arith, ap length h.2, body_shorter labels more h.1 rest h.3)

-- ---- declarations and labels

declarators_tall : (ds : List (Declarator Path)) (here rest : List Token)
    → DeclaratorsHere ds here rest → 0 < declarator_height ds
declarators_tall [] here rest h = absurd h
declarators_tall (d ∷ more) here rest h = omega arith

declaration_again : (height_left : ℕ) (ds : List (Declarator Path)) (here rest : List Token)
    → DeclaratorsHere ds here (Sign sign.Semicolon ∷ rest) → 1 + declarator_height ds ≤ height_left
    → declaration_at height_left here ≡ Some (ds, rest)
unfolding declaration_at
declaration_again zero ds here rest h low = absurd (omega arith)
declaration_again (suc zero) ds here rest h low =
    absurd (let tall = declarators_tall ds here _ h in omega arith)
declaration_again (suc (suc height_left)) ds here rest h low =
    rw (
      declarators_again height_left ds here rest h (omega arith),
      expect_again sign.Semicolon
          rest,
    ) refl

case_label_again : (z : ℤ) (here from rest : List Token) → CaseHere word.MethodCase z here rest
    → here ≡ Reserved word.MethodCase ∷ from → case_label_at from ≡ Some (z, rest)
unfolding case_label_at
case_label_again z here from rest h e =
    let same : h.0 ≡ from = cc (sym h.2 ∙ e) in
    rw (← same, label_again z h.0 h.1 h.3, h.4, expect_again sign.Colon rest) refl

and_false : (a b : Bool) → b ≡ false → (a && b) ≡ false
and_false true b e = e
and_false false b e = refl

-- ---- statements

abbrev pub CompleteAt : ℕ → (List Token → Read (Stmt Path)) → Type 0
CompleteAt height_left inner = (s : Stmt Path) (here rest : List Token) → StmtHere s here rest
    → statement_height s ≤ height_left → inner here ≡ Some (s, rest)

module _ (height_left : ℕ) (inner : List Token → Read (Stmt Path))
    (complete : CompleteAt height_left inner) where
  parts_again : (labels : Bool) (n : ℕ) (body : Body Path) (here rest : List Token)
      → length here < n → body_height body ≤ height_left
      → BodyHere labels body here (Sign sign.CloseBrace ∷ rest)
      → parts_at height_left inner labels n here ≡ Some (body, Sign sign.CloseBrace ∷ rest)
  unfolding parts_at part_at
  parts_again labels zero body here rest lt low h = absurd (omega arith)
  parts_again labels (suc n) Nil here rest lt low h = rw h refl
  parts_again labels (suc n) (Cons (Declare declarators) more) here rest lt low
      (from, behind, inl e, ds, m) =
      let others = parts_again labels n more behind rest
      (let l = declarators_shorter declarators from _ ds in omega (arith, ap length e))
      (omega arith) m in
      rw (e, declaration_again height_left declarators from behind ds (omega arith), others) refl
  parts_again labels (suc n) (Cons (Declare declarators) more) here rest lt low
      (from, behind, inr e, ds, m) =
      let others = parts_again labels n more behind rest
      (let l = declarators_shorter declarators from _ ds in omega (arith, ap length e))
      (omega arith) m in
      rw (e, declaration_again height_left declarators from behind ds (omega arith), others) refl
  parts_again labels (suc n) (Cons (Statement s) more) here rest lt low h =
      let starts = starts_statement s here h.0 h.1 in
      let first = complete s here h.0 h.1 (omega arith) in
      let others = parts_again labels n more h.0 rest
      (let l = statement_shorter s here h.0 h.1 in omega arith) (omega arith) h.2 in
      rw (
        starts.no_close,
        starts.no_type,
        and_false labels _ starts.no_case,
        and_false labels _ starts.no_default,
        first,
        others,
      ) refl
  parts_again true (suc n) (Cons (CaseLabel label) more) here rest lt low h =
      let others = parts_again true n more h.1 rest
      (let l = case_shorter label here h.1 h.2 in omega arith) low h.3 in
      rw (h.2.2, case_label_again label here h.2.0 h.1 h.2 h.2.2, others) refl
  parts_again true (suc n) (Cons DefaultLabel more) here rest lt low h =
      let others = parts_again true n more h.1 rest (omega (arith, ap length h.2)) low h.3 in
      rw (h.2, expect_again sign.Colon h.1, others) refl
  parts_again false (suc n) (Cons (CaseLabel label) more) here rest lt low h =
      absurd (let e = h.0 in cc (e))
  parts_again false (suc n) (Cons DefaultLabel more) here rest lt low h =
      absurd (let e = h.0 in cc (e))

  pub body_again : (labels : Bool) (body : Body Path) (here rest : List Token)
      → BodyHere labels body here (Sign sign.CloseBrace ∷ rest) → body_height body ≤ height_left
      → body_at height_left inner labels here ≡ Some (body, rest)
  unfolding body_at
  body_again labels body here rest h low =
      rw (
        parts_again labels (suc (length here)) body here rest (omega arith) low h,
        expect_again sign.CloseBrace rest,
      ) refl

  optional_again : (k : Symbol) → ((here : List Token) → Begins here → at k here ≡ false)
      → SignStops 1 k → (rest : List Token) → at k (Sign k ∷ rest) ≡ true
      → (e : Option (Expr Path)) (here : List Token) → OptionalExprHere e here (Sign k ∷ rest)
      → optional_height e ≤ height_left → optional_at height_left inner k here ≡ Some (e, rest)
  unfolding optional_at
  optional_again k no_begin stops rest self None here h low = rw (h, self) refl
  optional_again k no_begin stops rest self (Some e) here h low =
      rw (
        no_begin here (begins InMethod 1 e here _ h),
        expr_again InMethod height_left 1 e here
            (Sign k ∷ rest) (omega arith) h low stops,
        expect_again k rest,
      ) refl

  layer_again : CompleteAt (suc height_left) (statement_layer height_left inner)
  unfolding simple_at statement_layer method_if_at method_else_at while_at do_at for_at switch_at evaluate_at
  layer_again Empty here rest h low = rw h refl
  layer_again (Evaluate e) here rest h low =
      let b = begins InMethod 1 e here _ h in
      let read = expr_again InMethod height_left 1 e here (Sign sign.Semicolon ∷ rest) (omega arith)
      h (omega arith) tt in
      rw (
        begins_no_semicolon here b,
        begins_no_brace here b,
        begins_no_word word.MethodIf here b,
        begins_no_word word.While here b,
        begins_no_word word.Do here b,
        begins_no_word word.For here b,
        begins_no_word word.Switch here b,
        begins_no_word word.Break here b,
        begins_no_word word.Continue here b,
        begins_no_word word.Return here b,
        read,
        expect_again sign.Semicolon rest,
      ) refl
  layer_again (Block body) here rest h low =
      rw (h.1, body_again false body h.0 rest h.2 (omega arith)) refl
  layer_again (If condition first) here rest h low =
      rw (
        h.2,
        condition_again InMethod height_left condition h.0 h.1 h.3 (omega arith),
        complete first h.1 rest h.4 (omega arith),
        no_word word.MethodElse rest h.5,
      ) refl
  layer_again (IfElse condition first otherwise) here rest h low =
      rw (
        h.3,
        condition_again InMethod height_left condition h.0 h.1 h.4 (omega arith),
        complete first h.1 (Reserved word.MethodElse ∷ h.2) h.5 (omega arith),
        complete otherwise h.2 rest h.6 (omega arith),
      ) refl
  layer_again (While condition body) here rest h low =
      rw (
        h.2,
        condition_again InMethod height_left condition h.0 h.1 h.3 (omega arith),
        complete body h.1 rest h.4 (omega arith),
      ) refl
  layer_again (Do body condition) here rest h low =
      rw (
        h.2,
        complete body h.0 (Reserved word.While ∷ h.1) h.3 (omega arith),
        expect_word_again word.While h.1,
        condition_again InMethod height_left condition h.1
            (Sign sign.Semicolon ∷ rest) h.4 (omega arith),
        expect_again sign.Semicolon rest,
      ) refl
  layer_again (For initial condition update body) here rest h low =
      rw (
        h.5,
        h.6,
        expect_again sign.OpenParenthesis h.1,
        optional_again sign.Semicolon begins_no_semicolon tt h.2 refl initial h.1 h.7 (omega arith),
        optional_again sign.Semicolon begins_no_semicolon tt h.3 refl condition h.2 h.8
            (omega arith),
        optional_again sign.CloseParenthesis begins_no_close tt h.4 refl update h.3 h.9
            (omega arith),
        complete body h.4 rest h.10 (omega arith),
      ) refl
  layer_again (Switch on body) here rest h low =
      rw (
        h.3,
        condition_again InMethod height_left on h.0 h.1 h.4 (omega arith),
        h.5,
        expect_again sign.OpenBrace h.2,
        body_again true body h.2 rest h.6 (omega arith),
      ) refl
  layer_again _ here rest h low = rw (h, expect_again sign.Semicolon rest) refl

some_height : (s : Stmt Path) → 0 < statement_height s
some_height Empty = omega arith
some_height _ = omega arith

pub statement_again : (height_left : ℕ) → CompleteAt height_left (statement_at height_left)
unfolding statement_at
statement_again zero s here rest h low = absurd (let some = some_height s in omega arith)
statement_again (suc height_left) s here rest h low =
    layer_again height_left (statement_at height_left) (statement_again height_left) s here rest h
    low

-- whatever follows, tokens spell one statement from here on
pub statement_unique : (s t : Stmt Path) (here rest behind : List Token) → StmtHere s here rest
    → StmtHere t here behind → (s ≡ t) × (rest ≡ behind)
statement_unique s t here rest behind h k =
    let height_left = max (statement_height s) (statement_height t) in
    some_pair_parts s t rest behind (sym (statement_again height_left s here rest h (omega arith))
    ∙ statement_again height_left t here behind k (omega arith))

-- ---- bodies of methods

pub definition_again : (height_left : ℕ) (body : Body Path) (here rest : List Token)
    → BodyHere false body here (Sign sign.CloseBrace ∷ rest) → body_height body ≤ height_left
    → definition_at height_left here ≡ Some (body, rest)
unfolding definition_at
definition_again height_left body here rest h low =
    body_again height_left (statement_at height_left) (statement_again height_left) false body here
    rest h low

pub definition_unique : (a b : Body Path) (here rest behind : List Token)
    → BodyHere false a here (Sign sign.CloseBrace ∷ rest)
    → BodyHere false b here (Sign sign.CloseBrace ∷ behind) → (a ≡ b) × (rest ≡ behind)
definition_unique a b here rest behind h k =
    let height_left = max (body_height a) (body_height b) in
    some_pair_parts a b rest behind (sym (definition_again height_left a here rest h (omega arith))
    ∙ definition_again height_left b here behind k (omega arith))
