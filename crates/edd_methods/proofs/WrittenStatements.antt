-- The code of each statement, from that of its parts.
use Rattle.std.proofs.Common.{◌≡◌, refl, sym, ap, ◌∙◌, ℕ, ◌≤◌, Bool, true, false, List, [], ◌∷◌, ◌++◌, length, arith}
use Rattle.std.specs.Prelude.{Option, Some, None, Result, Ok, Err}
use Rattle.std.specs.List.{list_all}
use Rattle.std.proofs.lemmas.Grind.{flat_map-append}
use Rattle.std.proofs.lemmas.List.{append-nil}
use Rattle.edd_syntax.specs.declared.numbers.StrNo.{StrNo}
use Rattle.edd_syntax.specs.declared.reference.Target.{Target}
use Rattle.edd_syntax.specs.Expression.{Expr, Literal}
use Rattle.edd_syntax.specs.Size.{nodes}
use Rattle.edd_syntax.specs.Statement as tree
use Rattle.edd_syntax.specs.Statement.{Stmt, Body}
use Rattle.edd_syntax.specs.Strings.{expr_texts}
use Rattle.edd_syntax.specs.SubsetRules as rules
use Rattle.edd_syntax.specs.SubsetRules.{stmt_expressions, optional_part}
use Rattle.edd_syntax.specs.Text.{Text}
use Rattle.edd_syntax.specs.Words.{Words}
use Rattle.edd_instructions.specs.declared.instruction.Instruction.TheVariants as instruction
use Rattle.edd_instructions.specs.Spelling.{spelling}
use Rattle.edd_code.specs.declared.fault.LowerFault.{LowerFault}
use Rattle.edd_code.specs.Blocks as blocks
use Rattle.edd_code.specs.Blocks.{target}
use Rattle.edd_code.specs.MethodExpressions.{method_block}
use Rattle.edd_code.proofs.Closing.{nothing_written}
use Rattle.edd_methods.specs.Statements.{Missing, Test, Code, Plain, emitted, Then, Guard, Branch, Loop, Switch, bytes_at}
use Rattle.edd_methods.specs.StatementCode.{alone_block, blocks_by, body_code, statement_code}
use Rattle.edd_methods.specs.TreeCode.{arms_of, code_of, first_of, last_of, test_of}
use Rattle.edd_methods.specs.Writing.{Numbered, Lowers, EndsBy, JumpsTo, body_texts, optional_texts, placed_texts, statement_texts}
use Rattle.edd_methods.proofs.ClosedCode.{plain_is, then_written}
use Rattle.edd_methods.proofs.ClosedLoops.{one_instruction}
use Rattle.edd_methods.proofs.NumberedParts.{Said, Within, both, said, listed, nothing_named, exchanged, within_left, within_same, refused_within, refused_behind, no_memory, all_parts}

-- an expression is a node
pub some_nodes : (e : Expr Target) → 1 ≤ nodes e
some_nodes (Literal value) = omega arith
some_nodes _ = omega arith

-- the statement is written
abbrev pub LowersStatement : {A : Type 0} → Result A LowerFault → (old : List Words) → (c0 : List ℕ)
    → (out back : ℕ) → Stmt Target → (c1 : List ℕ) → (new : List Words) → Type 0
LowersStatement r old c0 out back x c1 new =
    Lowers r old (statement_texts x) (λ number. c1 ≡ c0 ++ bytes_at (length c0) out back
    (statement_code (method_block number) x)) new

-- ---- what is written may be said otherwise

pub relisted : {A : Type 0} (r : Result A LowerFault) (old new : List Words) (ts us : List Text)
    (P Q : Said) → Within ts us → Within us ts → ((number : Words → StrNo) → P number → Q number)
    → Lowers r old ts P new → Lowers r old us Q new
relisted (Ok x) old new ts us P Q there back h w = listed there back (said h w)
relisted (Err why) old new ts us P Q there back h w = refused_within why old ts us new there w

pub reworded : {A : Type 0} (r : Result A LowerFault) (old new : List Words) {ts us : List Text}
    (P Q : Said) → ts ≡ us → ((number : Words → StrNo) → P number → Q number)
    → Lowers r old ts P new → Lowers r old us Q new
reworded r old new {ts} {us} P Q e h w =
    relisted r old new ts us P Q (within_same e) (within_same (sym e)) h w

behind : {A : Type 0} (r : Result A LowerFault) {old mid : List Words} (new : List Words)
    {ts : List Text} (us : List Text) (P Q : Said) → Numbered old ts P mid → Lowers r mid us Q new
    → Lowers r old (ts ++ us) (λ number. P number × Q number) new
behind (Ok x) new us P Q v w = both v w
behind (Err why) new us P Q v w = refused_behind why us new v w

-- ---- statements without others in them

break_is : (p out back : ℕ) (number : Words → StrNo) → spelling (instruction.Jump (target out))
    ≡ bytes_at p out back (statement_code (method_block number) tree.Break)
unfolding code_of emitted
break_is p out back number = sym (one_instruction (instruction.Jump (target out)))

continue_is : (p out back : ℕ) (number : Words → StrNo) → spelling (instruction.Jump (target back))
    ≡ bytes_at p out back (statement_code (method_block number) tree.Continue)
unfolding code_of emitted
continue_is p out back number = sym (one_instruction (instruction.Jump (target back)))

return_is : (p out back : ℕ) (number : Words → StrNo) → spelling instruction.End
    ≡ bytes_at p out back (statement_code (method_block number) tree.Return)
unfolding code_of emitted
return_is p out back number = sym (one_instruction instruction.End)

pub empty_written : (table : List Words) (c0 : List ℕ) (out back : ℕ)
    → Numbered table [] (λ number. c0 ≡ c0 ++ bytes_at (length c0) out back
    (statement_code (method_block number) tree.Empty)) table
unfolding code_of
empty_written table c0 out back =
    nothing_named table _ (λ number. nothing_written c0
    ∙ ap (λ bytes. c0 ++ bytes) (sym (plain_is (length c0) out back blocks.Nothing)))

module _ {A : Type 0} (r : Result A LowerFault) (old new : List Words) (c0 c1 : List ℕ)
    (out back : ℕ) where
  pub evaluated : (e : Expr Target)
      → Lowers r old (expr_texts e)
      (λ number. c1 ≡ c0 ++ blocks.bytes_at (length c0) (alone_block (method_block number) e)) new
      → LowersStatement r old c0 out back (tree.Evaluate e) c1 new
  unfolding code_of
  evaluated e h =
      reworded r old new (λ number. c1
      ≡ c0 ++ blocks.bytes_at (length c0) (alone_block (method_block number) e)) (λ number. c1
      ≡ c0 ++ bytes_at (length c0) out back (Plain (alone_block (method_block number) e)))
      (sym (append-nil (expr_texts e))) (λ number is. is ∙ ap (λ bytes. c0
      ++ bytes) (sym (plain_is (length c0) out back (alone_block (method_block number) e)))) h

  pub block_lowered : (body : Body Target)
      → Lowers r old (body_texts body) (λ number. c1 ≡ c0 ++ bytes_at (length c0) out back
      (body_code (method_block number) body)) new
      → LowersStatement r old c0 out back (tree.Block body) c1 new
  unfolding code_of
  block_lowered body h = h

  pub if_lowered : (e : Expr Target) (x : Stmt Target)
      → Lowers r old (expr_texts e ++ statement_texts x)
      (λ number. c1 ≡ c0 ++ bytes_at (length c0) out back
      (Guard (method_block number e) (statement_code (method_block number) x))) new
      → LowersStatement r old c0 out back (tree.If e x) c1 new
  unfolding code_of
  if_lowered e x h = h

  pub if_else_lowered : (e : Expr Target) (x y : Stmt Target)
      → Lowers r old (expr_texts e ++ (statement_texts x ++ statement_texts y))
      (λ number. c1 ≡ c0 ++ bytes_at (length c0) out back
      (Branch (method_block number e) (statement_code (method_block number) x)
      (statement_code (method_block number) y))) new
      → LowersStatement r old c0 out back (tree.IfElse e x y) c1 new
  unfolding code_of
  if_else_lowered e x y h =
      let said_so : Said = λ number. c1 ≡ c0 ++ bytes_at (length c0) out back
      (Branch (method_block number e) (statement_code (method_block number) x)
      (statement_code (method_block number) y)) in
      reworded r old new said_so said_so (ap (λ ts. expr_texts e ++ ts) (sym
      (flat_map-append (λ p. expr_texts p.expression) (stmt_expressions x) (stmt_expressions y))))
      (λ number is. is) h

  pub while_lowered : (e : Expr Target) (x : Stmt Target)
      → Lowers r old (expr_texts e ++ statement_texts x)
      (λ number. c1 ≡ c0 ++ bytes_at (length c0) out back
      (Loop (Test (method_block number e)) Missing (statement_code (method_block number) x)))
      new
      → LowersStatement r old c0 out back (tree.While e x) c1 new
  unfolding code_of
  while_lowered e x h = h

  pub do_lowered : (e : Expr Target) (x : Stmt Target)
      → Lowers r old (expr_texts e ++ statement_texts x)
      (λ number. c1 ≡ c0 ++ bytes_at (length c0) out back
      (Loop Missing (Test (method_block number e)) (statement_code (method_block number) x)))
      new
      → LowersStatement r old c0 out back (tree.Do x e) c1 new
  unfolding code_of
  do_lowered e x h =
      let said_so : Said = λ number. c1 ≡ c0 ++ bytes_at (length c0) out back
      (Loop Missing (Test (method_block number e)) (statement_code (method_block number) x)) in
      let texts : statement_texts x ++ expr_texts e ≡ statement_texts (tree.Do x e) =
      ap (λ ts. statement_texts x ++ ts) (sym (append-nil (expr_texts e)))
      ∙ sym (flat_map-append (λ p. expr_texts p.expression) (stmt_expressions x)
      (record { is_statement = false; expression = e } ∷ [])) in
      reworded r old new said_so said_so texts (λ number is. is)
      (relisted r old new (expr_texts e ++ statement_texts x) (statement_texts x
      ++ expr_texts e) said_so said_so (exchanged (expr_texts e) (statement_texts x))
      (exchanged (statement_texts x) (expr_texts e)) (λ number is. is) h)

  pub switch_lowered : (e : Expr Target) (body : Body Target)
      → Lowers r old (expr_texts e ++ body_texts body)
      (λ number. c1 ≡ c0 ++ bytes_at (length c0) out back
      (Switch (method_block number e) (arms_of (blocks_by (method_block number)) body))) new
      → LowersStatement r old c0 out back (tree.Switch e body) c1 new
  unfolding code_of
  switch_lowered e body h = h

optional_is : (e : Option (Expr Target)) → placed_texts (optional_part e) ≡ optional_texts e
optional_is None = refl
optional_is (Some e) = append-nil (expr_texts e)

pub for_texts : (i c u : Option (Expr Target)) (x : Stmt Target)
    → statement_texts (tree.For i c u x) ≡ optional_texts i
    ++ (optional_texts c ++ (optional_texts u ++ statement_texts x))
for_texts i c u x =
    let f : rules.Placed Target → List Text = λ p. expr_texts p.expression in
    flat_map-append f (optional_part i) (optional_part c ++ (optional_part u ++ stmt_expressions x))
    ∙ ap (λ ts. ts ++ placed_texts (optional_part c ++ (optional_part u ++ stmt_expressions x)))
    (optional_is i)
    ∙ ap (λ ts. optional_texts i ++ ts)
    (flat_map-append f (optional_part c) (optional_part u ++ stmt_expressions x)
    ∙ ap (λ ts. ts ++ placed_texts (optional_part u ++ stmt_expressions x)) (optional_is c)
    ∙ ap (λ ts. optional_texts c ++ ts) (flat_map-append f (optional_part u) (stmt_expressions x)
    ∙ ap (λ ts. ts ++ statement_texts x) (optional_is u)))

module _ (old mid : List Words) (c0 c1 : List ℕ) (out back : ℕ) (i c u : Option (Expr Target))
    (x : Stmt Target)
    (first : Numbered old (optional_texts i)
    (λ number. c1 ≡ c0 ++ blocks.bytes_at (length c0)
    (first_of (blocks_by (method_block number)) i)) mid) where
  pub for_lowered : {A : Type 0} (r : Result A LowerFault) (new : List Words) (c2 : List ℕ)
      → Lowers r mid (optional_texts c ++ (optional_texts u ++ statement_texts x))
      (λ number. c2 ≡ c1 ++ bytes_at (length c1) out back
      (Loop (test_of (blocks_by (method_block number)) c)
      (last_of (blocks_by (method_block number)) u) (statement_code (method_block number) x)))
      new
      → LowersStatement r old c0 out back (tree.For i c u x) c2 new
  unfolding code_of
  for_lowered r new c2 h =
      let one : Said = λ number. c1 ≡ c0 ++ blocks.bytes_at (length c0)
      (first_of (blocks_by (method_block number)) i) in
      let loop : (Words → StrNo)
      → Code = λ number. Loop (test_of (blocks_by (method_block number)) c)
      (last_of (blocks_by (method_block number)) u) (statement_code (method_block number) x) in
      let two : Said = λ number. c2 ≡ c1 ++ bytes_at (length c1) out back (loop number) in
      let all : Said = λ number. c2 ≡ c0 ++ bytes_at (length c0) out back
      (Then (Plain (first_of (blocks_by (method_block number)) i)) (loop number)) in
      reworded r old new (λ number. one number × two number) all (sym (for_texts i c u x)) (λ number
      is. then_written c0 c1 c2 out back (Plain (first_of (blocks_by (method_block number)) i))
      (loop number) (is.0 ∙ ap (λ bytes. c0 ++ bytes)
      (sym (plain_is (length c0) out back (first_of (blocks_by (method_block number)) i)))) is.1)
      (behind r new (optional_texts c ++ (optional_texts u ++ statement_texts x)) one two first h)

module _ {A : Type 0} (r : Result A LowerFault) (table : List Words) (c0 c1 : List ℕ) (out back : ℕ)
  where
    pub breaks_lowered : JumpsTo r c0 out c1
        → LowersStatement r table c0 out back tree.Break c1 table
    breaks_lowered h = by_result r h
      where
        by_result : (q : Result A LowerFault) → JumpsTo q c0 out c1
            → LowersStatement q table c0 out back tree.Break c1 table
        by_result (Ok x) is = nothing_named table _
            (λ number. is ∙ ap (λ bytes. c0 ++ bytes) (break_is (length c0) out back number))
        by_result (Err why) is = no_memory table [] is

    pub continues_lowered : JumpsTo r c0 back c1
        → LowersStatement r table c0 out back tree.Continue c1 table
    continues_lowered h = by_result r h
      where
        by_result : (q : Result A LowerFault) → JumpsTo q c0 back c1
            → LowersStatement q table c0 out back tree.Continue c1 table
        by_result (Ok x) is = nothing_named table _
            (λ number. is ∙ ap (λ bytes. c0 ++ bytes) (continue_is (length c0) out back number))
        by_result (Err why) is = no_memory table [] is

    pub returns_lowered : EndsBy r c0 instruction.End c1
        → LowersStatement r table c0 out back tree.Return c1 table
    returns_lowered h = by_result r h
      where
        by_result : (q : Result A LowerFault) → EndsBy q c0 instruction.End c1
            → LowersStatement q table c0 out back tree.Return c1 table
        by_result (Ok x) is = nothing_named table _
            (λ number. is ∙ ap (λ bytes. c0 ++ bytes) (return_is (length c0) out back number))
        by_result (Err why) is = no_memory table [] is

-- ---- texts of the parts of statements

pub for_first : (i c u : Option (Expr Target)) (x : Stmt Target)
    → Within (optional_texts i) (statement_texts (tree.For i c u x))
for_first i c u x w held =
    let rest = optional_texts c ++ (optional_texts u ++ statement_texts x) in
    within_same (sym (for_texts i c u x)) w (within_left (optional_texts i) rest w held)

pub if_else_texts : (p : Text → Bool) (e : Expr Target) (x y : Stmt Target)
    → list_all p (statement_texts (tree.IfElse e x y)) ≡ true
    → list_all p (expr_texts e ++ (statement_texts x ++ statement_texts y)) ≡ true
if_else_texts p e x y h = ap (λ ts. list_all p (expr_texts e ++ ts))
    (sym (flat_map-append (λ q. expr_texts q.expression) (stmt_expressions x) (stmt_expressions y)))
    ∙ h

pub do_texts : (p : Text → Bool) (e : Expr Target) (x : Stmt Target)
    → list_all p (statement_texts (tree.Do x e)) ≡ true → (list_all p (expr_texts e) ≡ true)
    × (list_all p (statement_texts x) ≡ true)
do_texts p e x h =
    let whole = ap (list_all p)
    (ap (λ ts. statement_texts x ++ ts) (sym (append-nil (expr_texts e)))
    ∙ sym (flat_map-append (λ q. expr_texts q.expression) (stmt_expressions x)
    (record { is_statement = false; expression = e } ∷ []))) ∙ h in
    let parts = all_parts p (statement_texts x) (expr_texts e) whole in
    (parts.1, parts.0)

pub plain_nothing : (c : List ℕ) (out back : ℕ)
    → c ≡ c ++ bytes_at (length c) out back (Plain blocks.Nothing)
plain_nothing c out back = nothing_written c
    ∙ ap (λ bytes. c ++ bytes) (sym (plain_is (length c) out back blocks.Nothing))
