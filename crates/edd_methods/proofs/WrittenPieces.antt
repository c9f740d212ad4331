-- The code of an expression that is a whole statement, and of declarations.
use Rattle.std.proofs.Common.{◌≡◌, refl, sym, ap, subst, ◌∙◌, ℕ, ◌+◌, ◌<◌, ◌^◌, true, false, List, [], ◌∷◌, ◌++◌, length, arith, append_assoc}
use Rattle.std.specs.Prelude.{Option, Some, None}
use Rattle.std.specs.Borrow.{Bor}
use Rattle.std.specs.List.{flat_map}
use Rattle.std.proofs.Math.Nat.{mod-eq_of_lt}
use Rattle.std.proofs.lemmas.Grind.{flat_map-append}
use Rattle.std.proofs.lemmas.List.{append-nil}
use Rattle.edd_syntax.specs.declared.numbers.StrNo.{StrNo}
use Rattle.edd_syntax.specs.declared.reference.Target.{Target}
use Rattle.edd_syntax.specs.declared.reference.Target.TheVariants.{Local, Item, Function}
use Rattle.edd_syntax.specs.Expression as expr
use Rattle.edd_syntax.specs.Expression.{Expr, Literal, Decimal, Reference, Indexed, Parentheses, Unary, Binary, Compare, LogicalAnd, LogicalOr, Conditional, Assign, CompoundAssign, Increment, Call, Argument, arguments_from}
use Rattle.edd_syntax.specs.Statement.{Declarator}
use Rattle.edd_syntax.specs.Strings.{expr_texts}
use Rattle.edd_syntax.specs.SubsetRules.{optional_part}
use Rattle.edd_syntax.specs.Words.{Words}
use Rattle.edd_instructions.specs.declared.instruction.Instruction.TheVariants as instruction
use Rattle.edd_instructions.specs.Spelling.{spelling}
use Rattle.edd_code.specs.Blocks.{Block, Nothing, Straight, Then, size, target, emitted, bytes_of, bytes_at}
use Rattle.edd_code.specs.MethodExpressions.{method_block, store_block}
use Rattle.edd_code.proofs.Lines.{bytes_of-append}
use Rattle.edd_code.proofs.Closing.{nothing_written, length_written}
use Rattle.edd_code.proofs.PieceBytes.{bytes_of_nothing, bytes_of_then}
use Rattle.edd_code.proofs.Writing.{goes_on, one_more}
use Rattle.edd_methods.specs.StatementCode.{alone_block, blocks_by}
use Rattle.edd_methods.specs.TreeCode.{declare_block, first_of, initial_block}
use Rattle.edd_methods.specs.TreeExpressions.{is_abort_call}
use Rattle.edd_methods.specs.Writing.{Numbered, declared_texts, optional_texts, part_bytes, placed_texts}
use Rattle.edd_methods.specs.declared.loops.LoopPart.{LoopPart}
use Rattle.edd_methods.specs.declared.loops.LoopPart.TheVariants as kind
use Rattle.edd_methods.specs.LoopParts.{loop_part, loop_texts}
use Rattle.edd_syntax.specs.declared.expr.Expr.{Expr as Tree}
use Rattle.edd_syntax.specs.TreeView.{numbered_expr}
use Rattle.edd_methods.proofs.ClosedCode.{bytes_of_none}
use Rattle.edd_methods.proofs.ClosedLoops.{one_instruction}
use Rattle.edd_methods.proofs.NumberedParts.{nothing_named, said, same_texts}

-- ---- calls that abort

pub abort_texts : (e : Expr Target) → is_abort_call e ≡ true → expr_texts e ≡ []
abort_texts (Literal value) h = absurd cc
abort_texts Decimal h = absurd cc
abort_texts (Reference from) h = absurd cc
abort_texts (Indexed array index) h = absurd cc
abort_texts (Parentheses inner) h = absurd cc
abort_texts (Unary op operand) h = absurd cc
abort_texts (Binary op left right) h = absurd cc
abort_texts (Compare by left right) h = absurd cc
abort_texts (LogicalAnd left right) h = absurd cc
abort_texts (LogicalOr left right) h = absurd cc
abort_texts (Conditional test first second) h = absurd cc
abort_texts (Assign to value) h = absurd cc
abort_texts (CompoundAssign op to value) h = absurd cc
abort_texts (Increment op to) h = absurd cc
abort_texts (Call (Local slot) arguments) h = absurd cc
abort_texts (Call (Item i) arguments) h = absurd cc
abort_texts (Call (Function f) expr.Nil) h = refl
abort_texts (Call (Function f) (expr.Cons first rest)) h = absurd cc

pub abort_when : {x : Expr Target} (g : Target) {xs : List (Argument Target)}
    → x ≡ Call g (arguments_from xs) → xs ≡ [] → is_abort_call (Call g expr.Nil) ≡ is_abort_call x
abort_when g is none = sym (ap is_abort_call (is ∙ ap (λ ys. Call g (arguments_from ys)) none))

some_call : (g : Target) (y : Argument Target) (ys : List (Argument Target))
    → is_abort_call (Call g (arguments_from (y ∷ ys))) ≡ false
some_call (Local slot) y ys = refl
some_call _ y ys = refl

pub no_abort_when : {x : Expr Target} (g : Target) (xs : List (Argument Target))
    → x ≡ Call g (arguments_from xs) → ¬ (xs ≡ []) → false ≡ is_abort_call x
no_abort_when g [] is some = absurd (some refl)
no_abort_when g (y ∷ ys) is some = sym (ap is_abort_call is ∙ some_call g y ys)

pub abort_written : (e : Expr Target) (table : List Words) (c0 : List ℕ) {c1 : List ℕ}
    → is_abort_call e ≡ true → c1 ≡ c0 ++ spelling instruction.Abort → Numbered table (expr_texts e)
    (λ number. c1 ≡ c0 ++ bytes_at (length c0) (alone_block (method_block number) e)) table
abort_written e table c0 {c1} aborts is =
    same_texts (sym (abort_texts e aborts)) (nothing_named table _
    (λ number. rw (aborts, alone_block) (one_more c0 c1 instruction.Abort is)))

pub popped_written : (e : Expr Target) {old new : List Words} (c0 c1 : List ℕ) {c2 : List ℕ}
    → is_abort_call e ≡ false → Numbered old (expr_texts e) (λ number. c1
    ≡ c0 ++ bytes_at (length c0) (method_block number e)) new → c2 ≡ c1 ++ spelling instruction.Pop
    → Numbered old (expr_texts e) (λ number. c2
    ≡ c0 ++ bytes_at (length c0) (alone_block (method_block number) e)) new
popped_written e c0 c1 {c2} goes value pop =
    said (λ number is. rw (goes, alone_block)
    (goes_on c0 c1 c2 (method_block number e) (Straight instruction.Pop) is
    (one_more c1 c2 instruction.Pop pop))) value

-- ---- parts that are missing

pub first_missing : (first : Option (Expr Target)) (table : List Words) (c0 : List ℕ) → first ≡ None
    → Numbered table (optional_texts first)
    (λ number. c0 ≡ c0 ++ bytes_at (length c0)
    (first_of (blocks_by (method_block number)) first)) table
first_missing None table c0 is = nothing_named table _ (λ number. nothing_written c0)
first_missing (Some e) table c0 is = absurd cc

pub initial_missing : (value : Option (Expr Target)) (table : List Words) (c0 : List ℕ)
    {c1 : List ℕ} → value ≡ None → c1 ≡ c0 ++ spelling (instruction.Push 0)
    → Numbered table (optional_texts value) (λ number. c1
    ≡ c0 ++ bytes_at (length c0) (initial_block (blocks_by (method_block number)) value)) table
initial_missing None table c0 {c1} is pushed =
    nothing_named table _ (λ number. one_more c0 c1 (instruction.Push 0) pushed)
initial_missing (Some e) table c0 is pushed = absurd cc

-- ---- declarations

pub declared_one : (d : Declarator Target) → declared_texts (d ∷ []) ≡ optional_texts d.value
declared_one d = by_value d.value
  where
    by_value : (value : Option (Expr Target)) → placed_texts (optional_part value ++ [])
        ≡ optional_texts value
    by_value None = refl
    by_value (Some e) = append-nil (expr_texts e)

pub declared_split : (d : Declarator Target) (ds : List (Declarator Target))
    → declared_texts (d ∷ ds) ≡ declared_texts (d ∷ []) ++ declared_texts ds
declared_split d ds =
    flat_map-append (λ p. expr_texts p.expression) (optional_part d.value)
    (flat_map (λ x. optional_part x.value) ds)
    ∙ ap (λ ps. placed_texts ps ++ declared_texts ds) (sym (append-nil (optional_part d.value)))

pub declarator_written : (d : Declarator Target) {old new : List Words} (c0 c1 c2 : List ℕ)
    {c3 : List ℕ} → Numbered old (optional_texts d.value) (λ number. c1
    ≡ c0 ++ bytes_at (length c0) (initial_block (blocks_by (method_block number)) d.value)) new
    → c2 ≡ c1 ++ bytes_at (length c1) (store_block d.place) → c3 ≡ c2 ++ spelling instruction.Pop
    → Numbered old (declared_texts (d ∷ [])) (λ number. c3
    ≡ c0 ++ bytes_at (length c0) (declare_block (blocks_by (method_block number)) (d ∷ []))) new
declarator_written d c0 c1 c2 {c3} value store pop =
    let ends : c3 ≡ c2 ++ bytes_at (length c2) (Then (Straight instruction.Pop) Nothing) =
    goes_on c2 c3 c3 (Straight instruction.Pop) Nothing (one_more c2 c3 instruction.Pop pop)
    (nothing_written c3) in
    same_texts (sym (declared_one d)) (said (λ number is. goes_on c0 c1 c3
    (initial_block (blocks_by (method_block number)) d.value) _ is (goes_on c1 c2 c3
    (store_block d.place) (Then (Straight instruction.Pop) Nothing) store ends)) value)

-- a block in front of two that result in the same bytes
in_front : (a x y r : Block) → ((q : ℕ) → bytes_at q x ≡ bytes_at q y ++ bytes_at (q + size y) r)
    → (p : ℕ) → bytes_at p (Then a x) ≡ bytes_at p (Then a y) ++ bytes_at (p + size (Then a y)) r
in_front a x y r same p =
    let at : p + size a + size y ≡ p + (size a + size y) = omega arith in
    bytes_of_then p a x ∙ ap (λ bs. bytes_at p a ++ bs) (same (p + size a))
    ∙ sym (append_assoc (bytes_at p a) (bytes_at (p + size a) y)
    (bytes_at (p + size a + size y) r))
    ∙ ap (λ bs. bs ++ bytes_at (p + size a + size y) r) (sym (bytes_of_then p a y))
    ∙ ap (λ n. bytes_at p (Then a y) ++ bytes_at n r) at

in_end : (r : Block) (q : ℕ) → bytes_at q r ≡ bytes_at q Nothing ++ bytes_at (q + size Nothing) r
in_end r q = let at : q ≡ q + 0 = omega arith in ap (λ n. bytes_at n r) at
    ∙ ap (λ bs. bs ++ bytes_at (q + 0) r) (sym (bytes_of_nothing q))

-- what there will be once the other declarators are written
abbrev pub declares : (Words → StrNo) → List ℕ → List (Declarator Target) → List ℕ
declares number so_far rest = so_far
    ++ bytes_at (length so_far) (declare_block (blocks_by (method_block number)) rest)

pub declares_on : (number : Words → StrNo) (d : Declarator Target) (c0 c1 : List ℕ)
    → c1 ≡ c0 ++ bytes_at (length c0) (declare_block (blocks_by (method_block number)) (d ∷ []))
    → (rest : List (Declarator Target)) → declares number c0 (d ∷ rest) ≡ declares number c1 rest
declares_on number d c0 c1 is rest =
    let given = blocks_by (method_block number) in
    let one = declare_block given (d ∷ []) in
    let r = declare_block given rest in
    let split = in_front (initial_block given d.value) _ _ r
    (in_front (store_block d.place) _ _ r
    (in_front (Straight instruction.Pop) r Nothing r (in_end r))) (length c0) in
    ap (λ bs. c0 ++ bs) split
    ∙ sym (append_assoc c0 (bytes_at (length c0) one) (bytes_at (length c0 + size one) r))
    ∙ ap (λ n. (c0 ++ bytes_at (length c0) one) ++ bytes_at n r) (sym (length_written c0 one))
    ∙ ap (λ code. code ++ bytes_at (length code) r) (sym is)

pub declares_none : (number : Words → StrNo) (c : List ℕ) → declares number c [] ≡ c
declares_none number c = sym (nothing_written c)

-- ---- parts of loops

pub part_missing : {part : LoopPart} (out : ℕ) (table : List Words) (c0 : List ℕ)
    → part ≡ kind.Missing → Numbered table (loop_texts part) (λ number. c0
    ≡ c0 ++ part_bytes (length c0) out (loop_part (method_block number) part)) table
part_missing out table c0 is =
    subst (λ (x : LoopPart). Numbered table (loop_texts x)
    (λ number. c0 ≡ c0 ++ part_bytes (length c0) out (loop_part (method_block number) x)) table)
    (sym is)
    (nothing_named table _ (λ number. sym (ap (λ bs. c0 ++ bs) bytes_of_none ∙ append-nil c0)))

pub test_written : {part : LoopPart} (e : Bor (Tree Target)) (out : ℕ) {old new : List Words}
    (c0 c1 : List ℕ) {c2 : List ℕ} → part ≡ kind.Test e → out < 2 ^ 32
    → Numbered old (expr_texts (numbered_expr e.now)) (λ number. c1
    ≡ c0 ++ bytes_at (length c0) (method_block number (numbered_expr e.now))) new
    → c2 ≡ c1 ++ spelling (instruction.JumpIfZero out) → Numbered old (loop_texts part)
    (λ number. c2 ≡ c0 ++ part_bytes (length c0) out (loop_part (method_block number) part)) new
test_written e out {old} {new} c0 c1 {c2} is small value jump =
    let same : target out ≡ out = mod-eq_of_lt small in
    subst (λ (x : LoopPart). Numbered old (loop_texts x)
    (λ number. c2 ≡ c0 ++ part_bytes (length c0) out (loop_part (method_block number) x)) new)
    (sym is)
    (said (λ number written.
    let block = method_block number (numbered_expr e.now) in
    jump ∙ ap (λ code. code ++ spelling (instruction.JumpIfZero out)) written
    ∙ append_assoc c0 (bytes_at (length c0) block) (spelling (instruction.JumpIfZero out))
    ∙ ap (λ bs. c0 ++ bs) (ap (λ bs. bytes_at (length c0) block ++ bs)
    (sym (ap (λ t. bytes_of (instruction.JumpIfZero t ∷ [])) same
    ∙ one_instruction (instruction.JumpIfZero out)))
    ∙ sym (bytes_of-append (emitted (length c0) block) (instruction.JumpIfZero (target out) ∷ []))))
    value)
