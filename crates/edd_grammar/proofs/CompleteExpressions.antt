-- What is spelled is read so, where what follows can't go on with it.
use Rattle.std.proofs.Common.{◌≡◌, ℕ, zero, suc, ◌+◌, ◌≤◌, ◌<◌, max, Bool, true, false, cond, List, [], ◌∷◌, length, Option, Some, None, refl, sym, ap, subst, ◌∙◌, inl, inr, ◌⊎◌, arith}
use Rattle.std.specs.Prelude.{nat_le}
use Rattle.std.proofs.lemmas.Option.{some_pair_parts}
use Rattle.edd_syntax.specs.declared.operators.UnaryOperator.{UnaryOperator}
use Rattle.edd_syntax.specs.declared.operators.UnaryOperator.TheVariants as unary_operator
use Rattle.edd_syntax.specs.declared.operators.IncrementOperator.TheVariants.{PreIncrement, PostIncrement, PreDecrement, PostDecrement}
use Rattle.edd_syntax.specs.declared.symbols.Symbol.TheVariants as sign
use Rattle.edd_syntax.specs.Text as texts
use Rattle.edd_syntax.specs.Text.{Name}
use Rattle.edd_syntax.specs.Token.{Token, Identifier, Sign}
use Rattle.edd_syntax.specs.Reference.{Path}
use Rattle.edd_syntax.specs.Expression as tree
use Rattle.edd_syntax.specs.Expression.{Expr, Text, Value, Arguments}
use Rattle.edd_syntax.specs.Grammar.{Site, loosest, IsMethod, precedence_of, comparison_precedence, unary_sign, MembersHere, TextHere, ExprHere, ArgumentsHere, MoreArgumentsHere}
use Rattle.edd_syntax.specs.Size.{height, argument_height}
use Rattle.edd_grammar.specs.Signs.{Infix, Plain, Comparing, Both, Either, infix_precedence, infix_sign, infix_tree, Assignment, Simple, Compound, assignment_sign, assignment_tree}
use Rattle.edd_grammar.specs.Reading.{◌>>=◌, on_option, Read, at, path_behind}
use Rattle.edd_grammar.specs.ExpressionReading.{step_before, operator_at, assignment_at, Inner, argument_at, some_arguments, arguments_at, postfix, index_behind, named_at, unary_behind, parentheses_behind, signed_at, operand_at, joined_at, chain, choice_at, assigned, assign_at, layer, expr_at}
use Rattle.edd_grammar.specs.Following.{Stops}
use Rattle.edd_grammar.proofs.Steps.{expect_again}
use Rattle.edd_grammar.proofs.Operators.{method_again, infix_again, infix_height, InfixHere, AssignmentHere, precedence_from, precedence_to}
use Rattle.edd_grammar.proofs.Texts.{path_again, path_behind_again, text_again}
use Rattle.edd_grammar.proofs.SoundExpressions.{loosest_le}
use Rattle.edd_grammar.proofs.Shorter.{expr_shorter, text_shorter, begins, begins_no_text, begins_no_close, text_no_close}
use Rattle.edd_grammar.proofs.Stops.{stops_mono, stops_tight, stops_operator, stops_question, stops_assignment, stops_parenthesis, stops_bracket, stops_postfix, stops_dot}

bind_assoc : {A B C : Type 0} (o : Option A) (f : A → Option B) (g : B → Option C)
    → ((o >>= f) >>= g) ≡ (o >>= λ x. f x >>= g)
bind_assoc None f g = refl
bind_assoc (Some x) f g = refl

some_height : (e : Expr Path) → 0 < height e
some_height (tree.Literal n) = omega arith
some_height _ = omega arith

on_same : {A B : Type 0} (o : Option A) (none : B) (f g : A → B) → ((x : A) → f x ≡ g x)
    → on_option o none f ≡ on_option o none g
on_same None none f g h = refl
on_same (Some x) none f g h = h x

either_way : {A B : Type 0} (o : Option A) (x : B) → on_option o x (λ _. x) ≡ x
either_way None x = refl
either_way (Some y) x = refl

bind_same : {A B : Type 0} (o : Option A) (f g : A → Option B) → ((x : A) → f x ≡ g x)
    → (o >>= f) ≡ (o >>= g)
bind_same None f g h = refl
bind_same (Some x) f g h = h x

guard_same : {A : Type 0} (b : Bool) (x y : Option A) → (b ≡ true → x ≡ y)
    → cond b x None ≡ cond b y None
guard_same true x y h = h refl
guard_same false x y h = refl

greater_again : (a b : ℕ) → b < a → nat_le a b ≡ false
greater_again a b h = grind arith

less_again : (a b : ℕ) → nat_le a b ≡ true → a ≤ b
less_again a b h = grind arith

-- Whatever is spelled so, is read so.
abbrev pub Complete : Site → ℕ → Inner → Type 0
Complete p height_left inner = (precedence : ℕ) (e : Expr Path) (here rest : List Token)
    → precedence ≤ 13
    → ExprHere p precedence e here rest → height e ≤ height_left → Stops precedence rest
    → inner precedence here ≡ Some (e, rest)

le_again : (a b : ℕ) → a ≤ b → nat_le a b ≡ true
le_again a b h = grind arith

abbrev count : Arguments Path → ℕ
count tree.Nil = 0
count (tree.Cons a others) = suc (count others)

nat_le_cases : (a b : ℕ) → (nat_le a b ≡ true) ⊎ (nat_le a b ≡ false)
nat_le_cases a b = elim (nat_le a b) as (λ t. (t ≡ true) ⊎ (t ≡ false)) [
  | true ↦ inl refl
  | false ↦ inr refl
]

count_more : (p : Site) (args : Arguments Path) (here rest : List Token)
    → MoreArgumentsHere p args here rest → count args + length rest ≤ length here
count_more p tree.Nil here rest h = omega (arith, ap length h)
count_more p (tree.Cons (Value e) others) here rest h =
    omega (
      arith,
      ap length h.2,
      expr_shorter p (loosest p) e h.0 h.1 h.3,
      count_more p others h.1 rest h.4,
    )
count_more p (tree.Cons (Text w) others) here rest h =
    omega (arith, ap length h.2, text_shorter w h.0 h.1 h.3, count_more p others h.1 rest h.4)

-- there are no more arguments than tokens
count_le : (p : Site) (args : Arguments Path) (here rest : List Token)
    → ArgumentsHere p args here rest → count args ≤ length here
count_le p tree.Nil here rest h = omega arith
count_le p (tree.Cons (Value e) others) here rest h =
    omega (arith, expr_shorter p (loosest p) e here h.0 h.1, count_more p others h.0 rest h.2)
count_le p (tree.Cons (Text w) others) here rest h =
    omega (arith, text_shorter w here h.0 h.1, count_more p others h.0 rest h.2)

operator_again : (precedence : ℕ) (op : Infix) (behind : List Token)
    → precedence ≤ infix_precedence op
    → operator_at precedence (Sign (infix_sign op) ∷ behind) ≡ Some (op, behind)
operator_again precedence op behind le = rw (
  infix_again op,
  le_again precedence
      (infix_precedence op) le,
) refl

assignment_again : (op : Assignment) (behind : List Token)
    → assignment_at (Sign (assignment_sign op) ∷ behind) ≡ Some (op, behind)
assignment_again Simple behind = refl
assignment_again (Compound op) behind = refl

assignment_stops : (op : Assignment) (behind : List Token)
    → Stops 14 (Sign (assignment_sign op) ∷ behind)
assignment_stops Simple behind = omega arith
assignment_stops (Compound op) behind = omega arith

assignment_no_operator : (precedence : ℕ) (op : Assignment) (behind : List Token)
    → operator_at precedence (Sign (assignment_sign op) ∷ behind) ≡ None
assignment_no_operator precedence Simple behind = refl
assignment_no_operator precedence (Compound op) behind = refl

assignment_no_question : (op : Assignment) (behind : List Token)
    → at sign.Question (Sign (assignment_sign op) ∷ behind) ≡ false
assignment_no_question Simple behind = refl
assignment_no_question (Compound op) behind = grind arith

no_bracket_behind : (ms : List (List ℕ)) (behind rest : List Token) → at sign.OpenBracket rest
    ≡ false → MembersHere ms behind rest → at sign.OpenBracket behind ≡ false
no_bracket_behind [] behind rest f h = rw h f
no_bracket_behind (m ∷ ms) behind rest f h = ap (at sign.OpenBracket) h.1

no_paren_behind : (ms : List (List ℕ)) (behind rest : List Token) → at sign.OpenParenthesis rest
    ≡ false → MembersHere ms behind rest → at sign.OpenParenthesis behind ≡ false
no_paren_behind [] behind rest f h = rw h f
no_paren_behind (m ∷ ms) behind rest f h = ap (at sign.OpenParenthesis) h.1

module _ (p : Site) (inner : Inner) (height_left : ℕ) (complete : Complete p height_left inner)
  where
    value_again : (e : Expr Path) (here rest : List Token) → Stops (loosest p) rest
        → ExprHere p (loosest p) e here rest → height e ≤ height_left → argument_at p inner here
        ≡ Some (Value e, rest)
    unfolding argument_at
    value_again e here rest s h low = rw (
      begins_no_text here (begins p (loosest p) e here rest h),
      complete (loosest p) e here rest (omega (arith, loosest_le p)) h low s,
    ) refl

    text_argument_again : (w : texts.Text) (here rest : List Token) → TextHere w here rest
        → argument_at p inner here ≡ Some (Text w, rest)
    unfolding argument_at
    text_argument_again w here rest h = let read = text_again w here rest h in rw (read.0, read.1)
        refl

    -- an argument inside parentheses ends at a comma or at the closing one
    some_arguments_again : (n : ℕ) (args : Arguments Path) (here rest : List Token) → 0 < count args
        → count args ≤ n → argument_height args ≤ height_left
        → ArgumentsHere p args here (Sign sign.CloseParenthesis ∷ rest)
        → some_arguments p inner n here ≡ Some (args, rest)
    unfolding some_arguments
    some_arguments_again n tree.Nil here rest some le low h = absurd (omega arith)
    some_arguments_again zero (tree.Cons (Value e) others) here rest some le low h =
        absurd (omega arith)
    some_arguments_again zero (tree.Cons (Text e) others) here rest some le low h =
        absurd (omega arith)
    some_arguments_again (suc n) (tree.Cons (Value e) tree.Nil) here rest some le low h =
        rw (
          value_again e here (Sign sign.CloseParenthesis ∷ rest) tt
              (subst (λ t. ExprHere p (loosest p) e here t) h.2 h.1) (omega arith),
          expect_again sign.CloseParenthesis rest,
        ) refl
    some_arguments_again (suc n) (tree.Cons (Text w) tree.Nil) here rest some le low h =
        rw (
          text_argument_again w here (Sign sign.CloseParenthesis ∷ rest)
              (subst (λ t. TextHere w here t) h.2 h.1),
          expect_again sign.CloseParenthesis rest,
        ) refl
    some_arguments_again (suc n) (tree.Cons (Value e) (tree.Cons (Value f) others)) here rest some
        le
        low h =
        let read = value_again e here (Sign sign.Comma ∷ h.2.0) tt
        (subst (λ t. ExprHere p (loosest p) e here t) h.2.2 h.1) (omega arith) in
        rw (
          read,
          some_arguments_again n (tree.Cons (Value f) others) h.2.0 rest (omega arith)
              (omega arith) (omega arith) (h.2.1, h.2.3, h.2.4),
        ) refl
    some_arguments_again (suc n) (tree.Cons (Value e) (tree.Cons (Text f) others)) here rest some le
        low h =
        let read = value_again e here (Sign sign.Comma ∷ h.2.0) tt
        (subst (λ t. ExprHere p (loosest p) e here t) h.2.2 h.1) (omega arith) in
        rw (
          read,
          some_arguments_again n (tree.Cons (Text f) others) h.2.0 rest (omega arith)
              (omega arith) (omega arith) (h.2.1, h.2.3, h.2.4),
        ) refl
    some_arguments_again (suc n) (tree.Cons (Text w) (tree.Cons (Value f) others)) here rest some le
        low h =
        let read = text_argument_again w here (Sign sign.Comma ∷ h.2.0)
        (subst (λ t. TextHere w here t) h.2.2 h.1) in
        rw (
          read,
          some_arguments_again n (tree.Cons (Value f) others) h.2.0 rest (omega arith)
              (omega arith) (omega arith) (h.2.1, h.2.3, h.2.4),
        ) refl
    some_arguments_again (suc n) (tree.Cons (Text w) (tree.Cons (Text f) others)) here rest some le
        low h =
        let read = text_argument_again w here (Sign sign.Comma ∷ h.2.0)
        (subst (λ t. TextHere w here t) h.2.2 h.1) in
        rw (
          read,
          some_arguments_again n (tree.Cons (Text f) others) h.2.0 rest (omega arith)
              (omega arith) (omega arith) (h.2.1, h.2.3, h.2.4),
        ) refl

    arguments_again : (args : Arguments Path) (here rest : List Token)
        → argument_height args ≤ height_left
        → ArgumentsHere p args here (Sign sign.CloseParenthesis ∷ rest) → arguments_at p inner here
        ≡ Some (args, rest)
    unfolding arguments_at
    arguments_again tree.Nil here rest low h = rw h refl
    arguments_again (tree.Cons (Value e) others) here rest low h =
        rw (begins_no_close here (begins p (loosest p) e here h.0 h.1))
        (some_arguments_again (length here) (tree.Cons (Value e) others) here rest (omega arith)
        (count_le p (tree.Cons (Value e) others) here _ h) low h)
    arguments_again (tree.Cons (Text w) others) here rest low h =
        rw (text_no_close w here h.0 h.1)
        (some_arguments_again (length here) (tree.Cons (Text w) others) here rest (omega arith)
        (count_le p (tree.Cons (Text w) others) here _ h) low h)

    unary_again : (op : UnaryOperator) (e : Expr Path) (here behind rest : List Token)
        → here ≡ Sign (unary_sign op) ∷ behind
        → unary_behind p inner op behind ≡ Some (tree.Unary op e, rest) → operand_at p inner here
        ≡ Some (tree.Unary op e, rest)
    unfolding operand_at signed_at
    unary_again unary_operator.Minus e here behind rest f h = rw f h
    unary_again _ e here behind rest f h = rw f h

    named_again : (r : Path) (here rest behind : List Token) → (here ≡ Identifier r.base ∷ behind)
        → at sign.OpenParenthesis behind ≡ false → at sign.OpenBracket behind ≡ false
        → operand_at p inner here
        ≡ postfix p (path_behind r.base behind).0 (path_behind r.base behind).1
    unfolding operand_at named_at
    named_again r here rest behind f closed plain = rw (f, closed, plain) refl

    -- precedences 13 to 15
    abbrev IsOperand : Expr Path → Type 0
    IsOperand (tree.Binary op a b) = ⊥
    IsOperand (tree.Compare op a b) = ⊥
    IsOperand (tree.LogicalAnd a b) = ⊥
    IsOperand (tree.LogicalOr a b) = ⊥
    IsOperand (tree.Conditional c a b) = ⊥
    IsOperand (tree.Assign r e) = ⊥
    IsOperand (tree.CompoundAssign op r e) = ⊥
    IsOperand _ = Unit {0}

    operand_again : (precedence level : ℕ) (e : Expr Path) (here rest : List Token) → IsOperand e
        → ExprHere p precedence e here rest → height e ≤ suc height_left → Stops level rest
        → operand_at p inner here ≡ Some (e, rest)
    unfolding operand_at step_before signed_at named_at index_behind unary_behind parentheses_behind
        postfix
    operand_again precedence level (tree.Literal n) here rest i h low s = rw h refl
    operand_again precedence level tree.Decimal here rest i h low s = rw h refl
    operand_again precedence level (tree.Reference r) here rest i h low s =
        named_again r here rest h.0 h.1
        (no_paren_behind r.members h.0 rest (stops_parenthesis level rest s) h.2)
        (no_bracket_behind r.members h.0 rest (stops_bracket level rest s) h.2)
        ∙ rw (path_behind_again r h.0 rest (stops_dot level rest s) h.2)
        (stops_postfix p level r rest s)
    operand_again precedence level (tree.Indexed a e) here rest i h low s =
        let read = complete (loosest p) e h.1 (Sign sign.CloseBracket ∷ rest)
        (omega (arith, loosest_le p)) h.4 (omega arith) tt in
        rw (h.2.1, h.3, read, expect_again sign.CloseBracket rest)
        (ap (λ (ms : List Name). Some (
          tree.Indexed (record { base = a.base; members = ms }) e,
          rest,
        ))
        (sym h.2.0))
    operand_again precedence level (tree.Parentheses e) here rest i h low s =
        let read = complete (loosest p) e h.0 (Sign sign.CloseParenthesis ∷ rest)
        (omega (arith, loosest_le p)) h.2 (omega arith) tt in
        rw (h.1, read, expect_again sign.CloseParenthesis rest) refl
    operand_again precedence level (tree.Call f args) here rest i h low s =
        rw (h.3.1, h.4, method_again p h.0, arguments_again args h.2 rest (omega arith) h.5)
        (ap (λ (ms : List Name). Some (
          tree.Call (record { base = f.base; members = ms }) args,
          rest,
        ))
        (sym h.3.0))
    operand_again precedence level (tree.Increment PreIncrement r) here rest i h low s =
        rw (h.3, method_again p h.0, path_again r h.2 rest (stops_dot level rest s) h.4) refl
    operand_again precedence level (tree.Increment PreDecrement r) here rest i h low s =
        rw (h.3, method_again p h.0, path_again r h.2 rest (stops_dot level rest s) h.4) refl
    operand_again precedence level (tree.Increment PostIncrement r) here rest i h low s =
        let read = path_behind_again r h.2.0 (Sign sign.Increment ∷ rest) refl h.2.2 in
        named_again r here rest h.2.0 h.2.1 (no_paren_behind r.members h.2.0 _ refl h.2.2)
        (no_bracket_behind r.members h.2.0 _ refl h.2.2)
        ∙ ap (λ (x : Path × List Token). postfix p x.0 x.1) read ∙ rw (method_again p h.0) refl
    operand_again precedence level (tree.Increment PostDecrement r) here rest i h low s =
        let read = path_behind_again r h.2.0 (Sign sign.Decrement ∷ rest) refl h.2.2 in
        named_again r here rest h.2.0 h.2.1 (no_paren_behind r.members h.2.0 _ refl h.2.2)
        (no_bracket_behind r.members h.2.0 _ refl h.2.2)
        ∙ ap (λ (x : Path × List Token). postfix p x.0 x.1) read ∙ rw (method_again p h.0) refl
    operand_again precedence level (tree.Unary op e) here rest i h low s =
        let read = complete 13 e h.1 rest (omega arith) h.3 (omega arith)
        (stops_tight level 13 rest (omega arith) s) in
        unary_again op e here h.1 rest h.2 (rw read refl)
    operand_again precedence level _ here rest i h low s = absurd i

    -- ---- chains of operators

    joined_then : (op : Infix) (left : Expr Path) (here : List Token) (f : Expr Path → List Token
        → Read (Expr Path))
        → (joined_at p inner height_left op left here >>= λ x. f x.0 x.1)
        ≡ cond (nat_le (height left) height_left) (inner (suc (infix_precedence op)) here
        >>= λ right. f (infix_tree op left right.0) right.1) None
    unfolding joined_at
    joined_then op left here f = go (nat_le (height left) height_left)
        (inner (suc (infix_precedence op)) here)
      where
        go : (b : Bool) (o : Read (Expr Path))
            → (let made : Read (Expr Path) = cond b
            (o >>= λ right. Some (infix_tree op left right.0, right.1)) None in made
            >>= λ x. f x.0 x.1) ≡ cond {A = Read (Expr Path)} b
            (o >>= λ right. f (infix_tree op left right.0) right.1) None
        go false o = refl
        go true None = refl
        go true (Some x) = refl

    chain_fuel : (precedence n m : ℕ) (left : Expr Path) (here : List Token)
        → height_left < n + height left
        → height_left < m + height left → chain p inner height_left precedence n left here
        ≡ chain p inner height_left precedence m left here
    unfolding chain
    chain_fuel precedence zero zero left here a b = refl
    chain_fuel precedence zero (suc m) left here a b = on_same (operator_at precedence here) _ _ _
        (λ o. rw (
          joined_then o.0 left o.1 (λ x t. chain p inner height_left precedence m x t),
          greater_again (height left) height_left (omega arith),
        ) refl)
    chain_fuel precedence (suc n) zero left here a b = on_same (operator_at precedence here) _ _ _
        (λ o. rw (
          joined_then o.0 left o.1 (λ x t. chain p inner height_left precedence n x t),
          greater_again (height left) height_left (omega arith),
        ) refl)
    chain_fuel precedence (suc n) (suc m) left here a b =
        on_same (operator_at precedence here) _ _ _
        (λ o. rw (
          joined_then o.0 left o.1 (λ x t. chain p inner height_left precedence n x t),
          joined_then o.0 left o.1 (λ x t. chain p inner height_left precedence m x t),
        )
        (guard_same (nat_le (height left) height_left) _ _ (λ low.
        bind_same (inner (suc (infix_precedence o.0)) o.1) _ _
        (λ right. let l = less_again (height left) height_left low in
        let taller = infix_height o.0 left right.0 in
        chain_fuel precedence n m (infix_tree o.0 left right.0) right.1 (omega arith)
        (omega arith)))))

    -- a left side that the first operand and the operators after it make
    abbrev from_operand : ℕ → List Token → Read (Expr Path)
    from_operand precedence here = operand_at p inner here >>= λ first. chain p inner
        height_left precedence
        (suc height_left) first.0 first.1

    -- where the operator of this precedence is next
    chain_takes : (precedence : ℕ) (op : Infix) (a b : Expr Path) (behind rest : List Token)
        → precedence ≤ infix_precedence op → height a ≤ height_left
        → inner (suc (infix_precedence op)) behind ≡ Some (b, rest)
        → chain p inner height_left precedence (suc height_left) a (Sign (infix_sign op) ∷ behind)
        ≡ chain p inner height_left precedence (suc height_left) (infix_tree op a b) rest
    unfolding chain joined_at
    chain_takes precedence op a b behind rest le low read =
        let lowers = le_again (height a) height_left low in
        let next = operator_again precedence op behind le in
        let taller = infix_height op a b in
        rw (next, lowers, read) (chain_fuel precedence height_left (suc height_left)
        (infix_tree op a b)
        rest
        (omega arith) (omega arith))

    -- the left side is read, and the right side after its operator
    chain_joins : (precedence level : ℕ) (op : Infix) (a b : Expr Path) (here rest : List Token)
        → precedence ≤ level → (h : InfixHere p level op a b here rest) → height (infix_tree op a b)
        ≤ suc height_left → Stops (suc level) rest
        → from_operand precedence here ≡ chain p inner height_left precedence (suc height_left) a
        (Sign (infix_sign op) ∷ h.1) → from_operand precedence here
        ≡ chain p inner height_left precedence
        (suc height_left) (infix_tree op a b) rest
    chain_joins precedence level op a b here rest le h low s first =
        let taller = infix_height op a b in
        let read = complete (suc (infix_precedence op)) b h.1 rest
        (omega (arith, precedence_to op)) h.3
        (omega arith) (stops_mono (suc level) (suc (infix_precedence op)) rest
        (omega (arith, h.0)) s) in
        first ∙ chain_takes precedence op a b h.1 rest (omega (arith, h.0)) (omega arith) read

    chain_again : (precedence level : ℕ) (e : Expr Path) (here rest : List Token)
        → precedence ≤ level → 3 ≤ level
        → level ≤ 13 → ExprHere p level e here rest → height e ≤ suc height_left
        → Stops (suc level) rest
        → from_operand precedence here ≡ chain p inner height_left precedence
        (suc height_left) e rest
    chain_again precedence level (tree.Binary op a b) here rest le three most h low s =
        chain_joins precedence level (Plain op) a b here rest le h low s
        (chain_again precedence (precedence_of op) a here (Sign (sign.Operator op) ∷ h.1)
        (omega (arith, h.0))
        (precedence_from (Plain op)) (omega (arith, precedence_to (Plain op))) h.2
        (omega arith) (omega arith))
    chain_again precedence level (tree.Compare op a b) here rest le three most h low s =
        chain_joins precedence level (Comparing op) a b here rest le h low s
        (chain_again precedence (comparison_precedence op) a here (Sign (sign.Comparison op) ∷ h.1)
        (omega (arith, h.0)) (precedence_from (Comparing op))
        (omega (arith, precedence_to (Comparing op))) h.2
        (omega arith) (omega arith))
    chain_again precedence level (tree.LogicalAnd a b) here rest le three most h low s =
        chain_joins precedence level Both a b here rest le h low s
        (chain_again precedence 4 a here (Sign sign.LogicalAnd ∷ h.1) (omega (arith, h.0))
        (precedence_from Both)
        (omega (arith, precedence_to Both)) h.2 (omega arith) (omega arith))
    chain_again precedence level (tree.LogicalOr a b) here rest le three most h low s =
        chain_joins precedence level Either a b here rest le h low s
        (chain_again precedence 3 a here (Sign sign.LogicalOr ∷ h.1) (omega (arith, h.0))
        (precedence_from Either)
        (omega (arith, precedence_to Either)) h.2 (omega arith) (omega arith))
    chain_again precedence level (tree.Conditional c a b) here rest le three most h low s =
        absurd (omega (arith, h.0))
    chain_again precedence level (tree.Assign r e) here rest le three most h low s =
        absurd (omega (arith, h.1))
    chain_again precedence level (tree.CompoundAssign op r e) here rest le three most h low s =
        absurd (omega (arith, h.1))
    chain_again precedence level e here rest le three most h low s =
        rw (operand_again level (suc level) e here rest tt h low s) refl

    -- ---- precedences 1 and 2

    chain_stops : (precedence : ℕ) (e : Expr Path) (rest : List Token)
        → operator_at precedence rest ≡ None
        → chain p inner height_left precedence (suc height_left) e rest ≡ Some (e, rest)
    unfolding chain
    chain_stops precedence e rest h = rw h refl

    assign_stops : (precedence : ℕ) (e : Expr Path) (rest : List Token) → Stops precedence rest
        → assign_at p inner precedence e rest ≡ Some (e, rest)
    unfolding assign_at
    assign_stops precedence e rest s =
        elim (nat_le_cases precedence 1) [
          | inl le ↦ rw (stops_assignment precedence rest (less_again precedence 1 le) s)
              (either_way (assigned p precedence e) (Some (e, rest)))
          | inr gt ↦ rw gt refl
        ]

    layer_is : (precedence : ℕ) (here : List Token) → layer p inner height_left precedence here
        ≡ (from_operand precedence here >>= λ left. choice_at p inner height_left
        precedence left.0 left.1
        >>= λ whole. assign_at p inner precedence whole.0 whole.1)
    unfolding layer
    layer_is precedence here = sym (bind_assoc (operand_at p inner here) _ _)

    -- where nothing of precedence 1 or 2 follows
    layer_stops : (precedence : ℕ) (e : Expr Path) (here rest : List Token) → Stops precedence rest
        → from_operand precedence here ≡ chain p inner height_left precedence
        (suc height_left) e rest
        → layer p inner height_left precedence here ≡ Some (e, rest)
    unfolding choice_at
    layer_stops precedence e here rest s h =
        layer_is precedence here ∙ rw (
          h,
          chain_stops precedence e rest (stops_operator precedence rest s),
          stops_question precedence rest s,
        ) (assign_stops precedence e rest s)

    choice_skips : (precedence : ℕ) (e : Expr Path) (here : List Token)
        → at sign.Question here ≡ false
        → choice_at p inner height_left precedence e here ≡ Some (e, here)
    unfolding choice_at
    choice_skips precedence e here n =
        rw n (elim (nat_le_cases precedence 2) [ inl le ↦ rw le refl | inr gt ↦ rw gt refl ])

    assign_takes : (precedence : ℕ) (op : Assignment) (r : Path) (e : Expr Path)
        (behind rest : List Token)
        → IsMethod p → precedence ≤ 1 → inner 1 behind ≡ Some (e, rest)
        → assign_at p inner precedence (tree.Reference r) (Sign (assignment_sign op) ∷ behind)
        ≡ Some (assignment_tree op r e, rest)
    unfolding assign_at
    assign_takes precedence op r e behind rest m le read =
        rw (le_again precedence 1 le, method_again p m, assignment_again op behind, read) refl

    assignment_read : (precedence : ℕ) (op : Assignment) (r : Path) (e : Expr Path)
        (here rest : List Token)
        → AssignmentHere p precedence op r e here rest → height e ≤ height_left
        → Stops precedence rest
        → layer p inner height_left precedence here ≡ Some (assignment_tree op r e, rest)
    assignment_read precedence op r e here rest h low s =
        let left = operand_again precedence 14 (tree.Reference r) here
        (Sign (assignment_sign op) ∷ h.2) tt
        h.3 (omega arith) (assignment_stops op h.2) in
        let value = complete 1 e h.2 rest (omega arith) h.4 low
        (stops_mono precedence 1 rest h.1 s) in
        layer_is precedence here
        ∙ rw (
          left,
          chain_stops precedence (tree.Reference r) (Sign (assignment_sign op) ∷ h.2)
              (assignment_no_operator precedence op h.2),
          choice_skips precedence (tree.Reference r)
              (Sign (assignment_sign op) ∷ h.2) (assignment_no_question op h.2),
        )
        (assign_takes precedence op r e h.2 rest h.0 h.1 value)

    layer_again : Complete p (suc height_left) (layer p inner height_left)
    unfolding choice_at assign_at
    layer_again precedence (tree.Binary op a b) here rest le h low s =
        layer_stops precedence _ here rest s (chain_again precedence (precedence_of op)
        (tree.Binary op a b) here rest
        (omega (arith, h.0)) (precedence_from (Plain op)) (omega (arith, precedence_to (Plain op)))
        (omega arith, h.1, h.2, h.3) low
        (stops_mono precedence (suc (precedence_of op)) rest (omega (arith, h.0)) s))
    layer_again precedence (tree.Compare op a b) here rest le h low s =
        layer_stops precedence _ here rest s (chain_again precedence (comparison_precedence op)
        (tree.Compare op a b)
        here
        rest (omega (arith, h.0)) (precedence_from (Comparing op))
        (omega (arith, precedence_to (Comparing op)))
        (omega arith, h.1, h.2, h.3) low
        (stops_mono precedence (suc (comparison_precedence op)) rest (omega (arith, h.0)) s))
    layer_again precedence (tree.LogicalAnd a b) here rest le h low s =
        layer_stops precedence _ here rest s (chain_again precedence 4
        (tree.LogicalAnd a b) here rest
        (omega (arith, h.0)) (precedence_from Both) (omega (arith, precedence_to Both)) (
          omega arith,
          h.1,
          h.2,
          h.3,
        ) low (stops_mono precedence (suc 4) rest (omega (arith, h.0)) s))
    layer_again precedence (tree.LogicalOr a b) here rest le h low s =
        layer_stops precedence _ here rest s
        (chain_again precedence 3 (tree.LogicalOr a b) here rest (omega (arith, h.0))
        (precedence_from Either)
        (omega (arith, precedence_to Either)) (omega arith, h.1, h.2, h.3) low
        (stops_mono precedence (suc 3) rest (omega (arith, h.0)) s))
    layer_again precedence (tree.Conditional c a b) here rest le h low s =
        let condition = chain_again precedence 3 c here (Sign sign.Question ∷ h.1)
        (omega (arith, h.0))
        (omega arith) (omega arith) h.3 (omega arith) (omega arith) in
        let first = complete (loosest p) a h.1 (Sign sign.Colon ∷ h.2) (omega (arith, loosest_le p))
        h.4 (omega arith) tt in
        let second = complete 2 b h.2 rest (omega arith) h.5 (omega arith)
        (stops_mono precedence 2 rest h.0 s) in
        let loose = le_again precedence 2 h.0 in
        let lowers = le_again (height c) height_left (omega arith) in
        layer_is precedence here ∙ rw (
          condition,
          chain_stops precedence c (Sign sign.Question ∷ h.1) refl,
          loose,
          lowers,
          first,
          expect_again sign.Colon h.2,
          second,
        )
        (assign_stops precedence (tree.Conditional c a b) rest s)
    layer_again precedence (tree.Assign r e) here rest le h low s =
        assignment_read precedence Simple r e here
        rest
        h (omega arith) s
    layer_again precedence (tree.CompoundAssign op r e) here rest le h low s =
        assignment_read precedence (Compound op) r e here rest h (omega arith) s
    layer_again precedence e here rest le h low s =
        layer_stops precedence e here rest s (rw
        (operand_again precedence precedence e here rest tt h low s) refl)

-- What an expression is spelled by is read as that expression, where what follows can't go on with
-- it.
pub expr_again : (p : Site) (height_left : ℕ) → Complete p height_left (expr_at p height_left)
unfolding expr_at
expr_again p zero precedence e here rest le h low s =
    absurd (let some = some_height e in omega arith)
expr_again p (suc height_left) precedence e here rest le h low s = layer_again p
    (expr_at p height_left)
    height_left (expr_again p height_left) precedence e here rest le h low s

-- One list of tokens spells one expression at most.
pub expr_unique : (p : Site) (precedence : ℕ) (e f : Expr Path) (here rest behind : List Token)
    → precedence ≤ 13
    → Stops precedence rest → Stops precedence behind
    → ExprHere p precedence e here rest → ExprHere p precedence f here behind
    → (e ≡ f) × (rest ≡ behind)
expr_unique p precedence e f here rest behind le s t h k =
    let height_left = max (height e) (height f) in
    let one = expr_again p height_left precedence e here rest le h (omega arith) s in
    let two = expr_again p height_left precedence f here behind le k (omega arith) t in
    some_pair_parts e f rest behind (sym one ∙ two)
