-- What is read is spelled so, and is no higher than it may be.
use Rattle.std.proofs.Common.{◌≡◌, ℕ, zero, suc, ◌≤◌, ◌&&◌, List, [], ◌∷◌, drop, length, Option, Some, None, refl, sym, ap, subst, inl, inr, arith}
use Rattle.std.specs.Prelude.{nat_le}
use Rattle.std.proofs.lemmas.Option.{some_pair_parts}
use Rattle.edd_syntax.specs.declared.operators.UnaryOperator.{UnaryOperator}
use Rattle.edd_syntax.specs.declared.operators.IncrementOperator.{IncrementOperator}
use Rattle.edd_syntax.specs.declared.operators.IncrementOperator.TheVariants.{PostIncrement, PostDecrement}
use Rattle.edd_syntax.specs.declared.symbols.Symbol.{Symbol}
use Rattle.edd_syntax.specs.declared.symbols.Symbol.TheVariants as sign
use Rattle.edd_syntax.specs.Text.{Name}
use Rattle.edd_syntax.specs.Token.{Token, Reserved, Identifier, Integer, String, Sign}
use Rattle.edd_syntax.specs.Token as token
use Rattle.edd_syntax.specs.Reference.{Path}
use Rattle.edd_syntax.specs.Expression as tree
use Rattle.edd_syntax.specs.Expression.{Expr, Argument, Arguments}
use Rattle.edd_syntax.specs.Grammar.{Site, InAttribute, InMethod, loosest, IsMethod, unary_sign, PathHere, ExprHere, ArgumentsHere, MoreArgumentsHere}
use Rattle.edd_syntax.specs.Size.{height, argument_height}
use Rattle.edd_grammar.specs.Signs.{infix_precedence, infix_tree, unary_of, before_of, after_of, same_sign}
use Rattle.edd_grammar.specs.Reading.{at, expect, path_at, is_text, text_at}
use Rattle.edd_grammar.specs.ExpressionReading.{closing, step_before, is_method, operator_at, assignment_at, increment_at, Inner, argument_at, some_arguments, arguments_at, postfix, index_behind, named_at, unary_behind, parentheses_behind, signed_at, operand_at, joined_at, chain, choice_at, assigned, as_path, assign_at, layer, expr_at}
use Rattle.edd_grammar.proofs.SameSigns.{same_sign_is}
use Rattle.edd_grammar.proofs.Steps.{option_cases, bind_some, guard_some, chosen, both_true, as_read, at_is, expect_is, le_is}
use Rattle.edd_grammar.proofs.Operators.{method_is, infix_spelled, infix_height, operator_is, precedence_from, precedence_to, unary_is, before_spelled, behind_spelled, assignment_is, assignment_spelled, assignment_height, Ends, ends_before, ends_all, ends_tight}
use Rattle.edd_grammar.proofs.Texts.{path_behind_sound, path_sound, text_sound}

-- an expression of a precedence is one of a looser precedence too
pub looser : (p : Site) (precedence precedence' : ℕ) (e : Expr Path) (here rest : List Token)
    → precedence ≤ precedence'
    → ExprHere p precedence' e here rest → ExprHere p precedence e here rest
looser p precedence precedence' (tree.Literal n) here rest le h = h
looser p precedence precedence' tree.Decimal here rest le h = h
looser p precedence precedence' (tree.Reference n) here rest le h = h
looser p precedence precedence' (tree.Indexed a e) here rest le h = h
looser p precedence precedence' (tree.Parentheses e) here rest le h = h
looser p precedence precedence' (tree.Call f args) here rest le h = h
looser p precedence precedence' (tree.Increment PostIncrement r) here rest le h =
    (h.0, omega arith, h.2)
looser p precedence precedence' (tree.Increment PostDecrement r) here rest le h =
    (h.0, omega arith, h.2)
looser p precedence precedence' (tree.Increment _ r) here rest le h =
    (h.0, omega arith, h.2, h.3, h.4)
looser p precedence precedence' (tree.Unary op e) here rest le h = (omega arith, h.1, h.2, h.3)
looser p precedence precedence' (tree.Binary op a b) here rest le h = (omega arith, h.1, h.2, h.3)
looser p precedence precedence' (tree.Compare op a b) here rest le h = (omega arith, h.1, h.2, h.3)
looser p precedence precedence' (tree.LogicalAnd a b) here rest le h = (omega arith, h.1, h.2, h.3)
looser p precedence precedence' (tree.LogicalOr a b) here rest le h = (omega arith, h.1, h.2, h.3)
looser p precedence precedence' (tree.Conditional c a b) here rest le h =
    (omega arith, h.1, h.2, h.3, h.4, h.5)
looser p precedence precedence' (tree.Assign r e) here rest le h = (h.0, omega arith, h.2, h.3, h.4)
looser p precedence precedence' (tree.CompoundAssign op r e) here rest le h =
    (h.0, omega arith, h.2, h.3, h.4)

-- the expression that is here, of at most this height
pub record Stands (p : Site) (height_left precedence : ℕ) (here : List Token) (e : Expr Path)
    (rest : List Token) : Type 0 where
  pub spelled : ExprHere p precedence e here rest
  pub low : height e ≤ height_left

-- What this reads is there.
abbrev pub Sound : Site → ℕ → Inner → Type 0
Sound p height_left inner = (precedence : ℕ) (here : List Token) (e : Expr Path) (rest : List Token)
    → precedence ≤ 13 → inner precedence here ≡ Some (e, rest)
    → Stands p height_left precedence here e rest
    × Ends precedence rest

pub loosest_le : (p : Site) → loosest p ≤ 2
loosest_le InAttribute = omega arith
loosest_le InMethod = omega arith

closing_is : (all args : Arguments Path) (end : Option (List Token)) (rest : List Token)
    → closing all end ≡ Some (args, rest) → (end ≡ Some rest) × (all ≡ args)
closing_is all args None rest e = absurd cc
closing_is all args (Some t) rest e = let parts =
    some_pair_parts all args t rest e in (ap Some parts.1, parts.0)

module _ (p : Site) (inner : Inner) (height_left : ℕ) (sound : Sound p height_left inner) where
  record ArgumentsStand (here : List Token) (args : Arguments Path) (rest : List Token) : Type 0
    where
      pub first : ArgumentsHere p args here (Sign sign.CloseParenthesis ∷ rest)
      pub more : (from : List Token) → from ≡ Sign sign.Comma ∷ here
          → MoreArgumentsHere p args from (Sign sign.CloseParenthesis ∷ rest)
      pub low : argument_height args ≤ height_left

  -- one argument: it may be the first, or after a comma
  record ArgumentStands (here : List Token) (a : Argument Path) (rest : List Token) : Type 0 where
    pub first : (others : Arguments Path) (end : List Token) → MoreArgumentsHere p others rest end
        → ArgumentsHere p (tree.Cons a others) here end
    pub more : (others : Arguments Path) (from end : List Token) → from ≡ Sign sign.Comma ∷ here
        → MoreArgumentsHere p others rest end → MoreArgumentsHere p (tree.Cons a others) from end
    pub low : (others : Arguments Path) → argument_height others ≤ height_left
        → argument_height (tree.Cons a others) ≤ height_left

  argument_sound : (here : List Token) (a : Argument Path) (rest : List Token)
      → argument_at p inner here ≡ Some (a, rest) → ArgumentStands here a rest
  unfolding argument_at
  argument_sound here a rest e =
      elim (chosen (is_text here) _ _ _ e) [
        | inl (t, x) ↦
            let w = bind_some (text_at here) _ (a, rest) x in
            let spelled = text_sound here w.0.0 w.0.1 t w.1 in
            as_read (ArgumentStands here) _ a _ rest w.2 (record {
              first = λ others end h. (w.0.1, spelled, h);
              more = λ others from end f h. (here, w.0.1, f, spelled, h);
              low = λ others l. l;
            })
        | inr (t, x) ↦
            let w = bind_some (inner (loosest p) here) _ (a, rest) x in
            let stands = sound (loosest p) here w.0.0 w.0.1 (omega (arith, loosest_le p)) w.1 in
            as_read (ArgumentStands here) _ a _ rest w.2 (record {
              first = λ others end h. (w.0.1, stands.0.spelled, h);
              more = λ others from end f h. (here, w.0.1, f, stands.0.spelled, h);
              low = λ others l. (let k = stands.0.low in omega arith);
            })
      ]

  some_arguments_sound : (n : ℕ) (here : List Token) (args : Arguments Path) (rest : List Token)
      → some_arguments p inner n here ≡ Some (args, rest) → ArgumentsStand here args rest
  unfolding some_arguments
  some_arguments_sound zero here args rest e = absurd cc
  some_arguments_sound (suc n) here args rest e =
      let a = bind_some (argument_at p inner here) _ (args, rest) e in
      let first = argument_sound here a.0.0 a.0.1 a.1 in
      let b = bind_some _ _ (args, rest) a.2 in
      as_read (ArgumentsStand here) _ args _ rest b.2 (
      elim (chosen (at sign.Comma a.0.1) _ _ _ b.1) [
        | inl (comma, y) ↦
            let s = some_arguments_sound n (drop 1 a.0.1) b.0.0 b.0.1 y in
            let m = s.more a.0.1 (at_is sign.Comma a.0.1 comma) in
            record {
              first = first.first b.0.0 _ m;
              more = λ from f. first.more b.0.0 from _ f m;
              low = first.low b.0.0 s.low;
            }
        | inr (no_comma, y) ↦
            let c = closing_is tree.Nil b.0.0 (expect sign.CloseParenthesis a.0.1) b.0.1 y in
            subst (λ o. ArgumentsStand here (tree.Cons a.0.0 o) b.0.1) c.1
            (let close = expect_is sign.CloseParenthesis a.0.1 b.0.1 c.0 in record {
              first = first.first tree.Nil _ close;
              more = λ from f. first.more tree.Nil from _
                  f close;
              low = first.low tree.Nil (omega arith);
            })
      ])

  arguments_sound : (here : List Token) (args : Arguments Path) (rest : List Token)
      → arguments_at p inner here ≡ Some (args, rest)
      → ArgumentsHere p args here (Sign sign.CloseParenthesis ∷ rest)
      × (argument_height args ≤ height_left)
  unfolding arguments_at
  arguments_sound here args rest e =
      elim (chosen (at sign.CloseParenthesis here) _ _ _ e) [
        | inl (t, x) ↦ as_read (λ a r. ArgumentsHere p a here (Sign sign.CloseParenthesis ∷ r)
            × (argument_height a ≤ height_left)) tree.Nil args (drop 1 here) rest x
            (at_is sign.CloseParenthesis here t, omega arith)
        | inr (t, x) ↦ let s = some_arguments_sound (length here) here args rest
            x in (s.first, s.low)
      ]

  abbrev Operand : List Token → Expr Path → List Token → Type 0
  Operand here e rest = Stands p (suc height_left) 13 here e rest

  step_low : (op : IncrementOperator) (r : Path) → height (tree.Increment op r) ≤ suc height_left
  step_low op r = omega arith

  -- a path with nothing after it, or with an increment
  postfix_sound : (r : Path) (from here : List Token) (e : Expr Path) (rest : List Token)
      → PathHere r from here → postfix p r here ≡ Some (e, rest) → Operand from e rest
  unfolding postfix
  postfix_sound r from (Sign s ∷ here) e rest h x =
      elim (option_cases (increment_at (Sign s ∷ here)) _ _ _ x) [
        | inl (none, y) ↦ as_read (Operand from) _ e _ rest y
            (record { spelled = h; low = omega arith })
        | inr (o, some, y) ↦
            let b = bind_some (after_of s) _ o some in
            let g = guard_some (is_method p) _ _ y in
            let stands : Operand from (tree.Increment b.0 r) here =
            record {
              spelled = behind_spelled p 13 s b.0 r from here b.1 (method_is p g.0)
                  (omega arith) h;
              low = step_low b.0 r;
            } in
            as_read (Operand from) _ e _ rest g.1
            (as_read (λ op t. Operand from (tree.Increment op r) t) b.0 o.0 here o.1 b.2 stands)
      ]
  postfix_sound r from [] e rest h x = as_read (Operand from) _ e _ rest x
      (record { spelled = h; low = omega arith })
  postfix_sound r from (Reserved n ∷ here) e rest h x = as_read (Operand from) _ e _ rest x
      (record { spelled = h; low = omega arith })
  postfix_sound r from (Identifier n ∷ here) e rest h x = as_read (Operand from) _ e _ rest x
      (record { spelled = h; low = omega arith })
  postfix_sound r from (Integer n ∷ here) e rest h x = as_read (Operand from) _ e _ rest x
      (record { spelled = h; low = omega arith })
  postfix_sound r from (token.Decimal ∷ here) e rest h x = as_read (Operand from) _ e _ rest x
      (record { spelled = h; low = omega arith })
  postfix_sound r from (String n ∷ here) e rest h x = as_read (Operand from) _ e _ rest x
      (record { spelled = h; low = omega arith })

  index_sound : (name : Name) (bracket here : List Token) (e : Expr Path) (rest : List Token)
      → bracket ≡ Sign sign.OpenBracket ∷ here
      → index_behind p inner name here ≡ Some (e, rest) → Operand (Identifier name ∷ bracket) e rest
  unfolding index_behind
  index_sound name bracket here e rest f y =
      let a = bind_some (inner (loosest p) here) _ (e, rest) y in
      let s = sound (loosest p) here a.0.0 a.0.1 (omega (arith, loosest_le p)) a.1 in
      let c = bind_some (expect sign.CloseBracket a.0.1) _ (e, rest) a.2 in
      let inside = subst (λ u. ExprHere p (loosest p) a.0.0 here u)
      (expect_is sign.CloseBracket a.0.1 c.0 c.1) s.0.spelled in
      as_read (Operand (Identifier name ∷ bracket)) _ e _ rest c.2
      (record {
        spelled = (bracket, here, (refl, refl), f, inside);
        low = omega (arith, s.0.low);
      })

  named_sound : (name : Name) (here : List Token) (e : Expr Path) (rest : List Token)
      → named_at p inner name here ≡ Some (e, rest) → Operand (Identifier name ∷ here) e rest
  unfolding named_at
  named_sound name here e rest x =
      elim (chosen (at sign.OpenParenthesis here) _ _ _ x) [
        | inl (t, y) ↦
            let g = guard_some (is_method p) _ _ y in
            let a = bind_some (arguments_at p inner (drop 1 here)) _ (e, rest) g.1 in
            let s = arguments_sound (drop 1 here) a.0.0 a.0.1 a.1 in
            as_read (Operand (Identifier name ∷ here)) _ e _ rest a.2
            (record {
              spelled = (
                method_is p g.0,
                here,
                drop 1 here,
                (refl, refl),
                at_is sign.OpenParenthesis here t,
                s.0,
              );
              low = omega (arith, s.1);
            })
        | inr (_, y) ↦ elim (chosen (at sign.OpenBracket here) _ _ _ y) [
          | inl (t, z) ↦ index_sound name here (drop 1 here) e rest
              (at_is sign.OpenBracket here t) z
          | inr (_, z) ↦ postfix_sound _ (Identifier name ∷ here) _ e rest
              (path_behind_sound name here) z
        ]
      ]

  unary_sound : (op : UnaryOperator) (from here : List Token) (e : Expr Path) (rest : List Token)
      → from ≡ Sign (unary_sign op) ∷ here → unary_behind p inner op here ≡ Some (e, rest)
      → Operand from e rest
  unfolding unary_behind
  unary_sound op from here e rest f x =
      let a = bind_some (inner 13 here) _ (e, rest) x in
      let s = sound 13 here a.0.0 a.0.1 (omega arith) a.1 in
      as_read (Operand from) _ e _ rest a.2
      (record { spelled = (omega arith, here, f, s.0.spelled); low = omega (arith, s.0.low) })

  step_sound : (s : Symbol) (op : IncrementOperator) (here : List Token) (e : Expr Path)
      (rest : List Token) → before_of s ≡ Some op → step_before p op here ≡ Some (e, rest)
      → Operand (Sign s ∷ here) e rest
  unfolding step_before
  step_sound s op here e rest f x =
      let g = guard_some (is_method p) _ _ x in
      let r = bind_some (path_at here) _ (e, rest) g.1 in
      as_read (Operand (Sign s ∷ here)) _ e _ rest r.2
      (record {
        spelled = before_spelled p 13 s op r.0.0 here r.0.1 f (method_is p g.0)
            (omega arith) (path_sound here r.0.0 r.0.1 r.1);
        low = step_low op r.0.0;
      })

  parentheses_sound : (here : List Token) (e : Expr Path) (rest : List Token)
      → parentheses_behind p inner here ≡ Some (e, rest)
      → Operand (Sign sign.OpenParenthesis ∷ here) e rest
  unfolding parentheses_behind
  parentheses_sound here e rest y =
      let a = bind_some (inner (loosest p) here) _ (e, rest) y in
      let s = sound (loosest p) here a.0.0 a.0.1 (omega (arith, loosest_le p)) a.1 in
      let c = bind_some (expect sign.CloseParenthesis a.0.1) _ (e, rest) a.2 in
      let inside = subst (λ u. ExprHere p (loosest p) a.0.0 here u)
      (expect_is sign.CloseParenthesis a.0.1 c.0 c.1) s.0.spelled in
      as_read (Operand (Sign sign.OpenParenthesis ∷ here)) _ e _ rest c.2
      (record { spelled = (here, refl, inside); low = omega (arith, s.0.low) })

  signed_sound : (s : Symbol) (here : List Token) (e : Expr Path) (rest : List Token)
      → signed_at p inner s here ≡ Some (e, rest) → Operand (Sign s ∷ here) e rest
  unfolding signed_at
  signed_sound s here e rest x =
      elim (chosen (same_sign s sign.OpenParenthesis) _ _ _ x) [
        | inl (t, y) ↦ subst (λ k. Operand (Sign k ∷ here) e rest)
            (sym (same_sign_is s sign.OpenParenthesis t)) (parentheses_sound here e rest y)
        | inr (_, y) ↦ elim (option_cases (unary_of s) _ _ _ y) [
          | inl (_, z) ↦ (let o = bind_some (before_of s) _ (e, rest) z in step_sound s o.0 here e
              rest o.1 o.2)
          | inr (op, some, z) ↦ unary_sound op (Sign s ∷ here) here e rest
              (ap (λ k. Sign k ∷ here) (unary_is s op some)) z
        ]
      ]

  operand_sound : (here : List Token) (e : Expr Path) (rest : List Token) → operand_at p inner here
      ≡ Some (e, rest) → Operand here e rest
  unfolding operand_at
  operand_sound [] e rest x = absurd cc
  operand_sound (Identifier n ∷ here) e rest x = named_sound n here e rest x
  operand_sound (Integer n ∷ here) e rest x = as_read (Operand (Integer n ∷ here)) _ e _ rest x
      (record { spelled = refl; low = omega arith })
  operand_sound (token.Decimal ∷ here) e rest x = as_read (Operand (token.Decimal ∷ here)) _ e _
      rest x (record { spelled = refl; low = omega arith })
  operand_sound (String s ∷ here) e rest x = absurd cc
  operand_sound (Reserved s ∷ here) e rest x = absurd cc
  operand_sound (Sign s ∷ here) e rest x = signed_sound s here e rest x

  -- an expression of a layer, with nothing after it that it should have taken
  abbrev Whole : ℕ → List Token → Expr Path → List Token → Type 0
  Whole precedence from e rest = Stands p (suc height_left) precedence from e rest
      × Ends precedence rest

  -- the same after a chain of operators, where nothing of precedence 1 or 2 was read yet
  record Chained (precedence : ℕ) (from : List Token) (e : Expr Path)
      (rest : List Token) : Type 0 where
    pub level : ℕ
    pub tighter : precedence ≤ level
    pub operator : 3 ≤ level
    pub stands : Stands p (suc height_left) level from e rest
    pub ends : Ends precedence rest

  chain_sound : (precedence level n : ℕ) (from : List Token) (left : Expr Path) (here : List Token)
      (e : Expr Path) (rest : List Token)
      → precedence ≤ level → 3 ≤ level → Stands p (suc height_left) level from left here
      → Ends (suc level) here → chain p inner height_left precedence n left here ≡ Some (e, rest)
      → Chained precedence from e rest
  unfolding chain joined_at
  chain_sound precedence level zero from left here e rest le three s ends x =
      elim (option_cases (operator_at precedence here) _ _ _ x) [
        | inl (none, y) ↦ as_read (Chained precedence from) _ e _ rest y
            (record { level = level; tighter = le; operator = three; stands = s; ends = none })
        | inr (o, some, y) ↦ absurd cc
      ]
  chain_sound precedence level (suc n) from left here e rest le three s ends x =
      elim (option_cases (operator_at precedence here) _ _ _ x) [
        | inl (none, y) ↦ as_read (Chained precedence from) _ e _ rest y
            (record { level = level; tighter = le; operator = three; stands = s; ends = none })
        | inr (o, some, y) ↦
            let j = bind_some (joined_at p inner height_left o.0 left o.1) _ (e, rest) y in
            let g = guard_some (nat_le (height left) height_left) _ _ j.1 in
            let b = bind_some (inner (suc (infix_precedence o.0)) o.1) _ j.0 g.1 in
            let joins : (infix_tree o.0 left b.0.0 ≡ j.0.0) × (b.0.1 ≡ j.0.1) =
            some_pair_parts _ _ _ _ b.2 in
            let here-is = operator_is precedence here o.0 o.1 some in
            let right = sound (suc (infix_precedence o.0)) o.1 b.0.0 b.0.1
            (omega (arith, precedence_to o.0))
            b.1 in
            let before = ends_before (suc level) o.0 o.1
            (subst (λ t. Ends (suc level) t) here-is.0 ends) in
            let tighter : infix_precedence o.0 ≤ level = omega arith in
            let left-low = le_is (height left) height_left g.0 in
            let left-is = subst (λ t. ExprHere p (infix_precedence o.0) left from t) here-is.0
            (looser p (infix_precedence o.0) level left from here tighter s.spelled) in
            let stands : Stands p (suc height_left) (infix_precedence o.0) from
            (infix_tree o.0 left b.0.0)
            b.0.1 =
            record {
              spelled = infix_spelled p (infix_precedence o.0) o.0 left b.0.0 from b.0.1
                  (omega arith, o.1, left-is, right.0.spelled);
              low =
                  (let r = right.0.low in omega (arith, infix_height o.0 left b.0.0));
            } in
            chain_sound precedence (infix_precedence o.0) n from j.0.0 j.0.1 e rest here-is.1
            (precedence_from o.0)
            (subst (λ t. Stands p (suc height_left) (infix_precedence o.0) from j.0.0 t) joins.1
            (subst (λ x. Stands p (suc height_left) (infix_precedence o.0) from x b.0.1) joins.0
            stands))
            (subst (λ t. Ends (suc (infix_precedence o.0)) t) joins.1 right.1) j.2
      ]

  choice_sound : (precedence : ℕ) (from : List Token) (c : Expr Path) (here : List Token)
      (e : Expr Path)
      (rest : List Token)
      → Chained precedence from c here → choice_at p inner height_left precedence c here
      ≡ Some (e, rest)
      → Whole precedence from e rest
  unfolding choice_at
  choice_sound precedence from c here e rest s x =
      elim (chosen (nat_le precedence 2 && at sign.Question here) _ _ _ x) [
        | inl (t, y) ↦
            let both = both_true (nat_le precedence 2) (at sign.Question here) t in
            let two = le_is precedence 2 both.0 in
            let g = guard_some (nat_le (height c) height_left) _ _ y in
            let c-low = le_is (height c) height_left g.0 in
            let a = bind_some (inner (loosest p) (drop 1 here)) _ (e, rest) g.1 in
            let m = bind_some (expect sign.Colon a.0.1) _ (e, rest) a.2 in
            let b = bind_some (inner 2 m.0) _ (e, rest) m.2 in
            let first = sound (loosest p) (drop 1 here) a.0.0 a.0.1 (omega (arith, loosest_le p))
            a.1 in
            let second = sound 2 m.0 b.0.0 b.0.1 (omega arith) b.1 in
            let c-is = subst (λ u. ExprHere p 3 c from u) (at_is sign.Question here both.1)
            (looser p 3 s.level c from here s.operator s.stands.spelled) in
            let first-is = subst (λ u. ExprHere p (loosest p) a.0.0 (drop 1 here) u)
            (expect_is sign.Colon a.0.1 m.0 m.1) first.0.spelled in
            as_read (Whole precedence from) _ e _ rest b.2 (
              record {
                spelled = (two, drop 1 here, m.0, c-is, first-is, second.0.spelled);
                low = (let i = first.0.low in let j = second.0.low in omega arith);
              },
              ends_all precedence 2 b.0.1 (omega arith) second.1,
            )
        | inr (f, y) ↦ as_read (Whole precedence from) _ e _ rest y (
          record {
            spelled = looser p precedence s.level c from here s.tighter s.stands.spelled;
            low = s.stands.low;
          },
          s.ends,
        )
      ]

  as_path_is : (e : Expr Path) (r : Path) → as_path e ≡ Some r → e ≡ tree.Reference r
  as_path_is (tree.Reference s) r x = let same : s ≡ r = cc in ap tree.Reference same
  as_path_is _ r x = absurd cc

  assigned_is : (precedence : ℕ) (e : Expr Path) (r : Path) → assigned p precedence e ≡ Some r
      → (e ≡ tree.Reference r) × (precedence ≤ 1) × IsMethod p
  assigned_is precedence e r x =
      let g = guard_some (nat_le precedence 1 && is_method p) (as_path e) r x in
      let b = both_true (nat_le precedence 1) (is_method p) g.0 in
      (as_path_is e r g.1, le_is precedence 1 b.0, method_is p b.1)

  assign_sound : (precedence : ℕ) (from : List Token) (c : Expr Path) (here : List Token)
      (e : Expr Path)
      (rest : List Token)
      → Whole precedence from c here → assign_at p inner precedence c here ≡ Some (e, rest)
      → Whole precedence from e rest
  unfolding assign_at
  assign_sound precedence from c here e rest s x =
      elim (option_cases (assigned p precedence c) _ _ _ x) [
        | inl (none, y) ↦ as_read (Whole precedence from) _ e _ rest y s
        | inr (r, some, y) ↦ elim (option_cases (assignment_at here) _ _ _ y) [
          | inl (none, z) ↦ as_read (Whole precedence from) _ e _ rest z s
          | inr (o, equals, z) ↦
              let b = bind_some (inner 1 o.1) _ (e, rest) z in
              let value = sound 1 o.1 b.0.0 b.0.1 (omega arith) b.1 in
              let a = assigned_is precedence c r some in
              let left : PathHere r from here = subst (λ u. ExprHere p precedence u from here) a.0
              s.0.spelled in
              as_read (Whole precedence from) _ e _ rest b.2 (
                record {
                  spelled = assignment_spelled p precedence o.0 r b.0.0 from b.0.1 (
                    a.2,
                    a.1,
                    o.1,
                    subst (λ u. PathHere r from u)
                        (assignment_is here o.0 o.1 equals) left,
                    value.0.spelled,
                  );
                  low = (let i = value.0.low in omega (arith, assignment_height o.0 r b.0.0));
                },
                ends_all precedence 1 b.0.1 (omega arith) value.1,
              )
        ]
      ]

  layer_sound : Sound p (suc height_left) (layer p inner height_left)
  unfolding layer
  layer_sound precedence here e rest le x =
      let a = bind_some (operand_at p inner here) _ (e, rest) x in
      let b = bind_some (chain p inner height_left precedence (suc height_left) a.0.0
      a.0.1) _ (e, rest)
      a.2 in
      let c = bind_some (choice_at p inner height_left precedence b.0.0 b.0.1) _ (e, rest) b.2 in
      let first = operand_sound here a.0.0 a.0.1 a.1 in
      let left = chain_sound precedence 13 (suc height_left) here a.0.0 a.0.1 b.0.0 b.0.1
      le (omega arith)
      first (ends_tight 14 a.0.1 (omega arith)) b.1 in
      let whole = choice_sound precedence here b.0.0 b.0.1 c.0.0 c.0.1 left c.1 in
      assign_sound precedence here c.0.0 c.0.1 e rest whole c.2

-- What an expression is read as is spelled by the tokens that were taken, and is no higher than the
-- bound.
pub expr_sound : (p : Site) (height_left : ℕ) → Sound p height_left (expr_at p height_left)
unfolding expr_at
expr_sound p zero precedence here e rest le x = absurd cc
expr_sound p (suc height_left) precedence here e rest le x = layer_sound p (expr_at p height_left)
    height_left (expr_sound p height_left) precedence here e rest le x
