-- Reading one step after the other, as the loops of expressions do.
use Rattle.std.proofs.Common.{◌≡◌, ℕ, zero, suc, ◌+◌, ◌-◌, ◌≤◌, ◌<◌, true, false, List, [], ◌∷◌, ◌++◌, drop, length, Option, Some, None, refl, sym, ap, ◌∙◌, inl, inr, arith, length-drop}
use Rattle.std.specs.Prelude.{if◌then◌else◌}
use Rattle.edd_syntax.specs.declared.symbols.Symbol.TheVariants.{Comma, CloseParenthesis}
use Rattle.edd_syntax.specs.declared.expr.Argument as code
use Rattle.edd_syntax.specs.declared.reference.Path as path
use Rattle.edd_syntax.specs.Token.{Token}
use Rattle.edd_syntax.specs.Reference.{Path}
use Rattle.edd_syntax.specs.Expression.{Expr, Argument, Text, Value, Arguments, Nil, Cons}
use Rattle.edd_syntax.specs.Grammar.{Site, loosest}
use Rattle.edd_grammar.specs.Signs.{Infix}
use Rattle.edd_grammar.specs.Reading.{◌>>=◌, on_option, Read, at, expect, is_text, text_at}
use Rattle.edd_grammar.specs.ExpressionReading.{Inner, operator_at, argument_at, closing, some_arguments, joined_at, chain, layer, expr_at}
use Rattle.edd_grammar.proofs.Steps.{bind_some, chosen, as_read}
use Rattle.edd_grammar.proofs.Texts.{text_sound}
use Rattle.edd_grammar.proofs.Shorter.{expr_shorter, text_shorter}
use Rattle.edd_grammar.proofs.SoundExpressions.{expr_sound, loosest_le}
use Rattle.edd_token_reader.proofs.Fronts.{bind_same}
use Rattle.edd_expression_parser.specs.Expressions.{listed, pure_argument}

-- ---- the height

pub expr_none : (p : Site) (height_left precedence : ℕ) (here : List Token) → height_left ≡ 0
    → expr_at p height_left precedence here ≡ None
unfolding expr_at
expr_none p zero precedence here e = refl
expr_none p (suc height_left) precedence here e = absurd (omega arith)

pub expr_layer : (p : Site) (height_left precedence : ℕ) (here : List Token) → 0 < height_left
    → expr_at p height_left precedence here ≡ layer p (expr_at p (height_left - 1))
    (height_left - 1) precedence
    here
unfolding expr_at
expr_layer p zero precedence here e = absurd (omega arith)
expr_layer p (suc height_left) precedence here e = let same : suc height_left - 1 ≡ height_left =
    omega arith in rw same refl

-- ---- a chain of operators

module _ (p : Site) (inner : Inner) (height_left precedence : ℕ) where
  pub chain_ends : (n : ℕ) (left : Expr Path) (here : List Token)
      → operator_at precedence here ≡ None
      → chain p inner height_left precedence n left here ≡ Some (left, here)
  unfolding chain
  chain_ends zero left here e = rw e refl
  chain_ends (suc n) left here e = rw e refl

  pub chain_spent : (n : ℕ) (left : Expr Path) (here : List Token) → n ≡ 0
      → chain p inner height_left precedence n left here ≡ on_option (operator_at precedence here)
      (Some (left, here)) (λ o. None)
  unfolding chain
  chain_spent zero left here z = refl
  chain_spent (suc n) left here z = absurd (omega arith)

  pub chain_fails : (n i : ℕ) (left : Expr Path) (here behind : List Token) (op : Infix) → i < n
      → operator_at precedence here ≡ Some (op, behind)
      → joined_at p inner height_left op left behind
      ≡ None → chain p inner height_left precedence (n - i) left here ≡ None
  unfolding chain
  chain_fails n i left here behind op lt e fails = let more : n - i ≡ suc (n - (i + 1)) =
      omega arith in rw (more, e, fails) refl

  pub chain_goes_on : (n i : ℕ) (left whole : Expr Path) (here behind rest : List Token)
      (op : Infix) → i < n → operator_at precedence here ≡ Some (op, behind)
      → joined_at p inner height_left op left behind ≡ Some (whole, rest)
      → chain p inner height_left precedence (n - i) left here
      ≡ chain p inner height_left precedence
      (n - (i + 1)) whole rest
  unfolding chain
  chain_goes_on n i left whole here behind rest op lt e read = let more : n - i
      ≡ suc (n - (i + 1)) = omega arith in rw (more, e, read) refl

-- ---- arguments

-- arguments after the ones that are read already
abbrev pub behind : List (code.Argument path.Path) → Arguments Path → Arguments Path
behind [] others = others
behind (a ∷ before) others = Cons (pure_argument a) (behind before others)

abbrev pub with_front : List (code.Argument path.Path) → Read (Arguments Path)
    → Read (Arguments Path)
with_front front found = found >>= λ others. Some (behind front others.0, others.1)

pub behind_none : (front : List (code.Argument path.Path)) → behind front Nil ≡ listed front
behind_none [] = refl
behind_none (a ∷ front) = ap (Cons (pure_argument a)) (behind_none front)

pub behind_more : (front : List (code.Argument path.Path)) (a : code.Argument path.Path)
    (others : Arguments Path) → behind front (Cons (pure_argument a) others)
    ≡ behind (front ++ a ∷ []) others
behind_more [] a others = refl
behind_more (b ∷ front) a others = ap (Cons (pure_argument b)) (behind_more front a others)

regroup : (front : List (code.Argument path.Path)) (a : code.Argument path.Path)
    (found : Read (Arguments Path))
    → with_front front (found >>= λ o. Some (Cons (pure_argument a) o.0, o.1))
    ≡ with_front (front ++ a ∷ []) found
regroup front a None = refl
regroup front a (Some o) = ap (λ (x : Arguments Path). Some (x, o.1)) (behind_more front a o.0)

module _ (p : Site) (height_left : ℕ) where
  pub argument_shortens : (here : List Token) (a : Argument Path) (rest : List Token)
      → argument_at p (expr_at p height_left) here ≡ Some (a, rest) → length rest < length here
  unfolding argument_at
  argument_shortens here a rest e =
      elim (chosen (is_text here) _ _ _ e) [
        | inl (t, x) ↦ let w = bind_some (text_at here) _ (a, rest) x in
            as_read (λ _ r. length r < length here) (Text w.0.0) a w.0.1 rest w.2
            (text_shorter w.0.0 here w.0.1 (text_sound here w.0.0 w.0.1 t w.1))
        | inr (t, x) ↦ let v = bind_some (expr_at p height_left (loosest p) here) _ (a, rest) x in
            let le = loosest_le p in
            let s = expr_sound p height_left (loosest p) here v.0.0 v.0.1 (omega arith) v.1 in
            as_read (λ _ r. length r < length here) (Value v.0.0) a v.0.1 rest v.2
            (expr_shorter p (loosest p) v.0.0 here v.0.1 s.0.spelled)
      ]

  -- one argument at least, up to the closing parenthesis
  abbrev pub arguments_here : List Token → Read (Arguments Path)
  arguments_here here = some_arguments p (expr_at p height_left) (length here) here

  -- nothing is read where nothing is left
  none_left : (n : ℕ) (here : List Token) → length here ≤ 0
      → some_arguments p (expr_at p height_left) n here ≡ None
  unfolding some_arguments
  none_left zero here le = refl
  none_left (suc n) here le = go (argument_at p (expr_at p height_left) here) refl
    where
      go : (found : Read (Argument Path)) → argument_at p (expr_at p height_left) here ≡ found
          → some_arguments p (expr_at p height_left) (suc n) here ≡ None
      go None e = rw e refl
      go (Some a) e = absurd (let s = argument_shortens here a.0 a.1 e in omega arith)

  -- one bound that is large enough is as good as another
  same_arguments : (n m : ℕ) (here : List Token) → length here ≤ n → length here ≤ m
      → some_arguments p (expr_at p height_left) n here ≡ some_arguments p (expr_at p height_left) m
      here
  unfolding some_arguments
  same_arguments zero m here lt le = sym (none_left m here lt)
  same_arguments (suc n) zero here lt le = none_left (suc n) here le
  same_arguments (suc n) (suc m) here lt le =
      bind_same (argument_at p (expr_at p height_left) here) _ _ (λ a e.
      let s = argument_shortens here a.0 a.1 e in
      ap (λ (t : Read (Arguments Path)).
      (if at Comma a.1 then t else closing Nil (expect CloseParenthesis a.1))
      >>= λ o. Some (Cons a.0 o.0, o.1))
      (same_arguments n m (drop 1 a.1) (omega (arith, length-drop 1 a.1))
      (omega (arith, length-drop 1 a.1))))

  pub arguments_fail : (front : List (code.Argument path.Path)) (here : List Token)
      → argument_at p (expr_at p height_left) here ≡ None → with_front front (arguments_here here)
      ≡ None
  unfolding some_arguments
  arguments_fail front here e = go (length here)
    where
      go : (n : ℕ) → with_front front (some_arguments p (expr_at p height_left) n here) ≡ None
      go zero = refl
      go (suc n) = rw e refl

  one_more : (front : List (code.Argument path.Path)) (a : code.Argument path.Path) (n : ℕ)
      (here rest : List Token) → argument_at p (expr_at p height_left) here
      ≡ Some (pure_argument a, rest) → at Comma rest ≡ true
      → with_front front (some_arguments p (expr_at p height_left) (suc n) here)
      ≡ with_front (front ++ a ∷ []) (some_arguments p (expr_at p height_left) n (drop 1 rest))
  unfolding some_arguments
  one_more front a n here rest e comma =
      rw (e, comma) (regroup front a (some_arguments p (expr_at p height_left) n (drop 1 rest)))

  pub arguments_go_on : (front : List (code.Argument path.Path)) (a : code.Argument path.Path)
      (here rest : List Token) → argument_at p (expr_at p height_left) here
      ≡ Some (pure_argument a, rest) → at Comma rest ≡ true
      → with_front front (arguments_here here) ≡ with_front (front ++ a ∷ [])
      (arguments_here (drop 1 rest))
  arguments_go_on front a here rest e comma =
      let s = argument_shortens here (pure_argument a) rest e in
      let more : length here ≡ suc (length here - 1) = omega arith in
      let same = same_arguments (length here - 1) (length (drop 1 rest)) (drop 1 rest)
      (omega (arith, length-drop 1 rest)) (omega arith) in
      ap (λ (n : ℕ). with_front front (some_arguments p (expr_at p height_left) n here)) more
      ∙ (one_more front a (length here - 1) here rest e comma ∙ ap (with_front (front ++ a ∷ []))
      same)

  pub arguments_close : (front : List (code.Argument path.Path)) (a : code.Argument path.Path)
      (here rest : List Token) → argument_at p (expr_at p height_left) here
      ≡ Some (pure_argument a, rest) → at Comma rest ≡ false
      → with_front front (arguments_here here) ≡ closing (listed (front ++ a ∷ []))
      (expect CloseParenthesis rest)
  unfolding some_arguments
  arguments_close front a here rest e last =
      let s = argument_shortens here (pure_argument a) rest e in
      let more : length here ≡ suc (length here - 1) = omega arith in
      rw (more, e, last) (closed (expect CloseParenthesis rest))
    where
      closed : (end : Option (List Token))
          → with_front front (closing Nil end >>= λ o. Some (Cons (pure_argument a) o.0, o.1))
          ≡ closing (listed (front ++ a ∷ [])) end
      closed None = refl
      closed (Some r) = ap (λ (x : Arguments Path). Some (x, r)) (behind_more front a Nil
          ∙ behind_none (front ++ a ∷ []))

pub ruleset levels = (expr_none, expr_layer)

pub ruleset chains = (chain_ends, chain_spent, chain_fails, chain_goes_on)

pub ruleset lists = (argument_shortens, arguments_fail, arguments_go_on, arguments_close)
