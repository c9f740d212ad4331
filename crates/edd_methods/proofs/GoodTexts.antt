-- In the texts of expressions that keep the rules of trees each backslash begins an escape.
use Rattle.std.proofs.Common.{◌≡◌, refl, Bool, true, List, [], ◌∷◌, ◌++◌}
use Rattle.std.specs.Prelude.{◌&&◌}
use Rattle.std.specs.List.{AllByRecursion, flat_map, list_all}
use Rattle.edd_syntax.specs.Expression as expr
use Rattle.edd_syntax.specs.Expression.{Expr, Indexed, Parentheses, Unary, Binary, Compare, LogicalAnd, LogicalOr, Conditional, Assign, CompoundAssign, Call, Arguments}
use Rattle.edd_syntax.specs.Strings.{argument_texts, expr_texts}
use Rattle.edd_syntax.specs.SubsetRules.{Placed}
use Rattle.edd_syntax.specs.Text as texts
use Rattle.edd_syntax.specs.WellFormed.{are_arguments, is_expr, is_text}
use Rattle.edd_code.proofs.BothTests.{both_of, both_true}

both_good : (xs ys : List texts.Text) → list_all is_text xs ≡ true → list_all is_text ys ≡ true
    → list_all is_text (xs ++ ys) ≡ true
both_good [] ys h k = k
both_good (x ∷ xs) ys h k = let parts = both_of (is_text x) (list_all is_text xs) h in both_true
    parts.0 (both_good xs ys parts.1 k)

module _ {R : Type 0} (good plain : R → Bool) where
  mutual
    pub texts_good : (e : Expr R) → is_expr good plain e ≡ true → list_all is_text (expr_texts e)
        ≡ true
    texts_good (Indexed array index) h = texts_good index (both_of (good array && plain array)
        (is_expr good plain index) h).1
    texts_good (Parentheses inner) h = texts_good inner h
    texts_good (Unary op operand) h = texts_good operand h
    texts_good (Binary op left right) h =
        let parts = both_of (is_expr good plain left) (is_expr good plain right) h in
        both_good (expr_texts left) (expr_texts right) (texts_good left parts.0)
        (texts_good right parts.1)
    texts_good (Compare by left right) h =
        let parts = both_of (is_expr good plain left) (is_expr good plain right) h in
        both_good (expr_texts left) (expr_texts right) (texts_good left parts.0)
        (texts_good right parts.1)
    texts_good (LogicalAnd left right) h =
        let parts = both_of (is_expr good plain left) (is_expr good plain right) h in
        both_good (expr_texts left) (expr_texts right) (texts_good left parts.0)
        (texts_good right parts.1)
    texts_good (LogicalOr left right) h =
        let parts = both_of (is_expr good plain left) (is_expr good plain right) h in
        both_good (expr_texts left) (expr_texts right) (texts_good left parts.0)
        (texts_good right parts.1)
    texts_good (Conditional test first second) h =
        let outer = both_of (is_expr good plain test && is_expr good plain first)
        (is_expr good plain second) h in
        let inner = both_of (is_expr good plain test) (is_expr good plain first) outer.0 in
        both_good (expr_texts test) _ (texts_good test inner.0)
        (both_good (expr_texts first) (expr_texts second) (texts_good first inner.1)
        (texts_good second outer.1))
    texts_good (Assign to value) h =
        texts_good value (both_of (good to) (is_expr good plain value) h).1
    texts_good (CompoundAssign op to value) h =
        texts_good value (both_of (good to) (is_expr good plain value) h).1
    texts_good (Call function arguments) h =
        arguments_good arguments (both_of (plain function) (are_arguments good plain arguments) h).1
    texts_good _ h = refl

    arguments_good : (a : Arguments R) → are_arguments good plain a ≡ true
        → list_all is_text (argument_texts a) ≡ true
    arguments_good expr.Nil h = refl
    arguments_good (expr.Cons (expr.Text text) rest) h =
        let parts = both_of (is_text text) (are_arguments good plain rest) h in both_true parts.0
        (arguments_good rest parts.1)
    arguments_good (expr.Cons (expr.Value e) rest) h =
        let parts = both_of (is_expr good plain e) (are_arguments good plain rest) h in
        both_good (expr_texts e) (argument_texts rest) (texts_good e parts.0)
        (arguments_good rest parts.1)

  -- so it is in the texts of all expressions of a list
  pub listed_good : (ps : List (Placed R))
      → AllByRecursion (λ p. is_expr good plain p.expression ≡ true) ps
      → list_all is_text (flat_map (λ p. expr_texts p.expression) ps) ≡ true
  listed_good [] h = refl
  listed_good (p ∷ ps) h = both_good (expr_texts p.expression)
      (flat_map (λ p. expr_texts p.expression) ps) (texts_good p.expression h.0)
      (listed_good ps h.1)
