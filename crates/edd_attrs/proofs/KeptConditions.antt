-- Expressions and conditionals keep their tests and their height with the meaning of each name in
-- its place.
use Rattle.std.proofs.Common.{◌≡◌, refl, ap, ◌∙◌, ℕ, ◌+◌, Bool, true, false, Option, Some}
use Rattle.std.specs.Prelude.{◌&&◌}
use Rattle.edd_syntax.specs.Reference.{Path}
use Rattle.edd_syntax.specs.declared.reference.Target.{Target}
use Rattle.edd_syntax.specs.Expression.{Expr, Literal, Decimal, Reference, Indexed, Parentheses, Unary, Binary, Compare, LogicalAnd, LogicalOr, Conditional}
use Rattle.edd_syntax.specs.Conditional as cond
use Rattle.edd_syntax.specs.Conditional.{Cond, Value, If, Select, Conds, Arms, NoArms, ConsArm, Case, Default}
use Rattle.edd_syntax.specs.ResolvedTrees.{Meanings, resolved_by, resolved_expr, resolved_cond, resolved_conds, resolved_arms}
use Rattle.edd_syntax.specs.Size.{height, cond_height, conds_height, arms_height}
use Rattle.edd_syntax.specs.WellFormed.{is_path, is_plain, is_label, is_pure_expr, is_cond, are_conds, are_arms, is_single, is_one, is_at_most_one, are_single_arms}
use Rattle.edd_syntax.proofs.Made.{stays, made, made_of_two, made_of_three}
use Rattle.edd_code.proofs.BothTests.{both_of, both_true}

not_true : {A : Type 0} → false ≡ true → A
not_true h = absurd cc

module _ (at : Meanings) (reads : Target → Bool)
    (kept : (p : Path) (t : Target) → at.reference p ≡ Some t → reads t ≡ true)
    (kept_array : (p : Path) (t : Target) → at.array p ≡ Some t → reads t ≡ true) where
  abbrev pure_before : Expr Path → Bool
  pure_before e = is_pure_expr is_path is_plain e

  abbrev pure_after : Expr Target → Bool
  pure_after e = is_pure_expr reads reads e

  both_pure : (left right : Expr Path) → (pure_before left && pure_before right) ≡ true
      → (pure_before left ≡ true) × (pure_before right ≡ true)
  both_pure left right h = both_of (pure_before left) (pure_before right) h

  pub expr_pure : (e : Expr Path) (e' : Expr Target) → pure_before e ≡ true
      → resolved_expr at e ≡ Some e' → pure_after e' ≡ true
  unfolding resolved_by
  expr_pure (Literal value) e' p h = stays pure_after (Literal value) e' h ∙ p
  expr_pure Decimal e' p h = stays pure_after Decimal e' h
  expr_pure (Reference from) e' p h = made pure_after (at.reference from) Reference e' _
      (λ x q. kept from x q) h
  expr_pure (Indexed array index) e' p h =
      let parts = both_of (is_path array && is_plain array) (pure_before index) p in
      made_of_two pure_after (at.array array) (resolved_expr at index) Indexed e' _
      (λ x y q r. both_true (both_true (kept_array array x q) (kept_array array x q))
      (expr_pure index y parts.1 r)) h
  expr_pure (Parentheses inner) e' p h = made pure_after (resolved_expr at inner) Parentheses e' _
      (λ x q. expr_pure inner x p q) h
  expr_pure (Unary op operand) e' p h = made pure_after (resolved_expr at operand) (Unary op) e' _
      (λ x q. expr_pure operand x p q) h
  expr_pure (Binary op left right) e' p h =
      let parts = both_pure left right p in
      made_of_two pure_after (resolved_expr at left) (resolved_expr at right) (Binary op) e' _
      (λ x y q r. both_true (expr_pure left x parts.0 q) (expr_pure right y parts.1 r)) h
  expr_pure (Compare by left right) e' p h =
      let parts = both_pure left right p in
      made_of_two pure_after (resolved_expr at left) (resolved_expr at right) (Compare by) e' _
      (λ x y q r. both_true (expr_pure left x parts.0 q) (expr_pure right y parts.1 r)) h
  expr_pure (LogicalAnd left right) e' p h =
      let parts = both_pure left right p in
      made_of_two pure_after (resolved_expr at left) (resolved_expr at right) LogicalAnd e' _
      (λ x y q r. both_true (expr_pure left x parts.0 q) (expr_pure right y parts.1 r)) h
  expr_pure (LogicalOr left right) e' p h =
      let parts = both_pure left right p in
      made_of_two pure_after (resolved_expr at left) (resolved_expr at right) LogicalOr e' _
      (λ x y q r. both_true (expr_pure left x parts.0 q) (expr_pure right y parts.1 r)) h
  expr_pure (Conditional test first second) e' p h =
      let parts = both_of _ (pure_before second) p in
      let front = both_pure test first parts.0 in
      made_of_three pure_after (resolved_expr at test) (resolved_expr at first)
      (resolved_expr at second) Conditional e' _
      (λ x y z q r s. both_true
      (both_true (expr_pure test x front.0 q) (expr_pure first y front.1 r))
      (expr_pure second z parts.1 s)) h
  expr_pure _ e' p h = not_true p

  pub expr_height : (e : Expr Path) (e' : Expr Target) → pure_before e ≡ true
      → resolved_expr at e ≡ Some e' → height e' ≡ height e
  unfolding resolved_by
  expr_height (Literal value) e' p h = stays height (Literal value) e' h
  expr_height Decimal e' p h = stays height Decimal e' h
  expr_height (Reference from) e' p h =
      made height (at.reference from) Reference e' _ (λ x q. refl) h
  expr_height (Indexed array index) e' p h =
      let parts = both_of (is_path array && is_plain array) (pure_before index) p in
      made_of_two height (at.array array) (resolved_expr at index) Indexed e' _
      (λ x y q r. ap (λ n. 1 + n) (expr_height index y parts.1 r)) h
  expr_height (Parentheses inner) e' p h = made height (resolved_expr at inner) Parentheses e' _
      (λ x q. ap (λ n. 1 + n) (expr_height inner x p q)) h
  expr_height (Unary op operand) e' p h = made height (resolved_expr at operand) (Unary op) e' _
      (λ x q. ap (λ n. 1 + n) (expr_height operand x p q)) h
  expr_height (Binary op left right) e' p h =
      let parts = both_pure left right p in
      made_of_two height (resolved_expr at left) (resolved_expr at right) (Binary op) e' _
      (λ x y q r. rw (expr_height left x parts.0 q, expr_height right y parts.1 r) refl) h
  expr_height (Compare by left right) e' p h =
      let parts = both_pure left right p in
      made_of_two height (resolved_expr at left) (resolved_expr at right) (Compare by) e' _
      (λ x y q r. rw (expr_height left x parts.0 q, expr_height right y parts.1 r) refl) h
  expr_height (LogicalAnd left right) e' p h =
      let parts = both_pure left right p in
      made_of_two height (resolved_expr at left) (resolved_expr at right) LogicalAnd e' _
      (λ x y q r. rw (expr_height left x parts.0 q, expr_height right y parts.1 r) refl) h
  expr_height (LogicalOr left right) e' p h =
      let parts = both_pure left right p in
      made_of_two height (resolved_expr at left) (resolved_expr at right) LogicalOr e' _
      (λ x y q r. rw (expr_height left x parts.0 q, expr_height right y parts.1 r) refl) h
  expr_height (Conditional test first second) e' p h =
      let parts = both_of _ (pure_before second) p in
      let front = both_pure test first parts.0 in
      made_of_three height (resolved_expr at test) (resolved_expr at first)
      (resolved_expr at second) Conditional e' _
      (λ x y z q r s. rw (
        expr_height test x front.0 q,
        expr_height first y front.1 r,
        expr_height second z parts.1 s,
      ) refl) h
  expr_height _ e' p h = not_true p

  -- ---- conditionals, whose values keep theirs

  module _ {V W : Type 0} (of : V → Option W) (p : V → Bool) (q : W → Bool) (keeps : (v : V) (w : W)
      → p v ≡ true → of v ≡ Some w → q w ≡ true) where
    abbrev before : Cond Path V → Bool
    before c = is_cond is_path is_plain p c

    abbrev all_before : Conds Path V → Bool
    all_before c = are_conds is_path is_plain p c

    abbrev arms_before : Arms Path V → Bool
    arms_before arms = are_arms is_path is_plain p arms

    mutual
      unfolding resolved_cond resolved_conds resolved_arms

      pub cond_tested : (c : Cond Path V) (c' : Cond Target W) → before c ≡ true
          → resolved_cond at of c ≡ Some c' → is_cond reads reads q c' ≡ true
      cond_tested (Value v) c' t h = made (is_cond reads reads q) (of v) Value c' _
          (λ w r. keeps v w t r) h
      cond_tested (If condition first otherwise) c' t h =
          let parts = both_of _ (all_before otherwise) t in
          let front = both_of (pure_before condition) (all_before first) parts.0 in
          made_of_three (is_cond reads reads q) (resolved_expr at condition)
          (resolved_conds at of first) (resolved_conds at of otherwise) If c' _
          (λ x y z r s u. both_true
          (both_true (expr_pure condition x front.0 r) (conds_tested first y front.1 s))
          (conds_tested otherwise z parts.1 u)) h
      cond_tested (Select on arms) c' t h =
          let parts = both_of (pure_before on) (arms_before arms) t in
          made_of_two (is_cond reads reads q) (resolved_expr at on) (resolved_arms at of arms)
          Select c' _
          (λ x y r s. both_true (expr_pure on x parts.0 r) (arms_tested arms y parts.1 s)) h

      pub conds_tested : (c : Conds Path V) (c' : Conds Target W) → all_before c ≡ true
          → resolved_conds at of c ≡ Some c' → are_conds reads reads q c' ≡ true
      conds_tested cond.Nil c' t h = stays (are_conds reads reads q) cond.Nil c' h
      conds_tested (cond.Cons first rest) c' t h =
          let parts = both_of (before first) (all_before rest) t in
          made_of_two (are_conds reads reads q) (resolved_cond at of first)
          (resolved_conds at of rest) cond.Cons c' _
          (λ x y r s. both_true (cond_tested first x parts.0 r) (conds_tested rest y parts.1 s)) h

      pub arms_tested : (arms : Arms Path V) (arms' : Arms Target W) → arms_before arms ≡ true
          → resolved_arms at of arms ≡ Some arms' → are_arms reads reads q arms' ≡ true
      arms_tested NoArms arms' t h = stays (are_arms reads reads q) NoArms arms' h
      arms_tested (ConsArm (Case label body) rest) arms' t h =
          let parts = both_of _ (arms_before rest) t in
          let front = both_of (is_label label) (all_before body) parts.0 in
          made_of_two (are_arms reads reads q) (resolved_conds at of body)
          (resolved_arms at of rest) (λ body' rest'. ConsArm (Case label body') rest') arms' _
          (λ x y r s. both_true (both_true front.0 (conds_tested body x front.1 r))
          (arms_tested rest y parts.1 s)) h
      arms_tested (ConsArm (Default body) rest) arms' t h =
          let parts = both_of (all_before body) (arms_before rest) t in
          made_of_two (are_arms reads reads q) (resolved_conds at of body)
          (resolved_arms at of rest) (λ body' rest'. ConsArm (Default body') rest') arms' _
          (λ x y r s. both_true (conds_tested body x parts.0 r) (arms_tested rest y parts.1 s)) h

    -- their heights stay, where those of the values do
    module _ (f : V → ℕ) (g : W → ℕ) (same : (v : V) (w : W) → p v ≡ true → of v ≡ Some w
        → g w ≡ f v) where
      mutual
        unfolding resolved_cond resolved_conds resolved_arms

        pub same_height : (c : Cond Path V) (c' : Cond Target W) → before c ≡ true
            → resolved_cond at of c ≡ Some c' → cond_height g c' ≡ cond_height f c
        same_height (Value v) c' t h = made (cond_height g) (of v) Value c' _
            (λ w r. ap (λ n. 1 + n) (same v w t r)) h
        same_height (If condition first otherwise) c' t h =
            let parts = both_of _ (all_before otherwise) t in
            let front = both_of (pure_before condition) (all_before first) parts.0 in
            made_of_three (cond_height g) (resolved_expr at condition) (resolved_conds at of first)
            (resolved_conds at of otherwise) If c' _
            (λ x y z r s u. rw (
              expr_height condition x front.0 r,
              same_heights first y front.1 s,
              same_heights otherwise z parts.1 u,
            ) refl) h
        same_height (Select on arms) c' t h =
            let parts = both_of (pure_before on) (arms_before arms) t in
            made_of_two (cond_height g) (resolved_expr at on) (resolved_arms at of arms) Select c' _
            (λ x y r s. rw (expr_height on x parts.0 r, same_arm_heights arms y parts.1 s) refl) h

        pub same_heights : (c : Conds Path V) (c' : Conds Target W) → all_before c ≡ true
            → resolved_conds at of c ≡ Some c' → conds_height g c' ≡ conds_height f c
        same_heights cond.Nil c' t h = stays (conds_height g) cond.Nil c' h
        same_heights (cond.Cons first rest) c' t h =
            let parts = both_of (before first) (all_before rest) t in
            made_of_two (conds_height g) (resolved_cond at of first) (resolved_conds at of rest)
            cond.Cons c' _
            (λ x y r s. rw (same_height first x parts.0 r, same_heights rest y parts.1 s) refl) h

        same_arm_heights : (arms : Arms Path V) (arms' : Arms Target W) → arms_before arms ≡ true
            → resolved_arms at of arms ≡ Some arms' → arms_height g arms' ≡ arms_height f arms
        same_arm_heights NoArms arms' t h = stays (arms_height g) NoArms arms' h
        same_arm_heights (ConsArm (Case label body) rest) arms' t h =
            let parts = both_of _ (arms_before rest) t in
            let front = both_of (is_label label) (all_before body) parts.0 in
            made_of_two (arms_height g) (resolved_conds at of body) (resolved_arms at of rest)
            (λ body' rest'. ConsArm (Case label body') rest') arms' _
            (λ x y r s. rw (same_heights body x front.1 r, same_arm_heights rest y parts.1 s) refl)
            h
        same_arm_heights (ConsArm (Default body) rest) arms' t h =
            let parts = both_of (all_before body) (arms_before rest) t in
            made_of_two (arms_height g) (resolved_conds at of body) (resolved_arms at of rest)
            (λ body' rest'. ConsArm (Default body') rest') arms' _
            (λ x y r s. rw (same_heights body x parts.0 r, same_arm_heights rest y parts.1 s) refl)
            h

-- ---- a single value stays one

module _ (at : Meanings) (reads : Target → Bool) {V W : Type 0} (of : V → Option W)
  where
    abbrev one_before : Conds Path V → Bool
    one_before c = is_one is_path is_plain c

    abbrev single_arms_before : Arms Path V → Bool
    single_arms_before arms = are_single_arms is_path is_plain arms

    mutual
      unfolding resolved_cond resolved_conds resolved_arms

      pub stays_single : (c : Cond Path V) (c' : Cond Target W) → is_single is_path is_plain c
          ≡ true
          → resolved_cond at of c ≡ Some c' → is_single reads reads c' ≡ true
      stays_single (Value v) c' t h = made (is_single reads reads) (of v) Value c' _ (λ w r. refl) h
      stays_single (If condition first otherwise) c' t h =
          let parts = both_of (one_before first) (is_at_most_one is_path is_plain otherwise) t in
          made_of_three (is_single reads reads) (resolved_expr at condition)
          (resolved_conds at of first) (resolved_conds at of otherwise) If c' _
          (λ x y z r s u. both_true (stays_one first y parts.0 s)
          (stays_at_most_one otherwise z parts.1 u)) h
      stays_single (Select on arms) c' t h =
          made_of_two (is_single reads reads) (resolved_expr at on) (resolved_arms at of arms)
          Select
          c' _ (λ x y r s. stay_single_arms arms y t s) h

      stays_one : (c : Conds Path V) (c' : Conds Target W) → one_before c ≡ true
          → resolved_conds at of c ≡ Some c' → is_one reads reads c' ≡ true
      stays_one cond.Nil c' t h = not_true t
      stays_one (cond.Cons first cond.Nil) c' t h =
          made (is_one reads reads) (resolved_cond at of first) (λ x. cond.Cons x cond.Nil) c' _
          (λ x r. stays_single first x t r) h
      stays_one (cond.Cons first (cond.Cons second rest)) c' t h = not_true t

      stays_at_most_one : (c : Conds Path V) (c' : Conds Target W)
          → is_at_most_one is_path is_plain c
          ≡ true → resolved_conds at of c ≡ Some c' → is_at_most_one reads reads c' ≡ true
      stays_at_most_one cond.Nil c' t h = stays (is_at_most_one reads reads) cond.Nil c' h
      stays_at_most_one (cond.Cons first cond.Nil) c' t h = made (is_at_most_one reads reads)
          (resolved_cond at of first) (λ x. cond.Cons x cond.Nil) c' _
          (λ x r. stays_single first x t r) h
      stays_at_most_one (cond.Cons first (cond.Cons second rest)) c' t h = not_true t

      stay_single_arms : (arms : Arms Path V) (arms' : Arms Target W) → single_arms_before arms
          ≡ true
          → resolved_arms at of arms ≡ Some arms' → are_single_arms reads reads arms' ≡ true
      stay_single_arms NoArms arms' t h = stays (are_single_arms reads reads) NoArms arms' h
      stay_single_arms (ConsArm (Case label body) rest) arms' t h =
          let parts = both_of (one_before body) (single_arms_before rest) t in
          made_of_two (are_single_arms reads reads) (resolved_conds at of body)
          (resolved_arms at of rest) (λ body' rest'. ConsArm (Case label body') rest') arms' _
          (λ x y r s. both_true (stays_one body x parts.0 r) (stay_single_arms rest y parts.1 s)) h
      stay_single_arms (ConsArm (Default body) rest) arms' t h =
          let parts = both_of (one_before body) (single_arms_before rest) t in
          made_of_two (are_single_arms reads reads) (resolved_conds at of body)
          (resolved_arms at of rest) (λ body' rest'. ConsArm (Default body') rest') arms' _
          (λ x y r s. both_true (stays_one body x parts.0 r) (stay_single_arms rest y parts.1 s)) h
