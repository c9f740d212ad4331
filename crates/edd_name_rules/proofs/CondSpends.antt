-- Spending the nodes of conditionals, case by case.
use Rattle.std.proofs.Common.{◌≡◌, sym, ap, ◌∙◌, ℕ, zero, suc, ℤ, ◌+◌, ◌-◌, ◌*◌, ◌<◌, ◌≤◌, List, [], ◌∷◌, length, get_or, map, arith}
use Rattle.std.specs.Prelude.{Vec}
use Rattle.std.specs.declared.alloc.Global.{Global}
use Rattle.edd_syntax.specs.declared.numbers.TokenNo.{TokenNo}
use Rattle.edd_syntax.specs.declared.cond.Arm as code_arm
use Rattle.edd_syntax.specs.declared.cond.Cond as code
use Rattle.edd_syntax.specs.declared.cond.Arm.TheVariants as a
use Rattle.edd_syntax.specs.declared.cond.Cond.TheVariants as c
use Rattle.edd_syntax.specs.declared.expr.Expr.{Expr}
use Rattle.edd_syntax.specs.Conditional.{Cond, Arm, Case, Default, conds_from, arms_from}
use Rattle.edd_syntax.specs.ItemView.{cond_of, arm_of}
use Rattle.edd_syntax.specs.Size.{nodes, cond_nodes, conds_nodes, arms_nodes, leaf}
use Rattle.edd_syntax.specs.TreeView.{expr_of}
use Rattle.edd_syntax.proofs.CondRows.{of_value, of_if, of_select, of_case, of_default}
use Rattle.edd_name_rules.proofs.Spends.{spent_then}

pub conds_nodes_split : {R V : Type 0} (of : V → ℕ) (x : Cond R V) (xs : List (Cond R V))
    → conds_nodes of (conds_from (x ∷ xs)) ≡ conds_nodes of (conds_from (x ∷ []))
    + conds_nodes of (conds_from xs)
conds_nodes_split of x xs = omega arith

pub one_cond : {R V : Type 0} (of : V → ℕ) (x : Cond R V)
    → cond_nodes of x ≡ conds_nodes of (conds_from (x ∷ []))
one_cond of x = omega arith

pub arms_nodes_split : {R V : Type 0} (of : V → ℕ) (x : Arm R V) (xs : List (Arm R V))
    → arms_nodes of (arms_from (x ∷ xs)) ≡ arms_nodes of (arms_from (x ∷ []))
    + arms_nodes of (arms_from xs)
arms_nodes_split of (Case label body) xs = omega arith
arms_nodes_split of (Default body) xs = omega arith

and_none : (n : ℕ) → 1 + n ≡ 1 + (n + 0)
and_none n = omega arith

-- ---- a conditional whose first node is paid for

module _ {R S V W : Type 0} (f : R → S) (g : V → W) (of : W → ℕ) (budget left : ℕ)
    (first : left ≡ budget - 1) where
  at_value : (x : code.Cond R V) (v : V) → x ≡ c.Value v → left - of (g v)
      ≡ budget - cond_nodes of (cond_of f g x)
  at_value x v is = spent_then budget left 1 _ first ∙ ap (λ y. budget - cond_nodes of y)
      (sym (ap (cond_of f g) is ∙ of_value f g v))

  pub spent_value : (x : code.Cond R V) (v : V) (r : ℕ) → x ≡ c.Value v
      → r ≡ left - of (g v) → r ≡ budget - cond_nodes of (cond_of f g x)
  spent_value x v r is last = last ∙ at_value x v is

  -- the nodes of the conditionals of a list
  abbrev listed : List (code.Cond R V) → ℕ
  listed xs = conds_nodes of (conds_from (map (cond_of f g) xs))

  abbrev armed : List (code_arm.Arm R V) → ℕ
  armed xs = arms_nodes of (arms_from (map (arm_of f g) xs))

  at_if : (x : code.Cond R V) (test : Expr R) (v w : Vec (code.Cond R V) Global) → x ≡ c.If test v w
      → left - (nodes (expr_of f test) + (listed v.items + listed w.items))
      ≡ budget - cond_nodes of (cond_of f g x)
  at_if x test v w is = spent_then budget left 1 _ first ∙ ap (λ y. budget - cond_nodes of y)
      (sym (ap (cond_of f g) is ∙ of_if f g test v w))

  pub spent_if : (x : code.Cond R V) (test : Expr R) (v w : Vec (code.Cond R V) Global)
      (xs ys : List (code.Cond R V)) (rest last : ℕ) (r : ℕ) → x ≡ c.If test v w
      → xs ≡ v.items → ys ≡ w.items → rest ≡ left - nodes (expr_of f test)
      → last ≡ rest - listed xs → r ≡ last - listed ys
      → r ≡ budget - cond_nodes of (cond_of f g x)
  spent_if x test v w xs ys rest last r is same same' second third fourth =
      fourth ∙ spent_then rest last _ _ third ∙ spent_then left rest _ _ second
      ∙ ap (λ zs. left - (nodes (expr_of f test) + (listed zs + listed ys))) same
      ∙ ap (λ zs. left - (nodes (expr_of f test) + (listed v.items + listed zs))) same'
      ∙ at_if x test v w is

  at_select : (x : code.Cond R V) (on : Expr R) (v : Vec (code_arm.Arm R V) Global)
      → x ≡ c.Select on v → left - (nodes (expr_of f on) + armed v.items)
      ≡ budget - cond_nodes of (cond_of f g x)
  at_select x on v is = spent_then budget left 1 _ first ∙ ap (λ y. budget - cond_nodes of y)
      (sym (ap (cond_of f g) is ∙ of_select f g on v))

  pub spent_select : (x : code.Cond R V) (on : Expr R) (v : Vec (code_arm.Arm R V) Global)
      (xs : List (code_arm.Arm R V)) (rest : ℕ) (r : ℕ) → x ≡ c.Select on v → xs ≡ v.items
      → rest ≡ left - nodes (expr_of f on) → r ≡ rest - armed xs
      → r ≡ budget - cond_nodes of (cond_of f g x)
  spent_select x on v xs rest r is same second third =
      third ∙ spent_then left rest _ _ second
      ∙ ap (λ zs. left - (nodes (expr_of f on) + armed zs)) same ∙ at_select x on v is

  pub spent_case : (x : code_arm.Arm R V) (label : ℤ) (v : Vec (code.Cond R V) Global)
      (xs : List (code.Cond R V)) (r : ℕ) → x ≡ a.Case label v → xs ≡ v.items
      → r ≡ left - listed xs
      → r ≡ budget - arms_nodes of (arms_from (arm_of f g x ∷ []))
  spent_case x label v xs r is same last =
      last ∙ ap (λ zs. left - listed zs) same ∙ spent_then budget left 1 _ first
      ∙ ap (λ n. budget - n) (and_none (listed v.items))
      ∙ ap (λ y. budget - arms_nodes of (arms_from (y ∷ [])))
      (sym (ap (arm_of f g) is ∙ of_case f g label v))

  pub spent_default : (x : code_arm.Arm R V) (token : TokenNo) (v : Vec (code.Cond R V) Global)
      (xs : List (code.Cond R V)) (r : ℕ) → x ≡ a.Default token v → xs ≡ v.items
      → r ≡ left - listed xs
      → r ≡ budget - arms_nodes of (arms_from (arm_of f g x ∷ []))
  spent_default x token v xs r is same last =
      last ∙ ap (λ zs. left - listed zs) same ∙ spent_then budget left 1 _ first
      ∙ ap (λ n. budget - n) (and_none (listed v.items))
      ∙ ap (λ y. budget - arms_nodes of (arms_from (y ∷ [])))
      (sym (ap (arm_of f g) is ∙ of_default f g token v))

-- ---- the parts of a conditional have fewer nodes than it

module _ {R S V W : Type 0} (f : R → S) (g : V → W) where
  -- how far a walk over a conditional, over conditionals and over arms may still go down; a list
  -- counts for a little more, since it may have one element
  abbrev pub cond_depth : code.Cond R V → ℕ
  cond_depth x = 2 * cond_nodes leaf (cond_of f g x)

  abbrev pub conds_depth : List (code.Cond R V) → ℕ
  conds_depth xs = 2 * conds_nodes leaf (conds_from (map (cond_of f g) xs)) + 1

  abbrev pub arm_depth : code_arm.Arm R V → ℕ
  arm_depth x = 2 * arms_nodes leaf (arms_from (arm_of f g x ∷ []))

  abbrev pub arms_depth : List (code_arm.Arm R V) → ℕ
  arms_depth xs = 2 * arms_nodes leaf (arms_from (map (arm_of f g) xs)) + 1

  if_depth : (x : code.Cond R V) (test : Expr R) (v w : Vec (code.Cond R V) Global)
      → x ≡ c.If test v w → cond_nodes leaf (cond_of f g x) ≡ 1
      + (nodes (expr_of f test) + (conds_nodes leaf (conds_from (map (cond_of f g) v.items))
      + conds_nodes leaf (conds_from (map (cond_of f g) w.items))))
  if_depth x test v w is = ap (cond_nodes leaf) (ap (cond_of f g) is ∙ of_if f g test v w)

  pub first_falls : (t : ℕ) (x : code.Cond R V) (test : Expr R) (v w : Vec (code.Cond R V) Global)
      (xs : List (code.Cond R V)) → x ≡ c.If test v w → xs ≡ v.items → t ≡ cond_depth x
      → conds_depth xs < t
  first_falls t x test v w xs is same m =
      let e = if_depth x test v w is in
      let s = ap conds_depth same in
      omega (arith, e, s, m)

  pub otherwise_falls : (t : ℕ) (x : code.Cond R V) (test : Expr R)
      (v w : Vec (code.Cond R V) Global) (xs : List (code.Cond R V)) → x ≡ c.If test v w
      → xs ≡ w.items → t ≡ cond_depth x → conds_depth xs < t
  otherwise_falls t x test v w xs is same m =
      let e = if_depth x test v w is in
      let s = ap conds_depth same in
      omega (arith, e, s, m)

  pub arms_fall : (t : ℕ) (x : code.Cond R V) (on : Expr R) (v : Vec (code_arm.Arm R V) Global)
      (xs : List (code_arm.Arm R V)) → x ≡ c.Select on v → xs ≡ v.items → t ≡ cond_depth x
      → arms_depth xs < t
  arms_fall t x on v xs is same m =
      let e = ap (cond_nodes leaf) (ap (cond_of f g) is ∙ of_select f g on v) in
      let s = ap arms_depth same in
      omega (arith, e, s, m)

  pub case_falls : (t : ℕ) (x : code_arm.Arm R V) (label : ℤ) (v : Vec (code.Cond R V) Global)
      (xs : List (code.Cond R V)) → x ≡ a.Case label v → xs ≡ v.items → t ≡ arm_depth x
      → conds_depth xs < t
  case_falls t x label v xs is same m =
      let e = ap (λ y. arms_nodes leaf (arms_from (y ∷ [])))
      (ap (arm_of f g) is ∙ of_case f g label v) in
      let s = ap conds_depth same in
      omega (arith, e, s, m)

  pub default_falls : (t : ℕ) (x : code_arm.Arm R V) (token : TokenNo) (v : Vec (code.Cond R V) Global)
      (xs : List (code.Cond R V)) → x ≡ a.Default token v → xs ≡ v.items → t ≡ arm_depth x
      → conds_depth xs < t
  default_falls t x token v xs is same m =
      let e = ap (λ y. arms_nodes leaf (arms_from (y ∷ [])))
      (ap (arm_of f g) is ∙ of_default f g token v) in
      let s = ap conds_depth same in
      omega (arith, e, s, m)

  pub element_falls : (t i : ℕ) (xs : List (code.Cond R V)) (x : code.Cond R V) → i < length xs
      → x ≡ get_or xs i x → t ≡ conds_depth xs → cond_depth x < t
  element_falls t i xs x h is m = let e = within i xs x h is in omega (arith, e, m)
    where
      within : (i : ℕ) (xs : List (code.Cond R V)) (x : code.Cond R V) → i < length xs
          → x ≡ get_or xs i x → cond_nodes leaf (cond_of f g x)
          ≤ conds_nodes leaf (conds_from (map (cond_of f g) xs))
      within i [] x h is = absurd (omega arith)
      within zero (y ∷ ys) x h is = let e = ap (λ z. cond_nodes leaf (cond_of f g z)) is in omega
          (arith, e)
      within (suc i) (y ∷ ys) x h is = let e = within i ys x (omega arith) is in omega (arith, e)

  pub arm_falls : (t i : ℕ) (xs : List (code_arm.Arm R V)) (x : code_arm.Arm R V) → i < length xs
      → x ≡ get_or xs i x → t ≡ arms_depth xs → arm_depth x < t
  arm_falls t i xs x h is m = let e = within i xs x h is in omega (arith, e, m)
    where
      within : (i : ℕ) (xs : List (code_arm.Arm R V)) (x : code_arm.Arm R V) → i < length xs
          → x ≡ get_or xs i x → arms_nodes leaf (arms_from (arm_of f g x ∷ []))
          ≤ arms_nodes leaf (arms_from (map (arm_of f g) xs))
      within i [] x h is = absurd (omega arith)
      within zero (y ∷ ys) x h is = let e =
          ap (λ z. arms_nodes leaf (arms_from (arm_of f g z ∷ []))) is in let s =
          arms_nodes_split leaf (arm_of f g y) (map (arm_of f g) ys) in omega (arith, e, s)
      within (suc i) (y ∷ ys) x h is = let e = within i ys x (omega arith) is in let s =
          arms_nodes_split leaf (arm_of f g y) (map (arm_of f g) ys) in omega (arith, e, s)
