-- Reading one element or arm after the other, as the loops of conditionals do.
use Rattle.std.proofs.Common.{◌≡◌, ℕ, ℤ, zero, suc, ◌+◌, ◌-◌, ◌<◌, Bool, true, false, List, [], ◌∷◌, ◌++◌, length, Some, None, refl, sym, ap, ◌∙◌, arith}
use Rattle.std.specs.Prelude.{if◌then◌else◌}
use Rattle.std.proofs.Math.Path.{fun_ext}
use Rattle.edd_syntax.specs.declared.symbols.Keyword.TheVariants as word
use Rattle.edd_syntax.specs.declared.symbols.Symbol.TheVariants.{CloseBrace}
use Rattle.edd_syntax.specs.declared.cond.Cond as code
use Rattle.edd_syntax.specs.declared.cond.Arm as code_arm
use Rattle.edd_syntax.specs.declared.reference.Path as path
use Rattle.edd_syntax.specs.Token.{Token}
use Rattle.edd_syntax.specs.Reference.{Path}
use Rattle.edd_syntax.specs.Conditional.{Cond, Conds, Nil, Cons, Arm, Arms, NoArms, ConsArm, Case, Default}
use Rattle.edd_grammar.specs.Reading.{◌>>=◌, Read, at, at_word}
use Rattle.edd_grammar.specs.ConditionalReading.{one_at, element_at, list_at, listed, cond_layer, ended, only, list_ends, skip_comma, elements_at, arms_at}
use Rattle.edd_expression_parser.specs.declared.cond.Form.{Form}
use Rattle.edd_expression_parser.specs.declared.cond.Form.TheVariants.{One, Many}
use Rattle.edd_expression_parser.specs.Conditionals.{cond_view, conds_view, arm_view, arms_view, cond_at, value_in, branch_in, layer, arms, arm_at}
use Rattle.edd_expression_parser.specs.Shortening.{Shortens}
use Rattle.edd_expression_parser.proofs.Shortening.{skip_no_longer, cond_shortens, arm_shortens}
use Rattle.edd_token_reader.proofs.Fronts.{bind_same, behind, with_front, regroup}

-- ---- the height

module _ {V : Type 0} (form : Form) (value : ℕ → List Token → Read V) where
  pub cond_none : (height_left : ℕ) (here : List Token) → height_left ≡ 0
      → cond_at form value height_left here ≡ None
  unfolding cond_at
  cond_none zero here e = refl
  cond_none (suc height_left) here e = absurd (omega arith)

  pub cond_some : (height_left : ℕ) (here : List Token) → 0 < height_left
      → cond_at form value height_left here ≡ layer form value (height_left - 1) here
  unfolding cond_at
  cond_some zero here e = absurd (omega arith)
  cond_some (suc height_left) here e = let same : suc height_left - 1 ≡ height_left =
      omega arith in rw same refl

pub ruleset levels = (cond_none, cond_some)

-- ---- the one function reads what the two of the grammar read

module _ {V : Type 0} (value : ℕ → List Token → Read V) where
  one_same : (height_left : ℕ) → cond_at One value height_left ≡ one_at value height_left
  unfolding cond_at one_at value_in branch_in
  one_same zero = fun_ext (λ here. refl)
  one_same (suc height_left) =
      fun_ext (λ here. ap (λ (inner : List Token → Read (Cond Path V)). cond_layer height_left
      (ended (value height_left)) (only inner) inner here) (one_same height_left))

  pub one_is : (height_left : ℕ) (here : List Token) → cond_at One value height_left here
      ≡ one_at value height_left here
  one_is height_left here = ap (λ (f : List Token → Read (Cond Path V)). f here)
      (one_same height_left)

  many_same : (height_left : ℕ) → cond_at Many value height_left ≡ element_at value height_left
  unfolding cond_at element_at value_in branch_in
  many_same zero = fun_ext (λ here. refl)
  many_same (suc height_left) =
      fun_ext (λ here. ap (λ (inner : List Token → Read (Cond Path V)). cond_layer height_left
      (value height_left) (listed inner) inner here) (many_same height_left))

  pub many_is : (height_left : ℕ) (here : List Token) → cond_at Many value height_left here
      ≡ element_at value height_left here
  many_is height_left here = ap (λ (f : List Token → Read (Cond Path V)). f here)
      (many_same height_left)

  pub list_is : (height_left : ℕ) (here : List Token) → listed (cond_at Many value height_left) here
      ≡ list_at value height_left here
  unfolding list_at
  list_is height_left here = ap (λ (f : List Token → Read (Cond Path V)). listed f here)
      (many_same height_left)

-- ---- elements

-- one bound that is large enough is as good as another
same_elements : {W : Type 0} (element : List Token → Read (Cond Path W)) → Shortens element
    → (n m : ℕ) (here : List Token) → length here < n → length here < m
    → elements_at element n here ≡ elements_at element m here
unfolding elements_at
same_elements element shortens zero m here lt le = absurd (omega arith)
same_elements element shortens (suc n) zero here lt le = absurd (omega arith)
same_elements {W} element shortens (suc n) (suc m) here lt le =
    ap (λ (t : Read (Conds Path W)). if list_ends here then Some (Nil, here) else t)
    (bind_same (element here) _ _ (λ c e.
    let s = shortens here c.0 c.1 e in
    let l = skip_no_longer c.1 in
    ap (λ (t : Read (Conds Path W)). t >>= λ more. Some (Cons c.0 more.0, more.1))
    (same_elements element shortens n m (skip_comma c.1) (omega arith) (omega arith))))

module _ {V W : Type 0} (view : V → W) where
  abbrev pub add_cond : code.Cond path.Path V → Conds Path W → Conds Path W
  add_cond c others = Cons (cond_view view c) others

  abbrev pub with_conds : List (code.Cond path.Path V) → Read (Conds Path W) → Read (Conds Path W)
  with_conds front found = with_front add_cond front found

  all_conds : (front : List (code.Cond path.Path V)) → behind add_cond front Nil
      ≡ conds_view view front
  all_conds [] = refl
  all_conds (c ∷ front) = ap (Cons (cond_view view c)) (all_conds front)

  module _ (value : ℕ → List Token → Read W) (height_left : ℕ) where
    -- the elements up to the end of the list
    abbrev pub elements_here : List Token → Read (Conds Path W)
    elements_here = listed (cond_at Many value height_left)

    pub elements_end : (front : List (code.Cond path.Path V)) (here : List Token) → list_ends here
        ≡ true → with_conds front (elements_here here) ≡ Some (conds_view view front, here)
    unfolding listed elements_at
    elements_end front here e = rw e (ap (λ (x : Conds Path W). Some (x, here)) (all_conds front))

    pub elements_fail : (front : List (code.Cond path.Path V)) (here : List Token) → list_ends here
        ≡ false → cond_at Many value height_left here ≡ None
        → with_conds front (elements_here here) ≡ None
    unfolding listed elements_at
    elements_fail front here e fails = rw (e, fails) refl

    pub elements_go_on : ((height_left : ℕ) → Shortens (value height_left))
        → (front : List (code.Cond path.Path V)) (c : code.Cond path.Path V)
        (here rest : List Token) → list_ends here ≡ false → cond_at Many value height_left here
        ≡ Some (cond_view view c, rest) → with_conds front (elements_here here)
        ≡ with_conds (front ++ c ∷ []) (elements_here (skip_comma rest))
    unfolding listed elements_at
    elements_go_on shortens front c here rest e read =
        let element = cond_at Many value height_left in
        let element_shortens = cond_shortens Many value shortens height_left in
        let lt = element_shortens here (cond_view view c) rest read in
        let le = skip_no_longer rest in
        rw (e, read) (regroup add_cond front c (elements_at element (length here)
        (skip_comma rest))) ∙ ap (with_conds (front ++ c ∷ []))
        (same_elements element element_shortens (length here) (suc (length (skip_comma rest)))
        (skip_comma rest) (omega arith) (omega arith))

-- fewer tokens are left after an element
pub element_left : {W : Type 0} (value : ℕ → List Token → Read W)
    → ((height_left : ℕ) → Shortens (value height_left))
    → (height_left : ℕ) (here : List Token) (c : Cond Path W) (rest next : List Token)
    → cond_at Many value height_left here ≡ Some (c, rest) → next ≡ skip_comma rest
    → length next < length here
element_left value shortens height_left here c rest next read e =
    omega (
      arith,
      ap length e,
      skip_no_longer rest,
      cond_shortens Many value shortens height_left here c rest read,
    )

pub ruleset elements_read = (elements_end, elements_fail, elements_go_on)

-- ---- arms

module _ {V W : Type 0} (view : V → W) where
  abbrev pub add_arm : code_arm.Arm path.Path V → Arms Path W → Arms Path W
  add_arm a others = ConsArm (arm_view view a) others

  abbrev pub with_arms : List (code_arm.Arm path.Path V) → Read (Arms Path W) → Read (Arms Path W)
  with_arms front found = with_front add_arm front found

  all_arms : (front : List (code_arm.Arm path.Path V)) → behind add_arm front NoArms
      ≡ arms_view view front
  all_arms [] = refl
  all_arms (a ∷ front) = ap (ConsArm (arm_view view a)) (all_arms front)

abbrev chosen_arm : {W : Type 0} → Bool → Bool → Read (ℤ × Conds Path W) → Read (Conds Path W)
    → Read (Arm Path W)
chosen_arm b c x y = if b then (x >>= λ v. Some (Case v.0.0 v.0.1, v.1)) else if c then
    (y >>= λ v. Some (Default v.0, v.1)) else None

abbrev chosen_arms : {W : Type 0} → Bool → Bool → Read (ℤ × Conds Path W) → Read (Conds Path W)
    → (List Token → Read (Arms Path W)) → Read (Arms Path W)
chosen_arms b c x y next =
    if b then (x >>= λ v. next v.1 >>= λ arms. Some (ConsArm (Case v.0.0 v.0.1) arms.0, arms.1))
    else if c then (y >>= λ v. next v.1 >>= λ arms. Some (ConsArm (Default v.0) arms.0, arms.1))
    else None

abbrev arm_and_more : {W : Type 0} → Read (Arm Path W) → (List Token → Read (Arms Path W))
    → Read (Arms Path W)
arm_and_more x next = x >>= λ a. next a.1 >>= λ arms. Some (ConsArm a.0 arms.0, arms.1)

step : {W : Type 0} (b c : Bool) (x : Read (ℤ × Conds Path W)) (y : Read (Conds Path W))
    (next : List Token → Read (Arms Path W))
    → chosen_arms b c x y next ≡ arm_and_more (chosen_arm b c x y) next
step true c None y next = refl
step true c (Some v) y next = refl
step false true x None next = refl
step false true x (Some v) next = refl
step false false x y next = refl

module _ {V W : Type 0} (view : V → W) (form : Form) (value : ℕ → List Token → Read W)
    (height_left : ℕ) where
  arms_next : (n : ℕ) (here : List Token) → at CloseBrace here ≡ false
      → arms form value height_left (suc n) here ≡ arm_and_more (arm_at form value height_left here)
      (arms form value height_left n)
  unfolding arms_at arm_at
  arms_next n here e = rw e (step (at_word word.Case here) (at_word word.Default here) _ _
      (arms form value height_left n))

  arms_last : (n : ℕ) (here : List Token) → at CloseBrace here ≡ true
      → arms form value height_left (suc n) here ≡ Some (NoArms, here)
  unfolding arms_at
  arms_last n here e = rw e refl

  -- the arms up to the closing brace
  abbrev pub arms_here : List Token → Read (Arms Path W)
  arms_here here = arms form value height_left (length here + 1) here

  pub arms_end : (front : List (code_arm.Arm path.Path V)) (here : List Token) → at CloseBrace here
      ≡ true → with_arms view front (arms_here here) ≡ Some (arms_view view front, here)
  arms_end front here e =
      let more : length here + 1 ≡ suc (length here) = omega arith in
      rw more (rw (arms_last (length here) here e)
      (ap (λ (x : Arms Path W). Some (x, here)) (all_arms view front)))

  pub arms_fail : (front : List (code_arm.Arm path.Path V)) (here : List Token) → at CloseBrace here
      ≡ false → arm_at form value height_left here ≡ None
      → with_arms view front (arms_here here) ≡ None
  arms_fail front here e fails =
      let more : length here + 1 ≡ suc (length here) = omega arith in
      rw more (rw (arms_next (length here) here e) (rw fails refl))

  -- what reads the same after an arm reads the same before it
  more_arms : (n m : ℕ) (here : List Token) → ((a : Arm Path W × List Token)
      → arm_at form value height_left here ≡ Some a
      → arms form value height_left n a.1 ≡ arms form value height_left m a.1)
      → arms form value height_left (suc n) here ≡ arms form value height_left (suc m) here
  more_arms n m here same = go (at CloseBrace here) refl
    where
      go : (b : Bool) → at CloseBrace here ≡ b → arms form value height_left (suc n) here
          ≡ arms form value height_left (suc m) here
      go true e = arms_last n here e ∙ sym (arms_last m here e)
      go false e =
          arms_next n here e ∙ (bind_same (arm_at form value height_left here) _ _ (λ a read.
          ap (λ (t : Read (Arms Path W)). t >>= λ more. Some (ConsArm a.0 more.0, more.1))
          (same a read)) ∙ sym (arms_next m here e))

  module _ (shortens : (height_left : ℕ) → Shortens (value height_left)) where
    -- one bound that is large enough is as good as another
    same_arms : (n m : ℕ) (here : List Token) → length here < n → length here < m
        → arms form value height_left n here ≡ arms form value height_left m here
    same_arms zero m here lt le = absurd (omega arith)
    same_arms (suc n) zero here lt le = absurd (omega arith)
    same_arms (suc n) (suc m) here lt le =
        more_arms n m here (λ a read.
        let s = arm_shortens form value shortens height_left here a.0 a.1 read in
        same_arms n m a.1 (omega arith) (omega arith))

    pub arms_go_on : (front : List (code_arm.Arm path.Path V)) (a : code_arm.Arm path.Path V)
        (here rest : List Token) → at CloseBrace here ≡ false
        → arm_at form value height_left here ≡ Some (arm_view view a, rest)
        → with_arms view front (arms_here here) ≡ with_arms view (front ++ a ∷ [])
        (arms_here rest)
    arms_go_on front a here rest e read =
        let more : length here + 1 ≡ suc (length here) = omega arith in
        let lt = arm_shortens form value shortens height_left here (arm_view view a) rest read in
        rw more (rw (arms_next (length here) here e)
        (rw read (regroup (add_arm view) front a (arms form value height_left (length here) rest))))
        ∙ ap (with_arms view (front ++ a ∷ []))
        (same_arms (length here) (length rest + 1) rest (omega arith) (omega arith))

pub ruleset arms_read = (arms_end, arms_fail, arms_go_on, arm_shortens)
