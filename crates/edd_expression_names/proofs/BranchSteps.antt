-- Conditionals with the meaning of their names, case by case.
use Rattle.std.proofs.Common.{◌≡◌, refl, sym, ap, ◌∙◌, ℤ, List, [], ◌∷◌, ◌++◌, map, Option, Some}
use Rattle.std.specs.Prelude.{Vec}
use Rattle.std.specs.declared.alloc.Global as alloc
use Rattle.std.proofs.lemmas.List.{append-nil}
use Rattle.edd_breaches.specs.declared.breach.Breach.{Breach}
use Rattle.edd_name_meanings.specs.Copies.{Tells}
use Rattle.edd_name_meanings.specs.PathsIn.{paths_in_arms, paths_in_cond, paths_in_conds, paths_in_expr}
use Rattle.edd_expression_names.specs.ResolvedParts.{resolved_arm}
use Rattle.edd_expression_names.proofs.ExprSteps.{bound, regroup}
use Rattle.edd_name_meanings.proofs.UseLaws.{tells_append, retold}
use Rattle.edd_syntax.specs.declared.numbers.TokenNo.{TokenNo}
use Rattle.edd_syntax.specs.declared.cond.Cond as code
use Rattle.edd_syntax.specs.declared.cond.Cond.TheVariants as c
use Rattle.edd_syntax.specs.declared.cond.Arm as code_arm
use Rattle.edd_syntax.specs.declared.cond.Arm.TheVariants as a
use Rattle.edd_syntax.specs.declared.expr.Expr as code_expr
use Rattle.edd_syntax.specs.declared.reference.Path as code_path
use Rattle.edd_syntax.specs.declared.reference.Target.{Target}
use Rattle.edd_syntax.specs.Reference.{Path}
use Rattle.edd_syntax.specs.Item.{Description}
use Rattle.edd_syntax.specs.Conditional.{Cond, Value, If, Select, Conds, Cons, Arm, Case, Default, Arms, ConsArm, conds_from, arms_from}
use Rattle.edd_syntax.specs.ItemView.{cond_of, conds_of, arm_of, numbered_arm, numbered_cond}
use Rattle.edd_syntax.specs.NameUses.{Use, attribute_expr_uses, cond_uses, conds_uses, arms_uses}
use Rattle.edd_syntax.specs.ReferenceOrder.{cond_references, conds_references, arms_references}
use Rattle.edd_syntax.specs.ResolvedTrees.{◌>>=◌, Meanings, Reading, at_attribute, resolved_expr, resolved_cond, resolved_conds, resolved_arms}
use Rattle.edd_syntax.specs.TreeView.{path_of, expr_of, numbered_expr}
use Rattle.edd_syntax.proofs.CondRows.{of_value, of_if, of_select, of_case, of_default}

-- ---- lists

module _ {V : Type 0} (of : V → List Use) where
  pub conds_split : (x : Cond Path V) (xs : List (Cond Path V))
      → conds_uses of (conds_from (x ∷ xs)) ≡ conds_uses of (conds_from (x ∷ []))
      ++ conds_uses of (conds_from xs)
  conds_split x xs = ap (λ us. us ++ conds_uses of (conds_from xs))
      (sym (append-nil (cond_uses of x)))

  pub arms_split : (x : Arm Path V) (xs : List (Arm Path V)) → arms_uses of (arms_from (x ∷ xs))
      ≡ arms_uses of (arms_from (x ∷ [])) ++ arms_uses of (arms_from xs)
  arms_split (Case label body) xs = ap (λ us. us ++ arms_uses of (arms_from xs))
      (sym (append-nil (conds_uses of body)))
  arms_split (Default body) xs = ap (λ us. us ++ arms_uses of (arms_from xs))
      (sym (append-nil (conds_uses of body)))

  pub one_cond : (x : Cond Path V) → cond_uses of x ≡ conds_uses of (conds_from (x ∷ []))
  one_cond x = sym (append-nil (cond_uses of x))

-- the paths of the elements, in the same way
module _ {V W : Type 0} (seen : V → W) (of : W → List code_path.Path) where
  pub conds_paths_split : (x : code.Cond code_path.Path V) (xs : List (code.Cond code_path.Path V))
      → paths_in_conds seen of (x ∷ xs) ≡ paths_in_conds seen of (x ∷ [])
      ++ paths_in_conds seen of xs
  conds_paths_split x xs = ap (λ ps. ps ++ paths_in_conds seen of xs)
      (sym (append-nil (paths_in_cond seen of x)))

  references_split : (y : Arm code_path.Path W) (ys : List (Arm code_path.Path W))
      → arms_references of (arms_from (y ∷ ys)) ≡ arms_references of (arms_from (y ∷ []))
      ++ arms_references of (arms_from ys)
  references_split (Case label body) ys = ap (λ ps. ps ++ arms_references of (arms_from ys))
      (sym (append-nil (conds_references of body)))
  references_split (Default body) ys = ap (λ ps. ps ++ arms_references of (arms_from ys))
      (sym (append-nil (conds_references of body)))

  pub arms_paths_split : (x : code_arm.Arm code_path.Path V)
      (xs : List (code_arm.Arm code_path.Path V)) → paths_in_arms seen of (x ∷ xs)
      ≡ paths_in_arms seen of (x ∷ []) ++ paths_in_arms seen of xs
  arms_paths_split x xs = references_split (arm_of (λ p. p) seen x) (map (arm_of (λ p. p) seen) xs)

  pub one_path : (x : code.Cond code_path.Path V) → paths_in_cond seen of x
      ≡ paths_in_conds seen of (x ∷ [])
  one_path x = sym (append-nil (paths_in_cond seen of x))

module _ {V W : Type 0} (at : Meanings) (of : V → Option W) where
  pub conds_joined : (y : Cond Path V) (ys : List (Cond Path V)) (w : Cond Target W)
      (ws : List (Cond Target W)) → resolved_cond at of y ≡ Some w
      → resolved_conds at of (conds_from ys) ≡ Some (conds_from ws)
      → resolved_conds at of (conds_from (y ∷ ys)) ≡ Some (conds_from (w ∷ ws))
  unfolding resolved_cond
  conds_joined y ys w ws f g = bound (resolved_cond at of y) (resolved_conds at of (conds_from ys))
      (λ w r. Cons w r) w (conds_from ws) f g

  first_then : (y : Arm Path V) (rest : Arms Path V) → resolved_arms at of (ConsArm y rest)
      ≡ (resolved_arm at of y >>= (λ w. resolved_arms at of rest >>= (λ r. Some (ConsArm w r))))
  unfolding resolved_cond
  first_then (Case label body) rest = regroup (resolved_conds at of body) (λ x. Case label x)
      (λ w. resolved_arms at of rest >>= (λ r. Some (ConsArm w r)))
  first_then (Default body) rest = regroup (resolved_conds at of body) (λ x. Default x)
      (λ w. resolved_arms at of rest >>= (λ r. Some (ConsArm w r)))

  pub arms_joined : (y : Arm Path V) (ys : List (Arm Path V)) (w : Arm Target W)
      (ws : List (Arm Target W)) → resolved_arm at of y ≡ Some w
      → resolved_arms at of (arms_from ys) ≡ Some (arms_from ws)
      → resolved_arms at of (arms_from (y ∷ ys)) ≡ Some (arms_from (w ∷ ws))
  arms_joined y ys w ws f g = first_then y (arms_from ys) ∙ bound (resolved_arm at of y)
      (resolved_arms at of (arms_from ys)) (λ w r. ConsArm w r) w (arms_from ws) f g

  pub no_conds : resolved_conds at of (conds_from []) ≡ Some (conds_from [])
  unfolding resolved_cond
  no_conds = refl

  pub no_arms : resolved_arms at of (arms_from []) ≡ Some (arms_from [])
  unfolding resolved_cond
  no_arms = refl

  -- the trees

  pub if_meant : (test : _) (first otherwise : Conds Path V) (test' : _)
      (first' otherwise' : Conds Target W) → resolved_expr at test ≡ Some test'
      → resolved_conds at of first ≡ Some first' → resolved_conds at of otherwise ≡ Some otherwise'
      → resolved_cond at of (If test first otherwise) ≡ Some (If test' first' otherwise')
  unfolding resolved_cond
  if_meant test first otherwise test' first' otherwise' e f g =
      ap (λ o. o >>= (λ x. resolved_conds at of first
      >>= (λ y. resolved_conds at of otherwise >>= (λ z. Some (If x y z))))) e
      ∙ bound (resolved_conds at of first) (resolved_conds at of otherwise) (λ y z. If test' y z)
      first' otherwise' f g

  pub select_meant : (on : _) (arms : Arms Path V) (on' : _) (arms' : Arms Target W)
      → resolved_expr at on ≡ Some on' → resolved_arms at of arms ≡ Some arms'
      → resolved_cond at of (Select on arms) ≡ Some (Select on' arms')
  unfolding resolved_cond
  select_meant on arms on' arms' e f = bound (resolved_expr at on) (resolved_arms at of arms)
      (λ x y. Select x y) on' arms' e f

  pub value_meant : (v : V) (w : W) → of v ≡ Some w → resolved_cond at of (Value v) ≡ Some (Value w)
  unfolding resolved_cond
  value_meant v w e = ap (λ o. o >>= (λ x. Some (Value x))) e

  pub case_meant : (label : ℤ) (body : Conds Path V) (body' : Conds Target W)
      → resolved_conds at of body ≡ Some body' → resolved_arm at of (Case label body)
      ≡ Some (Case label body')
  case_meant label body body' e = ap (λ o. o >>= (λ x. Some (Case label x))) e

  pub default_meant : (body : Conds Path V) (body' : Conds Target W) → resolved_conds at of body
      ≡ Some body' → resolved_arm at of (Default body) ≡ Some (Default body')
  default_meant body body' e = ap (λ o. o >>= (λ x. Some (Default x))) e

-- ---- the variants of the code

module _ {V W X Y P : Type 0} (unit : Description Path) (names : Reading) (before : V → W)
    (after : X → Y) (uses : W → List Use) (meant : Reading → W → Option Y) (placed : V → P)
    (paths : P → List code_path.Path) where
  abbrev pub listed : List (code.Cond code_path.Path V) → Conds Path W
  listed xs = conds_from (map (cond_of path_of before) xs)

  abbrev pub armed : List (code_arm.Arm code_path.Path V) → Arms Path W
  armed xs = arms_from (map (arm_of path_of before) xs)

  module _ (x : code.Cond code_path.Path V) (v : V) (is : x ≡ c.Value v) where
    valued : {S U : Type 0} (f : code_path.Path → S) (g : V → U) → cond_of f g x ≡ Value (g v)
    valued f g = ap (cond_of f g) is ∙ of_value f g v

    value : cond_of path_of before x ≡ Value (before v)
    value = valued path_of before

    pub value_told : (old new : List Breach) → Tells unit (uses (before v)) (paths (placed v)) old
        new
        → Tells unit (cond_uses uses (cond_of path_of before x)) (paths_in_cond placed paths x) old
        new
    value_told old new h = retold unit _ _ _ _ old new (ap (cond_uses uses) (sym value))
        (ap (cond_references paths) (sym (valued (λ r. r) placed))) h

    pub value_means : (w : X) → meant names (before v) ≡ Some (after w)
        → resolved_cond (at_attribute names) (meant names) (cond_of path_of before x)
        ≡ Some (numbered_cond after (c.Value w))
    value_means w h = ap (resolved_cond (at_attribute names) (meant names)) value
        ∙ value_meant (at_attribute names) (meant names) (before v) (after w) h
        ∙ ap (λ y. Some y) (sym (of_value (λ r. r) after w))

  module _ (x : code.Cond code_path.Path V) (test : code_expr.Expr code_path.Path)
      (v w : Vec (code.Cond code_path.Path V) alloc.Global)
      (xs ys : List (code.Cond code_path.Path V)) (is : x ≡ c.If test v w) (same : xs ≡ v.items)
      (same' : ys ≡ w.items) where
    chosen : {S U : Type 0} (f : code_path.Path → S) (g : V → U) → cond_of f g x
        ≡ If (expr_of f test) (conds_of f g xs) (conds_of f g ys)
    chosen f g = ap (cond_of f g) is ∙ of_if f g test v w
        ∙ ap (λ zs. If (expr_of f test) (conds_of f g zs) (conds_of f g w.items)) (sym same)
        ∙ ap (λ zs. If (expr_of f test) (conds_of f g xs) (conds_of f g zs)) (sym same')

    if_is : cond_of path_of before x ≡ If (expr_of path_of test) (listed xs) (listed ys)
    if_is = chosen path_of before

    pub if_told : (old first otherwise new : List Breach)
        → Tells unit (attribute_expr_uses (expr_of path_of test)) (paths_in_expr test) old first
        → Tells unit (conds_uses uses (listed xs)) (paths_in_conds placed paths xs) first otherwise
        → Tells unit (conds_uses uses (listed ys)) (paths_in_conds placed paths ys) otherwise new
        → Tells unit (cond_uses uses (cond_of path_of before x)) (paths_in_cond placed paths x) old
        new
    if_told old first otherwise new h k m =
        retold unit _ _ _ _ old new (ap (cond_uses uses) (sym if_is))
        (ap (cond_references paths) (sym (chosen (λ r. r) placed)))
        (tells_append unit _ _ (paths_in_expr test) _ old first new h
        (tells_append unit _ _ (paths_in_conds placed paths xs) _ first otherwise new k m))

    pub if_means : (test' : code_expr.Expr Target) (v' w' : Vec (code.Cond Target X) alloc.Global)
        → resolved_expr (at_attribute names) (expr_of path_of test) ≡ Some (numbered_expr test')
        → resolved_conds (at_attribute names) (meant names) (listed xs)
        ≡ Some (conds_from (map (numbered_cond after) v'.items))
        → resolved_conds (at_attribute names) (meant names) (listed ys)
        ≡ Some (conds_from (map (numbered_cond after) w'.items))
        → resolved_cond (at_attribute names) (meant names) (cond_of path_of before x)
        ≡ Some (numbered_cond after (c.If test' v' w'))
    if_means test' v' w' h k m =
        ap (resolved_cond (at_attribute names) (meant names)) if_is
        ∙ if_meant (at_attribute names) (meant names) (expr_of path_of test) (listed xs) (listed ys)
        (numbered_expr test') _ _ h k m
        ∙ ap (λ y. Some y) (sym (of_if (λ r. r) after test' v' w'))

  module _ (x : code.Cond code_path.Path V) (on : code_expr.Expr code_path.Path)
      (v : Vec (code_arm.Arm code_path.Path V) alloc.Global)
      (xs : List (code_arm.Arm code_path.Path V)) (is : x ≡ c.Select on v) (same : xs ≡ v.items)
    where
      selected : {S U : Type 0} (f : code_path.Path → S) (g : V → U) → cond_of f g x
          ≡ Select (expr_of f on) (arms_from (map (arm_of f g) xs))
      selected f g = ap (cond_of f g) is ∙ of_select f g on v
          ∙ ap (λ zs. Select (expr_of f on) (arms_from (map (arm_of f g) zs))) (sym same)

      select_is : cond_of path_of before x ≡ Select (expr_of path_of on) (armed xs)
      select_is = selected path_of before

      pub select_told : (old mid new : List Breach)
          → Tells unit (attribute_expr_uses (expr_of path_of on)) (paths_in_expr on) old mid
          → Tells unit (arms_uses uses (armed xs)) (paths_in_arms placed paths xs) mid new
          → Tells unit (cond_uses uses (cond_of path_of before x)) (paths_in_cond placed paths x)
          old
          new
      select_told old mid new h k =
          retold unit _ _ _ _ old new (ap (cond_uses uses) (sym select_is))
          (ap (cond_references paths) (sym (selected (λ r. r) placed)))
          (tells_append unit _ _ (paths_in_expr on) _ old mid new h k)

      pub select_means : (on' : code_expr.Expr Target)
          (v' : Vec (code_arm.Arm Target X) alloc.Global)
          → resolved_expr (at_attribute names) (expr_of path_of on) ≡ Some (numbered_expr on')
          → resolved_arms (at_attribute names) (meant names) (armed xs)
          ≡ Some (arms_from (map (numbered_arm after) v'.items))
          → resolved_cond (at_attribute names) (meant names) (cond_of path_of before x)
          ≡ Some (numbered_cond after (c.Select on' v'))
      select_means on' v' h k =
          ap (resolved_cond (at_attribute names) (meant names)) select_is
          ∙ select_meant (at_attribute names) (meant names) (expr_of path_of on) (armed xs)
          (numbered_expr on') _ h k
          ∙ ap (λ y. Some y) (sym (of_select (λ r. r) after on' v'))

  -- an arm is its label and its body
  module _ (x : code_arm.Arm code_path.Path V) (xs : List (code.Cond code_path.Path V)) where
    same_uses : (y : Arm Path W) → arm_of path_of before x ≡ y → conds_uses uses (listed xs) ++ []
        ≡ arms_uses uses (arms_from (y ∷ [])) → conds_uses uses (listed xs)
        ≡ arms_uses uses (arms_from (arm_of path_of before x ∷ []))
    same_uses y e same = sym (append-nil (conds_uses uses (listed xs))) ∙ same
        ∙ ap (λ z. arms_uses uses (arms_from (z ∷ []))) (sym e)

    same_paths : (y : Arm code_path.Path P) → arm_of (λ r. r) placed x ≡ y
        → paths_in_conds placed paths xs ++ [] ≡ arms_references paths (arms_from (y ∷ []))
        → paths_in_conds placed paths xs ≡ paths_in_arms placed paths (x ∷ [])
    same_paths y e same = sym (append-nil (paths_in_conds placed paths xs)) ∙ same
        ∙ ap (λ z. arms_references paths (arms_from (z ∷ []))) (sym e)

    module _ (label : ℤ) (v : Vec (code.Cond code_path.Path V) alloc.Global)
        (is : x ≡ a.Case label v) (same : xs ≡ v.items) where
      labelled : {S U : Type 0} (f : code_path.Path → S) (g : V → U) → arm_of f g x
          ≡ Case label (conds_of f g xs)
      labelled f g = ap (arm_of f g) is ∙ of_case f g label v
          ∙ ap (λ zs. Case label (conds_of f g zs)) (sym same)

      case_is : arm_of path_of before x ≡ Case label (listed xs)
      case_is = labelled path_of before

      pub case_told : (old new : List Breach)
          → Tells unit (conds_uses uses (listed xs)) (paths_in_conds placed paths xs) old new
          → Tells unit (arms_uses uses (arms_from (arm_of path_of before x ∷ [])))
          (paths_in_arms placed paths (x ∷ [])) old new
      case_told old new h = retold unit _ _ _ _ old new
          (same_uses (Case label (listed xs)) case_is refl)
          (same_paths (Case label (conds_of (λ r. r) placed xs)) (labelled (λ r. r) placed) refl) h

      pub case_means : (w : Vec (code.Cond Target X) alloc.Global)
          → resolved_conds (at_attribute names) (meant names) (listed xs)
          ≡ Some (conds_from (map (numbered_cond after) w.items))
          → resolved_arm (at_attribute names) (meant names) (arm_of path_of before x)
          ≡ Some (numbered_arm after (a.Case label w))
      case_means w h =
          ap (resolved_arm (at_attribute names) (meant names)) case_is
          ∙ case_meant (at_attribute names) (meant names) label (listed xs) _ h
          ∙ ap (λ y. Some y) (sym (of_case (λ r. r) after label w))

    module _ (token : TokenNo) (v : Vec (code.Cond code_path.Path V) alloc.Global)
        (is : x ≡ a.Default token v) (same : xs ≡ v.items) where
      unlabelled : {S U : Type 0} (f : code_path.Path → S) (g : V → U) → arm_of f g x
          ≡ Default (conds_of f g xs)
      unlabelled f g = ap (arm_of f g) is ∙ of_default f g token v
          ∙ ap (λ zs. Default (conds_of f g zs)) (sym same)

      default_is : arm_of path_of before x ≡ Default (listed xs)
      default_is = unlabelled path_of before

      pub default_told : (old new : List Breach)
          → Tells unit (conds_uses uses (listed xs)) (paths_in_conds placed paths xs) old new
          → Tells unit (arms_uses uses (arms_from (arm_of path_of before x ∷ [])))
          (paths_in_arms placed paths (x ∷ [])) old new
      default_told old new h = retold unit _ _ _ _ old new
          (same_uses (Default (listed xs)) default_is refl)
          (same_paths (Default (conds_of (λ r. r) placed xs)) (unlabelled (λ r. r) placed) refl) h

      pub default_means : (w : Vec (code.Cond Target X) alloc.Global)
          → resolved_conds (at_attribute names) (meant names) (listed xs)
          ≡ Some (conds_from (map (numbered_cond after) w.items))
          → resolved_arm (at_attribute names) (meant names) (arm_of path_of before x)
          ≡ Some (numbered_arm after (a.Default token w))
      default_means w h =
          ap (resolved_arm (at_attribute names) (meant names)) default_is
          ∙ default_meant (at_attribute names) (meant names) (listed xs) _ h
          ∙ ap (λ y. Some y) (sym (of_default (λ r. r) after token w))
