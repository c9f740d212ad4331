-- What conditionals and arms in the code stand for, and that their parts are smaller.
use Rattle.std.proofs.Common.{◌≡◌, refl, sym, ap, ◌∙◌, ℕ, zero, suc, ◌+◌, ◌<◌, ◌≤◌, ℤ, List, [], ◌∷◌, length, get_or, map, arith}
use Rattle.std.specs.Prelude.{Some, None, Vec}
use Rattle.std.specs.declared.alloc.Global.{Global}
use Rattle.edd_syntax.specs.declared.numbers.TokenNo.{TokenNo}
use Rattle.edd_syntax.specs.declared.cond.Arm as code_arm
use Rattle.edd_syntax.specs.declared.cond.Cond as code
use Rattle.edd_syntax.specs.declared.cond.Arm.TheVariants as a
use Rattle.edd_syntax.specs.declared.cond.Cond.TheVariants as c
use Rattle.edd_syntax.specs.declared.expr.Expr.{Expr}
use Rattle.edd_syntax.specs.declared.reference.Target.{Target}
use Rattle.edd_syntax.specs.Conditional.{Cond, Conds, Arm, Arms, NoArms, ConsArm, Value, If, Select, Case, Default, arms_from}
use Rattle.edd_syntax.specs.ItemView.{numbered_arm, numbered_cond, numbered_conds}
use Rattle.edd_syntax.specs.Size.{cond_nodes, conds_nodes, arms_nodes, leaf}
use Rattle.edd_syntax.specs.TreeView.{numbered_expr}
use Rattle.edd_syntax.proofs.CondRows.{of_value, of_if, of_select, of_case, of_default}
use Rattle.edd_instructions.specs.declared.instruction.Instruction.TheVariants as instruction
use Rattle.edd_instructions.specs.Spelling.{spelling}
use Rattle.edd_attrs.specs.Writing.{default_of, header, hole_of}

module _ {V W : Type 0} (view : V → W) where
  abbrev pub viewed : code.Cond Target V → Cond Target W
  viewed x = numbered_cond view x

  abbrev pub all_viewed : List (code.Cond Target V) → Conds Target W
  all_viewed xs = numbered_conds view xs

  abbrev pub arm_viewed : code_arm.Arm Target V → Arm Target W
  arm_viewed x = numbered_arm view x

  abbrev pub arms_viewed : List (code_arm.Arm Target V) → Arms Target W
  arms_viewed xs = arms_from (map (numbered_arm view) xs)

  -- ---- each variant, with the slices that its vectors are passed as

  pub value_is : {x : code.Cond Target V} {v : V} → x ≡ c.Value v → viewed x ≡ Value (view v)
  value_is {v} is = ap viewed is ∙ of_value (λ r. r) view v

  pub if_is : {x : code.Cond Target V} {test : Expr Target} (v w : Vec (code.Cond Target V) Global)
      {xs ys : List (code.Cond Target V)} → x ≡ c.If test v w → xs ≡ v.items → ys ≡ w.items
      → viewed x ≡ If (numbered_expr test) (all_viewed xs) (all_viewed ys)
  if_is {test} v w {xs} is same same' =
      ap viewed is ∙ of_if (λ r. r) view test v w
      ∙ ap (λ (zs : List (code.Cond Target V)). If (numbered_expr test) (all_viewed zs)
      (all_viewed w.items)) (sym same)
      ∙ ap (λ (zs : List (code.Cond Target V)). If (numbered_expr test) (all_viewed xs)
      (all_viewed zs)) (sym same')

  pub select_is : {x : code.Cond Target V} {on : Expr Target}
      (v : Vec (code_arm.Arm Target V) Global) {xs : List (code_arm.Arm Target V)}
      → x ≡ c.Select on v → xs ≡ v.items → viewed x ≡ Select (numbered_expr on) (arms_viewed xs)
  select_is {on} v is same =
      ap viewed is ∙ of_select (λ r. r) view on v
      ∙ ap (λ (zs : List (code_arm.Arm Target V)). Select (numbered_expr on) (arms_viewed zs))
      (sym same)

  pub case_is : {x : code_arm.Arm Target V} {label : ℤ} (v : Vec (code.Cond Target V) Global)
      {xs : List (code.Cond Target V)} → x ≡ a.Case label v → xs ≡ v.items
      → arm_viewed x ≡ Case label (all_viewed xs)
  case_is {label} v is same = ap arm_viewed is ∙ of_case (λ r. r) view label v
      ∙ ap (λ (zs : List (code.Cond Target V)). Case label (all_viewed zs)) (sym same)

  pub default_is : {x : code_arm.Arm Target V} {token : TokenNo}
      (v : Vec (code.Cond Target V) Global) (xs : List (code.Cond Target V)) → x ≡ a.Default token v
      → xs ≡ v.items → arm_viewed x ≡ Default (all_viewed xs)
  default_is {token} v xs is same = ap arm_viewed is ∙ of_default (λ r. r) view token v
      ∙ ap (λ (zs : List (code.Cond Target V)). Default (all_viewed zs)) (sym same)

  -- ---- the code of an arm's own

  pub case_header : {x : code_arm.Arm Target V} {label : ℤ} (v : Vec (code.Cond Target V) Global)
      → x ≡ a.Case label v → header (arm_viewed x) ≡ spelling (instruction.Case label 0)
  case_header {x} {label} v is = ap header (case_is v {xs = v.items} is refl)

  pub default_header : {x : code_arm.Arm Target V} {token : TokenNo}
      (v : Vec (code.Cond Target V) Global) → x ≡ a.Default token v → header (arm_viewed x) ≡ []
  default_header {x} {token} v is = ap header (default_is v v.items is refl)

  pub case_hole : {x : code_arm.Arm Target V} (place : ℕ) {label : ℤ} (v : Vec (code.Cond Target V)
      Global) → x ≡ a.Case label v → hole_of place (arm_viewed x) ≡ Some (place + 9)
  case_hole {x} place {label} v is = ap (hole_of place) (case_is v {xs = v.items} is refl)

  pub default_hole : {x : code_arm.Arm Target V} (place : ℕ) {token : TokenNo} (v : Vec
      (code.Cond Target V) Global) → x ≡ a.Default token v → hole_of place (arm_viewed x) ≡ None
  default_hole {x} place {token} v is = ap (hole_of place) (default_is v v.items is refl)

  pub case_has_none : {x : code_arm.Arm Target V} {label : ℤ} (v : Vec (code.Cond Target V) Global)
      → x ≡ a.Case label v → default_of (ConsArm (arm_viewed x) NoArms) ≡ None
  case_has_none {x} {label} v is = ap (λ (arm : Arm Target W). default_of (ConsArm arm NoArms))
      (case_is v {xs = v.items} is refl)

  pub default_has_it : {x : code_arm.Arm Target V} {token : TokenNo}
      (v : Vec (code.Cond Target V) Global) {xs : List (code.Cond Target V)} → x ≡ a.Default token v
      → xs ≡ v.items → default_of (ConsArm (arm_viewed x) NoArms) ≡ Some (all_viewed xs)
  default_has_it {x} {token} v {xs} is same =
      ap (λ (arm : Arm Target W). default_of (ConsArm arm NoArms)) (default_is v xs is same)

  -- ---- parts are smaller

  pub first_falls : (x : code.Cond Target V) {test : Expr Target}
      (v w : Vec (code.Cond Target V) Global) {xs ys : List (code.Cond Target V)}
      → x ≡ c.If test v w → xs ≡ v.items → ys ≡ w.items → conds_nodes leaf (all_viewed xs)
      + conds_nodes leaf (all_viewed ys) < cond_nodes leaf (viewed x)
  first_falls x {test} v w {xs} {ys} is same same' =
      omega (arith, ap (cond_nodes leaf) (if_is v w is same same'))

  pub arms_fall : (x : code.Cond Target V) {on : Expr Target}
      (v : Vec (code_arm.Arm Target V) Global) {xs : List (code_arm.Arm Target V)} → x
      ≡ c.Select on v → xs ≡ v.items → arms_nodes leaf (arms_viewed xs) < cond_nodes leaf (viewed x)
  arms_fall x {on} v {xs} is same = omega (arith, ap (cond_nodes leaf) (select_is v is same))

  pub case_falls : {x : code_arm.Arm Target V} {label : ℤ} (v : Vec (code.Cond Target V) Global)
      {xs : List (code.Cond Target V)} → x ≡ a.Case label v → xs ≡ v.items
      → conds_nodes leaf (all_viewed xs) < arms_nodes leaf (ConsArm (arm_viewed x) NoArms)
  case_falls {x} {label} v {xs} is same =
      omega (
        arith,
        ap (λ (arm : Arm Target W). arms_nodes leaf (ConsArm arm NoArms)) (case_is v is same),
      )

  pub element_falls : (i : ℕ) (xs : List (code.Cond Target V)) {x : code.Cond Target V} → i < length
      xs → x ≡ get_or xs i x → cond_nodes leaf (viewed x) ≤ conds_nodes leaf (all_viewed xs)
  element_falls i [] h is = absurd (omega arith)
  element_falls zero (y ∷ ys) h is = let e =
      ap (λ (z : code.Cond Target V). cond_nodes leaf (viewed z)) is in omega (arith, e)
  element_falls (suc i) (y ∷ ys) {x} h is = let e = element_falls i ys (omega arith) is in
      omega (arith, e)

arm_first : {W : Type 0} (arm : Arm Target W) (rest : Arms Target W)
    → arms_nodes leaf (ConsArm arm rest) ≡ arms_nodes leaf (ConsArm arm NoArms)
    + arms_nodes leaf rest
arm_first (Case label body) rest = omega arith
arm_first (Default body) rest = omega arith

module _ {V W : Type 0} (view : V → W) where
  pub arm_falls : (i : ℕ) (xs : List (code_arm.Arm Target V)) {x : code_arm.Arm Target V}
      → i < length xs → x ≡ get_or xs i x
      → arms_nodes leaf (ConsArm (arm_viewed view x) NoArms) ≤ arms_nodes leaf (arms_viewed view xs)
  arm_falls i [] h is = absurd (omega arith)
  arm_falls zero (y ∷ ys) h is =
      let e = ap (λ (z : code_arm.Arm Target V). arms_nodes leaf
      (ConsArm (arm_viewed view z) NoArms)) is in
      let s = arm_first (arm_viewed view y) (arms_viewed view ys) in
      omega (arith, e, s)
  arm_falls (suc i) (y ∷ ys) {x} h is =
      let e = arm_falls i ys (omega arith) is in
      let s = arm_first (arm_viewed view y) (arms_viewed view ys) in
      omega (arith, e, s)

-- the first DEFAULT is smaller than the arms
pub default_falls : {W : Type 0} (arms : Arms Target W) {body : Conds Target W}
    → default_of arms ≡ Some body → conds_nodes leaf body < arms_nodes leaf arms
default_falls NoArms e = absurd cc
default_falls (ConsArm (Case label x) rest) {body} e = let h = default_falls rest e in
    omega (arith, h)
default_falls {W} (ConsArm (Default x) rest) {body} e = let same : x ≡ body =
    cc in omega (arith, ap (conds_nodes leaf) same)
