-- The tokens of copies: of trees whose children a vector holds, and of lists that are copied one
-- after another.
use Rattle.std.proofs.Common.{◌≡◌, refl, sym, ap, ◌∙◌, ℕ, ℤ, ◌+◌, ◌<◌, List, [], ◌∷◌, ◌++◌, length, get_or, drop, append_assoc}
use Rattle.std.specs.Prelude.{Vec}
use Rattle.std.specs.List.{flat_map}
use Rattle.std.specs.declared.alloc.Global.{Global}
use Rattle.std.proofs.lemmas.Grind.{flat_map-append}
use Rattle.std.proofs.lemmas.List.{at_drop_more, append-nil}
use Rattle.edd_name_meanings.specs.TokensIn.{tokens_in_expr, argument_tokens, tokens_in_argument, tokens_in_cond, tokens_in_arm, cond_tokens, arm_tokens}
use Rattle.edd_syntax.specs.declared.numbers.TokenNo.{TokenNo}
use Rattle.edd_syntax.specs.declared.cond.Cond.{Cond, Row_of-Cond, end_of-Cond, more_of-Cond, Row_of-Arm, end_of-Arm, more_of-Arm}
use Rattle.edd_syntax.specs.declared.cond.Cond.TheVariants as c
use Rattle.edd_syntax.specs.declared.cond.Arm.{Arm}
use Rattle.edd_syntax.specs.declared.cond.Arm.TheVariants as a
use Rattle.edd_syntax.specs.declared.cond.Arm.TheBlock as block
use Rattle.edd_syntax.specs.declared.expr.Expr.{Expr, Row_of-Argument, end_of-Argument, more_of-Argument}
use Rattle.edd_syntax.specs.declared.expr.Expr.TheVariants as e
use Rattle.edd_syntax.specs.declared.expr.Argument.{Argument}
use Rattle.edd_syntax.specs.declared.expr.Argument.TheBlock.{items-the_row-Argument, hidden-the_row-Argument-0, items_hidden-the_row-Argument-0}

-- ---- calls

arguments_in_row : {R : Type 0} (n : _) (row : Row_of-Argument R n)
    → argument_tokens row ≡ flat_map tokens_in_argument (items-the_row-Argument R n row)
arguments_in_row n end_of-Argument = refl
arguments_in_row n (more_of-Argument first rest) = ap (λ ts. tokens_in_argument first ++ ts)
    (arguments_in_row _ rest)

call_tokens : {R : Type 0} (at : TokenNo) (function : R) (v : Vec (Argument R) Global)
    → tokens_in_expr (e.Call at function v) ≡ at ∷ flat_map tokens_in_argument v.items
call_tokens {R} at function v =
    ap (λ ts. at ∷ ts) (arguments_in_row _ (hidden-the_row-Argument-0 R v)
    ∙ ap (flat_map tokens_in_argument) (items_hidden-the_row-Argument-0 R v))

pub call_kept : {R S : Type 0} (x : Expr R) (at : TokenNo) (p : R) (v : Vec (Argument R) Global)
    (items : List (Argument R)) (t : S) (w : Vec (Argument S) Global) → x ≡ e.Call at p v
    → items ≡ v.items
    → flat_map tokens_in_argument w.items ≡ flat_map tokens_in_argument items
    → tokens_in_expr (e.Call at t w) ≡ tokens_in_expr x
call_kept x at p v items t w is same kept =
    call_tokens at t w ∙ ap (λ ts. at ∷ ts) (kept ∙ ap (flat_map tokens_in_argument) same)
    ∙ sym (ap tokens_in_expr is ∙ call_tokens at p v)

-- ---- conditionals

in_value : (R : Type 0) {V : Type 0} (of : V → List TokenNo) (v : V)
    → tokens_in_cond {R = R} of (c.Value v) ≡ of v
unfolding tokens_in_cond
in_value R of v = refl

module _ {R V : Type 0} (of : V → List TokenNo) where
  conds_in_row : (n : _) (row : Row_of-Cond R V n)
      → cond_tokens of row ≡ flat_map (tokens_in_cond of) (block.items-the_row-Cond R V n row)
  unfolding tokens_in_cond
  conds_in_row n end_of-Cond = refl
  conds_in_row n (more_of-Cond first rest) = ap (λ ts. tokens_in_cond of first ++ ts)
      (conds_in_row _ rest)

  arms_in_row : (n : _) (row : Row_of-Arm R V n)
      → arm_tokens of row ≡ flat_map (tokens_in_arm of) (block.items-the_row-Arm R V n row)
  unfolding tokens_in_cond
  arms_in_row n end_of-Arm = refl
  arms_in_row n (more_of-Arm first rest) = ap (λ ts. tokens_in_arm of first ++ ts)
      (arms_in_row _ rest)

  conds_in_vec : (v : Vec (Cond R V) Global) → cond_tokens of (block.hidden-the_row-Cond-0 R V v)
      ≡ flat_map (tokens_in_cond of) v.items
  conds_in_vec v = conds_in_row _ (block.hidden-the_row-Cond-0 R V v)
      ∙ ap (flat_map (tokens_in_cond of)) (block.items_hidden-the_row-Cond-0 R V v)

  arms_in_vec : (v : Vec (Arm R V) Global) → arm_tokens of (block.hidden-the_row-Arm-1 R V v)
      ≡ flat_map (tokens_in_arm of) v.items
  arms_in_vec v = arms_in_row _ (block.hidden-the_row-Arm-1 R V v)
      ∙ ap (flat_map (tokens_in_arm of)) (block.items_hidden-the_row-Arm-1 R V v)

  in_if : (test : Expr R) (v w : Vec (Cond R V) Global) → tokens_in_cond of (c.If test v w)
      ≡ tokens_in_expr test ++ (flat_map (tokens_in_cond of) v.items
      ++ flat_map (tokens_in_cond of) w.items)
  unfolding tokens_in_cond
  in_if test v w =
      ap (λ ts. tokens_in_expr test ++ (ts ++ cond_tokens of (block.hidden-the_row-Cond-0 R V w)))
      (conds_in_vec v)
      ∙ ap (λ ts. tokens_in_expr test ++ (flat_map (tokens_in_cond of) v.items ++ ts))
      (conds_in_vec w)

  in_select : (on : Expr R) (v : Vec (Arm R V) Global) → tokens_in_cond of (c.Select on v)
      ≡ tokens_in_expr on ++ flat_map (tokens_in_arm of) v.items
  unfolding tokens_in_cond
  in_select on v = ap (λ ts. tokens_in_expr on ++ ts) (arms_in_vec v)

  in_case : (label : ℤ) (v : Vec (Cond R V) Global) → tokens_in_arm of (a.Case label v)
      ≡ flat_map (tokens_in_cond of) v.items
  unfolding tokens_in_cond
  in_case label v = conds_in_vec v

  in_default : (at : TokenNo) (v : Vec (Cond R V) Global) → tokens_in_arm of (a.Default at v)
      ≡ at ∷ flat_map (tokens_in_cond of) v.items
  unfolding tokens_in_cond
  in_default at v = ap (λ ts. at ∷ ts) (conds_in_vec v)

pub value_kept : {R V X : Type 0} (S : Type 0) (of : V → List TokenNo) (after : X → List TokenNo)
    (x : Cond R V) (v : V) (w : X) → x ≡ c.Value v → after w ≡ of v
    → tokens_in_cond {R = S} after (c.Value w) ≡ tokens_in_cond of x
value_kept {R} S of after x v w is kept =
    in_value S after w ∙ kept ∙ sym (ap (tokens_in_cond of) is ∙ in_value R of v)

module _ {R S V X : Type 0} (of : V → List TokenNo) (after : X → List TokenNo) where
  pub if_kept : (x : Cond R V) (test : Expr R) (v w : Vec (Cond R V) Global)
      (xs ys : List (Cond R V)) (test' : Expr S) (v' w' : Vec (Cond S X) Global)
      → x ≡ c.If test v w → xs ≡ v.items → ys ≡ w.items
      → tokens_in_expr test' ≡ tokens_in_expr test
      → flat_map (tokens_in_cond after) v'.items ≡ flat_map (tokens_in_cond of) xs
      → flat_map (tokens_in_cond after) w'.items ≡ flat_map (tokens_in_cond of) ys
      → tokens_in_cond after (c.If test' v' w') ≡ tokens_in_cond of x
  if_kept x test v w xs ys test' v' w' is same same' kept kept' kept'' =
      in_if after test' v' w'
      ∙ ap (λ ts. ts ++ (flat_map (tokens_in_cond after) v'.items
      ++ flat_map (tokens_in_cond after) w'.items)) kept
      ∙ ap (λ ts. tokens_in_expr test ++ (ts ++ flat_map (tokens_in_cond after) w'.items))
      (kept' ∙ ap (flat_map (tokens_in_cond of)) same)
      ∙ ap (λ ts. tokens_in_expr test ++ (flat_map (tokens_in_cond of) v.items ++ ts))
      (kept'' ∙ ap (flat_map (tokens_in_cond of)) same')
      ∙ sym (ap (tokens_in_cond of) is ∙ in_if of test v w)

  pub select_kept : (x : Cond R V) (on : Expr R) (v : Vec (Arm R V) Global) (xs : List (Arm R V))
      (on' : Expr S) (v' : Vec (Arm S X) Global) → x ≡ c.Select on v → xs ≡ v.items
      → tokens_in_expr on' ≡ tokens_in_expr on
      → flat_map (tokens_in_arm after) v'.items ≡ flat_map (tokens_in_arm of) xs
      → tokens_in_cond after (c.Select on' v') ≡ tokens_in_cond of x
  select_kept x on v xs on' v' is same kept kept' =
      in_select after on' v'
      ∙ ap (λ ts. ts ++ flat_map (tokens_in_arm after) v'.items) kept
      ∙ ap (λ ts. tokens_in_expr on ++ ts) (kept' ∙ ap (flat_map (tokens_in_arm of)) same)
      ∙ sym (ap (tokens_in_cond of) is ∙ in_select of on v)

  pub case_kept : (x : Arm R V) (label label' : ℤ) (v : Vec (Cond R V) Global)
      (xs : List (Cond R V)) (v' : Vec (Cond S X) Global) → x ≡ a.Case label v → xs ≡ v.items
      → flat_map (tokens_in_cond after) v'.items ≡ flat_map (tokens_in_cond of) xs
      → tokens_in_arm after (a.Case label' v') ≡ tokens_in_arm of x
  case_kept x label label' v xs v' is same kept =
      in_case after label' v' ∙ kept ∙ ap (flat_map (tokens_in_cond of)) same
      ∙ sym (ap (tokens_in_arm of) is ∙ in_case of label v)

  pub default_kept : (x : Arm R V) (at : TokenNo) (v : Vec (Cond R V) Global)
      (xs : List (Cond R V)) (v' : Vec (Cond S X) Global) → x ≡ a.Default at v → xs ≡ v.items
      → flat_map (tokens_in_cond after) v'.items ≡ flat_map (tokens_in_cond of) xs
      → tokens_in_arm after (a.Default at v') ≡ tokens_in_arm of x
  default_kept x at v xs v' is same kept =
      in_default after at v'
      ∙ ap (λ ts. at ∷ ts) (kept ∙ ap (flat_map (tokens_in_cond of)) same)
      ∙ sym (ap (tokens_in_arm of) is ∙ in_default of at v)

-- ---- lists

module _ {X Z : Type 0} (of : X → List TokenNo) (after : Z → List TokenNo) where
  -- the copies zs have the tokens of the first i elements
  abbrev pub Kept : (i : ℕ) (xs : List X) (zs : List Z) → Type 0
  Kept i xs zs = flat_map after zs ++ flat_map of (drop i xs) ≡ flat_map of xs

  pub kept_at_start : (xs : List X) (zs : List Z) → zs ≡ [] → Kept 0 xs zs
  kept_at_start xs zs none = ap (λ ys. flat_map after ys ++ flat_map of xs) none

  pub kept_more : (i : ℕ) (xs : List X) (x : X) (zs ys : List Z) (z : Z) → i < length xs
      → x ≡ get_or xs i x → after z ≡ of x → ys ≡ zs ++ z ∷ [] → Kept i xs zs → Kept (i + 1) xs ys
  kept_more i xs x zs ys z h is same grown kept =
      ap (λ all. flat_map after all ++ flat_map of (drop (i + 1) xs)) grown
      ∙ ap (λ ts. ts ++ flat_map of (drop (i + 1) xs)) (flat_map-append after zs (z ∷ [])
      ∙ ap (λ ts. flat_map after zs ++ ts) (append-nil (after z) ∙ same))
      ∙ append_assoc (flat_map after zs) (of x) (flat_map of (drop (i + 1) xs))
      ∙ ap (λ ts. flat_map after zs ++ ts)
      (sym (at_drop_more (flat_map of) xs i x h
      ∙ ap (λ y. of y ++ flat_map of (drop (i + 1) xs)) (sym is)))
      ∙ kept

  pub kept_at_end : (i : ℕ) (xs : List X) (zs : List Z) → drop i xs ≡ [] → Kept i xs zs
      → flat_map after zs ≡ flat_map of xs
  kept_at_end i xs zs over kept =
      sym (append-nil (flat_map after zs))
      ∙ ap (λ ys. flat_map after zs ++ flat_map of ys) (sym over) ∙ kept
