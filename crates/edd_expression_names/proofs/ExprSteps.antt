-- Calls and their arguments with the meaning of their names.
use Rattle.std.proofs.Common.{◌≡◌, refl, sym, ap, ◌∙◌, ℕ, zero, suc, ◌+◌, ◌*◌, ◌<◌, ◌≤◌, List, [], ◌∷◌, ◌++◌, length, get_or, map, Option, Some, None, arith}
use Rattle.std.specs.Prelude.{Vec}
use Rattle.std.specs.declared.alloc.Global as alloc
use Rattle.std.proofs.lemmas.List.{append-nil}
use Rattle.edd_breaches.specs.declared.breach.Breach.{Breach}
use Rattle.edd_name_meanings.specs.Copies.{Tells}
use Rattle.edd_name_meanings.specs.PathsIn.{paths_in_arguments, paths_in_expr}
use Rattle.edd_name_meanings.proofs.UseLaws.{retold}
use Rattle.edd_expression_names.specs.ResolvedParts.{resolved_argument}
use Rattle.edd_syntax.specs.declared.numbers.TokenNo.{TokenNo}
use Rattle.edd_syntax.specs.declared.expr.Expr as code
use Rattle.edd_syntax.specs.declared.expr.Expr.TheVariants as e
use Rattle.edd_syntax.specs.declared.expr.Argument as code_argument
use Rattle.edd_syntax.specs.declared.numbers.Kind.{Kind}
use Rattle.edd_syntax.specs.declared.reference.Path as code_path
use Rattle.edd_syntax.specs.declared.reference.Target.{Target}
use Rattle.edd_syntax.specs.Reference.{Path}
use Rattle.edd_syntax.specs.Item.{Description}
use Rattle.edd_syntax.specs.Expression.{Argument, Text, Value, Arguments, Cons, Call, arguments_from}
use Rattle.edd_syntax.specs.NameUses.{OfFunction, uses_among, argument_uses}
use Rattle.edd_syntax.specs.ReferenceOrder.{argument_references, expr_references}
use Rattle.edd_syntax.specs.Resolution.{Scope, argument_kinds}
use Rattle.edd_syntax.specs.ResolvedTrees.{◌>>=◌, Meanings, each, resolved_by, resolved_arguments}
use Rattle.edd_syntax.specs.Size.{nodes, argument_nodes}
use Rattle.edd_syntax.specs.TreeView.{path_of, expr_of, argument_of, numbered_argument, numbered_expr}
use Rattle.edd_name_rules.proofs.Spends.{argument_nodes_split}
use Rattle.edd_syntax.proofs.TreeRows.{call_is}

pub bound : {A B C : Type 0} (o : Option A) (p : Option B) (k : A → B → C) (a : A) (b : B)
    → o ≡ Some a → p ≡ Some b → (o >>= (λ x. p >>= (λ y. Some (k x y)))) ≡ Some (k a b)
bound o p k a b f g = ap (λ q. q >>= (λ x. p >>= (λ y. Some (k x y)))) f
    ∙ ap (λ q. q >>= (λ y. Some (k a y))) g

pub regroup : {A B C : Type 0} (o : Option A) (g : A → B) (h : B → Option C)
    → (o >>= (λ x. h (g x))) ≡ ((o >>= (λ x. Some (g x))) >>= h)
regroup (Some x) g h = refl
regroup None g h = refl

pub each_joined : {A B : Type 0} (of : A → Option B) (y : A) (ys : List A) (w : B) (ws : List B)
    → of y ≡ Some w → each of ys ≡ Some ws → each of (y ∷ ys) ≡ Some (w ∷ ws)
each_joined of y ys w ws f g = bound (of y) (each of ys) (λ w ws. w ∷ ws) w ws f g

pub argument_uses_split : (scope : Scope) (kinds : List Kind) (x : Argument Path)
    (xs : List (Argument Path)) → argument_uses scope kinds (arguments_from (x ∷ xs))
    ≡ argument_uses scope kinds (arguments_from (x ∷ []))
    ++ argument_uses scope kinds (arguments_from xs)
argument_uses_split scope kinds (Text text) xs = refl
argument_uses_split scope kinds (Value e) xs =
    ap (λ us. us ++ argument_uses scope kinds (arguments_from xs))
    (sym (append-nil (uses_among scope kinds e)))

references_split : {R : Type 0} (x : Argument R) (xs : List (Argument R))
    → argument_references (arguments_from (x ∷ xs)) ≡ argument_references (arguments_from (x ∷ []))
    ++ argument_references (arguments_from xs)
references_split (Text text) xs = refl
references_split (Value e) xs = ap (λ rs. rs ++ argument_references (arguments_from xs))
    (sym (append-nil (expr_references e)))

pub paths_split : (x : code_argument.Argument code_path.Path)
    (xs : List (code_argument.Argument code_path.Path))
    → paths_in_arguments (x ∷ xs) ≡ paths_in_arguments (x ∷ []) ++ paths_in_arguments xs
paths_split x xs = references_split (argument_of (λ p. p) x) (map (argument_of (λ p. p)) xs)

module _ (at : Meanings) (plain : Path → Option Target) where
  first_then : (y : Argument Path) (rest : Arguments Path)
      → resolved_arguments at plain (Cons y rest)
      ≡ (resolved_argument at plain y
      >>= (λ w. resolved_arguments at plain rest >>= (λ r. Some (Cons w r))))
  unfolding resolved_by
  first_then (Text text) rest = refl
  first_then (Value e) rest = regroup (resolved_by at plain e) (λ x. Value x)
      (λ w. resolved_arguments at plain rest >>= (λ r. Some (Cons w r)))

  pub arguments_joined : (y : Argument Path) (ys : List (Argument Path)) (w : Argument Target)
      (ws : List (Argument Target)) → resolved_argument at plain y ≡ Some w
      → resolved_arguments at plain (arguments_from ys) ≡ Some (arguments_from ws)
      → resolved_arguments at plain (arguments_from (y ∷ ys)) ≡ Some (arguments_from (w ∷ ws))
  arguments_joined y ys w ws f g = first_then y (arguments_from ys)
      ∙ bound (resolved_argument at plain y)
      (resolved_arguments at plain (arguments_from ys)) (λ w r. Cons w r) w (arguments_from ws) f g

  pub no_arguments : resolved_arguments at plain (arguments_from []) ≡ Some (arguments_from [])
  unfolding resolved_by
  no_arguments = refl

module _ (unit : Description Path) (x : code.Expr code_path.Path) (token : TokenNo)
    (p : code_path.Path)
    (v : Vec (code_argument.Argument code_path.Path) alloc.Global)
    (items : List (code_argument.Argument code_path.Path)) (is : x ≡ e.Call token p v)
    (same : items ≡ v.items) where
  called : {S : Type 0} (f : code_path.Path → S)
      → expr_of f x ≡ Call (f p) (arguments_from (map (argument_of f) items))
  called f = call_is f x token p v is
      ∙ ap (λ xs. Call (f p) (arguments_from (map (argument_of f) xs))) (sym same)

  call : expr_of path_of x ≡ Call (path_of p) (arguments_from (map (argument_of path_of) items))
  call = called path_of

  pub call_told : (scope : Scope) (kinds : List Kind) (old new : List Breach)
      → Tells unit (OfFunction (path_of p)
      ∷ argument_uses scope (argument_kinds (path_of p))
      (arguments_from (map (argument_of path_of) items))) (p ∷ paths_in_arguments items) old new
      → Tells unit (uses_among scope kinds (expr_of path_of x)) (paths_in_expr x) old new
  call_told scope kinds old new h =
      retold unit _ _ _ _ old new (ap (uses_among scope kinds) (sym call))
      (ap expr_references (sym (called (λ r. r)))) h

  pub call_means : (at : Meanings) (plain : Path → Option Target) (t : Target)
      (w : Vec (code_argument.Argument Target) alloc.Global) → at.function (path_of p) ≡ Some t
      → resolved_arguments at (at.argument (path_of p))
      (arguments_from (map (argument_of path_of) items))
      ≡ Some (arguments_from (map numbered_argument w.items))
      → resolved_by at plain (expr_of path_of x) ≡ Some (numbered_expr (e.Call token t w))
  unfolding resolved_by
  call_means at plain t w h k =
      ap (resolved_by at plain) call
      ∙ bound (at.function (path_of p))
      (resolved_arguments at (at.argument (path_of p))
      (arguments_from (map (argument_of path_of) items)))
      (λ f r. Call f r) t (arguments_from (map numbered_argument w.items)) h k
      ∙ ap (λ y. Some y) (sym (call_is (λ r. r) (e.Call token t w) token t w refl))

-- ---- what is inside an expression has fewer nodes than it

-- how far a walk may still go down
abbrev pub expr_depth : code.Expr code_path.Path → ℕ
expr_depth x = 6 * nodes (expr_of path_of x)

abbrev pub arguments_depth : List (code_argument.Argument code_path.Path) → ℕ
arguments_depth xs = 6 * argument_nodes (arguments_from (map (argument_of path_of) xs))

abbrev pub argument_depth : code_argument.Argument code_path.Path → ℕ
argument_depth x = 6 * argument_nodes (arguments_from (argument_of path_of x ∷ []))

pub call_falls : (t : ℕ) (x : code.Expr code_path.Path) (token : TokenNo) (p : code_path.Path)
    (v : Vec (code_argument.Argument code_path.Path) alloc.Global)
    (xs : List (code_argument.Argument code_path.Path)) → x ≡ e.Call token p v → xs ≡ v.items
    → t ≡ expr_depth x → arguments_depth xs + 5 < t
call_falls t x token p v xs is same m =
    let e = ap nodes (call_is path_of x token p v is) in
    let f = ap arguments_depth same in
    omega (arith, e, f, m)

pub argument_falls : (t i : ℕ) (xs : List (code_argument.Argument code_path.Path))
    (x : code_argument.Argument code_path.Path) → i < length xs → x ≡ get_or xs i x
    → t ≡ arguments_depth xs + 4 → argument_depth x + 1 < t
argument_falls t i xs x h is m = let e = within i xs x h is in omega (arith, e, m)
  where
    within : (i : ℕ) (xs : List (code_argument.Argument code_path.Path))
        (x : code_argument.Argument code_path.Path) → i < length xs → x ≡ get_or xs i x
        → argument_nodes (arguments_from (argument_of path_of x ∷ []))
        ≤ argument_nodes (arguments_from (map (argument_of path_of) xs))
    within i [] x h is = absurd (omega arith)
    within zero (y ∷ ys) x h is =
        let e = ap (λ z. argument_nodes (arguments_from (argument_of path_of z ∷ []))) is in
        let f = argument_nodes_split (argument_of path_of y) (map (argument_of path_of) ys) in
        omega (arith, e, f)
    within (suc i) (y ∷ ys) x h is =
        let e = within i ys x (omega arith) is in
        let f = argument_nodes_split (argument_of path_of y) (map (argument_of path_of) ys) in
        omega (arith, e, f)
