-- The parts of a block, each of which may change the scope and the next slot.
use Rattle.std.proofs.Common.{◌≡◌, refl, sym, ap, ◌∙◌, ℕ, zero, suc, ◌+◌, ◌*◌, ◌<◌, ◌≤◌, List, [], ◌∷◌, ◌++◌, length, get_or, drop, map, Option, Some, arith}
use Rattle.std.specs.Prelude.{Vec}
use Rattle.std.specs.declared.alloc.Global as alloc
use Rattle.std.proofs.lemmas.List.{at_drop_more}
use Rattle.edd_breaches.specs.declared.breach.Breach.{Breach}
use Rattle.edd_name_meanings.specs.Copies.{Tells}
use Rattle.edd_name_meanings.specs.PathsIn.{paths_in_expr, paths_in_parts, paths_in_stmt}
use Rattle.edd_name_meanings.proofs.UseLaws.{retold}
use Rattle.edd_statement_names.specs.ResolvedParts.{part_uses, paths_in_part, resolved_part, scope_behind, next_behind}
use Rattle.edd_statement_names.proofs.DeclaratorSteps.{State}
use Rattle.edd_expression_names.proofs.ExprSteps.{bound, regroup}
use Rattle.edd_name_rules.proofs.SlotLaws.{slots_split}
use Rattle.edd_name_rules.proofs.Spends.{body_nodes_split}
use Rattle.edd_syntax.specs.declared.expr.Expr as code_expr
use Rattle.edd_syntax.specs.declared.stmt.Stmt as code
use Rattle.edd_syntax.specs.declared.stmt.Stmt.TheVariants as s
use Rattle.edd_syntax.specs.declared.stmt.Part as code_part
use Rattle.edd_syntax.specs.declared.stmt.Part.TheVariants as part
use Rattle.edd_syntax.specs.declared.reference.Path as code_path
use Rattle.edd_syntax.specs.declared.reference.Target.{Target}
use Rattle.edd_syntax.specs.Reference.{Path}
use Rattle.edd_syntax.specs.Item.{Description}
use Rattle.edd_syntax.specs.NameUses.{Use, expr_uses, stmt_uses, body_uses}
use Rattle.edd_syntax.specs.ReferenceOrder.{stmt_references}
use Rattle.edd_syntax.specs.Resolution.{Scope}
use Rattle.edd_syntax.specs.ResolvedTrees.{◌>>=◌, Reading, at_scope, resolved_expr, resolved_declarators, resolved_stmt, resolved_body}
use Rattle.edd_syntax.specs.Size.{statement_nodes, body_nodes}
use Rattle.edd_syntax.specs.Statement.{Block, Switch, Part, Declare, Statement, Body, Cons, body_from, slots_of, slots_in}
use Rattle.edd_syntax.specs.TreeView.{path_of, expr_of, stmt_of, part_of, numbered_expr, numbered_part, numbered_stmt}
use Rattle.edd_syntax.proofs.TreeRows.{block_is, switch_is}

abbrev pub behind : State → Part Path → State
behind s p = (scope_behind s.0 s.1 p, next_behind s.1 p)

abbrev pub uses_here : State → Part Path → List Use
uses_here s p = part_uses s.0 s.1 p

abbrev pub uses_from : State → List (Part Path) → List Use
uses_from s ps = body_uses (body_from ps) s.0 s.1

pub uses_split : (s : State) (p : Part Path) (ps : List (Part Path))
    → uses_from s (p ∷ ps) ≡ uses_here s p ++ uses_from (behind s p) ps
uses_split s (Declare declarators) ps = refl
uses_split s _ ps = refl

pub paths_split : (p : code_part.Part code_path.Path) (ps : List (code_part.Part code_path.Path))
    → paths_in_parts (p ∷ ps) ≡ paths_in_part p ++ paths_in_parts ps
paths_split (part.Declare declarators) ps = refl
paths_split _ ps = refl

module _ (names : Reading) where
  abbrev pub meant_here : State → Part Path → Option (Part Target)
  meant_here s p = resolved_part names s.0 s.1 p

  abbrev pub meant_from : State → List (Part Path) → Option (Body Target)
  meant_from s ps = resolved_body names (body_from ps) s.0 s.1

  first_then : (s : State) (p : Part Path) (ps : List (Part Path)) → meant_from s (p ∷ ps)
      ≡ (meant_here s p >>= (λ w. meant_from (behind s p) ps >>= (λ r. Some (Cons w r))))
  unfolding resolved_stmt
  first_then s (Declare declarators) ps = regroup (resolved_declarators names s.0 s.1 declarators)
      (λ x. Declare x) (λ w. meant_from (behind s (Declare declarators)) ps
      >>= (λ r. Some (Cons w r)))
  first_then s (Statement t) ps = regroup (resolved_stmt names t s.0 s.1) (λ x. Statement x)
      (λ w. meant_from (behind s (Statement t)) ps >>= (λ r. Some (Cons w r)))
  first_then s _ ps = refl

  pub parts_joined : (s : State) (p : Part Path) (ps : List (Part Path)) (w : Part Target)
      (ws : List (Part Target)) → meant_here s p ≡ Some w → meant_from (behind s p) ps
      ≡ Some (body_from ws) → meant_from s (p ∷ ps) ≡ Some (body_from (w ∷ ws))
  parts_joined s p ps w ws e f = first_then s p ps
      ∙ bound (meant_here s p) (meant_from (behind s p) ps) (λ w r. Cons w r) w (body_from ws) e f

  pub no_parts : (s : State) → meant_from s [] ≡ Some (body_from [])
  unfolding resolved_stmt
  no_parts s = refl

-- ---- slots

pub no_slots : (n : ℕ) → n ≡ n + slots_in (body_from {R = Path} [])
unfolding slots_of
no_slots n = omega arith

pub one_slot_more : (n : ℕ) (p : Part Path) → next_behind n p ≡ n + slots_in (body_from (p ∷ []))
unfolding slots_of
one_slot_more n (Declare declarators) = omega arith
one_slot_more n _ = omega arith

module _ {X : Type 0} (view : X → Part Path) (i : ℕ) (xs : List X) (x : X) (h : i < length xs)
    (is : x ≡ get_or xs i x) where
  pub slots_next : slots_in (body_from (map view (drop i xs))) ≡ slots_in (body_from (view x ∷ []))
      + slots_in (body_from (map view (drop (i + 1) xs)))
  slots_next =
      at_drop_more (λ ys. slots_in (body_from (map view ys))) xs i x h ∙ slots_split _ _
      ∙ ap (λ y. slots_in (body_from (view y ∷ []))
      + slots_in (body_from (map view (drop (i + 1) xs)))) (sym is)

  pub slots_more : (n m all : ℕ) → m ≡ next_behind n (view x)
      → n + slots_in (body_from (map view (drop i xs))) ≡ all
      → m + slots_in (body_from (map view (drop (i + 1) xs))) ≡ all
  slots_more n m all follows known =
      let e = slots_next in
      let f = one_slot_more n (view x) in
      omega (arith, e, f, follows, known)

-- ---- statements whose parts a vector holds

module _ (unit : Description Path) (x : code.Stmt code_path.Path)
    (v : Vec (code_part.Part code_path.Path) alloc.Global)
    (items : List (code_part.Part code_path.Path)) (same : items ≡ v.items) where
  abbrev pub listed : Body Path
  listed = body_from (map (part_of path_of) items)

  module _ (is : x ≡ s.Block v) where
    blocked : {S : Type 0} (f : code_path.Path → S)
        → stmt_of f x ≡ Block (body_from (map (part_of f) items))
    blocked f = block_is f x v is ∙ ap (λ xs. Block (body_from (map (part_of f) xs))) (sym same)

    block : stmt_of path_of x ≡ Block listed
    block = blocked path_of

    pub block_slots : slots_of (stmt_of path_of x) ≡ slots_in listed
    unfolding slots_of
    block_slots = ap slots_of block

    pub block_told : (scope : Scope) (n : ℕ) (old new : List Breach)
        → Tells unit (body_uses listed scope n) (paths_in_parts items) old new
        → Tells unit (stmt_uses (stmt_of path_of x) scope n) (paths_in_stmt x) old new
    block_told scope n old new h =
        retold unit _ _ _ _ old new (ap (λ t. stmt_uses t scope n) (sym block))
        (ap stmt_references (sym (blocked (λ r. r)))) h

    pub block_means : (names : Reading) (scope : Scope) (n : ℕ)
        (w : Vec (code_part.Part Target) alloc.Global)
        → resolved_body names listed scope n ≡ Some (body_from (map numbered_part w.items))
        → resolved_stmt names (stmt_of path_of x) scope n ≡ Some (numbered_stmt (s.Block w))
    unfolding resolved_stmt
    block_means names scope n w h =
        ap (λ t. resolved_stmt names t scope n) block ∙ ap (λ o. o >>= (λ b. Some (Block b))) h
        ∙ ap (λ t. Some t) (sym (block_is (λ r. r) (s.Block w) w refl))

  module _ (on : code_expr.Expr code_path.Path) (is : x ≡ s.Switch on v) where
    switched : {S : Type 0} (f : code_path.Path → S)
        → stmt_of f x ≡ Switch (expr_of f on) (body_from (map (part_of f) items))
    switched f = switch_is f x on v is
        ∙ ap (λ xs. Switch (expr_of f on) (body_from (map (part_of f) xs))) (sym same)

    switch : stmt_of path_of x ≡ Switch (expr_of path_of on) listed
    switch = switched path_of

    pub switch_slots : slots_of (stmt_of path_of x) ≡ slots_in listed
    unfolding slots_of
    switch_slots = ap slots_of switch

    pub switch_told : (scope : Scope) (n : ℕ) (old new : List Breach)
        → Tells unit (expr_uses scope (expr_of path_of on) ++ body_uses listed scope n)
        (paths_in_expr on ++ paths_in_parts items) old new
        → Tells unit (stmt_uses (stmt_of path_of x) scope n) (paths_in_stmt x) old new
    switch_told scope n old new h =
        retold unit _ _ _ _ old new (ap (λ t. stmt_uses t scope n) (sym switch))
        (ap stmt_references (sym (switched (λ r. r)))) h

    pub switch_means : (names : Reading) (scope : Scope) (n : ℕ) (on' : code_expr.Expr Target)
        (w : Vec (code_part.Part Target) alloc.Global)
        → resolved_expr (at_scope names scope) (expr_of path_of on) ≡ Some (numbered_expr on')
        → resolved_body names listed scope n ≡ Some (body_from (map numbered_part w.items))
        → resolved_stmt names (stmt_of path_of x) scope n ≡ Some (numbered_stmt (s.Switch on' w))
    unfolding resolved_stmt
    switch_means names scope n on' w h k =
        ap (λ t. resolved_stmt names t scope n) switch
        ∙ bound (resolved_expr (at_scope names scope) (expr_of path_of on))
        (resolved_body names listed scope n) (λ o b. Switch o b) (numbered_expr on') _ h k
        ∙ ap (λ t. Some t) (sym (switch_is (λ r. r) (s.Switch on' w) on' w refl))

-- ---- what is inside a statement has fewer nodes than it

-- how far a walk may still go down; a list counts for a little more, since it may have one part
abbrev pub stmt_depth : code.Stmt code_path.Path → ℕ
stmt_depth x = 5 * statement_nodes (stmt_of path_of x)

abbrev pub parts_depth : List (code_part.Part code_path.Path) → ℕ
parts_depth xs = 5 * body_nodes (body_from (map (part_of path_of) xs))

abbrev pub part_depth : code_part.Part code_path.Path → ℕ
part_depth x = 5 * body_nodes (body_from (part_of path_of x ∷ []))

pub block_falls : (t : ℕ) (x : code.Stmt code_path.Path)
    (v : Vec (code_part.Part code_path.Path) alloc.Global)
    (xs : List (code_part.Part code_path.Path)) → x ≡ s.Block v → xs ≡ v.items → t ≡ stmt_depth x
    → parts_depth xs + 3 < t
block_falls t x v xs is same m =
    let e = ap statement_nodes (block_is path_of x v is) in
    let f = ap parts_depth same in
    omega (arith, e, f, m)

pub switch_falls : (t : ℕ) (x : code.Stmt code_path.Path) (on : code_expr.Expr code_path.Path)
    (v : Vec (code_part.Part code_path.Path) alloc.Global)
    (xs : List (code_part.Part code_path.Path)) → x ≡ s.Switch on v → xs ≡ v.items
    → t ≡ stmt_depth x → parts_depth xs + 4 < t
switch_falls t x on v xs is same m =
    let e = ap statement_nodes (switch_is path_of x on v is) in
    let f = ap parts_depth same in
    omega (arith, e, f, m)

pub part_falls : (t i : ℕ) (xs : List (code_part.Part code_path.Path))
    (x : code_part.Part code_path.Path) → i < length xs → x ≡ get_or xs i x → t ≡ parts_depth xs + 3
    → part_depth x + 1 < t
part_falls t i xs x h is m = let e = within i xs x h is in omega (arith, e, m)
  where
    within : (i : ℕ) (xs : List (code_part.Part code_path.Path)) (x : code_part.Part code_path.Path)
        → i < length xs → x ≡ get_or xs i x → body_nodes (body_from (part_of path_of x ∷ []))
        ≤ body_nodes (body_from (map (part_of path_of) xs))
    within i [] x h is = absurd (omega arith)
    within zero (y ∷ ys) x h is =
        let e = ap (λ z. body_nodes (body_from (part_of path_of z ∷ []))) is in
        let f = body_nodes_split (part_of path_of y) (map (part_of path_of) ys) in
        omega (arith, e, f)
    within (suc i) (y ∷ ys) x h is =
        let e = within i ys x (omega arith) is in
        let f = body_nodes_split (part_of path_of y) (map (part_of path_of) ys) in
        omega (arith, e, f)
