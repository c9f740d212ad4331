-- Laws of spending nodes.
use Rattle.std.proofs.Common.{◌≡◌, sym, ap, ◌∙◌, ℕ, ◌+◌, ◌-◌, ◌<◌, ◌≤◌, nat_eq, List, [], ◌∷◌, length, get_or, drop, map, arith}
use Rattle.std.proofs.lemmas.List.{at_drop_more}
use Rattle.std.proofs.lemmas.Bool.Decides.{nat_tests}
use Rattle.std.specs.Prelude.{Vec, nat_lt}
use Rattle.std.specs.declared.alloc.Global.{Global}
use Rattle.edd_syntax.specs.declared.numbers.TokenNo.{TokenNo}
use Rattle.edd_syntax.specs.declared.expr.Expr.{Expr}
use Rattle.edd_syntax.specs.declared.expr.Expr.TheVariants as e
use Rattle.edd_syntax.specs.declared.expr.Argument.{Argument}
use Rattle.edd_syntax.specs.declared.stmt.Stmt.{Stmt}
use Rattle.edd_syntax.specs.declared.stmt.Stmt.TheVariants as s
use Rattle.edd_syntax.specs.declared.stmt.Part.{Part}
use Rattle.edd_syntax.specs.TreeView.{expr_of, argument_of, stmt_of, part_of}
use Rattle.edd_syntax.proofs.TreeRows.{call_is, block_is, switch_is}
use Rattle.edd_syntax.specs.Expression as pure
use Rattle.edd_syntax.specs.Expression.{arguments_from}
use Rattle.edd_syntax.specs.Statement as statement
use Rattle.edd_syntax.specs.Statement.{body_from}
use Rattle.edd_syntax.specs.Size.{nodes, argument_nodes, declarator_nodes, statement_nodes, body_nodes}

pub nodes_pos : {R : Type 0} (x : pure.Expr R) → 1 ≤ nodes x
nodes_pos (pure.Literal value) = omega arith
nodes_pos _ = omega arith

pub statement_nodes_pos : {R : Type 0} (x : statement.Stmt R) → 1 ≤ statement_nodes x
statement_nodes_pos statement.Empty = omega arith
statement_nodes_pos _ = omega arith

-- ---- spending

-- spending twice is spending the sum
pub spent_then : (left rest a b : ℕ) → rest ≡ left - a → rest - b ≡ left - (a + b)
spent_then left rest a b h = omega (arith, h)

pub ruleset spends = (spent_then)

-- ---- a loop over a slice, where the nodes of a list are those of its first element and those of
-- the others

module _ {X Y : Type 0} (size : List Y → ℕ) (view : X → Y) (splits : (y : Y) (ys : List Y)
    → size (y ∷ ys) ≡ size (y ∷ []) + size ys) where
  -- what is left after the elements from the i-th on
  abbrev pub spent_from : (left : ℕ) → ℕ → List X → ℕ
  spent_from left i xs = left - size (map view (drop i xs))

  next_size : (left i : ℕ) (xs : List X) (x : X) → i < length xs → x ≡ get_or xs i x
      → spent_from left i xs ≡ left - (size (view x ∷ []) + size (map view (drop (i + 1) xs)))
  next_size left i xs x h is =
      at_drop_more (λ ys. left - size (map view ys)) xs i x h ∙ ap (λ n. left - n) (splits _ _)
      ∙ ap (λ y. left - (size (view y ∷ []) + size (map view (drop (i + 1) xs)))) (sym is)

  -- after an element
  pub goes_on : (left rest i : ℕ) (xs : List X) (x : X) (all : ℕ) → i < length xs
      → x ≡ get_or xs i x → rest ≡ left - size (view x ∷ []) → spent_from left i xs ≡ all
      → spent_from rest (i + 1) xs ≡ all
  goes_on left rest i xs x all h is after invariant = spent_then left rest _ _ after
      ∙ sym (next_size left i xs x h is) ∙ invariant

pub argument_nodes_split : {R : Type 0} (x : pure.Argument R) (xs : List (pure.Argument R))
    → argument_nodes (arguments_from (x ∷ xs)) ≡ argument_nodes (arguments_from (x ∷ []))
    + argument_nodes (arguments_from xs)
argument_nodes_split (pure.Text text) xs = omega arith
argument_nodes_split (pure.Value e) xs = omega arith

pub body_nodes_split : {R : Type 0} (x : statement.Part R) (xs : List (statement.Part R))
    → body_nodes (body_from (x ∷ xs)) ≡ body_nodes (body_from (x ∷ [])) + body_nodes (body_from xs)
body_nodes_split (statement.Declare declarators) xs = omega arith
body_nodes_split _ xs = omega arith

pub declarator_nodes_split : {R : Type 0} (d : statement.Declarator R)
    (ds : List (statement.Declarator R)) → declarator_nodes (d ∷ ds) ≡ declarator_nodes (d ∷ [])
    + declarator_nodes ds
declarator_nodes_split d ds = omega arith

-- ---- trees whose children a vector holds

pub spent_call : {R S : Type 0} (f : R → S) (x : Expr R) (token : TokenNo) (function : R)
    (v : Vec (Argument R) Global) (items : List (Argument R)) (budget left : ℕ) (r : ℕ)
    → x ≡ e.Call token function v → items ≡ v.items → left ≡ budget - 1
    → r ≡ left - argument_nodes (arguments_from (map (argument_of f) items))
    → r ≡ budget - nodes (expr_of f x)
spent_call f x token function v items budget left r is same first last =
    last ∙ ap (λ xs. left - argument_nodes (arguments_from (map (argument_of f) xs))) same
    ∙ spent_then budget left 1 _ first ∙ ap (λ y. budget - nodes y)
    (sym (call_is f x token function v is))

pub spent_block : {R S : Type 0} (f : R → S) (x : Stmt R) (v : Vec (Part R) Global)
    (items : List (Part R)) (budget left : ℕ) (r : ℕ) → x ≡ s.Block v → items ≡ v.items
    → left ≡ budget - 1 → r ≡ left - body_nodes (body_from (map (part_of f) items))
    → r ≡ budget - statement_nodes (stmt_of f x)
spent_block f x v items budget left r is same first last =
    last ∙ ap (λ xs. left - body_nodes (body_from (map (part_of f) xs))) same
    ∙ spent_then budget left 1 _ first ∙ ap (λ y. budget - statement_nodes y)
    (sym (block_is f x v is))

pub spent_switch : {R S : Type 0} (f : R → S) (x : Stmt R) (on : Expr R) (v : Vec (Part R) Global)
    (items : List (Part R)) (budget left rest : ℕ) (r : ℕ) → x ≡ s.Switch on v
    → items ≡ v.items → left ≡ budget - 1 → rest ≡ left - nodes (expr_of f on)
    → r ≡ rest - body_nodes (body_from (map (part_of f) items))
    → r ≡ budget - statement_nodes (stmt_of f x)
spent_switch f x on v items budget left rest r is same first second last =
    last ∙ ap (λ xs. rest - body_nodes (body_from (map (part_of f) xs))) same
    ∙ spent_then left rest _ _ second ∙ spent_then budget left 1 _ first
    ∙ ap (λ y. budget - statement_nodes y) (sym (switch_is f x on v is))

-- they are too many exactly if of one more than the limit nothing is left
pub over_limit : (r limit n : ℕ) → r ≡ limit + 1 - n → nat_eq r 0 ≡ nat_lt limit n
over_limit r limit n h = rw h (grind (arith, nat_tests))
