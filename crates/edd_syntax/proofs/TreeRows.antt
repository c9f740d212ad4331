-- The view of a tree whose children a vector holds, over the list of the vector's items.
use Rattle.std.proofs.Common.{◌≡◌, refl, sym, ap, ◌∙◌, List, ◌∷◌}
use Rattle.std.specs.Prelude.{Vec, map}
use Rattle.std.specs.declared.alloc.Global.{Global}
use Rattle.edd_syntax.specs.declared.numbers.TokenNo.{TokenNo}
use Rattle.edd_syntax.specs.declared.expr.Expr.{Expr, Row_of-Argument, end_of-Argument, more_of-Argument}
use Rattle.edd_syntax.specs.declared.expr.Expr.TheVariants as e
use Rattle.edd_syntax.specs.declared.expr.Argument.{Argument}
use Rattle.edd_syntax.specs.declared.expr.Argument.TheBlock.{items-the_row-Argument, hidden-the_row-Argument-0, items_hidden-the_row-Argument-0}
use Rattle.edd_syntax.specs.declared.stmt.Stmt.{Stmt, Row_of-Part, end_of-Part, more_of-Part}
use Rattle.edd_syntax.specs.declared.stmt.Stmt.TheVariants as s
use Rattle.edd_syntax.specs.declared.stmt.Part.{Part}
use Rattle.edd_syntax.specs.declared.stmt.Part.TheBlock.{items-the_row-Part, hidden-the_row-Part-0, items_hidden-the_row-Part-0}
use Rattle.edd_syntax.specs.Expression as pure
use Rattle.edd_syntax.specs.Statement as statement
use Rattle.edd_syntax.specs.TreeView.{expr_of, arguments_in, argument_of, stmt_of, parts_in, part_of}

arguments_items : {R S : Type 0} (f : R → S) (n : _) (row : Row_of-Argument R n)
    → arguments_in f row ≡ map (argument_of f) (items-the_row-Argument R n row)
arguments_items f n end_of-Argument = refl
arguments_items f n (more_of-Argument first rest) = ap (λ xs. argument_of f first ∷ xs)
    (arguments_items f _ rest)

arguments_of_vec : {R S : Type 0} (f : R → S) (v : Vec (Argument R) Global)
    → arguments_in f (hidden-the_row-Argument-0 R v) ≡ map (argument_of f) v.items
arguments_of_vec {R} f v = arguments_items f _ (hidden-the_row-Argument-0 R v)
    ∙ ap (map (argument_of f)) (items_hidden-the_row-Argument-0 R v)

parts_items : {R S : Type 0} (f : R → S) (n : _) (row : Row_of-Part R n)
    → parts_in f row ≡ map (part_of f) (items-the_row-Part R n row)
parts_items f n end_of-Part = refl
parts_items f n (more_of-Part first rest) = ap (λ xs. part_of f first ∷ xs) (parts_items f _ rest)

parts_of_vec : {R S : Type 0} (f : R → S) (v : Vec (Part R) Global)
    → parts_in f (hidden-the_row-Part-0 R v) ≡ map (part_of f) v.items
parts_of_vec {R} f v = parts_items f _ (hidden-the_row-Part-0 R v)
    ∙ ap (map (part_of f)) (items_hidden-the_row-Part-0 R v)

-- ---- what a tree stands for that is a variant over a vector

pub call_is : {R S : Type 0} (f : R → S) (x : Expr R) (at : TokenNo) (function : R)
    (v : Vec (Argument R) Global) → x ≡ e.Call at function v
    → expr_of f x ≡ pure.Call (f function) (pure.arguments_from (map (argument_of f) v.items))
call_is f x at function v is = ap (expr_of f) is
    ∙ ap (λ xs. pure.Call (f function) (pure.arguments_from xs)) (arguments_of_vec f v)

pub block_is : {R S : Type 0} (f : R → S) (x : Stmt R) (v : Vec (Part R) Global) → x ≡ s.Block v
    → stmt_of f x ≡ statement.Block (statement.body_from (map (part_of f) v.items))
block_is f x v is = ap (stmt_of f) is ∙ ap (λ xs. statement.Block (statement.body_from xs))
    (parts_of_vec f v)

pub switch_is : {R S : Type 0} (f : R → S) (x : Stmt R) (on : Expr R) (v : Vec (Part R) Global)
    → x ≡ s.Switch on v → stmt_of f x ≡ statement.Switch (expr_of f on)
    (statement.body_from (map (part_of f) v.items))
switch_is f x on v is = ap (stmt_of f) is
    ∙ ap (λ xs. statement.Switch (expr_of f on) (statement.body_from xs)) (parts_of_vec f v)

-- ---- a tree rebuilt from an equal list

pub call_rebuilt : {R S : Type 0} (f : R → S) (x : Expr R) (at : TokenNo) (function : R)
    (v w : Vec (Argument R) Global) (items : List (Argument R)) → x ≡ e.Call at function v
    → items ≡ v.items → map (argument_of f) w.items ≡ map (argument_of f) items
    → expr_of f (e.Call at function w) ≡ expr_of f x
call_rebuilt f x at function v w items is same_items same =
    call_is f _ at function w refl ∙ ap (λ xs. pure.Call (f function) (pure.arguments_from xs))
    (same ∙ ap (map (argument_of f)) same_items) ∙ sym (call_is f x at function v is)
