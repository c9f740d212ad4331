-- What is told of a call whose arguments a vector holds, over the list of the vector's items.
use Rattle.std.proofs.Common.{◌≡◌, refl, sym, ap, ◌∙◌, Bool, List, ◌∷◌, ◌++◌, map}
use Rattle.std.specs.Prelude.{Vec}
use Rattle.std.specs.List.{flat_map}
use Rattle.std.specs.declared.alloc.Global.{Global}
use Rattle.edd_syntax.specs.declared.numbers.TokenNo.{TokenNo}
use Rattle.edd_syntax.specs.declared.reference.Target.{Target}
use Rattle.edd_syntax.specs.declared.expr.Expr.{Expr, Row_of-Argument, end_of-Argument, more_of-Argument}
use Rattle.edd_syntax.specs.declared.expr.Expr.TheVariants as e
use Rattle.edd_syntax.specs.declared.expr.Argument.{Argument}
use Rattle.edd_syntax.specs.declared.expr.Argument.TheBlock.{items-the_row-Argument, hidden-the_row-Argument-0, items_hidden-the_row-Argument-0}
use Rattle.edd_syntax.specs.Expression.{arguments_from}
use Rattle.edd_syntax.specs.TreeView.{arguments_in, numbered_argument}
use Rattle.edd_types.specs.declared.sought.Sought.{Sought}
use Rattle.edd_types.specs.Expressions.{call_told, expr_told, arguments_told_in, argument_told}

viewed_items : (n : _) (row : Row_of-Argument Target n)
    → arguments_in (λ r. r) row ≡ map numbered_argument (items-the_row-Argument Target n row)
viewed_items n end_of-Argument = refl
viewed_items n (more_of-Argument first rest) =
    ap (λ xs. numbered_argument first ∷ xs) (viewed_items _ rest)

told_items : (s : Sought) (n : _) (row : Row_of-Argument Target n) → arguments_told_in s row
    ≡ flat_map (argument_told s) (items-the_row-Argument Target n row)
told_items s n end_of-Argument = refl
told_items s n (more_of-Argument first rest) =
    ap (λ xs. argument_told s first ++ xs) (told_items s _ rest)

pub told_in_call : (s : Sought) (is_statement : Bool) (x : Expr Target) (at : TokenNo)
    (function : Target) (v : Vec (Argument Target) Global) (xs ys : List (Argument Target))
    → xs ≡ v.items → ys ≡ v.items → x ≡ e.Call at function v
    → call_told s is_statement function (arguments_from (map numbered_argument xs)) at
    ++ flat_map (argument_told s) ys ≡ expr_told s is_statement x
told_in_call s is_statement x at function v xs ys same same' is =
    ap (λ zs. call_told s is_statement function (arguments_from zs) at
    ++ flat_map (argument_told s) ys)
    (ap (map numbered_argument) (same ∙ sym (items_hidden-the_row-Argument-0 Target v))
    ∙ sym (viewed_items _ (hidden-the_row-Argument-0 Target v)))
    ∙ ap (λ zs. call_told s is_statement function
    (arguments_from (arguments_in (λ r. r) (hidden-the_row-Argument-0 Target v))) at ++ zs)
    (ap (flat_map (argument_told s)) (same' ∙ sym (items_hidden-the_row-Argument-0 Target v))
    ∙ sym (told_items s _ (hidden-the_row-Argument-0 Target v)))
    ∙ sym (ap (expr_told s is_statement) is)
