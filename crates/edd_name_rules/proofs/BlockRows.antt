-- The blocks of a statement whose parts a vector holds, over the list of the vector's items.
use Rattle.std.proofs.Common.{◌≡◌, refl, sym, ap, ◌∙◌, List, [], ◌++◌}
use Rattle.std.specs.Prelude.{Vec}
use Rattle.std.specs.declared.alloc.Global.{Global}
use Rattle.edd_syntax.specs.declared.reference.Path.{Path}
use Rattle.edd_syntax.specs.declared.expr.Expr.{Expr}
use Rattle.edd_syntax.specs.declared.stmt.Stmt.{Stmt, Row_of-Part, end_of-Part, more_of-Part}
use Rattle.edd_syntax.specs.declared.stmt.Stmt.TheVariants as s
use Rattle.edd_syntax.specs.declared.stmt.Part.{Part}
use Rattle.edd_syntax.specs.declared.stmt.Part.TheBlock.{items-the_row-Part, hidden-the_row-Part-0, items_hidden-the_row-Part-0}
use Rattle.edd_syntax.specs.Text.{Name}
use Rattle.edd_breaches.specs.Along.{told_along}
use Rattle.edd_name_rules.specs.NamesTold.{inside_told, locals_told, part_told, with_locals}

told_items : (b : List Name) (n : _) (row : Row_of-Part Path n)
    → locals_told b row ≡ told_along part_told with_locals b (items-the_row-Part Path n row)
told_items b n end_of-Part = refl
told_items b n (more_of-Part first rest) = ap (λ xs. part_told b first ++ xs)
    (told_items (with_locals b first) _ rest)

told_of_vec : (v : Vec (Part Path) Global) → locals_told [] (hidden-the_row-Part-0 Path v)
    ≡ told_along part_told with_locals [] v.items
told_of_vec v = told_items [] _ (hidden-the_row-Part-0 Path v)
    ∙ ap (told_along part_told with_locals []) (items_hidden-the_row-Part-0 Path v)

pub told_block : (x : Stmt Path) (v : Vec (Part Path) Global) → x ≡ s.Block v
    → told_along part_told with_locals [] v.items ≡ inside_told x
told_block x v is = sym (ap inside_told is ∙ told_of_vec v)

pub told_switch : (x : Stmt Path) (on : Expr Path) (v : Vec (Part Path) Global)
    → x ≡ s.Switch on v → told_along part_told with_locals [] v.items ≡ inside_told x
told_switch x on v is = sym (ap inside_told is ∙ told_of_vec v)
