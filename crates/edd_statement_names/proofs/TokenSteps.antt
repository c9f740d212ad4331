-- The tokens of copied statements whose parts a vector holds.
use Rattle.std.proofs.Common.{◌≡◌, refl, sym, ap, ◌∙◌, List, ◌++◌}
use Rattle.std.specs.Prelude.{Vec}
use Rattle.std.specs.List.{flat_map}
use Rattle.std.specs.declared.alloc.Global.{Global}
use Rattle.edd_name_meanings.specs.TokensIn.{tokens_in_expr, tokens_in_stmt, part_tokens, tokens_in_part}
use Rattle.edd_syntax.specs.declared.expr.Expr.{Expr}
use Rattle.edd_syntax.specs.declared.stmt.Stmt.{Stmt, Row_of-Part, end_of-Part, more_of-Part}
use Rattle.edd_syntax.specs.declared.stmt.Stmt.TheVariants as s
use Rattle.edd_syntax.specs.declared.stmt.Part.{Part}
use Rattle.edd_syntax.specs.declared.stmt.Part.TheBlock.{items-the_row-Part, hidden-the_row-Part-0, items_hidden-the_row-Part-0}

parts_in_row : {R : Type 0} (n : _) (row : Row_of-Part R n)
    → part_tokens row ≡ flat_map tokens_in_part (items-the_row-Part R n row)
parts_in_row n end_of-Part = refl
parts_in_row n (more_of-Part first rest) = ap (λ ts. tokens_in_part first ++ ts)
    (parts_in_row _ rest)

parts_in_vec : {R : Type 0} (v : Vec (Part R) Global)
    → part_tokens (hidden-the_row-Part-0 R v) ≡ flat_map tokens_in_part v.items
parts_in_vec {R} v = parts_in_row _ (hidden-the_row-Part-0 R v)
    ∙ ap (flat_map tokens_in_part) (items_hidden-the_row-Part-0 R v)

pub block_kept : {R S : Type 0} (x : Stmt R) (v : Vec (Part R) Global) (items : List (Part R))
    (w : Vec (Part S) Global) → x ≡ s.Block v → items ≡ v.items
    → flat_map tokens_in_part w.items ≡ flat_map tokens_in_part items
    → tokens_in_stmt (s.Block w) ≡ tokens_in_stmt x
block_kept x v items w is same kept =
    parts_in_vec w ∙ kept ∙ ap (flat_map tokens_in_part) same
    ∙ sym (ap tokens_in_stmt is ∙ parts_in_vec v)

pub switch_kept : {R S : Type 0} (x : Stmt R) (on : Expr R) (v : Vec (Part R) Global)
    (items : List (Part R)) (on' : Expr S) (w : Vec (Part S) Global) → x ≡ s.Switch on v
    → items ≡ v.items
    → tokens_in_expr on' ++ flat_map tokens_in_part w.items
    ≡ tokens_in_expr on ++ flat_map tokens_in_part items
    → tokens_in_stmt (s.Switch on' w) ≡ tokens_in_stmt x
switch_kept x on v items on' w is same kept =
    ap (λ ts. tokens_in_expr on' ++ ts) (parts_in_vec w) ∙ kept
    ∙ ap (λ ts. tokens_in_expr on ++ ts) (ap (flat_map tokens_in_part) same ∙ sym (parts_in_vec v))
    ∙ sym (ap tokens_in_stmt is)
