-- What is told of a statement whose parts a vector holds, over the list of the vector's items.
use Rattle.std.proofs.Common.{◌≡◌, refl, sym, ap, ◌∙◌, Bool, true, List, ◌++◌}
use Rattle.std.specs.Prelude.{Vec, false, []}
use Rattle.std.specs.List.{flat_map}
use Rattle.std.specs.declared.alloc.Global.{Global}
use Rattle.edd_breaches.specs.Told.{Told}
use Rattle.edd_syntax.specs.declared.reference.Target.{Target}
use Rattle.edd_syntax.specs.declared.expr.Expr.{Expr}
use Rattle.edd_syntax.specs.declared.stmt.Stmt.{Stmt, Row_of-Part, end_of-Part, more_of-Part}
use Rattle.edd_syntax.specs.declared.stmt.Stmt.TheVariants as s
use Rattle.edd_syntax.specs.declared.stmt.Part.{Part}
use Rattle.edd_syntax.specs.declared.stmt.Part.TheBlock.{items-the_row-Part, hidden-the_row-Part-0, items_hidden-the_row-Part-0}
use Rattle.edd_syntax.specs.SubsetRules.{Labels, no_labels}
use Rattle.edd_types.specs.declared.sought.Sought.{Sought}
use Rattle.edd_breaches.specs.Along.{told_along}
use Rattle.edd_types.specs.Breaks.{breaks_told, breaks_told_in, breaks_told_of}
use Rattle.edd_types.specs.Expressions.{expr_told, stmt_told, parts_told_in, part_told}
use Rattle.edd_types.specs.Labels.{labels_told, labels_told_in, labels_told_inside, labels_behind}

-- ---- parts that are judged by themselves

module _ (of : Part Target → List Told) (in_row : (n : _) → Row_of-Part Target n → List Told)
    (none : in_row _ end_of-Part ≡ [])
    (more : (n : _) (first : Part Target) (rest : Row_of-Part Target n)
    → in_row _ (more_of-Part first rest) ≡ of first ++ in_row n rest) where
  items_told : (n : _) (row : Row_of-Part Target n)
      → in_row n row ≡ flat_map of (items-the_row-Part Target n row)
  items_told n end_of-Part = none
  items_told n (more_of-Part first rest) = more _ first rest
      ∙ ap (λ xs. of first ++ xs) (items_told _ rest)

  vec_told : (v : Vec (Part Target) Global)
      → flat_map of v.items ≡ in_row _ (hidden-the_row-Part-0 Target v)
  vec_told v = sym (items_told _ (hidden-the_row-Part-0 Target v)
      ∙ ap (flat_map of) (items_hidden-the_row-Part-0 Target v))

module _ (in_loop in_switch : Bool) (x : Stmt Target) (v : Vec (Part Target) Global)
    (items : List (Part Target)) (same : items ≡ v.items) where
  pub breaks_in_block : x ≡ s.Block v
      → flat_map (breaks_told_of in_loop in_switch) items ≡ breaks_told in_loop in_switch x
  breaks_in_block is = ap (flat_map (breaks_told_of in_loop in_switch)) same
      ∙ vec_told (breaks_told_of in_loop in_switch) (λ n. breaks_told_in in_loop in_switch) refl
      (λ n first rest. refl) v ∙ sym (ap (breaks_told in_loop in_switch) is)

  pub breaks_in_switch : (on : Expr Target) → x ≡ s.Switch on v
      → flat_map (breaks_told_of in_loop true) items ≡ breaks_told in_loop in_switch x
  breaks_in_switch on is = ap (flat_map (breaks_told_of in_loop true)) same
      ∙ vec_told (breaks_told_of in_loop true) (λ n. breaks_told_in in_loop true) refl
      (λ n first rest. refl) v ∙ sym (ap (breaks_told in_loop in_switch) is)

module _ (b : Sought) (x : Stmt Target) (v : Vec (Part Target) Global)
    (items : List (Part Target)) (same : items ≡ v.items) where
  pub expressions_in_block : x ≡ s.Block v → flat_map (part_told b) items ≡ stmt_told b x
  expressions_in_block is = ap (flat_map (part_told b)) same
      ∙ vec_told (part_told b) (λ n. parts_told_in b) refl (λ n first rest. refl) v
      ∙ sym (ap (stmt_told b) is)

  pub expressions_in_switch : (on : Expr Target) → x ≡ s.Switch on v
      → expr_told b false on ++ flat_map (part_told b) items ≡ stmt_told b x
  expressions_in_switch on is = ap (λ xs. expr_told b false on ++ xs)
      (ap (flat_map (part_told b)) same
      ∙ vec_told (part_told b) (λ n. parts_told_in b) refl (λ n first rest. refl) v)
      ∙ sym (ap (stmt_told b) is)

-- ---- labels, which are judged by those before them

label_items : (n : _) (row : Row_of-Part Target n) (so_far : Labels) → labels_told_in so_far row
    ≡ told_along labels_told labels_behind so_far (items-the_row-Part Target n row)
label_items n end_of-Part so_far = refl
label_items n (more_of-Part first rest) so_far = ap (λ xs. labels_told so_far first ++ xs)
    (label_items _ rest (labels_behind so_far first))

labels_of_vec : (v : Vec (Part Target) Global) (items : List (Part Target)) → items ≡ v.items
    → told_along labels_told labels_behind no_labels items
    ≡ labels_told_in no_labels (hidden-the_row-Part-0 Target v)
labels_of_vec v items same = ap (told_along labels_told labels_behind no_labels)
    (same ∙ sym (items_hidden-the_row-Part-0 Target v))
    ∙ sym (label_items _ (hidden-the_row-Part-0 Target v) no_labels)

module _ (x : Stmt Target) (v : Vec (Part Target) Global) (items : List (Part Target))
    (same : items ≡ v.items) where
  pub labels_in_block : x ≡ s.Block v
      → told_along labels_told labels_behind no_labels items ≡ labels_told_inside x
  labels_in_block is = labels_of_vec v items same ∙ sym (ap labels_told_inside is)

  pub labels_in_switch : (on : Expr Target) → x ≡ s.Switch on v
      → told_along labels_told labels_behind no_labels items ≡ labels_told_inside x
  labels_in_switch on is = labels_of_vec v items same ∙ sym (ap labels_told_inside is)
