-- What is told of bodies without the places: what the rules of the profile say.
use Rattle.std.proofs.Common.{◌≡◌, refl, ap, ◌∙◌, Bool, true, not, ◌||◌, map}
use Rattle.std.specs.Prelude.{Vec}
use Rattle.std.specs.List.{flat_map}
use Rattle.std.specs.declared.alloc.Global.{Global}
use Rattle.edd_breaches.specs.Told.{refusals}
use Rattle.edd_syntax.specs.declared.reference.Target.{Target}
use Rattle.edd_syntax.specs.declared.stmt.Stmt.{Stmt, Row_of-Part, end_of-Part, more_of-Part}
use Rattle.edd_syntax.specs.declared.stmt.Stmt.TheVariants.{Empty, Evaluate, Block', If', IfElse', While', Do', For', Switch', Break, Continue, Return}
use Rattle.edd_syntax.specs.declared.stmt.Stmt.TheVariants as s
use Rattle.edd_syntax.specs.declared.stmt.Part.{Part}
use Rattle.edd_syntax.specs.declared.stmt.Part.TheVariants.{Declare, Statement, CaseLabel, DefaultLabel}
use Rattle.edd_syntax.specs.Statement.{body_from}
use Rattle.edd_syntax.specs.TreeView.{numbered_stmt, numbered_part, parts_in}
use Rattle.edd_syntax.specs.SubsetRules.{Labels, no_labels, breaks_outside, breaks_outside_in, repeated_labels, repeated_labels_inside}
use Rattle.edd_syntax.proofs.TreeRows.{block_is}
use Rattle.edd_breaches.specs.Along.{told_along}
use Rattle.edd_types.specs.Breaks.{breaks_told, breaks_told_in, breaks_told_of}
use Rattle.edd_types.specs.Labels.{labels_behind, labels_told, labels_told_in, labels_told_inside}
use Rattle.edd_types.proofs.BodyRows.{breaks_in_block, labels_in_block}
use Rattle.edd_types.proofs.PlacesForgotten.{if_forgotten, joined}

-- ---- `break` and `continue`

mutual
  breaks_are : (l w : Bool) (x : Stmt Target)
      → refusals (breaks_told l w x) ≡ breaks_outside l w (numbered_stmt x)
  breaks_are l w Empty = refl
  breaks_are l w (Evaluate e) = refl
  breaks_are l w (Block' shape parts) = breaks_in_are l w _ parts
  breaks_are l w (If' test p first) = breaks_are l w first
  breaks_are l w (IfElse' test p first q otherwise) = joined _ _ _ _ (breaks_are l w first)
      (breaks_are l w otherwise)
  breaks_are l w (While' test p body) = breaks_are true w body
  breaks_are l w (Do' p body test) = breaks_are true w body
  breaks_are l w (For' initial test update p body) = breaks_are true w body
  breaks_are l w (Switch' on shape parts) = breaks_in_are l true _ parts
  breaks_are l w (Break at) = if_forgotten (not (l || w)) _ at
  breaks_are l w (Continue at) = if_forgotten (not l) _ at
  breaks_are l w Return = refl

  breaks_in_are : (l w : Bool) (n : _) (row : Row_of-Part Target n)
      → refusals (breaks_told_in l w row)
      ≡ breaks_outside_in l w (body_from (parts_in (λ r. r) row))
  breaks_in_are l w n end_of-Part = refl
  breaks_in_are l w n (more_of-Part (Statement first) rest) =
      joined _ _ _ _ (breaks_are l w first) (breaks_in_are l w _ rest)
  breaks_in_are l w n (more_of-Part _ rest) = breaks_in_are l w _ rest

pub body_breaks_are : (l w : Bool) (v : Vec (Part Target) Global)
    → refusals (flat_map (breaks_told_of l w) v.items)
    ≡ breaks_outside_in l w (body_from (map numbered_part v.items))
body_breaks_are l w v = ap refusals (breaks_in_block l w (s.Block v) v v.items refl refl)
    ∙ breaks_are l w (s.Block v) ∙ ap (breaks_outside l w) (block_is (λ r. r) (s.Block v) v refl)

-- ---- labels

mutual
  labels_inside_are : (x : Stmt Target)
      → refusals (labels_told_inside x) ≡ repeated_labels_inside (numbered_stmt x)
  labels_inside_are Empty = refl
  labels_inside_are (Evaluate e) = refl
  labels_inside_are (Block' shape parts) = labels_in_are _ parts no_labels
  labels_inside_are (If' test p first) = labels_inside_are first
  labels_inside_are (IfElse' test p first q otherwise) = joined _ _ _ _ (labels_inside_are first)
      (labels_inside_are otherwise)
  labels_inside_are (While' test p body) = labels_inside_are body
  labels_inside_are (Do' p body test) = labels_inside_are body
  labels_inside_are (For' initial test update p body) = labels_inside_are body
  labels_inside_are (Switch' on shape parts) = labels_in_are _ parts no_labels
  labels_inside_are (Break at) = refl
  labels_inside_are (Continue at) = refl
  labels_inside_are Return = refl

  labels_in_are : (n : _) (row : Row_of-Part Target n) (so_far : Labels)
      → refusals (labels_told_in so_far row)
      ≡ repeated_labels so_far (body_from (parts_in (λ r. r) row))
  labels_in_are n end_of-Part so_far = refl
  labels_in_are n (more_of-Part (Declare declarators) rest) so_far = labels_in_are _ rest so_far
  labels_in_are n (more_of-Part (Statement first) rest) so_far =
      joined _ _ _ _ (labels_inside_are first) (labels_in_are _ rest so_far)
  labels_in_are n (more_of-Part (CaseLabel at label) rest) so_far =
      joined _ _ _ _ (if_forgotten _ _ at) (labels_in_are _ rest _)
  labels_in_are n (more_of-Part (DefaultLabel at) rest) so_far =
      joined _ _ _ _ (if_forgotten _ _ at) (labels_in_are _ rest _)

pub body_labels_are : (v : Vec (Part Target) Global)
    → refusals (told_along labels_told labels_behind no_labels v.items)
    ≡ repeated_labels no_labels (body_from (map numbered_part v.items))
body_labels_are v = ap refusals (labels_in_block (s.Block v) v v.items refl refl)
    ∙ labels_inside_are (s.Block v)
    ∙ ap repeated_labels_inside (block_is (λ r. r) (s.Block v) v refl)
