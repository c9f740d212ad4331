-- What is told of two equal labels and of a second `default` of one `switch`.
use Rattle.std.specs.Prelude.{◌≡◌, true, ℤ, List, [], ◌∷◌, ◌++◌, is_some}
use Rattle.std.specs.Ordering.{int_cmp}
use Rattle.std.specs.BTreeMap as tree
use Rattle.edd_breaches.specs.Told.{Told, told_if}
use Rattle.edd_syntax.specs.declared.reference.Target.{Target}
use Rattle.edd_syntax.specs.declared.stmt.Stmt.{Stmt, Row_of-Part, end_of-Part, more_of-Part}
use Rattle.edd_syntax.specs.declared.stmt.Stmt.TheVariants.{Empty, Evaluate, Block', If', IfElse', While', Do', For', Switch', Break, Continue, Return}
use Rattle.edd_syntax.specs.declared.stmt.Part.{Part}
use Rattle.edd_syntax.specs.declared.stmt.Part.TheVariants.{Declare, Statement, CaseLabel, DefaultLabel}
use Rattle.edd_syntax.specs.TwosComplement.{wrap}
use Rattle.edd_syntax.specs.Refusal.{DuplicateCase}
use Rattle.edd_syntax.specs.SubsetRules.{Labels, no_labels, is_label_in}
use Rattle.edd_types.specs.declared.labels.Labels as code

-- the labels after a part
abbrev pub labels_behind : Labels → Part Target → Labels
labels_behind so_far (Declare declarators) = so_far
labels_behind so_far (Statement first) = so_far
labels_behind so_far (CaseLabel at label) = record so_far { cases = wrap 32 label ∷ so_far.cases }
labels_behind so_far (DefaultLabel at) = record so_far { has_default = true }

-- of a part after such labels
abbrev mutual
  pub labels_told : Labels → Part Target → List Told
  labels_told so_far (Declare declarators) = []
  labels_told so_far (Statement first) = labels_told_inside first
  labels_told so_far (CaseLabel at label) =
      told_if (is_label_in so_far.cases (wrap 32 label)) DuplicateCase at
  labels_told so_far (DefaultLabel at) = told_if so_far.has_default DuplicateCase at

  -- of the parts that a vector holds
  pub labels_told_in : {n : _} → Labels → Row_of-Part Target n → List Told
  labels_told_in so_far end_of-Part = []
  labels_told_in so_far (more_of-Part first rest) = labels_told so_far first
      ++ labels_told_in (labels_behind so_far first) rest

  -- of the bodies inside a statement, each with labels of its own
  pub labels_told_inside : Stmt Target → List Told
  labels_told_inside Empty = []
  labels_told_inside (Evaluate e) = []
  labels_told_inside (Block' shape parts) = labels_told_in no_labels parts
  labels_told_inside (If' test p first) = labels_told_inside first
  labels_told_inside (IfElse' test p first q otherwise) = labels_told_inside first
      ++ labels_told_inside otherwise
  labels_told_inside (While' test p body) = labels_told_inside body
  labels_told_inside (Do' p body test) = labels_told_inside body
  labels_told_inside (For' initial test update p body) = labels_told_inside body
  labels_told_inside (Switch' on shape parts) = labels_told_in no_labels parts
  labels_told_inside (Break at) = []
  labels_told_inside (Continue at) = []
  labels_told_inside Return = []

-- the code has these labels
pub record Holds (labels : code.Labels) (so_far : Labels) : Type 0 where
  pub cases : (z : ℤ) → is_some (tree.get int_cmp labels.cases z) ≡ is_label_in so_far.cases z
  pub has_default : is_some labels.default ≡ so_far.has_default
