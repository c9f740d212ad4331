-- The paths in trees of the code, in the order of the source: one for each use of a name.
use Rattle.std.specs.Prelude.{List, Option, map, option_map}
use Rattle.std.specs.List.{flat_map}
use Rattle.edd_syntax.specs.declared.cond.Arm.{Arm}
use Rattle.edd_syntax.specs.declared.cond.Cond.{Cond}
use Rattle.edd_syntax.specs.declared.expr.Argument.{Argument}
use Rattle.edd_syntax.specs.declared.expr.Expr.{Expr}
use Rattle.edd_syntax.specs.declared.item.Attribute.{Attribute}
use Rattle.edd_syntax.specs.declared.item.Item.{Item}
use Rattle.edd_syntax.specs.declared.reference.Path.{Path}
use Rattle.edd_syntax.specs.declared.stmt.Declarator.{Declarator}
use Rattle.edd_syntax.specs.declared.stmt.Part.{Part}
use Rattle.edd_syntax.specs.declared.stmt.Stmt.{Stmt}
use Rattle.edd_syntax.specs.Conditional.{conds_from, arms_from}
use Rattle.edd_syntax.specs.Expression.{arguments_from}
use Rattle.edd_syntax.specs.ItemView.{cond_of, arm_of, attribute_of, item_of}
use Rattle.edd_syntax.specs.ReferenceOrder.{expr_references, argument_references, optional_references, declarator_references, stmt_references, body_references, cond_references, conds_references, arms_references, attribute_references, item_references}
use Rattle.edd_syntax.specs.Statement.{body_from}
use Rattle.edd_syntax.specs.TreeView.{expr_of, argument_of, declarator_of, stmt_of, part_of}

-- of an expression
abbrev pub paths_in_expr : Expr Path → List Path
paths_in_expr e = expr_references (expr_of (λ p. p) e)

-- of an expression that may be missing
abbrev pub paths_in_optional : Option (Expr Path) → List Path
paths_in_optional e = optional_references (option_map (expr_of (λ p. p)) e)

-- of arguments
abbrev pub paths_in_arguments : List (Argument Path) → List Path
paths_in_arguments all = argument_references (arguments_from (map (argument_of (λ p. p)) all))

-- of declarators
abbrev pub paths_in_declarators : List (Declarator Path) → List Path
paths_in_declarators all = declarator_references (map (declarator_of (λ p. p)) all)

-- of a statement
abbrev pub paths_in_stmt : Stmt Path → List Path
paths_in_stmt s = stmt_references (stmt_of (λ p. p) s)

-- of the parts of a body
abbrev pub paths_in_parts : List (Part Path) → List Path
paths_in_parts all = body_references (body_from (map (part_of (λ p. p)) all))

-- of a conditional, where `seen` is what a value stands for and `of` gives its paths
abbrev pub paths_in_cond : {V W : Type 0} → (seen : V → W) → (of : W → List Path) → Cond Path V
    → List Path
paths_in_cond seen of c = cond_references of (cond_of (λ p. p) seen c)

-- of conditionals
abbrev pub paths_in_conds : {V W : Type 0} → (seen : V → W) → (of : W → List Path)
    → List (Cond Path V) → List Path
paths_in_conds seen of all = conds_references of (conds_from (map (cond_of (λ p. p) seen) all))

-- of the arms of a SELECT
abbrev pub paths_in_arms : {V W : Type 0} → (seen : V → W) → (of : W → List Path)
    → List (Arm Path V) → List Path
paths_in_arms seen of all = arms_references of (arms_from (map (arm_of (λ p. p) seen) all))

-- of an attribute
abbrev pub paths_in_attribute : Attribute Path → List Path
paths_in_attribute a = attribute_references (attribute_of (λ p. p) a)

-- of attributes
abbrev pub paths_in_attributes : List (Attribute Path) → List Path
paths_in_attributes all = flat_map attribute_references (map (attribute_of (λ p. p)) all)

-- of an item
abbrev pub paths_in_item : Item Path → List Path
paths_in_item i = item_references (item_of (λ p. p) i)

-- of items
abbrev pub paths_in_items : List (Item Path) → List Path
paths_in_items all = flat_map item_references (map (item_of (λ p. p)) all)
