-- Conditionals of single values and in lists, read by one function.
use Rattle.std.specs.Prelude.{ℕ, zero, suc, List, drop, map, Some, None, if◌then◌else◌}
use Rattle.edd_syntax.specs.declared.symbols.Keyword.TheVariants as word
use Rattle.edd_syntax.specs.declared.symbols.Symbol.TheVariants as sign
use Rattle.edd_syntax.specs.declared.cond.Cond as code
use Rattle.edd_syntax.specs.declared.cond.Arm as code_arm
use Rattle.edd_syntax.specs.declared.reference.Path as path
use Rattle.edd_syntax.specs.Token.{Token}
use Rattle.edd_syntax.specs.Reference.{Path}
use Rattle.edd_syntax.specs.Expression.{Expr}
use Rattle.edd_syntax.specs.Grammar.{InAttribute}
use Rattle.edd_syntax.specs.Conditional as cond
use Rattle.edd_syntax.specs.Conditional.{Cond, Conds, Arm, Arms, Case, Default}
use Rattle.edd_syntax.specs.TreeView.{path_of}
use Rattle.edd_syntax.specs.ItemView.{cond_of, arm_of}
use Rattle.edd_grammar.specs.Reading.{◌>>=◌, Read, at_word, expect}
use Rattle.edd_grammar.specs.ConditionalReading.{condition_at, ended, only, listed, cond_layer, if_at, select_at, braces_at, else_at, case_at, default_at, arms_at}
use Rattle.edd_expression_parser.specs.declared.cond.Form.{Form}
use Rattle.edd_expression_parser.specs.declared.cond.Form.TheVariants.{One, Many}

-- ---- what the code's conditionals stand for

-- a conditional as the pure tree, with its values by `view`
abbrev pub cond_view : {V W : Type 0} → (V → W) → code.Cond path.Path V → Cond Path W
cond_view view c = cond_of path_of view c

-- conditionals as the pure list
abbrev pub conds_view : {V W : Type 0} → (V → W) → List (code.Cond path.Path V) → Conds Path W
conds_view view all = cond.conds_from (map (cond_of path_of view) all)

-- an arm as the pure tree
abbrev pub arm_view : {V W : Type 0} → (V → W) → code_arm.Arm path.Path V → Arm Path W
arm_view view a = arm_of path_of view a

-- arms as the pure list
abbrev pub arms_view : {V W : Type 0} → (V → W) → List (code_arm.Arm path.Path V) → Arms Path W
arms_view view all = cond.arms_from (map (arm_of path_of view) all)

-- ---- reading

-- a value, with a semicolon after a single one
unfoldable pub value_in : {V : Type 0} → Form → (List Token → Read V) → List Token → Read V
value_in One value here = ended value here
value_in Many value here = value here

-- what a SELECT is on, and the brace after it
unfoldable pub select_head : ℕ → List Token → Read (Expr Path)
select_head height_left here = do
  (on, brace) ← condition_at InAttribute height_left here
  inside ← expect sign.OpenBrace brace
  Some (on, inside)

-- what is in a branch
unfoldable pub branch_in : {V : Type 0} → Form → (List Token → Read (Cond Path V)) → List Token
    → Read (Conds Path V)
branch_in One inner here = only inner here
branch_in Many inner here = listed inner here

-- a conditional of at most this height, each of whose values of at most some height `value` reads
unfoldable pub cond_at : {V : Type 0} → Form → (ℕ → List Token → Read V) → ℕ → List Token
    → Read (Cond Path V)
cond_at form value zero here = None
cond_at form value (suc height_left) here =
    cond_layer height_left (value_in form (value height_left))
    (branch_in form (cond_at form value height_left)) (cond_at form value height_left) here

-- the parts of such a conditional whose children have at most the height `height_left`
module _ {V : Type 0} (form : Form) (value : ℕ → List Token → Read V) (height_left : ℕ) where
  abbrev pub values : List Token → Read V
  values = value_in form (value height_left)

  -- a conditional below
  abbrev pub conds : List Token → Read (Cond Path V)
  conds = cond_at form value height_left

  -- what is in a branch
  abbrev pub branches : List Token → Read (Conds Path V)
  branches = branch_in form conds

  -- a conditional, whose conditions, values and branches are these
  abbrev pub layer : List Token → Read (Cond Path V)
  layer = cond_layer height_left values branches conds

  -- after IF
  abbrev pub after_if : List Token → Read (Cond Path V)
  after_if = if_at height_left values branches conds

  -- after SELECT
  abbrev pub after_select : List Token → Read (Cond Path V)
  after_select = select_at height_left values branches conds

  -- a branch in braces
  abbrev pub braces : List Token → Read (Conds Path V)
  braces = braces_at height_left values branches conds

  -- ELSE with an IF or a branch in braces after it, or nothing
  abbrev pub otherwise : List Token → Read (Conds Path V)
  otherwise = else_at height_left values branches conds

  -- the arms up to the closing brace; the number bounds how many there are
  abbrev pub arms : ℕ → List Token → Read (Arms Path V)
  arms = arms_at height_left values branches conds

  -- one arm
  unfoldable pub arm_at : List Token → Read (Arm Path V)
  arm_at here =
      if at_word word.Case here then (case_at height_left values branches conds (drop 1 here)
      >>= λ x. Some (Case x.0.0 x.0.1, x.1))
      else if at_word word.Default here then
      (default_at height_left values branches conds (drop 1 here)
      >>= λ x. Some (Default x.0, x.1))
      else None
