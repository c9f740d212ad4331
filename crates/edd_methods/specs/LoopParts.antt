-- What the parts of a loop in the code stand for.
use Rattle.std.specs.Prelude.{◌≡◌, List, []}
use Rattle.edd_syntax.specs.declared.reference.Target.{Target}
use Rattle.edd_syntax.specs.Expression.{Expr}
use Rattle.edd_syntax.specs.Strings.{expr_texts}
use Rattle.edd_syntax.specs.Text.{Text}
use Rattle.edd_syntax.specs.TreeView.{numbered_expr}
use Rattle.edd_code.specs.Blocks.{Block}
use Rattle.edd_methods.specs.declared.loops.LoopPart.{LoopPart}
use Rattle.edd_methods.specs.declared.loops.LoopPart.TheVariants as kind
use Rattle.edd_methods.specs.Statements.{Part, Missing, Step, Test}
use Rattle.edd_methods.specs.StatementCode.{alone_block}

-- its texts
abbrev pub loop_texts : LoopPart → List Text
loop_texts kind.Missing = []
loop_texts (kind.Step e) = expr_texts (numbered_expr e.now)
loop_texts (kind.Test e) = expr_texts (numbered_expr e.now)

-- its code, where the blocks of expressions are given
abbrev pub loop_part : (Expr Target → Block) → LoopPart → Part
loop_part block_of kind.Missing = Missing
loop_part block_of (kind.Step e) = Step (alone_block block_of (numbered_expr e.now))
loop_part block_of (kind.Test e) = Test (block_of (numbered_expr e.now))

-- it is this part, whatever the blocks are
abbrev pub IsLoopPart : LoopPart → ((Expr Target → Block) → Part) → Type 0
IsLoopPart part is = (block_of : Expr Target → Block) → loop_part block_of part ≡ is block_of
