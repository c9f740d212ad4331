-- What the code's statements stand for.
use Rattle.std.specs.Prelude.{ℕ, List, map, Option, Some, option_map}
use Rattle.edd_syntax.specs.declared.symbols.Keyword.TheVariants as word
use Rattle.edd_syntax.specs.declared.symbols.Symbol.TheVariants as sign
use Rattle.edd_syntax.specs.declared.expr.Expr as code_expr
use Rattle.edd_syntax.specs.declared.stmt.Stmt as code
use Rattle.edd_syntax.specs.declared.stmt.Part as code_part
use Rattle.edd_syntax.specs.declared.stmt.Declarator as code_declarator
use Rattle.edd_syntax.specs.declared.reference.Path as path
use Rattle.edd_syntax.specs.Token.{Token}
use Rattle.edd_syntax.specs.Reference.{Path}
use Rattle.edd_syntax.specs.Expression.{Expr}
use Rattle.edd_syntax.specs.Statement.{Declarator, Stmt, Part, Body, body_from}
use Rattle.edd_syntax.specs.TreeView.{path_of, declarator_of, stmt_of, part_of}
use Rattle.edd_grammar.specs.Reading.{◌>>=◌, Read, expect, expect_word}
use Rattle.edd_grammar.specs.ConditionalReading.{condition_at}
use Rattle.edd_syntax.specs.Grammar.{InMethod}
use Rattle.edd_grammar.specs.StatementReading.{statement_at, optional_at}
use Rattle.edd_statement_parser.specs.declared.statement_trees.ForHead.{ForHead}
use Rattle.edd_expression_parser.specs.Expressions.{expr_view}

-- a declarator as the pure tree
abbrev pub declarator_view : code_declarator.Declarator path.Path → Declarator Path
declarator_view d = declarator_of path_of d

-- a statement as the pure tree
abbrev pub stmt_view : code.Stmt path.Path → Stmt Path
stmt_view s = stmt_of path_of s

-- a part of a body as the pure tree
abbrev pub part_view : code_part.Part path.Path → Part Path
part_view p = part_of path_of p

-- the parts of a body as the pure tree
abbrev pub body_view : List (code_part.Part path.Path) → Body Path
body_view parts = body_from (map (part_of path_of) parts)

-- ---- the head of a `for`

-- the three expressions of a `for`, each of which may be missing
abbrev pub Head : Type 0
Head = Option (Expr Path) × Option (Expr Path) × Option (Expr Path)

-- the three expressions as pure trees
abbrev pub head_view : ForHead → Head
head_view h = (
  option_map expr_view h.initial,
  option_map expr_view h.condition,
  option_map expr_view h.update,
)

-- the condition and the update of a `for` as pure trees
abbrev pub end_view : (Option (code_expr.Expr path.Path) × Option (code_expr.Expr path.Path))
    → Option (Expr Path) × Option (Expr Path)
end_view e = (option_map expr_view e.0, option_map expr_view e.1)

-- the condition and the update of a `for`, with the closing parenthesis
unfoldable pub for_end_at : ℕ → List Token → Read (Option (Expr Path) × Option (Expr Path))
for_end_at height_left here = do
  (condition, third) ← optional_at height_left (statement_at height_left) sign.Semicolon here
  (update, behind) ← optional_at height_left (statement_at height_left) sign.CloseParenthesis third
  Some ((condition, update), behind)

-- the three expressions of a `for` in their parentheses
unfoldable pub for_head_at : ℕ → List Token → Read Head
for_head_at height_left here = do
  inside ← expect sign.OpenParenthesis here
  (initial, second) ← optional_at height_left (statement_at height_left) sign.Semicolon inside
  (condition, third) ← optional_at height_left (statement_at height_left) sign.Semicolon second
  (update, behind) ← optional_at height_left (statement_at height_left) sign.CloseParenthesis third
  Some ((initial, condition, update), behind)

-- ---- conditions with what is around them

-- the condition after the body of a `do`
unfoldable pub do_end_at : ℕ → List Token → Read (Expr Path)
do_end_at height_left here = do
  test ← expect_word word.While here
  (condition, from) ← condition_at InMethod height_left test
  rest ← expect sign.Semicolon from
  Some (condition, rest)

-- what a `switch` is on, and the brace after it
unfoldable pub switch_head_at : ℕ → List Token → Read (Expr Path)
switch_head_at height_left here = do
  (on, brace) ← condition_at InMethod height_left here
  inside ← expect sign.OpenBrace brace
  Some (on, inside)
