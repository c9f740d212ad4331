-- The tokens that trees of the code carry, in the order of the source. They have no meaning: they
-- say where something is.
use Rattle.std.specs.Prelude.{List, [], ◌∷◌, ◌++◌, Option, Some, None}
use Rattle.std.specs.List.{flat_map}
use Rattle.edd_syntax.specs.declared.cond.Arm.{Arm}
use Rattle.edd_syntax.specs.declared.cond.Arm.TheVariants.{Case', Default'}
use Rattle.edd_syntax.specs.declared.cond.Cond.{Cond, Row_of-Cond, end_of-Cond, more_of-Cond, Row_of-Arm, end_of-Arm, more_of-Arm}
use Rattle.edd_syntax.specs.declared.cond.Cond.TheVariants.{Value, If', Select'}
use Rattle.edd_syntax.specs.declared.expr.Argument.{Argument}
use Rattle.edd_syntax.specs.declared.expr.Argument.TheVariants as argument
use Rattle.edd_syntax.specs.declared.expr.Expr.{Expr, Row_of-Argument, end_of-Argument, more_of-Argument}
use Rattle.edd_syntax.specs.declared.expr.Expr.TheVariants as expr
use Rattle.edd_syntax.specs.declared.item.ArrayElement.{ArrayElement}
use Rattle.edd_syntax.specs.declared.item.Attribute.{Attribute}
use Rattle.edd_syntax.specs.declared.item.Attribute.TheVariants as attribute
use Rattle.edd_syntax.specs.declared.item.DataItem.{DataItem}
use Rattle.edd_syntax.specs.declared.item.DataItem.TheVariants as data_item
use Rattle.edd_syntax.specs.declared.item.Enumerator.{Enumerator}
use Rattle.edd_syntax.specs.declared.item.Item.{Item}
use Rattle.edd_syntax.specs.declared.item.Member.{Member}
use Rattle.edd_syntax.specs.declared.item.TransactionPart.{TransactionPart}
use Rattle.edd_syntax.specs.declared.item.TransactionPart.TheVariants as transaction
use Rattle.edd_syntax.specs.declared.item.TypePart.{TypePart}
use Rattle.edd_syntax.specs.declared.item.TypePart.TheVariants as part
use Rattle.edd_syntax.specs.declared.numbers.TokenNo.{TokenNo}
use Rattle.edd_syntax.specs.declared.stmt.Declarator.{Declarator}
use Rattle.edd_syntax.specs.declared.stmt.Part as block
use Rattle.edd_syntax.specs.declared.stmt.Part.TheVariants as block_part
use Rattle.edd_syntax.specs.declared.stmt.Stmt.{Stmt, Row_of-Part, end_of-Part, more_of-Part}
use Rattle.edd_syntax.specs.declared.stmt.Stmt.TheVariants as stmt
use Rattle.edd_syntax.specs.ItemView.{attributes_of}

-- of an expression
abbrev mutual
  pub tokens_in_expr : {R : Type 0} → Expr R → List TokenNo
  tokens_in_expr (expr.Literal value) = []
  tokens_in_expr (expr.Decimal at) = at ∷ []
  tokens_in_expr (expr.Reference from) = []
  tokens_in_expr (expr.Indexed' array p index) = tokens_in_expr index
  tokens_in_expr (expr.Parentheses' p inner) = tokens_in_expr inner
  tokens_in_expr (expr.Unary' op p operand) = tokens_in_expr operand
  tokens_in_expr (expr.Binary' op p left q right) = tokens_in_expr left ++ tokens_in_expr right
  tokens_in_expr (expr.Compare' by p left q right) = tokens_in_expr left ++ tokens_in_expr right
  tokens_in_expr (expr.LogicalAnd' p left q right) = tokens_in_expr left ++ tokens_in_expr right
  tokens_in_expr (expr.LogicalOr' p left q right) = tokens_in_expr left ++ tokens_in_expr right
  tokens_in_expr (expr.Conditional' p test q first r second) = tokens_in_expr test
      ++ (tokens_in_expr first ++ tokens_in_expr second)
  tokens_in_expr (expr.Assign' to p value) = tokens_in_expr value
  tokens_in_expr (expr.CompoundAssign' op to p value) = tokens_in_expr value
  tokens_in_expr (expr.Increment by to) = []
  tokens_in_expr (expr.Call' at function shape arguments) = at ∷ argument_tokens arguments

  -- of the arguments that a vector holds
  pub argument_tokens : {R : Type 0} {n : _} → Row_of-Argument R n → List TokenNo
  argument_tokens end_of-Argument = []
  argument_tokens (more_of-Argument first rest) = tokens_in_argument first ++ argument_tokens rest

  -- of an argument
  pub tokens_in_argument : {R : Type 0} → Argument R → List TokenNo
  tokens_in_argument (argument.Text text) = []
  tokens_in_argument (argument.Value e) = tokens_in_expr e

-- of an expression that may be missing
abbrev pub tokens_in_optional : {R : Type 0} → Option (Expr R) → List TokenNo
tokens_in_optional None = []
tokens_in_optional (Some e) = tokens_in_expr e

-- of a declarator
abbrev pub tokens_in_declarator : {R : Type 0} → Declarator R → List TokenNo
tokens_in_declarator d = tokens_in_optional d.value

-- of a statement
abbrev mutual
  pub tokens_in_stmt : {R : Type 0} → Stmt R → List TokenNo
  tokens_in_stmt stmt.Empty = []
  tokens_in_stmt (stmt.Evaluate e) = tokens_in_expr e
  tokens_in_stmt (stmt.Block' shape parts) = part_tokens parts
  tokens_in_stmt (stmt.If' test p first) = tokens_in_expr test ++ tokens_in_stmt first
  tokens_in_stmt (stmt.IfElse' test p first q otherwise) = tokens_in_expr test
      ++ (tokens_in_stmt first ++ tokens_in_stmt otherwise)
  tokens_in_stmt (stmt.While' test p body) = tokens_in_expr test ++ tokens_in_stmt body
  tokens_in_stmt (stmt.Do' p body test) = tokens_in_stmt body ++ tokens_in_expr test
  tokens_in_stmt (stmt.For' initial test update p body) = tokens_in_optional initial
      ++ (tokens_in_optional test ++ (tokens_in_optional update ++ tokens_in_stmt body))
  tokens_in_stmt (stmt.Switch' on shape parts) = tokens_in_expr on ++ part_tokens parts
  tokens_in_stmt (stmt.Break at) = at ∷ []
  tokens_in_stmt (stmt.Continue at) = at ∷ []
  tokens_in_stmt stmt.Return = []

  -- of the parts that a vector holds
  pub part_tokens : {R : Type 0} {n : _} → Row_of-Part R n → List TokenNo
  part_tokens end_of-Part = []
  part_tokens (more_of-Part first rest) = tokens_in_part first ++ part_tokens rest

  -- of a part of a body
  pub tokens_in_part : {R : Type 0} → block.Part R → List TokenNo
  tokens_in_part (block_part.Declare declarators) = flat_map tokens_in_declarator declarators.items
  tokens_in_part (block_part.Statement s) = tokens_in_stmt s
  tokens_in_part (block_part.CaseLabel at label) = at ∷ []
  tokens_in_part (block_part.DefaultLabel at) = at ∷ []

-- of a conditional, where `of` gives those of a value
unfoldable mutual
  pub tokens_in_cond : {R V : Type 0} → (of : V → List TokenNo) → Cond R V → List TokenNo
  tokens_in_cond of (Value v) = of v
  tokens_in_cond of (If' test shape first shape' otherwise) = tokens_in_expr test
      ++ (cond_tokens of first ++ cond_tokens of otherwise)
  tokens_in_cond of (Select' on shape arms) = tokens_in_expr on ++ arm_tokens of arms

  -- of an arm
  pub tokens_in_arm : {R V : Type 0} → (of : V → List TokenNo) → Arm R V → List TokenNo
  tokens_in_arm of (Case' label shape body) = cond_tokens of body
  tokens_in_arm of (Default' at shape body) = at ∷ cond_tokens of body

  -- of the conditionals that a vector holds
  pub cond_tokens : {R V : Type 0} {n : _} → (of : V → List TokenNo) → Row_of-Cond R V n
      → List TokenNo
  cond_tokens of end_of-Cond = []
  cond_tokens of (more_of-Cond first rest) = tokens_in_cond of first ++ cond_tokens of rest

  -- of the arms that a vector holds
  pub arm_tokens : {R V : Type 0} {n : _} → (of : V → List TokenNo) → Row_of-Arm R V n
      → List TokenNo
  arm_tokens of end_of-Arm = []
  arm_tokens of (more_of-Arm first rest) = tokens_in_arm of first ++ arm_tokens of rest

-- of a value that has none
abbrev pub no_tokens : {V : Type 0} → V → List TokenNo
no_tokens v = []

-- of an enumerator
abbrev pub token_of_enumerator : Enumerator → List TokenNo
token_of_enumerator e = e.at ∷ []

-- of a data item
abbrev pub token_of_data : {R : Type 0} → DataItem R → List TokenNo
token_of_data (data_item.Constant at value) = at ∷ []
token_of_data (data_item.Variable at variable mask qualifiers) = at ∷ []

-- of a member of a collection
abbrev pub token_of_member : {R : Type 0} → Member R → List TokenNo
token_of_member m = m.at ∷ []

-- of an element of an array
abbrev pub token_of_element : {R : Type 0} → ArrayElement R → List TokenNo
token_of_element e = e.at ∷ []

-- of what is in the braces of a type
abbrev pub tokens_in_type_part : {R : Type 0} → TypePart R → List TokenNo
tokens_in_type_part (part.OneNumber at which value) = at ∷ tokens_in_cond tokens_in_expr value
tokens_in_type_part (part.OneFormat at which format) = at ∷ tokens_in_cond no_tokens format
tokens_in_type_part (part.Element element) = tokens_in_cond token_of_enumerator element

-- of a REQUEST or a REPLY
abbrev pub tokens_in_transaction_part : {R : Type 0} → TransactionPart R → List TokenNo
tokens_in_transaction_part (transaction.Request at all) = at
    ∷ flat_map (tokens_in_cond token_of_data) all.items
tokens_in_transaction_part (transaction.Reply at all) = at
    ∷ flat_map (tokens_in_cond token_of_data) all.items

-- of an attribute
abbrev pub tokens_in_attribute : {R : Type 0} → Attribute R → List TokenNo
tokens_in_attribute (attribute.OneText at which c) = at ∷ tokens_in_cond no_tokens c
tokens_in_attribute (attribute.Class at words) = at ∷ []
tokens_in_attribute (attribute.Handling at c) = at ∷ tokens_in_cond no_tokens c
tokens_in_attribute (attribute.Validity at c) = at ∷ tokens_in_cond no_tokens c
tokens_in_attribute (attribute.TypeOf at word parts) = at
    ∷ flat_map tokens_in_type_part parts.items
tokens_in_attribute (attribute.Number at n) = at ∷ []
tokens_in_attribute (attribute.Operation at operation) = at ∷ []
tokens_in_attribute (attribute.Transaction at number parts) = at
    ∷ flat_map tokens_in_transaction_part parts.items
tokens_in_attribute (attribute.ResponseCodes at codes) = at ∷ []
tokens_in_attribute (attribute.Items at entries) = at
    ∷ flat_map (tokens_in_cond no_tokens) entries.items
tokens_in_attribute (attribute.Members at members) = at ∷ flat_map token_of_member members.items
tokens_in_attribute (attribute.Elements at elements) = at
    ∷ flat_map token_of_element elements.items
tokens_in_attribute (attribute.Definition at parts) = at ∷ flat_map tokens_in_part parts.items

-- of an item
abbrev pub tokens_in_item : {R : Type 0} → Item R → List TokenNo
tokens_in_item i = i.at ∷ flat_map tokens_in_attribute (attributes_of i)

-- of items
abbrev pub tokens_in_items : {R : Type 0} → List (Item R) → List TokenNo
tokens_in_items all = flat_map tokens_in_item all
