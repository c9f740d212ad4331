-- Worked tokens that break a rule, so that they spell no unit, beside others that keep it.
use Rattle.std.proofs.Common.{◌≡◌, ℕ, true, List, [], ◌∷◌, ◌++◌, Some, None, is_some, replicate, codes, refl, sym, ◌∙◌}
use Rattle.edd_syntax.specs.declared.operators.Comparison.TheVariants as comparison
use Rattle.edd_syntax.specs.declared.symbols.Keyword.TheVariants as word
use Rattle.edd_syntax.specs.declared.symbols.Symbol.TheVariants as sign
use Rattle.edd_syntax.specs.Token.{Token, Reserved, Identifier, Integer, String, Sign}
use Rattle.edd_syntax.specs.Reference.{Path}
use Rattle.edd_syntax.specs.Item.{Description}
use Rattle.edd_syntax.specs.ItemGrammar.{Spells}
use Rattle.edd_grammar.proofs.Units.{unit_again}
use Rattle.edd_grammar.proofs.WorkedUnits.{worked, worked_is}

-- the four numbers before some items
abbrev numbered : List Token → List Token
numbered items =
    Reserved word.Manufacturer ∷ Integer 1 ∷ Reserved word.DeviceType ∷ Integer 2
    ∷ Reserved word.DeviceRevision ∷ Integer 3 ∷
    Reserved word.DdRevision ∷ Integer 4 ∷
    items

-- tokens that aren't read spell no unit
not_spelled : (tokens : List Token) → worked tokens ≡ None → (unit : Description Path)
    → ¬ Spells tokens unit
not_spelled tokens e unit s =
    let read : None ≡ Some unit = sym e ∙ worked_is tokens ∙ unit_again tokens unit s in
    absurd (cc (read))

-- a comma before ELSE: `MENU u { ITEMS { IF (x) { y }, ELSE { z } } }`
abbrev comma_before_else : List Token
comma_before_else =
    Reserved word.Menu ∷ Identifier (codes "u") ∷ Sign sign.OpenBrace ∷ Reserved word.Items
    ∷ Sign sign.OpenBrace ∷
    Reserved word.If ∷ Sign sign.OpenParenthesis ∷ Identifier (codes "x")
    ∷ Sign sign.CloseParenthesis ∷ Sign sign.OpenBrace ∷
    Identifier (codes "y") ∷ Sign sign.CloseBrace ∷ Sign sign.Comma ∷ Reserved word.Else
    ∷ Sign sign.OpenBrace ∷
    Identifier (codes "z") ∷ Sign sign.CloseBrace ∷ Sign sign.CloseBrace ∷ Sign sign.CloseBrace ∷
    []

-- `MENU u { ITEMS { IF (x) { y } ELSE { z } } }`
abbrev comma_before_else_mended : List Token
comma_before_else_mended =
    Reserved word.Menu ∷ Identifier (codes "u") ∷ Sign sign.OpenBrace ∷ Reserved word.Items
    ∷ Sign sign.OpenBrace ∷
    Reserved word.If ∷ Sign sign.OpenParenthesis ∷ Identifier (codes "x")
    ∷ Sign sign.CloseParenthesis ∷ Sign sign.OpenBrace ∷
    Identifier (codes "y") ∷ Sign sign.CloseBrace ∷ Reserved word.Else ∷ Sign sign.OpenBrace
    ∷ Identifier (codes "z") ∷
    Sign sign.CloseBrace ∷ Sign sign.CloseBrace ∷ Sign sign.CloseBrace ∷
    []

no_comma_before_else : (unit : Description Path) → ¬ Spells (numbered comma_before_else) unit
unfolding worked
no_comma_before_else = not_spelled (numbered comma_before_else) refl

comma_before_else_mended_is_read : is_some (worked (numbered comma_before_else_mended)) ≡ true
unfolding worked
comma_before_else_mended_is_read = refl

-- two commas after an element: `MENU u { ITEMS { x,, y } }`
abbrev two_commas : List Token
two_commas =
    Reserved word.Menu ∷ Identifier (codes "u") ∷ Sign sign.OpenBrace ∷ Reserved word.Items
    ∷ Sign sign.OpenBrace ∷
    Identifier (codes "x") ∷ Sign sign.Comma ∷ Sign sign.Comma ∷ Identifier (codes "y")
    ∷ Sign sign.CloseBrace ∷
    Sign sign.CloseBrace ∷
    []

-- `MENU u { ITEMS { x, y, } }`
abbrev two_commas_mended : List Token
two_commas_mended =
    Reserved word.Menu ∷ Identifier (codes "u") ∷ Sign sign.OpenBrace ∷ Reserved word.Items
    ∷ Sign sign.OpenBrace ∷
    Identifier (codes "x") ∷ Sign sign.Comma ∷ Identifier (codes "y") ∷ Sign sign.Comma
    ∷ Sign sign.CloseBrace ∷
    Sign sign.CloseBrace ∷
    []

no_two_commas : (unit : Description Path) → ¬ Spells (numbered two_commas) unit
unfolding worked
no_two_commas = not_spelled (numbered two_commas) refl

two_commas_mended_is_read : is_some (worked (numbered two_commas_mended)) ≡ true
unfolding worked
two_commas_mended_is_read = refl

-- a semicolon before the first attribute: `MENU u { ; LABEL "m"; }`
abbrev semicolon_first : List Token
semicolon_first =
    Reserved word.Menu ∷ Identifier (codes "u") ∷ Sign sign.OpenBrace ∷ Sign sign.Semicolon
    ∷ Reserved word.Label ∷
    String (codes "m") ∷ Sign sign.Semicolon ∷ Sign sign.CloseBrace ∷
    []

-- `MENU u { LABEL "m";; };`
abbrev semicolon_first_mended : List Token
semicolon_first_mended =
    Reserved word.Menu ∷ Identifier (codes "u") ∷ Sign sign.OpenBrace ∷ Reserved word.Label
    ∷ String (codes "m") ∷
    Sign sign.Semicolon ∷ Sign sign.Semicolon ∷ Sign sign.CloseBrace ∷ Sign sign.Semicolon ∷
    []

no_semicolon_first : (unit : Description Path) → ¬ Spells (numbered semicolon_first) unit
unfolding worked
no_semicolon_first = not_spelled (numbered semicolon_first) refl

semicolon_first_mended_is_read : is_some (worked (numbered semicolon_first_mended)) ≡ true
unfolding worked
semicolon_first_mended_is_read = refl

-- two values in one branch: `MENU u { LABEL IF (x) { "a"; "b"; } }`
abbrev two_values : List Token
two_values =
    Reserved word.Menu ∷ Identifier (codes "u") ∷ Sign sign.OpenBrace ∷ Reserved word.Label
    ∷ Reserved word.If ∷
    Sign sign.OpenParenthesis ∷ Identifier (codes "x") ∷ Sign sign.CloseParenthesis
    ∷ Sign sign.OpenBrace ∷
    String (codes "a") ∷ Sign sign.Semicolon ∷ String (codes "b") ∷ Sign sign.Semicolon
    ∷ Sign sign.CloseBrace ∷
    Sign sign.CloseBrace ∷
    []

-- `MENU u { LABEL IF (x) { "a" "b"; } }`
abbrev two_values_mended : List Token
two_values_mended =
    Reserved word.Menu ∷ Identifier (codes "u") ∷ Sign sign.OpenBrace ∷ Reserved word.Label
    ∷ Reserved word.If ∷
    Sign sign.OpenParenthesis ∷ Identifier (codes "x") ∷ Sign sign.CloseParenthesis
    ∷ Sign sign.OpenBrace ∷
    String (codes "a") ∷ String (codes "b") ∷ Sign sign.Semicolon ∷ Sign sign.CloseBrace
    ∷ Sign sign.CloseBrace ∷
    []

no_two_values : (unit : Description Path) → ¬ Spells (numbered two_values) unit
unfolding worked
no_two_values = not_spelled (numbered two_values) refl

two_values_mended_is_read : is_some (worked (numbered two_values_mended)) ≡ true
unfolding worked
two_values_mended_is_read = refl

-- no value in a branch: `MENU u { LABEL IF (x) { } }`
abbrev empty_branch : List Token
empty_branch =
    Reserved word.Menu ∷ Identifier (codes "u") ∷ Sign sign.OpenBrace ∷ Reserved word.Label
    ∷ Reserved word.If ∷
    Sign sign.OpenParenthesis ∷ Identifier (codes "x") ∷ Sign sign.CloseParenthesis
    ∷ Sign sign.OpenBrace ∷
    Sign sign.CloseBrace ∷ Sign sign.CloseBrace ∷
    []

-- `MENU u { ITEMS { IF (x) { } } }`
abbrev empty_branch_mended : List Token
empty_branch_mended =
    Reserved word.Menu ∷ Identifier (codes "u") ∷ Sign sign.OpenBrace ∷ Reserved word.Items
    ∷ Sign sign.OpenBrace ∷
    Reserved word.If ∷ Sign sign.OpenParenthesis ∷ Identifier (codes "x")
    ∷ Sign sign.CloseParenthesis ∷ Sign sign.OpenBrace ∷
    Sign sign.CloseBrace ∷ Sign sign.CloseBrace ∷ Sign sign.CloseBrace ∷
    []

no_empty_branch : (unit : Description Path) → ¬ Spells (numbered empty_branch) unit
unfolding worked
no_empty_branch = not_spelled (numbered empty_branch) refl

empty_branch_mended_is_read : is_some (worked (numbered empty_branch_mended)) ≡ true
unfolding worked
empty_branch_mended_is_read = refl

-- an attribute of another kind of item: `MENU u { HANDLING READ; }`
abbrev wrong_kind : List Token
wrong_kind =
    Reserved word.Menu ∷ Identifier (codes "u") ∷ Sign sign.OpenBrace ∷ Reserved word.Handling
    ∷ Identifier (codes "READ") ∷
    Sign sign.Semicolon ∷ Sign sign.CloseBrace ∷
    []

-- `VARIABLE u { HANDLING READ; }`
abbrev wrong_kind_mended : List Token
wrong_kind_mended =
    Reserved word.Variable ∷ Identifier (codes "u") ∷ Sign sign.OpenBrace ∷ Reserved word.Handling ∷
    Identifier (codes "READ") ∷ Sign sign.Semicolon ∷ Sign sign.CloseBrace ∷
    []

no_wrong_kind : (unit : Description Path) → ¬ Spells (numbered wrong_kind) unit
unfolding worked
no_wrong_kind = not_spelled (numbered wrong_kind) refl

wrong_kind_mended_is_read : is_some (worked (numbered wrong_kind_mended)) ≡ true
unfolding worked
wrong_kind_mended_is_read = refl

-- OF at an item that is no collection: `MENU OF VARIABLE u { }`
abbrev kind_of_menu : List Token
kind_of_menu =
    Reserved word.Menu ∷ Reserved word.Of ∷ Reserved word.Variable ∷ Identifier (codes "u")
    ∷ Sign sign.OpenBrace ∷
    Sign sign.CloseBrace ∷
    []

-- `COLLECTION OF VARIABLE u { }`
abbrev kind_of_menu_mended : List Token
kind_of_menu_mended =
    Reserved word.Collection ∷ Reserved word.Of ∷ Reserved word.Variable ∷ Identifier (codes "u")
    ∷ Sign sign.OpenBrace ∷
    Sign sign.CloseBrace ∷
    []

no_kind_of_menu : (unit : Description Path) → ¬ Spells (numbered kind_of_menu) unit
unfolding worked
no_kind_of_menu = not_spelled (numbered kind_of_menu) refl

kind_of_menu_mended_is_read : is_some (worked (numbered kind_of_menu_mended)) ≡ true
unfolding worked
kind_of_menu_mended_is_read = refl

-- a second semicolon after an option of a type: `VARIABLE v { TYPE INTEGER { MIN_VALUE 1;; } }`
abbrev second_semicolon : List Token
second_semicolon =
    Reserved word.Variable ∷ Identifier (codes "v") ∷ Sign sign.OpenBrace ∷ Reserved word.Type ∷
    Identifier (codes "INTEGER") ∷ Sign sign.OpenBrace ∷ Reserved word.MinValue ∷ Integer 1
    ∷ Sign sign.Semicolon ∷
    Sign sign.Semicolon ∷ Sign sign.CloseBrace ∷ Sign sign.CloseBrace ∷
    []

-- `VARIABLE v { TYPE INTEGER { MIN_VALUE 1; };; }`
abbrev second_semicolon_mended : List Token
second_semicolon_mended =
    Reserved word.Variable ∷ Identifier (codes "v") ∷ Sign sign.OpenBrace ∷ Reserved word.Type ∷
    Identifier (codes "INTEGER") ∷ Sign sign.OpenBrace ∷ Reserved word.MinValue ∷ Integer 1
    ∷ Sign sign.Semicolon ∷
    Sign sign.CloseBrace ∷ Sign sign.Semicolon ∷ Sign sign.Semicolon ∷ Sign sign.CloseBrace ∷
    []

no_second_semicolon : (unit : Description Path) → ¬ Spells (numbered second_semicolon) unit
unfolding worked
no_second_semicolon = not_spelled (numbered second_semicolon) refl

second_semicolon_mended_is_read : is_some (worked (numbered second_semicolon_mended)) ≡ true
unfolding worked
second_semicolon_mended_is_read = refl

-- an assignment in an attribute: `VARIABLE v { TYPE INTEGER { MAX_VALUE x = 1; } }`
abbrev assignment : List Token
assignment =
    Reserved word.Variable ∷ Identifier (codes "v") ∷ Sign sign.OpenBrace ∷ Reserved word.Type ∷
    Identifier (codes "INTEGER") ∷ Sign sign.OpenBrace ∷ Reserved word.MaxValue
    ∷ Identifier (codes "x") ∷ Sign sign.Equals ∷
    Integer 1 ∷ Sign sign.Semicolon ∷ Sign sign.CloseBrace ∷ Sign sign.CloseBrace ∷
    []

-- `VARIABLE v { TYPE INTEGER { MAX_VALUE x == 1; } }`
abbrev assignment_mended : List Token
assignment_mended =
    Reserved word.Variable ∷ Identifier (codes "v") ∷ Sign sign.OpenBrace ∷ Reserved word.Type ∷
    Identifier (codes "INTEGER") ∷ Sign sign.OpenBrace ∷ Reserved word.MaxValue
    ∷ Identifier (codes "x") ∷
    Sign (sign.Comparison comparison.Equal) ∷ Integer 1 ∷ Sign sign.Semicolon ∷ Sign sign.CloseBrace
    ∷ Sign sign.CloseBrace ∷
    []

no_assignment : (unit : Description Path) → ¬ Spells (numbered assignment) unit
unfolding worked
no_assignment = not_spelled (numbered assignment) refl

assignment_mended_is_read : is_some (worked (numbered assignment_mended)) ≡ true
unfolding worked
assignment_mended_is_read = refl

-- a qualifier of a menu at a data item: `COMMAND r { TRANSACTION { REQUEST { x (HIDDEN) } } }`
abbrev wrong_qualifier : List Token
wrong_qualifier =
    Reserved word.Command ∷ Identifier (codes "r") ∷ Sign sign.OpenBrace ∷ Reserved word.Transaction
    ∷ Sign sign.OpenBrace ∷
    Reserved word.Request ∷ Sign sign.OpenBrace ∷ Identifier (codes "x") ∷ Sign sign.OpenParenthesis
    ∷
    Identifier (codes "HIDDEN") ∷ Sign sign.CloseParenthesis ∷ Sign sign.CloseBrace
    ∷ Sign sign.CloseBrace ∷
    Sign sign.CloseBrace ∷
    []

-- `COMMAND r { TRANSACTION { REQUEST { x (INFO) } } }`
abbrev wrong_qualifier_mended : List Token
wrong_qualifier_mended =
    Reserved word.Command ∷ Identifier (codes "r") ∷ Sign sign.OpenBrace ∷ Reserved word.Transaction
    ∷ Sign sign.OpenBrace ∷
    Reserved word.Request ∷ Sign sign.OpenBrace ∷ Identifier (codes "x") ∷ Sign sign.OpenParenthesis
    ∷
    Identifier (codes "INFO") ∷ Sign sign.CloseParenthesis ∷ Sign sign.CloseBrace
    ∷ Sign sign.CloseBrace ∷
    Sign sign.CloseBrace ∷
    []

no_wrong_qualifier : (unit : Description Path) → ¬ Spells (numbered wrong_qualifier) unit
unfolding worked
no_wrong_qualifier = not_spelled (numbered wrong_qualifier) refl

wrong_qualifier_mended_is_read : is_some (worked (numbered wrong_qualifier_mended)) ≡ true
unfolding worked
wrong_qualifier_mended_is_read = refl

-- a help without a label: `COLLECTION OF MENU c { MEMBERS { m, x, , "h"; } }`
abbrev help_alone : List Token
help_alone =
    Reserved word.Collection ∷ Reserved word.Of ∷ Reserved word.Menu ∷ Identifier (codes "c")
    ∷ Sign sign.OpenBrace ∷
    Reserved word.Members ∷ Sign sign.OpenBrace ∷ Identifier (codes "m") ∷ Sign sign.Comma
    ∷ Identifier (codes "x") ∷
    Sign sign.Comma ∷ Sign sign.Comma ∷ String (codes "h") ∷ Sign sign.Semicolon
    ∷ Sign sign.CloseBrace ∷
    Sign sign.CloseBrace ∷
    []

-- `COLLECTION OF MENU c { MEMBERS { m, x, "l", "h"; } }`
abbrev help_alone_mended : List Token
help_alone_mended =
    Reserved word.Collection ∷ Reserved word.Of ∷ Reserved word.Menu ∷ Identifier (codes "c")
    ∷ Sign sign.OpenBrace ∷
    Reserved word.Members ∷ Sign sign.OpenBrace ∷ Identifier (codes "m") ∷ Sign sign.Comma
    ∷ Identifier (codes "x") ∷
    Sign sign.Comma ∷ String (codes "l") ∷ Sign sign.Comma ∷ String (codes "h")
    ∷ Sign sign.Semicolon ∷ Sign sign.CloseBrace ∷
    Sign sign.CloseBrace ∷
    []

no_help_alone : (unit : Description Path) → ¬ Spells (numbered help_alone) unit
unfolding worked
no_help_alone = not_spelled (numbered help_alone) refl

help_alone_mended_is_read : is_some (worked (numbered help_alone_mended)) ≡ true
unfolding worked
help_alone_mended_is_read = refl

-- a label outside a `switch`: `METHOD d { DEFINITION { case 1: ; } }`
abbrev label_outside : List Token
label_outside =
    Reserved word.Method ∷ Identifier (codes "d") ∷ Sign sign.OpenBrace ∷ Reserved word.Definition
    ∷ Sign sign.OpenBrace ∷
    Reserved word.MethodCase ∷ Integer 1 ∷ Sign sign.Colon ∷ Sign sign.Semicolon
    ∷ Sign sign.CloseBrace ∷
    Sign sign.CloseBrace ∷
    []

-- `METHOD d { DEFINITION { switch (1) { case 1: ; } } }`
abbrev label_outside_mended : List Token
label_outside_mended =
    Reserved word.Method ∷ Identifier (codes "d") ∷ Sign sign.OpenBrace ∷ Reserved word.Definition
    ∷ Sign sign.OpenBrace ∷
    Reserved word.Switch ∷ Sign sign.OpenParenthesis ∷ Integer 1 ∷ Sign sign.CloseParenthesis
    ∷ Sign sign.OpenBrace ∷
    Reserved word.MethodCase ∷ Integer 1 ∷ Sign sign.Colon ∷ Sign sign.Semicolon
    ∷ Sign sign.CloseBrace ∷
    Sign sign.CloseBrace ∷ Sign sign.CloseBrace ∷
    []

no_label_outside : (unit : Description Path) → ¬ Spells (numbered label_outside) unit
unfolding worked
no_label_outside = not_spelled (numbered label_outside) refl

label_outside_mended_is_read : is_some (worked (numbered label_outside_mended)) ≡ true
unfolding worked
label_outside_mended_is_read = refl

-- a declaration as a branch: `METHOD d { DEFINITION { if (a) int b; } }`
abbrev declared_branch : List Token
declared_branch =
    Reserved word.Method ∷ Identifier (codes "d") ∷ Sign sign.OpenBrace ∷ Reserved word.Definition
    ∷ Sign sign.OpenBrace ∷
    Reserved word.MethodIf ∷ Sign sign.OpenParenthesis ∷ Identifier (codes "a")
    ∷ Sign sign.CloseParenthesis ∷
    Reserved word.Int ∷ Identifier (codes "b") ∷ Sign sign.Semicolon ∷ Sign sign.CloseBrace
    ∷ Sign sign.CloseBrace ∷
    []

-- `METHOD d { DEFINITION { if (a) { int b; } } }`
abbrev declared_branch_mended : List Token
declared_branch_mended =
    Reserved word.Method ∷ Identifier (codes "d") ∷ Sign sign.OpenBrace ∷ Reserved word.Definition
    ∷ Sign sign.OpenBrace ∷
    Reserved word.MethodIf ∷ Sign sign.OpenParenthesis ∷ Identifier (codes "a")
    ∷ Sign sign.CloseParenthesis ∷
    Sign sign.OpenBrace ∷ Reserved word.Int ∷ Identifier (codes "b") ∷ Sign sign.Semicolon
    ∷ Sign sign.CloseBrace ∷
    Sign sign.CloseBrace ∷ Sign sign.CloseBrace ∷
    []

no_declared_branch : (unit : Description Path) → ¬ Spells (numbered declared_branch) unit
unfolding worked
no_declared_branch = not_spelled (numbered declared_branch) refl

declared_branch_mended_is_read : is_some (worked (numbered declared_branch_mended)) ≡ true
unfolding worked
declared_branch_mended_is_read = refl

-- response codes in a transaction: `COMMAND r { TRANSACTION { RESPONSE_CODES { } } }`
abbrev codes_inside : List Token
codes_inside =
    Reserved word.Command ∷ Identifier (codes "r") ∷ Sign sign.OpenBrace ∷ Reserved word.Transaction
    ∷ Sign sign.OpenBrace ∷
    Reserved word.ResponseCodes ∷ Sign sign.OpenBrace ∷ Sign sign.CloseBrace ∷ Sign sign.CloseBrace
    ∷ Sign sign.CloseBrace ∷
    []

-- `COMMAND r { TRANSACTION { } RESPONSE_CODES { } }`
abbrev codes_inside_mended : List Token
codes_inside_mended =
    Reserved word.Command ∷ Identifier (codes "r") ∷ Sign sign.OpenBrace ∷ Reserved word.Transaction
    ∷ Sign sign.OpenBrace ∷
    Sign sign.CloseBrace ∷ Reserved word.ResponseCodes ∷ Sign sign.OpenBrace ∷ Sign sign.CloseBrace
    ∷ Sign sign.CloseBrace ∷
    []

no_codes_inside : (unit : Description Path) → ¬ Spells (numbered codes_inside) unit
unfolding worked
no_codes_inside = not_spelled (numbered codes_inside) refl

codes_inside_mended_is_read : is_some (worked (numbered codes_inside_mended)) ≡ true
unfolding worked
codes_inside_mended_is_read = refl

-- ---- the height

-- a number in n parentheses, in a method
abbrev deep : ℕ → List Token
deep n =
    Reserved word.Method ∷ Identifier (codes "d") ∷ Sign sign.OpenBrace ∷ Reserved word.Definition
    ∷ Sign sign.OpenBrace ∷
    replicate n (Sign sign.OpenParenthesis) ++ Integer 1 ∷ replicate n (Sign sign.CloseParenthesis)
    ++
    Sign sign.Semicolon ∷ Sign sign.CloseBrace ∷ Sign sign.CloseBrace ∷ []

-- a statement above 98 parentheses and a number is 100 levels high
highest_is_read : is_some (worked (numbered (deep 98))) ≡ true
unfolding worked
highest_is_read = refl

no_higher_one : (unit : Description Path) → ¬ Spells (numbered (deep 99)) unit
unfolding worked
no_higher_one = not_spelled (numbered (deep 99)) refl
