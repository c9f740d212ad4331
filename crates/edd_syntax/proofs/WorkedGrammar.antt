-- Worked examples of the grammar: what some tokens spell, and what they don't.
use Rattle.std.proofs.Common.{◌≡◌, refl, sym, subst, List, [], ◌∷◌, inl, inr, arith}
use Rattle.std.specs.Prelude.{Some, codes}
use Rattle.edd_syntax.specs.declared.numbers.TextAttribute.TheVariants as text_attribute
use Rattle.edd_syntax.specs.declared.types.VarType.TheVariants as var_type
use Rattle.edd_syntax.specs.declared.operators.Operator.TheVariants as operator
use Rattle.edd_syntax.specs.declared.symbols.Keyword.{Keyword}
use Rattle.edd_syntax.specs.declared.symbols.Keyword.TheVariants as word
use Rattle.edd_syntax.specs.declared.symbols.Symbol.TheVariants as sign
use Rattle.edd_syntax.specs.Text.{Name, Quoted}
use Rattle.edd_syntax.specs.Token.{Token, Reserved, Identifier, Integer, String, Sign, word_token}
use Rattle.edd_syntax.specs.Reference.{Path}
use Rattle.edd_syntax.specs.Expression.{Expr, Literal, Reference, Binary, Conditional, Assign}
use Rattle.edd_syntax.specs.Conditional.{Value}
use Rattle.edd_syntax.specs.Statement.{Empty, If, IfElse}
use Rattle.edd_syntax.specs.Item as item
use Rattle.edd_syntax.specs.Item.{Description, Attribute, TypeOf, Known, OneText}
use Rattle.edd_syntax.specs.Grammar.{InMethod, ExprHere}
use Rattle.edd_syntax.specs.StatementGrammar.{StmtHere}
use Rattle.edd_syntax.specs.ItemGrammar.{AttributeHere, Spells}

abbrev named : Name → Path
named n = record { base = n; members = [] }

abbrev a : Expr Path
a = Reference (named (codes "a"))

abbrev b : Expr Path
b = Reference (named (codes "b"))

-- ---- words

reserved_word : word_token (codes "VARIABLE") ≡ Reserved word.Variable
reserved_word = refl

-- READ isn't reserved
word_that_is_a_name : word_token (codes "READ") ≡ Identifier (codes "READ")
word_that_is_a_name = refl

-- ---- a unit

-- `MANUFACTURER 1, DEVICE_TYPE 2, DEVICE_REVISION 3, DD_REVISION 4`
-- `VARIABLE p { LABEL "|en|Pressure|de|Druck"; TYPE INTEGER (2); }`
abbrev label_tokens : List Token → List Token
label_tokens rest = Reserved word.Label ∷ String (codes "|en|Pressure|de|Druck")
    ∷ Sign sign.Semicolon ∷ rest

abbrev type_tokens : List Token → List Token
type_tokens rest =
    Reserved word.Type ∷ Identifier (codes "INTEGER") ∷ Sign sign.OpenParenthesis ∷ Integer 2
    ∷ Sign sign.CloseParenthesis ∷ Sign sign.Semicolon ∷ rest

abbrev closing : List Token
closing = Sign sign.CloseBrace ∷ []

abbrev variable_tokens : List Token
variable_tokens = Reserved word.Variable ∷ Identifier (codes "p") ∷ Sign sign.OpenBrace
    ∷ label_tokens (type_tokens closing)

abbrev pressure_tokens : List Token
pressure_tokens =
    Reserved word.Manufacturer ∷ Integer 1 ∷ Sign sign.Comma ∷ Reserved word.DeviceType ∷ Integer 2
    ∷ Sign sign.Comma ∷
    Reserved word.DeviceRevision ∷ Integer 3 ∷ Sign sign.Comma ∷ Reserved word.DdRevision
    ∷ Integer 4 ∷ variable_tokens

abbrev the_label : Attribute Path
the_label = OneText text_attribute.Label (Value (Quoted (codes "|en|Pressure|de|Druck")))

abbrev the_type : Attribute Path
the_type = TypeOf (Known var_type.Integer (Some 2)) []

abbrev pressure_unit : Description Path
pressure_unit = record {
  identification = record {
    manufacturer = 1;
    device_type = 2;
    device_revision = 3;
    dd_revision = 4;
  };
  items = record {
    sort = item.VariableItem;
    name = codes "p";
    attributes = the_label ∷ the_type ∷ [];
  } ∷ [];
}

label_is_spelled : (rest : List Token) → AttributeHere the_label (label_tokens rest) rest
label_is_spelled rest = (
  _,
  (word.Label, refl, refl),
  (codes "|en|Pressure|de|Druck", [], refl, (_, refl, (refl, λ h. h))),
)

type_is_spelled : (rest : List Token) → AttributeHere the_type (type_tokens rest) rest
type_is_spelled rest = (_, refl, (_, _, refl, refl, inl (refl, refl)))

pressure_is_spelled : Spells pressure_tokens pressure_unit
pressure_is_spelled = record {
  items_from = variable_tokens;
  identification = (
    _,
    _,
    _,
    _,
    _,
    _,
    _,
    refl,
    inr refl,
    refl,
    inr refl,
    refl,
    inr refl,
    refl,
    inl refl,
  );
  items = (
    [],
    [],
    (
      _,
      label_tokens (type_tokens closing),
      refl,
      refl,
      (
        type_tokens closing,
        type_tokens closing,
        (refl, label_is_spelled _),
        0,
        refl,
        (closing, closing, (refl, type_is_spelled _), 0, refl, refl),
      ),
    ),
    0,
    refl,
    refl,
  );
  heights = refl;
}

-- ---- `else` belongs to the nearest `if`: `if (a) if (b) ; else ;`

abbrev condition : Name → List Token → List Token
condition n rest = Reserved word.MethodIf ∷ Sign sign.OpenParenthesis ∷ Identifier n
    ∷ Sign sign.CloseParenthesis ∷ rest

abbrev dangling : List Token
dangling = condition (codes "a")
    (condition (codes "b") (Sign sign.Semicolon ∷ Reserved word.MethodElse ∷ Sign sign.Semicolon
    ∷ []))

begins : List Token → Type 0
begins [] = ⊥
begins (t ∷ rest) = Unit {0}

-- no token stands at the end
nothing_begins : {k : Keyword} (rest : List Token) → ¬ ([] ≡ Reserved k ∷ rest)
unfolding begins
nothing_begins rest is = subst begins (sym is) tt

nearest_if_has_the_else : StmtHere (If a (IfElse b Empty Empty)) dangling []
nearest_if_has_the_else = (
  _,
  _,
  refl,
  (_, refl, (_, refl, refl)),
  (_, _, _, refl, (_, refl, (_, refl, refl)), refl, refl),
  λ h. nothing_begins _ h.1,
)

outer_if_has_no_else : ¬ StmtHere (IfElse a (If b Empty) Empty) dangling []
outer_if_has_no_else (_, _, behind, _, _, (_, _, _, _, _, no_else), _) = no_else (behind, refl)

-- ---- the middle of `?:`: `x = 1 ? y = 2 : 3`

abbrev assigns : List Token
assigns = Identifier (codes "x") ∷ Sign sign.Equals ∷ Integer 1 ∷ Sign sign.Question
    ∷ Identifier (codes "y") ∷ Sign sign.Equals ∷ Integer 2 ∷ Sign sign.Colon ∷ Integer 3 ∷ []

abbrev y_is_2 : Expr Path
y_is_2 = Assign (named (codes "y")) (Literal 2)

assignment_in_the_middle : ExprHere InMethod 1
    (Assign (named (codes "x")) (Conditional (Literal 1) y_is_2 (Literal 3))) assigns []
assignment_in_the_middle = (
  tt,
  omega arith,
  _,
  (_, refl, refl),
  (omega arith, _, _, refl, (tt, omega arith, _, (_, refl, refl), refl), refl),
)

-- an assignment is no condition of `?:`
no_assignment_as_condition : ¬ ExprHere InMethod 1
    (Conditional (Assign (named (codes "x")) (Literal 1)) y_is_2 (Literal 3)) assigns []
no_assignment_as_condition (_, _, _, (_, precedence, _, _, _), _, _) = omega (arith, precedence)

-- ---- rows of operators: `a - a - a` groups to the left

abbrev minus : Expr Path → Expr Path → Expr Path
minus = Binary operator.Subtract

abbrev differences : List Token
differences = Identifier (codes "a") ∷ Sign (sign.Operator operator.Subtract)
    ∷ Identifier (codes "a") ∷ Sign (sign.Operator operator.Subtract) ∷ Identifier (codes "a") ∷ []

groups_to_the_left : ExprHere InMethod 1 (minus (minus a a) a) differences []
groups_to_the_left = (
  omega arith,
  _,
  (omega arith, _, (_, refl, refl), (_, refl, refl)),
  (_, refl, refl),
)

not_to_the_right : ¬ ExprHere InMethod 1 (minus a (minus a a)) differences []
not_to_the_right (_, _, _, (precedence, _, _, _)) = omega (arith, precedence)
