-- A description with an array whose elements are numbered 9 and 5, and the tokens of such an array.
use Rattle.std.specs.Prelude.{ℕ, pos, false, List, [], ◌∷◌, Some, None, codes}
use Rattle.edd_syntax.specs.declared.numbers.Attr.{Attr}
use Rattle.edd_syntax.specs.declared.numbers.AttrRef.{AttrRef}
use Rattle.edd_syntax.specs.declared.numbers.ItemNo.{ItemNo}
use Rattle.edd_syntax.specs.declared.numbers.ItemNo.TheVariants as item_no
use Rattle.edd_syntax.specs.declared.reference.Target.{Target}
use Rattle.edd_syntax.specs.declared.reference.Target.TheVariants as target
use Rattle.edd_syntax.specs.declared.symbols.Keyword.TheVariants as word
use Rattle.edd_syntax.specs.declared.symbols.Symbol.TheVariants as sign
use Rattle.edd_syntax.specs.declared.types.VarType.TheVariants as var_type
use Rattle.edd_syntax.specs.Text.{Name, Quoted}
use Rattle.edd_syntax.specs.Token.{Token, Reserved, Identifier, Integer, String, Sign}
use Rattle.edd_syntax.specs.Reference.{Path}
use Rattle.edd_syntax.specs.Expression.{Expr, Indexed, Reference}
use Rattle.edd_syntax.specs.Conditional.{Value, If, Nil, Cons}
use Rattle.edd_syntax.specs.Statement.{Part}
use Rattle.edd_syntax.specs.Item as item
use Rattle.edd_syntax.specs.Item.{ArrayElement, ArrayItem, Description, Elements, TypeOf, Known, Validity, VariableItem}
use Rattle.edd_syntax.specs.Answers.{Answer}
use Rattle.edd_syntax.specs.Execution.{Transcript, run}
use Rattle.test_definitions.specs.Methods.{variable}
use Rattle.test_definitions.specs.Units.{method, number, of_items}

-- ---- a description

-- `a[e]`
abbrev pub at : Expr Target → Expr Target
at e = Indexed (target.Item (item_no.Array (record { 0 = 0 }))) e

-- `{ 9, x; 5, y, "l", "h"; }`
abbrev pub elements : List (ArrayElement Target)
elements = record { number = 9; variable = variable 0; label = None; help = None }
    ∷ record {
      number = 5;
      variable = variable 1;
      label = Some (Quoted (codes "l"));
      help = Some (Quoted (codes "h"));
    } ∷ []

-- the variables `x`, `y` with `VALIDITY IF (a[k]) { FALSE; }`, and `k`; the array `a`; and `m`
abbrev pub with_array : (m : List (Part Target)) → Description Target
with_array m = of_items (number 0x78 []
    ∷ number 0x79 (Validity (If (at (Reference (variable 2))) (Cons (Value false) Nil) Nil) ∷ [])
    ∷ number 0x6b []
    ∷ record { sort = ArrayItem; name = 0x61 ∷ []; attributes = Elements elements ∷ [] }
    ∷ method 0x6d m ∷ [])

-- what `m` does where x is 90, y is 50 and k is 0
abbrev pub reads : (m : List (Part Target)) → List Answer → Transcript
reads m answers = run 1 (with_array m) (record { 0 = 0 }) (pos 90 ∷ pos 50 ∷ pos 0 ∷ []) answers

-- an attribute of an item that has no position
abbrev pub of_item : ItemNo → Attr → AttrRef
of_item i a = record { item = i; attr = a; sub = 0 }

-- ---- the source of the array

-- a name without members
abbrev pub named : Name → Path
named n = record { base = n; members = [] }

-- `ARRAY OF VARIABLE a { ELEMENTS { 9, x; 5, y, "l", "h"; } }`
abbrev pub array_tokens : List Token
array_tokens =
    Reserved word.Array ∷ Reserved word.Of ∷ Reserved word.Variable ∷ Identifier (codes "a")
    ∷ Sign sign.OpenBrace ∷ Reserved word.Elements ∷ Sign sign.OpenBrace
    ∷ Integer 9 ∷ Sign sign.Comma ∷ Identifier (codes "x") ∷ Sign sign.Semicolon
    ∷ Integer 5 ∷ Sign sign.Comma ∷ Identifier (codes "y") ∷ Sign sign.Comma ∷ String (codes "l")
    ∷ Sign sign.Comma ∷ String (codes "h") ∷ Sign sign.Semicolon
    ∷ Sign sign.CloseBrace ∷ Sign sign.CloseBrace ∷ []

-- the item that those tokens spell
abbrev pub array_item : item.Item Path
array_item = record {
  sort = ArrayItem;
  name = codes "a";
  attributes = Elements
      (record { number = 9; variable = named (codes "x"); label = None; help = None }
      ∷ record {
        number = 5;
        variable = named (codes "y");
        label = Some (Quoted (codes "l"));
        help = Some (Quoted (codes "h"));
      } ∷ []) ∷ [];
}

-- a variable `x`, and an array with two elements of these numbers
abbrev pub with_elements : (first second : ℕ) → Description Path
with_elements first second = record {
  identification = record {
    manufacturer = 1;
    device_type = 2;
    device_revision = 3;
    dd_revision = 4;
  };
  items = record {
    sort = VariableItem;
    name = codes "x";
    attributes = TypeOf (Known var_type.Integer None) [] ∷ [];
  } ∷ record {
    sort = ArrayItem;
    name = codes "a";
    attributes = Elements
        (record { number = first; variable = named (codes "x"); label = None; help = None }
        ∷ record { number = second; variable = named (codes "x"); label = None; help = None }
        ∷ []) ∷ [];
  } ∷ [];
}
