-- Two descriptions with a method, and images of them: a loop that never ends, and one that asks and
-- stores.
use Rattle.std.specs.Prelude.{[], ◌∷◌, ◌++◌, ℕ, List, Some, codes}
use Rattle.edd_syntax.specs.declared.numbers.VarNo.{VarNo}
use Rattle.edd_syntax.specs.declared.numbers.ItemNo.TheVariants as items
use Rattle.edd_syntax.specs.declared.numbers.Attr.TheVariants as attr
use Rattle.edd_syntax.specs.declared.operators.Builtin.TheVariants as builtin
use Rattle.edd_syntax.specs.declared.operators.RequestKind.TheVariants as kind
use Rattle.edd_syntax.specs.declared.operators.Comparison.TheVariants.{Less}
use Rattle.edd_syntax.specs.declared.operators.Operator.TheVariants.{Add}
use Rattle.edd_syntax.specs.declared.reference.Target.{Target}
use Rattle.edd_syntax.specs.declared.reference.Target.TheVariants as target
use Rattle.edd_syntax.specs.declared.types.VarType.TheVariants.{UnsignedInteger}
use Rattle.edd_syntax.specs.Text.{Quoted}
use Rattle.edd_syntax.specs.Expression.{Expr, Literal, Reference, Binary, Compare, Assign, Call, Text, arguments_from}
use Rattle.edd_syntax.specs.Statement.{Stmt, Body, Nil, Cons, Statement, While, Block, Evaluate}
use Rattle.edd_syntax.specs.Item.{Identification, Item, Description, TypeOf, Known, Definition, VariableItem, MethodItem}
use Rattle.edd_image.specs.declared.versions.Version.TheVariants.{One}
use Rattle.edd_image.specs.Layout.{Sections}
use Rattle.edd_instructions.specs.Worked.{no_counts, with_code}

-- the identification of the worked images
abbrev pub identified : Identification
identified = record { manufacturer = 1; device_type = 2; device_revision = 3; dd_revision = 4 }

-- ---- a loop that never ends

-- `while (1) { }`
abbrev pub endless : Body Target
endless = Cons (Statement (While (Literal 1) (Block Nil))) Nil

-- the method `m`
abbrev pub loop_unit : Description Target
loop_unit = record {
  identification = identified;
  items = record { sort = MethodItem; name = 0x6d ∷ []; attributes = Definition endless ∷ [] } ∷ [];
}

-- the image with an end in place of the loop
abbrev pub end_image : List ℕ
end_image = with_code 0x00 0x00 0x00 0x00 0x00

-- ---- a loop over a value of the device, which asks and stores

-- two variables of type UNSIGNED_INTEGER (1)
abbrev pub x : VarNo
x = record { 0 = 0 }

-- the second of them
abbrev pub y : VarNo
y = record { 0 = 1 }

-- a variable as what a name stands for
abbrev pub variable : VarNo → Target
variable v = target.Item (items.Variable v)

-- `x < 1`
abbrev pub test : Expr Target
test = Compare Less (Reference (variable x)) (Literal 1)

-- `PUT_MESSAGE("a")`
abbrev pub message : Expr Target
message = Call (target.Function (builtin.Ask kind.PutMessage))
    (arguments_from (Text (Quoted (codes "a")) ∷ []))

-- `x = x + 1`
abbrev pub increased : Expr Target
increased = Assign (variable x) (Binary Add (Reference (variable x)) (Literal 1))

-- `y = 2`
abbrev pub set : Expr Target
set = Assign (variable y) (Literal 2)

-- `{ PUT_MESSAGE("a"); x = x + 1; y = 2; }`
abbrev pub turn : Stmt Target
turn = Block (Cons (Statement (Evaluate message))
    (Cons (Statement (Evaluate increased)) (Cons (Statement (Evaluate set)) Nil)))

-- a variable of type UNSIGNED_INTEGER with one byte, whose name is this letter
abbrev pub octet : (name : ℕ) → Item Target
octet name = record {
  sort = VariableItem;
  name = name ∷ [];
  attributes = TypeOf (Known UnsignedInteger (Some 1)) [] ∷ [];
}

-- the variables `x` and `y`, and the method `m`
abbrev pub asking_unit : Description Target
asking_unit = record {
  identification = identified;
  items = octet 0x78 ∷ octet 0x79
      ∷ record {
        sort = MethodItem;
        name = 0x6d ∷ [];
        attributes = Definition (Cons (Statement (While test turn)) Nil) ∷ [];
      } ∷ [];
}

-- the image with 49 bytes of code for the method
abbrev pub image_with : (code : List ℕ) → List ℕ
image_with code =
    0x45 ∷ 0x44 ∷ 0x49 ∷ 0x31 ∷ 0x00 ∷ 0x01 ∷ 0x00 ∷ 0x00 ∷ 0x00 ∷ 0x00 ∷ 0x00 ∷ 0xad ∷
    0x00 ∷ 0x00 ∷ 0x00 ∷ 0x01 ∷ 0x00 ∷ 0x00 ∷ 0x00 ∷ 0x02 ∷
    0x00 ∷ 0x00 ∷ 0x00 ∷ 0x03 ∷ 0x00 ∷ 0x00 ∷ 0x00 ∷ 0x04 ∷
    0x00 ∷ 0x02 ∷ 0x00 ∷ 0x00 ∷ 0x00 ∷ 0x00 ∷ 0x00 ∷ 0x00 ∷ 0x00 ∷ 0x01 ∷ 0x00 ∷ 0x01 ∷
    0x00 ∷ 0x00 ∷ 0x00 ∷ 0x01 ∷ 0x00 ∷ 0x00 ∷ 0x00 ∷ 0x03 ∷ 0x00 ∷ 0x00 ∷ 0x00 ∷ 0x31 ∷ 0x00 ∷ 0x00
    ∷ 0x00 ∷ 0x09 ∷
    0x02 ∷ 0x01 ∷ 0x00 ∷ 0x00 ∷ 0x02 ∷ 0x01 ∷ 0x00 ∷ 0x00 ∷
    0x00 ∷ 0x00 ∷ 0x00 ∷ 0x00 ∷ 0x00 ∷ 0x01 ∷ 0x00 ∷ 0x00 ∷
    0x00 ∷ 0x00 ∷ 0x00 ∷ 0x01 ∷ 0x00 ∷ 0x01 ∷ 0x00 ∷ 0x00 ∷
    0x00 ∷ 0x00 ∷ 0x00 ∷ 0x02 ∷ 0x00 ∷ 0x01 ∷ 0x00 ∷ 0x00 ∷
    0x05 ∷ 0x15 ∷ 0x00 ∷ 0x00 ∷ 0x00 ∷ 0x00 ∷ 0x00 ∷ 0x00 ∷ 0x00 ∷ 0x00 ∷ 0x00 ∷ 0x00 ∷ 0x00 ∷ 0x00
    ∷ 0x00 ∷ 0x31 ∷
    (code ++
    (0x00 ∷ 0x00 ∷ 0x00 ∷ 0x00 ∷ 0x00 ∷ 0x00 ∷ 0x00 ∷ 0x09 ∷
    0x78 ∷ 0x79 ∷ 0x6d ∷
    0x00 ∷ 0x02 ∷ 0x65 ∷ 0x6e ∷ 0x00 ∷ 0x00 ∷ 0x00 ∷ 0x01 ∷ 0x61 ∷ []))

-- the test, a request with its answer dropped, both stores, and back; after them the end
abbrev pub asking_code : List ℕ
asking_code =
    0x02 ∷ 0x00 ∷ 0x00 ∷ 0x01 ∷ 0x00 ∷ 0x00 ∷ 0x00 ∷ 0x01 ∷ 0x1c ∷ 0x31 ∷ 0x00 ∷ 0x00 ∷ 0x00 ∷ 0x30
    ∷
    0x50 ∷ 0x01 ∷ 0x00 ∷ 0x00 ∷ 0x00 ∷ 0x00 ∷ 0x06 ∷
    0x02 ∷ 0x00 ∷ 0x00 ∷ 0x01 ∷ 0x00 ∷ 0x00 ∷ 0x00 ∷ 0x01 ∷ 0x10 ∷ 0x03 ∷ 0x00 ∷ 0x00 ∷ 0x06 ∷
    0x01 ∷ 0x00 ∷ 0x00 ∷ 0x00 ∷ 0x02 ∷ 0x03 ∷ 0x00 ∷ 0x01 ∷ 0x06 ∷
    0x30 ∷ 0x00 ∷ 0x00 ∷ 0x00 ∷ 0x00 ∷ 0x00 ∷ []

-- the image with the code of the method that asks and stores
abbrev pub asking_image : List ℕ
asking_image = image_with asking_code

-- the parts of that image
abbrev pub asking_parts : Sections
asking_parts = record {
  version = One;
  counts = record no_counts { variables = 2; methods = 1; strings = 1 };
  variables = record { var_type = UnsignedInteger; size = 1 }
      ∷ record { var_type = UnsignedInteger; size = 1 } ∷ [];
  names = record { start = 0; length = 1 } ∷ record { start = 1; length = 1 }
      ∷ record { start = 2; length = 1 } ∷ [];
  attributes = record {
    item = items.Method (record { 0 = 0 });
    attr = attr.Definition;
    sub = 0;
    start = 0;
    length = 49;
  } ∷ [];
  elements = [];
  code = asking_code;
  strings = record { start = 0; length = 9 } ∷ [];
  name_bytes = 0x78 ∷ 0x79 ∷ 0x6d ∷ [];
  string_bytes = 0x00 ∷ 0x02 ∷ 0x65 ∷ 0x6e ∷ 0x00 ∷ 0x00 ∷ 0x00 ∷ 0x01 ∷ 0x61 ∷ [];
}

-- y is stored before x
abbrev pub exchanged_code : List ℕ
exchanged_code =
    0x02 ∷ 0x00 ∷ 0x00 ∷ 0x01 ∷ 0x00 ∷ 0x00 ∷ 0x00 ∷ 0x01 ∷ 0x1c ∷ 0x31 ∷ 0x00 ∷ 0x00 ∷ 0x00 ∷ 0x30
    ∷
    0x50 ∷ 0x01 ∷ 0x00 ∷ 0x00 ∷ 0x00 ∷ 0x00 ∷ 0x06 ∷
    0x01 ∷ 0x00 ∷ 0x00 ∷ 0x00 ∷ 0x02 ∷ 0x03 ∷ 0x00 ∷ 0x01 ∷ 0x06 ∷
    0x02 ∷ 0x00 ∷ 0x00 ∷ 0x01 ∷ 0x00 ∷ 0x00 ∷ 0x00 ∷ 0x01 ∷ 0x10 ∷ 0x03 ∷ 0x00 ∷ 0x00 ∷ 0x06 ∷
    0x30 ∷ 0x00 ∷ 0x00 ∷ 0x00 ∷ 0x00 ∷ 0x00 ∷ []

-- a number is pushed, negated and dropped in place of the request and its answer
abbrev pub unasked_code : List ℕ
unasked_code =
    0x02 ∷ 0x00 ∷ 0x00 ∷ 0x01 ∷ 0x00 ∷ 0x00 ∷ 0x00 ∷ 0x01 ∷ 0x1c ∷ 0x31 ∷ 0x00 ∷ 0x00 ∷ 0x00 ∷ 0x30
    ∷
    0x01 ∷ 0x00 ∷ 0x00 ∷ 0x00 ∷ 0x00 ∷ 0x20 ∷ 0x06 ∷
    0x02 ∷ 0x00 ∷ 0x00 ∷ 0x01 ∷ 0x00 ∷ 0x00 ∷ 0x00 ∷ 0x01 ∷ 0x10 ∷ 0x03 ∷ 0x00 ∷ 0x00 ∷ 0x06 ∷
    0x01 ∷ 0x00 ∷ 0x00 ∷ 0x00 ∷ 0x02 ∷ 0x03 ∷ 0x00 ∷ 0x01 ∷ 0x06 ∷
    0x30 ∷ 0x00 ∷ 0x00 ∷ 0x00 ∷ 0x00 ∷ 0x00 ∷ []
