-- The block of an attribute's tree, with its strings by number.
use Rattle.std.specs.Prelude.{◌≡◌, pos, List, [], ◌∷◌, Option, Some, None}
use Rattle.edd_syntax.specs.declared.numbers.StrNo.{StrNo}
use Rattle.edd_syntax.specs.declared.reference.Target.{Target}
use Rattle.edd_syntax.specs.Expression.{Expr}
use Rattle.edd_syntax.specs.Conditional.{Cond, Value, If, Select, Conds, Nil, Cons, Arms, NoArms, ConsArm, Case, Default}
use Rattle.edd_syntax.specs.Item as item
use Rattle.edd_syntax.specs.Item.{TypePart}
use Rattle.edd_syntax.specs.Words.{Words}
use Rattle.edd_syntax.specs.Attributes as source
use Rattle.edd_syntax.specs.Attributes.{operation_number, enumerator, data_item, response, entry, member, element}
use Rattle.edd_instructions.specs.declared.records.Record.{Record}
use Rattle.edd_instructions.specs.declared.instruction.Instruction.{Instruction}
use Rattle.edd_instructions.specs.declared.instruction.Instruction.TheVariants as instruction
use Rattle.edd_instructions.specs.Agreement.{SameRecord}
use Rattle.edd_code.specs.Blocks as block
use Rattle.edd_code.specs.Blocks.{Block}
use Rattle.edd_code.specs.Expressions.{expression_block}
use Rattle.edd_attrs.specs.Code.{giving}
use Rattle.edd_attrs.specs.Records.{text_record, class_record, handling_record, validity_record}
use Rattle.edd_attrs.specs.Trees.{Tree, Texts, Class, Handling, Validity, Expressions, Enumerators, Number, Operation, Transaction, Data, ResponseCodes, Items, Members, Elements}

-- instructions one after the other
abbrev pub straight_line : List Instruction → Block
straight_line [] = block.Nothing
straight_line (i ∷ is) = block.Then (block.Straight i) (straight_line is)

-- ---- conditionals, whose values have the blocks that `of` allows

module _ {V : Type 0} (of : V → Block → Type 0) where
  -- The block is one of the conditional: it evaluates the condition and goes on with what applies.
  abbrev mutual
    pub IsCondBlock : Cond Target V → Block → Type 0
    IsCondBlock (Value v) b = of v b
    IsCondBlock (If condition first otherwise) b =
        (x y : Block) × (b ≡ block.Then (expression_block condition) (block.Either x y))
        × IsCondsBlock first x × IsCondsBlock otherwise y
    IsCondBlock (Select on arms) b =
        (x y : Block) × (b ≡ block.Then (expression_block on) x) × IsDefaultBlock arms y
        × IsArmsBlock y arms x

    -- one after the other
    pub IsCondsBlock : Conds Target V → Block → Type 0
    IsCondsBlock Nil b = b ≡ block.Nothing
    IsCondsBlock (Cons first rest) b = (x y : Block) × (b ≡ block.Then x y) × IsCondBlock first x
        × IsCondsBlock rest y

    -- each CASE in turn, with what comes of DEFAULT at the end, where the operand is dropped
    pub IsArmsBlock : (otherwise : Block) → Arms Target V → Block → Type 0
    IsArmsBlock otherwise NoArms b = b ≡ block.Then (block.Straight instruction.Pop) otherwise
    IsArmsBlock otherwise (ConsArm (Case label body) rest) b =
        (x y : Block) × (b ≡ block.Match label x y) × IsCondsBlock body x
        × IsArmsBlock otherwise rest y
    IsArmsBlock otherwise (ConsArm (Default body) rest) b = IsArmsBlock otherwise rest b

    -- the first DEFAULT, wherever it is
    pub IsDefaultBlock : Arms Target V → Block → Type 0
    IsDefaultBlock NoArms b = b ≡ block.Nothing
    IsDefaultBlock (ConsArm (Case label body) rest) b = IsDefaultBlock rest b
    IsDefaultBlock (ConsArm (Default body) rest) b = IsCondsBlock body b

  -- elements one after the other
  abbrev pub IsLineBlock : List V → Block → Type 0
  IsLineBlock [] b = b ≡ block.Nothing
  IsLineBlock (v ∷ rest) b = (x y : Block) × (b ≡ block.Then x y) × of v x × IsLineBlock rest y

-- the elements of a type's list, in all of its parts
abbrev pub elements : List (TypePart Target) → Conds Target item.Enumerator
elements [] = Nil
elements (item.Element first ∷ rest) = Cons first (elements rest)
elements (_ ∷ rest) = elements rest

-- the value of an expression as a record
abbrev pub IsValueBlock : Expr Target → Block → Type 0
IsValueBlock e b = b ≡ block.Then (expression_block e) (block.Straight instruction.Number)

module _ (string_numbered : StrNo → Option Words) where
  -- the block gives a record that says the same
  abbrev pub IsRecordBlock : source.Record → Block → Type 0
  IsRecordBlock x b = (r : Record) × SameRecord string_numbered x r × (b ≡ straight_line (giving r))

  -- the records of elements that have one each
  abbrev pub Giving : {V : Type 0} → (V → source.Record) → V → Block → Type 0
  Giving gives v b = IsRecordBlock (gives v) b

  -- The block gives the records that the tree gives, with strings by their numbers.
  unfoldable pub IsTreeBlock : Tree → Block → Type 0
  IsTreeBlock (Texts c) b = IsCondBlock (Giving text_record) c b
  IsTreeBlock (Class names) b = IsLineBlock (Giving class_record) names b
  IsTreeBlock (Handling c) b = IsCondBlock (Giving handling_record) c b
  IsTreeBlock (Validity c) b = IsCondBlock (Giving validity_record) c b
  IsTreeBlock (Expressions c) b = IsCondBlock IsValueBlock c b
  IsTreeBlock (Enumerators parts) b = IsCondsBlock (Giving enumerator) (elements parts) b
  IsTreeBlock (Number n) b = IsRecordBlock (source.Number (pos n)) b
  IsTreeBlock (Operation o) b = IsRecordBlock (source.Number (pos (operation_number o))) b
  IsTreeBlock (Transaction None) b = b ≡ block.Nothing
  IsTreeBlock (Transaction (Some n)) b = IsRecordBlock (source.Number (pos n)) b
  IsTreeBlock (Data all) b = IsCondsBlock (Giving data_item) all b
  IsTreeBlock (ResponseCodes responses) b = IsLineBlock (Giving response) responses b
  IsTreeBlock (Items entries) b = IsCondsBlock (Giving entry) entries b
  IsTreeBlock (Members members) b = IsLineBlock (Giving member) members b
  IsTreeBlock (Elements all) b = IsLineBlock (Giving element) all b

  -- an attribute that isn't written gives nothing
  abbrev pub IsBlockOf : Option Tree → Block → Type 0
  IsBlockOf None b = b ≡ block.Nothing
  IsBlockOf (Some t) b = IsTreeBlock t b
