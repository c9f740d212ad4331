-- What writing code results in, step by step.
use Rattle.std.specs.Prelude.{◌≡◌, ℕ, ◌+◌, ◌≤◌, Bool, true, List, [], ◌∷◌, ◌++◌, length, Option, Some, None}
use Rattle.std.specs.List.{flat_map, list_all}
use Rattle.edd_syntax.specs.declared.numbers.StrNo.{StrNo}
use Rattle.edd_syntax.specs.declared.reference.Target.{Target}
use Rattle.edd_syntax.specs.Conditional.{Cond, Conds, Arm, Arms, NoArms, ConsArm, Case, Default, arms_from}
use Rattle.edd_syntax.specs.SubsetRules.{values_in, values_of, values_under}
use Rattle.edd_syntax.specs.Words.{Words}
use Rattle.edd_syntax.specs.Attributes as source
use Rattle.edd_syntax.specs.Attributes.{enumerator}
use Rattle.edd_syntax.specs.Item as item
use Rattle.edd_syntax.specs.Item.{Enumerator, TypePart}
use Rattle.edd_instructions.specs.Agreement.{string_of_table}
use Rattle.edd_instructions.specs.declared.instruction.Instruction.TheVariants as instruction
use Rattle.edd_instructions.specs.Spelling.{spelling}
use Rattle.edd_code.specs.Blocks.{Block, bytes_at}
use Rattle.edd_code.specs.Closing.{closed}
use Rattle.edd_code.specs.Tables.{GrowsBy}
use Rattle.edd_code.specs.Written.{WritesBlock}
use Rattle.edd_attrs.specs.Records.{kept_enumerator, strings_of_record}
use Rattle.edd_attrs.specs.TreeBlocks.{Giving, IsRecordBlock, IsCondBlock, IsArmsBlock}

-- one record
abbrev pub WritesRecord : (old : List Words) → (before : List ℕ) → source.Record
    → (new : List Words) → (after : List ℕ) → Type 0
WritesRecord old before x new after =
    WritesBlock old before (strings_of_record x) (λ string_numbered b. IsRecordBlock string_numbered
    x b) new after

-- ---- the strings of all branches

module _ {V : Type 0} (strings : V → List Words) where
  -- of a conditional
  abbrev pub cond_strings : Cond Target V → List Words
  cond_strings c = flat_map strings (values_in c)

  -- of conditionals one after the other
  abbrev pub conds_strings : Conds Target V → List Words
  conds_strings all = flat_map strings (values_of all)

  -- of the arms of a SELECT
  abbrev pub arms_strings : Arms Target V → List Words
  arms_strings arms = flat_map strings (values_under arms)

-- ---- SELECT

-- the body of the first DEFAULT
abbrev pub default_of : {V : Type 0} → Arms Target V → Option (Conds Target V)
default_of NoArms = None
default_of (ConsArm (Case label body) rest) = default_of rest
default_of (ConsArm (Default body) rest) = Some body

-- a CASE whose target is still open; DEFAULT has no code of its own
abbrev pub header : {V : Type 0} → Arm Target V → List ℕ
header (Case label body) = spelling (instruction.Case label 0)
header (Default body) = []

-- the headers of all arms, one after the other
abbrev pub headers : {V : Type 0} → List (Arm Target V) → List ℕ
headers arms = flat_map header arms

-- the place of the open target of an arm whose header is at a place
abbrev pub hole_of : {V : Type 0} → (place : ℕ) → Arm Target V → Option ℕ
hole_of place (Case label body) = Some (place + 9)
hole_of place (Default body) = None

-- the same of all arms, whose headers are one after the other
abbrev pub holes_of : {V : Type 0} → (place : ℕ) → List (Arm Target V) → List (Option ℕ)
holes_of place [] = []
holes_of place (arm ∷ rest) = hole_of place arm ∷ holes_of (place + length (header arm)) rest

-- after the code a jump over the body, which is the target of the CASE
abbrev pub with_body : (code : List ℕ) (hole : ℕ) → Block → List ℕ
with_body code hole body =
    let opened = closed (code ++ spelling (instruction.Jump 0)) hole in closed
    (opened ++ bytes_at (length opened) body) (length code + 1)

-- The body of a CASE with an open target is written, as a block that `of` allows, and the table
-- holds its strings.
pub record WritesBody (old : List Words) (before : List ℕ) (hole : ℕ) (strings : List Words)
    (of : (StrNo → Option Words) → Block → Type 0) (new : List Words) (after : List ℕ) : Type 0
  where
    pub table : GrowsBy old strings new
    pub block : Block
    pub written : after ≡ with_body before hole block
    pub is : (later : List Words) → of (string_of_table (new ++ later)) block

module _ {V : Type 0} (strings : V → List Words) (is_block : (StrNo → Option Words) → V → Block
    → Type 0) where
  -- The body of an arm is written, whose CASE has the open target: the block of the rest became
  -- that of the arm and the rest.
  pub record WritesArm (old : List Words) (before : List ℕ) (hole : Option ℕ) (arm : Arm Target V)
      (new : List Words) (after : List ℕ) : Type 0 where
    pub table : GrowsBy old (arms_strings strings (ConsArm arm NoArms)) new
    pub longer : length before ≤ length after
    pub around : Block → Block
    pub written : (front : List ℕ) (rest : Block) → before ≡ (front ++ header arm)
        ++ bytes_at (length (front ++ header arm)) rest
        → hole ≡ hole_of (length front) arm → after ≡ front ++ bytes_at (length front) (around rest)
    pub is : (later : List Words) (otherwise : Block) (rest : Arms Target V) (b : Block)
        → IsArmsBlock (is_block (string_of_table (new ++ later))) otherwise rest b
        → IsArmsBlock (is_block (string_of_table (new ++ later))) otherwise (ConsArm arm rest)
        (around b)

  -- the same of all arms
  pub record WritesArms (old : List Words) (before : List ℕ) (holes : List (Option ℕ))
      (arms : List (Arm Target V)) (new : List Words) (after : List ℕ) : Type 0 where
    pub table : GrowsBy old (arms_strings strings (arms_from arms)) new
    pub around : Block → Block
    pub written : (front : List ℕ) (rest : Block) → before ≡ (front ++ headers arms)
        ++ bytes_at (length (front ++ headers arms)) rest
        → holes ≡ holes_of (length front) arms
        → after ≡ front ++ bytes_at (length front) (around rest)
    pub is : (later : List Words) (otherwise : Block) (b : Block)
        → IsArmsBlock (is_block (string_of_table (new ++ later))) otherwise NoArms b
        → IsArmsBlock (is_block (string_of_table (new ++ later))) otherwise (arms_from arms)
        (around b)

-- ---- the elements of a type's list

-- the strings of an enumerator
abbrev pub enumerator_strings : Enumerator → List Words
enumerator_strings e = strings_of_record (enumerator e)

-- the strings of the enumerators in a part of a type
abbrev pub element_strings : TypePart Target → List Words
element_strings (item.Element c) = cond_strings enumerator_strings c
element_strings _ = []

-- lowering can take the enumerators in a part of a type
abbrev pub is_kept_part : TypePart Target → Bool
is_kept_part (item.Element c) = list_all kept_enumerator (values_in c)
is_kept_part _ = true

-- the table and the code stay as they are
abbrev pub WritesNothing : (old : List Words) (before : List ℕ) (new : List Words) (after : List ℕ)
    → Type 0
WritesNothing old before new after = (new ≡ old) × (after ≡ before)

-- a part that is no element gives nothing
abbrev pub WritesPart : (old : List Words) (before : List ℕ) → TypePart Target
    → (new : List Words) (after : List ℕ) → Type 0
WritesPart old before (item.OneNumber which c) new after = WritesNothing old before new after
WritesPart old before (item.OneFormat which c) new after = WritesNothing old before new after
WritesPart old before (item.Element c) new after =
    WritesBlock old before (cond_strings enumerator_strings c)
    (λ numbered b. IsCondBlock (Giving numbered enumerator) c b) new after
