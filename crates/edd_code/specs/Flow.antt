-- What a block needs so that its unit is valid: operands that are there, and instructions that are
-- allowed.
use Rattle.std.specs.Prelude.{◌≡◌, ℕ, ◌+◌, ◌-◌, ◌≤◌, Bool, true, ◌&&◌, ⊤, FitsSigned, IsTrue, Option, Some, None, is_some, is_none}
use Rattle.std.specs.Int.{w64}
use Rattle.edd_instructions.specs.declared.instruction.Instruction.{Instruction}
use Rattle.edd_instructions.specs.declared.unit.Context.{Context}
use Rattle.edd_image.specs.declared.versions.Version.{Version}
use Rattle.edd_image.specs.declared.versions.Version.TheVariants.{Two}
use Rattle.edd_instructions.specs.declared.unit.Sort.{Sort}
use Rattle.edd_instructions.specs.declared.unit.Sort.TheVariants.{Attribute}
use Rattle.edd_instructions.specs.Spelling.{IsSpelled}
use Rattle.edd_instructions.specs.References.{names_exist}
use Rattle.edd_instructions.specs.Units.{takes, leaves, jump, is_allowed}
use Rattle.edd_code.specs.Blocks.{Block, Nothing, Straight, Then, WhenNotZero, WhenZero, Either, Match}

-- how many operands an instruction leaves for the one after it
abbrev pub left_of : Option ℕ → ℕ
left_of None = 0
left_of (Some n) = n

-- how many operands there are after a block, with so many in front of it
abbrev pub depth_after : Block → ℕ → ℕ
depth_after Nothing d = d
depth_after (Straight i) d = d - takes i + left_of (leaves i)
depth_after (Then first second) d = depth_after second (depth_after first d)
depth_after (WhenNotZero body) d = d - 1
depth_after (WhenZero body) d = d - 1
depth_after (Either first otherwise) d = depth_after first (d - 1)
depth_after (Match label body rest) d = depth_after body (d - 1)

module _ (version : Version) (sort : Sort) where
  -- an instruction that may be in such a unit, and that goes on to the one after it and nowhere
  -- else
  abbrev pub is_straight_in : Instruction → Bool
  is_straight_in i = is_allowed version sort i && (is_some (leaves i) && is_none (jump i))

  -- Each instruction finds the operands that it takes, and at most as many as the stack holds;
  -- parts that come together leave as many.
  abbrev pub FlowsIn : Block → ℕ → Type 0
  FlowsIn Nothing d = ⊤
  FlowsIn (Straight i) d = IsTrue (is_straight_in i) × (takes i ≤ d) × (d ≤ 128)
  FlowsIn (Then first second) d = FlowsIn first d × FlowsIn second (depth_after first d)
  FlowsIn (WhenNotZero body) d = (1 ≤ d) × (d ≤ 128) × FlowsIn body (d - 1)
      × (depth_after body (d - 1) ≡ d - 1)
  FlowsIn (WhenZero body) d = (1 ≤ d) × (d ≤ 128) × FlowsIn body (d - 1)
      × (depth_after body (d - 1) ≡ d - 1)
  FlowsIn (Either first otherwise) d =
      (1 ≤ d) × (d ≤ 128) × FlowsIn first (d - 1) × FlowsIn otherwise (d - 1)
      × (depth_after otherwise (d - 1) ≡ depth_after first (d - 1))
      × (depth_after first (d - 1) ≤ 128)
  FlowsIn (Match label body rest) d =
      (1 ≤ d) × (d ≤ 128) × FlowsIn body (d - 1) × FlowsIn rest d
      × (depth_after rest d ≡ depth_after body (d - 1)) × (depth_after rest d ≤ 128)

-- the same in an attribute of the newest version
abbrev pub is_straight : Instruction → Bool
is_straight i = is_straight_in Two Attribute i

-- so the block may be in an attribute
abbrev pub Flows : Block → ℕ → Type 0
Flows b d = FlowsIn Two Attribute b d

-- what may be in a unit of the version and sort, and names only what exists
abbrev pub may_stand : Context → Instruction → Bool
may_stand context i = is_allowed context.version context.sort i && names_exist context i

-- each operand is in its range
abbrev pub AreSpelled : Block → Type 0
AreSpelled Nothing = ⊤
AreSpelled (Straight i) = IsSpelled i
AreSpelled (Then first second) = AreSpelled first × AreSpelled second
AreSpelled (WhenNotZero body) = AreSpelled body
AreSpelled (WhenZero body) = AreSpelled body
AreSpelled (Either first otherwise) = AreSpelled first × AreSpelled otherwise
AreSpelled (Match label body rest) = FitsSigned w64 label × AreSpelled body × AreSpelled rest

-- each straight instruction passes a test
abbrev pub all_straight : (Instruction → Bool) → Block → Bool
all_straight f Nothing = true
all_straight f (Straight i) = f i
all_straight f (Then first second) = all_straight f first && all_straight f second
all_straight f (WhenNotZero body) = all_straight f body
all_straight f (WhenZero body) = all_straight f body
all_straight f (Either first otherwise) = all_straight f first && all_straight f otherwise
all_straight f (Match label body rest) = all_straight f body && all_straight f rest
