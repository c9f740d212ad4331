-- What the blocks of statements' code need so that its unit is valid in a method.
use Rattle.std.specs.Prelude.{◌≡◌, ◌⊎◌, ℕ}
use Rattle.edd_instructions.specs.declared.instruction.Instruction.TheVariants as instruction
use Rattle.edd_instructions.specs.declared.unit.Sort.TheVariants.{Method}
use Rattle.edd_image.specs.declared.versions.Version.TheVariants.{Two}
use Rattle.edd_code.specs.Blocks.{Block, Straight}
use Rattle.edd_code.specs.Flow.{FlowsIn, depth_after}
use Rattle.edd_methods.specs.Statements.{Part, Missing, Step, Test, Code, Plain, Then, Guard, Branch, Loop, Switch, Break, Continue, Finish, Arms, Nil, Statement, Case, Default}

-- it finds no operands, and leaves so many
abbrev pub Leaves : (n : ℕ) → Block → Type 0
Leaves n b = FlowsIn Two Method b 0 × (depth_after b 0 ≡ n)

-- it leaves none, or it is an abort
abbrev pub Rests : Block → Type 0
Rests b = (b ≡ Straight instruction.Abort) ⊎ Leaves 0 b

-- it leaves one
abbrev pub Gives : Block → Type 0
Gives b = Leaves 1 b

-- R holds of each block that is to leave nothing, and V of each that is to leave one operand
module _ (R V : Block → Type 0) where
  -- in a part of a loop
  abbrev pub FitsPart : Part → Type 0
  FitsPart Missing = Unit {0}
  FitsPart (Step b) = R b
  FitsPart (Test b) = V b

  -- in code, and in the statements of a switch
  abbrev mutual
    pub Fits : Code → Type 0
    Fits (Plain b) = R b
    Fits (Then first second) = Fits first × Fits second
    Fits (Guard test first) = V test × Fits first
    Fits (Branch test first otherwise) = V test × Fits first × Fits otherwise
    Fits (Loop front back body) = FitsPart front × FitsPart back × Fits body
    Fits (Switch on arms) = V on × FitArms arms
    Fits Break = Unit {0}
    Fits Continue = Unit {0}
    Fits Finish = Unit {0}

    -- in the statements of a switch
    pub FitArms : Arms → Type 0
    FitArms Nil = Unit {0}
    FitArms (Statement first rest) = Fits first × FitArms rest
    FitArms (Case label rest) = FitArms rest
    FitArms (Default rest) = FitArms rest
