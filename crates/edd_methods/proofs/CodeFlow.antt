-- What the blocks of code need is kept by what is weaker.
use Rattle.edd_code.specs.Blocks.{Block}
use Rattle.edd_methods.specs.CodeFlow.{FitsPart, Fits, FitArms}
use Rattle.edd_methods.specs.Statements.{Part, Missing, Step, Test, Code, Plain, Then, Guard, Branch, Loop, Switch, Arms, Nil, Statement, Case, Default}

module _ (R V R' V' : Block → Type 0) (rests : (b : Block) → R b → R' b) (gives : (b : Block) → V b
    → V' b) where
  part_weaker : (part : Part) → FitsPart R V part → FitsPart R' V' part
  part_weaker Missing h = tt
  part_weaker (Step b) h = rests b h
  part_weaker (Test b) h = gives b h

  mutual
    pub fits_weaker : (c : Code) → Fits R V c → Fits R' V' c
    fits_weaker (Plain b) h = rests b h
    fits_weaker (Then first second) h = (fits_weaker first h.0, fits_weaker second h.1)
    fits_weaker (Guard test first) h = (gives test h.0, fits_weaker first h.1)
    fits_weaker (Branch test first otherwise) h =
        (gives test h.0, fits_weaker first h.1, fits_weaker otherwise h.2)
    fits_weaker (Loop front back body) h =
        (part_weaker front h.0, part_weaker back h.1, fits_weaker body h.2)
    fits_weaker (Switch on arms) h = (gives on h.0, arms_weaker arms h.1)
    fits_weaker _ h = tt

    arms_weaker : (arms : Arms) → FitArms R V arms → FitArms R' V' arms
    arms_weaker Nil h = tt
    arms_weaker (Statement first rest) h = (fits_weaker first h.0, arms_weaker rest h.1)
    arms_weaker (Case label rest) h = arms_weaker rest h
    arms_weaker (Default rest) h = arms_weaker rest h
