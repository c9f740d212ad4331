-- How far along a path.
use Rattle.std.specs.Prelude.{◌≡◌, List, Option, Some, option_and_then}
use Rattle.edd_name_meanings.specs.declared.path_steps.PathStep.{PathStep}
use Rattle.edd_name_meanings.specs.Places.{place_along}
use Rattle.edd_syntax.specs.declared.numbers.Kind.{Kind}
use Rattle.edd_syntax.specs.declared.numbers.ItemNo.{ItemNo}
use Rattle.edd_syntax.specs.declared.numbers.TokenNo.{TokenNo}
use Rattle.edd_syntax.specs.Text.{Name}
use Rattle.edd_syntax.specs.Reference.{Path}
use Rattle.edd_syntax.specs.Item.{Description}
use Rattle.edd_syntax.specs.NameRules.{faults_along}
use Rattle.edd_syntax.specs.Numbers.{kind_of}
use Rattle.edd_syntax.specs.Refusal.{Refusal}
use Rattle.edd_syntax.specs.Resolution.{along}

-- at a step with these members after it, the path has these faults, at this token, and means this
-- item
pub record Reaches (unit : Description Path) (allowed : List Kind) (all : List Refusal)
    (at : TokenNo)
    (meant : Option ItemNo) (p : PathStep) (members : List Name) : Type 0 where
  pub faults : faults_along unit allowed p.name.now p.kind p.item members ≡ all
  pub place : place_along unit p.at p.kind p.item members ≡ at
  pub item : option_and_then (λ j. along unit j members) p.item ≡ meant
  pub kind : (j : ItemNo) → p.item ≡ Some j → kind_of j ≡ p.kind
