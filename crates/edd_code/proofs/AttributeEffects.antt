-- A block comes in an attribute to the same as without records so far.
use Rattle.std.proofs.Common.{◌≡◌, refl, sym, ap, ◌∙◌, Bool, true, false, ℤ, List, [], ◌∷◌, ◌++◌, append_assoc, append-nil}
use Rattle.std.specs.Ordering.{int_eq}
use Rattle.edd_syntax.specs.declared.answer.Trap.{Trap}
use Rattle.edd_syntax.specs.TwosComplement.{is_zero}
use Rattle.edd_instructions.specs.declared.records.Record.{Record}
use Rattle.edd_instructions.specs.Steps.{Environment}
use Rattle.edd_code.specs.Blocks.{Block, Nothing, Straight, Then, WhenNotZero, WhenZero, Either, Match}
use Rattle.edd_code.specs.Outcomes as attribute
use Rattle.edd_code.specs.BlockEffects as blocks
use Rattle.edd_code.specs.BlockEffects.{Outcome, Goes, and_then}
use Rattle.edd_code.specs.AttributeEffects.{after_records, does}

behind_both : (given records : List Record) (o : attribute.Outcome)
    → after_records (given ++ records) o
    ≡ after_records given (attribute.after_records records o)
behind_both given records (attribute.Goes more operands) =
    ap (λ (rs : List Record). Goes operands rs) (append_assoc given records more)
behind_both given records _ = refl

both : (given : List Record) (o : attribute.Outcome) (next : List ℤ → attribute.Outcome)
    (then : List ℤ → List Record → Outcome (List Record) Trap)
    → ((operands : List ℤ) (rs : List Record) → then operands rs ≡ after_records rs (next operands))
    → and_then (after_records given o) then ≡ after_records given (attribute.and_then o next)
both given (attribute.Goes records operands) next then same = same operands (given ++ records)
    ∙ behind_both given records (next operands)
both given _ next then same = refl

tested : (b : Bool) (given : List Record) (o p : attribute.Outcome)
    {x y : Outcome (List Record) Trap} → x ≡ after_records given o → y ≡ after_records given p
    → (elim b as (λ _. Outcome (List Record) Trap) [ true ↦ x | false ↦ y ])
    ≡ after_records given (elim b as (λ _. attribute.Outcome) [ true ↦ o | false ↦ p ])
tested true given o p one two = one
tested false given o p one two = two

module _ (env : Environment) (values : List ℤ) where
  pub same_in_attributes : (b : Block) (operands : List ℤ) (given : List Record)
      → does env values b operands given
      ≡ after_records given (attribute.does env values b operands)
  unfolding blocks.does attribute.does
  same_in_attributes Nothing operands given = ap (λ (rs : List Record). Goes operands rs)
      (sym (append-nil given))
  same_in_attributes (Straight i) operands given = refl
  same_in_attributes (Then first second) operands given =
      ap (λ (o : Outcome (List Record) Trap). and_then o (does env values second))
      (same_in_attributes first operands given)
      ∙ both given (attribute.does env values first operands) (attribute.does env values second)
      (does env values second) (same_in_attributes second)
  same_in_attributes (WhenNotZero body) [] given = refl
  same_in_attributes (WhenNotZero body) (a ∷ below) given =
      tested (is_zero a) given (attribute.Goes [] below) (attribute.does env values body below)
      (ap (λ (rs : List Record). Goes below rs) (sym (append-nil given)))
      (same_in_attributes body below given)
  same_in_attributes (WhenZero body) [] given = refl
  same_in_attributes (WhenZero body) (a ∷ below) given =
      tested (is_zero a) given (attribute.does env values body below) (attribute.Goes [] below)
      (same_in_attributes body below given)
      (ap (λ (rs : List Record). Goes below rs) (sym (append-nil given)))
  same_in_attributes (Either first otherwise) [] given = refl
  same_in_attributes (Either first otherwise) (a ∷ below) given =
      tested (is_zero a) given (attribute.does env values otherwise below)
      (attribute.does env values first below) (same_in_attributes otherwise below given)
      (same_in_attributes first below given)
  same_in_attributes (Match label body rest) [] given = refl
  same_in_attributes (Match label body rest) (a ∷ below) given =
      tested (int_eq a label) given (attribute.does env values body below)
      (attribute.does env values rest (a ∷ below)) (same_in_attributes body below given)
      (same_in_attributes rest (a ∷ below) given)
