use Rattle.std.proofs.Common.{◌≡◌, ℕ, ℤ, Bool, List, Option, sym, ap, ◌∙◌}
use Rattle.edd_syntax.specs.declared.numbers.Attr.TheVariants as attr
use Rattle.edd_syntax.specs.declared.numbers.AttrRef.{AttrRef}
use Rattle.edd_syntax.specs.declared.numbers.VarNo.{VarNo}
use Rattle.edd_syntax.specs.DeviceValues.{VariableType, value_at}
use Rattle.edd_instructions.specs.Reading.{Reading, IsReading}
use Rattle.edd_panel.specs.declared.fault.EditFault.{EditFault}
use Rattle.edd_panel.specs.Edits.{Rules, AreRules, Decides, edit_fault, of_variable}
use Rattle.edd_panel.proofs.laws.edits_are_decided.Goals as goal

abbrev rules : Option VariableType → (handling lowest highest enumerators : Reading) → Rules
rules t h l k e = record { type = t; handling = h; lowest = l; highest = k; enumerators = e }

-- readings are unique
Unique : Type 0
Unique = (b : List ℕ) (ref : AttrRef) (values : List ℤ) (r q : Reading) → IsReading b ref values r
    → IsReading b ref values q → r ≡ q

same_parts : (t u : Option VariableType) (h i l m k n e f : Reading) → t ≡ u → h ≡ i → l ≡ m → k ≡ n
    → e ≡ f → rules t h l k e ≡ rules u i m n f
same_parts t u h i l m k n e f type handling lowest highest enumerators =
    ap (λ (x : Option VariableType). rules x h l k e) type
    ∙ ap (λ (x : Reading). rules u x l k e) handling
    ∙ ap (λ (x : Reading). rules u i x k e) lowest
    ∙ ap (λ (x : Reading). rules u i m x e) highest
    ∙ ap (λ (x : Reading). rules u i m n x) enumerators

same_rules : Unique → (b : List ℕ) (values : List ℤ) (v : VarNo) (p q : Rules)
    → AreRules b values v p → AreRules b values v q → p ≡ q
unfolding Unique
same_rules unique b values v p q are too =
    same_parts p.type q.type p.handling q.handling p.lowest q.lowest p.highest q.highest
    p.enumerators q.enumerators (sym are.type ∙ too.type)
    (unique b (of_variable v attr.Handling) values p.handling q.handling are.handling too.handling)
    (unique b (of_variable v attr.MinValue) values p.lowest q.lowest are.lowest too.lowest)
    (unique b (of_variable v attr.MaxValue) values p.highest q.highest are.highest too.highest)
    (unique b (of_variable v attr.Enumerators) values p.enumerators q.enumerators are.enumerators too.enumerators)

one_verdict : Unique → (b : List ℕ) (values : List ℤ) (v : VarNo) (read_only : Bool) (n : ℤ)
    (one other : Option EditFault) → Decides b values v read_only n one
    → Decides b values v read_only n other → one ≡ other
one_verdict unique b values v read_only n one other d e =
    sym d.2
    ∙ ap (λ (rules : Rules). edit_fault rules read_only (value_at values v) n)
    (same_rules unique b values v d.0 e.0 d.1 e.1)
    ∙ e.2

pub returns : goal.returns
unfolding Unique
returns c = one_verdict c.readings_are_unique.ensures
