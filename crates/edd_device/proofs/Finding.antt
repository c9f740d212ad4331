-- The first place of a number, one after the other.
use Rattle.std.proofs.Common.{◌≡◌, ◌≢◌, ℕ, ℤ, List, Option, Some, true, false, Bool, Result, sym, ap, subst, ◌∙◌}
use Rattle.edd_syntax.specs.declared.answer.Trap.{Trap}
use Rattle.edd_syntax.specs.declared.numbers.Attr.TheVariants as attr
use Rattle.edd_instructions.specs.declared.records.Record.{Record}
use Rattle.edd_device.specs.declared.fault.DeviceFault.{DeviceFault}
use Rattle.edd_syntax.specs.declared.numbers.AttrRef.{AttrRef}
use Rattle.edd_instructions.specs.Reading.{Reading, IsReading}
use Rattle.edd_device.specs.Messages.{IsCarried, IsMessage, Message, Numbers, carried, entries, of_command}

-- the number of what was read at this attribute
pub numbered : (b : List ℕ) (values : List ℤ) (ref got : AttrRef) (r : Reading)
    (taken : Reading → Option ℤ) (n : Option ℤ) → got ≡ ref → IsReading b got values r
    → n ≡ taken r → Numbers b values ref taken n
numbered b values ref got r taken n same is e =
    (r, subst (λ (x : AttrRef). IsReading b x values r) same is, e)

-- a test says whether the number is this one, which is passed as `passed`
pub this_one : (n : Option ℤ) (number passed : ℤ) → passed ≡ number → n ≡ Some passed
    → Some number ≡ n
this_one n number passed same e = ap (λ (z : ℤ). Some z) (sym same) ∙ sym e

pub another : (n : Option ℤ) (number passed : ℤ) (test : Bool) → passed ≡ number
    → (n ≡ Some passed → test ≡ true) → test ≡ false → n ≢ Some number
another n number passed test same holds not e =
    let clash : false ≡ true = sym not ∙ holds (e ∙ ap (λ (z : ℤ). Some z) (sym same)) in cc

-- what is carried, where these are the entries that were read
pub carried_as : (b : List ℕ) (values : List ℤ) (command position : ℕ) (asks replies : AttrRef)
    (q r : Reading) (x y : Result (List Record) Trap) (m : Result Message DeviceFault)
    → asks ≡ of_command command attr.Request position
    → replies ≡ of_command command attr.Reply position
    → IsReading b asks values q → IsReading b replies values r
    → x ≡ entries q → y ≡ entries r → carried command x y ≡ m
    → IsCarried b values command position m
carried_as b values command position asks replies q r x y m e f read_q read_r is_x is_y is_m = (
  q,
  r,
  subst (λ (ref : AttrRef). IsReading b ref values q) e read_q,
  subst (λ (ref : AttrRef). IsReading b ref values r) f read_r,
  sym is_m ∙ ap (λ (z : Result (List Record) Trap). carried command z y) is_x
      ∙ ap (λ (z : Result (List Record) Trap). carried command (entries q) z) is_y,
)

-- the message of numbers that are equal to these
pub message_as : (b : List ℕ) (values : List ℤ) (n n' t t' : ℤ) (k k' : Bool)
    (m : Result Message DeviceFault) → n ≡ n' → t ≡ t' → k ≡ k'
    → IsMessage b values n t k m → IsMessage b values n' t' k' m
message_as b values n n' t t' k k' m e f g is =
    subst (λ (x : Bool). IsMessage b values n' t' x m) g
    (subst (λ (z : ℤ). IsMessage b values n' z k m) f
    (subst (λ (z : ℤ). IsMessage b values z t k m) e is))
