-- The messages that a walk over commands and their transactions has found so far.
use Rattle.std.proofs.Common.{◌≡◌, ℕ, suc, ◌+◌, ◌-◌, ◌<◌, ◌≤◌, Bool, true, false, ℤ, List, [], ◌∷◌, ◌++◌, Option, Some, None, refl, sym, ap, subst, ◌∙◌, arith, append_assoc, append-nil}
use Rattle.edd_syntax.specs.declared.numbers.CmdNo.{CmdNo}
use Rattle.edd_syntax.specs.declared.numbers.AttrRef.{AttrRef}
use Rattle.edd_syntax.specs.declared.numbers.VarNo.{VarNo}
use Rattle.edd_syntax.specs.declared.answer.Trap.{Trap}
use Rattle.edd_syntax.specs.declared.answer.Trap.TheVariants as trap
use Rattle.edd_instructions.specs.Reading.{Fault, IsReading, Reading}
use Rattle.edd_machine.specs.declared.fault.ReadFault.{ReadFault}
use Rattle.edd_machine.specs.declared.fault.ReadFault.TheVariants as read_fault
use Rattle.edd_machine.specs.Faults.{IsReadFault, trap_of}
use Rattle.edd_octets.specs.declared.messages.Message.{Message}
use Rattle.edd_octets.specs.declared.messages.Side.{Side}
use Rattle.edd_octets.specs.Carriers.{AreIfSo, AreOfCommand, AreOfCommands, Follows, carried, is_number, operation_of, where_so}
use Rattle.edd_octets.specs.Messages.{attribute_of}

by_fault : (b : List ℕ) (values : List ℤ) (ref : AttrRef) (fault : ReadFault) (why : Trap)
    → trap_of fault ≡ Some why → IsReadFault b ref values fault → IsReading b ref values (Fault why)
by_fault b values ref read_fault.NoItem why e is = absurd cc
by_fault b values ref read_fault.WrongValues why e is = absurd cc
by_fault b values ref read_fault.DivZero why e is =
    let same : trap.DivZero ≡ why = cc in
    subst (λ (t : Trap). IsReading b ref values (Fault t)) same is.1
by_fault b values ref read_fault.DivOverflow why e is =
    let same : trap.DivOverflow ≡ why = cc in
    subst (λ (t : Trap). IsReading b ref values (Fault t)) same is.1
by_fault b values ref read_fault.BadShift why e is =
    let same : trap.BadShift ≡ why = cc in
    subst (λ (t : Trap). IsReading b ref values (Fault t)) same is.1
by_fault b values ref read_fault.NoElement why e is =
    let same : trap.NoElement ≡ why = cc in
    subst (λ (t : Trap). IsReading b ref values (Fault t)) same is.1
by_fault b values ref read_fault.Memory why e is = absurd cc

pub trapped : (b : List ℕ) (values : List ℤ) (ref : AttrRef) (fault is : ReadFault) (why : Trap)
    → fault ≡ is → trap_of is ≡ Some why → IsReadFault b ref values fault
    → IsReading b ref values (Fault why)
trapped b values ref fault is why same named refused =
    by_fault b values ref is why named (subst (λ (f : ReadFault). IsReadFault b ref values f) same refused)

pub moved : (b : List ℕ) (values : List ℤ) (given wanted : AttrRef) (r : Reading) → given ≡ wanted
    → IsReading b given values r → IsReading b wanted values r
moved b values given wanted r same is =
    subst (λ (a : AttrRef). IsReading b a values r) same is

module _ (b : List ℕ) (values : List ℤ) (v : VarNo) (side : Side) where
  module _ (command : CmdNo) where
    abbrev message : ℕ → Message
    message p = record { command = command; position = p; side = side }

    abbrev Own : ℕ → ℕ → List Message → Type 0
    Own p n all = AreOfCommand b values v command side p n all

    -- this was read of the message at a position
    abbrev pub Found : ℕ → Option Bool → Type 0
    Found p found = (r : Reading) × IsReading b (attribute_of (message p)) values r
        × (found ≡ carried v r)

    more : (p left : ℕ) (so : Bool) → Found p (Some so) → (rest : List Message)
        → Own (p + 1) left rest → Own p (suc left) (where_so so (message p) rest)
    more p left so found rest own = (
      found.0,
      found.1,
      subst (λ (o : Option Bool). Follows o (message p) (Own (p + 1) left)
          (where_so so (message p) rest)) found.2 (rest, own, refl),
    )

    none : (p left : ℕ) → Found p None → Own p (suc left) []
    none p left found = (
      found.0,
      found.1,
      subst (λ (o : Option Bool). Follows o (message p) (Own (p + 1) left) []) found.2 refl,
    )

    -- what was found up to a position: with what is found from there on it is all
    abbrev pub SoFar : (old : List Message) → ℕ → List Message → Type 0
    SoFar old p all = (own : List Message) × (all ≡ old ++ own)
        × ((rest : List Message) → Own p (65536 - p) rest → Own 0 65536 (own ++ rest))

    -- all that is found
    abbrev pub All : (old all : List Message) → Type 0
    All old all = (own : List Message) × Own 0 65536 own × (all ≡ old ++ own)

    pub at_first : (old : List Message) → SoFar old 0 old
    at_first old = ([], sym (append-nil old), λ rest own. own)

    next_left : (p : ℕ) → p < 65536 → 65536 - p ≡ suc (65536 - (p + 1))
    next_left p within = omega arith

    onward : (old all : List Message) (p : ℕ) (so : Bool) (sofar : SoFar old p all) → p < 65536
        → Found p (Some so) → (rest : List Message) → Own (p + 1) (65536 - (p + 1)) rest
        → Own 0 65536 (sofar.0 ++ where_so so (message p) rest)
    onward old all p so sofar within found rest own =
        sofar.2 (where_so so (message p) rest)
        (subst (λ (n : ℕ). Own p n (where_so so (message p) rest)) (sym (next_left p within))
        (more p (65536 - (p + 1)) so found rest own))

    before_rest : (so : Bool) (m : Message) (own rest : List Message)
        → own ++ where_so so m rest ≡ (own ++ where_so so m []) ++ rest
    before_rest true m own rest = sym (append_assoc own (m ∷ []) rest)
    before_rest false m own rest =
        ap (λ (ms : List Message). ms ++ rest) (sym (append-nil own))

    pub one_more : (old all : List Message) (p : ℕ) (so : Bool) → SoFar old p all → p < 65536
        → Found p (Some so) → SoFar old (p + 1) (all ++ where_so so (message p) [])
    one_more old all p so sofar within found = (
      sofar.0 ++ where_so so (message p) [],
      ap (λ (ms : List Message). ms ++ where_so so (message p) []) sofar.1
          ∙ append_assoc old sofar.0 (where_so so (message p) []),
      λ rest own. subst (λ (ms : List Message). Own 0 65536 ms)
          (before_rest so (message p) sofar.0 rest)
          (onward old all p so sofar within found rest own),
    )

    pub ended : (old all : List Message) (p : ℕ) → SoFar old p all → p < 65536 → Found p None
        → All old all
    ended old all p sofar within found = (
      sofar.0,
      subst (λ (ms : List Message). Own 0 65536 ms) (append-nil sofar.0)
          (sofar.2 [] (subst (λ (n : ℕ). Own p n []) (sym (next_left p within))
          (none p (65536 - (p + 1)) found))),
      sofar.1,
    )

    pub past_last : (old all : List Message) (p : ℕ) → SoFar old p all → 65536 ≤ p → All old all
    past_last old all p sofar past =
        let over : 0 ≡ 65536 - p = omega arith in (
          sofar.0,
          subst (λ (ms : List Message). Own 0 65536 ms) (append-nil sofar.0)
              (sofar.2 [] (subst (λ (n : ℕ). Own p n []) over refl)),
          sofar.1,
        )

  -- ---- commands

  module _ (operation : ℕ) where
    abbrev Rest : ℕ → ℕ → List Message → Type 0
    Rest number left all = AreOfCommands b values v operation side number left all

    abbrev Of : (number : ℕ) → List Message → Type 0
    Of number own = AreOfCommand b values v (record { 0 = number }) side 0 65536 own

    -- these are the messages of one command, behind others
    abbrev pub OneCommand : (number : ℕ) → (old new : List Message) → Type 0
    OneCommand number old new = (r : Reading)
        × IsReading b (operation_of (record { 0 = number })) values r
        × (own : List Message)
        × AreIfSo (is_number operation r)
        (AreOfCommand b values v (record { 0 = number }) side 0 65536) own × (new ≡ old ++ own)

    pub of_operation : (number : ℕ) (r : Reading) (old new : List Message)
        → IsReading b (operation_of (record { 0 = number })) values r
        → true ≡ is_number operation r → All (record { 0 = number }) old new
        → OneCommand number old new
    of_operation number r old new is so found = (
      r,
      is,
      found.0,
      subst (λ (o : Bool). AreIfSo o (Of number) found.0) so found.1,
      found.2,
    )

    pub of_another : (number : ℕ) (r : Reading) (old : List Message)
        → IsReading b (operation_of (record { 0 = number })) values r
        → false ≡ is_number operation r → OneCommand number old old
    of_another number r old is so = (
      r,
      is,
      [],
      subst (λ (o : Bool). AreIfSo o (Of number) []) so refl,
      sym (append-nil old),
    )

    module _ (count : ℕ) where
      abbrev pub Walked : ℕ → List Message → Type 0
      Walked number all = (rest : List Message) → Rest number (count - number) rest
          → Rest 0 count (all ++ rest)

      pub one_command : (all new : List Message) (number : ℕ) → Walked number all
          → number < count → OneCommand number all new → Walked (number + 1) new
      one_command all new number walked within one rest others =
          let next : count - number ≡ suc (count - (number + 1)) = omega arith in
          let whole : all ++ (one.2 ++ rest) ≡ new ++ rest =
          sym (append_assoc all one.2 rest) ∙ ap (λ (ms : List Message). ms ++ rest) (sym one.4) in
          subst (λ (ms : List Message). Rest 0 count ms) whole
          (walked (one.2 ++ rest) (subst (λ (n : ℕ). Rest number n (one.2 ++ rest)) (sym next)
          (one.0, one.1, one.2, one.3, rest, others, refl)))

      pub all_walked : (all : List Message) (number : ℕ) → Walked number all → count ≤ number
          → Rest 0 count all
      all_walked all number walked past =
          let over : 0 ≡ count - number = omega arith in
          subst (λ (ms : List Message). Rest 0 count ms) (append-nil all)
          (walked [] (subst (λ (n : ℕ). Rest number n []) over refl))
