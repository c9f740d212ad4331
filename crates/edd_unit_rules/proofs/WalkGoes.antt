-- One turn of the walk over a unit, which goes on past what it finds wrong.
use Rattle.std.proofs.Common.{◌≡◌, ◌⊎◌, ℕ, ◌+◌, ◌-◌, ◌<◌, ◌≤◌, Bool, true, false, ◌&&◌, ◌||◌, cond, List, ◌∷◌, length, get_or, set, Option, Some, None, refl, sym, ap, subst, ◌∙◌, arith, inl, inr, length-set, get_or-set_same, get_or-set_other}
use Rattle.std.specs.Prelude.{IfSome, ◌==◌, nat_lt, nat_le, option_map, is_some, unwrap_or, if◌then◌else◌}
use Rattle.std.specs.List.{list_all, list_any}
use Rattle.std.specs.Option.{option_to_list, option_map_or}
use Rattle.std.proofs.lemmas.Bool.{cases_Bool, cases_eq, cases_lt, and_parts, and_left, and_right, or_cases, or_left, or_right, eqb-true, eq-eqb, ltb-true, lt-ltb, le-ltb, leb-true, leb-false}
use Rattle.std.proofs.lemmas.List.{length-map, set-set, set_past}
use Rattle.edd_instructions.specs.declared.instruction.Instruction.{Instruction}
use Rattle.edd_instructions.specs.declared.unit.Context.{Context}
use Rattle.edd_instructions.specs.declared.unit.Sort.{Sort}
use Rattle.edd_instructions.specs.declared.unit.Sort.TheVariants.{Attribute, Method}
use Rattle.edd_instructions.specs.declared.unit.Way.{Way}
use Rattle.edd_image.specs.Front.{◌>>=◌}
use Rattle.edd_instructions.specs.Decoding.{instruction_at}
use Rattle.edd_instructions.specs.References.{names_exist}
use Rattle.edd_instructions.specs.Units.{Placed, takes, leaves, jump, is_allowed, is_start}
use Rattle.edd_instructions.proofs.Lengths.{instruction_inside}
use Rattle.edd_unit_rules.specs.declared.marks.Mark.{Mark}
use Rattle.edd_unit_rules.specs.declared.marks.Mark.TheVariants.{Unknown, Awaited, Stands}
use Rattle.edd_unit_rules.specs.Depths.{Table, known, settle, enter, enter_ways, visit_at, visit, visit_all}
use Rattle.edd_unit_rules.specs.Marks.{agrees_with, arrival, depth_known, depths, is_known, is_settled, mark_at, note_at, note_by, stood_on}
use Rattle.edd_unit_rules.specs.Standing.{may_lead, jumps_inside, leads_inside, goes_on_inside, jumps_to, fits}
use Rattle.edd_unit_rules.specs.Walks.{from_place, carry, brought_inside, jump_noted, jump_agrees, IsWalk}
use Rattle.edd_unit_rules.proofs.Arrivals.{entries_commute}
use Rattle.edd_unit_rules.proofs.DepthLaws.{visit_is, visit_short}
use Rattle.edd_unit_rules.proofs.JumpLaws.{jump_is_to}
use Rattle.edd_unit_rules.proofs.Listing.{walk_goes}
use Rattle.edd_unit_rules.proofs.MarkLaws.{known_is, noted_depths, noted_stood, stands_depths, stands_stood}
use Rattle.edd_unit_rules.proofs.Walks.{all_goes, end_goes, marks_go}

-- ---- tools

-- Two steps after one another are one step after the first.
then_then : {A B C : Type 0} (o : Option A) (f : A → Option B) (g : B → Option C)
    → (o >>= (λ x. f x >>= g)) ≡ ((o >>= f) >>= g)
then_then None f g = refl
then_then (Some x) f g = refl

-- A step that only wraps what it gets changes nothing.
then_some : {A : Type 0} (o : Option A) → (o >>= (λ x. Some x)) ≡ o
then_some None = refl
then_some (Some x) = refl

-- The choice whether steps are made comes before all of them.
choice_then : {A B : Type 0} (p : Bool) (o : Option A) (f : A → Option B) → cond p (o >>= f) None
    ≡ (cond p o None >>= f)
choice_then true o f = refl
choice_then false o f = refl

-- A step after what is chosen is chosen with it.
some_then : {A B : Type 0} (p : Bool) (x : A) (f : A → Option B) → (cond p (Some x) None >>= f)
    ≡ cond p (f x) None
some_then true x f = refl
some_then false x f = refl

-- where nothing is chosen, the other choice isn't made
no_choice : {A : Type 0} (p : Bool) (x : A) → cond p (Some x) None ≡ None → p ≡ false
no_choice true x e = absurd cc
no_choice false x e = refl

-- ---- the marks after a turn

-- a mark in a list of which one was set
set_at : (marks : List Mark) (place : ℕ) (m : Mark) (q : ℕ)
    → ((q ≡ place) × (mark_at (set marks place m) q ≡ m))
    ⊎ (mark_at (set marks place m) q ≡ mark_at marks q)
set_at marks place m q = elim (cases_eq q place) [
  | inl same ↦ elim (cases_lt place (length marks)) [
    | inl inside ↦ inl (
      same,
      ap (λ (k : ℕ). mark_at (set marks place m) k) same
          ∙ get_or-set_same marks place m Unknown inside,
    )
    | inr past ↦ inr (ap (λ (ms : List Mark). mark_at ms q) (set_past marks place m past))
  ]
  | inr other ↦ inr (get_or-set_other marks place q m Unknown other)
]

-- each number that the marks know has room
abbrev HaveRoom : List Mark → Type 0
HaveRoom marks = (q : ℕ) → IfSome (depth_known (mark_at marks q)) (λ depth. depth ≤ 128)

-- what was known stays known
abbrev KeepsKnown : List Mark → List Mark → Type 0
KeepsKnown marks new = (q : ℕ) → is_known (mark_at marks q) ≡ true → is_known (mark_at new q) ≡ true

-- A number that has room may be set.
set_room : (marks : List Mark) (place : ℕ) (m : Mark) → HaveRoom marks
    → IfSome (depth_known m) (λ depth. depth ≤ 128) → HaveRoom (set marks place m)
set_room marks place m all one q = elim (set_at marks place m q) [
  | inl here ↦ subst (λ (k : Mark). IfSome (depth_known k) (λ depth. depth ≤ 128)) (sym here.1) one
  | inr kept ↦ subst (λ (k : Mark). IfSome (depth_known k) (λ depth. depth ≤ 128)) (sym kept)
      (all q)
]

-- Where something known is set, no place is forgotten.
set_known : (marks : List Mark) (place : ℕ) (m : Mark) → is_known m ≡ true
    → KeepsKnown marks (set marks place m)
set_known marks place m some q e = elim (set_at marks place m q) [
  | inl here ↦ ap is_known here.1 ∙ some
  | inr kept ↦ ap is_known kept ∙ e
]

-- what a note leaves
record Notes (marks : List Mark) (place : ℕ) (new : List Mark) : Type 0 where
  size : length new ≡ length marks
  room : HaveRoom new
  stood : stood_on new ≡ stood_on marks
  keeps : KeepsKnown marks new
  here : place < length marks → is_known (mark_at new place) ≡ true
  awaits : (q : ℕ) → is_settled (mark_at new q) ≡ false
      → (place ≡ q) ⊎ (is_settled (mark_at marks q) ≡ false)

-- A note changes only a place of which nothing is known.
note_by_notes : (m : Mark) (marks : List Mark) (place rest : ℕ) → rest ≤ 128 → HaveRoom marks
    → mark_at marks place ≡ m → Notes marks place (note_by m marks place rest)
note_by_notes Unknown marks place rest small all e = record {
  size = length-set marks place (Awaited rest);
  room = set_room marks place (Awaited rest) all small;
  stood = noted_stood marks place rest e;
  keeps = set_known marks place (Awaited rest) refl;
  here = λ inside. ap is_known (get_or-set_same marks place (Awaited rest) Unknown inside);
  awaits = λ q unsettled. elim (set_at marks place (Awaited rest) q) [
    | inl here ↦ inl (sym here.0)
    | inr kept ↦ inr (sym (ap is_settled kept) ∙ unsettled)
  ];
}
note_by_notes (Awaited known) marks place rest small all e =
    record {
      size = refl;
      room = all;
      stood = refl;
      keeps = λ q k. k;
      here = λ inside. ap is_known
          e;
      awaits = λ q unsettled. inr unsettled;
    }
note_by_notes (Stands known) marks place rest small all e =
    record {
      size = refl;
      room = all;
      stood = refl;
      keeps = λ q k. k;
      here = λ inside. ap is_known
          e;
      awaits = λ q unsettled. inr unsettled;
    }

-- the same at the mark that is there
note_notes : (marks : List Mark) (place rest : ℕ) → rest ≤ 128 → HaveRoom marks
    → Notes marks place (note_at marks place rest)
note_notes marks place rest small all = note_by_notes (mark_at marks place) marks place rest small
    all refl

-- what a jump leaves, if it leads inside
record JumpNotes (marks : List Mark) (target : Option Way) (inside : Bool) (new : List Mark) : Type
    0 where
  size : length new ≡ length marks
  room : HaveRoom new
  stood : stood_on new ≡ stood_on marks
  keeps : KeepsKnown marks new
  here : inside ≡ true → (q : ℕ) → option_map_or (λ w. w.to == q) target false ≡ true
      → is_known (mark_at new q) ≡ true
  awaits : (q : ℕ) → is_settled (mark_at new q) ≡ false
      → (option_map_or (λ w. w.to == q) target false ≡ true)
      ⊎ (is_settled (mark_at marks q) ≡ false)

-- The target is noted where it lies inside.
jump_notes_if : (marks : List Mark) (w : Way) (rest : ℕ) (inside : Bool) → rest ≤ 128
    → HaveRoom marks → (inside ≡ true → w.to < length marks)
    → JumpNotes marks (Some w) inside (cond inside (note_at marks w.to rest) marks)
jump_notes_if marks w rest true small all lies =
    let n = note_notes marks w.to rest small all in
    record {
      size = n.size;
      room = n.room;
      stood = n.stood;
      keeps = n.keeps;
      here = λ e q there. ap (λ (k : ℕ). is_known (mark_at (note_at marks w.to rest) k))
          (sym (eqb-true w.to q there)) ∙ n.here (lies refl);
      awaits = λ q unsettled. elim (n.awaits q unsettled) [
        | inl same ↦ inl (eq-eqb w.to q same)
        | inr before ↦ inr before
      ];
    }
jump_notes_if marks w rest false small all lies =
    record {
      size = refl;
      room = all;
      stood = refl;
      keeps = λ q k. k;
      here = λ e q there. absurd cc;
      awaits = λ q unsettled. inr unsettled;
    }

-- A jump that may lead there leads inside.
led_inside : (sort : Sort) (size place to : ℕ) → may_lead sort size place to ≡ true → to < size
led_inside Attribute size place to e =
    ltb-true to size (and_parts (nat_lt place to) (nat_lt to size) e).1
led_inside Method size place to e = ltb-true to size e

-- What the jump of an instruction leaves, if it has one.
jump_notes : (sort : Sort) (size place : ℕ) (marks : List Mark) (rest : ℕ) (target : Option Way)
    → size ≡ length marks → rest ≤ 128 → HaveRoom marks
    → JumpNotes marks target (option_map_or (λ w. may_lead sort size place w.to) target true)
    (option_map_or (λ w. if may_lead sort size place w.to then note_at marks w.to rest else
    marks) target marks)
jump_notes sort size place marks rest None same small all =
    record {
      size = refl;
      room = all;
      stood = refl;
      keeps = λ q k. k;
      here = λ e q there. absurd cc;
      awaits = λ q unsettled. inr unsettled;
    }
jump_notes sort size place marks rest (Some w) same small all =
    jump_notes_if marks w rest (may_lead sort size place w.to) small all
    (λ e. omega (arith, same, led_inside sort size place w.to e))

-- ---- what is entered in a turn, and the marks that tell it

-- a number with room is entered as the place allows it
entered : (t : Table) (a x : ℕ) (o : Option ℕ) → x ≤ 128 → known t a ≡ o
    → enter t a x ≡ settle t a x o
unfolding enter
entered t a x o small e = rw (le-ltb 128 x small, e) refl

-- a number without room isn't entered
no_entry : (t : Table) (a x : ℕ) → 128 < x → enter t a x ≡ None
unfolding enter
no_entry t a x big = rw (lt-ltb 128 x big) refl

-- a number is entered where a note agrees, and then the marks tell it
note_by_enters : (m : Mark) (marks : List Mark) (place rest : ℕ) → rest ≤ 128
    → mark_at marks place ≡ m → enter (depths marks) place rest
    ≡ cond (agrees_with m rest) (Some (depths (note_by m marks place rest))) None
note_by_enters Unknown marks place rest small e = sym (noted_depths marks place rest e small)
note_by_enters (Awaited before) marks place rest small e = entered (depths marks) place rest
    (Some before) small (known_is marks place ∙ ap depth_known e)
note_by_enters (Stands before) marks place rest small e = entered (depths marks) place rest
    (Some before) small (known_is marks place ∙ ap depth_known e)

-- the same for the jump of an instruction that leads inside
jump_enters : (sort : Sort) (size place : ℕ) (marks : List Mark) (target : Option ℕ) (rest : ℕ)
    → rest ≤ 128 → option_map_or (λ to. may_lead sort size place to) target true ≡ true
    → enter_ways (depths marks) rest
    (option_to_list (option_map (λ to. record { to = to; leaves = 0 }) target))
    ≡ cond (option_map_or (λ to. agrees_with (mark_at marks to) rest) target true)
    (Some (depths (option_map_or (λ to. if may_lead sort size place to then note_at marks to
    rest else marks) target marks))) None
unfolding enter_ways
jump_enters sort size place marks None rest small inside = refl
jump_enters sort size place marks (Some to) rest small inside =
    let none_left : rest + 0 ≡ rest = omega arith in
    rw inside (then_some (enter (depths marks) to (rest + 0))
    ∙ ap (λ (n : ℕ). enter (depths marks) to n) none_left ∙ note_by_enters (mark_at marks to)
    marks to rest small refl)

-- What was at its place before the visit doesn't matter.
visit_twice : (t : Table) (x : Placed) (n depth : ℕ) → visit_at (set t x.place (Some n)) x depth
    ≡ visit_at t x depth
unfolding visit_at
visit_twice t x n depth = rw (set-set t x.place (Some n) (Some depth)) refl

-- what is wrapped alike is the same
some_same : {A : Type 0} (x y : A) → Some x ≡ Some y → x ≡ y
some_same x y e = cc

-- What is chosen is chosen, and is what comes out.
if_some : {A : Type 0} (p : Bool) (x y : A) → cond p (Some x) None ≡ Some y → (p ≡ true) × (x ≡ y)
if_some true x y e = (refl, cc)
if_some false x y e = absurd cc

-- an instruction at which so many operands arrive is visited with so many
arrived : (brought there : Option ℕ) (t : Table) (x : Placed) (depth : ℕ) → x.place < length t
    → IfSome brought (λ d. d ≤ 128) → known t x.place ≡ there → arrival brought there ≡ Some depth
    → (carry brought x.place t >>= λ u. visit u x) ≡ visit_at t x depth
arrived None None t x depth inside room e a = ap (λ (o : Option ℕ). visit_at t x (unwrap_or o 0)) e
    ∙ ap (λ (n : ℕ). visit_at t x n) (some_same 0 depth a)
arrived None (Some n) t x depth inside room e a =
    ap (λ (o : Option ℕ). visit_at t x (unwrap_or o 0)) e ∙ ap (λ (n : ℕ). visit_at t x n)
    (some_same n depth a)
arrived (Some n) None t x depth inside room e a =
    rw (entered t x.place n None room e)
    (ap (λ (o : Option ℕ). visit_at (set t x.place (Some n)) x (unwrap_or o 0))
    (get_or-set_same t x.place (Some n) None inside) ∙ visit_twice t x n n
    ∙ ap (λ (m : ℕ). visit_at t x m) (some_same n depth a))
arrived (Some n) (Some m) t x depth inside room e a =
    let d = if_some (m == n) n depth a in
    rw (entered t x.place n (Some m) room e)
    (rw d.0 (ap (λ (o : Option ℕ). visit_at t x (unwrap_or o 0)) e
    ∙ ap (λ (k : ℕ). visit_at t x k) (eqb-true m n d.0 ∙ d.1)))

-- an instruction at which others arrive than are known is not visited
not_arrived : (brought there : Option ℕ) (t : Table) (x : Placed) → IfSome brought (λ d. d ≤ 128)
    → known t x.place ≡ there → arrival brought there ≡ None
    → (carry brought x.place t >>= λ u. visit u x) ≡ None
not_arrived None None t x room e a = absurd cc
not_arrived None (Some n) t x room e a = absurd cc
not_arrived (Some n) None t x room e a = absurd cc
not_arrived (Some n) (Some m) t x room e a = rw (entered t x.place n (Some m) room e)
    (rw (no_choice (m == n) n a) refl)

-- both, where the numbers before agreed or not
arrives : (agreed agrees : Bool) (brought there : Option ℕ) (t : Table) (x : Placed) (depth : ℕ)
    → x.place < length t → IfSome brought (λ d. d ≤ 128) → known t x.place ≡ there
    → cond agreed (Some depth) None ≡ cond agrees (arrival brought there) None
    → cond agreed (visit_at t x depth) None
    ≡ cond agrees (carry brought x.place t >>= λ u. visit u x) None
arrives true true brought there t x depth inside room e a =
    sym (arrived brought there t x depth inside room e (sym a))
arrives false true brought there t x depth inside room e a =
    sym (not_arrived brought there t x room e (sym a))
arrives true false brought there t x depth inside room e a = absurd cc
arrives false false brought there t x depth inside room e a = refl

-- what an instruction brings to the next
abbrev brought_by : ℕ → Option ℕ → Option ℕ
brought_by rest left = option_map (λ n. rest + n) left

-- the ways of an instruction are entered, that to its target first
last_way : (t : Table) (rest next : ℕ) (left target : Option ℕ)
    → ((to : ℕ) → target ≡ Some to → to < length t)
    → (enter_ways t rest (option_to_list (option_map (λ n. record { to = next; leaves = n }) left))
    >>= λ u. enter_ways u rest
    (option_to_list (option_map (λ to. record { to = to; leaves = 0 }) target)))
    ≡ (enter_ways t rest (option_to_list (option_map (λ to. record { to = to; leaves = 0 }) target))
    >>= λ u. carry (brought_by rest left) next u)
unfolding enter_ways
last_way t rest next None target inside =
    sym (then_some (enter_ways t rest
    (option_to_list (option_map (λ to. record { to = to; leaves = 0 }) target))))
last_way t rest next (Some n) None inside = then_some (enter t next (rest + n) >>= λ u. Some u)
    ∙ then_some (enter t next (rest + n))
last_way t rest next (Some n) (Some to) inside =
    ap (λ (o : Option Table). o >>= λ u. enter u to (rest + 0) >>= λ v. Some v)
    (then_some (enter t next (rest + n)))
    ∙ then_then (enter t next (rest + n)) (λ u. enter u to (rest + 0)) (λ v. Some v)
    ∙ then_some (enter t next (rest + n) >>= λ u. enter u to (rest + 0))
    ∙ entries_commute t next (rest + n) to (rest + 0) (inside to refl)
    ∙ sym (ap (λ (o : Option Table). o >>= λ u. enter u next (rest + n))
    (then_some (enter t to (rest + 0))))

-- ---- an instruction, and what it brings to the next

-- what the target of a jump says is said of where it leads
of_target : {A : Type 0} (o : Option Way) (f : ℕ → A) (d : A)
    → option_map_or f (option_map (λ w. w.to) o) d ≡ option_map_or (λ w. f w.to) o d
of_target None f d = refl
of_target (Some w) f d = refl

-- The target of a jump that may lead there lies inside.
target_inside : (sort : Sort) (size place : ℕ) (o : Option Way)
    → option_map_or (λ w. may_lead sort size place w.to) o true ≡ true → (to : ℕ)
    → option_map (λ w. w.to) o ≡ Some to → to < size
target_inside sort size place None e to t = absurd cc
target_inside sort size place (Some w) e to t =
    let same : w.to ≡ to = cc in
    omega (arith, same, led_inside sort size place w.to e)

-- what is brought to the next is entered where it has room
room_left : (agreed new_agreed : Bool) (rest next : ℕ) (left after : Option ℕ) (u : Table)
    → new_agreed ≡ (agreed && (option_map_or (λ n. nat_le (rest + n) 128) left true && true))
    → (new_agreed ≡ true → after ≡ brought_by rest left)
    → cond new_agreed (carry after next u) None ≡ cond agreed (carry (brought_by rest left) next u)
    None
room_left false new_agreed rest next left after u a b =
    ap (λ (p : Bool). cond p (carry after next u) None) a
room_left true new_agreed rest next None after u a b =
    ap (λ (p : Bool). cond p (carry after next u) None) a ∙ ap (λ (o : Option ℕ). carry o next u)
    (b a)
room_left true new_agreed rest next (Some n) after u a b =
    elim (cases_Bool (nat_le (rest + n) 128)) [
      | inl fit ↦
          let agreed : new_agreed ≡ true = a ∙ ap (λ (p : Bool). p && true) fit in
          ap (λ (p : Bool). cond p (carry after next u) None) agreed
          ∙ ap (λ (o : Option ℕ). carry o next u) (b agreed)
      | inr full ↦
          let not_agreed : new_agreed ≡ false = a ∙ ap (λ (p : Bool). p && true) full in
          ap (λ (p : Bool). cond p (carry after next u) None) not_agreed
          ∙ sym (no_entry u next (rest + n) (leb-false (rest + n) 128 full))
    ]

-- the visit of an instruction for which there are enough operands
visited : (sort : Sort) (size depth : ℕ) (marks : List Mark) (x : Placed) → size ≡ length marks
    → depth ≤ 128 → takes x.instruction ≤ depth → jumps_inside sort size x.place x.instruction
    ≡ true
    → visit_at (depths marks) x depth
    ≡ cond (jump_agrees x.instruction (set marks x.place (Stands depth))
    (depth - takes x.instruction))
    (carry (brought_by (depth - takes x.instruction) (leaves x.instruction)) x.next
    (depths (jump_noted sort size x.place x.instruction (set marks x.place (Stands depth))
    (depth - takes x.instruction)))) None
visited sort size depth marks x same small enough inside =
    let i = x.instruction in
    let rest = depth - takes i in
    let target = option_map (λ w. w.to) (jump i) in
    let stands = set marks x.place (Stands depth) in
    let start = set (depths marks) x.place (Some depth) in
    let is_start : start ≡ depths stands = sym (stands_depths marks x.place depth) in
    let sized : length start ≡ length marks = length-set (depths marks) x.place (Some depth)
    ∙ length-map marks depth_known in
    let to_target : List Way =
    option_to_list (option_map (λ to. record { to = to; leaves = 0 }) target) in
    let after : Table → Option Table = λ u. carry (brought_by rest (leaves i)) x.next u in
    let inside' : option_map_or (λ to. may_lead sort size x.place to) target true ≡ true =
    of_target (jump i) (λ to. may_lead sort size x.place to) true ∙ inside in
    let ways_are = visit_is (depths marks) x depth (takes i)
    (option_map (λ n. record { to = x.next; leaves = n }) (leaves i))
    (option_map (λ to. record { to = to; leaves = 0 }) target) refl enough refl
    (sym (jump_is_to i)) in
    let last = last_way start rest x.next (leaves i) target
    (λ to e. omega (arith, same, sized, target_inside sort size x.place (jump i) inside to e))
    in
    let jumped : enter_ways start rest to_target ≡ cond (jump_agrees i stands rest)
    (Some (depths (jump_noted sort size x.place i stands rest))) None =
    ap (λ (t : Table). enter_ways t rest to_target) is_start ∙ jump_enters sort size x.place stands
    target rest (omega (arith, small)) inside'
    ∙ ap (λ (p : Bool). cond p
    (Some (depths (option_map_or (λ to. if may_lead sort size x.place to then note_at stands to
    rest else stands) target stands))) None)
    (of_target (jump i) (λ to. agrees_with (mark_at stands to) rest) true)
    ∙ ap (λ (ms : List Mark). cond (jump_agrees i stands rest) (Some (depths ms)) None)
    (of_target (jump i) (λ to. if may_lead sort size x.place to then note_at stands to rest else
    stands) stands) in
    ways_are ∙ last ∙ ap (λ (o : Option Table). o >>= after) jumped
    ∙ some_then (jump_agrees i stands rest)
    (depths (jump_noted sort size x.place i stands rest)) after

-- What a turn leaves is what the visit of its instruction does.
turn_visits : (sort : Sort) (size depth : ℕ) (marks : List Mark) (x : Placed) (after : Option ℕ)
    (agreed new_agreed : Bool) → size ≡ length marks → depth ≤ 128
    → jumps_inside sort size x.place x.instruction ≡ true
    → new_agreed ≡ (jump_agrees x.instruction (set marks x.place (Stands depth))
    (depth - takes x.instruction) && (fits depth x.instruction && agreed))
    → (new_agreed ≡ true → after ≡ brought_by (depth - takes x.instruction) (leaves x.instruction))
    → cond new_agreed (carry after x.next
    (depths (jump_noted sort size x.place x.instruction (set marks x.place (Stands depth))
    (depth - takes x.instruction)))) None ≡ cond agreed (visit_at (depths marks) x depth) None
turn_visits sort size depth marks x after false new_agreed same small inside a b =
    let rest = depth - takes x.instruction in
    let stands = set marks x.place (Stands depth) in
    let not_agreed : new_agreed ≡ false = a ∙ and_right (jump_agrees x.instruction stands rest) _
    (and_right (fits depth x.instruction) false refl) in
    ap (λ (p : Bool). cond p
    (carry after x.next (depths (jump_noted sort size x.place x.instruction stands rest))) None)
    not_agreed
turn_visits sort size depth marks x after true new_agreed same small inside a b =
    let i = x.instruction in
    let rest = depth - takes i in
    let stands = set marks x.place (Stands depth) in
    let new = jump_noted sort size x.place i stands rest in
    elim (cases_Bool (nat_le (takes i) depth)) [
      | inl enough ↦
          let fit : new_agreed ≡ (jump_agrees i stands rest
          && (option_map_or (λ n. nat_le (rest + n) 128) (leaves i) true && true)) = a
          ∙ ap (λ (p : Bool). jump_agrees i stands rest
          && ((p && option_map_or (λ n. nat_le (rest + n) 128) (leaves i) true) && true))
          enough in
          room_left (jump_agrees i stands rest) new_agreed rest x.next (leaves i) after (depths new)
          fit b ∙ sym (visited sort size depth marks x same small
          (leb-true (takes i) depth enough) inside)
      | inr short ↦
          let not_agreed : new_agreed ≡ false = a ∙ and_right (jump_agrees i stands rest) _
          (and_left (fits depth i) true (and_left (nat_le (takes i) depth) _ short)) in
          ap (λ (p : Bool). cond p (carry after x.next (depths new)) None) not_agreed
          ∙ visit_short (depths marks) x depth (takes i) refl (leb-false (takes i) depth short)
    ]

-- The turn in the pass over all instructions.
pass_goes : (brought after : Option ℕ) (t u : Table) (x : Placed) (xs : List Placed)
    (agrees new_agreed : Bool) (total : Option Table) → cond new_agreed (carry after x.next u) None
    ≡ cond agrees (carry brought x.place t >>= λ s. visit s x) None
    → cond agrees (carry brought x.place t >>= λ s. visit_all s (x ∷ xs)) None ≡ total
    → cond new_agreed (carry after x.next u >>= λ s. visit_all s xs) None ≡ total
unfolding visit_all
pass_goes brought after t u x xs agrees new_agreed total turn so_far =
    let rest : Table → Option Table = λ s. visit_all s xs in
    choice_then new_agreed (carry after x.next u) rest
    ∙ ap (λ (o : Option Table). o >>= rest) turn
    ∙ sym (choice_then agrees (carry brought x.place t >>= λ s. visit s x) rest)
    ∙ ap (λ (o : Option Table). cond agrees o None)
    (sym (then_then (carry brought x.place t) (λ s. visit s x) rest))
    ∙ so_far

-- ---- what is seen of the ways and of the names

-- What is brought to the next lies inside where the way onward does.
brought_next : (size next : ℕ) (after left : Option ℕ) → is_some after ≡ is_some left
    → brought_inside size next after ≡ option_map_or (λ (w : Way). nat_lt w.to size)
    (option_map (λ n. record { to = next; leaves = n }) left) true
brought_next size next None None e = refl
brought_next size next None (Some n) e = absurd cc
brought_next size next (Some d) None e = absurd cc
brought_next size next (Some d) (Some n) e = refl

-- What is brought to a place inside lies inside.
brought_here : (size place : ℕ) (o : Option ℕ) → place < size → brought_inside size place o ≡ true
brought_here size place None inside = refl
brought_here size place (Some n) inside = lt-ltb place size inside

-- What was seen of the ways and this instruction's ways say together the same in either order.
leads_order : (jumps leads goes others : Bool) → ((jumps && leads) && (goes && others))
    ≡ (leads && (true && ((goes && jumps) && others)))
leads_order true true true others = refl
leads_order true true false others = refl
leads_order true false goes others = refl
leads_order false true true others = refl
leads_order false true false others = refl
leads_order false false goes others = refl

-- the same for the names
names_order : (exist names others : Bool) → ((exist && names) && others)
    ≡ (names && (exist && others))
names_order true true others = refl
names_order true false others = refl
names_order false true others = refl
names_order false false others = refl

-- the places where there are instructions
stands_on : (code : List ℕ) (place next : ℕ) (i : Instruction) (marks new : List Mark) (depth q : ℕ)
    (total : Bool) → instruction_at code place ≡ Some (i, next) → place < length marks
    → stood_on new ≡ stood_on (set marks place (Stands depth))
    → (get_or (stood_on marks) q false || is_start (from_place code place) q) ≡ total
    → (get_or (stood_on new) q false || is_start (from_place code next) q) ≡ total
stands_on code place next i marks new depth q total here inside same so_far =
    let size : length (stood_on marks) ≡ length marks = length-map marks _ in
    ap (λ (b : List Bool). get_or b q false || is_start (from_place code next) q)
    (same ∙ stands_stood marks place depth)
    ∙ marks_go code place (i, next) (stood_on marks) q total here (omega (arith, size, inside))
    so_far

-- ---- the turn

pub walk_goes_on : (context : Context) (code : List ℕ) (marks new : List Mark)
    (brought after : Option ℕ) (place next depth : ℕ) (i : Instruction)
    (leads agrees names leads' agrees' names' agreed : Bool)
    → IsWalk context code marks brought place leads agrees names
    → place < length code → instruction_at code place ≡ Some (i, next)
    → is_allowed context.version context.sort i ≡ true
    -- the number of operands at the place, if it agrees
    → depth ≤ 128
    → (if agreed then Some depth else None)
    ≡ (if agrees then arrival brought (depth_known (mark_at marks place)) else None)
    -- what the turn does
    → names' ≡ (names_exist context i && names)
    → leads' ≡ (jumps_inside context.sort (length code) place i && leads)
    → is_some after ≡ is_some (leaves i)
    → (leads' ≡ true → agrees' ≡ (jump_agrees i (set marks place (Stands depth)) (depth - takes i)
    && (fits depth i && agreed)))
    → (agrees' ≡ true → after ≡ option_map (λ n. depth - takes i + n) (leaves i))
    → IfSome after (λ d. d ≤ 128)
    → new ≡ jump_noted context.sort (length code) place i (set marks place (Stands depth))
    (depth - takes i)
    → IsWalk context code new after next leads' agrees' names'
walk_goes_on context code marks new brought after place next depth i leads agrees names leads'
    agrees' names' agreed before lt here allowed small arrives_at names_are leads_are goes
    agrees_are brings room new_is =
    let x : Placed = record { place = place; instruction = i; next = next } in
    let xs = from_place code next in
    let size = length code in
    let rest = depth - takes i in
    let stands = set marks place (Stands depth) in
    let walk : from_place code place ≡ x ∷ xs = walk_goes code place (i, next) here in
    let there : place < length marks = omega (arith, before.sized, lt) in
    let stands_size : length stands ≡ length marks = length-set marks place (Stands depth) in
    let jumped = jump_notes context.sort size place stands rest (jump i)
    (omega (arith, stands_size, before.sized)) (omega (arith, small))
    (set_room marks place (Stands depth) before.fit small) in
    let notes : JumpNotes stands (jump i) (jumps_inside context.sort size place i) new =
    subst (λ (ms : List Mark). JumpNotes stands (jump i)
    (jumps_inside context.sort size place i) ms) (sym new_is) jumped in
    let names_so_far : (names
    && (names_exist context i && list_all (λ y. names_exist context y.instruction) xs))
    ≡ list_all (λ y. names_exist context y.instruction) (from_place code 0) =
    rw walk at before.same_names in
    let leads_so_far : (leads
    && (brought_inside size place brought
    && (leads_inside context.sort size x && list_all (leads_inside context.sort size) xs)))
    ≡ list_all (leads_inside context.sort size) (from_place code 0) =
    rw walk at before.same_leads in
    let known_there : known (depths marks) place ≡ depth_known (mark_at marks place) =
    known_is marks place in
    let all_jumps : ℕ → List Placed → Bool = λ q ys. list_any (jumps_to q) ys in
    record {
      inside = (instruction_inside code place (i, next) here).1;
      sized = notes.size ∙ stands_size ∙ before.sized;
      room = room;
      fit = notes.room;
      same_end = end_goes code place (i, next) _ here before.same_end;
      same_allowed = all_goes (λ y. is_allowed context.version context.sort y.instruction) code
          place (i, next) _ here allowed before.same_allowed;
      same_names = ap (λ (b : Bool). b && list_all (λ y. names_exist context y.instruction) xs)
          names_are ∙ names_order (names_exist context i) names _ ∙ names_so_far;
      same_leads = ap (λ (b : Bool). b
          && (brought_inside size next after && list_all (leads_inside context.sort size) xs))
          leads_are
          ∙ ap (λ (b : Bool). (jumps_inside context.sort size place i && leads)
          && (b && list_all (leads_inside context.sort size) xs))
          (brought_next size next after (leaves i) goes)
          ∙ leads_order (jumps_inside context.sort size place i) leads (goes_on_inside size x) _
          ∙ ap (λ (b : Bool). leads
          && (b && (leads_inside context.sort size x
          && list_all (leads_inside context.sort size) xs)))
          (sym (brought_here size place brought lt))
          ∙ leads_so_far;
      same_pass = λ led.
          let parts = and_parts (jumps_inside context.sort size place i) leads (sym leads_are ∙ led)
          in
          let visits = turn_visits context.sort size depth marks x after agreed agrees'
          (sym before.sized) small parts.0 (agrees_are led) brings in
          let turn : cond agrees' (carry after next (depths new)) None
          ≡ cond agrees (carry brought place (depths marks) >>= λ s. visit s x) None =
          ap (λ (ms : List Mark). cond agrees' (carry after next (depths ms)) None) new_is ∙ visits
          ∙ arrives agreed agrees brought (depth_known (mark_at marks place)) (depths marks) x depth
          (omega (arith, there, length-map marks depth_known)) before.room known_there
          arrives_at in
          pass_goes brought after (depths marks) (depths new) x xs agrees agrees' _ turn
          (rw walk at before.same_pass parts.1);
      marked = λ q. stands_on code place next i marks new depth q _ here there notes.stood
          (before.marked q);
      ahead = λ q e. before.ahead q (ap (all_jumps q) walk ∙ or_right (jumps_to q x) _ e);
      awaited = λ q unsettled. elim (notes.awaits q unsettled) [
        | inl jumps ↦ before.ahead q (ap (all_jumps q) walk
            ∙ or_left (jumps_to q x) (list_any (jumps_to q) xs) jumps)
        | inr earlier ↦ elim (set_at marks place (Stands depth) q) [
          | inl stood ↦
              let no : true ≡ false = sym (ap is_settled stood.1) ∙ earlier in
              absurd cc
          | inr kept ↦ before.awaited q (sym (ap is_settled kept) ∙ earlier)
        ]
      ];
      targets = λ led q e.
          let parts = and_parts (jumps_inside context.sort size place i) leads (sym leads_are ∙ led)
          in
          elim (or_cases (is_known (mark_at marks q))
          (list_any (jumps_to q) (from_place code place)) (before.targets parts.1 q e)) [
            | inl known_before ↦ or_left (is_known (mark_at new q)) (list_any (jumps_to q) xs)
                (notes.keeps q (set_known marks place (Stands depth) refl q known_before))
            | inr further ↦ elim (or_cases (jumps_to q x) (list_any (jumps_to q) xs)
                (sym (ap (all_jumps q) walk) ∙ further)) [
                  | inl jumps ↦ or_left (is_known (mark_at new q)) (list_any (jumps_to q) xs)
                      (notes.here parts.0 q jumps)
                  | inr later ↦ or_right (is_known (mark_at new q)) (list_any (jumps_to q) xs) later
                ]
          ];
    }

-- ---- a walk that starts anew at an instruction

arrives_again : (brought there : Option ℕ) (depth : ℕ) → arrival brought there ≡ Some depth
    → arrival (Some depth) there ≡ Some depth
arrives_again brought None depth a = refl
arrives_again None (Some n) depth a = rw (eq-eqb n depth (some_same n depth a)) refl
arrives_again (Some d) (Some n) depth a =
    let both = if_some (n == d) d depth a in
    rw (eq-eqb n depth (eqb-true n d both.0 ∙ both.1)) refl

-- What arrives at an instruction may be taken for what is brought there.
pub walk_again : (context : Context) (code : List ℕ) (marks : List Mark) (brought : Option ℕ)
    (place next depth : ℕ) (i : Instruction) (leads agrees names : Bool)
    → IsWalk context code marks brought place leads agrees names → place < length code
    → instruction_at code place ≡ Some (i, next) → depth ≤ 128
    → arrival brought (depth_known (mark_at marks place)) ≡ Some depth
    → IsWalk context code marks (Some depth) place leads agrees names
unfolding visit_all
walk_again context code marks brought place next depth i leads agrees names before lt here small
    arrives_at =
    let x : Placed = record { place = place; instruction = i; next = next } in
    let xs = from_place code next in
    let size = length code in
    let t = depths marks in
    let there = depth_known (mark_at marks place) in
    let walk : from_place code place ≡ x ∷ xs = walk_goes code place (i, next) here in
    let inside : place < length t = omega (arith, before.sized, lt, length-map marks depth_known) in
    let known_there : known t place ≡ there = known_is marks place in
    let rest : Table → Option Table = λ s. visit_all s xs in
    let all : (b : Option ℕ) → (carry b place t >>= λ s. visit_all s (from_place code place))
    ≡ ((carry b place t >>= λ s. visit s x) >>= rest) =
    λ b. ap (λ (ys : List Placed). carry b place t >>= λ s. visit_all s ys) walk
    ∙ then_then (carry b place t) (λ s. visit s x) rest in
    let same : (carry (Some depth) place t >>= λ s. visit s x)
    ≡ (carry brought place t >>= λ s. visit s x) =
    arrived (Some depth) there t x depth inside small known_there
    (arrives_again brought there depth arrives_at)
    ∙ sym (arrived brought there t x depth inside before.room known_there arrives_at) in
    let pass : (carry (Some depth) place t >>= λ s. visit_all s (from_place code place))
    ≡ (carry brought place t >>= λ s. visit_all s (from_place code place)) =
    all (Some depth) ∙ ap (λ (o : Option Table). o >>= rest) same ∙ sym (all brought) in
    record {
      inside = before.inside;
      sized = before.sized;
      room = small;
      fit = before.fit;
      same_end = before.same_end;
      same_allowed = before.same_allowed;
      same_names = before.same_names;
      same_leads = ap (λ (b : Bool). leads
          && (b && list_all (leads_inside context.sort size) (from_place code place)))
          (brought_here size place (Some depth) lt ∙ sym (brought_here size place brought lt))
          ∙ before.same_leads;
      same_pass = λ led. ap (λ (o : Option Table). cond agrees o None) pass ∙ before.same_pass led;
      marked = before.marked;
      ahead = before.ahead;
      awaited = before.awaited;
      targets = before.targets;
    }
