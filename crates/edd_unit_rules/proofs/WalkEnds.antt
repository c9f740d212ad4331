-- What a walk over a unit has found out when it is past the last byte.
use Rattle.std.proofs.Common.{◌≡◌, ℕ, ◌<◌, ◌≤◌, Bool, true, false, ◌&&◌, ◌||◌, cond, nat_eq, nat_lt, List, [], ◌∷◌, length, get_or, replicate, Option, Some, None, refl, sym, ap, subst, ◌∙◌, arith, inl, inr}
use Rattle.std.specs.Prelude.{IsTrue, option_map}
use Rattle.std.specs.List.{AllByRecursion, list_all, list_any}
use Rattle.std.specs.Option.{option_map_or}
use Rattle.std.proofs.lemmas.Bool.{cases_Bool, and_parts, or_cases, or_left, or_right, eq-eqb, eqb-true, lt-ltb, ltb-true}
use Rattle.edd_instructions.specs.declared.unit.Context.{Context}
use Rattle.edd_instructions.specs.declared.unit.Sort.{Sort}
use Rattle.edd_instructions.specs.declared.unit.Sort.TheVariants.{Attribute, Method}
use Rattle.edd_instructions.specs.declared.unit.Way.{Way}
use Rattle.edd_image.specs.Front.{◌>>=◌}
use Rattle.edd_instructions.specs.References.{names_exist}
use Rattle.edd_instructions.specs.Units.{Placed, instructions, end_of, leaves, onward, jump, ways, is_allowed, is_chain, is_start, is_forward, lands, all_land, all_exist, HasDepths}
use Rattle.edd_instructions.proofs.Lengths.{nothing_past}
use Rattle.edd_unit_rules.specs.declared.marks.Mark.{Mark}
use Rattle.edd_unit_rules.specs.declared.marks.Mark.TheVariants.{Awaited, Stands}
use Rattle.edd_unit_rules.specs.Depths.{visit_all}
use Rattle.edd_unit_rules.specs.Marks.{depths, is_known, is_settled, is_stood_on, mark_at, stood_on}
use Rattle.edd_unit_rules.specs.Standing.{may_lead, jumps_inside, goes_on_inside, leads_inside, jumps_to}
use Rattle.edd_unit_rules.specs.Walks.{from_place, carry, brought_inside, IsWalk}
use Rattle.edd_unit_rules.proofs.DepthLaws.{Rising}
use Rattle.edd_unit_rules.proofs.Listing.{walk_stops, rising, within}
use Rattle.edd_unit_rules.proofs.MarkLaws.{stood_is}
use Rattle.edd_unit_rules.proofs.UnitDepths.{at_start, passes, refuses}
use Rattle.edd_unit_rules.proofs.Walks.{end_done, all_done, chain_ends, if_any}

-- ---- past the last byte

-- none is left
none_left : (code : List ℕ) (place : ℕ) → length code ≤ place → from_place code place ≡ []
none_left code place past = walk_stops code place (nothing_past code place past)

-- the first rule is kept
pub chain_kept : (context : Context) (code : List ℕ) (marks : List Mark) (brought : Option ℕ)
    (place : ℕ) (leads agrees names : Bool) → IsWalk context code marks brought place leads agrees
    names → 0 < length code → length code ≤ place → IsTrue (is_chain context code)
chain_kept context code marks brought place leads agrees names walk some past =
    let nothing = nothing_past code place past in
    let ends : end_of 0 (from_place code 0) ≡ place = end_done code place _ nothing walk.same_end in
    let allowed = all_done (λ x. is_allowed context.version context.sort x.instruction) code place _
    nothing walk.same_allowed in
    sym (chain_ends context code place some ends allowed)
    ∙ eq-eqb place (length code) (omega (arith, walk.inside, past))

-- ---- tests of each instruction

-- a test that passes everywhere where another does
weaker : {A : Type 0} (p q : A → Bool) (xs : List A) → ((x : A) → p x ≡ true → q x ≡ true)
    → list_all p xs ≡ true → list_all q xs ≡ true
weaker p q [] f e = refl
weaker p q (x ∷ xs) f e =
    let parts = and_parts (p x) (list_all p xs) e in
    rw (f x parts.0) (weaker p q xs f parts.1)

-- an instruction that jumps as it may jumps forward where it has to
led_forward : (sort : Sort) (size : ℕ) (x : Placed) → jumps_inside sort size x.place x.instruction
    ≡ true → is_forward sort x ≡ true
led_forward Method size x e = refl
led_forward Attribute size x e = ahead (jump x.instruction) e
  where
    ahead : (o : Option Way) → option_map_or (λ w. may_lead Attribute size x.place w.to) o true
        ≡ true → option_map_or (λ w. nat_lt x.place w.to) o true ≡ true
    ahead None e = refl
    ahead (Some w) e = (and_parts (nat_lt x.place w.to) (nat_lt w.to size) e).0

-- ---- ways that lead inside lead to instructions

-- an instruction begins where the one before it ends, unless all end there
next_starts : (size place : ℕ) (xs : List Placed) → Rising place xs → end_of place xs ≡ size
    → nat_lt place size ≡ true → is_start xs place ≡ true
next_starts size place [] r ends lt = absurd (omega (arith, ends, ltb-true place size lt))
next_starts size place (x ∷ xs) r ends lt = or_left (nat_eq x.place place) (is_start xs place)
    (eq-eqb x.place place r.0)

-- the way onward leads to an instruction if there is one at the next place
onward_lands : (size next : ℕ) (all : List Placed) (left : Option ℕ)
    → (nat_lt next size ≡ true → is_start all next ≡ true)
    → option_map_or (λ (w : Way). nat_lt w.to size)
    (option_map (λ n. record { to = next; leaves = n }) left) true ≡ true
    → option_map_or (λ (w : Way). is_start all w.to)
    (option_map (λ n. record { to = next; leaves = n }) left) true ≡ true
onward_lands size next all None there e = refl
onward_lands size next all (Some n) there e = there e

-- a jump leads to an instruction if there is one at its target
jump_lands : (all : List Placed) (o : Option Way)
    → ((q : ℕ) → option_map_or (λ w. nat_eq w.to q) o false ≡ true → is_start all q ≡ true)
    → option_map_or (λ w. is_start all w.to) o true ≡ true
jump_lands all None there = refl
jump_lands all (Some w) there = there w.to (eq-eqb w.to w.to refl)

-- where the ways lead inside, and there is an instruction at each target, each way leads to an
-- instruction
land_from : (sort : Sort) (size : ℕ) (all ys : List Placed) (place : ℕ) → Rising place ys
    → end_of place ys ≡ size → list_all (leads_inside sort size) ys ≡ true
    → ((q : ℕ) → list_any (jumps_to q) ys ≡ true → is_start all q ≡ true)
    → ((q : ℕ) → is_start ys q ≡ true → is_start all q ≡ true) → list_all (lands sort all) ys
    ≡ true
land_from sort size all [] place r ends led targets starts = refl
land_from sort size all (x ∷ xs) place r ends led targets starts =
    let parts = and_parts (leads_inside sort size x) (list_all (leads_inside sort size) xs) led in
    let both = and_parts (goes_on_inside size x) (jumps_inside sort size x.place x.instruction)
    parts.0 in
    let later : (q : ℕ) → is_start xs q ≡ true → is_start all q ≡ true =
    λ q e. starts q (or_right (nat_eq x.place q) (is_start xs q) e) in
    let after : option_map_or (λ (w : Way). is_start all w.to) (onward x.instruction x.next) true
    ≡ true = onward_lands size x.next all (leaves x.instruction)
    (λ lt. later x.next (next_starts size x.next xs r.2 ends lt)) both.0 in
    let target : option_map_or (λ (w : Way). is_start all w.to) (jump x.instruction) true ≡ true =
    jump_lands all (jump x.instruction)
    (λ q e. targets q (or_left (jumps_to q x) (list_any (jumps_to q) xs) e)) in
    let led_to : list_all (λ w. is_start all w.to) (ways x) ≡ true =
    if_any (λ w. is_start all w.to) (onward x.instruction x.next) (jump x.instruction)
    ∙ rw (after, target) refl in
    rw (led_forward sort size x both.1, led_to) (land_from sort size all xs x.next r.2 ends parts.1
    (λ q e. targets q (or_right (jumps_to q x) (list_any (jumps_to q) xs) e)) later)

-- a known place that is settled has an instruction
known_stands : (m : Mark) → is_settled m ≡ true → is_known m ≡ true → is_stood_on m ≡ true
known_stands (Stands n) s k = refl
known_stands _ s k = absurd cc

-- nothing is added by what is false
or_false : (b : Bool) → (b || false) ≡ b
or_false true = refl
or_false false = refl

-- at the end the places that have an instruction are the starts
stood_at_end : (context : Context) (code : List ℕ) (marks : List Mark) (brought : Option ℕ)
    (place : ℕ) (leads agrees names : Bool) → IsWalk context code marks brought place leads agrees
    names → length code ≤ place
    → (q : ℕ) → is_stood_on (mark_at marks q) ≡ is_start (from_place code 0) q
stood_at_end context code marks brought place leads agrees names walk past q =
    sym (stood_is marks q) ∙ sym (or_false (get_or (stood_on marks) q false))
    ∙ sym (ap (λ (xs : List Placed). get_or (stood_on marks) q false || is_start xs q)
    (none_left code place past)) ∙ walk.marked q

-- at the end each target is known
known_at_end : (context : Context) (code : List ℕ) (marks : List Mark) (brought : Option ℕ)
    (place : ℕ) (leads agrees names : Bool) → IsWalk context code marks brought place leads agrees
    names → length code ≤ place
    → leads ≡ true → (q : ℕ) → list_any (jumps_to q) (from_place code 0) ≡ true
    → is_known (mark_at marks q) ≡ true
known_at_end context code marks brought place leads agrees names walk past led q e =
    sym (or_false (is_known (mark_at marks q)))
    ∙ sym (ap (λ (xs : List Placed). is_known (mark_at marks q) || list_any (jumps_to q) xs)
    (none_left code place past)) ∙ walk.targets led q e

-- at the end it is seen whether all ways lead inside
leads_at_end : (context : Context) (code : List ℕ) (marks : List Mark) (brought : Option ℕ)
    (place : ℕ) (leads agrees names : Bool) → IsWalk context code marks brought place leads agrees
    names → length code ≤ place
    → (leads && (brought_inside (length code) place brought && true))
    ≡ list_all (leads_inside context.sort (length code)) (from_place code 0)
leads_at_end context code marks brought place leads agrees names walk past =
    sym (ap (λ (xs : List Placed). leads
    && (brought_inside (length code) place brought
    && list_all (leads_inside context.sort (length code)) xs)) (none_left code place past))
    ∙ walk.same_leads

-- where each way was seen to lead inside, nothing is brought past the end, and no target is left
-- awaited, each way leads to an instruction
pub ways_land : (context : Context) (code : List ℕ) (marks : List Mark) (brought : Option ℕ)
    (place : ℕ) (leads agrees names : Bool) → IsWalk context code marks brought place leads agrees
    names → length code ≤ place
    → leads ≡ true → brought ≡ None → ((q : ℕ) → is_settled (mark_at marks q) ≡ true)
    → all_land context (instructions code) ≡ true
unfolding instructions
ways_land context code marks brought place leads agrees names walk past led none settled =
    let nothing = nothing_past code place past in
    let ends : end_of 0 (from_place code 0) ≡ place = end_done code place _ nothing walk.same_end in
    let filled : end_of 0 (from_place code 0) ≡ length code =
    omega (arith, ends, walk.inside, past) in
    let all_led : list_all (leads_inside context.sort (length code)) (from_place code 0) ≡ true =
    sym (leads_at_end context code marks brought place leads agrees names walk past)
    ∙ rw (led, none) refl in
    land_from context.sort (length code) (from_place code 0) (from_place code 0) 0 (rising code)
    filled all_led
    (λ q e. sym (stood_at_end context code marks brought place leads agrees names walk past q)
    ∙ known_stands (mark_at marks q) (settled q)
    (known_at_end context code marks brought place leads agrees names walk past led q e))
    (λ q e. e)

-- ---- ways that lead to instructions lead inside

-- a way to a start leads inside
way_inside : (size : ℕ) (all : List Placed) (o : Option Way)
    → AllByRecursion (λ x. x.place < size) all → option_map_or (λ w. is_start all w.to) o true
    ≡ true → option_map_or (λ w. nat_lt w.to size) o true ≡ true
way_inside size all None inside e = refl
way_inside size all (Some w) inside e =
    lt-ltb w.to size (at_start (λ q. q < size) all w.to inside e)

-- a jump that leads inside, and forward where it has to, leads as it may
jump_inside : (sort : Sort) (size : ℕ) (x : Placed) → is_forward sort x ≡ true
    → option_map_or (λ w. nat_lt w.to size) (jump x.instruction) true ≡ true
    → jumps_inside sort size x.place x.instruction ≡ true
jump_inside Method size x forward e = e
jump_inside Attribute size x forward e = both (jump x.instruction) forward e
  where
    both : (o : Option Way) → option_map_or (λ w. nat_lt x.place w.to) o true ≡ true
        → option_map_or (λ w. nat_lt w.to size) o true ≡ true
        → option_map_or (λ w. may_lead Attribute size x.place w.to) o true ≡ true
    both None f e = refl
    both (Some w) f e = rw (f, e) refl

-- the ways of an instruction that lead to starts, one by one
record Landed (sort : Sort) (all : List Placed) (x : Placed) : Type 0 where
  forward : is_forward sort x ≡ true
  after : option_map_or (λ w. is_start all w.to) (onward x.instruction x.next) true ≡ true
  target : option_map_or (λ w. is_start all w.to) (jump x.instruction) true ≡ true

-- the test of its ways in parts
landed : (sort : Sort) (all : List Placed) (x : Placed) → lands sort all x ≡ true
    → Landed sort all x
landed sort all x e =
    let parts = and_parts (is_forward sort x) (list_all (λ w. is_start all w.to) (ways x)) e in
    let both = and_parts (option_map_or (λ w. is_start all w.to) (onward x.instruction x.next) true)
    (option_map_or (λ w. is_start all w.to) (jump x.instruction) true)
    (sym (if_any (λ w. is_start all w.to) (onward x.instruction x.next) (jump x.instruction))
    ∙ parts.1) in
    record { forward = parts.0; after = both.0; target = both.1 }

-- an instruction whose ways lead to starts leads inside
landed_inside : (sort : Sort) (size : ℕ) (all : List Placed) (x : Placed)
    → AllByRecursion (λ y. y.place < size) all → lands sort all x ≡ true → leads_inside sort size x
    ≡ true
landed_inside sort size all x inside e =
    let l = landed sort all x e in
    rw (
      way_inside size all (onward x.instruction x.next) inside l.after,
      jump_inside sort size x l.forward
          (way_inside size all (jump x.instruction) inside l.target),
    ) refl

-- where jumps lead to starts, each target is one
target_starts : (all : List Placed) (o : Option Way) (q : ℕ)
    → option_map_or (λ w. is_start all w.to) o true ≡ true
    → option_map_or (λ w. nat_eq w.to q) o false ≡ true → is_start all q ≡ true
target_starts all None q e t = absurd cc
target_starts all (Some w) q e t = subst (λ (k : ℕ). is_start all k ≡ true) (eqb-true w.to q t) e

-- so is each target of several instructions
targets_start : (sort : Sort) (all ys : List Placed) (q : ℕ) → list_all (lands sort all) ys ≡ true
    → list_any (jumps_to q) ys ≡ true → is_start all q ≡ true
targets_start sort all [] q e t = absurd cc
targets_start sort all (x ∷ xs) q e t =
    let parts = and_parts (lands sort all x) (list_all (lands sort all) xs) e in
    elim (or_cases (jumps_to q x) (list_any (jumps_to q) xs) t) [
      | inl here ↦ target_starts all (jump x.instruction) q (landed sort all x parts.0).target here
      | inr there ↦ targets_start sort all xs q parts.1 there
    ]

-- nothing is brought inside past the end
nothing_brought : (size place : ℕ) (brought : Option ℕ) → size ≤ place
    → brought_inside size place brought ≡ true → brought ≡ None
nothing_brought size place None past e = refl
nothing_brought size place (Some n) past e = absurd (omega (arith, past, ltb-true place size e))

-- there is an instruction only where a place is settled
stands_settled : (m : Mark) → is_stood_on m ≡ true → is_settled m ≡ true
stands_settled (Awaited n) e = absurd cc
stands_settled _ e = refl

-- and only there
pub ways_lead : (context : Context) (code : List ℕ) (marks : List Mark) (brought : Option ℕ)
    (place : ℕ) (leads agrees names : Bool) → IsWalk context code marks brought place leads agrees
    names → length code ≤ place
    → all_land context (instructions code) ≡ true → (leads ≡ true) × (brought ≡ None)
    × ((q : ℕ) → is_settled (mark_at marks q) ≡ true)
unfolding instructions
ways_lead context code marks brought place leads agrees names walk past landing =
    let all_led : list_all (leads_inside context.sort (length code)) (from_place code 0) ≡ true =
    weaker (lands context.sort (from_place code 0)) (leads_inside context.sort (length code))
    (from_place code 0) (λ x e. landed_inside context.sort (length code) (from_place code 0) x
    (within code) e) landing in
    let parts = and_parts leads (brought_inside (length code) place brought && true)
    (leads_at_end context code marks brought place leads agrees names walk past ∙ all_led) in
    let inner = and_parts (brought_inside (length code) place brought) true parts.1 in (
      parts.0,
      nothing_brought (length code) place brought past inner.0,
      λ q. elim (cases_Bool (is_settled (mark_at marks q))) [
        | inl e ↦ e
        | inr e ↦ stands_settled (mark_at marks q)
            (stood_at_end context code marks brought place leads agrees names walk past q
            ∙ targets_start context.sort (from_place code 0) (from_place code 0) q landing
            (walk.awaited q e))
      ],
    )

-- ---- the numbers of operands, and the names

-- at the end the pass has made the table that the marks tell, as long as the numbers agreed
pass_at_end : (context : Context) (code : List ℕ) (marks : List Mark) (brought : Option ℕ)
    (place : ℕ) (leads agrees names : Bool) → IsWalk context code marks brought place leads agrees
    names → length code ≤ place
    → leads ≡ true → brought ≡ None → cond agrees (Some (depths marks)) None
    ≡ visit_all (replicate (length code) None) (from_place code 0)
unfolding visit_all
pass_at_end context code marks brought place leads agrees names walk past led none =
    sym (ap (λ (xs : List Placed). cond agrees (Some (depths marks) >>= λ t. visit_all t xs) None)
    (none_left code place past))
    ∙ sym (ap (λ (o : Option ℕ). cond agrees (carry o place (depths marks)
    >>= λ t. visit_all t (from_place code place)) None) none) ∙ walk.same_pass led

-- then the numbers were seen to agree exactly where there are such numbers
pub depths_seen : (context : Context) (code : List ℕ) (marks : List Mark) (brought : Option ℕ)
    (place : ℕ) (leads agrees names : Bool) → IsWalk context code marks brought place leads agrees
    names → length code ≤ place
    → all_land context (instructions code) ≡ true → (agrees ≡ true → HasDepths (instructions code))
    × (HasDepths (instructions code) → agrees ≡ true)
depths_seen context code marks brought place leads agrees names walk past landing =
    let seen = ways_lead context code marks brought place leads agrees names walk past landing in
    let pass = pass_at_end context code marks brought place leads agrees names walk past seen.0
    seen.1 in (
      (λ e. passes context.sort code (depths marks) landing
          (sym pass ∙ ap (λ (b : Bool). cond b (Some (depths marks)) None) e)),
      λ numbers. elim (cases_Bool agrees) [
        | inl e ↦ e
        | inr e ↦ absurd (refuses context.sort code landing
            (sym pass ∙ ap (λ (b : Bool). cond b (Some (depths marks)) None) e) numbers)
      ],
    )

-- nothing is taken away by what is true
and_true : (b : Bool) → (b && true) ≡ b
and_true true = refl
and_true false = refl

-- what is named was seen to exist exactly where it does
pub names_seen : (context : Context) (code : List ℕ) (marks : List Mark) (brought : Option ℕ)
    (place : ℕ) (leads agrees names : Bool) → IsWalk context code marks brought place leads agrees
    names → length code ≤ place
    → names ≡ all_exist context (instructions code)
unfolding instructions
names_seen context code marks brought place leads agrees names walk past =
    sym (and_true names) ∙ sym
    (ap (λ (xs : List Placed). names && list_all (λ x. names_exist context x.instruction) xs)
    (none_left code place past)) ∙ walk.same_names
