-- How a walk over a unit finds from where the number of operands at a place follows.
use Rattle.std.proofs.Common.{◌≡◌, ◌≢◌, ℕ, ◌+◌, ◌-◌, ◌<◌, ◌≤◌, true, false, ◌⊎◌, inl, inr, nat_eq, List, [], ◌∷◌, ◌++◌, length, Option, Some, None, refl, sym, ap, subst, ◌∙◌, arith}
use Rattle.std.specs.Prelude.{◌==◌, option_map}
use Rattle.std.specs.List.{AllByRecursion, list_any}
use Rattle.std.specs.Option.{option_to_list, option_map_or}
use Rattle.std.proofs.lemmas.Bool.{cases_lt, or_left, or_right, eq-eqb, ne_eqb, eqb-true}
use Rattle.edd_instructions.specs.declared.instruction.Instruction.{Instruction}
use Rattle.edd_instructions.specs.declared.unit.Context.{Context}
use Rattle.edd_instructions.specs.declared.unit.Way.{Way}
use Rattle.edd_instructions.specs.Decoding.{instruction_at}
use Rattle.edd_instructions.specs.Steps.{StandsWith}
use Rattle.edd_instructions.specs.Units.{Placed, AreDepths, IsFresh, IsValidUnit, instructions, is_start, jump, leaves, onward, takes, ways}
use Rattle.edd_unit_rules.specs.Standing.{jumps_to}
use Rattle.edd_unit_rules.specs.Walks.{from_place}
use Rattle.edd_unit_rules.proofs.DepthLaws.{Rising, each, each_two}
use Rattle.edd_unit_rules.proofs.JumpLaws.{jump_is_to}
use Rattle.edd_unit_rules.proofs.Listing.{placed, rising, walk_goes, walk_stops}
use Rattle.edd_unit_rules.proofs.UnitDepths.{at_each, at_start}
use Rattle.edd_port.specs.declared.depths.Segment.{Segment}
use Rattle.edd_port.specs.Origins.{IsLed, IsOriginOf, Rises, after_way}
use Rattle.edd_port.specs.declared.depths.Origin.TheVariants.{Fresh}

-- ---- ways

-- what holds of each way holds of the way to a target
of_jump : (P : Way → Type 0) (a b : Option Way) (w : Way) → b ≡ Some w
    → AllByRecursion P (option_to_list a ++ option_to_list b) → P w
of_jump P a None w e h = absurd cc
of_jump P None (Some v) w e h = let same : v ≡ w = cc in subst P same h.0
of_jump P (Some u) (Some v) w e h = let same : v ≡ w = cc in subst P same h.1.0

-- and of the way onward
of_onward : (P : Way → Type 0) (a b : Option Way) (w : Way) → a ≡ Some w
    → AllByRecursion P (option_to_list a ++ option_to_list b) → P w
of_onward P None b w e h = absurd cc
of_onward P (Some v) b w e h = let same : v ≡ w = cc in subst P same h.0

-- none of the ways leads to the place
none_leads : (q : ℕ) (a b : Option Way) → option_map_or (λ w. w.to == q) a false ≡ false
    → option_map_or (λ w. w.to == q) b false ≡ false
    → list_any (λ w. w.to == q) (option_to_list a ++ option_to_list b) ≡ false
none_leads q None None e f = refl
none_leads q None (Some v) e f = rw f refl
none_leads q (Some u) None e f = rw e refl
none_leads q (Some u) (Some v) e f = rw (e, f) refl

-- a jump to the place leaves nothing there
jump_there : (q : ℕ) (o : Option Way)
    → o ≡ option_map (λ to. record { to = to; leaves = 0 }) (option_map (λ w. w.to) o)
    → option_map_or (λ w. w.to == q) o false ≡ true
    → o ≡ Some (record { to = q; leaves = 0 })
jump_there q None e f = absurd cc
jump_there q (Some w) e f =
    let to : w.to ≡ q = eqb-true w.to q f in
    e ∙ ap (λ (t : ℕ). Some (record { to = t; leaves = 0 })) to

onward_to : (o : Option ℕ) (next : ℕ) (w : Way)
    → option_map (λ n. record { to = next; leaves = n }) o ≡ Some w → w.to ≡ next
onward_to None next w e = absurd cc
onward_to (Some n) next w e = cc

-- ---- starts

head_start : (x : Placed) (xs : List Placed) → is_start (x ∷ xs) x.place ≡ true
head_start x xs = or_left (nat_eq x.place x.place) (is_start xs x.place)
    (eq-eqb x.place x.place refl)

all_start : (xs : List Placed) → AllByRecursion (λ x. is_start xs x.place ≡ true) xs
all_start [] = tt
all_start (x ∷ xs) = (
  head_start x xs,
  each xs (λ y h. or_right (nat_eq x.place y.place) (is_start xs y.place) h) (all_start xs),
)

later : (xs : List Placed) (low place : ℕ) → low ≤ place → Rising place xs
    → AllByRecursion (λ z. low ≤ z.place) xs
later [] low place le r = tt
later (x ∷ xs) low place le r = (omega (arith, r.0), later xs low x.next (omega (arith, r.1)) r.2)

none_starts : (xs : List Placed) (q place : ℕ) → q < place → Rising place xs
    → is_start xs q ≡ false
none_starts [] q place lt r = refl
none_starts (x ∷ xs) q place lt r =
    let apart : x.place ≢ q = λ e. omega (arith, r.0, e) in
    let first : nat_eq x.place q ≡ false = ne_eqb x.place q apart in
    rw first (none_starts xs q x.next (omega (arith, r.1)) r.2)

-- ---- a walk that looks for what leads to a target

-- what the rules on numbers of operands say of one instruction
abbrev pub Suits : (ℕ → ℕ) → Placed → Type 0
Suits depth x = (takes x.instruction ≤ depth x.place) × (depth x.place ≤ 128)
    × AllByRecursion (λ w. depth w.to ≡ depth x.place - takes x.instruction + w.leaves) (ways x)

-- The walk has reached a place, in a run from a start on, and nothing before the place jumps to the
-- target. What is said of the instructions from there on is so said of all of them.
pub record IsTurn (code : List ℕ) (xs : List Placed) (target : ℕ) (s : Segment) (at : ℕ)
    : Type 0 where
  pub inside : at ≤ length code
  pub begun : s.start ≤ at
  pub rising : Rising at (from_place code at)
  pub same_start : is_start (from_place code at) target ≡ is_start xs target
  pub ahead : (q : ℕ) → is_start (from_place code at) q ≡ true → is_start xs q ≡ true
  pub start : s.start < at → is_start xs s.start ≡ true
  pub lands : AllByRecursion (λ x. AllByRecursion (λ w. is_start xs w.to ≡ true) (ways x))
      (from_place code at)
  -- nor does one go on to it, unless the run does
  pub fresh : ((at < target) ⊎ (s.start ≡ at)) → IsFresh (from_place code at) target
      → IsFresh xs target
  pub suits : (depth : ℕ → ℕ) → AreDepths xs depth
      → AllByRecursion (Suits depth) (from_place code at)
  pub rises : Rises xs s.start s.rise at

all_suit : (xs : List Placed) (depth : ℕ → ℕ) → AreDepths xs depth
    → AllByRecursion (Suits depth) xs
all_suit xs depth d =
    let small : AllByRecursion (λ x. (depth x.place ≤ 128)
    × AllByRecursion (λ w. depth w.to ≡ depth x.place - takes x.instruction + w.leaves) (ways x)) xs
    = each_two xs (λ x p q. (p, q)) d.bounded d.agree in
    each_two xs (λ x p q. (p, q.0, q.1)) d.enough small

pub begins : (context : Context) (code : List ℕ) (target : ℕ) → IsValidUnit context code
    → IsTurn code (instructions code) target (record { start = 0; rise = 128 }) 0
unfolding instructions
begins context code target valid =
    let xs = from_place code 0 in
    record {
      inside = omega arith;
      begun = omega arith;
      rising = rising code;
      same_start = refl;
      ahead = λ q e. e;
      start = λ lt. absurd (omega (arith, lt));
      lands = at_each (λ q. is_start xs q ≡ true) context.sort xs xs (all_start xs) valid.jumps;
      fresh = λ _ f. f;
      suits = λ depth d. all_suit xs depth d;
      rises = λ depth d. refl;
    }

-- what is known where an instruction is
pub record IsHere (xs : List Placed) (s : Segment) (x : Placed) : Type 0 where
  pub here : is_start xs x.place ≡ true
  pub start : is_start xs s.start ≡ true
  pub lands : AllByRecursion (λ w. is_start xs w.to ≡ true) (ways x)
  pub suits : (depth : ℕ → ℕ) → AreDepths xs depth → Suits depth x
  pub small : (depth : ℕ → ℕ) → AreDepths xs depth → depth s.start ≤ 128

small_at : (xs : List Placed) (q : ℕ) → is_start xs q ≡ true → (depth : ℕ → ℕ)
    → AreDepths xs depth → depth q ≤ 128
small_at xs q e depth d = at_start (λ k. depth k ≤ 128) xs q d.bounded e

pub is_here : (code : List ℕ) (xs : List Placed) (target : ℕ) (s : Segment) (at : ℕ)
    (found : Instruction × ℕ) → IsTurn code xs target s at → instruction_at code at ≡ Some found
    → IsHere xs s (placed at found)
is_here code xs target s at found t e =
    let x = placed at found in
    let goes : from_place code at ≡ x ∷ from_place code found.1 = walk_goes code at found e in
    let here : is_start xs at ≡ true =
    t.ahead at (rw goes (head_start x (from_place code found.1))) in
    let start : is_start xs s.start ≡ true = elim (cases_le s.start at t.begun) [
      | inl lt ↦ t.start lt
      | inr same ↦ subst (λ (q : ℕ). is_start xs q ≡ true) (sym same) here
    ] in
    record {
      here = here;
      start = start;
      lands = (rw goes at t.lands).0;
      suits = λ depth d. (rw goes at (t.suits depth d)).0;
      small = λ depth d. small_at xs s.start start depth d;
    }
  where
    cases_le : (a b : ℕ) → a ≤ b → (a < b) ⊎ (a ≡ b)
    cases_le a b le = elim (cases_lt a b) [
      | inl lt ↦ inl lt
      | inr ge ↦ inr (omega arith)
    ]

-- the rise is enough for what an instruction takes, and at most 256
pub rise_fits : (xs : List Placed) (s : Segment) (x : Placed) (depth : ℕ → ℕ) → AreDepths xs depth
    → IsHere xs s x → Rises xs s.start s.rise x.place
    → (takes x.instruction ≤ s.rise) × (s.rise ≤ 256)
rise_fits xs s x depth d h rises =
    let small = h.small depth d in
    let suits = h.suits depth d in
    let is = rises depth d in
    (omega (arith, small, suits.0, is), omega (arith, suits.1, is))

pub jumps_there : (code : List ℕ) (xs : List Placed) (target : ℕ) (s : Segment) (at : ℕ)
    (found : Instruction × ℕ) → IsTurn code xs target s at → instruction_at code at ≡ Some found
    → at < target → jumps_to target (placed at found) ≡ true
    → IsLed xs target (record { start = s.start; rise = s.rise - takes found.0 })
jumps_there code xs target s at found t e lt jumps =
    let x = placed at found in
    let h = is_here code xs target s at found t e in
    let way : jump found.0 ≡ Some (record { to = target; leaves = 0 }) =
    jump_there target (jump found.0) (jump_is_to found.0) jumps in
    record {
      before = omega (arith, t.begun, lt);
      start = h.start;
      there = of_jump (λ w. is_start xs w.to ≡ true) (onward found.0 found.1) (jump found.0)
          (record { to = target; leaves = 0 }) way h.lands;
      rises = λ depth d.
          let suits = h.suits depth d in
          let is = t.rises depth d in
          let fits = rise_fits xs s x depth d h t.rises in
          let agrees : depth target ≡ depth at - takes found.0 + 0 =
          of_jump (λ w. depth w.to ≡ depth at - takes found.0 + w.leaves) (onward found.0 found.1)
          (jump found.0) (record { to = target; leaves = 0 }) way suits.2 in
          omega (arith, suits.0, is, fits.0, agrees);
    }

-- the walk goes on after an instruction that doesn't jump to the target
pub turns : (code : List ℕ) (xs : List Placed) (target : ℕ) (s : Segment) (at : ℕ)
    (found : Instruction × ℕ) → IsTurn code xs target s at → instruction_at code at ≡ Some found
    → at < target → at < found.1 → found.1 ≤ length code
    → jumps_to target (placed at found) ≡ false
    → IsTurn code xs target (after_way s.start (s.rise - takes found.0) found.1
    (onward found.0 found.1)) found.1
turns code xs target s at found t e lt rise inside misses = by_way (onward found.0 found.1) refl
  where
    x : Placed
    x = placed at found

    next : ℕ
    next = found.1

    rest : List Placed
    rest = from_place code found.1

    goes : from_place code at ≡ x ∷ rest
    goes = walk_goes code at found e

    here : IsHere xs s x
    here = is_here code xs target s at found t e

    apart : nat_eq at target ≡ false
    apart = ne_eqb at target (λ same. omega (arith, same, lt))

    same_start : is_start rest target ≡ is_start xs target
    same_start = rw (goes, apart) at t.same_start

    fresh : option_map_or (λ w. w.to == target) (onward found.0 found.1) false ≡ false
        → IsFresh rest target → IsFresh xs target
    fresh not_on f = t.fresh (inl lt) (rw goes (
      (λ _. none_leads target (onward found.0 found.1) (jump found.0) not_on misses),
      f,
    ))

    on_to : (w : Way) → onward found.0 found.1 ≡ Some w
        → ((next < target) ⊎ (s.start ≡ next))
        → option_map_or (λ v. v.to == target) (onward found.0 found.1) false ≡ false
    on_to w o before =
        let to : w.to ≡ next = onward_to (leaves found.0) next w o in
        let far : w.to ≢ target = elim before [
          | inl less ↦ λ same. omega (arith, same, less, to)
          | inr same ↦ absurd (omega (arith, same, t.begun, rise))
        ] in
        rw o (ne_eqb w.to target far)

    by_way : (o : Option Way) → onward found.0 found.1 ≡ o
        → IsTurn code xs target (after_way s.start (s.rise - takes found.0) next o) next
    by_way (Some w) o = record {
      inside = inside;
      begun = omega (arith, t.begun, rise);
      rising = (rw goes at t.rising).2;
      same_start = same_start;
      ahead = λ q f. t.ahead q (rw goes (or_right (nat_eq at q) (is_start rest q) f));
      start = λ _. here.start;
      lands = (rw goes at t.lands).1;
      fresh = λ before f. fresh (on_to w o before) f;
      suits = λ depth d. (rw goes at (t.suits depth d)).1;
      rises = λ depth d.
          let suits = here.suits depth d in
          let is = t.rises depth d in
          let fits = rise_fits xs s x depth d here t.rises in
          let to : w.to ≡ next = onward_to (leaves found.0) next w o in
          let agrees : depth w.to ≡ depth at - takes found.0 + w.leaves =
          of_onward (λ v. depth v.to ≡ depth at - takes found.0 + v.leaves)
          (onward found.0 found.1) (jump found.0) w o suits.2 in
          let there : depth w.to ≡ depth next = ap depth to in
          omega (arith, suits.0, is, fits.0, agrees, there);
    }
    by_way None o = record {
      inside = inside;
      begun = omega arith;
      rising = (rw goes at t.rising).2;
      same_start = same_start;
      ahead = λ q f. t.ahead q (rw goes (or_right (nat_eq at q) (is_start rest q) f));
      start = λ less. absurd (omega (arith, less));
      lands = (rw goes at t.lands).1;
      fresh = λ _ f. fresh (rw o refl) f;
      suits = λ depth d. (rw goes at (t.suits depth d)).1;
      rises = λ depth d. refl;
    }

-- ---- where the walk ends

-- there is no whole instruction at a place that the walk has reached
pub stops : (code : List ℕ) (xs : List Placed) (target : ℕ) (s : Segment) (at : ℕ)
    → IsTurn code xs target s at → instruction_at code at ≡ None → is_start xs target ≡ false
stops code xs target s at t e =
    let none : from_place code at ≡ [] = walk_stops code at e in
    rw none at (sym t.same_start)

-- the walk has gone past the target
pub passes : (code : List ℕ) (xs : List Placed) (target : ℕ) (s : Segment) (at : ℕ)
    → IsTurn code xs target s at → target < at → is_start xs target ≡ false
passes code xs target s at t lt = sym t.same_start
    ∙ none_starts (from_place code at) target at lt t.rising

-- the run goes on to the target
pub goes_there : (code : List ℕ) (xs : List Placed) (target : ℕ) (s : Segment) (at : ℕ)
    (found : Instruction × ℕ) → IsTurn code xs target s at → instruction_at code at ≡ Some found
    → at ≡ target → s.start < at → IsLed xs target s
goes_there code xs target s at found t e same lt =
    let h = is_here code xs target s at found t e in
    subst (λ (q : ℕ). IsLed xs q s) same
    (record { before = lt; start = h.start; there = h.here; rises = t.rises })

-- nothing leads to the target
pub is_fresh : (code : List ℕ) (xs : List Placed) (target : ℕ) (s : Segment) (at : ℕ)
    (found : Instruction × ℕ) → IsTurn code xs target s at → instruction_at code at ≡ Some found
    → at ≡ target → at ≤ s.start → IsOriginOf xs target Fresh
is_fresh code xs target s at found t e same le =
    let h = is_here code xs target s at found t e in
    let there : is_start xs target ≡ true =
    subst (λ (q : ℕ). is_start xs q ≡ true) same h.here in
    let starts : s.start ≡ at = omega (arith, le, t.begun) in
    let rest : IsFresh (from_place code at) target =
    each (from_place code at) (λ y above lt. absurd (omega (arith, above, lt)))
    (later (from_place code at) target at (omega (arith, same)) t.rising) in (
      there,
      λ depth d. at_start (λ q. IsFresh xs q → depth q ≡ 0) xs target d.fresh there
          (t.fresh (inr starts) rest),
    )

-- ---- runs, one after the other

-- what leads to the place leads from another
pub record IsTraced (xs : List Placed) (place at rise : ℕ) : Type 0 where
  pub same : is_start xs at ≡ is_start xs place
  pub rises : Rises xs at rise place

pub traced : (xs : List Placed) (place at rise : ℕ) (s : Segment) (depth : ℕ → ℕ)
    → AreDepths xs depth → IsTraced xs place at rise → IsLed xs at s
    → (128 ≤ rise + s.rise) × (rise ≤ 256) × (s.rise ≤ 256)
    × IsTraced xs place s.start (rise + s.rise - 128)
traced xs place at rise s depth d t led = (
  enough depth d,
  small_rise,
  small_more,
  record {
    same = led.start ∙ sym led.there ∙ t.same;
    rises = λ f g.
        let le = enough f g in
        omega (arith, le, t.rises f g, led.rises f g);
  },
)
  where
    enough : (f : ℕ → ℕ) → AreDepths xs f → 128 ≤ rise + s.rise
    enough f g =
        let start = small_at xs s.start led.start f g in
        omega (arith, start, t.rises f g, led.rises f g)

    small_rise : rise ≤ 256
    small_rise =
        let there = small_at xs place (sym t.same ∙ led.there) depth d in
        omega (arith, there, t.rises depth d)

    small_more : s.rise ≤ 256
    small_more =
        let there = small_at xs at led.there depth d in
        omega (arith, there, led.rises depth d)

-- nothing leads to the last of them
pub enough_there : (xs : List Placed) (place at rise : ℕ) (depth : ℕ → ℕ) → AreDepths xs depth
    → IsTraced xs place at rise → IsOriginOf xs at Fresh → 128 ≤ rise
enough_there xs place at rise depth d t fresh =
    omega (arith, t.rises depth d, fresh.1 depth d)

pub stands_there : (code : List ℕ) (place at rise count : ℕ) (depth : ℕ → ℕ)
    → AreDepths (instructions code) depth → IsTraced (instructions code) place at rise
    → IsOriginOf (instructions code) at Fresh
    → (nat_eq (rise - 128) count ≡ true → StandsWith code place count)
    × (StandsWith code place count → nat_eq (rise - 128) count ≡ true)
stands_there code place at rise count depth d t fresh = (
  (λ e.
      let same : rise - 128 ≡ count = eqb-true (rise - 128) count e in
      record {
        at_start = sym t.same ∙ fresh.0;
        depth = depth;
        depths = d;
        operands = omega (arith, same, t.rises depth d, fresh.1 depth d);
      }),
  (λ stands.
      eq-eqb (rise - 128) count (omega (
        arith,
        stands.operands,
        t.rises stands.depth stands.depths,
        fresh.1 stands.depth stands.depths,
      ))),
)
