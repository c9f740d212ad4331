-- The ways inside a block lead forward to its instructions or to the one after it, and agree on
-- the number of operands, in a unit of any version and sort.
use Rattle.std.proofs.Common.{◌≡◌, refl, sym, ap, subst, ◌∙◌, ℕ, ◌+◌, ◌-◌, ◌<◌, ◌≤◌, ℤ, Bool, true, false, List, [], ◌∷◌, length, Option, Some, None, arith}
use Rattle.std.specs.Prelude.{◌==◌, ◌&&◌, ◌||◌, is_some, is_none, nat_lt}
use Rattle.std.specs.List.{AllByRecursion, list_all, list_any}
use Rattle.std.specs.Option.{option_map_or}
use Rattle.std.proofs.lemmas.Bool.Decides.{nat_tests}
use Rattle.std.proofs.lemmas.Bool.{lt-ltb, and_parts, or_left, or_right}
use Rattle.edd_instructions.specs.declared.instruction.Instruction.{Instruction}
use Rattle.edd_instructions.specs.declared.instruction.Instruction.TheVariants as instruction
use Rattle.edd_instructions.specs.declared.unit.Sort.{Sort}
use Rattle.edd_instructions.specs.declared.unit.Sort.TheVariants.{Attribute, Method}
use Rattle.edd_image.specs.declared.versions.Version.{Version}
use Rattle.edd_instructions.specs.declared.unit.Way.{Way}
use Rattle.edd_instructions.specs.Spelling.{spelling}
use Rattle.edd_instructions.specs.Units.{Placed, takes, leaves, jump, ways, is_allowed, is_start, is_forward, leads_to, IsFresh}
use Rattle.edd_code.specs.Blocks.{Block, Nothing, Straight, Then, WhenNotZero, WhenZero, Either, Match, size}
use Rattle.edd_code.specs.Flow.{FlowsIn, depth_after, left_of, is_straight_in}
use Rattle.edd_code.proofs.Lines.{spelling_not_empty}
use Rattle.edd_code.proofs.BlockPlaces.{stand, AllIn}
use Rattle.edd_code.proofs.BlockDepths.{HasDepthsOf, at_front}

same_place : (n : ℕ) → (n == n) ≡ true
same_place n = grind (arith, nat_tests)

pub leads_near : (a : ℕ) → ((a == a) || false) ≡ true
leads_near a = ap (λ b. b || false) (same_place a)

both_true : {a b : Bool} → a ≡ true → b ≡ true → (a && (b && true)) ≡ true
both_true p q = rw (p, q) refl

leaves_some : (o : Option ℕ) → is_some o ≡ true → o ≡ Some (left_of o)
leaves_some None h = absurd (cc h)
leaves_some (Some n) h = refl

is_nothing : (o : Option Way) → is_none o ≡ true → o ≡ None
is_nothing None h = refl
is_nothing (Some w) h = absurd (cc h)

one_way : (x : Placed) {n : ℕ} → leaves x.instruction ≡ Some n → jump x.instruction ≡ None
    → ways x ≡ record { to = x.next; leaves = n } ∷ []
one_way x l j = rw (l, j) refl

-- the ways of a test, and of a jump
pub leads_on : (a b : ℕ) → ((a == a) || ((b == a) || false)) ≡ true
leads_on a b = rw (same_place a) refl

leads_far : (a b : ℕ) → ((a == b) || ((b == b) || false)) ≡ true
leads_far a b = or_right (a == b) ((b == b) || false) (leads_near b)

-- ---- what the rules on jumps and depths ask of an instruction, among others

pub record IsSound (xs : List Placed) (depth : ℕ → ℕ) (x : Placed) : Type 0 where
  pub lands : list_all (λ w. is_start xs w.to) (ways x) ≡ true
  pub enough : takes x.instruction ≤ depth x.place
  pub bounded : depth x.place ≤ 128
  pub agree : AllByRecursion (λ w. depth w.to ≡ depth x.place - takes x.instruction + w.leaves)
      (ways x)
  pub fresh : IsFresh xs x.place → depth x.place ≡ 0

module _ (version : Version) (sort : Sort) where
  -- a straight instruction has one way
  straight_parts : (i : Instruction) → is_straight_in version sort i ≡ true
      → (leaves i ≡ Some (left_of (leaves i))) × (jump i ≡ None)
  straight_parts i h =
      let both = and_parts (is_some (leaves i)) (is_none (jump i))
      (and_parts (is_allowed version sort i) (is_some (leaves i) && is_none (jump i)) h).1 in
      (leaves_some (leaves i) both.0, is_nothing (jump i) both.1)

  straight_leads : (p : ℕ) (i : Instruction) (q : ℕ) → is_straight_in version sort i ≡ true
      → leads_to (stand p i q) q ≡ true
  straight_leads p i q h =
      let parts = straight_parts i h in
      ap (list_any (λ w. w.to == q)) (one_way (stand p i q) parts.0 parts.1)
      ∙ ap (λ b. b || false) (same_place q)

-- ---- ways that lead forward

pub forward_in : (sort : Sort) (x : Placed)
    → option_map_or (λ w. nat_lt x.place w.to) (jump x.instruction) true ≡ true
    → is_forward sort x ≡ true
forward_in Attribute x h = h
forward_in Method x h = refl

module _ (version : Version) (sort : Sort) where
  -- so do those of a block, in a unit of either sort
  pub block_goes_forward : (p d : ℕ) (b : Block) → FlowsIn version sort b d
      → AllIn (λ x. is_forward sort x ≡ true) p b
  block_goes_forward p d Nothing flows = tt
  block_goes_forward p d (Straight i) flows =
      forward_in sort (stand p i (p + length (spelling i)))
      (ap (λ (o : Option Way). option_map_or (λ w. nat_lt p w.to) o true)
      (straight_parts version sort i flows.0).1)
  block_goes_forward p d (Then first second) flows = (
    block_goes_forward p d first flows.0,
    block_goes_forward (p + size first)
        (depth_after first d) second flows.1,
  )
  block_goes_forward p d (WhenNotZero body) flows =
      let q = p + (5 + size body) in (
        forward_in sort (stand p (instruction.JumpIfZero q) (p + 5)) (lt-ltb p q (omega arith)),
        block_goes_forward (p + 5) (d - 1) body flows.2,
      )
  block_goes_forward p d (WhenZero body) flows =
      let q = p + (5 + size body) in (
        forward_in sort (stand p (instruction.JumpIfNotZero q) (p + 5)) (lt-ltb p q (omega arith)),
        block_goes_forward (p + 5) (d - 1) body flows.2,
      )
  block_goes_forward p d (Either first otherwise) flows =
      let m = p + (5 + size first) in
      let r = p + (5 + (size first + 5)) in
      let q = p + (5 + (size first + (5 + size otherwise))) in (
        forward_in sort (stand p (instruction.JumpIfZero r) (p + 5)) (lt-ltb p r (omega arith)),
        block_goes_forward (p + 5) (d - 1) first flows.2,
        forward_in sort (stand m (instruction.Jump q) r) (lt-ltb m q (omega arith)),
        block_goes_forward r (d - 1) otherwise flows.3,
      )
  block_goes_forward p d (Match label body rest) flows =
      let m = p + (13 + size rest) in
      let r = p + (13 + (size rest + 5)) in
      let q = p + (13 + (size rest + (5 + size body))) in (
        forward_in sort (stand p (instruction.Case label r) (p + 13)) (lt-ltb p r (omega arith)),
        block_goes_forward (p + 13) d rest flows.3,
        forward_in sort (stand m (instruction.Jump q) r) (lt-ltb m q (omega arith)),
        block_goes_forward r (d - 1) body flows.2,
      )

-- ---- places where instructions start

starts_more : (x : Placed) (xs ys : List Placed)
    → AllByRecursion (λ y. is_start xs y.place ≡ true) ys
    → AllByRecursion (λ y. is_start (x ∷ xs) y.place ≡ true) ys
starts_more x xs [] h = tt
starts_more x xs (y ∷ ys) h = (
  or_right (x.place == y.place) (is_start xs y.place) h.0,
  starts_more x xs ys h.1,
)

starts_among : (xs : List Placed) → AllByRecursion (λ x. is_start xs x.place ≡ true) xs
starts_among [] = tt
starts_among (x ∷ xs) = (
  or_left (x.place == x.place) (is_start xs x.place) (same_place x.place),
  starts_more x xs xs (starts_among xs),
)

module _ (xs : List Placed) where
  -- the instructions of a block are among them
  abbrev pub Inside : (p : ℕ) → Block → Type 1
  Inside p b = (P : Placed → Type 0) → AllByRecursion P xs → AllIn P p b

  -- an instruction is among them
  abbrev pub Among : Placed → Type 1
  Among x = (P : Placed → Type 0) → AllByRecursion P xs → P x

  -- a place that an earlier instruction leads to isn't fresh
  pub not_fresh : (x : Placed) (place : ℕ) → Among x → x.place < place → leads_to x place ≡ true
      → IsFresh xs place → ⊥
  not_fresh x place among before leads fresh =
      let no : leads_to x place ≡ false = among (λ y. y.place < place → leads_to y place ≡ false)
      fresh before in
      absurd (cc (leads, no))

  pub starts : (x : Placed) → Among x → is_start xs x.place ≡ true
  starts x among = among (λ y. is_start xs y.place ≡ true) (starts_among xs)

  -- where the place after a block is a start, so is its own
  pub starts_at : (p : ℕ) (b : Block) → Inside p b → is_start xs (p + size b) ≡ true
      → is_start xs p ≡ true
  starts_at p Nothing inside exit = ap (is_start xs) (omega arith) ∙ exit
  starts_at p (Straight i) inside exit = starts (stand p i (p + length (spelling i))) inside
  starts_at p (Then first second) inside exit =
      starts_at p first (λ P h. (inside P h).0)
      (starts_at (p + size first) second (λ P h. (inside P h).1) (ap (is_start xs) (omega arith)
      ∙ exit))
  starts_at p (WhenNotZero body) inside exit =
      starts (stand p (instruction.JumpIfZero (p + (5 + size body))) (p + 5))
      (λ P h. (inside P h).0)
  starts_at p (WhenZero body) inside exit =
      starts (stand p (instruction.JumpIfNotZero (p + (5 + size body))) (p + 5))
      (λ P h. (inside P h).0)
  starts_at p (Either first otherwise) inside exit =
      starts (stand p (instruction.JumpIfZero (p + (5 + (size first + 5)))) (p + 5))
      (λ P h. (inside P h).0)
  starts_at p (Match label body rest) inside exit =
      starts (stand p (instruction.Case label (p + (13 + (size rest + 5)))) (p + 13))
      (λ P h. (inside P h).0)

module _ (version : Version) (sort : Sort) (xs : List Placed) where
  -- where no instruction leads to the place after a block, the block is empty, and none leads to
  -- its own
  pub exit_fresh : (p d : ℕ) (b : Block) → FlowsIn version sort b d → Inside xs p b
      → (IsFresh xs p → d ≡ 0) → IsFresh xs (p + size b) → depth_after b d ≡ 0
  exit_fresh p d Nothing flows inside entry fresh = entry (subst (IsFresh xs) (omega arith) fresh)
  exit_fresh p d (Straight i) flows inside entry fresh =
      absurd (not_fresh xs (stand p i (p + length (spelling i))) (p + length (spelling i)) inside
      (omega (arith, spelling_not_empty i))
      (straight_leads version sort p i (p + length (spelling i)) flows.0) fresh)
  exit_fresh p d (Then first second) flows inside entry fresh =
      exit_fresh (p + size first) (depth_after first d) second flows.1 (λ P h. (inside P h).1)
      (exit_fresh p d first flows.0 (λ P h. (inside P h).0) entry)
      (subst (IsFresh xs) (omega arith) fresh)
  exit_fresh p d (WhenNotZero body) flows inside entry fresh =
      let q = p + (5 + size body) in
      absurd (not_fresh xs (stand p (instruction.JumpIfZero q) (p + 5)) q (λ P h. (inside P h).0)
      (omega arith) (leads_far (p + 5) q) fresh)
  exit_fresh p d (WhenZero body) flows inside entry fresh =
      let q = p + (5 + size body) in
      absurd (not_fresh xs (stand p (instruction.JumpIfNotZero q) (p + 5)) q (λ P h. (inside P h).0)
      (omega arith) (leads_far (p + 5) q) fresh)
  exit_fresh p d (Either first otherwise) flows inside entry fresh =
      let q = p + (5 + (size first + (5 + size otherwise))) in
      absurd (not_fresh xs (stand (p + (5 + size first)) (instruction.Jump q)
      (p + (5 + (size first + 5)))) q (λ P h. (inside P h).2) (omega arith) (leads_near q)
      fresh)
  exit_fresh p d (Match label body rest) flows inside entry fresh =
      let q = p + (13 + (size rest + (5 + size body))) in
      absurd (not_fresh xs (stand (p + (13 + size rest)) (instruction.Jump q)
      (p + (13 + (size rest + 5)))) q (λ P h. (inside P h).2) (omega arith) (leads_near q)
      fresh)

  module _ (depth : ℕ → ℕ) where
    pub sound_straight : (p d q : ℕ) (i : Instruction) → is_straight_in version sort i ≡ true
        → takes i ≤ d → d ≤ 128 → depth p ≡ d → depth q ≡ d - takes i + left_of (leaves i)
        → is_start xs q ≡ true → (IsFresh xs p → d ≡ 0) → IsSound xs depth (stand p i q)
    sound_straight p d q i straight enough bounded here there start entry =
        let parts = straight_parts version sort i straight in
        let way = one_way (stand p i q) parts.0 parts.1 in
        record {
          lands = ap (list_all (λ w. is_start xs w.to)) way ∙ ap (λ b. b && true) start;
          enough = omega (arith, enough, here);
          bounded = omega (arith, bounded, here);
          agree = subst (λ (ws : List Way). AllByRecursion (λ w. depth w.to ≡ depth p - takes i
              + w.leaves) ws) (sym way) (
                there ∙ ap (λ n. n - takes i + left_of (leaves i))
                    (sym here),
                tt,
              );
          fresh = λ f. here ∙ entry f;
        }

    -- a test that takes an operand leads on, and to another place
    abbrev pub TestsAt : (p next to d : ℕ) → Type 0
    TestsAt p next to d = (depth p ≡ d) × (depth to ≡ d - 1) × (1 ≤ d) × (d ≤ 128)
        × (is_start xs next ≡ true) × (is_start xs to ≡ true) × (IsFresh xs p → d ≡ 0)

    pub sound_zero : (p next to d : ℕ) → TestsAt p next to d → depth next ≡ d - 1
        → IsSound xs depth (stand p (instruction.JumpIfZero to) next)
    sound_zero p next to d t after = record {
      lands = both_true t.4 t.5;
      enough = omega (arith, t.0, t.2);
      bounded = omega (arith, t.0, t.3);
      agree = (omega (arith, t.0, after), (omega (arith, t.0, t.1), tt));
      fresh = λ f. t.0 ∙ t.6 f;
    }

    sound_not_zero : (p next to d : ℕ) → TestsAt p next to d → depth next ≡ d - 1
        → IsSound xs depth (stand p (instruction.JumpIfNotZero to) next)
    sound_not_zero p next to d t after = record {
      lands = both_true t.4 t.5;
      enough = omega (arith, t.0, t.2);
      bounded = omega (arith, t.0, t.3);
      agree = (omega (arith, t.0, after), (omega (arith, t.0, t.1), tt));
      fresh = λ f. t.0 ∙ t.6 f;
    }

    pub sound_case : (p next to d : ℕ) (label : ℤ) → TestsAt p next to d → depth next ≡ d
        → IsSound xs depth (stand p (instruction.Case label to) next)
    sound_case p next to d label t after = record {
      lands = both_true t.4 t.5;
      enough = omega (arith, t.0, t.2);
      bounded = omega (arith, t.0, t.3);
      agree = (omega (arith, t.0, t.2, after), (omega (arith, t.0, t.1), tt));
      fresh = λ f. t.0 ∙ t.6 f;
    }

    pub sound_jump : (p next to d : ℕ) → depth p ≡ d → depth to ≡ d → d ≤ 128
        → is_start xs to ≡ true → (IsFresh xs p → d ≡ 0)
        → IsSound xs depth (stand p (instruction.Jump to) next)
    sound_jump p next to d here there few start entry = record {
      lands = ap (λ b. b && true) start;
      enough = omega arith;
      bounded = omega (arith, here, few);
      agree = (omega (arith, here, there), tt);
      fresh = λ f. here ∙ entry f;
    }

    pub block_is_sound : (p d : ℕ) (b : Block) → FlowsIn version sort b d → HasDepthsOf depth p d b
        → depth (p + size b) ≡ depth_after b d → is_start xs (p + size b) ≡ true
        → Inside xs p b → (IsFresh xs p → d ≡ 0) → AllIn (IsSound xs depth) p b
    block_is_sound p d Nothing flows has exit start inside entry = tt
    block_is_sound p d (Straight i) flows has exit start inside entry =
        sound_straight p d (p + length (spelling i)) i flows.0 flows.1 flows.2 has exit start entry
    block_is_sound p d (Then first second) flows has exit start inside entry =
        let m = p + size first in
        let end : m + size second ≡ p + (size first + size second) = omega arith in
        let begin = starts_at xs m second (λ P h. (inside P h).1) (ap (is_start xs) end ∙ start)
        in (
          block_is_sound p d first flows.0 has.0
              (at_front depth m (depth_after first d) second has.1) begin (λ P h. (inside P h).0)
              entry,
          block_is_sound m (depth_after first d) second flows.1 has.1 (ap depth end ∙ exit)
              (ap (is_start xs) end ∙ start) (λ P h. (inside P h).1)
              (exit_fresh p d first flows.0 (λ P h. (inside P h).0) entry),
        )
    block_is_sound p d (WhenNotZero body) flows has exit start inside entry =
        let q = p + (5 + size body) in
        let x = stand p (instruction.JumpIfZero q) (p + 5) in
        let end : p + 5 + size body ≡ q = omega arith in
        let begin = starts_at xs (p + 5) body (λ P h. (inside P h).1) (ap (is_start xs) end ∙ start)
        in (
          sound_zero p (p + 5) q d (has.0, exit, flows.0, flows.1, begin, start, entry)
              (at_front depth (p + 5) (d - 1) body has.1),
          block_is_sound (p + 5) (d - 1) body flows.2 has.1 (ap depth end ∙ exit ∙ sym flows.3)
              (ap (is_start xs) end ∙ start) (λ P h. (inside P h).1)
              (λ f. absurd (not_fresh xs x (p + 5) (λ P h. (inside P h).0) (omega arith)
              (leads_on (p + 5) q) f)),
        )
    block_is_sound p d (WhenZero body) flows has exit start inside entry =
        let q = p + (5 + size body) in
        let x = stand p (instruction.JumpIfNotZero q) (p + 5) in
        let end : p + 5 + size body ≡ q = omega arith in
        let begin = starts_at xs (p + 5) body (λ P h. (inside P h).1) (ap (is_start xs) end ∙ start)
        in (
          sound_not_zero p (p + 5) q d (has.0, exit, flows.0, flows.1, begin, start, entry)
              (at_front depth (p + 5) (d - 1) body has.1),
          block_is_sound (p + 5) (d - 1) body flows.2 has.1 (ap depth end ∙ exit ∙ sym flows.3)
              (ap (is_start xs) end ∙ start) (λ P h. (inside P h).1)
              (λ f. absurd (not_fresh xs x (p + 5) (λ P h. (inside P h).0) (omega arith)
              (leads_on (p + 5) q) f)),
        )
    block_is_sound p d (Either first otherwise) flows has exit start inside entry =
        let m = p + (5 + size first) in
        let r = p + (5 + (size first + 5)) in
        let q = p + (5 + (size first + (5 + size otherwise))) in
        let x = stand p (instruction.JumpIfZero r) (p + 5) in
        let middle : p + 5 + size first ≡ m = omega arith in
        let end : r + size otherwise ≡ q = omega arith in
        let joins = starts xs (stand m (instruction.Jump q) r) (λ P h. (inside P h).2) in
        let in_first : Inside xs (p + 5) first = λ P h. (inside P h).1 in
        let in_other : Inside xs r otherwise = λ P h. (inside P h).3 in
        let enters : IsFresh xs (p + 5)
        → d - 1 ≡ 0 = λ f. absurd (not_fresh xs x (p + 5) (λ P h. (inside P h).0) (omega arith)
        (leads_on (p + 5) r) f) in
        let enters_other : IsFresh xs r
        → d - 1 ≡ 0 = λ f. absurd (not_fresh xs x r (λ P h. (inside P h).0) (omega arith)
        (leads_far (p + 5) r) f) in (
          sound_zero p (p + 5) r d (
            has.0,
            at_front depth r (d - 1) otherwise has.3,
            flows.0,
            flows.1,
            starts_at xs (p + 5) first in_first (ap (is_start xs) middle ∙ joins),
            starts_at xs r otherwise in_other (ap (is_start xs) end ∙ start),
            entry,
          )
              (at_front depth (p + 5) (d - 1) first has.1),
          block_is_sound (p + 5) (d - 1) first flows.2 has.1 (ap depth middle ∙ has.2)
              (ap (is_start xs) middle ∙ joins) in_first enters,
          sound_jump m r q (depth_after first (d - 1)) has.2 exit flows.5 start
              (λ f. exit_fresh (p + 5) (d - 1) first flows.2 in_first enters
              (subst (IsFresh xs) (sym middle) f)),
          block_is_sound r (d - 1) otherwise flows.3 has.3 (ap depth end ∙ exit ∙ sym flows.4)
              (ap (is_start xs) end ∙ start) in_other enters_other,
        )
    block_is_sound p d (Match label body rest) flows has exit start inside entry =
        let m = p + (13 + size rest) in
        let r = p + (13 + (size rest + 5)) in
        let q = p + (13 + (size rest + (5 + size body))) in
        let x = stand p (instruction.Case label r) (p + 13) in
        let middle : p + 13 + size rest ≡ m = omega arith in
        let end : r + size body ≡ q = omega arith in
        let joins = starts xs (stand m (instruction.Jump q) r) (λ P h. (inside P h).2) in
        let in_rest : Inside xs (p + 13) rest = λ P h. (inside P h).1 in
        let in_body : Inside xs r body = λ P h. (inside P h).3 in
        let enters : IsFresh xs (p + 13)
        → d ≡ 0 = λ f. absurd (not_fresh xs x (p + 13) (λ P h. (inside P h).0) (omega arith)
        (leads_on (p + 13) r) f) in
        let enters_body : IsFresh xs r
        → d - 1 ≡ 0 = λ f. absurd (not_fresh xs x r (λ P h. (inside P h).0) (omega arith)
        (leads_far (p + 13) r) f) in (
          sound_case p (p + 13) r d label (
            has.0,
            at_front depth r (d - 1) body has.3,
            flows.0,
            flows.1,
            starts_at xs (p + 13) rest in_rest (ap (is_start xs) middle ∙ joins),
            starts_at xs r body in_body (ap (is_start xs) end ∙ start),
            entry,
          )
              (at_front depth (p + 13) d rest has.1),
          block_is_sound (p + 13) d rest flows.3 has.1 (ap depth middle ∙ has.2)
              (ap (is_start xs) middle ∙ joins) in_rest enters,
          sound_jump m r q (depth_after rest d) has.2 (exit ∙ sym flows.4) flows.5 start
              (λ f. exit_fresh (p + 13) d rest flows.3 in_rest enters
              (subst (IsFresh xs) (sym middle) f)),
          block_is_sound r (d - 1) body flows.2 has.3 (ap depth end ∙ exit) (ap (is_start xs) end
              ∙ start) in_body enters_body,
        )
