-- The unit of a block is valid, in an image of any version and in attributes and methods.
use Rattle.std.proofs.Common.{◌≡◌, refl, sym, ap, subst, ◌∙◌, ℕ, ◌+◌, ◌-◌, ◌<◌, ◌^◌, ℤ, Bool, true, List, [], ◌∷◌, ◌++◌, length, arith, length-append}
use Rattle.std.specs.Prelude.{◌&&◌, is_some, is_none}
use Rattle.std.specs.List.{AllByRecursion, list_all}
use Rattle.std.proofs.lemmas.Bool.Decides.{nat_tests}
use Rattle.std.proofs.lemmas.Bool.{lt-ltb, and_parts, and_from}
use Rattle.edd_instructions.specs.declared.instruction.Instruction.{Instruction}
use Rattle.edd_instructions.specs.declared.instruction.Instruction.TheVariants as instruction
use Rattle.edd_instructions.specs.declared.unit.Context.{Context}
use Rattle.edd_instructions.specs.declared.unit.Sort.{Sort}
use Rattle.edd_instructions.specs.declared.unit.Sort.TheVariants.{Attribute, Method}
use Rattle.edd_image.specs.declared.versions.Version.{Version}
use Rattle.edd_instructions.specs.References.{names_exist}
use Rattle.edd_instructions.specs.Spelling.{spelling}
use Rattle.edd_instructions.specs.Units.{Placed, instructions, end_of, leaves, jump, ways, is_allowed, is_chain, is_start, is_forward, lands, all_land, AreDepths, HasDepths, all_exist, IsValidUnit}
use Rattle.edd_code.specs.Blocks.{Block, Nothing, Straight, Then, WhenNotZero, WhenZero, Either, Match, size, emitted, bytes_of, bytes_at, unit_code}
use Rattle.edd_code.specs.Flow.{AreSpelled, FlowsIn, all_straight, depth_after}
use Rattle.edd_code.proofs.Lines.{placed, bytes_of-append, instructions_are, end_is}
use Rattle.edd_code.proofs.BlockBytes.{AllSpelled, all_both, all_spelled}
use Rattle.edd_code.proofs.BlockPlaces.{stand, listed, AllIn, all_listed, all_in, placed_are}
use Rattle.edd_code.proofs.BlockDepths.{until, until_front, until_behind, depth_in, has_depths}
use Rattle.edd_code.proofs.BlockJumps.{IsSound, forward_in, block_goes_forward, starts, block_is_sound}

-- ---- a test of the instructions

pub record HoldsOfJumps (f : Instruction → Bool) : Type 0 where
  pub jump : (to : ℕ) → f (instruction.Jump to) ≡ true
  pub zero : (to : ℕ) → f (instruction.JumpIfZero to) ≡ true
  pub not_zero : (to : ℕ) → f (instruction.JumpIfNotZero to) ≡ true
  pub label : (z : ℤ) (to : ℕ) → f (instruction.Case z to) ≡ true

straight_in : (f : Instruction → Bool) → HoldsOfJumps f → (p : ℕ) (b : Block)
    → all_straight f b ≡ true → AllIn (λ x. f x.instruction ≡ true) p b
straight_in f jumps p Nothing h = tt
straight_in f jumps p (Straight i) h = h
straight_in f jumps p (Then first second) h =
    let parts = and_parts (all_straight f first) (all_straight f second) h in
    (straight_in f jumps p first parts.0, straight_in f jumps (p + size first) second parts.1)
straight_in f jumps p (WhenNotZero body) h = (jumps.zero _, straight_in f jumps (p + 5) body h)
straight_in f jumps p (WhenZero body) h = (jumps.not_zero _, straight_in f jumps (p + 5) body h)
straight_in f jumps p (Either first otherwise) h =
    let parts = and_parts (all_straight f first) (all_straight f otherwise) h in (
      jumps.zero _,
      straight_in f jumps (p + 5) first parts.0,
      jumps.jump _,
      straight_in f jumps (p + (5 + (size first + 5))) otherwise parts.1,
    )
straight_in f jumps p (Match label body rest) h =
    let parts = and_parts (all_straight f body) (all_straight f rest) h in (
      jumps.label label _,
      straight_in f jumps (p + 13) rest parts.1,
      jumps.jump _,
      straight_in f jumps (p + (13 + (size rest + 5))) body parts.0,
    )

module _ (version : Version) (sort : Sort) where
  pub flows_allowed : (d : ℕ) (b : Block) → FlowsIn version sort b d
      → all_straight (is_allowed version sort) b ≡ true
  flows_allowed d Nothing h = refl
  flows_allowed d (Straight i) h =
      (and_parts (is_allowed version sort i) (is_some (leaves i) && is_none (jump i)) h.0).0
  flows_allowed d (Then first second) h = and_from _ _ (flows_allowed d first h.0)
      (flows_allowed (depth_after first d) second h.1)
  flows_allowed d (WhenNotZero body) h = flows_allowed (d - 1) body h.2
  flows_allowed d (WhenZero body) h = flows_allowed (d - 1) body h.2
  flows_allowed d (Either first otherwise) h = and_from _ _ (flows_allowed (d - 1) first h.2)
      (flows_allowed (d - 1) otherwise h.3)
  flows_allowed d (Match label body rest) h = and_from _ _ (flows_allowed (d - 1) body h.2)
      (flows_allowed d rest h.3)

-- jumps and the end may be in each unit
pub jumps_allowed : (version : Version) (sort : Sort) → HoldsOfJumps (is_allowed version sort)
jumps_allowed version Attribute = record {
  jump = λ to. refl;
  zero = λ to. refl;
  not_zero = λ to. refl;
  label = λ z to. refl;
}
jumps_allowed version Method = record {
  jump = λ to. refl;
  zero = λ to. refl;
  not_zero = λ to. refl;
  label = λ z to. refl;
}

end_allowed : (version : Version) (sort : Sort) → is_allowed version sort instruction.End ≡ true
end_allowed version Attribute = refl
end_allowed version Method = refl

-- ---- lists

pub all_weaker : {P Q : Placed → Type 0} → ((x : Placed) → P x → Q x) → (xs : List Placed)
    → AllByRecursion P xs → AllByRecursion Q xs
all_weaker f [] h = tt
all_weaker f (x ∷ xs) h = (f x h.0, all_weaker f xs h.1)

both_weaker : {P Q R : Placed → Type 0} → ((x : Placed) → P x → Q x → R x) → (xs : List Placed)
    → AllByRecursion P xs → AllByRecursion Q xs → AllByRecursion R xs
both_weaker f [] h k = tt
both_weaker f (x ∷ xs) h k = (f x h.0 k.0, both_weaker f xs h.1 k.1)

all_listed_true : (f : Placed → Bool) (xs : List Placed) → AllByRecursion (λ x. f x ≡ true) xs
    → list_all f xs ≡ true
all_listed_true f [] h = refl
all_listed_true f (x ∷ xs) h = and_from (f x) (list_all f xs) h.0 (all_listed_true f xs h.1)

all_true : {a b c : Bool} → a ≡ true → b ≡ true → c ≡ true → (a && (b && c)) ≡ true
all_true p q r = rw (p, q, r) refl

-- ---- the instructions of a unit

-- a block at 0, and an end
abbrev pub in_unit : Block → List Instruction
in_unit b = emitted 0 b ++ (instruction.End ∷ [])

-- the end after a block
abbrev pub the_end : Block → Placed
the_end b = stand (0 + size b) instruction.End (0 + size b + 1)

abbrev pub listed_in : Block → List Placed
listed_in b = listed 0 b (the_end b ∷ [])

end_alone : spelling instruction.End ≡ bytes_of (instruction.End ∷ [])
unfolding bytes_of
end_alone = refl

pub unit_is : (b : Block) → unit_code b ≡ bytes_of (in_unit b)
unit_is b = ap (λ (bs : List ℕ). bytes_at 0 b ++ bs) end_alone
    ∙ sym (bytes_of-append (emitted 0 b) (instruction.End ∷ []))

pub unit_spelled : (b : Block) → AreSpelled b → AllSpelled (in_unit b)
unit_spelled b ok = all_both (emitted 0 b) (instruction.End ∷ []) (all_spelled 0 b ok) (tt, tt)

pub unit_listed : (b : Block) → size b < 2 ^ 31 → placed 0 (in_unit b) ≡ listed_in b
unit_listed b small = placed_are 0 b (instruction.End ∷ []) (omega (arith, small))

-- ---- all rules

abbrev unit_depth : Block → ℕ → ℕ
unit_depth b x = until (0 + size b) x (depth_in b 0 0 x) 0

module _ (version : Version) (sort : Sort) (b : Block) (flows : FlowsIn version sort b 0) where
  unit_is_sound : depth_after b 0 ≡ 0 → AllByRecursion (IsSound (listed_in b) (unit_depth b))
      (listed_in b)
  unit_is_sound after =
      let depth = unit_depth b in
      let last : depth (0 + size b) ≡ 0 = until_behind (0 + size b) (0 + size b)
      (depth_in b 0 0 (0 + size b)) 0 (omega arith) in
      let exit : depth (0 + size b) ≡ depth_after b 0 = last ∙ sym after in
      let start : is_start (listed_in b) (0 + size b) ≡ true =
      starts (listed_in b) (the_end b) (λ P h. (all_in P 0 b (the_end b ∷ []) h).1.0) in
      let has = has_depths version sort depth 0 0 b flows
      (λ x low high. until_front (0 + size b) x (depth_in b 0 0 x) 0 high) exit in
      let block = block_is_sound version sort (listed_in b) depth 0 0 b flows has exit start
      (λ P h. (all_in P 0 b (the_end b ∷ []) h).0) (λ f. refl) in
      let ending : IsSound (listed_in b) depth (the_end b) = record {
        lands = refl;
        enough = omega arith;
        bounded = omega (arith, last);
        agree = tt;
        fresh = λ f. last;
      } in
      all_listed (IsSound (listed_in b) depth) 0 b (the_end b ∷ []) block (ending, tt)

  unit_goes_forward : AllByRecursion (λ x. is_forward sort x ≡ true) (listed_in b)
  unit_goes_forward =
      all_listed (λ x. is_forward sort x ≡ true) 0 b (the_end b ∷ [])
      (block_goes_forward version sort 0 0 b flows) (forward_in sort (the_end b) refl, tt)

all_pass : (f : Instruction → Bool) → HoldsOfJumps f → f instruction.End ≡ true → (b : Block)
    → all_straight f b ≡ true → AllByRecursion (λ x. f x.instruction ≡ true) (listed_in b)
all_pass f jumps ending b h = all_listed (λ x. f x.instruction ≡ true) 0 b (the_end b ∷ [])
    (straight_in f jumps 0 b h) (ending, tt)

module _ (context : Context) (b : Block) (spelled : AreSpelled b)
    (flows : FlowsIn context.version context.sort b 0) (after : depth_after b 0 ≡ 0)
    (small : size b < 2 ^ 31) where
  read : instructions (unit_code b) ≡ placed 0 (in_unit b)
  read = ap instructions (unit_is b) ∙ instructions_are (in_unit b) (unit_spelled b spelled)

  listed_are : instructions (unit_code b) ≡ listed_in b
  listed_are = read ∙ unit_listed b small

  chained : is_chain context (unit_code b) ≡ true
  chained =
      let long : length (unit_code b) ≡ length (bytes_at 0 b) + 1 =
      length-append (bytes_at 0 b) (spelling instruction.End) in
      let ends : end_of 0 (instructions (unit_code b)) ≡ length (unit_code b) =
      ap (end_of 0) read ∙ end_is 0 (in_unit b) ∙ omega arith ∙ ap length (sym (unit_is b)) in
      let f = is_allowed context.version context.sort in
      let allowed = all_pass f (jumps_allowed context.version context.sort)
      (end_allowed context.version context.sort) b
      (flows_allowed context.version context.sort 0 b flows) in
      all_true (lt-ltb 0 (length (unit_code b)) (omega (arith, long)))
      (grind (arith, nat_tests, ends))
      (ap (list_all (λ x. f x.instruction)) listed_are ∙ all_listed_true (λ x. f x.instruction)
      (listed_in b) allowed)

  land : all_land context (listed_in b) ≡ true
  land =
      all_listed_true (lands context.sort (listed_in b)) (listed_in b)
      (both_weaker (λ x h k. and_from (is_forward context.sort x)
      (list_all (λ w. is_start (listed_in b) w.to) (ways x)) h k.lands) (listed_in b)
      (unit_goes_forward context.version context.sort b flows)
      (unit_is_sound context.version context.sort b flows after))

  depths : AreDepths (listed_in b) (unit_depth b)
  depths =
      let sound = unit_is_sound context.version context.sort b flows after in
      record {
        enough = all_weaker (λ x h. h.enough) (listed_in b) sound;
        bounded = all_weaker (λ x h. h.bounded) (listed_in b) sound;
        agree = all_weaker (λ x h. h.agree) (listed_in b) sound;
        fresh = all_weaker (λ x h. h.fresh) (listed_in b) sound;
      }

  pub unit_is_valid : all_straight (names_exist context) b ≡ true
      → IsValidUnit context (unit_code b)
  unit_is_valid exist = record {
    chain = chained;
    jumps = ap (all_land context) listed_are ∙ land;
    depths = subst HasDepths (sym listed_are) (unit_depth b, depths);
    references = ap (all_exist context) listed_are
        ∙ all_listed_true (λ x. names_exist context x.instruction) (listed_in b)
        (all_pass (names_exist context)
        (record {
          jump = λ to. refl;
          zero = λ to. refl;
          not_zero = λ to. refl;
          label = λ z to. refl;
        }) refl b exist);
  }
