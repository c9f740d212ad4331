-- The unit of statements' code is valid.
use Rattle.std.proofs.Common.{◌≡◌, refl, sym, ap, subst, ◌∙◌, ℕ, ◌+◌, ◌<◌, ◌^◌, Bool, true, List, [], ◌∷◌, ◌++◌, length, arith, length-append}
use Rattle.std.specs.Prelude.{◌&&◌}
use Rattle.std.specs.List.{AllByRecursion, list_all}
use Rattle.std.proofs.lemmas.Bool.Decides.{nat_tests}
use Rattle.std.proofs.lemmas.Bool.{lt-ltb, and_from}
use Rattle.edd_instructions.specs.declared.instruction.Instruction.{Instruction}
use Rattle.edd_instructions.specs.declared.instruction.Instruction.TheVariants as instruction
use Rattle.edd_instructions.specs.declared.unit.Context.{Context}
use Rattle.edd_instructions.specs.declared.unit.Sort.{Sort}
use Rattle.edd_instructions.specs.declared.unit.Sort.TheVariants.{Attribute, Method}
use Rattle.edd_image.specs.declared.versions.Version.{Version}
use Rattle.edd_instructions.specs.References.{names_exist}
use Rattle.edd_instructions.specs.Spelling.{spelling}
use Rattle.edd_instructions.specs.Units.{Placed, instructions, end_of, is_allowed, is_chain, lands, all_land, AreDepths, HasDepths, all_exist, IsValidUnit}
use Rattle.edd_code.specs.Blocks.{bytes_of}
use Rattle.edd_code.specs.Flow.{all_straight, may_stand}
use Rattle.edd_code.proofs.BlockBytes.{all_both}
use Rattle.edd_code.proofs.BlockDepths.{until, until_front, until_behind}
use Rattle.edd_code.proofs.BlockJumps.{IsSound, starts}
use Rattle.edd_code.proofs.BlockPlaces.{stand}
use Rattle.edd_code.proofs.BlockUnits.{HoldsOfJumps, jumps_allowed, all_weaker}
use Rattle.edd_code.proofs.Versions.{each_passes}
use Rattle.edd_code.proofs.Lines.{placed, bytes_of-append, instructions_are, end_is, all_placed}
use Rattle.edd_methods.specs.Statements.{Code, size, emitted, bytes_at, unit_code, IsSpelledCode}
use Rattle.edd_methods.proofs.CodeBytes.{code_spelled}
use Rattle.edd_methods.proofs.CodeDepths.{code_depth, HasCode, code_has}
use Rattle.edd_methods.specs.CodeFlow.{Rests, Gives, Fits}
use Rattle.edd_methods.proofs.CodeFlow.{fits_weaker}
use Rattle.edd_methods.proofs.CodeListed.{code_holds}
use Rattle.edd_methods.proofs.CodePasses.{both, list_passes, code_passes}
use Rattle.edd_methods.proofs.CodeReading.{code_in}
use Rattle.edd_methods.proofs.CodeStarts.{InsideCode}
use Rattle.edd_methods.proofs.CodeWays.{IsBorder, end_sound, code_sound}

-- each block of code passes a test
abbrev pub Passes : (Instruction → Bool) → Code → Type 0
Passes f c = Fits (λ b. all_straight f b ≡ true) (λ b. all_straight f b ≡ true) c

-- code at 0, and an end
abbrev in_unit : Code → List Instruction
in_unit c = emitted 0 (size c) (size c) c ++ (instruction.End ∷ [])

abbrev listed_in : Code → List Placed
listed_in c = placed 0 (in_unit c)

end_alone : spelling instruction.End ≡ bytes_of (instruction.End ∷ [])
unfolding bytes_of
end_alone = refl

unit_is : (c : Code) → unit_code c ≡ bytes_of (in_unit c)
unit_is c = ap (λ (bs : List ℕ). bytes_at 0 (size c) (size c) c ++ bs) end_alone
    ∙ sym (bytes_of-append (emitted 0 (size c) (size c) c) (instruction.End ∷ []))

all_listed_true : (f : Placed → Bool) (xs : List Placed) → AllByRecursion (λ x. f x ≡ true) xs
    → list_all f xs ≡ true
all_listed_true f [] h = refl
all_listed_true f (x ∷ xs) h = and_from (f x) (list_all f xs) h.0 (all_listed_true f xs h.1)

all_true : {a b c : Bool} → a ≡ true → b ≡ true → c ≡ true → (a && (b && c)) ≡ true
all_true p q r = rw (p, q, r) refl

pop_allowed : (version : Version) (sort : Sort) → is_allowed version sort instruction.Pop ≡ true
pop_allowed version Attribute = refl
pop_allowed version Method = refl

end_allowed : (version : Version) (sort : Sort) → is_allowed version sort instruction.End ≡ true
end_allowed version Attribute = refl
end_allowed version Method = refl

module _ (c : Code) (small : size c < 2 ^ 31) where
  -- ---- tests of the instructions

  in_unit_passes : {f : Instruction → Bool} → HoldsOfJumps f → f instruction.Pop ≡ true
      → f instruction.End ≡ true → Passes f c → list_all (λ x. f x.instruction) (listed_in c) ≡ true
  in_unit_passes {f} jumps pop ending passes =
      all_placed f 0 (in_unit c)
      ∙ list_passes f jumps pop ending (in_unit c)
      (both f jumps pop ending (emitted 0 (size c) (size c) c) (instruction.End ∷ [])
      (code_passes f jumps pop ending 0 (size c) (size c) c passes) (ending, tt))

  -- ---- jumps and depths

  abbrev unit_depth : ℕ → ℕ
  unit_depth x = until (0 + size c) x (code_depth c 0 x) 0

  unit_is_sound : Fits Rests Gives c
      → AllByRecursion (IsSound (listed_in c) unit_depth) (listed_in c)
  unit_is_sound fits =
      let xs = listed_in c in
      let e = size c in
      let q = 0 + size c in
      let after = instruction.End ∷ [] in
      let inside : InsideCode xs 0 e e c =
      λ P h. (code_in P 0 e e c after (omega (arith, small)) (omega (arith, small))
      (omega (arith, small)) h).0 in
      let the_end = stand q instruction.End (q + 1) in
      let begins = starts xs the_end
      (λ P h. (code_in P 0 e e c after (omega (arith, small)) (omega (arith, small))
      (omega (arith, small)) h).1.0) in
      let border : IsBorder xs unit_depth q =
      (until_behind q q (code_depth c 0 q) 0 (omega arith), begins) in
      let far : IsBorder xs unit_depth e = subst (IsBorder xs unit_depth) (omega arith) border in
      let has : HasCode unit_depth 0 c = code_has unit_depth 0 q c refl fits
      (λ x low high. until_front q x (code_depth c 0 x) 0 high) border.0 in
      code_holds (IsSound xs unit_depth) 0 e e c after (omega (arith, small)) (omega (arith, small))
      (omega (arith, small))
      (code_sound xs unit_depth 0 e e c fits has border far far inside)
      (end_sound xs unit_depth q (q + 1) border.0, tt)

  module _ (context : Context) (sort : context.sort ≡ Method) (spelled : IsSpelledCode c)
      (fits : Fits Rests Gives c) (stands : Passes (may_stand context) c) where
    abbrev allowed : Instruction → Bool
    allowed = is_allowed context.version context.sort

    abbrev named : Instruction → Bool
    named = names_exist context

    are_allowed : Passes allowed c
    are_allowed = fits_weaker (λ b. all_straight (may_stand context) b ≡ true)
        (λ b. all_straight (may_stand context) b ≡ true) (λ b. all_straight allowed b ≡ true)
        (λ b. all_straight allowed b ≡ true) (λ b h. (each_passes allowed named b h).0)
        (λ b h. (each_passes allowed named b h).0) c stands

    are_named : Passes named c
    are_named = fits_weaker (λ b. all_straight (may_stand context) b ≡ true)
        (λ b. all_straight (may_stand context) b ≡ true) (λ b. all_straight named b ≡ true)
        (λ b. all_straight named b ≡ true) (λ b h. (each_passes allowed named b h).1)
        (λ b h. (each_passes allowed named b h).1) c stands

    listed_are : instructions (unit_code c) ≡ listed_in c
    listed_are = ap instructions (unit_is c) ∙ instructions_are (in_unit c)
        (all_both (emitted 0 (size c) (size c) c) (instruction.End ∷ [])
        (code_spelled 0 (size c) (size c) c spelled) (tt, tt))

    chained : is_chain context (unit_code c) ≡ true
    chained =
        let long : length (unit_code c) ≡ length (bytes_at 0 (size c) (size c) c) + 1 =
        length-append (bytes_at 0 (size c) (size c) c) (spelling instruction.End) in
        let ends : end_of 0 (instructions (unit_code c)) ≡ length (unit_code c) =
        ap (end_of 0) listed_are ∙ end_is 0 (in_unit c) ∙ omega arith
        ∙ ap length (sym (unit_is c)) in
        all_true (lt-ltb 0 (length (unit_code c)) (omega (arith, long)))
        (grind (arith, nat_tests, ends)) (ap (list_all (λ x. allowed x.instruction)) listed_are
        ∙ in_unit_passes (jumps_allowed context.version context.sort) (pop_allowed context.version
        context.sort) (end_allowed context.version context.sort) are_allowed)

    land : all_land context (listed_in c) ≡ true
    land =
        all_listed_true (lands context.sort (listed_in c)) (listed_in c)
        (all_weaker (λ x h. rw sort h.lands) (listed_in c) (unit_is_sound fits))

    depths : AreDepths (listed_in c) unit_depth
    depths =
        let sound = unit_is_sound fits in
        record {
          enough = all_weaker (λ x h. h.enough) (listed_in c) sound;
          bounded = all_weaker (λ x h. h.bounded) (listed_in c) sound;
          agree = all_weaker (λ x h. h.agree) (listed_in c) sound;
          fresh = all_weaker (λ x h. h.fresh) (listed_in c) sound;
        }

    pub unit_is_valid : IsValidUnit context (unit_code c)
    unit_is_valid = record {
      chain = chained;
      jumps = ap (all_land context) listed_are ∙ land;
      depths = subst HasDepths (sym listed_are) (unit_depth, depths);
      references = ap (all_exist context) listed_are ∙ in_unit_passes (record {
        jump = λ to. refl;
        zero = λ to. refl;
        not_zero = λ to. refl;
        label = λ z to. refl;
      }) refl refl are_named;
    }
