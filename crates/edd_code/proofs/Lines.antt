-- Code in a line: instructions one after the other, each of which leaves what the next one takes,
-- up to an end.
use Rattle.std.proofs.Common.{◌≡◌, refl, sym, ap, ◌∙◌, ℕ, zero, suc, ◌+◌, ◌<◌, ◌≤◌, Bool, List, [], ◌∷◌, ◌++◌, length, None, arith, append_assoc, length-append}
use Rattle.std.specs.Prelude.{◌&&◌}
use Rattle.std.specs.List.{AllByRecursion, list_all}
use Rattle.std.proofs.lemmas.List.{drop_at}
use Rattle.edd_instructions.specs.declared.instruction.Instruction.{Instruction}
use Rattle.edd_instructions.specs.declared.instruction.Instruction.TheVariants as instruction
use Rattle.edd_instructions.specs.Decoding.{instruction_from, instruction_at}
use Rattle.edd_instructions.specs.Spelling.{spelling, IsSpelled}
use Rattle.edd_instructions.specs.Units.{Placed, instructions_from, instructions, end_of}
use Rattle.edd_instructions.proofs.Spelled.{stands_where_spelled}
use Rattle.edd_code.specs.Blocks.{bytes_of}

-- ---- the instructions that are spelled are those that are there

-- these instructions, from a place on
abbrev pub placed : ℕ → List Instruction → List Placed
placed p [] = []
placed p (i ∷ is) = record { place = p; instruction = i; next = p + length (spelling i) }
    ∷ placed (p + length (spelling i)) is

pub bytes_of-append : (is js : List Instruction) → bytes_of (is ++ js) ≡ bytes_of is ++ bytes_of js
unfolding bytes_of
bytes_of-append [] js = refl
bytes_of-append (i ∷ is) js = ap (λ bs. spelling i ++ bs) (bytes_of-append is js)
    ∙ sym (append_assoc (spelling i) (bytes_of is) (bytes_of js))

pub spelling_not_empty : (i : Instruction) → 0 < length (spelling i)
spelling_not_empty instruction.End = omega arith
spelling_not_empty _ = omega arith

pub fewer_than_bytes : (is : List Instruction) → length is ≤ length (bytes_of is)
unfolding bytes_of
fewer_than_bytes [] = omega arith
fewer_than_bytes (i ∷ is) = omega (
  arith,
  fewer_than_bytes is,
  spelling_not_empty i,
  length-append (spelling i) (bytes_of is),
)

none_at_end : (front : List ℕ) → instruction_at (front ++ []) (length front) ≡ None
unfolding instruction_at instruction_from
none_at_end front = rw (drop_at front [] (length front) refl) refl

pub spelled_are_read : (n : ℕ) (front : List ℕ) (is : List Instruction)
    → AllByRecursion IsSpelled is → length is ≤ n
    → instructions_from n (front ++ bytes_of is) (length front) ≡ placed (length front) is
unfolding instructions_from bytes_of
spelled_are_read zero front [] ok h = refl
spelled_are_read zero front (i ∷ is) ok h = absurd (omega arith)
spelled_are_read (suc n) front [] ok h = rw (none_at_end front) refl
spelled_are_read (suc n) front (i ∷ is) ok h =
    let here : Placed = record {
      place = length front;
      instruction = i;
      next = length front
          + length (spelling i);
    } in
    rw (stands_where_spelled front (bytes_of is) i ok.0)
    (ap (λ (rest : List Placed). here ∷ rest)
    (ap (λ (code : List ℕ). instructions_from n code (length front + length (spelling i)))
    (sym (append_assoc front (spelling i) (bytes_of is)))
    ∙ ap (λ (p : ℕ). instructions_from n ((front ++ spelling i) ++ bytes_of is) p)
    (sym (length-append front (spelling i)))
    ∙ spelled_are_read n (front ++ spelling i) is ok.1 (omega arith)
    ∙ ap (λ (p : ℕ). placed p is) (length-append front (spelling i))))

pub instructions_are : (is : List Instruction) → AllByRecursion IsSpelled is
    → instructions (bytes_of is) ≡ placed 0 is
unfolding instructions
instructions_are is ok = spelled_are_read (length (bytes_of is)) [] is ok (fewer_than_bytes is)

pub end_is : (p : ℕ) (is : List Instruction) → end_of p (placed p is) ≡ p + length (bytes_of is)
unfolding bytes_of
end_is p [] = omega arith
end_is p (i ∷ is) = omega (
  arith,
  end_is (p + length (spelling i)) is,
  length-append (spelling i)
      (bytes_of is),
)

pub all_placed : (f : Instruction → Bool) (p : ℕ) (is : List Instruction)
    → list_all (λ x. f x.instruction) (placed p is) ≡ list_all f is
all_placed f p [] = refl
all_placed f p (i ∷ is) = ap (λ b. f i && b) (all_placed f (p + length (spelling i)) is)
