-- The bytes of each kind of block.
use Rattle.std.proofs.Common.{◌≡◌, refl, ap, ◌∙◌, ℕ, ◌+◌, List, [], ◌∷◌, ◌++◌}
use Rattle.edd_instructions.specs.declared.instruction.Instruction.{Instruction}
use Rattle.edd_instructions.specs.declared.instruction.Instruction.TheVariants as instruction
use Rattle.edd_instructions.specs.Spelling.{spelling}
use Rattle.edd_code.specs.Blocks.{Block, Nothing, Straight, Then, WhenNotZero, WhenZero, Either, Match, size, target, emitted, bytes_of, bytes_at}
use Rattle.edd_code.proofs.Lines.{bytes_of-append}

bytes_of_more : (i : Instruction) (is : List Instruction) → bytes_of (i ∷ is) ≡ spelling i
    ++ bytes_of is
unfolding bytes_of
bytes_of_more i is = refl

pub none_more : (xs : List ℕ) → xs ++ [] ≡ xs
none_more [] = refl
none_more (x ∷ xs) = ap (λ rest. x ∷ rest) (none_more xs)

-- ---- the bytes of each block

pub bytes_of_nothing : (p : ℕ) → bytes_at p Nothing ≡ []
unfolding bytes_of emitted
bytes_of_nothing p = refl

pub bytes_of_straight : (p : ℕ) (i : Instruction) → bytes_at p (Straight i) ≡ spelling i
unfolding bytes_of emitted
bytes_of_straight p i = none_more (spelling i)

pub bytes_of_then : (p : ℕ) (first second : Block) → bytes_at p (Then first second)
    ≡ bytes_at p first ++ bytes_at (p + size first) second
unfolding emitted
bytes_of_then p first second = bytes_of-append (emitted p first) (emitted (p + size first) second)

pub bytes_of_when_not_zero : (p : ℕ) (body : Block) → bytes_at p (WhenNotZero body)
    ≡ spelling (instruction.JumpIfZero (target (p + (5 + size body)))) ++ bytes_at (p + 5) body
unfolding emitted
bytes_of_when_not_zero p body = bytes_of_more _ _

pub bytes_of_when_zero : (p : ℕ) (body : Block) → bytes_at p (WhenZero body)
    ≡ spelling (instruction.JumpIfNotZero (target (p + (5 + size body)))) ++ bytes_at (p + 5) body
unfolding emitted
bytes_of_when_zero p body = bytes_of_more _ _

-- two parts with a jump over the second between them
two_parts : (opening over : Instruction) (is js : List Instruction)
    → bytes_of (opening ∷ (is ++ (over ∷ js))) ≡ spelling opening
    ++ (bytes_of is ++ (spelling over ++ bytes_of js))
two_parts opening over is js = bytes_of_more opening (is ++ (over ∷ js))
    ∙ ap (λ bytes. spelling opening ++ bytes) (bytes_of-append is (over ∷ js)
    ∙ ap (λ bytes. bytes_of is ++ bytes) (bytes_of_more over js))

pub bytes_of_either : (p : ℕ) (first otherwise : Block) → bytes_at p (Either first otherwise)
    ≡ spelling (instruction.JumpIfZero (target (p + (5 + (size first + 5)))))
    ++ (bytes_at (p + 5) first
    ++ (spelling (instruction.Jump (target (p + (5 + (size first + (5 + size otherwise))))))
    ++ bytes_at (p + (5 + (size first + 5))) otherwise))
unfolding emitted
bytes_of_either p first otherwise = two_parts _ _ _ _

pub bytes_of_match : (p : ℕ) (label : _) (body rest : Block) → bytes_at p (Match label body rest)
    ≡ spelling (instruction.Case label (target (p + (13 + (size rest + 5)))))
    ++ (bytes_at (p + 13) rest
    ++ (spelling (instruction.Jump (target (p + (13 + (size rest + (5 + size body))))))
    ++ bytes_at (p + (13 + (size rest + 5))) body))
unfolding emitted
bytes_of_match p label body rest = two_parts _ _ _ _
