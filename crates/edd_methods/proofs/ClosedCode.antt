-- Code of statements that is written from its beginning to its end, whose jumps are closed later.
use Rattle.std.proofs.Common.{◌≡◌, refl, sym, ap, ◌∙◌, ℕ, ◌+◌, List, [], ◌∷◌, ◌++◌, length, arith, append_assoc, length-append}
use Rattle.edd_instructions.specs.declared.instruction.Instruction.{Instruction}
use Rattle.edd_instructions.specs.declared.instruction.Instruction.TheVariants as instruction
use Rattle.edd_instructions.specs.Spelling.{spelling}
use Rattle.edd_code.specs.Blocks as blocks
use Rattle.edd_code.specs.Blocks.{Block, target, bytes_of}
use Rattle.edd_code.specs.Closing.{closed}
use Rattle.edd_code.proofs.Closing.{closed_length, part_closed}
use Rattle.edd_code.proofs.Lines.{bytes_of-append}
use Rattle.edd_code.proofs.BlockBytes as block_bytes
use Rattle.edd_methods.specs.Statements.{Code, Plain, Then, Guard, Branch, size, emitted, bytes_at}
use Rattle.edd_methods.proofs.CodeBytes.{code_long}

-- ---- bytes of instructions

pub bytes_of_more : (i : Instruction) (is : List Instruction) → bytes_of (i ∷ is) ≡ spelling i
    ++ bytes_of is
unfolding bytes_of
bytes_of_more i is = refl

pub bytes_of_none : bytes_of [] ≡ []
unfolding bytes_of
bytes_of_none = refl

-- ---- lengths

pub block_long : (c0 : List ℕ) {c1 : List ℕ} (b : Block) → c1 ≡ c0 ++ blocks.bytes_at (length c0) b
    → length c1 ≡ length c0 + blocks.size b
block_long c0 b is = ap length is ∙ omega (
  arith,
  length-append c0 (blocks.bytes_at (length c0) b),
  block_bytes.lengths (length c0) b,
)

pub code_longer : (c0 : List ℕ) {c1 : List ℕ} (out back : ℕ) (c : Code)
    → c1 ≡ c0 ++ bytes_at (length c0) out back c → length c1 ≡ length c0 + size c
code_longer c0 out back c is = ap length is ∙ omega (
  arith,
  length-append c0 (bytes_at (length c0) out back c),
  code_long (length c0) out back c,
)

pub longer : (c0 : List ℕ) {c1 : List ℕ} (part : List ℕ) → c1 ≡ c0 ++ part
    → length c1 ≡ length c0 + length part
longer c0 part is = ap length is ∙ length-append c0 part

-- ---- blocks, and one piece of code after another

pub plain_is : (p out back : ℕ) (b : Block) → bytes_at p out back (Plain b) ≡ blocks.bytes_at p b
unfolding emitted
plain_is p out back b = refl

pub then_is : (p out back : ℕ) (c d : Code) → bytes_at p out back (Then c d) ≡ bytes_at p out back c
    ++ bytes_at (p + size c) out back d
unfolding emitted
then_is p out back c d = bytes_of-append (emitted p out back c) (emitted (p + size c) out back d)

pub then_written : (c0 c1 c2 : List ℕ) (out back : ℕ) (c d : Code)
    → c1 ≡ c0 ++ bytes_at (length c0) out back c → c2 ≡ c1 ++ bytes_at (length c1) out back d
    → c2 ≡ c0 ++ bytes_at (length c0) out back (Then c d)
then_written c0 c1 c2 out back c d one two =
    two ∙ ap (λ n. c1 ++ bytes_at n out back d) (code_longer c0 out back c one)
    ∙ ap (λ code. code ++ bytes_at (length c0 + size c) out back d) one
    ∙ append_assoc c0 (bytes_at (length c0) out back c) (bytes_at (length c0 + size c) out back d)
    ∙ ap (λ bytes. c0 ++ bytes) (sym (then_is (length c0) out back c d))

-- ---- a choice

guard_is : (p out back : ℕ) (test : Block) (c : Code) → bytes_at p out back (Guard test c)
    ≡ blocks.bytes_at p test
    ++ (spelling (instruction.JumpIfZero (target (p + (blocks.size test + (5 + size c)))))
    ++ bytes_at (p + (blocks.size test + 5)) out back c)
unfolding emitted
guard_is p out back test c =
    let a = blocks.size test in
    let leave = instruction.JumpIfZero (target (p + (a + (5 + size c)))) in
    let one = emitted (p + (a + 5)) out back c in
    bytes_of-append (blocks.emitted p test) (leave ∷ one)
    ∙ ap (λ bytes. blocks.bytes_at p test ++ bytes) (bytes_of_more leave one)

pub guard_written : (c0 : List ℕ) {c1 c2 c3 : List ℕ} (out back : ℕ) (test : Block) (c : Code)
    → c1 ≡ c0 ++ blocks.bytes_at (length c0) test → c2 ≡ c1 ++ spelling (instruction.JumpIfZero 0)
    → c3 ≡ c2 ++ bytes_at (length c2) out back c
    → closed c3 (length c1 + 1) ≡ c0 ++ bytes_at (length c0) out back (Guard test c)
guard_written c0 {c1} {c2} {c3} out back test c one two three =
    let p = length c0 in
    let a = blocks.size test in
    let x = bytes_at (length c2) out back c in
    let l1 : length c1 ≡ p + a = block_long c0 test one in
    let l2 : length c2 ≡ p + (a + 5) = longer c1 (spelling (instruction.JumpIfZero 0)) two
    ∙ omega (arith, l1) in
    let l3 : length c3 ≡ p + (a + (5 + size c)) = code_longer c2 out back c three
    ∙ omega (arith, l2) in
    part_closed c1 c2 c3 x _ two three
    ∙ ap (λ code. code ++ (spelling (instruction.JumpIfZero (target (length c3))) ++ x)) one
    ∙ append_assoc c0 (blocks.bytes_at p test) _
    ∙ rw (l2, l3) (ap (λ bytes. c0 ++ bytes) (sym (guard_is p out back test c)))

branch_is : (p out back : ℕ) (test : Block) (c d : Code) → bytes_at p out back (Branch test c d)
    ≡ blocks.bytes_at p test
    ++ (spelling (instruction.JumpIfZero (target (p + (blocks.size test + (5 + (size c + 5))))))
    ++ (bytes_at (p + (blocks.size test + 5)) out back c
    ++ (spelling (instruction.Jump
    (target (p + (blocks.size test + (5 + (size c + (5 + size d)))))))
    ++ bytes_at (p + (blocks.size test + (5 + (size c + 5)))) out back d)))
unfolding emitted
branch_is p out back test c d =
    let a = blocks.size test in
    let r = p + (a + (5 + (size c + 5))) in
    let leave = instruction.JumpIfZero (target r) in
    let skip = instruction.Jump (target (p + (a + (5 + (size c + (5 + size d)))))) in
    let one = emitted (p + (a + 5)) out back c in
    let two = emitted r out back d in
    bytes_of-append (blocks.emitted p test) (leave ∷ (one ++ (skip ∷ two)))
    ∙ ap (λ bytes. blocks.bytes_at p test ++ bytes) (bytes_of_more leave (one ++ (skip ∷ two))
    ∙ ap (λ bytes. spelling leave ++ bytes) (bytes_of-append one (skip ∷ two)
    ∙ ap (λ bytes. bytes_of one ++ bytes) (bytes_of_more skip two)))

pub branch_written : (c0 : List ℕ) {c1 c2 c3 c4 c5 c6 : List ℕ} (out back : ℕ) (test : Block)
    (c d : Code) → c1 ≡ c0 ++ blocks.bytes_at (length c0) test
    → c2 ≡ c1 ++ spelling (instruction.JumpIfZero 0) → c3 ≡ c2 ++ bytes_at (length c2) out back c
    → c4 ≡ c3 ++ spelling (instruction.Jump 0) → c5 ≡ closed c4 (length c1 + 1)
    → c6 ≡ c5 ++ bytes_at (length c5) out back d
    → closed c6 (length c3 + 1) ≡ c0 ++ bytes_at (length c0) out back (Branch test c d)
branch_written c0 {c1} {c2} {c3} {c4} {c5} {c6} out back test c d one two three four five six =
    let p = length c0 in
    let a = blocks.size test in
    let x = bytes_at (length c2) out back c in
    let y = bytes_at (length c5) out back d in
    let l1 : length c1 ≡ p + a = block_long c0 test one in
    let l2 : length c2 ≡ p + (a + 5) = longer c1 (spelling (instruction.JumpIfZero 0)) two
    ∙ omega (arith, l1) in
    let l3 : length c3 ≡ p + (a + (5 + size c)) = code_longer c2 out back c three
    ∙ omega (arith, l2) in
    let l4 : length c4 ≡ p + (a + (5 + (size c + 5))) =
    longer c3 (spelling (instruction.Jump 0)) four ∙ omega (arith, l3) in
    let l5 : length c5 ≡ p + (a + (5 + (size c + 5))) = ap length five
    ∙ closed_length c4 (length c1 + 1) (omega (arith, l1, l4)) ∙ l4 in
    let l6 : length c6 ≡ p + (a + (5 + (size c + (5 + size d)))) = code_longer c5 out back d six
    ∙ omega (arith, l5) in
    let t1 = target (length c4) in
    let fifth : c5 ≡ c1 ++ (spelling (instruction.JumpIfZero t1)
    ++ (x ++ spelling (instruction.Jump 0))) =
    five ∙ part_closed c1 c2 c4 (x ++ spelling (instruction.Jump 0)) _ two
    (four ∙ ap (λ code. code ++ spelling (instruction.Jump 0)) three
    ∙ append_assoc c2 x (spelling (instruction.Jump 0))) in
    let front = c1 ++ (spelling (instruction.JumpIfZero t1) ++ x) in
    let again : c5 ≡ front ++ spelling (instruction.Jump 0) = fifth
    ∙ ap (λ bytes. c1 ++ bytes)
    (sym (append_assoc (spelling (instruction.JumpIfZero t1)) x
    (spelling (instruction.Jump 0))))
    ∙ sym (append_assoc c1 (spelling (instruction.JumpIfZero t1) ++ x)
    (spelling (instruction.Jump 0))) in
    let at : length c3 ≡ length front =
    omega (
      arith,
      l3,
      l1,
      l2,
      length-append c1 (spelling (instruction.JumpIfZero t1) ++ x),
      length-append (spelling (instruction.JumpIfZero t1)) x,
      code_long (length c2) out back c,
    ) in
    ap (λ n. closed c6 (n + 1)) at ∙ part_closed front c5 c6 y _ again six
    ∙ append_assoc c1 (spelling (instruction.JumpIfZero t1) ++ x)
    (spelling (instruction.Jump (target (length c6))) ++ y)
    ∙ ap (λ bytes. c1 ++ bytes) (append_assoc (spelling (instruction.JumpIfZero t1)) x
    (spelling (instruction.Jump (target (length c6))) ++ y))
    ∙ ap (λ code. code ++ (spelling (instruction.JumpIfZero t1)
    ++ (x ++ (spelling (instruction.Jump (target (length c6))) ++ y)))) one
    ∙ append_assoc c0 (blocks.bytes_at p test) _
    ∙ rw (l2, l4, l5, l6) (ap (λ bytes. c0 ++ bytes) (sym (branch_is p out back test c d)))
