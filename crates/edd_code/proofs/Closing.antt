-- Code that is written from its beginning to its end, whose jumps are closed later, is the code of
-- a block.
use Rattle.std.proofs.Common.{◌≡◌, refl, sym, ap, ◌∙◌, ℕ, ◌+◌, ◌≤◌, ℤ, List, [], ◌∷◌, ◌++◌, length, take, drop, arith, append_assoc, length-append, length-drop}
use Rattle.std.proofs.lemmas.List.{take_at, drop_at, length-take-le}
use Rattle.edd_instructions.specs.declared.instruction.Instruction.{Instruction}
use Rattle.edd_instructions.specs.declared.instruction.Instruction.TheVariants as instruction
use Rattle.edd_image.specs.Layout.{u32}
use Rattle.edd_instructions.specs.Spelling.{i64, spelling}
use Rattle.edd_code.specs.Blocks.{Block, Nothing, Straight, Then, WhenNotZero, WhenZero, Either, Match, size, target, bytes_at}
use Rattle.edd_code.specs.Closing.{closed}
use Rattle.edd_code.proofs.BlockBytes.{lengths}
use Rattle.edd_code.proofs.PieceBytes.{bytes_of_nothing, bytes_of_straight, bytes_of_then, bytes_of_when_not_zero, bytes_of_when_zero, bytes_of_either, bytes_of_match, none_more}

-- ---- code without jumps

pub nothing_written : (before : List ℕ) → before ≡ before ++ bytes_at (length before) Nothing
nothing_written before = sym (ap (λ bytes. before ++ bytes) (bytes_of_nothing (length before))
    ∙ none_more before)

pub straight_written : (before : List ℕ) (i : Instruction) → before ++ spelling i ≡ before
    ++ bytes_at (length before) (Straight i)
straight_written before i =
    ap (λ bytes. before ++ bytes) (sym (bytes_of_straight (length before) i))

pub length_written : (before : List ℕ) (a : Block) → length (before ++ bytes_at (length before) a)
    ≡ length before + size a
length_written before a = omega (
  arith,
  length-append before (bytes_at (length before) a),
  lengths (length before) a,
)

pub then_written : (before : List ℕ) (a b : Block) → (before ++ bytes_at (length before) a)
    ++ bytes_at (length (before ++ bytes_at (length before) a)) b ≡ before
    ++ bytes_at (length before) (Then a b)
then_written before a b =
    ap (λ place. (before ++ bytes_at (length before) a) ++ bytes_at place b)
    (length_written before a)
    ∙ append_assoc before (bytes_at (length before) a) (bytes_at (length before + size a) b)
    ∙ ap (λ bytes. before ++ bytes) (sym (bytes_of_then (length before) a b))

-- ---- an open target, closed

closes : (code front hollow after : List ℕ) (hole : ℕ) → code ≡ front ++ (hollow ++ after)
    → hole ≡ length front → length hollow ≡ 4 → closed code hole ≡ front
    ++ (u32 (target (length code)) ++ after)
closes code front hollow after hole is at four =
    let kept : take hole code ≡ front = ap (take hole) is ∙ take_at front (hollow ++ after) hole
    (sym at) in
    let cut : code ≡ (front ++ hollow) ++ after = is ∙ sym (append_assoc front hollow after) in
    let left : drop (hole + 4) code ≡ after = ap (drop (hole + 4)) cut
    ∙ drop_at (front ++ hollow) after (hole + 4) (omega (arith, length-append front hollow)) in
    rw (kept, left) refl

-- closed code stays as long
pub closed_length : (code : List ℕ) (hole : ℕ) → hole + 4 ≤ length code → length (closed code hole)
    ≡ length code
closed_length code hole inside =
    omega (
      arith,
      length-append (take hole code) (u32 (target (length code))
          ++ drop (hole + 4) code),
      length-take-le hole code (omega arith),
      length-drop (hole + 4) code,
    )

-- ---- one part that a jump leads over

-- after code, a jump whose target is open, and a part; then the target is closed
pub part_closed : (front c1 c2 part : List ℕ) (op : ℕ) → c1 ≡ front ++ (op ∷ u32 0)
    → c2 ≡ c1 ++ part → closed c2 (length front + 1) ≡ front
    ++ (op ∷ (u32 (target (length c2)) ++ part))
part_closed front c1 c2 part op one two =
    closes c2 (front ++ op ∷ []) (u32 0) part (length front + 1)
    (two ∙ ap (λ code. code ++ part) one ∙ append_assoc front (op ∷ u32 0) part
    ∙ sym (append_assoc front (op ∷ []) (u32 0 ++ part)))
    (omega (arith, length-append front (op ∷ []))) refl
    ∙ append_assoc front (op ∷ []) (u32 (target (length c2)) ++ part)

pub when_not_zero_closed : (before : List ℕ) {c1 c2 : List ℕ} (body : Block)
    → c1 ≡ before ++ spelling (instruction.JumpIfZero 0) → c2 ≡ c1 ++ bytes_at (length c1) body
    → closed c2 (length before + 1) ≡ before ++ bytes_at (length before) (WhenNotZero body)
when_not_zero_closed before {c1} {c2} body one two =
    let l1 : length c1 ≡ length before + 5 = ap length one
    ∙ length-append before (spelling (instruction.JumpIfZero 0)) in
    let l2 : length c2 ≡ length before + (5 + size body) = ap length two
    ∙ omega (arith, length-append c1 (bytes_at (length c1) body), lengths (length c1) body) in
    part_closed before c1 c2 (bytes_at (length c1) body) _ one two
    ∙ ap (λ n. before ++ (spelling (instruction.JumpIfZero (target n))
    ++ bytes_at (length c1) body)) l2
    ∙ ap (λ place. before ++ (spelling
    (instruction.JumpIfZero (target (length before + (5 + size body)))) ++ bytes_at place body))
    l1
    ∙ ap (λ bytes. before ++ bytes) (sym (bytes_of_when_not_zero (length before) body))

pub when_zero_closed : (before : List ℕ) {c1 c2 : List ℕ} (body : Block)
    → c1 ≡ before ++ spelling (instruction.JumpIfNotZero 0) → c2 ≡ c1 ++ bytes_at (length c1) body
    → closed c2 (length before + 1) ≡ before ++ bytes_at (length before) (WhenZero body)
when_zero_closed before {c1} {c2} body one two =
    let l1 : length c1 ≡ length before + 5 = ap length one
    ∙ length-append before (spelling (instruction.JumpIfNotZero 0)) in
    let l2 : length c2 ≡ length before + (5 + size body) = ap length two
    ∙ omega (arith, length-append c1 (bytes_at (length c1) body), lengths (length c1) body) in
    part_closed before c1 c2 (bytes_at (length c1) body) _ one two
    ∙ ap (λ n. before ++ (spelling (instruction.JumpIfNotZero (target n))
    ++ bytes_at (length c1) body)) l2
    ∙ ap (λ place. before ++ (spelling
    (instruction.JumpIfNotZero (target (length before + (5 + size body))))
    ++ bytes_at place body)) l1
    ∙ ap (λ bytes. before ++ bytes) (sym (bytes_of_when_zero (length before) body))

-- ---- two parts, with a jump over the second between them

-- the first target is closed after the jump, the second after the second part
parts_closed : (front c1 c2 c3 c4 c5 x y : List ℕ) (skip hole : ℕ) → c1 ≡ front ++ u32 0
    → c2 ≡ c1 ++ x → c3 ≡ c2 ++ (skip ∷ u32 0) → hole ≡ length front → c4 ≡ closed c3 hole
    → c5 ≡ c4 ++ y
    → closed c5 (length c2 + 1) ≡ front
    ++ (u32 (target (length c3)) ++ (x ++ (skip ∷ (u32 (target (length c5)) ++ y))))
parts_closed front c1 c2 c3 c4 c5 x y skip hole one two three at four five =
    let third : c3 ≡ front ++ (u32 0 ++ (x ++ (skip ∷ u32 0))) =
    three ∙ ap (λ code. code ++ (skip ∷ u32 0)) (two ∙ ap (λ code. code ++ x) one)
    ∙ simp append_assoc in
    let fourth : c4 ≡ front ++ (u32 (target (length c3)) ++ (x ++ (skip ∷ u32 0))) =
    four ∙ closes c3 front (u32 0) (x ++ (skip ∷ u32 0)) hole third at refl in
    let start : List ℕ = (front ++ (u32 (target (length c3)) ++ x)) ++ skip ∷ [] in
    let fifth : c5 ≡ start ++ (u32 0 ++ y) = five ∙ ap (λ code. code ++ y) fourth
    ∙ simp append_assoc in
    let second : length c2 ≡ length front + (4 + length x) =
    ap length (two ∙ ap (λ code. code ++ x) one)
    ∙ omega (arith, length-append (front ++ u32 0) x, length-append front (u32 0)) in
    let place : length c2 + 1 ≡ length start =
    omega (
      arith,
      length-append (front ++ (u32 (target (length c3)) ++ x)) (skip ∷ []),
      length-append front (u32 (target (length c3)) ++ x),
      second,
    ) in
    closes c5 start (u32 0) y (length c2 + 1) fifth place refl ∙ simp append_assoc

-- the same after an opening of one byte and a label, which may be empty
behind_label : (before c1 c2 c3 c4 c5 label x y : List ℕ) (op skip hole : ℕ)
    → c1 ≡ before ++ (op ∷ (label ++ u32 0)) → c2 ≡ c1 ++ x → c3 ≡ c2 ++ (skip ∷ u32 0)
    → hole ≡ length before + (1 + length label) → c4 ≡ closed c3 hole → c5 ≡ c4 ++ y
    → closed c5 (length c2 + 1) ≡ before
    ++ (op ∷ (label ++ (u32 (target (length c3))
    ++ (x ++ (skip ∷ (u32 (target (length c5)) ++ y))))))
behind_label before c1 c2 c3 c4 c5 label x y op skip hole one two three at four five =
    parts_closed (before ++ (op ∷ label)) c1 c2 c3 c4 c5 x y skip hole
    (one ∙ sym (append_assoc before (op ∷ label) (u32 0))) two three
    (omega (arith, at, length-append before (op ∷ label))) four five
    ∙ append_assoc before (op ∷ label) _

pub either_closed : (before c1 c2 c3 c4 c5 : List ℕ) (first otherwise : Block)
    → c1 ≡ before ++ spelling (instruction.JumpIfZero 0) → c2 ≡ c1 ++ bytes_at (length c1) first
    → c3 ≡ c2 ++ spelling (instruction.Jump 0)
    → c4 ≡ closed c3 (length before + 1) → c5 ≡ c4 ++ bytes_at (length c4) otherwise
    → closed c5 (length c2 + 1) ≡ before ++ bytes_at (length before) (Either first otherwise)
either_closed before c1 c2 c3 c4 c5 first otherwise one two three four five =
    let p = length before in
    let l1 : length c1 ≡ p + 5 = ap length one
    ∙ length-append before (spelling (instruction.JumpIfZero 0)) in
    let l2 : length c2 ≡ p + (5 + size first) = ap length two
    ∙ omega (arith, length-append c1 (bytes_at (length c1) first), lengths (length c1) first) in
    let l3 : length c3 ≡ p + (5 + (size first + 5)) = ap length three
    ∙ omega (arith, length-append c2 (spelling (instruction.Jump 0))) in
    let l4 : length c4 ≡ p + (5 + (size first + 5)) = ap length four
    ∙ omega (arith, closed_length c3 (length before + 1) (omega arith)) in
    let l5 : length c5 ≡ p + (5 + (size first + (5 + size otherwise))) = ap length five
    ∙ omega (
      arith,
      length-append c4 (bytes_at (length c4) otherwise),
      lengths (length c4) otherwise,
    ) in
    behind_label before c1 c2 c3 c4 c5 [] (bytes_at (length c1) first)
    (bytes_at (length c4) otherwise) _ _ (length before + 1) one two three refl four five
    ∙ rw (l1, l3, l4, l5) (ap (λ bytes. before ++ bytes) (sym (bytes_of_either p first otherwise)))

pub match_closed : (before c1 c2 c3 c4 c5 : List ℕ) (label : ℤ) (body rest : Block)
    → c1 ≡ before ++ spelling (instruction.Case label 0) → c2 ≡ c1 ++ bytes_at (length c1) rest
    → c3 ≡ c2 ++ spelling (instruction.Jump 0)
    → c4 ≡ closed c3 (length before + 9) → c5 ≡ c4 ++ bytes_at (length c4) body
    → closed c5 (length c2 + 1) ≡ before ++ bytes_at (length before) (Match label body rest)
match_closed before c1 c2 c3 c4 c5 label body rest one two three four five =
    let p = length before in
    let l1 : length c1 ≡ p + 13 = ap length one
    ∙ length-append before (spelling (instruction.Case label 0)) in
    let l2 : length c2 ≡ p + (13 + size rest) = ap length two
    ∙ omega (arith, length-append c1 (bytes_at (length c1) rest), lengths (length c1) rest) in
    let l3 : length c3 ≡ p + (13 + (size rest + 5)) = ap length three
    ∙ omega (arith, length-append c2 (spelling (instruction.Jump 0))) in
    let l4 : length c4 ≡ p + (13 + (size rest + 5)) = ap length four
    ∙ omega (arith, closed_length c3 (length before + 9) (omega arith)) in
    let l5 : length c5 ≡ p + (13 + (size rest + (5 + size body))) = ap length five
    ∙ omega (arith, length-append c4 (bytes_at (length c4) body), lengths (length c4) body) in
    behind_label before c1 c2 c3 c4 c5 (i64 label) (bytes_at (length c1) rest)
    (bytes_at (length c4) body) _ _ (length before + 9) one two three refl four five
    ∙ rw (l1, l3, l4, l5) (ap (λ bytes. before ++ bytes) (sym (bytes_of_match p label body rest)))
