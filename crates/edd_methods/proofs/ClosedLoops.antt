-- Loops and switches, whose targets are places modulo 2 ^ 32.
use Rattle.std.proofs.Common.{◌≡◌, refl, sym, ap, ◌∙◌, ℕ, ◌+◌, ℤ, List, [], ◌∷◌, ◌++◌, length, arith, append_assoc, length-append}
use Rattle.std.specs.Prelude.{Option}
use Rattle.std.proofs.Math.Nat.{mod-eq_of_lt}
use Rattle.std.proofs.lemmas.List.{append-nil}
use Rattle.edd_instructions.specs.declared.instruction.Instruction.{Instruction}
use Rattle.edd_instructions.specs.declared.instruction.Instruction.TheVariants as instruction
use Rattle.edd_instructions.specs.Spelling.{spelling}
use Rattle.edd_code.specs.Blocks as blocks
use Rattle.edd_code.specs.Blocks.{Block, target, bytes_of}
use Rattle.edd_code.specs.Closing.{closed}
use Rattle.edd_code.proofs.Closing.{closed_length, part_closed}
use Rattle.edd_code.proofs.Lines.{bytes_of-append}
use Rattle.edd_methods.specs.Statements.{Part, Test, Code, Then, Guard, Branch, Loop, Switch, Break, Continue, Arms, Nil, Statement, Case, Default, part_size, tests_size, size, arms_size, part_emitted, tests_emitted, default_place, emitted, arms_emitted, bytes_at}
use Rattle.edd_methods.specs.Writing.{part_bytes, arms_bytes, cases_at, default_at, default_or, tests_of}
use Rattle.edd_methods.proofs.CodeBytes.{part_long, tests_long, arms_long}
use Rattle.edd_methods.proofs.ClosedCode.{bytes_of_more, bytes_of_none, block_long, code_longer, longer}

-- ---- a target of a target

pub target_again : (n : ℕ) → target (target n) ≡ target n
target_again n = mod-eq_of_lt (omega arith)

part_same : (p o o' : ℕ) (part : Part) → target o ≡ target o'
    → part_bytes p o part ≡ part_bytes p o' part
part_same p o o' (Test b) e =
    ap (λ t. bytes_of (blocks.emitted p b ++ (instruction.JumpIfZero t ∷ []))) e
part_same p o o' _ e = refl

mutual
  unfolding emitted

  code_same : (p o o' b b' : ℕ) (c : Code) → target o ≡ target o' → target b ≡ target b'
      → emitted p o b c ≡ emitted p o' b' c
  code_same p o o' b b' (Then first second) e f =
      rw (code_same p o o' b b' first e f, code_same (p + size first) o o' b b' second e f) refl
  code_same p o o' b b' (Guard test first) e f =
      rw (code_same (p + (blocks.size test + 5)) o o' b b' first e f) refl
  code_same p o o' b b' (Branch test first otherwise) e f =
      let a = blocks.size test in
      rw (
        code_same (p + (a + 5)) o o' b b' first e f,
        code_same (p + (a + (5 + (size first + 5))))
            o o' b b' otherwise e f,
      ) refl
  code_same p o o' b b' (Switch on arms) e f =
      let a = blocks.size on in
      rw (arms_same (p + (a + 10)) (p + (a + 5)) (p + (a + 5)) b b' arms refl f) refl
  code_same p o o' b b' Break e f = ap (λ t. instruction.Jump t ∷ []) e
  code_same p o o' b b' Continue e f = ap (λ t. instruction.Jump t ∷ []) f
  code_same p o o' b b' _ e f = refl

  arms_same : (p o o' b b' : ℕ) (arms : Arms) → target o ≡ target o' → target b ≡ target b'
      → arms_emitted p o b arms ≡ arms_emitted p o' b' arms
  arms_same p o o' b b' Nil e f = refl
  arms_same p o o' b b' (Statement first rest) e f =
      rw (code_same p o o' b b' first e f, arms_same (p + size first) o o' b b' rest e f) refl
  arms_same p o o' b b' (Case label rest) e f = arms_same p o o' b b' rest e f
  arms_same p o o' b b' (Default rest) e f = arms_same p o o' b b' rest e f

-- ---- a loop

pub one_instruction : (i : Instruction) → bytes_of (i ∷ []) ≡ spelling i
one_instruction i = bytes_of_more i [] ∙ ap (λ bytes. spelling i ++ bytes) bytes_of_none
    ∙ append-nil (spelling i)

loop_is : (p out back : ℕ) (front again : Part) (body : Code)
    → bytes_at p out back (Loop front again body)
    ≡ spelling (instruction.Jump (target (p + (10 + part_size again))))
    ++ (spelling (instruction.Jump
    (target (p + (10 + (part_size again + (part_size front + (size body + 5)))))))
    ++ (part_bytes (p + 10) (p + 5) again ++ (part_bytes (p + (10 + part_size again)) (p + 5) front
    ++ (bytes_at (p + (10 + (part_size again + part_size front))) (p + 5) (p + 10) body
    ++ spelling (instruction.Jump (target (p + 10)))))))
unfolding emitted
loop_is p out back front again body =
    let b = part_size again in
    let f = part_size front in
    let enter = instruction.Jump (target (p + (10 + b))) in
    let leave = instruction.Jump (target (p + (10 + (b + (f + (size body + 5)))))) in
    let turn = instruction.Jump (target (p + 10)) in
    let one = part_emitted (p + 10) (p + 5) again in
    let two = part_emitted (p + (10 + b)) (p + 5) front in
    let three = emitted (p + (10 + (b + f))) (p + 5) (p + 10) body in
    bytes_of_more enter (leave ∷ (one ++ (two ++ (three ++ (turn ∷ [])))))
    ∙ ap (λ bytes. spelling enter ++ bytes)
    (bytes_of_more leave (one ++ (two ++ (three ++ (turn ∷ []))))
    ∙ ap (λ bytes. spelling leave ++ bytes) (bytes_of-append one (two ++ (three ++ (turn ∷ [])))
    ∙ ap (λ bytes. bytes_of one ++ bytes) (bytes_of-append two (three ++ (turn ∷ []))
    ∙ ap (λ bytes. bytes_of two ++ bytes) (bytes_of-append three (turn ∷ [])
    ∙ ap (λ bytes. bytes_of three ++ bytes) (one_instruction turn)))))

-- the bytes of its pieces, with the targets of the two jumps in front
abbrev loop_bytes : (t u : ℕ) (x y z j : List ℕ) → List ℕ
loop_bytes t u x y z j = spelling (instruction.Jump t)
    ++ (spelling (instruction.Jump u) ++ (x ++ (y ++ (z ++ j))))

loop_same : {t u t' u' : ℕ} {x y z j x' y' z' j' : List ℕ} → t ≡ t' → u ≡ u' → x ≡ x' → y ≡ y'
    → z ≡ z' → j ≡ j' → loop_bytes t u x y z j ≡ loop_bytes t' u' x' y' z' j'
loop_same {t} {u} {t'} {u'} {x} {y} {z} {j} {x'} {y'} {z'} {j'} et eu ex ey ez ej =
    ap (λ n. loop_bytes n u x y z j) et ∙ ap (λ n. loop_bytes t' n x y z j) eu
    ∙ ap (λ bs. loop_bytes t' u' bs y z j) ex
    ∙ ap (λ bs. loop_bytes t' u' x' bs z j) ey ∙ ap (λ bs. loop_bytes t' u' x' y' bs j) ez
    ∙ ap (λ bs. loop_bytes t' u' x' y' z' bs) ej

pub loop_written : (c0 : List ℕ) {c1 c2 c3 c4 c5 c6 c7 : List ℕ} {out turn : ℕ} (o b : ℕ)
    (front again : Part) (body : Code) → c1 ≡ c0 ++ spelling (instruction.Jump 0)
    → c2 ≡ c1 ++ spelling (instruction.Jump 0) → c3 ≡ c2 ++ part_bytes (length c2) out again
    → c4 ≡ closed c3 (length c0 + 1) → c5 ≡ c4 ++ part_bytes (length c4) out front
    → c6 ≡ c5 ++ bytes_at (length c5) out turn body → c7 ≡ c6 ++ spelling (instruction.Jump turn)
    → out ≡ target (length c1) → turn ≡ target (length c2)
    → closed c7 (length c1 + 1) ≡ c0 ++ bytes_at (length c0) o b (Loop front again body)
loop_written c0 {c1} {c2} {c3} {c4} {c5} {c6} {c7} {out} {turn} o b front again body one two three
    four five six seven out_is turn_is =
    let p = length c0 in
    let s = part_size again in
    let f = part_size front in
    let x = part_bytes (length c2) out again in
    let y = part_bytes (length c4) out front in
    let z = bytes_at (length c5) out turn body in
    let j = spelling (instruction.Jump turn) in
    let l1 : length c1 ≡ p + 5 = longer c0 (spelling (instruction.Jump 0)) one in
    let l2 : length c2 ≡ p + 10 = longer c1 (spelling (instruction.Jump 0)) two
    ∙ omega (arith, l1) in
    let l3 : length c3 ≡ p + (10 + s) = longer c2 x three
    ∙ omega (arith, l2, part_long (length c2) out again) in
    let l4 : length c4 ≡ p + (10 + s) = ap length four
    ∙ closed_length c3 (p + 1) (omega (arith, l3)) ∙ l3 in
    let l5 : length c5 ≡ p + (10 + (s + f)) = longer c4 y five
    ∙ omega (arith, l4, part_long (length c4) out front) in
    let l6 : length c6 ≡ p + (10 + (s + (f + size body))) = code_longer c5 out turn body six
    ∙ omega (arith, l5) in
    let l7 : length c7 ≡ p + (10 + (s + (f + (size body + 5)))) = longer c6 j seven
    ∙ omega (arith, l6) in
    let out_same : target out ≡ target (p + 5) = ap target (out_is ∙ ap target l1)
    ∙ target_again (p + 5) in
    let turn_same : target turn ≡ target (p + 10) = ap target (turn_is ∙ ap target l2)
    ∙ target_again (p + 10) in
    let same_x : x ≡ part_bytes (p + 10) (p + 5) again = ap (λ n. part_bytes n out again) l2
    ∙ part_same (p + 10) out (p + 5) again out_same in
    let same_y : y ≡ part_bytes (p + (10 + s)) (p + 5) front = ap (λ n. part_bytes n out front) l4
    ∙ part_same (p + (10 + s)) out (p + 5) front out_same in
    let same_z : z ≡ bytes_at (p + (10 + (s + f))) (p + 5) (p + 10) body =
    ap (λ n. bytes_at n out turn body) l5
    ∙ ap bytes_of (code_same (p + (10 + (s + f))) out (p + 5) turn (p + 10) body out_same
    turn_same) in
    let same_j : j ≡ spelling (instruction.Jump (target (p + 10))) =
    ap (λ t. spelling (instruction.Jump t)) (turn_is ∙ ap target l2) in
    let t3 = target (length c3) in
    let head = c0 ++ spelling (instruction.Jump t3) in
    let fourth : c4 ≡ c0 ++ (spelling (instruction.Jump t3) ++ (spelling (instruction.Jump 0) ++ x))
    =
    four ∙ part_closed c0 c1 c3 (spelling (instruction.Jump 0) ++ x) _ one
    (three ∙ ap (λ code. code ++ x) two ∙ append_assoc c1 (spelling (instruction.Jump 0)) x) in
    let tail = x ++ (y ++ (z ++ j)) in
    let behind : c4 ≡ (head ++ spelling (instruction.Jump 0)) ++ x = fourth ∙ simp append_assoc in
    let whole : c7 ≡ (head ++ spelling (instruction.Jump 0)) ++ tail =
    seven ∙ ap (λ code. code ++ j)
    (six ∙ ap (λ code. code ++ z) (five ∙ ap (λ code. code ++ y) behind)) ∙ simp append_assoc in
    let at : length c1 ≡ length head =
    omega (arith, l1, length-append c0 (spelling (instruction.Jump t3))) in
    ap (λ n. closed c7 (n + 1)) at ∙ part_closed head (head ++ spelling (instruction.Jump 0)) c7
    tail _ refl whole
    ∙ append_assoc c0 (spelling (instruction.Jump t3))
    (spelling (instruction.Jump (target (length c7))) ++ tail)
    ∙ ap (λ bytes. c0 ++ bytes) (loop_same (ap target l3) (ap target l7) same_x same_y same_z same_j
    ∙ sym (loop_is p o b front again body))

-- ---- a switch

switch_is : (p out back : ℕ) (on : Block) (arms : Arms) → bytes_at p out back (Switch on arms)
    ≡ blocks.bytes_at p on ++ (spelling
    (instruction.Jump (target (p + (blocks.size on + (10 + (arms_size arms + 5))))))
    ++ (spelling (instruction.Jump
    (target (p + (blocks.size on + (10 + (arms_size arms + (5 + (tests_size arms + 6))))))))
    ++ (arms_bytes (p + (blocks.size on + 10)) (p + (blocks.size on + 5)) back arms
    ++ (spelling (instruction.Jump (target (p + (blocks.size on + 5))))
    ++ (bytes_of (tests_emitted (p + (blocks.size on + 10)) arms) ++ (spelling instruction.Pop
    ++ spelling (instruction.Jump
    (target (default_place (p + (blocks.size on + 10)) (p + (blocks.size on + 5)) arms)))))))))
unfolding emitted
switch_is p out back on arms =
    let a = blocks.size on in
    let enter = instruction.Jump (target (p + (a + (10 + (arms_size arms + 5))))) in
    let leave = instruction.Jump
    (target (p + (a + (10 + (arms_size arms + (5 + (tests_size arms + 6))))))) in
    let ends = instruction.Jump (target (p + (a + 5))) in
    let last = instruction.Jump (target (default_place (p + (a + 10)) (p + (a + 5)) arms)) in
    let those = arms_emitted (p + (a + 10)) (p + (a + 5)) back arms in
    let listed = tests_emitted (p + (a + 10)) arms in
    bytes_of-append (blocks.emitted p on)
    (enter ∷ (leave ∷ (those ++ (ends ∷ (listed ++ (instruction.Pop ∷ (last ∷ [])))))))
    ∙ ap (λ bytes. blocks.bytes_at p on ++ bytes)
    (bytes_of_more enter (leave
    ∷ (those ++ (ends ∷ (listed ++ (instruction.Pop ∷ (last ∷ []))))))
    ∙ ap (λ bytes. spelling enter ++ bytes)
    (bytes_of_more leave (those ++ (ends ∷ (listed ++ (instruction.Pop ∷ (last ∷ [])))))
    ∙ ap (λ bytes. spelling leave ++ bytes)
    (bytes_of-append those (ends ∷ (listed ++ (instruction.Pop ∷ (last ∷ []))))
    ∙ ap (λ bytes. bytes_of those ++ bytes)
    (bytes_of_more ends (listed ++ (instruction.Pop ∷ (last ∷ [])))
    ∙ ap (λ bytes. spelling ends ++ bytes) (bytes_of-append listed (instruction.Pop ∷ (last ∷ []))
    ∙ ap (λ bytes. bytes_of listed ++ bytes) (bytes_of_more instruction.Pop (last ∷ [])
    ∙ ap (λ bytes. spelling instruction.Pop ++ bytes) (one_instruction last)))))))

tests_are : (k : ℕ) (arms : Arms) → tests_of (cases_at k arms) ≡ bytes_of (tests_emitted k arms)
tests_are k Nil = sym bytes_of_none
tests_are k (Statement first rest) = tests_are (k + size first) rest
tests_are k (Case label rest) =
    ap (λ bytes. spelling (instruction.Case label (target k)) ++ bytes) (tests_are k rest)
    ∙ sym (bytes_of_more (instruction.Case label (target k)) (tests_emitted k rest))
tests_are k (Default rest) = tests_are k rest

default_is : (k n : ℕ) (arms : Arms) → default_or (target n) (default_at k arms)
    ≡ target (default_place k n arms)
default_is k n (Statement first rest) = default_is (k + size first) n rest
default_is k n (Case label rest) = default_is k n rest
default_is k n _ = refl

-- the bytes of the pieces after the value, with the targets of the two jumps in front
abbrev switch_bytes : (t u : ℕ) (x e y d : List ℕ) → List ℕ
switch_bytes t u x e y d = spelling (instruction.Jump t)
    ++ (spelling (instruction.Jump u) ++ (x ++ (e ++ (y ++ (spelling instruction.Pop ++ d)))))

switch_same : {t u t' u' : ℕ} {x e y d x' e' y' d' : List ℕ} → t ≡ t' → u ≡ u' → x ≡ x' → e ≡ e'
    → y ≡ y' → d ≡ d' → switch_bytes t u x e y d ≡ switch_bytes t' u' x' e' y' d'
switch_same {t} {u} {t'} {u'} {x} {e} {y} {d} {x'} {e'} {y'} {d'} et eu ex ee ey ed =
    ap (λ n. switch_bytes n u x e y d) et ∙ ap (λ n. switch_bytes t' n x e y d) eu
    ∙ ap (λ bs. switch_bytes t' u' bs e y d) ex
    ∙ ap (λ bs. switch_bytes t' u' x' bs y d) ee ∙ ap (λ bs. switch_bytes t' u' x' e' bs d) ey
    ∙ ap (λ bs. switch_bytes t' u' x' e' y' bs) ed

pub switch_written : (c0 : List ℕ) {c1 c2 c3 c4 c5 c6 c7 c8 c9 : List ℕ} {out : ℕ} (o b : ℕ)
    (on : Block) (arms : Arms) {cases : List (ℤ × ℕ)} {default : Option ℕ}
    → c1 ≡ c0 ++ blocks.bytes_at (length c0) on → c2 ≡ c1 ++ spelling (instruction.Jump 0)
    → c3 ≡ c2 ++ spelling (instruction.Jump 0) → c4 ≡ c3 ++ arms_bytes (length c3) out b arms
    → c5 ≡ c4 ++ spelling (instruction.Jump out) → c6 ≡ closed c5 (length c1 + 1)
    → c7 ≡ c6 ++ tests_of cases → c8 ≡ c7 ++ spelling instruction.Pop
    → c9 ≡ c8 ++ spelling (instruction.Jump (default_or out default)) → out ≡ target (length c2)
    → cases ≡ cases_at (length c3) arms → default ≡ default_at (length c3) arms
    → closed c9 (length c2 + 1) ≡ c0 ++ bytes_at (length c0) o b (Switch on arms)
switch_written c0 {c1} {c2} {c3} {c4} {c5} {c6} {c7} {c8} {c9} {out} o b on arms {cases} {default}
    one two three four five six seven eight nine out_is cases_are default_are =
    let p = length c0 in
    let a = blocks.size on in
    let x = arms_bytes (length c3) out b arms in
    let e = spelling (instruction.Jump out) in
    let t = tests_of cases in
    let d = spelling (instruction.Jump (default_or out default)) in
    let l1 : length c1 ≡ p + a = block_long c0 on one in
    let l2 : length c2 ≡ p + (a + 5) = longer c1 (spelling (instruction.Jump 0)) two
    ∙ omega (arith, l1) in
    let l3 : length c3 ≡ p + (a + 10) = longer c2 (spelling (instruction.Jump 0)) three
    ∙ omega (arith, l2) in
    let same_t : t ≡ bytes_of (tests_emitted (p + (a + 10)) arms) =
    ap tests_of (cases_are ∙ ap (λ n. cases_at n arms) l3) ∙ tests_are (p + (a + 10)) arms in
    let l4 : length c4 ≡ p + (a + (10 + arms_size arms)) = longer c3 x four
    ∙ omega (arith, l3, arms_long (length c3) out b arms) in
    let l5 : length c5 ≡ p + (a + (10 + (arms_size arms + 5))) = longer c4 e five
    ∙ omega (arith, l4) in
    let l6 : length c6 ≡ p + (a + (10 + (arms_size arms + 5))) = ap length six
    ∙ closed_length c5 (length c1 + 1) (omega (arith, l1, l5)) ∙ l5 in
    let l7 : length c7 ≡ p + (a + (10 + (arms_size arms + (5 + tests_size arms)))) =
    longer c6 t seven ∙ omega (arith, l6, ap length same_t, tests_long (p + (a + 10)) arms) in
    let l9 : length c9 ≡ p + (a + (10 + (arms_size arms + (5 + (tests_size arms + 6))))) =
    longer c8 d nine ∙ omega (arith, longer c7 (spelling instruction.Pop) eight, l7) in
    let out_same : target out ≡ target (p + (a + 5)) = ap target (out_is ∙ ap target l2)
    ∙ target_again (p + (a + 5)) in
    let same_x : x ≡ arms_bytes (p + (a + 10)) (p + (a + 5)) b arms =
    ap (λ n. arms_bytes n out b arms) l3
    ∙ ap bytes_of (arms_same (p + (a + 10)) out (p + (a + 5)) b b arms out_same refl) in
    let same_e : e ≡ spelling (instruction.Jump (target (p + (a + 5)))) =
    ap (λ n. spelling (instruction.Jump n)) (out_is ∙ ap target l2) in
    let same_d : d ≡ spelling
    (instruction.Jump (target (default_place (p + (a + 10)) (p + (a + 5)) arms))) =
    ap (λ n. spelling (instruction.Jump n))
    (ap (default_or out) (default_are ∙ ap (λ n. default_at n arms) l3)
    ∙ ap (λ n. default_or n (default_at (p + (a + 10)) arms)) (out_is ∙ ap target l2)
    ∙ default_is (p + (a + 10)) (p + (a + 5)) arms) in
    let t5 = target (length c5) in
    let head = c1 ++ spelling (instruction.Jump t5) in
    let inner = spelling (instruction.Jump 0) ++ (x ++ e) in
    let sixth : c6 ≡ c1 ++ (spelling (instruction.Jump t5) ++ inner) =
    six ∙ part_closed c1 c2 c5 inner _ two
    (five ∙ ap (λ code. code ++ e) (four ∙ ap (λ code. code ++ x) three) ∙ simp append_assoc) in
    let tail = x ++ (e ++ (t ++ (spelling instruction.Pop ++ d))) in
    let whole : c9 ≡ (head ++ spelling (instruction.Jump 0)) ++ tail =
    nine ∙ ap (λ code. code ++ d) (eight ∙ ap (λ code. code ++ spelling instruction.Pop)
    (seven ∙ ap (λ code. code ++ t) sixth)) ∙ simp append_assoc in
    let at : length c2 ≡ length head =
    omega (arith, l1, l2, length-append c1 (spelling (instruction.Jump t5))) in
    ap (λ n. closed c9 (n + 1)) at ∙ part_closed head (head ++ spelling (instruction.Jump 0)) c9
    tail _ refl whole
    ∙ append_assoc c1 (spelling (instruction.Jump t5))
    (spelling (instruction.Jump (target (length c9))) ++ tail)
    ∙ ap (λ code. code ++ (spelling (instruction.Jump t5)
    ++ (spelling (instruction.Jump (target (length c9))) ++ tail))) one
    ∙ append_assoc c0 (blocks.bytes_at p on) _
    ∙ ap (λ bytes. c0 ++ (blocks.bytes_at p on ++ bytes))
    (switch_same (ap target l5) (ap target l9) same_x same_e same_t same_d)
    ∙ ap (λ bytes. c0 ++ bytes) (sym (switch_is p o b on arms))
