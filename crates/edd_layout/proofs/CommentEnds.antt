-- Where a comment ends.
use Rattle.std.proofs.Common.{◌≡◌, ℕ, zero, suc, ◌+◌, ◌<◌, ◌≤◌, true, false, Bool, List, [], ◌∷◌, length, drop, Some, refl, sym, ap, ◌∙◌, arith}
use Rattle.std.specs.Prelude.{◌==◌, ◌||◌, ◌&&◌, if◌then◌else◌}
use Rattle.std.proofs.lemmas.List.{drop-drop}
use Rattle.std.proofs.lemmas.Bool.{eqb-true}
use Rattle.edd_lexer.specs.Bytes.{begins, behind, in_line, is_blank}
use Rattle.edd_lexer.specs.Gaps.{behind_close}
use Rattle.edd_layout.specs.Comments.{IsComment, SameComments, line, block, blank, nothing, other_blank, begins_block_comment, begins_line_comment}

pub is_line : (n : ℕ) (here : List ℕ) → begins_line_comment here ≡ true
    → drop n here ≡ behind in_line here → IsComment n here
is_line n here begins rest = line begins rest

pub is_block : (n : ℕ) (here : List ℕ) → begins_block_comment here ≡ true
    → Some (drop n (drop 2 here)) ≡ behind_close (drop 2 here) → IsComment (n + 2) here
is_block n here begins rest =
    block begins (sym rest ∙ ap (λ (l : List ℕ). Some l)
    (drop-drop n 2 here ∙ ap (λ (k : ℕ). drop k here) (omega arith)))

by_test : (test : Bool) (b : ℕ) (rest behind_rest : List ℕ) → length behind_rest ≤ length rest
    → length (if test then behind_rest else b ∷ rest) ≤ length (b ∷ rest)
by_test true b rest behind_rest le = omega (arith, le)
by_test false b rest behind_rest le = omega arith

behind_le : (test : ℕ → Bool) (here : List ℕ) → length (behind test here) ≤ length here
behind_le test [] = omega arith
behind_le test (b ∷ rest) = by_test (test b) b rest (behind test rest) (behind_le test rest)

-- a comment of a line goes on behind its first byte
no_end : (b : ℕ) (sharp slash : Bool) → (b == 35) ≡ sharp → (b == 47) ≡ slash
    → (sharp || slash) ≡ true → in_line b ≡ true
no_end b true slash is other one = ap in_line (eqb-true b 35 is)
no_end b false true is other one = ap in_line (eqb-true b 47 other)
no_end b false false is other one = absurd cc

either : (sharp slash star : Bool) → (sharp || (slash && star)) ≡ true → (sharp || slash) ≡ true
either true slash star e = refl
either false true star e = refl
either false false star e = absurd cc

goes_on : (b : ℕ) (rest : List ℕ) → begins_line_comment (b ∷ rest) ≡ true → in_line b ≡ true
goes_on b rest begins_so = no_end b (b == 35) (b == 47) refl refl
    (either (b == 35) (b == 47) (begins (λ c. c == 47) rest) begins_so)

-- it has some bytes
pub line_some : (n : ℕ) (here : List ℕ) → begins_line_comment here ≡ true
    → drop n here ≡ behind in_line here → 0 < n
line_some zero [] begins_so rest = absurd cc
line_some zero (b ∷ here) begins_so rest =
    let on : b ∷ here ≡ behind in_line here =
    rest ∙ ap (λ (t : Bool). if t then behind in_line here else b ∷ here) (goes_on b here begins_so)
    in absurd (omega (arith, ap length on, behind_le in_line here))
line_some (suc n) here begins_so rest = omega arith

-- ---- blanks

-- one more blank
pub one_blank : (b : ℕ) (here there : List ℕ) → is_blank b ≡ true → SameComments here there
    → SameComments (b ∷ here) there
one_blank b here there is same = blank is same

pub one_other_blank : (b : ℕ) (here there : List ℕ) → is_blank b ≡ true → SameComments here there
    → SameComments here (b ∷ there)
one_other_blank b here there is same = other_blank is same

pub both_empty : (here there : List ℕ) → length here ≡ 0 → length there ≡ 0 → SameComments here there
both_empty [] [] e f = nothing
both_empty [] (b ∷ there) e f = absurd cc
both_empty (b ∷ here) there e f = absurd cc
