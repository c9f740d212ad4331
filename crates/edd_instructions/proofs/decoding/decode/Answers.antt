use Rattle.std.proofs.Common.{◌≡◌, ℕ, suc, ◌+◌, ◌∷◌, drop, get_or, sym, subst, arith, drop-cons}
use Rattle.edd_instructions.specs.Decoding.{instruction_at}
use Rattle.edd_instructions.proofs.Lengths.{found_inside, nothing_past}
use Rattle.edd_instructions.proofs.decoding.decode.Goals as goal

pub returns-then-place-code-clause-value : goal.returns-then-place-code-clause-value
returns-then-place-code-clause-value c =
    sym (nothing_past c.args.code.now c.args.place c.if-place-code.true)

pub returns-clause-inside : goal.returns-clause-inside
unfolding instruction_at
returns-clause-inside c =
    let code = c.args.code.now in
    let place = c.args.place in
    let behind : suc place ≡ place + 1 = omega arith in
    let front : drop place code ≡ get_or code place 0 ∷ drop (place + 1) code =
    subst (λ (n : ℕ). drop place code ≡ get_or code place 0 ∷ drop n code) behind
    (drop-cons code place 0 c.if-place-code.false) in
    found_inside code place c.numbered.result (rw front c.numbered.ensures)
