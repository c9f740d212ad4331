use Rattle.std.proofs.Common.{◌≡◌, ◌-◌, ◌^◌, pos, negsuc, neg_ℤ, w64, of_z, sym, ap, ◌∙◌}
use Rattle.std.specs.Prelude.{int_div, Ok}
use Rattle.std.proofs.lemmas.Int.{quot_is}
use Rattle.edd_syntax.specs.TwosComplement.{divide}
use Rattle.edd_instructions.specs.Steps.{width_of}
use Rattle.edd_arithmetic.proofs.Widths.{again, divide_ok, quotient_fits}
use Rattle.edd_arithmetic.proofs.arithmetic.divide.Goals as goal
use Rattle.edd_arithmetic.proofs.arithmetic.divide.Goals.{else-a-least-via-then-a-least+else-b-eqminus1, else-a-least-via-else-a-least}

divides : (c : goal.Joined-else-a-least) → (c.args.a ≡ neg_ℤ (pos (2 ^ (width_of c.args.sort - 1)))
    → c.args.b ≡ negsuc 0 → ⊥) → divide int_div (width_of c.args.sort) c.args.a c.args.b
    ≡ Ok (int_div c.args.a c.args.b)
divides c never = divide_ok int_div (width_of c.args.sort) c.args.a c.args.b
    (λ e. c.if-b-eq0.false (ap (of_z w64) e)) never

value : (c : goal.Joined-else-a-least) → (c.args.a ≡ neg_ℤ (pos (2 ^ (width_of c.args.sort - 1)))
    → c.args.b ≡ negsuc 0 → ⊥)
    → Ok (again (int_div (again c.args.a) (again c.args.b))) ≡ divide int_div (width_of c.args.sort)
    c.args.a c.args.b
value c never = ap Ok (quot_is w64 c.args.a c.args.b c.ranges.a c.ranges.b
    (quotient_fits c.args.sort c.args.a c.args.b c.requires.left c.requires.right
    (divides c never))) ∙ sym (divides c never)

pub returns-else-a-least : goal.returns-else-a-least
returns-else-a-least c = elim c.else-a-least.branch [
  | else-a-least-via-then-a-least+else-b-eqminus1 w ↦ value c
      (λ e f. w.if-b-eqminus1.false (ap (of_z w64) f))
  | else-a-least-via-else-a-least w ↦ value c
      (λ e f. w.if-a-least.false (ap (of_z w64) (e ∙ sym c.least.ensures)))
]
