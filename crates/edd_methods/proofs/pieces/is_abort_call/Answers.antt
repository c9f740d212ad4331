use Rattle.std.proofs.Common.{◌≡◌, ◌∙◌, refl, sym, ap, map, List, [], ◌∷◌, length, true, false, arith}
use Rattle.std.specs.Prelude.{◌==◌, Vec, vec_len}
use Rattle.std.specs.declared.alloc.Global.{Global}
use Rattle.std.proofs.lemmas.Bool.{eqb-true}
use Rattle.edd_syntax.specs.TreeView.{numbered_argument, numbered_expr}
use Rattle.edd_syntax.proofs.TreeRows.{call_is}
use Rattle.edd_methods.proofs.WrittenPieces.{abort_when, no_abort_when}
use Rattle.edd_methods.proofs.pieces.is_abort_call.Goals as goal

counted : {A : Type 0} (v : Vec A Global) → length v.items ≡ vec_len v
counted v = omega (arith, v.ok.0)

none : {A : Type 0} (xs : List A) → (length xs == 0) ≡ true → xs ≡ []
none [] h = refl
none (x ∷ xs) h = absurd (omega (arith, eqb-true (length (x ∷ xs)) 0 h))

some : {A B : Type 0} (f : A → B) (xs : List A) → (length xs == 0) ≡ false → ¬ (map f xs ≡ [])
some f [] h e = absurd cc
some f (x ∷ xs) h e = absurd cc

pub returns-then-is_empty : goal.returns-then-is_empty
returns-then-is_empty c =
    let a = c.in-Call in
    c.is_abort.ensures ∙ abort_when a.function (call_is (λ r. r) c.args.e.now a.at a.function
    a.arguments a.is) (ap (map numbered_argument) (none a.arguments.items
    (ap (λ n. n == 0) (counted a.arguments) ∙ sym c.is_empty.ensures ∙ c.if-is_empty.true)))

pub returns-else-is_empty : goal.returns-else-is_empty
returns-else-is_empty c =
    let a = c.in-Call in
    c.if-is_empty.false ∙ no_abort_when a.function (map numbered_argument a.arguments.items)
    (call_is (λ r. r) c.args.e.now a.at a.function a.arguments a.is)
    (some numbered_argument a.arguments.items (ap (λ n. n == 0) (counted a.arguments)
    ∙ sym c.is_empty.ensures ∙ c.if-is_empty.false))
