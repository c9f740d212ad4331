-- The slots of a body are those of its first part and those of the others.
use Rattle.std.proofs.Common.{◌≡◌, refl, sym, ap, ◌∙◌, ℕ, ◌+◌, ◌<◌, ◌≤◌, List, [], ◌∷◌, length, map, get_or, drop, arith}
use Rattle.std.proofs.lemmas.List.{drop_more, drop_all}
use Rattle.edd_syntax.specs.declared.reference.Target.{Target}
use Rattle.edd_syntax.specs.Expression.{Expr}
use Rattle.edd_syntax.specs.Statement as tree
use Rattle.edd_syntax.specs.Statement.{Part, Declare, Statement, CaseLabel, DefaultLabel, Declarator, Stmt, Body, body_from, slots_in, slots_of}

abbrev pub slots : List (Part Target) → ℕ
slots ps = slots_in (body_from ps)

split : (x : Part Target) (xs : List (Part Target)) → slots (x ∷ xs) ≡ slots (x ∷ []) + slots xs
unfolding slots_in
split (Declare ds) xs = omega arith
split _ xs = omega arith

pub slots_next : {X : Type 0} (view : X → Part Target) (xs : List X) (i : ℕ) {x : X} → i < length xs
    → x ≡ get_or xs i x
    → slots (map view (drop i xs)) ≡ slots (view x ∷ []) + slots (map view (drop (i + 1) xs))
slots_next view xs i {x} h is =
    ap (λ ys. slots (map view ys)) (drop_more xs i x h)
    ∙ ap (λ y. slots (view y ∷ map view (drop (i + 1) xs))) (sym is)
    ∙ split (view x) (map view (drop (i + 1) xs))

pub slots_end : {X : Type 0} (view : X → Part Target) (xs : List X) (i : ℕ) → length xs ≤ i
    → slots (map view (drop i xs)) ≡ 0
unfolding slots_in
slots_end view xs i h = ap (λ ys. slots (map view ys)) (drop_all i xs h)

pub declare_slots : (ds : List (Declarator Target)) → slots (Declare ds ∷ []) ≡ length ds
unfolding slots_in
declare_slots ds = omega arith

pub statement_slots : (s : Stmt Target) → slots (Statement s ∷ []) ≡ slots_of s
unfolding slots_in
statement_slots s = omega arith

pub case_slots : (label : _) → slots (CaseLabel label ∷ []) ≡ 0
unfolding slots_in
case_slots label = refl

pub default_slots : slots (DefaultLabel ∷ []) ≡ 0
unfolding slots_in
default_slots = refl

pub block_slots : (b : Body Target) → slots_of (tree.Block b) ≡ slots_in b
unfolding slots_of
block_slots b = refl

pub switch_slots : (e : Expr Target) (b : Body Target) → slots_of (tree.Switch e b) ≡ slots_in b
unfolding slots_of
switch_slots e b = refl
