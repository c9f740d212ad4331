-- What holds of the expressions of a tree, by the list of them.
use Rattle.std.proofs.Common.{◌^◌, refl, List, [], ◌∷◌, ◌++◌, Option, Some, None}
use Rattle.std.specs.List.{AllByRecursion, flat_map}
use Rattle.edd_syntax.specs.declared.reference.Target.{Target}
use Rattle.edd_syntax.specs.Expression.{Expr}
use Rattle.edd_syntax.specs.Statement.{Declarator, Stmt, Evaluate, Block, If, IfElse, While, Do, For, Switch, Body, Nil, Cons, Declare, Statement}
use Rattle.edd_methods.specs.TreeExpressions.{EachWritten, EachDeclared, Each, EachIn, UnlessAbort, EachSlotOf, HasSlots, EachSlot}
use Rattle.edd_syntax.specs.SubsetRules.{Placed, part_of, optional_part, stmt_expressions, body_expressions}

module _ (P : Expr Target → Type 0) where
  abbrev All : List (Placed Target) → Type 0
  All ps = AllByRecursion (UnlessAbort P) ps

  parted : (ps qs : List (Placed Target)) → All (ps ++ qs) → All ps × All qs
  parted [] qs all = (tt, all)
  parted (p ∷ ps) qs all = let more = parted ps qs all.1 in ((all.0, more.0), more.1)

  written_listed : (e : Option (Expr Target)) → All (optional_part e) → EachWritten P e
  written_listed None all = tt
  written_listed (Some e) all = all.0 refl

  declared_listed : (ds : List (Declarator Target)) → EachSlotOf (2 ^ 8) ds
      → All (flat_map (λ d. optional_part d.value) ds) → EachDeclared P ds
  declared_listed [] slots all = tt
  declared_listed (d ∷ rest) slots all =
      let two = parted (optional_part d.value) (flat_map (λ d. optional_part d.value) rest) all in
      (slots.0, written_listed d.value two.0, declared_listed rest slots.1 two.1)

  mutual
    pub each_listed : (x : Stmt Target) → HasSlots (2 ^ 8) x → All (stmt_expressions x) → Each P x
    each_listed (Evaluate e) slots all = λ is. all.0 is
    each_listed (Block body) slots all = each_in_listed body slots all
    each_listed (If condition first) slots all = (all.0 refl, each_listed first slots all.1)
    each_listed (IfElse condition first otherwise) slots all =
        let two = parted (stmt_expressions first) (stmt_expressions otherwise) all.1 in
        (all.0 refl, each_listed first slots.0 two.0, each_listed otherwise slots.1 two.1)
    each_listed (While condition body) slots all = (all.0 refl, each_listed body slots all.1)
    each_listed (Do body condition) slots all = let two =
        parted (stmt_expressions body) (part_of condition)
        all in (two.1.0 refl, each_listed body slots two.0)
    each_listed (For first condition update body) slots all =
        let one = parted (optional_part first) (optional_part condition
        ++ (optional_part update ++ stmt_expressions body)) all in
        let two = parted (optional_part condition) (optional_part update ++ stmt_expressions body)
        one.1 in
        let three = parted (optional_part update) (stmt_expressions body) two.1 in (
          written_listed first one.0,
          written_listed condition two.0,
          written_listed update three.0,
          each_listed body slots three.1,
        )
    each_listed (Switch on body) slots all = (all.0 refl, each_in_listed body slots all.1)
    each_listed _ slots all = tt

    pub each_in_listed : (b : Body Target) → EachSlot (2 ^ 8) b → All (body_expressions b)
        → EachIn P b
    each_in_listed Nil slots all = tt
    each_in_listed (Cons (Declare ds) rest) slots all =
        let two = parted (flat_map (λ d. optional_part d.value) ds) (body_expressions rest) all in
        (declared_listed ds slots.0 two.0, each_in_listed rest slots.1 two.1)
    each_in_listed (Cons (Statement x) rest) slots all =
        let two = parted (stmt_expressions x) (body_expressions rest) all in
        (each_listed x slots.0 two.0, each_in_listed rest slots.1 two.1)
    each_in_listed (Cons _ rest) slots all = each_in_listed rest slots all
