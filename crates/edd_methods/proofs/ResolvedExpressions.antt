-- What an expression of a method refers to exists, where names have their meaning.
use Rattle.std.proofs.Common.{◌≡◌, refl, sym, ap, subst, ◌∙◌, ℕ, Bool, true, List, [], ◌∷◌, Option, Some, None}
use Rattle.std.specs.Prelude.{nat_lt, find}
use Rattle.std.specs.Str.{bytes_eq}
use Rattle.std.specs.List.{list_all}
use Rattle.std.proofs.lemmas.Option.{same_Some}
use Rattle.std.proofs.lemmas.Bool.{and_parts, and_from}
use Rattle.edd_syntax.specs.declared.numbers.ItemNo.{ItemNo}
use Rattle.edd_syntax.specs.declared.numbers.ItemNo.TheVariants as item_no
use Rattle.edd_syntax.specs.declared.numbers.Kind.{Kind}
use Rattle.edd_syntax.specs.declared.numbers.Kind.TheVariants as kind
use Rattle.edd_syntax.specs.declared.reference.Target.{Target}
use Rattle.edd_syntax.specs.declared.reference.Target.TheVariants.{Local, Item}
use Rattle.edd_syntax.specs.Expression.{Expr, Literal, Decimal, Reference, Indexed, Parentheses, Unary, Binary, Compare, LogicalAnd, LogicalOr, Conditional, Assign, CompoundAssign, Increment, Call, Text, Value, Arguments, Nil, Cons}
use Rattle.edd_syntax.specs.Item.{Description}
use Rattle.edd_syntax.specs.Reference.{Path}
use Rattle.edd_syntax.specs.Resolution.{Scope, array_kinds, array_meant, count_of, item_meant, local_meant, look_up, meaning}
use Rattle.edd_syntax.specs.ResolvedTrees.{Meanings, resolved_by, resolved_expr, resolved_arguments}
use Rattle.edd_syntax.specs.WellFormed.{is_path, is_plain, is_expr, are_arguments}
use Rattle.edd_instructions.specs.declared.unit.Context.{Context}
use Rattle.edd_code.specs.MethodReads.{uses_existing}
use Rattle.edd_syntax.proofs.Existing.{IfSomeTrue, exists_in, found_has, item_meant_exists, mapped}
use Rattle.edd_methods.proofs.ResolvedSlots.{bound}

-- nothing is asked of the name of a function
abbrev pub any : Target → Bool
any t = true

module _ (at : Meanings) (good : Target → Bool) (meant : (p : Path) (t : Target)
    → at.reference p ≡ Some t → good t ≡ true)
    (meant_argument : (name p : Path) (t : Target) → at.argument name p ≡ Some t → good t ≡ true)
    (meant_array : (p : Path) (t : Target) → at.array p ≡ Some t → good t ≡ true) where
  abbrev pub Good : Expr Target → Type 0
  Good e = is_expr good any e ≡ true

  abbrev AreGood : Arguments Target → Type 0
  AreGood arguments = are_arguments good any arguments ≡ true

  -- what a plain reference means is good
  abbrev IsMeant : (Path → Option Target) → Type 0
  IsMeant plain = (p : Path) (t : Target) → plain p ≡ Some t → good t ≡ true

  mutual
    unfolding resolved_by

    good_by : (plain : Path → Option Target) → IsMeant plain → (e : Expr Path) (e' : Expr Target)
        → is_expr is_path is_plain e ≡ true → resolved_by at plain e ≡ Some e' → Good e'
    good_by plain means (Literal value) e' is h = subst Good (same_Some (Literal value) e' h) is
    good_by plain means Decimal e' is h = subst Good (same_Some Decimal e' h) refl
    good_by plain means (Reference from) e' is h = let a = bound (plain from) _ h in
        subst Good (same_Some _ e' a.2) (means from a.0 a.1)
    good_by plain means (Indexed array index) e' is h =
        let are = and_parts _ _ is in
        let a = bound (at.array array) _ h in
        let b = bound (resolved_expr at index) _ a.2 in
        subst Good (same_Some _ e' b.2)
        (and_from _ _ (and_from _ _ (meant_array array a.0 a.1) refl)
        (good_by at.reference meant index b.0 are.1 b.1))
    good_by plain means (Parentheses inner) e' is h = let a =
        bound (resolved_expr at inner) _ h in
        subst Good (same_Some _ e' a.2) (good_by at.reference meant inner a.0 is a.1)
    good_by plain means (Unary op operand) e' is h = let a =
        bound (resolved_expr at operand) _ h in
        subst Good (same_Some _ e' a.2) (good_by at.reference meant operand a.0 is a.1)
    good_by plain means (Binary op left right) e' is h =
        let are = and_parts _ _ is in
        let a = bound (resolved_expr at left) _ h in
        let b = bound (resolved_expr at right) _ a.2 in
        subst Good (same_Some _ e' b.2)
        (and_from _ _ (good_by at.reference meant left a.0 are.0 a.1)
        (good_by at.reference meant right b.0 are.1 b.1))
    good_by plain means (Compare by left right) e' is h =
        let are = and_parts _ _ is in
        let a = bound (resolved_expr at left) _ h in
        let b = bound (resolved_expr at right) _ a.2 in
        subst Good (same_Some _ e' b.2)
        (and_from _ _ (good_by at.reference meant left a.0 are.0 a.1)
        (good_by at.reference meant right b.0 are.1 b.1))
    good_by plain means (LogicalAnd left right) e' is h =
        let are = and_parts _ _ is in
        let a = bound (resolved_expr at left) _ h in
        let b = bound (resolved_expr at right) _ a.2 in
        subst Good (same_Some _ e' b.2)
        (and_from _ _ (good_by at.reference meant left a.0 are.0 a.1)
        (good_by at.reference meant right b.0 are.1 b.1))
    good_by plain means (LogicalOr left right) e' is h =
        let are = and_parts _ _ is in
        let a = bound (resolved_expr at left) _ h in
        let b = bound (resolved_expr at right) _ a.2 in
        subst Good (same_Some _ e' b.2)
        (and_from _ _ (good_by at.reference meant left a.0 are.0 a.1)
        (good_by at.reference meant right b.0 are.1 b.1))
    good_by plain means (Conditional test first second) e' is h =
        let are = and_parts _ _ is in
        let front = and_parts _ _ are.0 in
        let a = bound (resolved_expr at test) _ h in
        let b = bound (resolved_expr at first) _ a.2 in
        let c = bound (resolved_expr at second) _ b.2 in
        subst Good (same_Some _ e' c.2)
        (and_from _ _ (and_from _ _ (good_by at.reference meant test a.0 front.0 a.1)
        (good_by at.reference meant first b.0 front.1 b.1))
        (good_by at.reference meant second c.0 are.1 c.1))
    good_by plain means (Assign to value) e' is h =
        let are = and_parts _ _ is in
        let a = bound (at.reference to) _ h in
        let b = bound (resolved_expr at value) _ a.2 in
        subst Good (same_Some _ e' b.2)
        (and_from _ _ (meant to a.0 a.1) (good_by at.reference meant value b.0 are.1 b.1))
    good_by plain means (CompoundAssign op to value) e' is h =
        let are = and_parts _ _ is in
        let a = bound (at.reference to) _ h in
        let b = bound (resolved_expr at value) _ a.2 in
        subst Good (same_Some _ e' b.2)
        (and_from _ _ (meant to a.0 a.1) (good_by at.reference meant value b.0 are.1 b.1))
    good_by plain means (Increment op to) e' is h = let a =
        bound (at.reference to) _ h in subst Good (same_Some _ e' a.2) (meant to a.0 a.1)
    good_by plain means (Call name arguments) e' is h =
        let are = and_parts _ _ is in
        let a = bound (at.function name) _ h in
        let b = bound (resolved_arguments at (at.argument name) arguments) _ a.2 in
        subst Good (same_Some _ e' b.2)
        (arguments_good (at.argument name) (meant_argument name) arguments b.0 are.1 b.1)

    arguments_good : (plain : Path → Option Target) → IsMeant plain
        → (arguments : Arguments Path) (others : Arguments Target)
        → are_arguments is_path is_plain arguments ≡ true
        → resolved_arguments at plain arguments ≡ Some others → AreGood others
    arguments_good plain means Nil others is h = subst AreGood (same_Some Nil others h) refl
    arguments_good plain means (Cons (Text text) rest) others is h =
        let are = and_parts _ _ is in
        let a = bound (resolved_arguments at plain rest) _ h in
        subst AreGood (same_Some _ others a.2)
        (and_from _ _ are.0 (arguments_good plain means rest a.0 are.1 a.1))
    arguments_good plain means (Cons (Value e) rest) others is h =
        let are = and_parts _ _ is in
        let a = bound (resolved_by at plain e) _ h in
        let b = bound (resolved_arguments at plain rest) _ a.2 in
        subst AreGood (same_Some _ others b.2)
        (and_from _ _ (good_by plain means e a.0 are.0 a.1)
        (arguments_good plain means rest b.0 are.1 b.1))

module _ (at : Meanings) (good : Target → Bool) (meant : (p : Path) (t : Target)
    → at.reference p ≡ Some t → good t ≡ true)
    (meant_argument : (name p : Path) (t : Target) → at.argument name p ≡ Some t → good t ≡ true)
    (meant_array : (p : Path) (t : Target) → at.array p ≡ Some t → good t ≡ true) where
  pub expr_good : (e : Expr Path) (e' : Expr Target) → is_expr is_path is_plain e ≡ true
      → resolved_expr at e ≡ Some e' → is_expr good any e' ≡ true
  expr_good = good_by at good meant meant_argument meant_array at.reference meant

-- ---- references

-- each slot is below a limit
abbrev pub IsBelow : (limit : ℕ) → Scope → Type 0
IsBelow limit scope = list_all (λ entry. nat_lt entry.1 limit) scope ≡ true

module _ (unit : Description Path) (context : Context)
    (variables : count_of kind.Variable unit.items ≡ context.counts.variables)
    (arrays : count_of kind.Array unit.items ≡ context.counts.arrays)
    (methods : count_of kind.Method unit.items ≡ context.counts.methods) where
  item_there : (i : ItemNo) → exists_in unit i ≡ true → uses_existing context (Item i) ≡ true
  item_there (item_no.Variable v) is = ap (λ (n : ℕ). nat_lt v.0 n) (sym variables) ∙ is
  item_there (item_no.Method n) is = ap (λ (m : ℕ). nat_lt n.0 m) (sym methods) ∙ is
  item_there (item_no.Array n) is = ap (λ (m : ℕ). nat_lt n.0 m) (sym arrays) ∙ is
  item_there _ is = refl

  pub meant_there : (kinds : List Kind) (scope : Scope) → IsBelow context.slots scope → (p : Path)
      (t : Target) → meaning unit scope kinds p ≡ Some t → uses_existing context t ≡ true
  meant_there kinds scope below p t h =
      by_slot (look_up p.base scope)
      (mapped (λ entry. entry.1) (λ entry. nat_lt entry.1 context.slots)
      (λ slot. nat_lt slot context.slots) (λ x is. is)
      (find (λ entry. bytes_eq entry.0 p.base) scope)
      (found_has (λ entry. nat_lt entry.1 context.slots) (λ entry. bytes_eq entry.0 p.base) scope
      below))
      h
    where
      local_there : (slot : ℕ) (members : List _) → nat_lt slot context.slots ≡ true
          → local_meant slot members ≡ Some t → uses_existing context t ≡ true
      local_there slot [] is e = subst (λ (t : Target). uses_existing context t ≡ true)
          (same_Some (Local slot) t e) is
      local_there slot (m ∷ rest) is e = absurd (cc e)

      by_slot : (o : Option ℕ) → IfSomeTrue (λ slot. nat_lt slot context.slots) o
          → (elim o as (λ _. Option Target) [
            | Some slot ↦ local_meant slot p.members
            | None ↦ item_meant unit kinds p
          ]) ≡ Some t → uses_existing context t ≡ true
      by_slot None is e =
          let i = item_meant_exists unit kinds p t e in
          subst (λ (t : Target). uses_existing context t ≡ true) (sym i.1) (item_there i.0 i.2)
      by_slot (Some slot) is e = local_there slot p.members (is slot refl) e

  pub array_there : (scope : Scope) (p : Path) (t : Target) → array_meant unit scope p ≡ Some t
      → uses_existing context t ≡ true
  array_there scope p t h = by_slot (look_up p.base scope) h
    where
      by_slot : (o : Option ℕ) → (elim o as (λ _. Option Target) [
        | Some slot ↦ None
        | None ↦ item_meant unit array_kinds p
      ]) ≡ Some t → uses_existing context t ≡ true
      by_slot None e =
          let i = item_meant_exists unit array_kinds p t e in
          subst (λ (t : Target). uses_existing context t ≡ true) (sym i.1) (item_there i.0 i.2)
      by_slot (Some slot) e = absurd (cc e)
