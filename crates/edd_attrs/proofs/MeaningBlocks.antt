-- The block of a conditional results in what the conditional means.
use Rattle.std.proofs.Common.{◌≡◌, refl, sym, ap, subst, ◌∙◌, Bool, true, false, ℤ, List, [], ◌∷◌, ◌++◌, map}
use Rattle.std.specs.Prelude.{Ok, Err, Option}
use Rattle.std.specs.List.{list_all}
use Rattle.std.specs.Ordering.{int_eq}
use Rattle.edd_syntax.specs.declared.numbers.StrNo.{StrNo}
use Rattle.edd_syntax.specs.declared.reference.Target.{Target}
use Rattle.edd_syntax.specs.Expression.{Expr}
use Rattle.edd_syntax.specs.Conditional.{Cond, Value, If, Select, Conds, Nil, Cons, Arms, NoArms, ConsArm, Case, Default}
use Rattle.edd_syntax.specs.AttributeValue.{Trapping, ◌>>=◌, value}
use Rattle.edd_syntax.specs.TwosComplement.{is_zero}
use Rattle.edd_syntax.specs.Device as device
use Rattle.edd_syntax.specs.Words.{Words}
use Rattle.edd_syntax.specs.Attributes as source
use Rattle.edd_syntax.specs.WellFormed.{is_pure_expr, is_cond, are_conds, are_arms, is_label}
use Rattle.edd_instructions.specs.declared.records.Record.{Record}
use Rattle.edd_instructions.specs.declared.instruction.Instruction.TheVariants as instruction
use Rattle.edd_instructions.specs.Steps.{Environment, act}
use Rattle.edd_instructions.specs.Agreement.{SameRecords}
use Rattle.edd_code.specs.Blocks as block
use Rattle.edd_code.specs.Blocks.{Block}
use Rattle.edd_code.specs.Outcomes.{Outcome, Goes, Traps, after_records, and_then, does}
use Rattle.edd_code.specs.Expressions.{expression_block}
use Rattle.edd_code.specs.ExpressionMeaning.{of_value}
use Rattle.edd_attrs.specs.TreeBlocks.{IsCondBlock, IsCondsBlock, IsArmsBlock, IsDefaultBlock, IsLineBlock}
use Rattle.edd_attrs.proofs.GivenRecords.{given, all_given, case_given, default_given}
use Rattle.edd_code.proofs.BothTests.{both_of}

behind_nothing : (o : Outcome) → after_records [] o ≡ o
behind_nothing (Goes records operands) = refl
behind_nothing _ = refl

module _ (string_numbered : StrNo → Option Words) where
  -- the same records, or the same trap
  abbrev pub SameOutcome : Trapping (List source.Record) → Outcome → Type 0
  SameOutcome (Ok xs) o = (rs : List Record) × (o ≡ Goes rs []) × SameRecords string_numbered xs rs
  SameOutcome (Err why) o = o ≡ Traps why

  same_append : (xs ys : List source.Record) (rs ss : List Record)
      → SameRecords string_numbered xs rs → SameRecords string_numbered ys ss
      → SameRecords string_numbered (xs ++ ys) (rs ++ ss)
  same_append [] ys [] ss h k = k
  same_append [] ys (r ∷ rs) ss h k = absurd h
  same_append (x ∷ xs) ys [] ss h k = absurd h
  same_append (x ∷ xs) ys (r ∷ rs) ss h k = (h.0, same_append xs ys rs ss h.1 k)

  module _ (env : Environment) (there : device.Environment) (d : List ℤ)
      (expression_means : (e : Expr Target) (operands : List ℤ)
      → does env d (expression_block e) operands ≡ of_value (value there d e) operands) where
    abbrev Same : Trapping (List source.Record) → Block → Type 0
    Same t b = SameOutcome t (does env d b [])

    -- a block that finds one operand
    abbrev SameWith : ℤ → Trapping (List source.Record) → Block → Type 0
    SameWith a t b = SameOutcome t (does env d b (a ∷ []))

    pub nothing_means : Same (Ok []) block.Nothing
    unfolding does
    nothing_means = ([], refl, tt)

    abbrev after : Trapping (List source.Record) → Trapping (List source.Record)
        → Trapping (List source.Record)
    after t u = t >>= λ xs. u >>= λ ys. Ok (xs ++ ys)

    pub then_means : (t u : Trapping (List source.Record)) (x y : Block) → Same t x → Same u y
        → Same (after t u) (block.Then x y)
    unfolding does
    then_means (Err why) u x y h k = ap (λ o. and_then o (does env d y)) h
    then_means (Ok xs) (Err why) x y h k = ap (λ o. and_then o (does env d y)) h.1
        ∙ ap (after_records h.0) k
    then_means (Ok xs) (Ok ys) x y h k = (
      h.0 ++ k.0,
      ap (λ o. and_then o (does env d y)) h.1 ∙ ap (after_records h.0) k.1,
      same_append xs ys h.0 k.0 h.2 k.2,
    )

    same_on : (t : Trapping (List source.Record)) (o p : Outcome) → o ≡ p → SameOutcome t p
        → SameOutcome t o
    same_on t o p e h = subst (SameOutcome t) (sym e) h

    -- an expression, and after it what takes its value
    on_value : (e : Expr Target) (b : Block) (next : ℤ → Trapping (List source.Record))
        → ((a : ℤ) → SameWith a (next a) b)
        → Same (value there d e >>= next) (block.Then (expression_block e) b)
    unfolding does
    on_value e b next h = here (value there d e) (expression_means e [])
      where
        here : (v : Trapping ℤ) → does env d (expression_block e) [] ≡ of_value v []
            → SameOutcome (v >>= next)
            (and_then (does env d (expression_block e) []) (does env d b))
        here (Err why) is = ap (λ o. and_then o (does env d b)) is
        here (Ok a) is = same_on (next a) _ _ (ap (λ o. and_then o (does env d b)) is
            ∙ behind_nothing (does env d b (a ∷ []))) (h a)

    either_means : (t u : Trapping (List source.Record)) (x y : Block) → Same t x → Same u y
        → (a : ℤ) → SameWith a (elim (is_zero a) [ true ↦ u | false ↦ t ]) (block.Either x y)
    unfolding does
    either_means t u x y h k a = here (is_zero a)
      where
        here : (b : Bool) → SameOutcome (elim b as (λ _. Trapping (List source.Record)) [
          | true ↦ u
          | false ↦ t
        ]) (elim b as (λ _. Outcome) [
          | true ↦ does env d y []
          | false ↦ does env d x []
        ])
        here true = k
        here false = h

    drop_means : (t : Trapping (List source.Record)) (y : Block) → Same t y → (a : ℤ)
        → SameWith a t (block.Then (block.Straight instruction.Pop) y)
    unfolding does act
    drop_means t y h a = same_on t _ _ (behind_nothing (does env d y [])) h

    match_means : (label : ℤ) (t u : Trapping (List source.Record)) (x z : Block) (a : ℤ) → Same t x
        → SameWith a u z → SameWith a (elim (int_eq a label) [ true ↦ t | false ↦ u ])
        (block.Match label x z)
    unfolding does
    match_means label t u x z a h k = here (int_eq a label)
      where
        here : (b : Bool) → SameOutcome (elim b as (λ _. Trapping (List source.Record)) [
          | true ↦ t
          | false ↦ u
        ]) (elim b as (λ _. Outcome) [
          | true ↦ does env d x []
          | false ↦ does env d z (a ∷ [])
        ])
        here true = h
        here false = k

    -- ---- conditionals, whose values give records

    module _ (reads : Target → Bool) {V : Type 0} (of : V → Block → Type 0) (p : V → Bool)
        (gives : V → Trapping (List source.Record))
        (values : (v : V) (b : Block) → of v b → p v ≡ true → Same (gives v) b) where
      abbrev gives_cond : Cond Target V → Trapping (List source.Record)
      gives_cond c = given there d gives c

      abbrev gives_all : Conds Target V → Trapping (List source.Record)
      gives_all c = all_given there d gives c

      abbrev gives_case : ℤ → Arms Target V → Trapping (List source.Record)
          → Trapping (List source.Record)
      gives_case a arms otherwise = case_given there d gives a arms otherwise

      abbrev gives_default : Arms Target V → Trapping (List source.Record)
      gives_default arms = default_given there d gives arms

      mutual
        pub cond_means : (c : Cond Target V) (b : Block) → IsCondBlock of c b
            → is_cond reads reads p c ≡ true → Same (gives_cond c) b
        cond_means (Value v) b is t = values v b is t
        cond_means (If condition first otherwise) b is t =
            let tests = both_of _ (are_conds reads reads p otherwise) t in
            let front = both_of (is_pure_expr reads reads condition) (are_conds reads reads p first)
            tests.0 in
            subst (Same (gives_cond (If condition first otherwise))) (sym is.2)
            (on_value condition (block.Either is.0 is.1)
            (λ a. elim (is_zero a) [ true ↦ gives_all otherwise | false ↦ gives_all first ])
            (either_means (gives_all first) (gives_all otherwise) is.0 is.1
            (conds_mean first is.0 is.3 front.1) (conds_mean otherwise is.1 is.4 tests.1)))
        cond_means (Select on arms) b is t =
            let tests = both_of (is_pure_expr reads reads on) (are_arms reads reads p arms) t in
            let otherwise = default_means arms is.1 is.3 tests.1 in
            subst (Same (gives_cond (Select on arms))) (sym is.2)
            (on_value on is.0 (λ a. gives_case a arms (gives_default arms))
            (λ a. arms_mean a arms (gives_default arms) is.1 otherwise is.0 is.4 tests.1))

        pub conds_mean : (c : Conds Target V) (b : Block) → IsCondsBlock of c b
            → are_conds reads reads p c ≡ true → Same (gives_all c) b
        conds_mean Nil b is t = subst (Same (Ok [])) (sym is) nothing_means
        conds_mean (Cons first rest) b is t =
            let tests = both_of (is_cond reads reads p first) (are_conds reads reads p rest) t in
            subst (Same (gives_all (Cons first rest))) (sym is.2)
            (then_means (gives_cond first) (gives_all rest) is.0 is.1
            (cond_means first is.0 is.3 tests.0) (conds_mean rest is.1 is.4 tests.1))

        default_means : (arms : Arms Target V) (y : Block) → IsDefaultBlock of arms y
            → are_arms reads reads p arms ≡ true → Same (gives_default arms) y
        default_means NoArms y is t = subst (Same (Ok [])) (sym is) nothing_means
        default_means (ConsArm (Case label body) rest) y is t =
            default_means rest y is (both_of _ (are_arms reads reads p rest) t).1
        default_means (ConsArm (Default body) rest) y is t =
            conds_mean body y is (both_of (are_conds reads reads p body)
            (are_arms reads reads p rest) t).0

        arms_mean : (a : ℤ) (arms : Arms Target V) (otherwise : Trapping (List source.Record))
            (y : Block) → Same otherwise y → (b : Block) → IsArmsBlock of y arms b
            → are_arms reads reads p arms ≡ true
            → SameWith a (gives_case a arms otherwise) b
        arms_mean a NoArms otherwise y h b is t = subst (SameWith a otherwise) (sym is)
            (drop_means otherwise y h a)
        arms_mean a (ConsArm (Case label body) rest) otherwise y h b is t =
            let tests = both_of _ (are_arms reads reads p rest) t in
            let front = both_of (is_label label) (are_conds reads reads p body) tests.0 in
            subst (SameWith a (gives_case a (ConsArm (Case label body) rest) otherwise)) (sym is.2)
            (match_means label (gives_all body) (gives_case a rest otherwise) is.0 is.1 a
            (conds_mean body is.0 is.3 front.1)
            (arms_mean a rest otherwise y h is.1 is.4 tests.1))
        arms_mean a (ConsArm (Default body) rest) otherwise y h b is t =
            arms_mean a rest otherwise y h b is
            (both_of (are_conds reads reads p body) (are_arms reads reads p rest) t).1

    -- ---- elements in a line, which give a record each

    module _ {V : Type 0} (of : V → Block → Type 0) (p : V → Bool) (f : V → source.Record)
        (values : (v : V) (b : Block) → of v b → p v ≡ true → Same (Ok (f v ∷ [])) b) where
      pub line_means : (vs : List V) (b : Block) → IsLineBlock of vs b → list_all p vs ≡ true
          → Same (Ok (map f vs)) b
      line_means [] b is t = subst (Same (Ok [])) (sym is) nothing_means
      line_means (v ∷ vs) b is t =
          let tests = both_of (p v) _ t in
          subst (Same (Ok (map f (v ∷ vs)))) (sym is.2)
          (then_means (Ok (f v ∷ [])) (Ok (map f vs)) is.0 is.1 (values v is.0 is.3 tests.0)
          (line_means vs is.1 is.4 tests.1))
