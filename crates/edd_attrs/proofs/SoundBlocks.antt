-- The block of a conditional finds its operands, leaves none, names what exists, and is short.
use Rattle.std.proofs.Common.{◌≡◌, refl, sym, ap, subst, ◌∙◌, ℕ, suc, ◌+◌, ◌*◌, ◌≤◌, Bool, true, arith}
use Rattle.std.specs.Prelude.{◌&&◌, max}
use Rattle.std.proofs.Math.Nat.{le-max_left, le-max_right}
use Rattle.edd_syntax.specs.declared.reference.Target.{Target}
use Rattle.edd_syntax.specs.Expression.{Expr}
use Rattle.edd_syntax.specs.Conditional.{Cond, Value, If, Select, Conds, Nil, Cons, Arms, NoArms, ConsArm, Case, Default}
use Rattle.edd_syntax.specs.Size.{nodes, height, cond_nodes, conds_nodes, arms_nodes, cond_height, conds_height, arms_height}
use Rattle.edd_syntax.specs.WellFormed.{is_label, is_pure_expr, is_cond, are_conds, are_arms}
use Rattle.edd_instructions.specs.declared.instruction.Instruction.TheVariants as instruction
use Rattle.edd_instructions.specs.declared.unit.Context.{Context}
use Rattle.edd_instructions.specs.declared.unit.Sort.{Sort}
use Rattle.edd_instructions.specs.declared.unit.Sort.TheVariants.{Attribute, Method}
use Rattle.edd_instructions.specs.Units.{is_allowed}
use Rattle.edd_code.specs.Blocks as block
use Rattle.edd_code.specs.Blocks.{Block, size}
use Rattle.edd_code.specs.Flow.{AreSpelled, Flows, all_straight, depth_after, may_stand}
use Rattle.edd_code.specs.Expressions.{expression_block}
use Rattle.edd_attrs.specs.TreeBlocks.{IsCondBlock, IsCondsBlock, IsArmsBlock, IsDefaultBlock}
use Rattle.edd_attrs.proofs.RecordOperands.{label_fits}
use Rattle.edd_code.proofs.BothTests.{both_of, both_true}

-- what is known of the blocks of expressions
pub record ExpressionFacts (context : Context) (reads : Target → Bool) : Type 0 where
  pub flows : (e : Expr Target) (d : ℕ) → d + height e ≤ 128 → Flows (expression_block e) d
      × (depth_after (expression_block e) d ≡ suc d)
  pub short : (e : Expr Target) → size (expression_block e) ≤ 32 * nodes e
  pub spelled : (e : Expr Target) → is_pure_expr reads reads e ≡ true
      → AreSpelled (expression_block e)
  pub exist : (e : Expr Target) → is_pure_expr reads reads e ≡ true
      → all_straight (may_stand context) (expression_block e) ≡ true

module _ (context : Context) where
  -- a block by itself, of so many nodes
  pub record IsSound (b : Block) (n : ℕ) : Type 0 where
    pub flows : Flows b 0
    pub even : depth_after b 0 ≡ 0
    pub spelled : AreSpelled b
    pub exist : all_straight (may_stand context) b ≡ true
    pub short : size b ≤ 32 * n

  -- a block that takes one operand, of so many bytes
  record TakesOne (b : Block) (n : ℕ) : Type 0 where
    flows : Flows b 1
    even : depth_after b 1 ≡ 0
    spelled : AreSpelled b
    exist : all_straight (may_stand context) b ≡ true
    short : size b ≤ n

  may_be_longer : (b : Block) {m : ℕ} (n : ℕ) → m ≤ n → TakesOne b m → TakesOne b n
  may_be_longer b n le t = record {
    flows = t.flows;
    even = t.even;
    spelled = t.spelled;
    exist = t.exist;
    short = omega (arith, t.short, le);
  }

  pub nothing_sound : (n : ℕ) → IsSound block.Nothing n
  nothing_sound n = record {
    flows = tt;
    even = refl;
    spelled = tt;
    exist = refl;
    short = omega arith;
  }

  pub more_nodes : (b : Block) (m n : ℕ) → m ≤ n → IsSound b m → IsSound b n
  more_nodes b m n le s = record {
    flows = s.flows;
    even = s.even;
    spelled = s.spelled;
    exist = s.exist;
    short = omega (arith, s.short, le);
  }

  pub then_sound : {x : Block} (y : Block) {m n : ℕ} → IsSound x m → IsSound y n
      → IsSound (block.Then x y) (m + n)
  then_sound y s t = record {
    flows = (s.flows, subst (Flows y) (sym s.even) t.flows);
    even = ap (depth_after y) s.even ∙ t.even;
    spelled = (s.spelled, t.spelled);
    exist = both_true s.exist t.exist;
    short = omega (arith, s.short, t.short);
  }

  module _ (reads : Target → Bool) (facts : ExpressionFacts context reads) where
    -- an expression, and after it what takes its value
    on_value : (e : Expr Target) {b : Block} (n : ℕ) → is_pure_expr reads reads e ≡ true
        → height e ≤ 99 → TakesOne b n → n ≤ 32 * (1 + n) → (m : ℕ) → 32 * nodes e + n ≤ 32 * m
        → IsSound (block.Then (expression_block e) b) m
    on_value e {b} n pure low t trivial m few =
        let flows = facts.flows e 0 (omega (arith, low)) in
        record {
          flows = (flows.0, subst (Flows b) (sym flows.1) t.flows);
          even = ap (depth_after b) flows.1 ∙ t.even;
          spelled = (facts.spelled e pure, t.spelled);
          exist = both_true (facts.exist e pure) t.exist;
          short = omega (arith, facts.short e, t.short, few);
        }

    either_takes : (x y : Block) {m n : ℕ} → IsSound x m → IsSound y n
        → TakesOne (block.Either x y) (10 + (32 * m + 32 * n))
    either_takes x y s t = record {
      flows = (
        omega arith,
        omega arith,
        s.flows,
        t.flows,
        t.even ∙ sym s.even,
        omega (arith, s.even),
      );
      even = s.even;
      spelled = (s.spelled, t.spelled);
      exist = both_true s.exist t.exist;
      short = omega (arith, s.short, t.short);
    }

    pop_stands : may_stand context instruction.Pop ≡ true
    pop_stands = in_sort context.sort
      where
        in_sort : (s : Sort) → (is_allowed context.version s instruction.Pop && true) ≡ true
        in_sort Attribute = refl
        in_sort Method = refl

    drop_takes : (y : Block) (n : ℕ) → IsSound y n
        → TakesOne (block.Then (block.Straight instruction.Pop) y) (1 + 32 * n)
    drop_takes y n t = record {
      flows = ((refl, omega arith, omega arith), t.flows);
      even = t.even;
      spelled = (tt, t.spelled);
      exist = both_true pop_stands t.exist;
      short = omega (arith, t.short);
    }

    match_takes : (label : _) (x z : Block) {m : ℕ} (n : ℕ) → is_label label ≡ true → IsSound x m
        → TakesOne z n → TakesOne (block.Match label x z) (18 + (32 * m + n))
    match_takes label x z n fits s t = record {
      flows = (
        omega arith,
        omega arith,
        s.flows,
        t.flows,
        t.even ∙ sym s.even,
        omega (arith, t.even),
      );
      even = s.even;
      spelled = (label_fits label fits, s.spelled, t.spelled);
      exist = both_true s.exist t.exist;
      short = omega (arith, s.short, t.short);
    }

    -- ---- conditionals, whose values are sound

    module _ {V : Type 0} (of : V → Block → Type 0) (p : V → Bool) (h w : V → ℕ)
        (values : (v : V) (b : Block) → of v b → p v ≡ true → 1 + h v ≤ 100 → IsSound b (1 + w v))
      where
        -- the nodes of the CASEs, and of the first DEFAULT
        abbrev case_nodes : Arms Target V → ℕ
        case_nodes NoArms = 0
        case_nodes (ConsArm (Case label body) rest) = 1 + (conds_nodes w body + case_nodes rest)
        case_nodes (ConsArm (Default body) rest) = case_nodes rest

        abbrev default_nodes : Arms Target V → ℕ
        default_nodes NoArms = 0
        default_nodes (ConsArm (Case label body) rest) = default_nodes rest
        default_nodes (ConsArm (Default body) rest) = conds_nodes w body

        parts_of_nodes : (arms : Arms Target V) → case_nodes arms + default_nodes arms
            ≤ arms_nodes w arms
        parts_of_nodes NoArms = omega arith
        parts_of_nodes (ConsArm (Case label body) rest) = omega (arith, parts_of_nodes rest)
        parts_of_nodes (ConsArm (Default body) rest) = omega (arith, parts_of_nodes rest)

        mutual
          pub cond_sound : (c : Cond Target V) (b : Block) → IsCondBlock of c b
              → is_cond reads reads p c ≡ true → cond_height h c ≤ 100 → IsSound b (cond_nodes w c)
          cond_sound (Value v) b is t l = values v b is t l
          cond_sound (If condition first otherwise) b is t l =
              let tests = both_of _ (are_conds reads reads p otherwise) t in
              let front = both_of (is_pure_expr reads reads condition)
              (are_conds reads reads p first)
              tests.0 in
              let inner = max (conds_height h first) (conds_height h otherwise) in
              let x = conds_sound first is.0 is.3 front.1
              (omega (
                arith,
                l,
                le-max_right (height condition) inner,
                le-max_left (conds_height h first) (conds_height h otherwise),
              )) in
              let y = conds_sound otherwise is.1 is.4 tests.1
              (omega (
                arith,
                l,
                le-max_right (height condition) inner,
                le-max_right (conds_height h first) (conds_height h otherwise),
              )) in
              subst (λ c. IsSound c (cond_nodes w (If condition first otherwise))) (sym is.2)
              (on_value condition _ front.0 (omega (arith, l, le-max_left (height condition) inner))
              (either_takes is.0 is.1 x y) (omega arith) _ (omega arith))
          cond_sound (Select on arms) b is t l =
              let tests = both_of (is_pure_expr reads reads on) (are_arms reads reads p arms) t in
              let low : arms_height h arms ≤ 100 =
              omega (arith, l, le-max_right (height on) (arms_height h arms)) in
              let y = default_sound arms is.1 is.3 tests.1 low in
              let x = arms_sound arms is.1 y is.0 is.4 tests.1 low in
              subst (λ c. IsSound c (cond_nodes w (Select on arms))) (sym is.2) (on_value on _
              tests.0 (omega (arith, l, le-max_left (height on) (arms_height h arms))) x
              (omega arith) _ (omega (arith, parts_of_nodes arms)))

          pub conds_sound : (c : Conds Target V) (b : Block) → IsCondsBlock of c b
              → are_conds reads reads p c ≡ true → conds_height h c ≤ 100
              → IsSound b (conds_nodes w c)
          conds_sound Nil b is t l = subst (λ c. IsSound c 0) (sym is) (nothing_sound 0)
          conds_sound (Cons first rest) b is t l =
              let tests = both_of (is_cond reads reads p first) (are_conds reads reads p rest) t in
              subst (λ c. IsSound c (conds_nodes w (Cons first rest))) (sym is.2)
              (then_sound is.1 (cond_sound first is.0 is.3 tests.0 (omega (
                arith,
                l,
                le-max_left (cond_height h first) (conds_height h rest),
              ))) (conds_sound rest is.1 is.4 tests.1
              (omega (arith, l, le-max_right (cond_height h first) (conds_height h rest)))))

          default_sound : (arms : Arms Target V) (y : Block) → IsDefaultBlock of arms y
              → are_arms reads reads p arms ≡ true → arms_height h arms ≤ 100
              → IsSound y (default_nodes arms)
          default_sound NoArms y is t l = subst (λ c. IsSound c 0) (sym is) (nothing_sound 0)
          default_sound (ConsArm (Case label body) rest) y is t l =
              let tests = both_of _ (are_arms reads reads p rest) t in
              default_sound rest y is tests.1
              (omega (arith, l, le-max_right (conds_height h body) (arms_height h rest)))
          default_sound (ConsArm (Default body) rest) y is t l =
              let tests = both_of (are_conds reads reads p body) (are_arms reads reads p rest) t in
              conds_sound body y is tests.0
              (omega (arith, l, le-max_left (conds_height h body) (arms_height h rest)))

          arms_sound : (arms : Arms Target V) (y : Block) {n : ℕ} → IsSound y n → (b : Block)
              → IsArmsBlock of y arms b → are_arms reads reads p arms ≡ true
              → arms_height h arms ≤ 100 → TakesOne b (32 * case_nodes arms + (1 + 32 * n))
          arms_sound NoArms y {n} sound b is t l =
              subst (λ c. TakesOne c (32 * case_nodes NoArms + (1 + 32 * n))) (sym is)
              (may_be_longer _ _ (omega arith) (drop_takes y n sound))
          arms_sound (ConsArm (Case label body) rest) y {n} sound b is t l =
              let tests = both_of _ (are_arms reads reads p rest) t in
              let front = both_of (is_label label) (are_conds reads reads p body) tests.0 in
              let x = conds_sound body is.0 is.3 front.1
              (omega (arith, l, le-max_left (conds_height h body) (arms_height h rest))) in
              let z = arms_sound rest y sound is.1 is.4 tests.1
              (omega (arith, l, le-max_right (conds_height h body) (arms_height h rest))) in
              let whole = match_takes label is.0 is.1 _ front.0 x z in
              subst (λ c. TakesOne c (32 * case_nodes (ConsArm (Case label body) rest)
              + (1 + 32 * n))) (sym is.2) (may_be_longer _ _ (omega arith) whole)
          arms_sound (ConsArm (Default body) rest) y {n} sound b is t l =
              let tests = both_of (are_conds reads reads p body) (are_arms reads reads p rest) t in
              arms_sound rest y sound b is tests.1
              (omega (arith, l, le-max_right (conds_height h body) (arms_height h rest)))
