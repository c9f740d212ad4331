-- The code of conditionals, put together from that of their parts.
use Rattle.std.proofs.Common.{◌≡◌, refl, sym, ap, subst, ◌∙◌, ℕ, ◌+◌, List, ◌++◌, length, arith}
use Rattle.std.specs.Prelude.{Option, Some, None}
use Rattle.std.proofs.lemmas.Grind.{flat_map-append}
use Rattle.edd_syntax.specs.declared.numbers.StrNo.{StrNo}
use Rattle.edd_syntax.specs.declared.reference.Target.{Target}
use Rattle.edd_syntax.specs.Conditional.{Conds, Arm, Arms, NoArms, ConsArm, If, Select, Case, Default, arms_from}
use Rattle.edd_syntax.specs.Expression.{Expr}
use Rattle.edd_syntax.specs.SubsetRules.{values_of}
use Rattle.edd_syntax.specs.Words.{Words}
use Rattle.edd_instructions.specs.declared.instruction.Instruction.TheVariants as instruction
use Rattle.edd_instructions.specs.Agreement.{string_of_table}
use Rattle.edd_instructions.specs.Spelling.{spelling}
use Rattle.edd_code.specs.Blocks.{Block, Nothing, Straight, Then, Either, bytes_at}
use Rattle.edd_code.specs.Closing.{closed}
use Rattle.edd_code.specs.Expressions.{expression_block}
use Rattle.edd_code.proofs.Closing.{either_closed, straight_written}
use Rattle.edd_code.specs.Tables.{GrowsBy, Overflows}
use Rattle.edd_code.specs.Written.{WritesBlock}
use Rattle.edd_attrs.specs.TreeBlocks.{IsCondBlock, IsCondsBlock, IsDefaultBlock}
use Rattle.edd_attrs.specs.Writing.{WritesArms, arms_strings, cond_strings, conds_strings, default_of, headers, holes_of}
use Rattle.edd_attrs.proofs.Flat.{default_within}
use Rattle.edd_attrs.proofs.Among.{block_within, grows_twice, overflows_later, overflows_within, within_left, within_right}
use Rattle.edd_attrs.proofs.Loops.{later_on}
use Rattle.edd_attrs.proofs.Written.{both_blocks, no_block}

module _ {V : Type 0} (strings : V → List Words) (is_block : (StrNo → Option Words) → V → Block
    → Type 0) where
  -- ---- IF

  if_strings : (e : Expr Target) (first otherwise : Conds Target V)
      → cond_strings strings (If e first otherwise) ≡ conds_strings strings first
      ++ conds_strings strings otherwise
  if_strings e first otherwise = flat_map-append strings (values_of first) (values_of otherwise)

  pub if_written : {old mid new : List Words} (before : List ℕ) {c0 c1 c2 c3 c4 c5 after : List ℕ}
      (e : Expr Target) (first otherwise : Conds Target V) {hole end : ℕ}
      → c0 ≡ before ++ bytes_at (length before) (expression_block e)
      → c1 ≡ c0 ++ spelling (instruction.JumpIfZero 0) → hole ≡ length c0 + 1 → WritesBlock old c1
      (conds_strings strings first) (λ numbered b. IsCondsBlock (is_block numbered) first b) mid c2
      → c3 ≡ c2 ++ spelling (instruction.Jump 0) → end ≡ length c2 + 1 → c4 ≡ closed c3 hole
      → WritesBlock mid c4 (conds_strings strings otherwise)
      (λ numbered b. IsCondsBlock (is_block numbered) otherwise b) new c5 → after ≡ closed c5 end
      → WritesBlock old before (cond_strings strings (If e first otherwise))
      (λ numbered b. IsCondBlock (is_block numbered) (If e first otherwise) b) new after
  if_written {mid} {new} before {c0} {c1} {c2} {c3} {c4} {c5} {after} e first otherwise test jump at
      x over at' shut y last = record {
        table = grows_twice x.table y.table (within_left (conds_strings strings first)
            (conds_strings strings otherwise) (if_strings e first otherwise))
            (within_right (conds_strings strings first) (conds_strings strings otherwise)
            (if_strings e first otherwise));
        block = Then (expression_block e) (Either x.block y.block);
        written = both_blocks before (expression_block e) (Either x.block y.block) test (last
            ∙ ap (closed c5) at' ∙ either_closed c0 c1 c2 c3 c4 c5 x.block y.block jump x.written
            over (shut ∙ ap (closed c3) at) y.written);
        is = λ later.
            let e' : new ++ later ≡ mid ++ (y.table.more ++ later) =
            later_on mid y.table.more later y.table.grown in (
              x.block,
              y.block,
              refl,
              subst (λ (t : List Words). IsCondsBlock (is_block (string_of_table t)) first x.block)
                  (sym e') (x.is (y.table.more ++ later)),
              y.is later,
            );
      }

  pub if_overflows : {old : List Words} (e : Expr Target) (first otherwise : Conds Target V)
      → Overflows old (conds_strings strings first)
      → Overflows old (cond_strings strings (If e first otherwise))
  if_overflows {old} e first otherwise over =
      overflows_within old over (within_left (conds_strings strings first)
      (conds_strings strings otherwise) (if_strings e first otherwise))

  pub else_overflows : {old mid : List Words} (e : Expr Target) (first otherwise : Conds Target V)
      → GrowsBy old (conds_strings strings first) mid
      → Overflows mid (conds_strings strings otherwise)
      → Overflows old (cond_strings strings (If e first otherwise))
  else_overflows {old} {mid} e first otherwise grows over =
      overflows_later old mid grows over (within_left (conds_strings strings first) (conds_strings
      strings otherwise) (if_strings e first otherwise)) (within_right (conds_strings strings first)
      (conds_strings strings otherwise) (if_strings e first otherwise))

  -- ---- DEFAULT

  no_default : (numbered : StrNo → Option Words) (arms : Arms Target V) → default_of arms ≡ None
      → IsDefaultBlock (is_block numbered) arms Nothing
  no_default numbered NoArms none = refl
  no_default numbered (ConsArm (Case label body) rest) none = no_default numbered rest none
  no_default numbered (ConsArm (Default body) rest) none = absurd cc

  the_default : (numbered : StrNo → Option Words) (arms : Arms Target V) (body : Conds Target V)
      (b : Block) → default_of arms ≡ Some body → IsCondsBlock (is_block numbered) body b
      → IsDefaultBlock (is_block numbered) arms b
  the_default numbered NoArms body b e h = absurd cc
  the_default numbered (ConsArm (Case label x) rest) body b e h = the_default numbered rest body b e
      h
  the_default numbered (ConsArm (Default x) rest) body b e h = let same : body ≡ x =
      cc in subst (λ (c : Conds Target V). IsCondsBlock (is_block numbered) c b) same h

  pub none_written : (old : List Words) (before : List ℕ) (arms : Arms Target V)
      → default_of arms ≡ None
      → WritesBlock old before (arms_strings strings arms)
      (λ numbered b. IsDefaultBlock (is_block numbered) arms b) old before
  none_written old before arms none =
      block_within {ws = (arms_strings strings arms)} (λ numbered b. IsDefaultBlock
      (is_block numbered) arms b) (no_block old before) (λ w held. absurd (omega (arith, held.1)))
      (λ numbered b is. subst (λ (x : Block). IsDefaultBlock (is_block numbered) arms x) (sym is)
      (no_default numbered arms none))

  pub default_block : (old new : List Words) (before after : List ℕ) (arms : Arms Target V)
      (body : Conds Target V) → default_of arms ≡ Some body
      → WritesBlock old before (conds_strings strings body)
      (λ numbered b. IsCondsBlock (is_block numbered) body b) new after
      → WritesBlock old before (arms_strings strings arms)
      (λ numbered b. IsDefaultBlock (is_block numbered) arms b) new after
  default_block old new before after arms body e w =
      block_within (λ numbered b. IsDefaultBlock (is_block numbered) arms b) w
      (default_within strings arms body e) (λ numbered b h. the_default numbered arms body b e h)

  pub default_overflows : {old : List Words} (arms : Arms Target V) {body : Conds Target V}
      → default_of arms ≡ Some body → Overflows old (conds_strings strings body)
      → Overflows old (arms_strings strings arms)
  default_overflows {old} arms {body} e over =
      overflows_within old over (default_within strings arms body e)

  -- ---- SELECT

  pub select_written : (old mid new : List Words) (before c0 c1 c2 c3 after : List ℕ)
      (e : Expr Target) (arms : List (Arm Target V)) (holes : List (Option ℕ))
      → c0 ≡ before ++ bytes_at (length before) (expression_block e) → c1 ≡ c0 ++ headers arms
      → holes ≡ holes_of (length c0) arms → c2 ≡ c1 ++ spelling instruction.Pop
      → WritesBlock old c2 (arms_strings strings (arms_from arms))
      (λ numbered b. IsDefaultBlock (is_block numbered) (arms_from arms) b) mid c3
      → WritesArms strings is_block mid c3 holes arms new after
      → WritesBlock old before (arms_strings strings (arms_from arms))
      (λ numbered b. IsCondBlock (is_block numbered) (Select e (arms_from arms)) b) new after
  select_written old mid new before c0 c1 c2 c3 after e arms holes test opened at popped x w =
      let rest : Block = Then (Straight instruction.Pop) x.block in
      let third : c3 ≡ (c0 ++ headers arms) ++ bytes_at (length (c0 ++ headers arms)) rest =
      both_blocks (c0 ++ headers arms) (Straight instruction.Pop) x.block (popped
      ∙ ap (λ (code : List ℕ). code ++ spelling instruction.Pop) opened
      ∙ straight_written (c0 ++ headers arms) instruction.Pop) x.written in record {
        table = grows_twice {us = (arms_strings strings (arms_from arms))} x.table w.table
            (λ v held. held) (λ v held. held);
        block = Then (expression_block e) (w.around rest);
        written = both_blocks before (expression_block e) (w.around rest) test
            (w.written c0 rest third at);
        is = λ later.
            let e' : new ++ later ≡ mid ++ (w.table.more ++ later) =
            later_on mid w.table.more later w.table.grown in (
              w.around rest,
              x.block,
              refl,
              subst (λ (t : List Words). IsDefaultBlock (is_block (string_of_table t))
                  (arms_from arms) x.block) (sym e') (x.is (w.table.more ++ later)),
              w.is later x.block rest refl,
            );
      }

  pub select_overflows : {old mid : List Words} {before after : List ℕ} (arms : Arms Target V)
      → WritesBlock old before (arms_strings strings arms)
      (λ numbered b. IsDefaultBlock (is_block numbered) arms b) mid after
      → Overflows mid (arms_strings strings arms) → Overflows old (arms_strings strings arms)
  select_overflows {old} {mid} arms x over =
      overflows_later old mid {us =
      (arms_strings strings arms)} x.table over (λ v held. held) (λ v held. held)

-- the first arm is the DEFAULT, or it is none
pub found_here : {V : Type 0} (arm : Arm Target V) (rest : Arms Target V) {body : Conds Target V}
    → Some body ≡ default_of (ConsArm arm NoArms) → Some body ≡ default_of (ConsArm arm rest)
found_here (Case label x) rest e = absurd cc
found_here (Default x) rest e = e

pub not_here : {V : Type 0} (arm : Arm Target V) (rest : Arms Target V)
    → None ≡ default_of (ConsArm arm NoArms) → default_of (ConsArm arm rest) ≡ default_of rest
not_here (Case label x) rest e = refl
not_here (Default x) rest e = absurd cc
