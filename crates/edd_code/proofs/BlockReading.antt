-- Instructions that are spelled are read where they are; so a block is followed wherever its
-- bytes are in a method.
use Rattle.std.proofs.Common.{◌≡◌, sym, ap, subst, ℕ, ◌+◌, ◌<◌, ◌^◌, ℤ, List, [], ◌∷◌, ◌++◌, length, Option, append_assoc, append-nil, length-append}
use Rattle.std.specs.List.{AllByRecursion}
use Rattle.edd_syntax.specs.declared.numbers.StrNo.{StrNo}
use Rattle.edd_syntax.specs.Words.{Words}
use Rattle.edd_syntax.specs.MethodState.{State}
use Rattle.edd_instructions.specs.declared.instruction.Instruction.{Instruction}
use Rattle.edd_instructions.specs.Spelling.{spelling}
use Rattle.edd_instructions.specs.Steps.{Environment}
use Rattle.edd_instructions.specs.Units.{Placed}
use Rattle.edd_instructions.proofs.Spelled.{stands_where_spelled}
use Rattle.edd_code.specs.Blocks.{Block, bytes_of, bytes_at, emitted, size}
use Rattle.edd_code.specs.Flow.{AreSpelled}
use Rattle.edd_code.specs.MethodEffects.{does, CanBeTaken, Comes}
use Rattle.edd_code.proofs.Lines.{placed}
use Rattle.edd_code.proofs.BlockBytes.{AllSpelled, all_spelled}
use Rattle.edd_code.proofs.BlockPlaces.{AllIn, all_in, placed_are}
use Rattle.edd_code.proofs.MethodRuns.{IsRead, block_comes}

pub all_read : (front : List ℕ) (is : List Instruction) (behind : List ℕ) → AllSpelled is
    → AllByRecursion (IsRead (front ++ (bytes_of is ++ behind))) (placed (length front) is)
unfolding bytes_of
all_read front [] behind ok = tt
all_read front (i ∷ is) behind ok =
    let rest = bytes_of is ++ behind in
    let same : front ++ ((spelling i ++ bytes_of is) ++ behind) ≡ front ++ (spelling i ++ rest) =
    ap (λ (bs : List ℕ). front ++ bs) (append_assoc (spelling i) (bytes_of is) behind) in
    subst (λ (code : List ℕ). AllByRecursion (IsRead code) (placed (length front) (i ∷ is)))
    (sym same) (
      stands_where_spelled front rest i ok.0,
      subst (λ (code : List ℕ). AllByRecursion (IsRead code)
          (placed (length front + length (spelling i)) is)) (append_assoc front (spelling i) rest)
          (subst (λ (p : ℕ). AllByRecursion (IsRead ((front ++ spelling i) ++ rest)) (placed p is))
          (length-append front (spelling i)) (all_read (front ++ spelling i) is behind ok.1)),
    )

-- what holds of the instructions from a place on holds of those of the block that is there, and of
-- those after it
pub block_in : (P : Placed → Type 0) (p : ℕ) (b : Block) (after : List Instruction)
    → p + size b < 2 ^ 32 → AllByRecursion P (placed p (emitted p b ++ after))
    → AllIn P p b × AllByRecursion P (placed (p + size b) after)
block_in P p b after small h = all_in P p b (placed (p + size b) after)
    (subst (AllByRecursion P) (placed_are p b after small) h)

pub block_follows : (text : StrNo → Option Words) (env : Environment) (before after : List ℕ)
    (b : Block) (operands : List ℤ) (s : State) → AreSpelled b → length before + size b < 2 ^ 32
    → CanBeTaken env s.answers
    → Comes text env (before ++ (bytes_at (length before) b ++ after)) (length before)
    (length before + size b) operands s (does text env b operands s)
block_follows text env before after b operands s ok small valid =
    let p = length before in
    let code = before ++ (bytes_at p b ++ after) in
    block_comes text env code p b
    (block_in (IsRead code) p b [] small (subst (λ is. AllByRecursion (IsRead code) (placed p is))
    (sym (append-nil (emitted p b)))
    (all_read before (emitted p b) after (all_spelled p b ok)))).0
    operands s valid
