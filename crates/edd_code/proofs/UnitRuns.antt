-- What the unit of a block gives, followed from its first byte.
use Rattle.std.proofs.Common.{◌≡◌, sym, ap, subst, ◌∙◌, ℕ, ◌+◌, ◌<◌, ◌^◌, ℤ, List, [], ◌∷◌, ◌++◌, length, Some, Ok, Err, append_assoc, length-append}
use Rattle.std.specs.List.{AllByRecursion}
use Rattle.edd_syntax.specs.declared.answer.Trap.{Trap}
use Rattle.edd_instructions.specs.declared.records.Record.{Record}
use Rattle.edd_instructions.specs.declared.instruction.Instruction.{Instruction}
use Rattle.edd_instructions.specs.declared.unit.Sort.TheVariants.{Attribute}
use Rattle.edd_instructions.specs.Decoding.{instruction_at}
use Rattle.edd_instructions.specs.Spelling.{spelling}
use Rattle.edd_instructions.specs.Steps.{Environment, opening}
use Rattle.edd_instructions.specs.Reading.{given_within}
use Rattle.edd_instructions.specs.Units.{Placed}
use Rattle.edd_instructions.proofs.Spelled.{stands_where_spelled}
use Rattle.edd_code.specs.Blocks.{Block, size, bytes_of, unit_code}
use Rattle.edd_code.specs.Flow.{AreSpelled, Flows}
use Rattle.edd_code.specs.Outcomes.{Outcome, Goes, Traps, does}
use Rattle.edd_code.proofs.Lines.{placed}
use Rattle.edd_code.proofs.BlockBytes.{AllSpelled}
use Rattle.edd_code.proofs.BlockPlaces.{all_in}
use Rattle.edd_code.proofs.BlockUnits.{in_unit, the_end, listed_in, unit_is, unit_spelled, unit_listed}
use Rattle.edd_code.proofs.BlockRuns.{with_all, with_all-ok, Comes, IsRead, end_step, block_comes}

-- spelled instructions are read where they are
all_read : (front : List ℕ) (is : List Instruction) → AllSpelled is
    → AllByRecursion (λ x. instruction_at (front ++ bytes_of is) x.place
    ≡ Some (x.instruction, x.next)) (placed (length front) is)
unfolding bytes_of
all_read front [] ok = tt
all_read front (i ∷ is) ok = (
  stands_where_spelled front (bytes_of is) i ok.0,
  subst (λ (code : List ℕ). AllByRecursion (λ x. instruction_at code x.place
      ≡ Some (x.instruction, x.next)) (placed (length front + length (spelling i)) is))
      (append_assoc front (spelling i) (bytes_of is))
      (subst (λ (p : ℕ). AllByRecursion (λ x. instruction_at ((front ++ spelling i) ++ bytes_of is)
      x.place ≡ Some (x.instruction, x.next)) (placed p is)) (length-append front (spelling i))
      (all_read (front ++ spelling i) is ok.1)),
)

module _ (env : Environment) (values : List ℤ) (b : Block) (spelled : AreSpelled b)
    (flows : Flows b 0) (small : size b < 2 ^ 31) where
  reads : AllByRecursion (IsRead env (unit_code b) values) (listed_in b)
  reads =
      subst (λ (code : List ℕ). AllByRecursion (λ x. instruction_at code x.place
      ≡ Some (x.instruction, x.next)) (listed_in b)) (sym (unit_is b))
      (subst (λ (xs : List Placed). AllByRecursion
      (λ x. instruction_at (bytes_of (in_unit b)) x.place ≡ Some (x.instruction, x.next)) xs)
      (unit_listed b small)
      (all_read [] (in_unit b) (unit_spelled b spelled)))

  comes : {o : Outcome} → does env values b [] ≡ o
      → Comes env (unit_code b) values 0 (0 + size b) [] o
  comes is =
      subst (λ (x : Outcome). Comes env (unit_code b) values 0 (0 + size b) [] x) is
      (block_comes env (unit_code b) values 0 0 b flows
      (all_in (IsRead env (unit_code b) values) 0 b (the_end b ∷ []) reads).0 [])

  pub unit_goes : (records : List Record) → does env values b [] ≡ Goes records []
      → (n : ℕ) × (given_within n env (opening (record { sort = Attribute; code = unit_code b }) 0
      values) ≡ Some (Ok records))
  unit_goes records is =
      let ending = end_step env (unit_code b) values (0 + size b)
      (all_in (IsRead env (unit_code b) values) 0 b (the_end b ∷ []) reads).1.0 in
      let run = comes is 1 in
      (run.0, run.1 ∙ ap (with_all records) ending ∙ with_all-ok records)

  pub unit_traps : (why : Trap) → does env values b [] ≡ Traps why
      → (n : ℕ) × (given_within n env (opening (record { sort = Attribute; code = unit_code b }) 0
      values) ≡ Some (Err why))
  unit_traps why is = comes is
