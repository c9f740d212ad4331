-- The block that gives a record of a checked description.
use Rattle.std.proofs.Common.{◌≡◌, refl, sym, ap, subst, ◌∙◌, ◌≤◌, Bool, true, ℤ, List, [], ◌∷◌, length, arith}
use Rattle.std.specs.Prelude.{Ok}
use Rattle.std.specs.List.{AllByRecursion, list_all}
use Rattle.edd_syntax.specs.declared.numbers.Kind.{Kind}
use Rattle.edd_syntax.specs.declared.reference.Target.{Target}
use Rattle.edd_syntax.specs.Item.{Description}
use Rattle.edd_syntax.specs.Resolution.{count_of}
use Rattle.edd_syntax.specs.Words.{Words}
use Rattle.edd_syntax.specs.Attributes as source
use Rattle.edd_instructions.specs.declared.records.Record.{Record}
use Rattle.edd_instructions.specs.declared.records.Record.TheVariants as records
use Rattle.edd_instructions.specs.declared.instruction.Instruction.{Instruction}
use Rattle.edd_instructions.specs.Spelling.{IsSpelled}
use Rattle.edd_instructions.specs.Steps.{Environment, act}
use Rattle.edd_instructions.specs.Agreement.{SameRecord, string_of_table, attribute_context}
use Rattle.edd_code.specs.Blocks.{Block, size}
use Rattle.edd_code.specs.Flow.{AreSpelled, Flows, all_straight, depth_after, may_stand}
use Rattle.edd_code.specs.Outcomes.{Goes, does}
use Rattle.edd_attrs.specs.Code.{giving}
use Rattle.edd_attrs.specs.Records.{is_fine}
use Rattle.edd_attrs.specs.TreeBlocks.{straight_line, IsRecordBlock}
use Rattle.edd_attrs.proofs.RecordOperands.{number_is, record_spelled, record_exists}
use Rattle.edd_attrs.proofs.SoundBlocks.{IsSound}
use Rattle.edd_attrs.proofs.MeaningBlocks.{SameOutcome}
use Rattle.edd_attrs.proofs.RecordOperands.{IsSayable, wrap_small}
use Rattle.edd_code.proofs.BothTests.{both_of}

line_spelled : (is : List Instruction) → AllByRecursion IsSpelled is → AreSpelled (straight_line is)
line_spelled [] h = tt
line_spelled (i ∷ is) h = (h.0, line_spelled is h.1)

line_passes : (f : Instruction → Bool) (is : List Instruction) → list_all f is ≡ true
    → all_straight f (straight_line is) ≡ true
line_passes f [] h = refl
line_passes f (i ∷ is) h = let parts = both_of (f i) (list_all f is) h in rw
    (parts.0, line_passes f is parts.1) refl

record_flows : (r : Record) → IsSayable r → Flows (straight_line (giving r)) 0
record_flows (records.Number z) h =
    ((refl, omega arith, omega arith), ((refl, omega arith, omega arith), tt))
record_flows _ h = ((refl, omega arith, omega arith), tt)

record_even : (r : Record) → depth_after (straight_line (giving r)) 0 ≡ 0
record_even (records.Words s) = refl
record_even _ = refl

pub line_short : (r : Record) → size (straight_line (giving r)) ≤ 13
line_short (records.Words s) = omega arith
line_short _ = omega arith

module _ (env : Environment) (d : List ℤ) where
  record_does : (r : Record) → IsSayable r → does env d (straight_line (giving r)) []
      ≡ Goes (r ∷ []) []
  unfolding does act
  record_does (records.Number z) h =
      subst (λ (y : ℤ). does env d (straight_line (giving (records.Number y))) []
      ≡ Goes (records.Number y ∷ []) []) (sym h.1)
      (ap (λ (y : ℤ). Goes (records.Number y ∷ []) []) (wrap_small h.0 h.2))
  record_does _ h = refl

-- a number is one of 32 bits
module _ (unit : Description Target) (strings : List Words) where
  sayable : (x : source.Record) (r : Record) → is_fine unit x ≡ true
      → SameRecord (string_of_table strings) x r → IsSayable r
  sayable (source.Words w) r fine same = subst IsSayable (sym same.1) tt
  sayable (source.Number z) r fine same = let n = number_is z fine in subst IsSayable
      (sym (same ∙ ap records.Number n.1)) (n.0, refl, n.2)
  sayable (source.Enumerator value text help) r fine same = subst IsSayable (sym same.2) tt
  sayable (source.Response number class text) r fine same = subst IsSayable (sym same.1) tt
  sayable (source.Member name item label help) r fine same = subst IsSayable (sym same.3) tt
  sayable (source.Element number var label help) r fine same = subst IsSayable (sym same.2) tt
  sayable _ r fine same = subst IsSayable (sym same) tt

  pub record_means : (env : Environment) (d : List ℤ) (x : source.Record) (b : Block)
      → is_fine unit x ≡ true → IsRecordBlock (string_of_table strings) x b
      → SameOutcome (string_of_table strings) (Ok (x ∷ [])) (does env d b [])
  record_means env d x b fine is = (
    is.0 ∷ [],
    ap (λ c. does env d c []) is.2
        ∙ record_does env d is.0 (sayable x is.0 fine is.1),
    (is.1, tt),
  )

module _ (unit : Description Target) (few : (k : Kind) → count_of k unit.items ≤ 4096)
    (strings : List Words) (few_strings : length strings ≤ 65535) where
  -- with strings by their numbers in a table that begins with these
  pub record_is_sound : (x : source.Record) (b : Block) → is_fine unit x ≡ true
      → IsRecordBlock (string_of_table strings) x b → IsSound (attribute_context unit strings) b 1
  record_is_sound x b fine is =
      let spelled = record_spelled unit few strings few_strings x is.0 fine is.1 in
      let exist = record_exists unit few strings x is.0 fine is.1 in
      subst (λ c. IsSound (attribute_context unit strings) c 1) (sym is.2) (record {
        flows = record_flows is.0 spelled.1;
        even = record_even is.0;
        spelled = line_spelled (giving is.0) spelled.0;
        exist = line_passes (may_stand (attribute_context unit strings)) (giving is.0) exist;
        short = omega (arith, line_short is.0);
      })
