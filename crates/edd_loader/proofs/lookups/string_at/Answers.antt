use Rattle.std.proofs.Common.{◌≡◌, ◌+◌, ◌*◌, ℕ, List, arith, refl, ap, ◌∙◌}
use Rattle.edd_image.specs.Fields.{string_bytes_start, string_length}
use Rattle.edd_loader.specs.Starts.{starts_in}
use Rattle.edd_loader.specs.declared.starts.Starts.{Starts}
use Rattle.edd_loader.proofs.LookupLaws.{string_value, string_valid, string_inside}
use Rattle.edd_loader.proofs.RuleOrder.{valid_sections}
use Rattle.edd_loader.proofs.Spaces.{rooms}
use Rattle.edd_loader.proofs.lookups.string_at.Goals as goal

at : (b : List ℕ) (starts : Starts) (n : ℕ) {k : ℕ} → starts ≡ starts_in b → n ≡ k
    → starts.strings + n ≡ string_bytes_start b + k
at b starts n s e = ap (λ (s : Starts). s.strings + n) s ∙ ap (λ (k : ℕ). string_bytes_start b + k)
    e

pub string_start-requires : goal.string_start-requires
string_start-requires c = omega (
  arith,
  rooms _ (valid_sections _ c.requires.valid),
  ap (λ (s : Starts). s.string_rows) c.requires.starts,
  c.requires.number,
)

pub string_length-requires : goal.string_length-requires
string_length-requires c = omega (
  arith,
  rooms _ (valid_sections _ c.requires.valid),
  ap (λ (s : Starts). s.string_rows) c.requires.starts,
  c.requires.number,
)

pub overflow_mul-row : goal.overflow_mul-row
overflow_mul-row c = omega (
  arith,
  rooms _ (valid_sections _ c.requires.valid),
  ap (λ (s : Starts). s.string_rows) c.requires.starts,
  c.requires.number,
)

pub overflow_add-row : goal.overflow_add-row
overflow_add-row c = omega (
  arith,
  rooms _ (valid_sections _ c.requires.valid),
  ap (λ (s : Starts). s.string_rows) c.requires.starts,
  c.requires.number,
)

pub overflow_add-from : goal.overflow_add-from
overflow_add-from c =
    let row = c.args.starts.string_rows + 8 * c.args.number in
    let long : string_length c.args.bytes.now row ≡ string_length c.args.bytes.now row = refl in
    let row_is = ap (λ (s : Starts). s.string_rows + 8 * c.args.number) c.requires.starts in
    let from_is = at c.args.bytes.now _ c.string_start.result c.requires.starts
    c.string_start.ensures in
    omega (arith, string_inside _ _ _ _ _ c.requires.valid c.requires.number row_is from_is long)

pub part-requires : goal.part-requires
part-requires c =
    let row_is = ap (λ (s : Starts). s.string_rows + 8 * c.args.number) c.requires.starts in
    let from_is = at c.args.bytes.now _ c.string_start.result c.requires.starts
    c.string_start.ensures in
    string_inside _ _ _ _ _ c.requires.valid c.requires.number row_is from_is
    c.string_length.ensures

pub returns-clause-sound : goal.returns-clause-sound
returns-clause-sound c = string_value c.args.bytes.now _ c.args.number c.requires.valid
    c.requires.number (record {
      row = c.args.starts.string_rows + 8 * c.args.number;
      row_is = ap (λ (s : Starts). s.string_rows + 8 * c.args.number) c.requires.starts;
      from = c.args.starts.strings + c.string_start.result;
      from_is = at c.args.bytes.now _ c.string_start.result c.requires.starts
          c.string_start.ensures;
      long = c.string_length.result;
      long_is = c.string_length.ensures;
      found_is = c.part.ensures;
    })

pub returns-clause-string : goal.returns-clause-string
returns-clause-string c = string_valid c.args.bytes.now _ c.args.number c.requires.valid
    c.requires.number (record {
      row = c.args.starts.string_rows + 8 * c.args.number;
      row_is = ap (λ (s : Starts). s.string_rows + 8 * c.args.number) c.requires.starts;
      from = c.args.starts.strings + c.string_start.result;
      from_is = at c.args.bytes.now _ c.string_start.result c.requires.starts
          c.string_start.ensures;
      long = c.string_length.result;
      long_is = c.string_length.ensures;
      found_is = c.part.ensures;
    })
