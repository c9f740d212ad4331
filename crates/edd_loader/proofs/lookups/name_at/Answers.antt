use Rattle.std.proofs.Common.{◌≡◌, ◌+◌, ◌*◌, ℕ, List, arith, refl, ap, ◌∙◌}
use Rattle.edd_image.specs.Fields.{name_bytes_start, name_length}
use Rattle.edd_loader.specs.Starts.{starts_in}
use Rattle.edd_loader.specs.declared.starts.Starts.{Starts}
use Rattle.edd_loader.proofs.LookupLaws.{name_value, name_valid, name_inside}
use Rattle.edd_loader.proofs.RuleOrder.{valid_sections}
use Rattle.edd_loader.proofs.Spaces.{rooms}
use Rattle.edd_loader.proofs.lookups.name_at.Goals as goal

at : (b : List ℕ) (starts : Starts) (n : ℕ) {k : ℕ} → starts ≡ starts_in b → n ≡ k
    → starts.names + n ≡ name_bytes_start b + k
at b starts n s e = ap (λ (s : Starts). s.names + n) s ∙ ap (λ (k : ℕ). name_bytes_start b + k) e

pub name_start-requires : goal.name_start-requires
name_start-requires c = omega (
  arith,
  rooms _ (valid_sections _ c.requires.valid),
  ap (λ (s : Starts). s.name_rows) c.requires.starts,
  c.requires.place,
)

pub name_length-requires : goal.name_length-requires
name_length-requires c = omega (
  arith,
  rooms _ (valid_sections _ c.requires.valid),
  ap (λ (s : Starts). s.name_rows) c.requires.starts,
  c.requires.place,
)

pub overflow_mul-row : goal.overflow_mul-row
overflow_mul-row c = omega (
  arith,
  rooms _ (valid_sections _ c.requires.valid),
  ap (λ (s : Starts). s.name_rows) c.requires.starts,
  c.requires.place,
)

pub overflow_add-row : goal.overflow_add-row
overflow_add-row c = omega (
  arith,
  rooms _ (valid_sections _ c.requires.valid),
  ap (λ (s : Starts). s.name_rows) c.requires.starts,
  c.requires.place,
)

pub overflow_add-from : goal.overflow_add-from
overflow_add-from c =
    let row = c.args.starts.name_rows + 8 * c.args.place in
    let long : name_length c.args.bytes.now row ≡ name_length c.args.bytes.now row = refl in
    let row_is = ap (λ (s : Starts). s.name_rows + 8 * c.args.place) c.requires.starts in
    let from_is = at c.args.bytes.now _ c.name_start.result c.requires.starts c.name_start.ensures
    in
    omega (arith, name_inside _ _ _ _ _ c.requires.valid c.requires.place row_is from_is long)

pub part-requires : goal.part-requires
part-requires c =
    let row_is = ap (λ (s : Starts). s.name_rows + 8 * c.args.place) c.requires.starts in
    let from_is = at c.args.bytes.now _ c.name_start.result c.requires.starts c.name_start.ensures
    in
    name_inside _ _ _ _ _ c.requires.valid c.requires.place row_is from_is c.name_length.ensures

pub returns-clause-sound : goal.returns-clause-sound
returns-clause-sound c = name_value c.args.bytes.now _ c.args.place c.requires.valid
    c.requires.place (record {
      row = c.args.starts.name_rows + 8 * c.args.place;
      row_is = ap (λ (s : Starts). s.name_rows + 8 * c.args.place) c.requires.starts;
      from = c.args.starts.names + c.name_start.result;
      from_is = at c.args.bytes.now _ c.name_start.result c.requires.starts c.name_start.ensures;
      long = c.name_length.result;
      long_is = c.name_length.ensures;
      found_is = c.part.ensures;
    })

pub returns-clause-utf8 : goal.returns-clause-utf8
returns-clause-utf8 c = name_valid c.args.bytes.now _ c.args.place c.requires.valid c.requires.place
    (record {
      row = c.args.starts.name_rows + 8 * c.args.place;
      row_is = ap (λ (s : Starts). s.name_rows + 8 * c.args.place) c.requires.starts;
      from = c.args.starts.names + c.name_start.result;
      from_is = at c.args.bytes.now _ c.name_start.result c.requires.starts c.name_start.ensures;
      long = c.name_length.result;
      long_is = c.name_length.ensures;
      found_is = c.part.ensures;
    })
