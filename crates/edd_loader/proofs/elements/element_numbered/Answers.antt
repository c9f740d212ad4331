use Rattle.std.proofs.Common.{◌≡◌, arith, refl, sym, ap, ◌∙◌}
use Rattle.edd_image.specs.Fields.{element_rows_start}
use Rattle.edd_loader.specs.declared.starts.Starts.{Starts}
use Rattle.edd_loader.proofs.ElementLaws.{image_rises, row_inside, rows_counted, element_missing, element_there}
use Rattle.edd_loader.proofs.RuleOrder.{valid_sections}
use Rattle.edd_loader.proofs.Spaces.{rooms}
use Rattle.edd_loader.proofs.elements.element_numbered.Goals as goal

pub overflow_sub-count : goal.overflow_sub-count
overflow_sub-count c = (rows_counted c.args.bytes.now _ _
    (ap (λ (s : Starts). s.element_rows) c.requires.starts)
    (ap (λ (s : Starts). s.code) c.requires.starts)).0

pub row_with-requires-clause-room : goal.row_with-requires-clause-room
row_with-requires-clause-room c =
    let counted = (rows_counted c.args.bytes.now _ _
    (ap (λ (s : Starts). s.element_rows) c.requires.starts)
    (ap (λ (s : Starts). s.code) c.requires.starts)).1 in
    omega (
      arith,
      rooms _ (valid_sections _ c.requires.valid),
      ap (λ (s : Starts). s.element_rows) c.requires.starts,
      counted,
    )

pub row_with-requires-clause-rising : goal.row_with-requires-clause-rising
row_with-requires-clause-rising c =
    let counted = (rows_counted c.args.bytes.now _ _
    (ap (λ (s : Starts). s.element_rows) c.requires.starts)
    (ap (λ (s : Starts). s.code) c.requires.starts)).1 in
    let start : c.args.starts.element_rows ≡ element_rows_start c.args.bytes.now =
    ap (λ (s : Starts). s.element_rows) c.requires.starts in
    let rises = image_rises c.args.bytes.now c.requires.valid
    (record { below = λ i. (c.type_inv.bytes i).fits }) in
    λ i j lt inside. rw start (rises i j lt (omega (arith, counted, inside)))

pub returns-in_err-found : goal.returns-in_err-found
returns-in_err-found c =
    let counted = (rows_counted c.args.bytes.now _ _
    (ap (λ (s : Starts). s.element_rows) c.requires.starts)
    (ap (λ (s : Starts). s.code) c.requires.starts)).1 in
    c.from_residual.ensures
    ∙ sym (element_missing c.args.bytes.now c.args.array c.args.number
    c.args.starts.element_rows
    (record {
      valid = c.requires.valid;
      are = record { below = λ i. (c.type_inv.bytes i).fits };
      start_is = ap (λ (s : Starts). s.element_rows) c.requires.starts;
      key = c.element_key-key.result;
      key_is = c.element_key-key.ensures;
    })
    (λ i lt same. c.in_err-found.ensures.complete i (omega (arith, counted, lt)) same))

pub element_variable-requires : goal.element_variable-requires
element_variable-requires c =
    let counted = (rows_counted c.args.bytes.now _ _
    (ap (λ (s : Starts). s.element_rows) c.requires.starts)
    (ap (λ (s : Starts). s.code) c.requires.starts)).1 in
    row_inside c.args.bytes.now _ _ c.in_ok-found.found c.requires.valid
    (ap (λ (s : Starts). s.element_rows) c.requires.starts)
    (omega (arith, counted, c.in_ok-found.ensures.inside)) refl

pub returns : goal.returns
returns c =
    let counted = (rows_counted c.args.bytes.now _ _
    (ap (λ (s : Starts). s.element_rows) c.requires.starts)
    (ap (λ (s : Starts). s.code) c.requires.starts)).1 in
    element_there c.args.bytes.now c.args.array c.args.number c.args.starts.element_rows
    (record {
      valid = c.requires.valid;
      are = record { below = λ i. (c.type_inv.bytes i).fits };
      start_is = ap (λ (s : Starts). s.element_rows) c.requires.starts;
      key = c.element_key-key.result;
      key_is = c.element_key-key.ensures;
    })
    c.in_ok-found.found c.element_variable.result
    (omega (arith, counted, c.in_ok-found.ensures.inside)) (omega (arith, c.ranges.number))
    c.in_ok-found.ensures.sound c.element_variable.ensures
