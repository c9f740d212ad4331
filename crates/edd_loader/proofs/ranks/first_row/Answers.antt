use Rattle.std.proofs.Common.{◌≡◌, arith}
use Rattle.edd_image.specs.Fields.{attribute_rows_start}
use Rattle.edd_loader.proofs.Spaces.{rooms}
use Rattle.edd_loader.proofs.RisingRows.{image_rises}
use Rattle.edd_loader.proofs.ranks.first_row.Goals as goal

pub attribute_count-count-requires : goal.attribute_count-count-requires
attribute_count-count-requires c = c.requires.sections.header

pub first_from-requires-clause-room : goal.first_from-requires-clause-room
first_from-requires-clause-room c = omega (
  arith,
  rooms _ c.requires.sections,
  c.requires.start,
  c.attribute_count-count.ensures,
)

pub first_from-requires-clause-rising : goal.first_from-requires-clause-rising
first_from-requires-clause-rising c =
    let start : c.args.start ≡ attribute_rows_start c.args.bytes.now =
    c.requires.start in
    let rises = image_rises c.args.bytes.now c.requires.rows
    (record { below = λ i. (c.type_inv.bytes i).fits }) in
    rw (start, c.attribute_count-count.ensures) rises

pub returns : goal.returns
returns c =
    let start : c.args.start ≡ attribute_rows_start c.args.bytes.now =
    c.requires.start in
    record {
      end = omega (arith, c.first_from.ensures.end, c.attribute_count-count.ensures);
      below = rw start at c.first_from.ensures.below;
      above = rw (start, c.attribute_count-count.ensures) at c.first_from.ensures.above;
    }
