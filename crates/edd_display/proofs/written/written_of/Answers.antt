use Rattle.std.proofs.Common.{◌∙◌, ap}
use Rattle.edd_image.specs.Fields.{attribute_count}
use Rattle.edd_loader.proofs.Spaces.{rooms}
use Rattle.edd_loader.proofs.RuleOrder.{has_header, valid_sections}
use Rattle.edd_display.proofs.Masks.{all_written}
use Rattle.edd_display.proofs.written.written_of.Goals as goal

pub attribute_count-rows-requires : goal.attribute_count-rows-requires
attribute_count-rows-requires c =
    has_header c.args.image.now c.bytes-bytes.result.now c.bytes-bytes.ensures.sound
    c.bytes-bytes.ensures.valid

pub note_rows-requires : goal.note_rows-requires
note_rows-requires c =
    rw (c.starts.ensures, c.attribute_count-rows.ensures, c.bytes-bytes.ensures.sound)
    (rooms c.args.image.now (valid_sections c.args.image.now c.bytes-bytes.ensures.valid)).attributes

pub returns-clause-sound : goal.returns-clause-sound
returns-clause-sound c =
    all_written c.args.image.now c.args.kind c.note_rows.new.all.items _ _
    (c.attribute_count-rows.ensures ∙ ap attribute_count c.bytes-bytes.ensures.sound)
    (ap (λ s. s.attribute_rows) c.starts.ensures)
    (rw (c.number.ensures, c.bytes-bytes.ensures.sound) at c.note_rows.ensures.noted)
