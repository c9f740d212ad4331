use Rattle.std.proofs.Common.{refl, ◌∙◌, ap, ◌++◌, map, length, arith}
use Rattle.std.specs.List.{flat_map}
use Rattle.edd_syntax.specs.WordsView.{string_of}
use Rattle.edd_image.specs.Strings.{string_bytes}
use Rattle.edd_assembly.specs.Assembly.{string_row_at, string_rows}
use Rattle.edd_assembly.proofs.Appending.{row_appended, rows_done, each_appended, each_done}
use Rattle.edd_assembly.proofs.SectionSplits.{strings_split}
use Rattle.edd_assembly.proofs.strings.string_section.Goals as goal

pub loop-w-preserved : goal.loop-w-preserved
loop-w-preserved c = (
  row_appended string_row_at string_rows string_bytes string_of strings_split
      c.loop-w.section.rows.items _ c.loop-w.section.bytes.items c.loop-w.w-index c.args.words.now
      (omega arith) c.w-item.is c.in_ok-push.ensures.rows c.in_ok-push.ensures.bytes
      c.loop-w.invariant.0,
  each_appended string_bytes string_of c.loop-w.section.bytes.items c.loop-w.w-index
      c.args.words.now (omega arith) c.w-item.is c.in_ok-push.ensures.bytes c.loop-w.invariant.1,
)

pub returns-clause-rows : goal.returns-clause-rows
returns-clause-rows c = rows_done string_row_at string_rows string_bytes string_of strings_split
    c.loop-w.section.rows.items _ (length c.loop-w.section.bytes.items) c.loop-w.w-index
    c.args.words.now (omega arith) refl c.loop-w.invariant.0

pub returns-clause-bytes : goal.returns-clause-bytes
returns-clause-bytes c =
    each_done string_bytes string_of c.loop-w.section.bytes.items c.loop-w.w-index c.args.words.now
    (omega arith) c.loop-w.invariant.1 ∙ ap (λ bs. bs
    ++ flat_map string_bytes (map string_of c.args.words.now)) c.new-section.ensures.bytes
