use Rattle.std.proofs.Common.{◌≡◌, ◌++◌, string_bytes, take}
use Rattle.edd_image.specs.Contents.{contents_in}
use Rattle.edd_display.specs.Records.{records_shown}
use Rattle.edd_display.proofs.records.push_records.Given as goal

abbrev pub invariant-loop-record : goal.invariant-loop-record
invariant-loop-record l =
    string_bytes l.line ≡ string_bytes l.initial.line
    ++ records_shown (contents_in l.page.image.now) l.page.language.now
    (take l.record-index l.records)
