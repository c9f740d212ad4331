use Rattle.edd_instructions.proofs.UniqueReadings.{unique}
use Rattle.edd_promise.proofs.UnitReads.{read_refused, reads, records_read}
use Rattle.edd_promise.proofs.reading.compiled_attributes_read.Goals as goal

pub returns-clause-read : goal.returns-clause-read
returns-clause-read c = λ text b is ref device records are reading.
    records_read is.accepted.resolved b is.agrees.on_data ref device are records reading

pub returns-clause-refused : goal.returns-clause-refused
returns-clause-refused c = λ text b is ref device fault refused.
    read_refused is.accepted.resolved b is.agrees.on_data ref device fault refused

pub returns-clause-complete : goal.returns-clause-complete
returns-clause-complete c = λ text b is ref device are.
    let there = reads is.accepted.resolved b is.agrees.on_data ref device are in (
      there.0,
      there.1,
      there.2,
      λ other reading. unique b ref device other there.0 reading there.1,
    )
