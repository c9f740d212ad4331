use Rattle.edd_embed.specs.Records.{plain_of}
use Rattle.edd_embed.proofs.Writing.{Written}
use Rattle.edd_embed.proofs.records.write_records.Given as goal

abbrev pub invariant-loop-index : goal.invariant-loop-index
invariant-loop-index l = Written plain_of l.records l.initial.room l.room l.index
