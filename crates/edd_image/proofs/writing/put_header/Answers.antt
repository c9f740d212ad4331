use Rattle.std.proofs.Common.{rules, append_assoc}
use Rattle.std.proofs.lemmas.Result.{IfOk-equal}
use Rattle.edd_image.specs.Layout.{header}
use Rattle.edd_image.proofs.writing.put_header.Goals as goal

pub returns-clause-bytes : goal.returns-clause-bytes
unfolding header
returns-clause-bytes c = search (rules, IfOk-equal, append_assoc)
