use Rattle.std.proofs.lemmas.Str.{IsUtf8-from_is_utf8}
use Rattle.edd_embed.proofs.Names.{named_utf8}
use Rattle.edd_embed.proofs.lookups.find_item.Goals as goal

pub returns-in-Err-clause-complete : goal.returns-in-Err-clause-complete
returns-in-Err-clause-complete c = λ item named. c.in-Err.ensures.cases.0
    (IsUtf8-from_is_utf8 _ (named_utf8 c.args.image.now item _ c.bytes-bytes.ensures.valid named))
