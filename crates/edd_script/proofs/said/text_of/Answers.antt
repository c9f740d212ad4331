use Rattle.std.proofs.Common.{◌∙◌, refl, ap, Some}
use Rattle.std.proofs.lemmas.Str.{is_utf8-from_IsUtf8}
use Rattle.edd_cases.specs.Ends.{without_end}
use Rattle.edd_script.proofs.Texts.{no_text}
use Rattle.edd_script.proofs.said.text_of.Goals as goal

pub returns-in-Ok : goal.returns-in-Ok
returns-in-Ok c = rw (is_utf8-from_IsUtf8 _ c.in-Ok.ensures.cases.1)
    (ap Some (c.without_end.ensures ∙ ap without_end c.in-Ok.ensures.cases.0))

pub returns-in-Err : goal.returns-in-Err
returns-in-Err c = rw (no_text _ c.in-Err.ensures.cases.0) refl
