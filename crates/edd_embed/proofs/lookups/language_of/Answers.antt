use Rattle.std.proofs.Common.{refl, inl, inr}
use Rattle.std.specs.Str.{is_utf8}
use Rattle.std.proofs.lemmas.Bool.{cases_Bool}
use Rattle.std.proofs.lemmas.Str.{IsUtf8-from_is_utf8, is_utf8-from_IsUtf8}
use Rattle.edd_embed.proofs.lookups.language_of.Goals as goal

pub returns-in-Ok : goal.returns-in-Ok
returns-in-Ok c = rw (is_utf8-from_IsUtf8 c.args.code.now c.in-Ok.ensures.cases.1)
    c.in-Ok.ensures.cases.0

pub returns-in-Err : goal.returns-in-Err
returns-in-Err c = elim (cases_Bool (is_utf8 c.args.code.now)) [
  | inl yes_ ↦ absurd (c.in-Err.ensures.cases.0 (IsUtf8-from_is_utf8 c.args.code.now yes_))
  | inr none ↦ rw none refl
]
