use Rattle.std.proofs.Common.{◌≡◌, [], ◌∷◌, arith}
use Rattle.std.proofs.lemmas.Bool.Decides.{nat_tests}
use Rattle.edd_display.specs.Words.{escape}
use Rattle.edd_display.proofs.Escaping.{plain_char}
use Rattle.edd_display.proofs.page.push_escape.Goals as goal

pub returns-in_ok-push-in_default : goal.returns-in_ok-push-in_default
returns-in_ok-push-in_default c =
    let h = c.in_default in
    let plain : escape c.args.character ≡ c.args.character ∷ [] = grind (arith, nat_tests) in
    rw (plain_char c.args.character plain) (c.in_ok-push-in_default.ensures.bytes)
