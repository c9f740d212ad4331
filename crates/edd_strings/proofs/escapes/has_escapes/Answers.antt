-- Where there is no backslash, none lacks its escape.
use Rattle.std.proofs.Common.{ap, nat_eq, sym, ◌∙◌}
use Rattle.std.specs.List.{list_any}
use Rattle.edd_strings.proofs.Marks.{plain_unfound}
use Rattle.edd_strings.proofs.escapes.has_escapes.Goals as goal

pub returns-then-not-contains : goal.returns-then-not-contains
returns-then-not-contains c =
    sym (plain_unfound c.args.raw.now (ap (list_any (λ y. nat_eq y 92)) (sym c.as_bytes.ensures.value)
    ∙ sym c.contains.ensures.value ∙ c.if-not-contains.true))
