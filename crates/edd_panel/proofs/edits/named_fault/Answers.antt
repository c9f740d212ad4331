use Rattle.std.proofs.Common.{ℤ, w64, ap, ◌∙◌}
use Rattle.std.specs.List.{list_any}
use Rattle.std.proofs.lemmas.Int.{to_z-of_z}
use Rattle.edd_panel.specs.Edits.{is_enumerator}
use Rattle.edd_panel.proofs.Sets.{enumerated, not_enumerated}
use Rattle.edd_panel.proofs.edits.named_fault.Goals as goal

pub returns-then-names : goal.returns-then-names
returns-then-names c = enumerated c.args.var_type c.args.records.now c.args.old c.args.new
    c.names.result c.in-Enumerated.is
    (c.names.ensures ∙ ap (λ (z : ℤ). list_any (is_enumerator z) c.args.records.now)
    (to_z-of_z w64 c.args.new c.ranges.new)) c.if-names.true

pub returns-else-names : goal.returns-else-names
returns-else-names c = not_enumerated c.args.var_type c.args.records.now c.args.old c.args.new
    c.names.result c.in-Enumerated.is
    (c.names.ensures ∙ ap (λ (z : ℤ). list_any (is_enumerator z) c.args.records.now)
    (to_z-of_z w64 c.args.new c.ranges.new)) c.if-names.false
