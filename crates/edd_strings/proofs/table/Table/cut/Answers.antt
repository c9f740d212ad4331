-- The first strings of a table are a table.
use Rattle.std.proofs.Common.{ℕ, subst, ap, sym, ◌∙◌, map, take}
use Rattle.std.proofs.lemmas.List.{take-map}
use Rattle.edd_syntax.specs.WordsView.{string_of}
use Rattle.edd_strings.specs.Strings.{AreStrings}
use Rattle.edd_strings.proofs.Numbering.{AreStrings-take}
use Rattle.edd_strings.proofs.table.Table.cut.Goals as goal

pub invariant_of-self : goal.invariant_of-self
invariant_of-self c =
    subst AreStrings (take-map string_of c.from.result c.self.inside.strings.keys
    ∙ sym (ap (map string_of) c.truncate.ensures.keys))
    (AreStrings-take _ c.from.result c.self.invariant)

pub returns : goal.returns
returns c =
    ap (map string_of) c.truncate.ensures.keys
    ∙ sym (take-map string_of c.from.result c.self.inside.strings.keys)
    ∙ ap (λ (n : ℕ). take n (map string_of c.self.inside.strings.keys)) c.from.ensures
    ∙ ap (take c.args.count) c.self.view_is
