-- Where there is no room, only a string that is held can be taken.
use Rattle.std.proofs.Common.{List, subst, sym, ◌∙◌, inl, inr, arith, ap, length}
use Rattle.std.proofs.lemmas.List.{length-map}
use Rattle.std.specs.List.{Contains}
use Rattle.edd_syntax.specs.Words.{Words}
use Rattle.edd_syntax.specs.WordsView.{string_of}
use Rattle.edd_strings.proofs.Numbering.{held, found}
use Rattle.edd_strings.proofs.table.Table.has_room.Goals as goal

pub returns-else-len-lt-MAX_STRINGS : goal.returns-else-len-lt-MAX_STRINGS
returns-else-len-lt-MAX_STRINGS c =
    let Holds : List Words → Type 0 = λ strings. Contains strings (string_of c.args.words.now) in (
      (λ is. inr (subst Holds c.self.view_is
          (held c.self.inside.strings.keys c.args.words.now (sym c.contains.ensures ∙ is)))),
      (λ either. elim either [
        | inl room ↦ absurd (omega (
          arith,
          room,
          ap (λ (ss : List Words). length ss) c.self.view_is,
          length-map c.self.inside.strings.keys string_of,
        ))
        | inr holds ↦ c.contains.ensures ∙ found c.self.inside.strings.keys c.args.words.now
            (subst Holds (sym c.self.view_is) holds)
      ]),
    )
