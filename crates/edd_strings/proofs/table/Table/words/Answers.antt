-- The strings keep codes and names as the code's values do.
use Rattle.std.proofs.Common.{List, subst, IsTrue}
use Rattle.std.specs.List.{All}
use Rattle.edd_syntax.specs.Words.{Words, are_words}
use Rattle.edd_strings.proofs.Validity.{all_are_words}
use Rattle.edd_strings.proofs.table.Table.words.Goals as goal

pub returns-clause-valid : goal.returns-clause-valid
returns-clause-valid c =
    subst (λ (strings : List Words). All (λ s. IsTrue (are_words s)) strings) c.self.view_is
    (all_are_words c.self.inside.strings.keys)
