use Rattle.std.proofs.Common.{ℕ, List, subst, [], ◌∷◌}
use Rattle.edd_syntax.specs.WordsView.{text_bytes}
use Rattle.edd_syntax.specs.Words.{name_words}
use Rattle.edd_code.specs.Tables.{GrowsBy, Keeps}
use Rattle.edd_attrs.proofs.Written.{text_written}
use Rattle.edd_attrs.proofs.elements.CompactStringElement.write.Goals as goal

pub returns-clause-sound : goal.returns-clause-sound
returns-clause-sound c =
    text_written c.args.table.now c.add_name.new.table c.args.code.now c.put.new.code
    (name_words (text_bytes c.args.self.now)) c.in_ok-number.number
    (subst (λ (bytes : List ℕ). GrowsBy c.args.table.now (name_words bytes ∷ [])
    c.add_name.new.table) c.as_str.ensures c.in_ok-number.ensures.table)
    (subst (λ (bytes : List ℕ). Keeps c.add_name.new.table (name_words bytes) c.in_ok-number.number)
    c.as_str.ensures c.in_ok-number.ensures.number) c.in_ok-put.ensures.code
