use Rattle.std.proofs.Common.{◌-◌, drop, length}
use Rattle.std.proofs.lemmas.List.Elements.{All-drop, All-take}
use Rattle.edd_token_reader.specs.TokenTexts.{IsReadable}
use Rattle.edd_token_reader.proofs.cursor.Cursor.member.Goals as goal

-- the tokens after the two that were taken
pub invariant_of-self : goal.invariant_of-self
invariant_of-self c =
    let text = c.self.inside.text.now in
    let rest = c.self.inside.rest.now in
    All-take (IsReadable text) (length rest - 2) (drop 2 rest)
    (All-drop (IsReadable text) 2 rest c.self.invariant)
