-- A set of strings takes one more as a table does.
use Rattle.std.proofs.Common.{List, subst, map}
use Rattle.edd_syntax.specs.Words.{Words}
use Rattle.edd_syntax.specs.WordsView.{string_of}
use Rattle.edd_strings.specs.Strings.{Adds, AreStrings}
use Rattle.edd_strings.proofs.Numbering.{Adds-inserted, AreStrings-added}
use Rattle.edd_strings.proofs.table.Table.add.Goals as goal

adds : (c : goal.In_ok-number) → Adds c.args.self.now (string_of c.args.words) c.in_ok-number.number
    (map string_of c.insert_full.new.self.keys)
adds c =
    let (k, at, same) = c.in_ok-number.ensures.stored in
    subst (λ (old : List Words). Adds old (string_of c.args.words) c.in_ok-number.number
    (map string_of c.insert_full.new.self.keys)) c.self.view_is
    (Adds-inserted c.self.inside.strings.keys c.args.words c.in_ok-number.number
    c.insert_full.new.self.keys c.in_ok-number.ensures.keys c.in_ok-number.ensures.index k at
    same)

pub invariant_of-self-2 : goal.invariant_of-self-2
invariant_of-self-2 c = AreStrings-added c.args.self.now (string_of c.args.words)
    c.in_ok-number.number (map string_of c.insert_full.new.self.keys)
    (subst AreStrings c.self.view_is c.self.invariant)
    (c.has_room.ensures.0 c.if-not-has_room.false) (adds c)

pub returns-clause-sound : goal.returns-clause-sound
returns-clause-sound c = adds c
