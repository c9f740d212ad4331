use Rattle.std.proofs.Common.{map}
use Rattle.edd_code.specs.Tables.{Grows}
use Rattle.edd_attrs.specs.TreeBlocks.{IsLineBlock}
use Rattle.edd_attrs.proofs.Loops.{Front}
use Rattle.edd_attrs.proofs.lists.write_all.Given as goal

-- the elements so far are written
abbrev pub invariant-loop-v : goal.invariant-loop-v
invariant-loop-v g l = record {
  front : Front g.V.Element.strings (λ numbered. IsLineBlock (g.V.Element.is_block numbered))
      l.v-index (map g.V.Element.view l.all) l.initial.table l.initial.code l.table l.code;
  grows : Grows l.initial.table l.table;
}
