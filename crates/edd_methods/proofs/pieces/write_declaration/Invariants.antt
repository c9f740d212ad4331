use Rattle.edd_syntax.specs.TreeView.{numbered_declarator}
use Rattle.edd_methods.specs.Writing.{declared_texts}
use Rattle.edd_methods.proofs.NumberedParts.{Front}
use Rattle.edd_methods.proofs.WrittenPieces.{declares, declared_split}
use Rattle.edd_methods.proofs.pieces.write_declaration.Given as goal

-- the declarators so far are written
abbrev pub invariant-loop-d : goal.invariant-loop-d
invariant-loop-d l = Front numbered_declarator declared_texts declared_split declares l.d-index
    l.declarators l.initial.table l.initial.code l.table l.code
