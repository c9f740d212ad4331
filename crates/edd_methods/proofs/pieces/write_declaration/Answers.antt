use Rattle.std.proofs.Common.{◌≡◌, ◌∙◌, refl, sym, rules, arith}
use Rattle.std.specs.Prelude.{Err}
use Rattle.edd_syntax.specs.TreeView.{numbered_declarator}
use Rattle.edd_methods.specs.Writing.{declared_texts}
use Rattle.edd_methods.proofs.NumberedParts.{said, refused_is, front_grows, front_ends, front_refused}
use Rattle.edd_methods.proofs.WrittenPieces.{declares, declared_split, declares_on, declares_none}
use Rattle.edd_methods.proofs.pieces.write_declaration.Goals as goal

pub returns-in_err-write_declarator : goal.returns-in_err-write_declarator
returns-in_err-write_declarator c =
    let is : c.from_residual.result ≡ Err c.in_err-write_declarator.field-0.0 = search rules in
    refused_is _ _ _ _ is (front_refused numbered_declarator declared_texts declared_split declares
    c.in_err-write_declarator.field-0.0 (omega arith) c.d-item.is c.loop-d.invariant
    c.in_err-write_declarator.ensures)

pub loop-d-preserved : goal.loop-d-preserved
loop-d-preserved c =
    front_grows numbered_declarator declared_texts declared_split declares (omega arith) c.d-item.is
    c.loop-d.invariant (said (λ number is. declares_on number (numbered_declarator c.d-item.result)
    c.loop-d.code c.write_declarator.new.code is) c.in_ok-write_declarator.ensures)

pub returns : goal.returns
returns c =
    said (λ number is. sym (is ∙ declares_none number c.loop-d.code))
    (front_ends numbered_declarator declared_texts declared_split declares (omega arith) refl
    c.loop-d.invariant)
