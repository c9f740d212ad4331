use Rattle.std.proofs.Common.{refl, ap, map}
use Rattle.std.proofs.lemmas.Result.{err_from_is_err_and}
use Rattle.edd_lexer.specs.Views.{lexeme_of}
use Rattle.edd_compiler.specs.Faults.{of_parse}
use Rattle.edd_compiler.proofs.TextUnits.{is_unit, is_spelled, no_unit, explained}
use Rattle.edd_compiler.proofs.source.unit_from.Goals as goal

pub returns-clause-sound : goal.returns-clause-sound
returns-clause-sound c = is_unit c.args.text.now c.args.tokens.now c.args.tokens.now
    c.requires refl _ c.in_ok-parse.ensures.sound

pub returns-clause-complete : goal.returns-clause-complete
returns-clause-complete c unit of =
    c.in_ok-parse.ensures.complete unit (is_spelled c.args.text.now c.args.tokens.now
    c.args.tokens.now c.requires refl
    (λ lexemes are. c.one_reading.ensures.one_list c.args.text.now lexemes
    (map (lexeme_of c.args.text.now) c.args.tokens.now) are c.requires) unit of)

pub returns-in_err-parse-clause-refused : goal.returns-in_err-parse-clause-refused
returns-in_err-parse-clause-refused c =
    let p = err_from_is_err_and c.from_residual.result c.from_residual.ensures.1 in rw (p.1, p.2)
    (explained c.args.text.now c.in_err-parse.field-0.0 _
    (no_unit c.args.text.now c.args.tokens.now c.args.tokens.now c.requires refl)
    c.in_err-parse.ensures.refused)

pub returns-in_err-parse-clause-complete : goal.returns-in_err-parse-clause-complete
returns-in_err-parse-clause-complete c unit of =
    let p = err_from_is_err_and c.from_residual.result c.from_residual.ensures.1 in rw (p.1, p.2)
    (ap of_parse (c.in_err-parse.ensures.complete unit
    (is_spelled c.args.text.now c.args.tokens.now c.args.tokens.now c.requires refl
    (λ lexemes are. c.one_reading.ensures.one_list c.args.text.now lexemes
    (map (lexeme_of c.args.text.now) c.args.tokens.now) are c.requires) unit of)))
