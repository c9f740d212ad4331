use Rattle.std.proofs.Common.{subst, sym, ap, ◌∙◌, map}
use Rattle.std.specs.List.{All}
use Rattle.edd_syntax.specs.Rows.{HasItsAttributes}
use Rattle.edd_code.specs.Units.{description_of}
use Rattle.edd_compiler.specs.Lowering.{IsPlain}
use Rattle.edd_compiler.proofs.CompiledTexts.{of_bad}
use Rattle.edd_compiler.proofs.ImageParts.{too_many}
use Rattle.edd_compiler.proofs.LoweredRows.{over_more}
use Rattle.edd_compiler.proofs.PlainRows.{rows_plain}
use Rattle.edd_compiler.proofs.compiling.lower.Goals as goal

pub returns-clause-refused : goal.returns-clause-refused
returns-clause-refused c = of_bad c.lower_rows.result c.lower_rows.ensures.refused
    (λ e is. over_more e (too_many (description_of c.args.checked.now)
    c.different_strings_count.ensures.within
    (c.strings_stand_in_rows.ensures.of_rows (description_of c.args.checked.now))) is)

pub lower_rows-requires : goal.lower_rows-requires
lower_rows-requires c = record {
  plain = subst (All IsPlain)
      (sym (ap (map (λ r. r.row)) c.deref.ensures.value ∙ c.in_ok-rows.ensures.rows))
      (rows_plain (description_of c.args.checked.now) c.args.checked.now.checked);
  attributes = subst (All (HasItsAttributes (description_of c.args.checked.now).items))
      (sym c.deref.ensures.value) c.in_ok-rows.ensures.attributes;
}
