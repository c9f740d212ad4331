use Rattle.std.proofs.Common.{◌≡◌, ◌∙◌, sym, subst, ◌⊎◌, List, map, Some}
use Rattle.std.specs.Prelude.{◌↔◌, slice_get, OnOk}
use Rattle.std.specs.List.{Contains}
use Rattle.edd_syntax.specs.declared.numbers.ItemNo.{ItemNo}
use Rattle.edd_syntax.specs.ItemView.{numbered_attribute}
use Rattle.edd_syntax.specs.Numbers.{index_of, kind_of}
use Rattle.edd_syntax.specs.Rows.{attributes_of_items}
use Rattle.edd_syntax.specs.Words.{Words}
use Rattle.edd_code.specs.Units.{description_of}
use Rattle.edd_compiler.proofs.RowCodes.{body_strings}
use Rattle.edd_compiler.proofs.lowering.lower_row.Goals as goal

pub returns-clause-strings : goal.returns-clause-strings
returns-clause-strings c =
    subst (λ (ws : List Words). OnOk c.lower_method.result ((w : Words)
    → Contains c.lower_method.new.table w ↔ (Contains c.args.table.now w ⊎ Contains ws w)))
    (body_strings (description_of c.args.checked.now) c.args.listed.now.row c.in-Method.method
    (sym c.is_body.ensures
    ∙ c.if-not-is_body.false) c.in-Method.is)
    c.lower_method.ensures.strings

pub lower_method-requires : goal.lower_method-requires
lower_method-requires c = record {
  attributes = subst (λ (i : ItemNo). slice_get (attributes_of_items (kind_of i)
      (description_of c.args.checked.now).items) (index_of i)
      ≡ Some (map numbered_attribute c.args.listed.now.attributes.now)) c.in-Method.is
      c.requires.attributes;
}
