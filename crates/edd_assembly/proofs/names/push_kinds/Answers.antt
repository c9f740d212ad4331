use Rattle.std.proofs.Common.{refl, ◌∙◌, ap, sym, ◌++◌, length, get_or, map, arith}
use Rattle.std.proofs.lemmas.List.{append-nil, get_or_default}
use Rattle.edd_syntax.specs.declared.numbers.Kind.TheVariants as kind
use Rattle.edd_syntax.specs.ItemView.{numbered_item}
use Rattle.edd_assembly.specs.Assembly.{name_rows, names_of_kind, names_of_kinds}
use Rattle.edd_assembly.proofs.NameLoops.{bytes_of, names_appended, bytes_appended, names_done, bytes_done, kinds_split}
use Rattle.edd_assembly.proofs.names.push_kinds.Goals as goal

pub loop-kind-preserved : goal.loop-kind-preserved
loop-kind-preserved c =
    let k = get_or c.args.kinds.now c.loop-kind.kind-index kind.Variable in
    let is = get_or_default c.args.kinds.now c.loop-kind.kind-index kind.Variable k (omega arith) in
    let whole = sym (append-nil (names_of_kind k (map numbered_item c.args.items.now))) in
    let longer = c.in_ok-push_kind.ensures.bytes
    ∙ ap (λ ns. c.loop-kind.section.bytes.items ++ bytes_of ns) whole in (
      names_appended (names_of_kinds (map numbered_item c.args.items.now)) (λ k. k) refl
          (kinds_split (map numbered_item c.args.items.now)) c.loop-kind.section.rows.items _
          c.loop-kind.section.bytes.items c.loop-kind.kind-index c.args.kinds.now (omega arith) is
          (c.in_ok-push_kind.ensures.rows ∙ ap (λ ns. c.loop-kind.section.rows.items ++ name_rows
          (length c.loop-kind.section.bytes.items) ns) whole) longer c.loop-kind.invariant.0,
      bytes_appended (names_of_kinds (map numbered_item c.args.items.now)) (λ k. k) refl
          (kinds_split (map numbered_item c.args.items.now)) c.loop-kind.section.bytes.items _
          c.loop-kind.kind-index c.args.kinds.now (omega arith) is longer c.loop-kind.invariant.1,
    )

pub returns-clause-rows : goal.returns-clause-rows
returns-clause-rows c = names_done (names_of_kinds (map numbered_item c.args.items.now)) (λ k. k)
    refl (kinds_split (map numbered_item c.args.items.now)) c.loop-kind.section.rows.items _
    (length c.loop-kind.section.bytes.items) c.loop-kind.kind-index c.args.kinds.now (omega arith)
    c.loop-kind.invariant.0

pub returns-clause-bytes : goal.returns-clause-bytes
returns-clause-bytes c = bytes_done (names_of_kinds (map numbered_item c.args.items.now)) (λ k. k)
    refl (kinds_split (map numbered_item c.args.items.now)) c.loop-kind.section.bytes.items _
    c.loop-kind.kind-index c.args.kinds.now (omega arith) c.loop-kind.invariant.1
