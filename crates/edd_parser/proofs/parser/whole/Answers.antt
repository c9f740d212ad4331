use Rattle.edd_syntax.specs.ItemView.{identification_of, named_items}
use Rattle.edd_parser.proofs.Parsed.{parts_read, read_is_kept}
use Rattle.edd_parser.proofs.parser.whole.Goals as goal

pub invariant_of-result : goal.invariant_of-result
invariant_of-result c =
    let i = identification_of c.in_ok-identification.identification in
    let all = named_items c.in_ok-items.items.items in
    record {
      kept = read_is_kept c.args.cursor.now _
          (parts_read c.args.cursor.now _ _ i all c.in_ok-identification.ensures
          c.in_ok-items.ensures) c.requires;
    }
