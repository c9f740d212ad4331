-- One source after the other.
use Rattle.std.proofs.Common.{rules, map, subst, sym}
use Rattle.std.specs.List.{All}
use Rattle.edd_files.specs.Saves.{IsRead}
use Rattle.edd_files.proofs.SavesLaws.{made_at}
use Rattle.edd_files.proofs.reading.read_sources.Goals as goal

pub loop-name-preserved : goal.loop-name-preserved
loop-name-preserved g c =
    let names = map (λ name. name.now) c.args.names.now in
    let before = subst (λ account. All (IsRead account names) c.loop-name.sources.items)
    (sym c.loop-name.invariant.0) c.loop-name.invariant.1 in
    let after = c.in_ok-push_source.ensures.sound names
    (made_at (λ name. name.now) c.args.names.now c.loop-name.name-index _ (search rules))
    before in (
      search rules,
      subst (λ account. All (IsRead account names) c.push_source.new.sources.items)
          c.loop-name.invariant.0 after,
    )
