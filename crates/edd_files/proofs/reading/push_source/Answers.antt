-- The new source was given, and its name is one of them.
use Rattle.edd_files.specs.Saves.{IsRead}
use Rattle.edd_files.proofs.SavesLaws.{all_pushed}
use Rattle.edd_files.proofs.reading.push_source.Goals as goal

pub returns-clause-sound : goal.returns-clause-sound
returns-clause-sound g c names named all =
    all_pushed (IsRead (g.F.Files.account c.args.files.now) names) c.args.sources.now.items
    c.push.new.self.items _ c.in_ok-push.ensures.items all (named, c.in_ok-text.ensures.sound)
