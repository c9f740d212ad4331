-- What was read so far was given, and nothing was saved.
use Rattle.std.proofs.Common.{◌≡◌, map}
use Rattle.std.specs.List.{All}
use Rattle.edd_files.specs.Saves.{IsRead}
use Rattle.edd_files.proofs.reading.read_sources.Given as goal

abbrev pub invariant-loop-name : goal.invariant-loop-name
invariant-loop-name g l = (g.F.Files.account l.files ≡ g.F.Files.account l.initial.files)
    × All (IsRead (g.F.Files.account l.initial.files) (map (λ name. name.now) l.names))
    l.sources.items
