use Rattle.std.proofs.Common.{take}
use Rattle.std.specs.Io.KnownBytes.{Appends}
use Rattle.std.specs.List.{flat_map}
use Rattle.edd_image.specs.Contents.{contents_in}
use Rattle.edd_display.specs.Played.{request_line}
use Rattle.edd_display.proofs.plays.print_requests.Given as goal

abbrev pub invariant-loop-request : goal.invariant-loop-request
invariant-loop-request g l =
    Appends (g.W.Write.contents l.initial.out) (g.W.Write.contents l.out)
    (flat_map (request_line (contents_in l.page.image.now) l.page.language.now)
    (take l.request-index l.requests))
