use Rattle.std.proofs.Common.{arith}
use Rattle.edd_loader.proofs.Spaces.{rooms}
use Rattle.edd_loader.proofs.starts.starts_in.Goals as goal

pub place_in-element_rows-requires : goal.place_in-element_rows-requires
place_in-element_rows-requires c = omega (arith, rooms _ c.requires, c.element_rows_start.ensures.start)

pub place_in-code-requires : goal.place_in-code-requires
place_in-code-requires c = omega (arith, rooms _ c.requires, c.code_start.ensures.start)

pub place_in-string_rows-requires : goal.place_in-string_rows-requires
place_in-string_rows-requires c = omega (arith, rooms _ c.requires, c.string_rows_start.ensures.start)

pub place_in-names-requires : goal.place_in-names-requires
place_in-names-requires c = omega (arith, rooms _ c.requires, c.name_bytes_start.ensures.start)

pub place_in-strings-requires : goal.place_in-strings-requires
place_in-strings-requires c = omega (arith, rooms _ c.requires, c.string_bytes_start.ensures.start)
