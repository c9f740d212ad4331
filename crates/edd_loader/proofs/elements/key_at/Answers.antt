use Rattle.std.proofs.Common.{◌+◌, arith}
use Rattle.edd_loader.proofs.ElementLaws.{two_bytes, four_bytes}
use Rattle.edd_loader.proofs.elements.key_at.Goals as goal

pub returns : goal.returns
returns c = omega (
  arith,
  c.from_be_bytes-whole.ensures,
  two_bytes c.args.bytes.now c.args.row,
  four_bytes c.args.bytes.now c.args.row,
  (c.type_inv.bytes c.args.row).fits,
  (c.type_inv.bytes (c.args.row + 1)).fits,
  (c.type_inv.bytes (c.args.row + 2)).fits,
  (c.type_inv.bytes (c.args.row + 3)).fits,
  (c.type_inv.bytes (c.args.row + 4)).fits,
  (c.type_inv.bytes (c.args.row + 5)).fits,
  (c.type_inv.bytes (c.args.row + 6)).fits,
  (c.type_inv.bytes (c.args.row + 7)).fits,
)
