use Rattle.description_values.proofs.HexBytes.{hex_bytes-long}
use Rattle.description_values.proofs.hexadecimal.hex_bytes.Goals as goal

pub returns-then-size : goal.returns-then-size
returns-then-size g c = hex_bytes-long g.row.N c.args.text.now c.if-size.true
