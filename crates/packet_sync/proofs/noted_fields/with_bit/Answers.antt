use Rattle.std.proofs.Common.{w16}
use Rattle.std.proofs.lemmas.Nat.Bits.{bit_at_set_same, bit_at_set_other}
use Rattle.packet_sync.proofs.noted_fields.with_bit.Goals as goal

pub returns : goal.returns
returns c = (bit_at_set_same w16 c.args.mask c.args.number c.requires, bit_at_set_other w16 c.args.mask c.args.number c.requires)
