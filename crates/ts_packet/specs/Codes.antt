-- The numbers of the refusals.
use Rattle.std.specs.Prelude.{ℕ}
use Rattle.ts_packet.specs.declared.packet.PacketError.{PacketError}
use Rattle.ts_packet.specs.declared.packet.PacketError.TheVariants.{Sync, ReservedControl, FieldTooLong, PartTooLong}

abbrev pub code_of : PacketError → ℕ
code_of Sync = 1
code_of ReservedControl = 2
code_of FieldTooLong = 3
code_of PartTooLong = 4
