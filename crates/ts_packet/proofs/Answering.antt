-- If a result equals the result of reading, it describes the bytes.
use Rattle.std.proofs.Common.{◌≡◌, ℕ, List, length, Result, Ok, Err, IfOk, sym, ◌∙◌}
use Rattle.std.specs.Result.{IsOkAnd}
use Rattle.bit_fields.specs.Fields.{IsBytes}
use Rattle.bit_fields.specs.Reading.{Gives}
use Rattle.bit_fields.proofs.Bind.{ok_is, ok_not_err}
use Rattle.ts_packet.specs.declared.packet.Packet.{Packet}
use Rattle.ts_packet.specs.declared.packet.PacketError.{PacketError}
use Rattle.ts_packet.specs.Views.{PacketView, packet_view}
use Rattle.ts_packet.specs.Syntax.{IsPacket}
use Rattle.ts_packet.specs.Reading.{packet_at}
use Rattle.ts_packet.proofs.Exact.{packet_is}
use Rattle.ts_packet.proofs.Again.{packet_read}

-- A packet that was read is the packet in the bytes.
pub found : (bytes : List ℕ) (result : Result Packet PacketError) → IsBytes bytes → length bytes ≡ 188 → Gives packet_view result (packet_at bytes)
    → IfOk result (λ packet. IsPacket bytes (packet_view packet))
found bytes (Ok packet) h size gives = packet_is bytes (packet_view packet) h size gives
found bytes (Err e) h size gives = tt

-- The packet in the bytes was read.
pub only : (bytes : List ℕ) (result : Result Packet PacketError) (packet : PacketView) → IsPacket bytes packet → Gives packet_view result (packet_at bytes)
    → IsOkAnd result (λ read. packet_view read ≡ packet)
only bytes (Ok read) packet is gives = ok_is {E = PacketError} (packet_view read) packet (sym gives ∙ packet_read bytes packet is)
only bytes (Err e) packet is gives = ok_not_err packet e (sym (packet_read bytes packet is) ∙ gives)
