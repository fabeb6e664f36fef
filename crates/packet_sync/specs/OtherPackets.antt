-- Packets that are not of 188 bytes.
use Rattle.std.specs.Prelude.{ℕ, if◌then◌else◌, List, Option, None, Some}
use Rattle.packet_sync.specs.Slips.{are_apart, is_in_step}
use Rattle.packet_sync.specs.declared.packet_sizes.OtherPackets.{OtherPackets}
use Rattle.packet_sync.specs.declared.packet_sizes.OtherPackets.TheVariants.{Timed, Corrected}

unfoldable pub other_packets : List ℕ → Option OtherPackets
other_packets bs = if is_in_step bs 0 then None else (if are_apart bs 4 192 then Some Timed else (if are_apart bs 0 204 then Some Corrected else None))

-- the bytes from one packet to the next, and the bytes before a packet's first byte
unfoldable pub size_of : OtherPackets → ℕ
size_of Timed = 192
size_of Corrected = 204

unfoldable pub front_of : OtherPackets → ℕ
front_of Timed = 4
front_of Corrected = 0
