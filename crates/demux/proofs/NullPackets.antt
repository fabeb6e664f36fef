-- A null packet changes no state and has no findings.
use Rattle.std.proofs.Common.{◌≡◌, [], refl}
use Rattle.ts_packet.specs.Packets.{null_packet}
use Rattle.ts_packet.proofs.PlainWritten.{null_again}
use Rattle.demux.specs.Stream.{StreamState, found_in, findings_by, next_packet, states_by, taken}

pub null_taken : (s : StreamState) → record s { packets = next_packet s.packets } ≡ taken s null_packet
unfolding taken states_by
null_taken s = rw null_again.read refl

pub null_found : (s : StreamState) → found_in s null_packet ≡ []
unfolding found_in findings_by
null_found s = rw null_again.read refl
