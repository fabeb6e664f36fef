use Rattle.std.proofs.Common.{◌≡◌, nat_eq, drop}
use Rattle.std.specs.List.{starts_with, concat}
use Rattle.tstd.specs.PayloadWalk.{bytes_ahead}
use Rattle.pes_packet.specs.Units.{units_of, pes_packets_of}
use Rattle.tstd.specs.PacketLists.{payloads_from}
use Rattle.tstd.proofs.carried.carries.Given as goal

abbrev pub invariant-loop-entry : goal.invariant-loop-entry
invariant-loop-entry g l =
    starts_with nat_eq (concat (pes_packets_of l.id l.base0 (units_of l.number l.units))) (payloads_from l.pid l.fn.packets)
    ≡ starts_with nat_eq (concat (pes_packets_of l.id l.base0 (units_of l.number (drop l.entry-index l.units)))) (bytes_ahead l.payloads)
