use Rattle.std.proofs.Common.{◌≡◌}
use Rattle.dvb_tables.specs.TransportStreams.{transport_streams_of}
use Rattle.ts_services.specs.NetworkInformation.{entry_of}
use Rattle.ts_services.proofs.network_information.entry_of.Given as goal

abbrev pub invariant-loop-entry : goal.invariant-loop-entry
invariant-loop-entry l = entry_of l.stream (transport_streams_of l.entry-iterator) ≡ entry_of l.stream (transport_streams_of l.fn.entries)
