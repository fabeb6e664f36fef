use Rattle.std.proofs.Common.{◌≡◌}
use Rattle.std.specs.List.{list_all}
use Rattle.dvb_tables.specs.TransportStreams.{transport_streams_of}
use Rattle.ts_services.specs.NetworkInformation.{found_network_view}
use Rattle.job_programs.specs.OtherStreams.{is_carried}
use Rattle.job_programs.proofs.other_streams.are_carried.Given as goal

abbrev pub invariant-loop-entry : goal.invariant-loop-entry
invariant-loop-entry l =
    list_all (is_carried l.id (found_network_view l.network) l.others) (transport_streams_of l.entry-iterator)
    ≡ list_all (is_carried l.id (found_network_view l.network) l.others) (transport_streams_of l.fn.entries)
