use Rattle.std.proofs.Common.{◌≡◌, ◌-◌, ◌*◌, ◌^◌, ◌≤◌}
use Rattle.clock27.specs.Arrival.{bytes_from}
use Rattle.clock27.specs.Departure.{departures}
use Rattle.tstd.specs.Queues.{all_arrived}
use Rattle.tstd.proofs.tables.pass_packet.Given as goal

abbrev pub invariant-loop-byte : goal.invariant-loop-byte
invariant-loop-byte l = record {
  step : l.transport.step ≡ l.fn.transport.step;
  system_step : l.system.step ≡ l.fn.system.step;
  last : l.transport.last ≤ l.byte * 2 ^ 34;
  left : l.system.last ≤ l.byte * 2 ^ 35;
  longest_residence : l.transport.longest_residence ≤ l.transport.last;
  inner : l.system.longest_residence ≤ l.system.last;
  transport : all_arrived l.transport (bytes_from 2000000 l.byte (l.byte-end - l.byte)) ≡ all_arrived l.fn.transport (bytes_from 2000000 l.from 188);
  system : all_arrived l.system (departures l.transport.step l.transport.last (bytes_from 2000000 l.byte (l.byte-end - l.byte)))
      ≡ all_arrived l.fn.system (departures l.fn.transport.step l.fn.transport.last (bytes_from 2000000 l.from 188));
}
