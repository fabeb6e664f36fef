use Rattle.std.proofs.Common.{◌≡◌, ◌*◌, ◌^◌, ◌≤◌, drop}
use Rattle.clock27.specs.Arrival.{arrivals}
use Rattle.clock27.specs.Departure.{departures}
use Rattle.tstd.specs.PacketLists.{tables_from}
use Rattle.tstd.specs.Queues.{all_arrived}
use Rattle.tstd.proofs.tables.measure_tables.Given as goal

abbrev pub invariant-loop-index : goal.invariant-loop-index
invariant-loop-index l = record {
  step : l.transport.step ≡ 2 * l.rate;
  system_step : l.system.step ≡ 25 * l.rate;
  last : l.transport.last ≤ (188 * l.index) * 2 ^ 34;
  left : l.system.last ≤ (188 * l.index) * 2 ^ 35;
  longest_residence : l.transport.longest_residence ≤ l.transport.last;
  inner : l.system.longest_residence ≤ l.system.last;
  transport : all_arrived l.transport (arrivals 2000000 (tables_from l.pmt_pid l.index (drop l.index l.packets)))
      ≡ all_arrived (record { step = 2 * l.rate; last = 0; longest_residence = 0 }) (arrivals 2000000 (tables_from l.pmt_pid 0 l.packets));
  system : all_arrived l.system (departures l.transport.step l.transport.last (arrivals 2000000 (tables_from l.pmt_pid l.index (drop l.index l.packets))))
      ≡ all_arrived (record { step = 25 * l.rate; last = 0; longest_residence = 0 })
      (departures (2 * l.rate) 0 (arrivals 2000000 (tables_from l.pmt_pid 0 l.packets)));
}
