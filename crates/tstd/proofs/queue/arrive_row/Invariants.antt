use Rattle.std.proofs.Common.{◌≡◌, ◌-◌, ◌*◌, ◌^◌, ◌≤◌}
use Rattle.clock27.specs.Arrival.{bytes_from}
use Rattle.tstd.specs.Queues.{all_arrived}
use Rattle.tstd.proofs.queue.arrive_row.Given as goal

abbrev pub invariant-loop-byte : goal.invariant-loop-byte
invariant-loop-byte l = record {
  step : l.queue.step ≡ l.fn.queue.step;
  last : l.queue.last ≤ l.byte * 2 ^ 57;
  longest_residence : l.queue.longest_residence ≤ l.queue.last;
  state : all_arrived l.queue (bytes_from l.drain l.byte (l.byte-end - l.byte)) ≡ all_arrived l.fn.queue (bytes_from l.drain l.from l.count);
}
