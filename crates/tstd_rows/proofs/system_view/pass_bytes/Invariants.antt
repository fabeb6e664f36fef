use Rattle.std.proofs.Common.{◌≡◌, ◌+◌, ◌-◌, ◌*◌, ◌^◌, ◌≤◌, ◌++◌}
use Rattle.arrival.specs.Rows.{times_of, times_in_row}
use Rattle.tstd_rows.specs.WatchedQueues.{all_entered, ended_by, left_at}
use Rattle.tstd_rows.proofs.system_view.pass_bytes.Given as goal

abbrev pub invariant-loop-j : goal.invariant-loop-j
invariant-loop-j l = record {
  step : l.transport.queue.step ≡ l.fn.transport.queue.step;
  system_step : l.system.queue.step ≡ l.fn.system.queue.step;
  last : l.transport.queue.last ≤ 2 ^ 87 + (l.before + l.j) * 2 ^ 33;
  left : l.system.queue.last ≤ 2 ^ 87 + (l.before + l.j) * 2 ^ 34;
  longest_residence : l.transport.queue.longest_residence ≤ l.transport.queue.last;
  inner : l.system.queue.longest_residence ≤ l.system.queue.last;
  transport : all_entered l.transport (times_in_row (l.row.from + l.j * l.row.pace) l.row.pace l.row.parts (l.row.bytes - l.j)) ≡ all_entered l.fn.transport
      (times_of l.row);
  system : all_entered l.system (left_at l.transport (times_in_row (l.row.from + l.j * l.row.pace) l.row.pace l.row.parts (l.row.bytes - l.j)))
      ≡ all_entered l.fn.system (left_at l.fn.transport (times_of l.row));
  transport_ended : l.ended.transport.items ++ ended_by l.transport (times_in_row (l.row.from + l.j * l.row.pace) l.row.pace l.row.parts (l.row.bytes - l.j))
      ≡ l.fn.ended.transport.items ++ ended_by l.fn.transport (times_of l.row);
  system_ended : l.ended.system.items
      ++ ended_by l.system (left_at l.transport (times_in_row (l.row.from + l.j * l.row.pace) l.row.pace l.row.parts (l.row.bytes - l.j)))
      ≡ l.fn.ended.system.items ++ ended_by l.fn.system (left_at l.fn.transport (times_of l.row));
}
