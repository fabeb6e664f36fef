use Rattle.std.proofs.Common.{◌≡◌, ◌++◌, flat_map}
use Rattle.monitor.specs.Reports.{ended_map}
use Rattle.monitor.proofs.program_maps.ProgramMapWatch.append_ended.Given as goal

abbrev pub invariant-loop-pid : goal.invariant-loop-pid
invariant-loop-pid g l = l.faults.items ++ flat_map (ended_map l.self.limit_times_rate l.packets) l.pid-iterator ≡ l.fn.faults.items
    ++ flat_map (ended_map l.fn.self.limit_times_rate l.fn.packets) l.fn.self.named
