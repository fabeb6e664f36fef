use Rattle.std.proofs.Common.{◌≡◌, ◌++◌, map}
use Rattle.packet_times.specs.ClockWindows.{all_events, window_event}
use Rattle.packet_times.proofs.windows.ClockWindows.push_all.Given as goal

abbrev pub invariant-loop-pid : goal.invariant-loop-pid
invariant-loop-pid l = l.events.items ++ map (window_event l.self.number l.self.drifts) l.pid-iterator ≡ l.fn.events.items ++ all_events l.self
