use Rattle.std.proofs.Common.{◌≡◌, ◌++◌, flat_map}
use Rattle.packet_times.specs.Gaps.{stop_of}
use Rattle.packet_times.proofs.gaps.push_stops.Given as goal

abbrev pub invariant-loop-pid : goal.invariant-loop-pid
invariant-loop-pid l =
    l.gaps.items ++ flat_map (stop_of l.timing l.seconds l.packets l.place) l.pid-iterator ≡ l.fn.gaps.items
    ++ flat_map (stop_of l.fn.timing l.fn.seconds l.fn.packets l.fn.place) l.fn.lasts.entries
