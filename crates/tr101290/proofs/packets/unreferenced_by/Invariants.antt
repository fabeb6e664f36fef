use Rattle.std.proofs.Common.{◌≡◌, ◌++◌, flat_map}
use Rattle.tr101290.specs.Packets.{unreferenced, unreferenced_pids}
use Rattle.tr101290.proofs.packets.unreferenced_by.Given as goal

abbrev pub invariant-loop-pid : goal.invariant-loop-pid
invariant-loop-pid l = l.pids.items ++ flat_map (λ entry. unreferenced l.referenced entry.0) l.pid-iterator ≡ unreferenced_pids l.referenced l.packets.entries
