use Rattle.std.proofs.Common.{◌≡◌, [], drop}
use Rattle.tr101290.specs.Packets.{missing_pids}
use Rattle.tr101290.proofs.packets.missing_pids.Given as goal

abbrev pub invariant-loop-pid : goal.invariant-loop-pid
invariant-loop-pid l = missing_pids l.packets.entries l.pids (drop l.pid-index l.referenced) ≡ missing_pids l.packets.entries [] l.referenced
