use Rattle.std.proofs.Common.{◌≡◌, ◌++◌, take}
use Rattle.std.specs.List.{filter_map}
use Rattle.on_air.specs.LineUps.{unless_listed}
use Rattle.on_air.proofs.gone.gone_after.Given as goal

abbrev pub invariant-loop-pid : goal.invariant-loop-pid
invariant-loop-pid g l = l.pids.items ≡ l.gone ++ filter_map (unless_listed l.listed.items) (take l.pid-index l.pid-items)
