use Rattle.std.proofs.Common.{◌≡◌, ◌++◌, drop}
use Rattle.tsremux_cli.specs.UnkeptFrames.{unkept_from}
use Rattle.tsremux_cli.proofs.unkept_frames.unkept_pids.Given as goal

abbrev pub invariant-loop-number : goal.invariant-loop-number
invariant-loop-number l = l.pids.items ++ unkept_from l.units l.number (drop l.number l.streams) ≡ unkept_from l.units 0 l.streams
