use Rattle.std.proofs.Common.{◌≡◌, drop}
use Rattle.tstd.specs.Refusals.{all_carried}
use Rattle.tstd.proofs.all_streams.all_carried.Given as goal

abbrev pub invariant-loop-number : goal.invariant-loop-number
invariant-loop-number g l = all_carried l.description l.units l.bytes l.number (drop l.number l.description.streams) ≡ all_carried l.description l.units l.bytes
    0 l.description.streams
