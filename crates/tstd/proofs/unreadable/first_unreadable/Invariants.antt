use Rattle.std.proofs.Common.{◌≡◌, drop}
use Rattle.tstd.specs.Refusals.{first_unreadable}
use Rattle.tstd.proofs.unreadable.first_unreadable.Given as goal

abbrev pub invariant-loop-index : goal.invariant-loop-index
invariant-loop-index l = first_unreadable l.index (drop l.index l.packets) ≡ first_unreadable 0 l.packets
