use Rattle.std.proofs.Common.{◌≡◌, take}
use Rattle.job_units.specs.Moments.{stamps_of}
use Rattle.job_units.proofs.moved_streams.stamps_of.Given as goal

abbrev pub invariant-loop-first : goal.invariant-loop-first
invariant-loop-first l = l.stamps.items ≡ stamps_of l.clock (take l.first-index l.firsts)
