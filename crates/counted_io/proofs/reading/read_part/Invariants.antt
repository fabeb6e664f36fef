use Rattle.std.proofs.Common.{◌≡◌, ◌≤◌, ◌-◌, length, take}
use Rattle.std.specs.Io.KnownBytes.{Consumes}
use Rattle.counted_io.proofs.reading.read_part.Given as goal

abbrev pub invariant-loop-taken : goal.invariant-loop-taken
invariant-loop-taken g l = record {
  within : l.taken ≤ length l.part;
  bytes : Consumes (g.R.Read.remaining l.fn.from) (g.R.Read.remaining l.from) (take l.taken l.part);
  clean : g.R.Source.fault_count l.from ≡ g.R.Source.fault_count l.fn.from;
}

abbrev pub decreases-loop-taken : goal.decreases-loop-taken
decreases-loop-taken g l = length l.part - l.taken
