use Rattle.std.proofs.Common.{◌≡◌, ◌≤◌, ◌-◌, length, take}
use Rattle.std.specs.Io.KnownBytes.{Appends}
use Rattle.counted_io.proofs.writing.write_part.Given as goal

abbrev pub invariant-loop-taken : goal.invariant-loop-taken
invariant-loop-taken g l = record {
  within : l.taken ≤ length l.part;
  bytes : Appends (g.W.Write.contents l.fn.to) (g.W.Write.contents l.to) (take l.taken l.part);
  clean : g.W.Sink.fault_count l.to ≡ g.W.Sink.fault_count l.fn.to;
}

abbrev pub decreases-loop-taken : goal.decreases-loop-taken
decreases-loop-taken g l = length l.part - l.taken
