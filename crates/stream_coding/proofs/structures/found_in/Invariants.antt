use Rattle.std.proofs.Common.{◌≡◌, length}
use Rattle.stream_coding.specs.Structures.{found_in}
use Rattle.stream_coding.proofs.structures.found_in.Given as goal

abbrev pub invariant-loop-rest : goal.invariant-loop-rest
invariant-loop-rest l = found_in l.structure l.unit ≡ found_in l.structure l.left

abbrev pub decreases-loop-rest : goal.decreases-loop-rest
decreases-loop-rest l = length l.left
