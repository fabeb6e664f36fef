use Rattle.std.proofs.Common.{◌≡◌}
use Rattle.std.specs.Prelude.{find}
use Rattle.descriptor_loops.specs.Descriptors.{descriptors_of, descriptors_in}
use Rattle.stream_coding.specs.Codings.{is_j2k}
use Rattle.stream_coding.proofs.jpeg2000.j2k_body.Given as goal

abbrev pub invariant-loop-descriptor : goal.invariant-loop-descriptor
invariant-loop-descriptor l = find is_j2k (descriptors_of l.descriptor-iterator) ≡ find is_j2k (descriptors_in l.descriptors)
