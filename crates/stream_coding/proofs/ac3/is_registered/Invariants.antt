use Rattle.std.proofs.Common.{◌≡◌}
use Rattle.std.specs.List.{list_any}
use Rattle.descriptor_loops.specs.Descriptors.{descriptors_of, descriptors_in}
use Rattle.stream_coding.specs.Codings.{registers_ac3}
use Rattle.stream_coding.proofs.ac3.is_registered.Given as goal

abbrev pub invariant-loop-descriptor : goal.invariant-loop-descriptor
invariant-loop-descriptor l = list_any registers_ac3 (descriptors_of l.descriptor-iterator) ≡ list_any registers_ac3 (descriptors_in l.descriptors)
