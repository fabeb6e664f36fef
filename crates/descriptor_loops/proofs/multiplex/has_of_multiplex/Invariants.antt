use Rattle.std.proofs.Common.{◌≡◌}
use Rattle.std.specs.List.{list_any}
use Rattle.descriptor_loops.specs.Descriptors.{descriptors_of, descriptors_in, is_of_multiplex}
use Rattle.descriptor_loops.proofs.multiplex.has_of_multiplex.Given as goal

abbrev pub invariant-loop-descriptor : goal.invariant-loop-descriptor
invariant-loop-descriptor l = list_any is_of_multiplex (descriptors_of l.descriptor-iterator) ≡ list_any is_of_multiplex (descriptors_in l.bytes)
