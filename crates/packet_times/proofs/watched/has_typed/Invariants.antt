use Rattle.std.proofs.Common.{◌≡◌}
use Rattle.std.specs.List.{list_any}
use Rattle.descriptor_loops.specs.Descriptors.{descriptors_of, descriptors_in}
use Rattle.packet_times.specs.Watched.{is_typed}
use Rattle.packet_times.proofs.watched.has_typed.Given as goal

abbrev pub invariant-loop-descriptor : goal.invariant-loop-descriptor
invariant-loop-descriptor l = list_any is_typed (descriptors_of l.descriptor-iterator) ≡ list_any is_typed (descriptors_in l.descriptors)
