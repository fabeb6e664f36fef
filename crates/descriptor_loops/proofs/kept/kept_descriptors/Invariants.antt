use Rattle.std.proofs.Common.{◌≡◌, ◌++◌, flat_map}
use Rattle.descriptor_loops.specs.Descriptors.{descriptors_of, descriptors_in, kept_bytes}
use Rattle.descriptor_loops.proofs.kept.kept_descriptors.Given as goal

abbrev pub invariant-loop-descriptor : goal.invariant-loop-descriptor
invariant-loop-descriptor g l = l.kept.items ++ flat_map kept_bytes (descriptors_of l.descriptor-iterator) ≡ flat_map kept_bytes (descriptors_in l.bytes)
