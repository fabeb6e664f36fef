use Rattle.std.proofs.Common.{◌≡◌}
use Rattle.std.specs.List.{list_any}
use Rattle.descriptor_loops.specs.Descriptors.{descriptors_of, descriptors_in}
use Rattle.es_buffers.specs.Stays.{names_stills}
use Rattle.es_buffers.proofs.stays.has_stills.Given as goal

abbrev pub invariant-loop-descriptor : goal.invariant-loop-descriptor
invariant-loop-descriptor l = list_any names_stills (descriptors_of l.descriptor-iterator) ≡ list_any names_stills (descriptors_in l.descriptors)
