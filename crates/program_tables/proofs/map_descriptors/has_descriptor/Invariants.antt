use Rattle.std.proofs.Common.{◌≡◌}
use Rattle.std.specs.List.{list_any}
use Rattle.descriptor_loops.specs.Descriptors.{DescriptorView, descriptor_view, descriptors_of, descriptors_in}
use Rattle.program_tables.specs.ProgramMaps.{is_same_descriptor}
use Rattle.program_tables.proofs.map_descriptors.has_descriptor.Given as goal

abbrev pub invariant-loop-other : goal.invariant-loop-other
invariant-loop-other l =
    list_any (λ (d : DescriptorView). is_same_descriptor d (descriptor_view l.descriptor)) (descriptors_of l.other-iterator)
    ≡ list_any (λ (d : DescriptorView). is_same_descriptor d (descriptor_view l.descriptor)) (descriptors_in l.bytes)
