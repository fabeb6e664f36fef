use Rattle.std.proofs.Common.{◌≡◌}
use Rattle.std.specs.List.{list_all}
use Rattle.descriptor_loops.specs.Descriptors.{DescriptorView, descriptors_of, descriptors_in}
use Rattle.program_tables.specs.ProgramMaps.{has_descriptor}
use Rattle.program_tables.proofs.map_descriptors.has_descriptors.Given as goal

abbrev pub invariant-loop-descriptor : goal.invariant-loop-descriptor
invariant-loop-descriptor l =
    list_all (λ (d : DescriptorView). has_descriptor l.bytes d) (descriptors_of l.descriptor-iterator)
    ≡ list_all (λ (d : DescriptorView). has_descriptor l.bytes d) (descriptors_in l.others)
