use Rattle.std.proofs.Common.{◌≡◌, length}
use Rattle.dvb_tables.specs.DescriptorLoops.{are_whole_descriptors}
use Rattle.dvb_tables.proofs.descriptor_loop.are_whole_descriptors.Given as goal

abbrev pub invariant-loop-rest : goal.invariant-loop-rest
invariant-loop-rest l = are_whole_descriptors l.rest ≡ are_whole_descriptors l.bytes

abbrev pub decreases-loop-rest : goal.decreases-loop-rest
decreases-loop-rest l = length l.rest
