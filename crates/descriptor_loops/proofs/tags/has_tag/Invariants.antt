use Rattle.std.proofs.Common.{◌≡◌}
use Rattle.std.specs.List.{list_any}
use Rattle.descriptor_loops.specs.Descriptors.{descriptors_of, descriptors_in, is_tagged}
use Rattle.descriptor_loops.proofs.tags.has_tag.Given as goal

abbrev pub invariant-loop-descriptor : goal.invariant-loop-descriptor
invariant-loop-descriptor l = list_any (is_tagged l.tag) (descriptors_of l.descriptor-iterator) ≡ list_any (is_tagged l.tag) (descriptors_in l.bytes)
