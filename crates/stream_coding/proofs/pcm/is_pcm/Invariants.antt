use Rattle.std.proofs.Common.{◌≡◌}
use Rattle.std.specs.List.{list_any}
use Rattle.descriptor_loops.specs.Descriptors.{descriptors_of, descriptors_in}
use Rattle.stream_coding.specs.Codings.{registers_pcm}
use Rattle.stream_coding.proofs.pcm.is_pcm.Given as goal

abbrev pub invariant-loop-descriptor : goal.invariant-loop-descriptor
invariant-loop-descriptor l = list_any registers_pcm (descriptors_of l.descriptor-iterator) ≡ list_any registers_pcm (descriptors_in l.descriptors)
