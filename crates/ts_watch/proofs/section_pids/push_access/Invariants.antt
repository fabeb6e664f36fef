use Rattle.std.proofs.Common.{◌≡◌, ◌++◌, flat_map}
use Rattle.descriptor_loops.specs.Descriptors.{descriptors_in, descriptors_of}
use Rattle.ts_watch.specs.SectionPids.{descriptor_pid}
use Rattle.ts_watch.proofs.section_pids.push_access.Given as goal

abbrev pub invariant-loop-descriptor : goal.invariant-loop-descriptor
invariant-loop-descriptor l =
    l.pids.items ++ flat_map descriptor_pid (descriptors_of l.descriptor-iterator) ≡ l.initial.pids.items ++ flat_map descriptor_pid (descriptors_in l.bytes)
