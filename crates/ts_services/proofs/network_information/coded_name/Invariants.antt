use Rattle.std.proofs.Common.{◌≡◌}
use Rattle.descriptor_loops.specs.Descriptors.{descriptors_of, descriptors_in}
use Rattle.ts_services.specs.NetworkInformation.{coded_name}
use Rattle.ts_services.proofs.network_information.coded_name.Given as goal

abbrev pub invariant-loop-descriptor : goal.invariant-loop-descriptor
invariant-loop-descriptor l = coded_name (descriptors_of l.descriptor-iterator) ≡ coded_name (descriptors_in l.bytes)
