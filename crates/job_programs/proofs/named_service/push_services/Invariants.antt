use Rattle.std.proofs.Common.{◌≡◌, ◌++◌, drop, map}
use Rattle.job_programs.specs.Information.{service_for}
use Rattle.job_programs.proofs.named_service.push_services.Given as goal

abbrev pub invariant-loop-program : goal.invariant-loop-program
invariant-loop-program l =
    l.fn.named.items ++ map (service_for l.names l.services) l.programs
    ≡ l.named.items ++ map (service_for l.names l.services) (drop l.program-index l.programs)
