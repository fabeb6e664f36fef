use Rattle.std.proofs.Common.{◌≡◌, [], drop}
use Rattle.joined_parts.specs.MapPids.{pids_after}
use Rattle.joined_parts.proofs.map_pids.pids_of.Given as goal

abbrev pub invariant-loop-program : goal.invariant-loop-program
invariant-loop-program l = pids_after l.pids.entries (drop l.program-index l.programs) ≡ pids_after [] l.programs
