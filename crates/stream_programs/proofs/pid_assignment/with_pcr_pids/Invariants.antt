use Rattle.std.proofs.Common.{◌≡◌, [], ◌++◌, drop}
use Rattle.stream_programs.specs.PidAssignment.{with_pcr_pids}
use Rattle.stream_programs.proofs.pid_assignment.with_pcr_pids.Given as goal

abbrev pub invariant-loop-map_pid : goal.invariant-loop-map_pid
invariant-loop-map_pid g l =
    with_pcr_pids (l.streams ++ l.maps) [] l.maps ≡ with_pcr_pids l.used l.given.items (drop l.map_pid-index l.maps)
