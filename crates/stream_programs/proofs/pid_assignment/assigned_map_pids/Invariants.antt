use Rattle.std.proofs.Common.{◌≡◌, [], ◌++◌, drop}
use Rattle.stream_programs.specs.PidAssignment.{assigned_map_pids}
use Rattle.stream_programs.proofs.pid_assignment.assigned_map_pids.Given as goal

abbrev pub invariant-loop-pid : goal.invariant-loop-pid
invariant-loop-pid g l = record {
  own : l.own ≡ l.streams ++ l.given.items;
  taken : l.taken ≡ (l.streams ++ l.maps) ++ l.given.items;
  places : assigned_map_pids l.streams l.maps [] l.maps ≡ assigned_map_pids l.streams l.maps l.given.items (drop l.pid-index l.maps);
}
