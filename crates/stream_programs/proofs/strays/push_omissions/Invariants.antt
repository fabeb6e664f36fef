use Rattle.std.proofs.Common.{◌≡◌, ◌++◌, flat_map, drop}
use Rattle.stream_programs.specs.StrayPids.{omitted_pid}
use Rattle.stream_programs.proofs.strays.push_omissions.Given as goal

abbrev pub invariant-loop-omission : goal.invariant-loop-omission
invariant-loop-omission g l = l.initial.pids.items ++ flat_map omitted_pid l.left_out ≡ l.pids.items ++ flat_map omitted_pid (drop l.omission-index l.left_out)
