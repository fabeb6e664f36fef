use Rattle.std.proofs.Common.{◌≡◌, ◌++◌, map, drop}
use Rattle.demux.specs.Stream.{ended_found}
use Rattle.pid_findings.specs.Shown.{KeepsJoined, finding_view}
use Rattle.demux.proofs.states.end_each.Given as goal

abbrev pub invariant-loop-i : goal.invariant-loop-i
invariant-loop-i g l = record {
  found : map finding_view l.found.items ++ ended_found l.packet (drop l.i l.states.entries)
      ≡ map finding_view l.fn.found.items ++ ended_found l.packet l.states.entries;
  joined : KeepsJoined l.fn.found.items l.found.items;
}
