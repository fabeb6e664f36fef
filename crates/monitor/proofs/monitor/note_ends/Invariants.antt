use Rattle.std.proofs.Common.{◌≡◌, drop}
use Rattle.demux.specs.Stream.{ended_found}
use Rattle.monitor.specs.FindingStates.{all_noted}
use Rattle.monitor.proofs.monitor.note_ends.Given as goal

abbrev pub invariant-loop-i : goal.invariant-loop-i
invariant-loop-i g l =
    all_noted l.found (ended_found l.demux.packets (drop l.i l.demux.states)) ≡ all_noted l.fn.found (ended_found l.demux.packets l.demux.states)
