use Rattle.std.proofs.Common.{◌≡◌, ◌++◌, drop}
use Rattle.packet_times.specs.GapEvents.{gap_events}
use Rattle.packet_times.proofs.gap_events.push_gaps.Given as goal

abbrev pub invariant-loop-gap : goal.invariant-loop-gap
invariant-loop-gap l = l.events.items ++ gap_events l.named (drop l.gap-index l.gaps) ≡ l.fn.events.items ++ gap_events l.named l.gaps
