use Rattle.std.proofs.Common.{◌≤◌, ◌+◌, ◌*◌, length, map}
use Rattle.std.specs.Vec.{vec_len, vec_capacity}
use Rattle.mux_core.specs.Histories.{History}
use Rattle.mux_core.specs.MuxStates.{Represents}
use Rattle.mux_core.specs.Events.{shown}
use Rattle.mux_core.proofs.EventSteps.{Driven}
use Rattle.mux_core.proofs.driving.drive.Given as goal

abbrev pub invariant-events : goal.invariant-events
invariant-events g l = record {
  room : vec_len l.out + 188 * length l.left.items ≤ vec_capacity l.out;
  driven : (h : History) → Represents h l.fn.mux → Driven h l.fn.mux l.mux (map shown l.initial.left.items) (map shown l.left.items) l.fn.out.items l.out.items;
}

abbrev pub decreases-events : goal.decreases-events
decreases-events g l = length l.left.items
