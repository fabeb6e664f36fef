-- A line-up that takes the place of the one in force follows it.
use Rattle.std.specs.Prelude.{◌≡◌, ◌≤◌, ℕ, List, Some, None}
use Rattle.description_parts.specs.Ranges.{IsInRange}
use Rattle.slot_plan.specs.declared.slot.Slot.{Slot}
use Rattle.slot_plan.specs.declared.slot.Slot.TheVariants.{Null}
use Rattle.slot_plan.specs.SlotPids.{slot_pid}
use Rattle.plan_checker.specs.Served.{Served}
use Rattle.line_ups.specs.Kept.{slot_with}
use Rattle.mux_core.specs.Scheduled.{Scheduled}
use Rattle.mux_core.specs.Histories.{History}
use Rattle.mux_core.specs.LineUps.{scheduled_by, next_history, line_up_cause, UntouchedOver, SilentBefore}
use Rattle.turns.specs.Turns.{Turn, turn_with, AreOff, Follows}

-- no line-up before the one in force had a PID that comes
abbrev pub AreNew : Scheduled → Served → List Turn → Type 0
AreNew d next earlier = (pid : ℕ) (slot : Slot) → slot_pid next.description slot ≡ Some pid → slot_with d.description pid ≡ Null → AreOff earlier pid

abbrev pub FollowsLaw : Type 0
FollowsLaw = (from : ℕ) (d : Scheduled) (h : History) (next : Served) (earlier : List Turn) → IsInRange d.description → IsInRange next.description →
    from ≤ h.slots → line_up_cause d h next ≡ None → UntouchedOver d h next → SilentBefore d h next → AreNew d next earlier →
    Follows (turn_with h.slots (scheduled_by next) (next_history d h next.description)) (turn_with from d h) earlier
