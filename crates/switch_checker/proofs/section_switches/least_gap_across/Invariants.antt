use Rattle.std.proofs.Common.{◌≡◌, ◌+◌, ◌-◌, ◌*◌}
use Rattle.own_slots.specs.Period.{per_period, position}
use Rattle.own_slots.specs.Extremes.{least}
use Rattle.slot_plan.specs.Items.{marks}
use Rattle.switch_checker.proofs.SwitchGaps.{first_gap, gap_after}
use Rattle.switch_checker.proofs.section_switches.least_gap_across.Given as goal

abbrev pub invariant-loop-step : goal.invariant-loop-step
invariant-loop-step l = record {
  left : l.before ≡ position (marks l.item l.first) (l.row * per_period (marks l.item l.first) - l.row + l.step);
  reached : l.after ≡ position (marks l.item l.second) l.step;
  found : l.least ≡ least (first_gap (marks l.item l.first) (marks l.item l.second) l.row) l.step (gap_after (marks l.item l.first) (marks l.item l.second) l.row);
}
