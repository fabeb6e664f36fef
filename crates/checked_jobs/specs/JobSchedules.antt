-- The schedule that the plans of a job make.
use Rattle.std.specs.Prelude.{ℕ, Option, Some, None}
use Rattle.slot_plan.specs.Planned.{Planned}
use Rattle.plan_checker.specs.Served.{Served}
use Rattle.mux_core.specs.Scheduled.{Scheduled}
use Rattle.mux_core.specs.WholeJobs.{plan_schedule, switch_schedule}

-- one plan over and over, or a second plan after `periods` periods of the first
abbrev pub schedule_by : Served → Option Planned → ℕ → Scheduled
schedule_by first None periods = plan_schedule first
schedule_by first (Some second) periods = switch_schedule (record { first = first; second = second }) periods
