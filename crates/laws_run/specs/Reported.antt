-- All that a monitor reports on the finished bytes of a run, at the description's rate: over all its rules, faults by one rule at most.
use Rattle.std.specs.Prelude.{◌≡◌, ℕ, ◌-◌, ◌^◌, ◌<◌, ◌≤◌, false, List, [], None}
use Rattle.pes_packet.specs.AccessUnits.{AccessUnit}
use Rattle.slot_contents.specs.Contents.{run_bytes}
use Rattle.description_parts.specs.Ranges.{IsInRange}
use Rattle.slot_plan.specs.Promised.{Promised}
use Rattle.monitor.specs.declared.fault.StreamFault.{StreamFault}
use Rattle.monitor.specs.declared.fault.Rule.TheVariants as rules
use Rattle.monitor.specs.Faults.{on_each, packet_pids, pts_late, faults_of}
use Rattle.mux_core.specs.Scheduled.{Scheduled}
use Rattle.mux_core.specs.Histories.{History, content_at}
use Rattle.mux_core.specs.Headline.{UnitsKept}
use Rattle.mux_core.specs.MuxStates.{MuxState, Represents}
use Rattle.mux_core.specs.WholeJobs.{first_refused, capacity_for, job_history, output_of}
use Rattle.laws_run.specs.Monitored.{IsWide}

-- PTS that come too late: they come as the units come
abbrev pub faults_left : ℕ → List ℕ → List StreamFault
faults_left rate bytes = on_each rules.Pts (pts_late rate bytes) (packet_pids bytes)

-- the faults of all fifteen rules are these
abbrev pub IsReported : Scheduled → ℕ → List ℕ → Type 0
IsReported d limit bytes = faults_of d.description.rate limit bytes ≡ faults_left d.description.rate bytes

-- this holds for every run over a schedule that keeps its promises: one plan, or two in turn
abbrev pub ReportedLaw : Type 0
ReportedLaw = (d : Scheduled) (units : ℕ → List AccessUnit) (n limit : ℕ) → IsInRange d.description → Promised d.description d.schedule → UnitsKept d units →
    IsWide d.description limit → n < 2 ^ 64 - 1 → IsReported d limit (run_bytes (content_at d units) 0 n)

-- this holds for the units that a multiplexer has accepted, without a change of its texts
abbrev pub AnyStateReportedLaw : Type 0
AnyStateReportedLaw = (h : History) (m : MuxState) (n limit : ℕ) → IsInRange m.schedule.description → Promised m.schedule.description m.schedule.schedule →
    Represents h m →
    IsWide m.schedule.description limit → n ≤ 2 ^ 40 → IsReported m.schedule limit (run_bytes (content_at m.schedule h.units) 0 n)

-- and for a whole job
abbrev pub JobReportedLaw : Type 0
JobReportedLaw = (d : Scheduled) (units : List (ℕ × AccessUnit)) (n limit : ℕ) → IsInRange d.description → Promised d.description d.schedule →
    first_refused d (capacity_for units) [] units ≡ None → IsWide d.description limit → n ≤ 2 ^ 40 →
    IsReported d limit (output_of false d (job_history units n))
