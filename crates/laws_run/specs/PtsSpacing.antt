-- When a monitor reports nothing at all of the finished bytes of a run: units come often, and the sections are distinguishable from PES
-- packets and stuffing.
use Rattle.std.specs.Prelude.{◌≡◌, ℕ, ◌+◌, ◌-◌, ◌^◌, ◌<◌, ◌≤◌, false, List, [], ◌∷◌, slice_get, Some, None}
use Rattle.pes_packet.specs.AccessUnits.{AccessUnit}
use Rattle.pes_packet.specs.Units.{units_of}
use Rattle.slot_contents.specs.Contents.{run_bytes}
use Rattle.description_parts.specs.Described.{DescribedStream}
use Rattle.description_parts.specs.Ranges.{IsInRange}
use Rattle.description_parts.specs.Tables.{table_count}
use Rattle.slot_plan.specs.Promised.{Promised}
use Rattle.monitor.specs.Faults.{faults_of}
use Rattle.mux_core.specs.Scheduled.{Scheduled}
use Rattle.mux_core.specs.Histories.{History, content_at}
use Rattle.mux_core.specs.Headline.{UnitsKept}
use Rattle.mux_core.specs.MuxStates.{MuxState, Represents}
use Rattle.mux_core.specs.WholeJobs.{first_refused, capacity_for, job_history, output_of}
use Rattle.laws_run.specs.Distinguishable.{IsDistinguishable}
use Rattle.laws_run.specs.Monitored.{IsWide}

-- 700 ms in units of 90 kHz
abbrev pub greatest_gap : ℕ
greatest_gap = 63000

-- the DTS of each unit is at most 700 ms, less the lead, after the DTS of the unit before it: so the unit begins within 700 ms after the unit
-- before it, even if that unit is sent as early, and this unit as late, as it may be
unfoldable pub FollowSoon : ℕ → ℕ → List AccessUnit → Type 0
FollowSoon lead before [] = Unit {0}
FollowSoon lead before (u ∷ us) = (u.dts + lead ≤ before + greatest_gap) × FollowSoon lead u.dts us

unfoldable pub ComeOften : ℕ → List AccessUnit → Type 0
ComeOften lead [] = Unit {0}
ComeOften lead (u ∷ us) = FollowSoon lead u.dts us

-- this holds for each stream, and no ready-made section is taken for a PES packet or for stuffing
pub record HasPtsSpacing (d : Scheduled) (units : ℕ → List AccessUnit) : Type 0 where
  pub streams : (k : ℕ) (s : DescribedStream) → slice_get d.description.streams k ≡ Some s → ComeOften s.lead (units k)
  pub tables : (t : ℕ) → t < table_count d.description → IsDistinguishable d.description t

-- by all fifteen rules a run has no fault
abbrev pub PtsSpacingLaw : Type 0
PtsSpacingLaw = (d : Scheduled) (units : ℕ → List AccessUnit) (n limit : ℕ) → IsInRange d.description → Promised d.description d.schedule → UnitsKept d units →
    HasPtsSpacing d units → IsWide d.description limit → n < 2 ^ 64 - 1 → faults_of d.description.rate limit (run_bytes (content_at d units) 0 n) ≡ []

-- this holds for the units that a multiplexer has accepted, without a change of its texts
abbrev pub AnyStatePtsSpacingLaw : Type 0
AnyStatePtsSpacingLaw = (h : History) (m : MuxState) (n limit : ℕ) → IsInRange m.schedule.description → Promised m.schedule.description m.schedule.schedule →
    Represents h m →
    HasPtsSpacing m.schedule h.units → IsWide m.schedule.description limit → n ≤ 2 ^ 40 →
    faults_of m.schedule.description.rate limit (run_bytes (content_at m.schedule h.units) 0 n) ≡ []

-- and for a whole job
abbrev pub JobPtsSpacingLaw : Type 0
JobPtsSpacingLaw = (d : Scheduled) (units : List (ℕ × AccessUnit)) (n limit : ℕ) → IsInRange d.description → Promised d.description d.schedule →
    first_refused d (capacity_for units) [] units ≡ None → HasPtsSpacing d (λ k. units_of k units) → IsWide d.description limit → n ≤ 2 ^ 40 →
    faults_of d.description.rate limit (output_of false d (job_history units n)) ≡ []
