-- Of what a multiplexer wrote, viewed at its rate, no clock reference has an error (ETSI TR 101 290, 5.2.2): none comes too late (2.3.a), none
-- is too far from the one before (2.3.b), and none is inaccurate (2.4).
use Rattle.std.specs.Prelude.{◌≡◌, ℕ, ◌≤◌, false, List, [], ◌∷◌, ◌++◌, All, IfSome, Some, None}
use Rattle.ts_packet.specs.Views.{PacketView}
use Rattle.ts_packet.specs.Reading.{packet_at}
use Rattle.ts_packet.specs.PidList.{cut_packets}
use Rattle.slot_contents.specs.Contents.{run_bytes}
use Rattle.pes_packet.specs.AccessUnits.{AccessUnit}
use Rattle.description_parts.specs.Ranges.{IsInRange}
use Rattle.slot_plan.specs.Promised.{Promised}
use Rattle.mux_core.specs.Scheduled.{Scheduled}
use Rattle.mux_core.specs.Headline.{UnitsKept}
use Rattle.mux_core.specs.Histories.{content_at}
use Rattle.mux_core.specs.WholeJobs.{capacity_for, first_refused, job_history, output_of}
use Rattle.arrival.specs.declared.arrival.Arrival.TheVariants.{AtRate}
use Rattle.arrival.specs.Clock.{greatest_interval}
use Rattle.tr101290.specs.declared.report.Inaccuracy.{Inaccuracy}
use Rattle.tr101290.specs.declared.report.PcrReport.{PcrReport}
use Rattle.tr101290.specs.Errors.{difference_in}
use Rattle.tr101290.specs.RateJudges.{last_errors}
use Rattle.tr101290.specs.Watches.{PcrState}
use Rattle.ts_watch.specs.Choices.{RequestView}
use Rattle.ts_report.specs.Seen.{SeenState, reference_errors, report_on}
use Rattle.ts_report.specs.Views.{after_all, start}
use Rattle.laws_view.specs.StreamPackets.{most_packets, sound_packet}

abbrev pub IsSoon : ℕ → Type 0
IsSoon ticks = ticks ≤ greatest_interval

-- less than a tick of 27 MHz, rounded up to whole nanoseconds
abbrev pub IsNear : Inaccuracy → Type 0
IsNear off = off.nanoseconds ≤ 38

-- the report on a clock reference: its byte and its value come at most 100 ms after the byte and the value of the reference before it on its
-- PID, and its value is within a tick of its place at the rate
pub record IsWithin (report : PcrReport) : Type 0 where
  pub interval : IfSome report.interval IsSoon
  pub difference : IfSome (difference_in report.step) IsSoon
  pub inaccuracy : IfSome report.inaccuracy IsNear

-- the next packet has such a report if it has a reference, and it has no event of these errors
pub record IsFine (s : SeenState) (packet : PacketView) : Type 0 where
  pub report : IfSome (report_on s packet) IsWithin
  pub events : reference_errors s packet ≡ []

-- what the line `clock` of a PID says: no interval is longer than 100 ms, and no reference is off by a tick
pub record IsFineClock (entry : ℕ × PcrState) : Type 0 where
  pub interval : IsSoon entry.1.counts.interval
  pub inaccuracy : entry.1.counts.inaccuracy ≤ 38

-- this holds for each packet that is read, after the packets before it; at the end the lines `clock` say so, and no error of accuracy is held
pub record NoReferenceError (request : RequestView) (packets : List (List ℕ)) : Type 0 where
  pub each : (before later : List (List ℕ)) (bytes : List ℕ) (packet : PacketView) → packets ≡ before ++ bytes ∷ later →
      sound_packet (packet_at bytes) ≡ Some packet → IsFine (after_all (start request) before).seen packet
  pub clocks : All IsFineClock (after_all (start request) packets).seen.watches.watches
  pub none_left : last_errors (after_all (start request) packets).seen.rules.judge ≡ []

-- this holds for a run over a plan that keeps its conditions, or over two plans in turn, whatever streams are viewed
abbrev pub RunReferencesLaw : Type 0
RunReferencesLaw = (d : Scheduled) (units : ℕ → List AccessUnit) (slots : ℕ) (request : RequestView) → IsInRange d.description →
    Promised d.description d.schedule → UnitsKept d units → slots ≤ most_packets → request.options.arrival ≡ AtRate d.description.rate →
    NoReferenceError request (cut_packets (run_bytes (content_at d units) 0 slots))

-- and so of a whole job, if no unit of it is refused
abbrev pub JobReferencesLaw : Type 0
JobReferencesLaw = (d : Scheduled) (units : List (ℕ × AccessUnit)) (slots : ℕ) (request : RequestView) → IsInRange d.description →
    Promised d.description d.schedule → first_refused d (capacity_for units) [] units ≡ None → slots ≤ most_packets →
    request.options.arrival ≡ AtRate d.description.rate → NoReferenceError request (cut_packets (output_of false d (job_history units slots)))
