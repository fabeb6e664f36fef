-- What a monitor reports of the finished bytes of a run (ETSI TR 101 290, 5.2): nothing, rule by rule, in the monitor's own words.
use Rattle.std.specs.Prelude.{◌≡◌, ℕ, ◌-◌, ◌^◌, ◌<◌, ◌≤◌, false, List, [], None, All}
use Rattle.std.specs.List.{enumerate_from}
use Rattle.pes_packet.specs.AccessUnits.{AccessUnit}
use Rattle.ts_packet.specs.PidList.{cut_packets}
use Rattle.slot_contents.specs.Contents.{run_bytes}
use Rattle.description_parts.specs.Described.{Described}
use Rattle.description_parts.specs.Ranges.{IsInRange}
use Rattle.slot_plan.specs.Promised.{Promised}
use Rattle.monitor.specs.Begins.{found_on}
use Rattle.monitor.specs.Faults.{packet_faults, cut_faults, finding_faults, pat_late, map_late, table_late, pcr_late}
use Rattle.mux_core.specs.Scheduled.{Scheduled}
use Rattle.mux_core.specs.Histories.{History, content_at}
use Rattle.mux_core.specs.Headline.{UnitsKept}
use Rattle.mux_core.specs.MuxStates.{MuxState, Represents}
use Rattle.mux_core.specs.WholeJobs.{first_refused, capacity_for, job_history, output_of}

-- ---- faults of packets and of findings by themselves

pub record IsSound (bytes : List ℕ) : Type 0 where
  -- each packet begins with its sync byte, can be read and has no transport_error_indicator
  pub packets : packet_faults (enumerate_from 0 (cut_packets bytes)) ≡ []
  -- the bytes end with a whole packet
  pub whole : cut_faults bytes ≡ []
  -- on each PID each continuity_counter follows, and no section is refused, for its check word or otherwise
  pub findings : (pid : ℕ) → finding_faults pid (found_on pid bytes) ≡ []

-- this holds for every run of fewer slots than a demultiplexer counts, over any schedule
abbrev pub SoundLaw : Type 0
SoundLaw = (d : Scheduled) (units : ℕ → List AccessUnit) (n : ℕ) → IsInRange d.description → UnitsKept d units → n < 2 ^ 64 - 1 →
    IsSound (run_bytes (content_at d units) 0 n)

-- this holds for the units that a multiplexer has accepted, without a change of its texts
abbrev pub AnyStateSoundLaw : Type 0
AnyStateSoundLaw = (h : History) (m : MuxState) (n : ℕ) → IsInRange m.schedule.description → Represents h m → n ≤ 2 ^ 40 →
    IsSound (run_bytes (content_at m.schedule h.units) 0 n)

-- and for a whole job
abbrev pub JobSoundLaw : Type 0
JobSoundLaw = (d : Scheduled) (units : List (ℕ × AccessUnit)) (n : ℕ) → IsInRange d.description → first_refused d (capacity_for units) [] units ≡ None →
    n ≤ 2 ^ 40 →
    IsSound (output_of false d (job_history units n))

-- ---- what recurs, at the description's rate

-- no program asks for its clock references more rarely than this, in milliseconds
abbrev pub IsWide : Described → ℕ → Type 0
IsWide d limit = All (λ p. p.pcr_limit ≤ limit) d.programs

pub record IsInTime (d : Scheduled) (limit : ℕ) (bytes : List ℕ) : Type 0 where
  -- on each PID that has clock references they come within the limit
  pub clocks : (pid : ℕ) → pcr_late d.description.rate limit bytes pid ≡ []
  -- sections of program association begin every 500 ms, from the start of the run to its end
  pub associations : pat_late d.description.rate bytes ≡ []
  -- sections of the program map on each PID that a PAT names, from the packet in which the PAT names it to the end
  pub maps : (pid : ℕ) → map_late d.description.rate bytes pid ≡ []
  -- sections of the network information of the actual network, after the first, every 10 s
  pub network : table_late d.description.rate 10000 0x10 0x40 bytes ≡ []
  -- sections of the service description of the actual stream, every 2 s
  pub services : table_late d.description.rate 2000 0x11 0x42 bytes ≡ []
  -- sections of present and following events of the actual stream, every 2 s
  pub events : table_late d.description.rate 2000 0x12 0x4E bytes ≡ []
  -- sections of time and date, every 30 s
  pub time : table_late d.description.rate 30000 0x14 0x70 bytes ≡ []

-- this holds for every run over a schedule that keeps its promises: one plan, or two in turn
abbrev pub InTimeLaw : Type 0
InTimeLaw = (d : Scheduled) (units : ℕ → List AccessUnit) (n limit : ℕ) → IsInRange d.description → Promised d.description d.schedule → UnitsKept d units →
    IsWide d.description limit → n < 2 ^ 64 - 1 → IsInTime d limit (run_bytes (content_at d units) 0 n)

-- this holds for the units that a multiplexer has accepted, without a change of its texts
abbrev pub AnyStateInTimeLaw : Type 0
AnyStateInTimeLaw = (h : History) (m : MuxState) (n limit : ℕ) → IsInRange m.schedule.description → Promised m.schedule.description m.schedule.schedule →
    Represents h m →
    IsWide m.schedule.description limit → n ≤ 2 ^ 40 → IsInTime m.schedule limit (run_bytes (content_at m.schedule h.units) 0 n)

-- and for a whole job
abbrev pub JobInTimeLaw : Type 0
JobInTimeLaw = (d : Scheduled) (units : List (ℕ × AccessUnit)) (n limit : ℕ) → IsInRange d.description → Promised d.description d.schedule →
    first_refused d (capacity_for units) [] units ≡ None → IsWide d.description limit → n ≤ 2 ^ 40 → IsInTime d limit (output_of false d (job_history units n))
