-- What comes back: what a demultiplexer finds in the finished bytes of a run, with their end.
use Rattle.std.specs.Prelude.{◌≡◌, ◌⊎◌, ℕ, ◌-◌, ◌^◌, ◌<◌, ◌≤◌, List, map, slice_get, Some, All}
use Rattle.pes_packet.specs.AccessUnits.{AccessUnit}
use Rattle.slot_contents.specs.Contents.{run_bytes}
use Rattle.description_parts.specs.Described.{Described, DescribedStream}
use Rattle.description_parts.specs.Tables.{table_count, table_pid}
use Rattle.description_parts.specs.Ranges.{IsInRange}
use Rattle.pid_findings.specs.Views.{FindingView}
use Rattle.demux.specs.Laws.{with_pid_at}
use Rattle.laws_run.specs.Sent.{each_found}
use Rattle.laws_run.specs.Units.{unit_found}
use Rattle.laws_run.specs.Sections.{section_found}
use Rattle.laws_run.specs.PidLaws.{all_found, found_on, InOrder}
use Rattle.mux_core.specs.declared.room.Room.{Room}
use Rattle.mux_core.specs.Scheduled.{Scheduled}
use Rattle.mux_core.specs.Histories.{History, empty_history, owned_stream, table_of, content_at, content_over, bytes_of, TextsSoFar}
use Rattle.mux_core.specs.Headline.{UnitsKept}
use Rattle.mux_core.specs.MuxStates.{MuxState, Represents}
use Rattle.mux_core.specs.Events.{Step, history_after}
use Rattle.laws_run.specs.Placed.{sent_units, sent_sections}
use Rattle.laws_run.specs.Distinguishable.{IsDistinguishable}

-- ---- the expected findings

-- for a stream: one finding for each unit with a sent packet, in order. A unit that was sent whole is found with its stream_id, its stamps
-- as on the wire and its data; the last unit may be cut short
abbrev pub stream_findings : Scheduled → (ℕ → List AccessUnit) → ℕ → ℕ → DescribedStream → List FindingView
stream_findings d units n k s =
    map (with_pid_at s.pid) (each_found (unit_found s.stream_id d.description.base0) n (sent_units (owned_stream d k s) n (units k)))

-- for a table: one finding for each section with a sent packet, in order
abbrev pub table_findings : Scheduled → ℕ → ℕ → List FindingView
table_findings d n t = map (with_pid_at (table_pid d.description t)) (each_found section_found n (sent_sections (table_of d t) n))

-- ---- the law

-- a PID of a stream, or of a table
abbrev pub IsSentOn : Described → ℕ → Type 0
IsSentOn d pid = ((k : ℕ) × (s : DescribedStream) × (slice_get d.streams k ≡ Some s) × (s.pid ≡ pid)) ⊎ ((t : ℕ) × (t < table_count d) × (table_pid d t ≡ pid))

abbrev pub IsOfSent : Described → FindingView → Type 0
IsOfSent d f = (pid : ℕ) × (f.pid ≡ Some pid) × IsSentOn d pid

-- the findings in the bytes of the first n slots
pub record GivenBack (d : Scheduled) (units : ℕ → List AccessUnit) (n : ℕ) (bytes : List ℕ) : Type 0 where
  -- on a stream's PID exactly its units
  pub streams : (k : ℕ) (s : DescribedStream) → slice_get d.description.streams k ≡ Some s → found_on s.pid bytes ≡ stream_findings d units n k s
  -- on a table's PID exactly its sections, if these are distinguishable
  pub tables : (t : ℕ) → t < table_count d.description → IsDistinguishable d.description t → found_on (table_pid d.description t) bytes ≡ table_findings d n t
  -- nothing else, on any PID or on none
  pub nothing_else : All (IsOfSent d.description) (all_found bytes)
  -- in the order of the packets; findings that the end decides come last, with the number of packets
  pub in_order : InOrder 0 n (all_found bytes)

-- the same without what the texts decide: on a stream's PID exactly its units, and nothing but streams and tables
pub record StreamsGivenBack (d : Scheduled) (units : ℕ → List AccessUnit) (n : ℕ) (bytes : List ℕ) : Type 0 where
  pub streams : (k : ℕ) (s : DescribedStream) → slice_get d.description.streams k ≡ Some s → found_on s.pid bytes ≡ stream_findings d units n k s
  pub nothing_else : All (IsOfSent d.description) (all_found bytes)
  pub in_order : InOrder 0 n (all_found bytes)

-- this holds however the texts change, and so for all that a multiplexer represents
abbrev pub StreamsBackLaw : Type 0
StreamsBackLaw = (d : Scheduled) (changes : TextsSoFar) (units : ℕ → List AccessUnit) (n : ℕ) → IsInRange d.description → UnitsKept d units →
    n < 2 ^ 64 - 1 → StreamsGivenBack d units n (run_bytes (content_over d changes units) 0 n)

abbrev pub AnyStateStreamsLaw : Type 0
AnyStateStreamsLaw = (h : History) (m : MuxState) (n : ℕ) → IsInRange m.schedule.description → Represents h m → n ≤ 2 ^ 40 →
    StreamsGivenBack m.schedule h.units n (run_bytes (content_over m.schedule h.changes h.units) 0 n)

-- the whole holds for every run of fewer slots than a demultiplexer counts, over any schedule
abbrev pub GivenBackLaw : Type 0
GivenBackLaw = (d : Scheduled) (units : ℕ → List AccessUnit) (n : ℕ) → IsInRange d.description → UnitsKept d units → n < 2 ^ 64 - 1 →
    GivenBack d units n (run_bytes (content_at d units) 0 n)

-- this holds for the units that a multiplexer has accepted, without a change of its texts, in each number of its slots
abbrev pub AnyStateLaw : Type 0
AnyStateLaw = (h : History) (m : MuxState) (n : ℕ) → IsInRange m.schedule.description → Represents h m → n ≤ 2 ^ 40 →
    GivenBack m.schedule h.units n (run_bytes (content_at m.schedule h.units) 0 n)

-- this holds for the history that any units and slots leave, in any order, with this room for the units of streams; refused units are no part
-- of it
abbrev pub DrivenLaw : Type 0
DrivenLaw = (d : Scheduled) (capacity : Room) (steps : List Step) → IsInRange d.description →
    GivenBack d (history_after d capacity empty_history steps).units (history_after d capacity empty_history steps).slots
    (bytes_of d (history_after d capacity empty_history steps))
