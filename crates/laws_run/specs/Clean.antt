-- That nothing is wrong with the finished bytes of a run (ETSI TR 101 290, 5.2.1 and 5.2.2): no packet and no section is refused, and each
-- packet follows the one before it on its PID.
use Rattle.std.specs.Prelude.{◌≡◌, ℕ, ◌-◌, ◌^◌, ◌<◌, ◌≤◌, List, slice_get, Option, Some, None, All}
use Rattle.pes_packet.specs.AccessUnits.{AccessUnit}
use Rattle.slot_contents.specs.Contents.{run_bytes}
use Rattle.description_parts.specs.Described.{DescribedStream}
use Rattle.description_parts.specs.Tables.{table_count, table_pid}
use Rattle.description_parts.specs.Ranges.{IsInRange}
use Rattle.pid_findings.specs.Views.{WhatView, IsDuplicate, BreaksCounter, IsScrambled, IsTruncated, IsSection, IsBadSection, IsPes, IsBadPes, IsBadPacket}
use Rattle.pid_findings.specs.Views.{IsErrored}
use Rattle.pid_findings.specs.Views.{IsStray}
use Rattle.pid_findings.specs.Views.{FindingView}
use Rattle.laws_run.specs.PidLaws.{all_found, found_on}
use Rattle.mux_core.specs.declared.room.Room.{Room}
use Rattle.mux_core.specs.Scheduled.{Scheduled}
use Rattle.mux_core.specs.Histories.{History, empty_history, content_at, bytes_of}
use Rattle.mux_core.specs.Headline.{UnitsKept}
use Rattle.mux_core.specs.MuxStates.{MuxState, Represents}
use Rattle.mux_core.specs.Events.{Step, history_after}
use Rattle.laws_run.specs.Distinguishable.{IsDistinguishable}

-- what may be wrong
pub data Fault : Type 0 where
  RefusedPacket : Fault
  ErroredPacket : Fault
  BrokenCounter : Fault
  RepeatedPacket : Fault
  ScrambledPacket : Fault
  RefusedSection : Fault
  RefusedPes : Fault

-- which fault a finding is, if any
unfoldable pub fault_of : WhatView → Option Fault
fault_of (IsBadPacket error) = Some RefusedPacket
fault_of IsErrored = Some ErroredPacket
fault_of (BreaksCounter expected found) = Some BrokenCounter
fault_of IsDuplicate = Some RepeatedPacket
fault_of IsScrambled = Some ScrambledPacket
fault_of (IsBadSection error) = Some RefusedSection
fault_of (IsBadPes error) = Some RefusedPes
fault_of (IsSection bytes) = None
fault_of (IsPes header open_ended body) = None
fault_of (IsTruncated bytes) = None
fault_of (IsStray size) = None

-- none of these findings is this fault
abbrev pub NoneIs : Fault → List FindingView → Type 0
NoneIs fault found = All (λ f. fault_of f.what ≡ Some fault → ⊥) found

-- the findings in the bytes of a run, with their end
pub record IsClean (d : Scheduled) (bytes : List ℕ) : Type 0 where
  -- each packet can be read, and none has the transport_error_indicator
  pub packets : NoneIs RefusedPacket (all_found bytes)
  pub unflagged : NoneIs ErroredPacket (all_found bytes)
  -- each continuity_counter follows the one before it on its PID, no packet is repeated, and none is scrambled
  pub counters : NoneIs BrokenCounter (all_found bytes)
  pub once : NoneIs RepeatedPacket (all_found bytes)
  pub clear : NoneIs ScrambledPacket (all_found bytes)
  -- no section is refused, whatever the ready-made ones begin with
  pub sections : NoneIs RefusedSection (all_found bytes)
  -- no PES packet is refused, on a stream's PID or on the PID of a table whose sections are distinguishable
  pub stream_pes : (k : ℕ) (s : DescribedStream) → slice_get d.description.streams k ≡ Some s → NoneIs RefusedPes (found_on s.pid bytes)
  pub table_pes : (t : ℕ) → t < table_count d.description → IsDistinguishable d.description t → NoneIs RefusedPes (found_on (table_pid d.description t) bytes)

-- this holds for every run of fewer slots than a demultiplexer counts, over any schedule
abbrev pub CleanLaw : Type 0
CleanLaw = (d : Scheduled) (units : ℕ → List AccessUnit) (n : ℕ) → IsInRange d.description → UnitsKept d units → n < 2 ^ 64 - 1 →
    IsClean d (run_bytes (content_at d units) 0 n)

-- this holds for the units that a multiplexer has accepted, without a change of its texts, in each number of its slots
abbrev pub AnyStateCleanLaw : Type 0
AnyStateCleanLaw = (h : History) (m : MuxState) (n : ℕ) → IsInRange m.schedule.description → Represents h m → n ≤ 2 ^ 40 →
    IsClean m.schedule (run_bytes (content_at m.schedule h.units) 0 n)

-- this holds for the history that any units and slots leave, in any order
abbrev pub DrivenCleanLaw : Type 0
DrivenCleanLaw = (d : Scheduled) (capacity : Room) (steps : List Step) → IsInRange d.description →
    IsClean d (bytes_of d (history_after d capacity empty_history steps))
