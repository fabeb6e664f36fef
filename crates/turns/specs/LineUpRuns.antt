-- The promises of the finished bytes of a run over any number of line-ups, at every moment: what stays on air sees no change of the line-up, what comes
-- begins as a run does, and what goes was whole.
use Rattle.std.specs.Prelude.{◌≡◌, ◌⊎◌, ◌≤◌, ◌<◌, ℕ, ◌+◌, ◌*◌, List, [], ◌∷◌, ◌++◌, length, map, Some, slice_get, All}
use Rattle.clock27.specs.Recurrence.{Recur}
use Rattle.clock27.specs.Reference.{pcr_at}
use Rattle.ts_packet.specs.Packets.{pcr_view, null_view}
use Rattle.ts_packet.specs.PidList.{cut_packets, entries_of, pid_list}
use Rattle.slot_contents.specs.Contents.{run_bytes}
use Rattle.description_parts.specs.Described.{DescribedProgram, DescribedStream}
use Rattle.description_parts.specs.Tables.{table_count}
use Rattle.unit_timing.specs.SystemBuffer.{system_tb_fullness, bsys_fullness}
use Rattle.unit_queue.specs.Places.{left_before}
use Rattle.tstd.specs.Carried.{table_packets}
use Rattle.mux_core.specs.Scheduled.{Scheduled}
use Rattle.mux_core.specs.Histories.{History, owned_stream}
use Rattle.mux_core.specs.Headline.{IsTransportPacket, IsNamed, IsPayloadAlone, IsClockAlone, IsAccessAtStart, StreamKept, TableKeptOver}
use Rattle.turns.specs.Turns.{Turn, turn_with, turn_at, content_of, bytes_by, own_bytes, ComesAt, IsOff, IsKept, TurnsFit}

-- the promises for a program whose clock references come on air in slot `at`
pub record ProgramKeptFrom (d : Scheduled) (p : DescribedProgram) (at slots : ℕ) (bytes : List ℕ) : Type 0 where
  -- each packet on its PCR PID has the clock at its byte 10, no payload, and the counter 15
  pub clocks : map (λ e. e.packet) (pid_list p.pcr_pid bytes)
      ≡ map (λ e. pcr_view p.pcr_pid (pcr_at d.description.rate d.description.base0 (188 * e.index + 10))) (pid_list p.pcr_pid bytes)
  -- clock references recur within the program's limit, from the begin of that slot to the end of the run
  pub pcrs_recur : Recur d.description.rate p.pcr_limit (188 * at) (map (λ e. 188 * e.index + 10) (pid_list p.pcr_pid bytes)) (188 * slots)
  -- the transport buffer of its tables never holds more than 512 bytes, nor the system buffer more than 1,536
  pub system_transport : (x : ℕ) → system_tb_fullness d.description.rate x (table_packets p.pmt_pid bytes) ≤ 512
  pub system_buffer : (x : ℕ) → bsys_fullness d.description.rate x (table_packets p.pmt_pid bytes) ≤ 1536

-- the same, with the slot in which its PCR PID comes on air
pub record ProgramOnAir (now : Turn) (earlier : List Turn) (p : DescribedProgram) (slots : ℕ) (bytes : List ℕ) : Type 0 where
  pub at : ℕ
  pub comes : ComesAt p.pcr_pid now earlier at
  pub kept : ProgramKeptFrom now.scheduled p at slots bytes

-- the promises for the whole output of the first slots, by the turn in force in each slot, and for all that the turn in force now has on air
pub record HeadlineOverLineUps (now : Turn) (earlier : List Turn) (slots : ℕ) (bytes : List ℕ) : Type 0 where
  -- 188 bytes a slot
  pub size : length bytes ≡ 188 * slots
  -- each 188 bytes are a packet
  pub packets : All IsTransportPacket (cut_packets bytes)
  -- each packet is the null packet, or is on a PID of the description in force in its slot and not marked as wrong
  pub pids : All (λ e. (e.packet ≡ null_view) ⊎ IsNamed (turn_at now earlier e.index).scheduled.description e.packet) (entries_of bytes)
  -- each packet is in the clear, and has a payload alone or a clock reference alone
  pub clear : All (λ e. IsPayloadAlone e.packet ⊎ IsClockAlone (turn_at now earlier e.index).scheduled.description e.packet) (entries_of bytes)
  -- the random_access_indicator is set only in packets where something begins
  pub access : All (λ e. IsAccessAtStart e.packet) (entries_of bytes)
  -- each stream has all that one line-up promises, over all changes of the line-up
  pub streams : (k : ℕ) (s : DescribedStream) → slice_get now.scheduled.description.streams k ≡ Some s →
      StreamKept now.scheduled k s (now.history.units k) slots bytes
  -- so has each program, from the slot on in which it comes
  pub programs : (i : ℕ) (p : DescribedProgram) → slice_get now.scheduled.description.programs i ≡ Some p → ProgramOnAir now earlier p slots bytes
  -- and each table, by the texts in force and those before them
  pub tables : (t : ℕ) → t < table_count now.scheduled.description → TableKeptOver now.scheduled now.history.changes t slots bytes

-- the promises at each moment since the last turn began, and so for each turn until the next one began
abbrev pub LineUpsLaw : Type 0
LineUpsLaw = (now : Turn) (earlier : List Turn) (slots : ℕ) → TurnsFit now earlier → now.from ≤ slots →
    HeadlineOverLineUps now earlier slots (bytes_by now earlier slots)

-- what was written before a turn stays, and what the turn writes is put behind it
abbrev pub JoinedLaw : Type 0
JoinedLaw = (now before : Turn) (earlier : List Turn) (more : ℕ) →
    bytes_by now (before ∷ earlier) (now.from + more) ≡ bytes_by before earlier now.from ++ run_bytes (content_of now) now.from more

-- a PID that the line-up does not have carries nothing since the turn began
abbrev pub GoneLaw : Type 0
GoneLaw = (now before : Turn) (earlier : List Turn) (pid more : ℕ) → TurnsFit now (before ∷ earlier) → IsOff now pid → pid < 8191 →
    pid_list pid (bytes_by now (before ∷ earlier) (now.from + more)) ≡ pid_list pid (bytes_by before earlier now.from)

-- what goes was whole: a stream of which no unit is left when a line-up without its PID comes keeps all of it, at every later moment too
abbrev pub GoneStreamLaw : Type 0
GoneStreamLaw = (now before : Turn) (earlier : List Turn) (k : ℕ) (s : DescribedStream) (more : ℕ) → TurnsFit now (before ∷ earlier) →
    slice_get before.scheduled.description.streams k ≡ Some s → IsOff now s.pid →
    (left_before (owned_stream before.scheduled k s) now.from (before.history.units k)).units ≡ [] →
    StreamKept before.scheduled k s (before.history.units k) (now.from + more) (bytes_by now (before ∷ earlier) (now.from + more))

-- the turn in force goes on with another history, if the bytes of its first slots stay: with one more unit, slot or change of texts
abbrev pub GoesOnLaw : Type 0
GoesOnLaw = (from slots : ℕ) (d : Scheduled) (old new : History) (earlier : List Turn) → from ≤ slots →
    own_bytes (turn_with from d new) slots ≡ own_bytes (turn_with from d old) slots → IsKept (turn_with from d new) →
    TurnsFit (turn_with from d old) earlier → TurnsFit (turn_with from d new) earlier
