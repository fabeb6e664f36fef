-- Packets that wait until the line of their arrival is known.
--
-- A stream arrives by the references of one PID: the PID of the first reference, or PCR_PID of a program once the first tables are known (ISO/IEC
-- 13818-1, 2.4.2.2: bytes arrive by the references of their program). Each reference gives the packets before it their line, and the packet with the
-- reference is the first to wait for the next line. If too many packets wait, the line before is extended for them.
use Rattle.std.specs.Prelude.{ℕ, ◌+◌, ◌-◌, ◌^◌, ◌==◌, ◌&&◌, min, nat_lt, not, is_some, Bool, true, false, if◌then◌else◌, List, [], ◌∷◌, ◌++◌, length, Option}
use Rattle.std.specs.Prelude.{Some, None, Result, Ok, Err}
use Rattle.std.specs.Option.{option_map}
use Rattle.ts_packet.specs.declared.packet.PacketError.{PacketError}
use Rattle.ts_packet.specs.Reading.{packet_at}
use Rattle.ts_packet.specs.Views.{PacketView}
use Rattle.arrival.specs.ArrivalClocks.{ArrivalClockState, line_to, no_reference, without_last}
use Rattle.arrival.specs.ArrivalClocks as clocks
use Rattle.arrival.specs.declared.arrival.Arrival.{Arrival}
use Rattle.arrival.specs.declared.arrival.Arrival.TheVariants.{Unknown, OnLines}
use Rattle.arrival.specs.declared.clock.PcrSample.{PcrSample}
use Rattle.arrival.specs.declared.line.Line.{Line}
use Rattle.tr101290.specs.Samples.{pcr_sample}
use Rattle.stream_programs.specs.Programs.{FoundProgramsView}
use Rattle.ts_tables.specs.NamedStreams.{NamedView, clock_in, none_taken}
use Rattle.ts_tables.specs.NamedStreams as naming
use Rattle.packet_times.specs.declared.packet_queue.ClockPid.{ClockPid}
use Rattle.packet_times.specs.declared.packet_queue.ClockPid.TheVariants.{OfFirst, OfProgram, Known}

-- the most packets that wait
abbrev pub most_waiting : ℕ
most_waiting = 65536

-- the PID of the references, the streams that are named, the clock that the references give, the line of the first bytes of the first packet that waits,
-- the number of packets so far, and the packets that wait
pub record QueueState : Type 0 where
  pub pid : ClockPid
  pub named : NamedView
  pub clock : ArrivalClockState
  pub before : Option Line
  pub packets : ℕ
  pub held : List (List ℕ)

abbrev pub no_packet : ClockPid → QueueState
no_packet pid = record { pid = pid; named = none_taken; clock = no_reference; before = None; packets = 0; held = [] }

-- 1. The reference of a packet of the stream's clock of arrival, and its PID

unfoldable pub is_of_clock : ClockPid → ℕ → Bool
is_of_clock OfFirst pid = true
is_of_clock (OfProgram number) pid = false
is_of_clock (Known clock) pid = clock == pid

abbrev pub reference_of : ClockPid → ℕ → PacketView → Option (ℕ × PcrSample)
reference_of clock index packet =
    if not packet.header.transport_error_indicator && is_of_clock clock packet.header.pid then option_map (λ sample. (packet.header.pid, sample))
    (pcr_sample index packet) else None

unfoldable pub reference_read : ClockPid → ℕ → Result PacketView PacketError → Option (ℕ × PcrSample)
reference_read clock index (Err error) = None
reference_read clock index (Ok packet) = reference_of clock index packet

abbrev pub reference_in : QueueState → List ℕ → Option (ℕ × PcrSample)
reference_in q bytes = reference_read q.pid q.packets (packet_at bytes)

-- 2. The line that a reference gives to the packets that wait

unfoldable pub line_by : QueueState → Option (ℕ × PcrSample) → Option Line
line_by q None = None
line_by q (Some reference) = line_to q.clock reference.1

unfoldable pub clock_by : QueueState → Option (ℕ × PcrSample) → ArrivalClockState
clock_by q None = q.clock
clock_by q (Some reference) = clocks.after q.clock reference.1

unfoldable pub pid_by : QueueState → Option (ℕ × PcrSample) → ClockPid
pid_by q None = q.pid
pid_by q (Some reference) = Known reference.0

-- the packets still wait: the reference gives no line, and there are not too many of them
abbrev pub still_wait : QueueState → Option (ℕ × PcrSample) → Bool
still_wait q reference = not (is_some (line_by q reference)) && nat_lt (length q.held) most_waiting

unfoldable pub arrival_by : Option Line → Option Line → Arrival
arrival_by before None = Unknown
arrival_by None (Some line) = OnLines (record { before = line; line = line })
arrival_by (Some before) (Some line) = OnLines (record { before = before; line = line })

-- how they arrive that no longer wait
abbrev pub released_by : QueueState → Option (ℕ × PcrSample) → Option Arrival
released_by q reference = if still_wait q reference then None else Some (arrival_by q.before (clock_by q reference).line)

-- without a reference for so long the clock begins again
unfoldable pub begun_by : ArrivalClockState → Option (ℕ × PcrSample) → ArrivalClockState
begun_by clock None = without_last clock
begun_by clock (Some reference) = clock

abbrev pub stepped_by : QueueState → Option (ℕ × PcrSample) → QueueState
stepped_by q reference = record {
  pid = pid_by q reference;
  named = q.named;
  clock = if still_wait q reference then clock_by q reference else begun_by (clock_by q reference) reference;
  before = if still_wait q reference then q.before else (clock_by q reference).line;
  packets = min (q.packets + 1) (2 ^ 64 - 1);
  held = q.held;
}

-- 3. PCR_PID of a program, once the first tables are known; 8191 if they do not name it: the tables of a packet count from the next packet on

unfoldable pub program_pid_in : ℕ → Option FoundProgramsView → ClockPid
program_pid_in number None = OfProgram number
program_pid_in number (Some found) = Known (clock_in number found.programs)

abbrev pub program_pid : ℕ → NamedView → ClockPid
program_pid number named = program_pid_in number named.streams

-- tables are not read if the PID is known, or is the PID of the first reference
unfoldable pub named_after : ClockPid → NamedView → List ℕ → NamedView
named_after OfFirst named bytes = named
named_after (OfProgram number) named bytes = naming.taken named bytes
named_after (Known pid) named bytes = named

unfoldable pub pid_after : ClockPid → NamedView → ClockPid
pid_after OfFirst named = OfFirst
pid_after (OfProgram number) named = program_pid number named
pid_after (Known pid) named = Known pid

abbrev pub named_by : QueueState → List ℕ → QueueState
named_by q bytes = record q { pid = pid_after q.pid (named_after q.pid q.named bytes); named = named_after q.pid q.named bytes }

-- 4. A packet comes: how the packets before it arrive, if they do; and then it waits

abbrev pub released : QueueState → List ℕ → Option Arrival
released q bytes = released_by q (reference_in q bytes)

abbrev pub stepped : QueueState → List ℕ → QueueState
stepped q bytes = named_by (stepped_by q (reference_in q bytes)) bytes

abbrev pub with_held : QueueState → List (List ℕ) → QueueState
with_held q held = record q { held = held }

-- at the end the last line is extended
abbrev pub last_arrival : QueueState → Arrival
last_arrival q = arrival_by q.before q.clock.line

-- 5. The same for a stream that arrives by samples of another clock, which are given with its packets: by the references of no PID

abbrev pub no_pid : ℕ
no_pid = 8191

abbrev pub given_sample : Option PcrSample → Option (ℕ × PcrSample)
given_sample sample = option_map (λ s. (no_pid, s)) sample

abbrev pub released_with : QueueState → Option PcrSample → Option Arrival
released_with q sample = released_by q (given_sample sample)

abbrev pub stepped_with : QueueState → Option PcrSample → QueueState
stepped_with q sample = stepped_by q (given_sample sample)
