-- A stream packet by packet: its state, and its findings.
use Rattle.std.specs.Prelude.{◌≡◌, ℕ, ◌+◌, ◌-◌, ◌^◌, ◌<◌, ◌==◌, min, Bool, true, false, if◌then◌else◌, List, [], ◌∷◌, ◌++◌, length, take, map, None, Result, Ok}
use Rattle.std.specs.Prelude.{Err}
use Rattle.std.specs.List.{flat_map}
use Rattle.ts_packet.specs.declared.packet.PacketError.{PacketError}
use Rattle.ts_packet.specs.Views.{PacketView}
use Rattle.ts_packet.specs.Reading.{packet_at}
use Rattle.ts_packet.specs.PidList.{Entry}
use Rattle.pid_findings.specs.Views.{WhatView, IsTruncated, IsBadPacket, IsErrored, FindingView}
use Rattle.pid_findings.specs.Findings.{ended}
use Rattle.pid_findings.specs.Machine.{PidState, fresh, step, found_by}
use Rattle.pid_findings.specs.Shown.{with_pid}
use Rattle.demux.specs.declared.error.DemuxError.{DemuxError}
use Rattle.demux.specs.declared.error.DemuxError.TheVariants.{Memory, Ended}

-- the states of PIDs, in the order of their first packets
abbrev pub States : Type 0
States = List (ℕ × PidState)

-- the state of a PID
abbrev pub state_of : ℕ → States → PidState
state_of pid [] = fresh
state_of pid (entry ∷ states) = if pid == entry.0 then entry.1 else state_of pid states

-- the states with another state of a PID; a new PID comes last
abbrev pub with_state : ℕ → PidState → States → States
with_state pid state [] = (pid, state) ∷ []
with_state pid state (entry ∷ states) = if pid == entry.0 then (entry.0, state) ∷ states else entry ∷ with_state pid state states

-- a finding of no PID
abbrev pub without_pid : ℕ → WhatView → FindingView
without_pid packet what = record { packet = packet; pid = None; begun = None; what = what }

abbrev pub entry_of : ℕ → List ℕ → PacketView → Entry
entry_of index bytes packet = record { index = index; bytes = bytes; packet = packet }

-- the states after 188 bytes: bytes that are no packet, a packet with transport_error_indicator and a null packet change none
unfoldable pub states_by : ℕ → List ℕ → States → Result PacketView PacketError → States
states_by index bytes states (Err error) = states
states_by index bytes states (Ok packet) = if packet.header.transport_error_indicator then states else (if packet.header.pid == 8191 then states
    else with_state packet.header.pid (step (state_of packet.header.pid states) (entry_of index bytes packet)) states)

-- the findings in 188 bytes
unfoldable pub findings_by : ℕ → List ℕ → States → Result PacketView PacketError → List FindingView
findings_by index bytes states (Err error) = without_pid index (IsBadPacket error) ∷ []
findings_by index bytes states (Ok packet) =
    if packet.header.transport_error_indicator then without_pid index IsErrored ∷ [] else (if packet.header.pid == 8191 then []
    else map (with_pid packet.header.pid index) (found_by (state_of packet.header.pid states) (entry_of index bytes packet)))

-- for each of these findings, whether it is a section or a PES packet that lies whole in this packet
unfoldable pub within_by : ℕ → List ℕ → States → Result PacketView PacketError → List Bool
within_by index bytes states (Err error) = false ∷ []
within_by index bytes states (Ok packet) = if packet.header.transport_error_indicator then false ∷ [] else (if packet.header.pid == 8191 then []
    else map (λ found. found.within) (found_by (state_of packet.header.pid states) (entry_of index bytes packet)))

-- a demultiplexer: the whole packets so far, the states, the bytes held of a packet, the findings, and whether the stream has ended
pub record StreamState : Type 0 where
  pub packets : ℕ
  pub states : States
  pub held : List ℕ
  pub found : List FindingView
  pub ended : Bool

-- no part of a packet is held
abbrev pub is_aligned : StreamState → Bool
is_aligned s = length s.held == 0

-- before the first byte
abbrev pub start : StreamState
start = record { packets = 0; states = []; held = []; found = []; ended = false }

-- the count of packets stops at 2^64 - 1
abbrev pub next_packet : ℕ → ℕ
next_packet packets = min (packets + 1) (2 ^ 64 - 1)

-- after a packet
unfoldable pub taken : StreamState → List ℕ → StreamState
taken s bytes = record s { packets = next_packet s.packets; states = states_by s.packets bytes s.states (packet_at bytes) }

-- the findings in a packet
unfoldable pub found_in : StreamState → List ℕ → List FindingView
found_in s bytes = findings_by s.packets bytes s.states (packet_at bytes)

-- for each finding in a packet, whether it is a section or a PES packet that lies whole in it
unfoldable pub within_in : StreamState → List ℕ → List Bool
within_in s bytes = within_by s.packets bytes s.states (packet_at bytes)

-- the state after a packet, with its findings added
abbrev pub packet_pushed : StreamState → List ℕ → StreamState
packet_pushed s bytes = record (taken s bytes) { held = []; found = s.found ++ found_in s bytes }

-- the state with the held bytes: 188 of them are taken as a packet
unfoldable pub completed : StreamState → List ℕ → StreamState
completed s held = if length held == 188 then packet_pushed s held else record s { held = held }

-- after bytes, one by one
abbrev pub pushed : StreamState → List ℕ → StreamState
pushed s [] = s
pushed s (byte ∷ bytes) = pushed (completed s (s.held ++ byte ∷ [])) bytes

-- the findings at the end of the stream: the held bytes of a packet, then the open units, in the order of the PIDs
abbrev pub held_found : ℕ → List ℕ → List FindingView
held_found packets [] = []
held_found packets held = without_pid packets (IsTruncated held) ∷ []

unfoldable pub ended_found : ℕ → States → List FindingView
ended_found packets states = flat_map (λ entry. map (with_pid entry.0 packets) (ended true entry.1.open_unit)) states

-- after the end of the stream
abbrev pub finished : StreamState → StreamState
finished s = if s.ended then s else record s { held = []; found = s.found ++ (held_found s.packets s.held ++ ended_found s.packets s.states); ended = true }

-- why bytes were not all taken: memory was refused for the findings of the packet with the first byte left out, and each packet before it was taken
-- whole; or the stream has ended
abbrev pub PushRefused : StreamState → StreamState → List ℕ → DemuxError → Type 0
PushRefused old new piece (Memory n) = (old.ended ≡ false) × (n < length piece) × (new ≡ pushed old (take n piece)) × (0 < n → length new.held ≡ 0)
PushRefused old new piece Ended = (old.ended ≡ true) × (new ≡ old)

-- why a packet was not taken; nothing changes
abbrev pub TakeRefused : StreamState → StreamState → DemuxError → Type 0
TakeRefused old new (Memory n) = (old.ended ≡ false) × (n ≡ 0) × (new ≡ old)
TakeRefused old new Ended = (old.ended ≡ true) × (new ≡ old)
