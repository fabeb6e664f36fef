-- All packets of a stream, from a first packet on, as its buffers see them (ISO/IEC 13818-1, 2.4.2.3): for each packet its index, the size of
-- its payload, the DTS of the unit that begins with it, and whether its payload enters the main buffer.
use Rattle.std.specs.Prelude.{ℕ, ◌+◌, nat_eq, if◌then◌else◌, List, [], ◌∷◌, ◌++◌, Option, Some, None, Result, Ok, Err}
use Rattle.std.specs.Option.{option_or}
use Rattle.ts_packet.specs.declared.packet.PacketError.{PacketError}
use Rattle.ts_packet.specs.Views.{PacketView}
use Rattle.ts_packet.specs.Reading.{packet_at}
use Rattle.arrival.specs.declared.clock.PcrSample.{PcrSample}
use Rattle.arrival.specs.declared.arrival.Arrival.{Arrival}
use Rattle.tstd_rows.specs.Held.{Held}
use Rattle.tstd_rows.specs.Entering.{EnteredView, after, entered}
use Rattle.tstd_rows.specs.declared.arriving.Arriving.{Arriving}
use Rattle.es_events.specs.declared.view_options.ViewOptions.{ViewOptions}
use Rattle.es_events.specs.Clocks.{place_of, sample_in}
use Rattle.es_view.specs.Entries.{arriving}
use Rattle.es_view.specs.LastPayloads.{LastView, kept}

-- packets from this index on enter no buffer: all packets before it lie in the first 2^40 bytes
abbrev pub most_packets : ℕ
most_packets = 5_848_000_000

-- the constants of a stream: how it is viewed, its PID, the PID of its program's clock references, and the rate out of its transport buffer
pub record Followed : Type 0 where
  pub options : ViewOptions
  pub pid : ℕ
  pub clock_pid : ℕ
  pub rx : ℕ

-- the state before a packet: its index, the program's last clock reference, and the stream's last payload
pub record Before : Type 0 where
  pub index : ℕ
  pub clock : Option PcrSample
  pub last : LastView

-- a packet that can be read and has no transport_error_indicator; any other packet counts as none
unfoldable pub sound_packet : Result PacketView PacketError → Option PacketView
sound_packet (Err error) = None
sound_packet (Ok packet) = if packet.header.transport_error_indicator then None else Some packet

-- the clock reference of a packet on the program's PID
abbrev pub reference_in : ViewOptions → ℕ → PacketView → Option PcrSample
reference_in options index packet = sample_in (place_of options.arrival index) packet.adaptation

abbrev pub clock_with : ViewOptions → ℕ → ℕ → PacketView → Option PcrSample → Option PcrSample
clock_with options clock_pid index packet clock = if nat_eq clock_pid packet.header.pid then option_or (reference_in options index packet) clock else clock

-- the state after a packet
unfoldable pub known_after : Followed → Before → Option PacketView → Before
known_after s b None = record { index = b.index + 1; clock = b.clock; last = b.last }
known_after s b (Some packet) = record {
  index = b.index + 1;
  clock = clock_with s.options s.clock_pid b.index packet b.clock;
  last = if nat_eq s.pid packet.header.pid then kept b.last packet else b.last;
}

-- the packet as the stream's buffers see it, if it is on the stream's PID; a clock reference in it is used for it
unfoldable pub seen_in : Followed → Before → Option PacketView → List Arriving
seen_in s b None = []
seen_in s b (Some packet) =
    if nat_eq s.pid packet.header.pid
    then arriving s.options b.index s.rx b.last (clock_with s.options s.clock_pid b.index packet b.clock) packet ∷ []
    else []

-- all packets of the stream among these
unfoldable pub seen_among : Followed → Before → List (List ℕ) → List Arriving
seen_among s b [] = []
seen_among s b (bytes ∷ packets) =
    seen_in s b (sound_packet (packet_at bytes)) ++ seen_among s (known_after s b (sound_packet (packet_at bytes))) packets

-- for each packet of the stream the program's last clock reference, its own included
unfoldable pub clock_in : Followed → Before → Option PacketView → List (Option PcrSample)
clock_in s b None = []
clock_in s b (Some packet) = if nat_eq s.pid packet.header.pid then clock_with s.options s.clock_pid b.index packet b.clock ∷ [] else []

unfoldable pub clocks_seen : Followed → Before → List (List ℕ) → List (Option PcrSample)
clocks_seen s b [] = []
clocks_seen s b (bytes ∷ packets) =
    clock_in s b (sound_packet (packet_at bytes)) ++ clocks_seen s (known_after s b (sound_packet (packet_at bytes))) packets

-- the state after these packets
unfoldable pub known_after_all : Followed → Before → List (List ℕ) → Before
known_after_all s b [] = b
known_after_all s b (bytes ∷ packets) = known_after_all s (known_after s b (sound_packet (packet_at bytes))) packets

-- packets enter buffers one after another: what the buffers hold then, and what has ended with each packet
unfoldable pub after_each : Held → Arrival → List Arriving → Held
after_each h arrival [] = h
after_each h arrival (p ∷ ps) = after_each (after h arrival p) arrival ps

unfoldable pub entered_each : Held → Arrival → List Arriving → List EnteredView
entered_each h arrival [] = []
entered_each h arrival (p ∷ ps) = entered h arrival p ∷ entered_each (after h arrival p) arrival ps
