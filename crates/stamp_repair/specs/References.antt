-- Clock references in packets, while the bytes of a stream come.
use Rattle.std.specs.Prelude.{ℕ, ◌==◌, if◌then◌else◌, List, [], ◌∷◌, ◌++◌, length}
use Rattle.std.specs.Option.{option_to_list}
use Rattle.demux.specs.Stream.{next_packet}
use Rattle.packet_pcr.specs.PacketPcr.{pcr_at}
use Rattle.packet_pcr.specs.declared.pcr_reading.FoundPcr.{FoundPcr}

-- the number of packets so far, the bytes of a packet that is not whole yet, and the references of the packets before
pub record LogView : Type 0 where
  pub packets : ℕ
  pub held : List ℕ
  pub found : List FoundPcr

abbrev pub no_packet : LogView
no_packet = record { packets = 0; held = []; found = [] }

-- after a packet
abbrev pub with_packet : LogView → List ℕ → LogView
with_packet s bytes = record { packets = next_packet s.packets; held = []; found = s.found ++ option_to_list (pcr_at s.packets bytes) }

-- the log with the held bytes: 188 of them are taken as a packet
unfoldable pub completed : LogView → List ℕ → LogView
completed s held = if length held == 188 then with_packet s held else record { packets = s.packets; held = held; found = s.found }

-- after bytes, one by one
abbrev pub logged : LogView → List ℕ → LogView
logged s [] = s
logged s (byte ∷ bytes) = logged (completed s (s.held ++ byte ∷ [])) bytes

-- the references in a stream
abbrev pub references_in : List ℕ → List FoundPcr
references_in bytes = (logged no_packet bytes).found
