-- A stream as packets of 188 bytes, while its bytes arrive.
use Rattle.std.specs.Prelude.{◌≡◌, ℕ, ◌&&◌, not, nat_lt, Bool, true, false, List, [], ◌++◌, length, Option, None}
use Rattle.packet_sync.specs.OtherPackets.{other_packets}
use Rattle.packet_sync.specs.PacketBytes.{packet_bytes, packets_in}
use Rattle.packet_sync.specs.declared.packet_sizes.OtherPackets.{OtherPackets}

-- whether enough bytes came to show which packets the stream has, which these are, and the bytes that are held: the first bytes until then, and
-- later the last ones, which do not yet decide where a packet begins
pub record PacketsView : Type 0 where
  pub known : Bool
  pub other : Option OtherPackets
  pub held : List ℕ

-- before the first byte
abbrev pub no_bytes : PacketsView
no_bytes = record { known = false; other = None; held = [] }

-- so few first bytes do not show it
abbrev pub is_early : Bool → List ℕ → Bool
is_early known held = not known && nat_lt (length held) 409

unfoldable pub other_by : Bool → Option OtherPackets → List ℕ → Option OtherPackets
other_by true other held = other
other_by false other held = other_packets held

-- the packets of the bytes from the held ones on
unfoldable pub packets_by : Bool → Option OtherPackets → List ℕ → List ℕ
packets_by true other bs = packet_bytes other bs
packets_by false other bs = packets_in bs

-- of these bytes these packets are given, whatever bytes follow
abbrev pub ArePackets : List ℕ → List ℕ → PacketsView → Type 0
ArePackets bytes packets s = (more : List ℕ) → packets_in (bytes ++ more) ≡ packets ++ packets_by s.known s.other (s.held ++ more)
