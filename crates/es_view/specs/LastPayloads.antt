-- The last payload of a stream, and packets that repeat it.
use Rattle.std.specs.Prelude.{ℕ, ◌==◌, ◌&&◌, not, is_some, unwrap_or, Bool, false, if◌then◌else◌, List, [], Option, Some, None}
use Rattle.std.specs.Str.{bytes_eq}
use Rattle.ts_packet.specs.Views.{AdaptationView, PacketView, WithFlags}

-- the continuity_counter and the payload of the last packet that has a payload
pub record LastView : Type 0 where
  pub counter : Option ℕ
  pub payload : List ℕ

abbrev pub no_payload : LastView
no_payload = record { counter = None; payload = [] }

unfoldable pub same_counter : Option ℕ → ℕ → Bool
same_counter None counter = false
same_counter (Some before) counter = before == counter

-- a packet has discontinuity_indicator
unfoldable pub is_announced : Option AdaptationView → Bool
is_announced (Some (WithFlags parts)) = parts.discontinuity_indicator
is_announced _ = false

-- a packet repeats it: the same counter and the same payload, without discontinuity_indicator (ISO/IEC 13818-1, 2.4.3.3 and 2.4.3.5)
abbrev pub is_repeated : LastView → PacketView → Bool
is_repeated last packet =
    is_some packet.payload
    && (same_counter last.counter packet.header.continuity_counter
    && (bytes_eq (unwrap_or packet.payload []) last.payload && not (is_announced packet.adaptation)))

abbrev pub counter_after : Option ℕ → PacketView → Option ℕ
counter_after counter packet = if is_some packet.payload then Some packet.header.continuity_counter else counter

-- after a packet
abbrev pub kept : LastView → PacketView → LastView
kept last packet = record { counter = counter_after last.counter packet; payload = unwrap_or packet.payload last.payload }
