-- What a packet of a PID is to the packet before it: the same once more, or one whose counter does not follow
-- (ISO/IEC 13818-1, 2.4.3.3).
use Rattle.std.specs.Prelude.{ℕ, ◌+◌, ◌%◌, ◌==◌, ◌&&◌, ◌||◌, not, Bool, false, if◌then◌else◌, List, [], ◌∷◌, Option, Some, None, is_some}
use Rattle.std.specs.Str.{bytes_eq}
use Rattle.ts_packet.specs.Views.{AdaptationView, WithFlags}
use Rattle.ts_packet.specs.PidList.{Entry}
use Rattle.ts_packet.specs.PcrBytes.{has_pcr, without_pcr}

-- discontinuity_indicator
abbrev pub is_discontinuity : Option AdaptationView → Bool
is_discontinuity (Some (WithFlags parts)) = parts.discontinuity_indicator
is_discontinuity _ = false

-- the bytes of a packet without the bytes of a program clock reference
abbrev pub content : Entry → List ℕ
content entry = without_pcr (has_pcr entry.packet.adaptation) entry.bytes

-- the fields of a packet that mark the next packet of the PID
pub record LastView : Type 0 where
  pub duplicate : Bool
  pub has_payload : Bool
  pub counter : ℕ
  pub content : List ℕ

-- a packet with its mark
pub record Marked : Type 0 where
  pub entry : Entry
  pub duplicate : Bool
  pub broken : Option (ℕ × ℕ)

-- the packet is a duplicate of the last one (ISO/IEC 13818-1, 2.4.3.3): both have a payload and the same counter, the last packet is no duplicate
-- itself, and all bytes except a clock reference are equal
unfoldable pub repeats : LastView → Entry → Bool
repeats last entry = not last.duplicate && last.has_payload && is_some entry.packet.payload
    && (entry.packet.header.continuity_counter == last.counter) && bytes_eq (content entry) last.content

-- the counter that follows: one more modulo 16 with a payload, the same without one
abbrev pub following : ℕ → Bool → ℕ
following counter has_payload = if has_payload then (counter + 1) % 16 else counter

-- the expected counter and the counter found, if they differ and no discontinuity is signalled
unfoldable pub break_after : LastView → Entry → Option (ℕ × ℕ)
break_after last entry = let expected = following last.counter (is_some entry.packet.payload) in
    if is_discontinuity entry.packet.adaptation || (entry.packet.header.continuity_counter == expected) then None
    else Some (expected, entry.packet.header.continuity_counter)

unfoldable pub is_repeat : Option LastView → Entry → Bool
is_repeat None entry = false
is_repeat (Some last) entry = repeats last entry

unfoldable pub break_at : Option LastView → Entry → Option (ℕ × ℕ)
break_at None entry = None
break_at (Some last) entry = if repeats last entry then None else break_after last entry

unfoldable pub mark : Option LastView → Entry → Marked
mark last entry = record { entry = entry; duplicate = is_repeat last entry; broken = break_at last entry }

unfoldable pub seen : Marked → LastView
seen m = record {
  duplicate = m.duplicate;
  has_payload = is_some m.entry.packet.payload;
  counter = m.entry.packet.header.continuity_counter;
  content =
      content m.entry;
}

-- the packets of a PID, each marked by the one before it
abbrev pub marked : Option LastView → List Entry → List Marked
marked last [] = []
marked last (entry ∷ entries) = mark last entry ∷ marked (Some (seen (mark last entry))) entries
