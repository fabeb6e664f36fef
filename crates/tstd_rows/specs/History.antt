-- The parts of an elementary stream that arrive, and what its two buffers then hold (ISO/IEC 13818-1, 2.4.2.3).
--
-- Lists of parts begin with the last part. The unit of time is chosen so that a byte takes `step` to leave the transport buffer of the stream.
use Rattle.std.specs.Prelude.{ℕ, ◌+◌, List, [], ◌∷◌, ◌++◌, length, Option, Some, None}
use Rattle.clock27.specs.Departure.{departures, last_left}
use Rattle.clock27.specs.Peak.{greatest_at}
use Rattle.tstd_rows.specs.Buffers.{entered as buffer_entered}
use Rattle.tstd_rows.specs.TransportLaws.{empty}
use Rattle.tstd_rows.specs.declared.transport_buffer.TransportBuffer.{TransportBuffer}
use Rattle.tstd_rows.specs.RowEntry.{entered}
use Rattle.tstd_rows.specs.Least.{least_found}
use Rattle.tstd_rows.specs.declared.unit_seen.DueTime.{DueTime}
use Rattle.tstd_rows.specs.declared.unit_seen.UnitSeen.{UnitSeen}

-- a part of a stream: bytes that arrive at these times and stop at the transport buffer, payload bytes of the current unit, or the begin of a unit
pub data Part : Type 0 where
  Passes : List ℕ → Part
  Carries : List ℕ → Part
  Begins : DueTime → Part

-- when the bytes of these parts arrive
unfoldable pub arrivals_of : List Part → List ℕ
arrivals_of [] = []
arrivals_of (Passes times ∷ before) = arrivals_of before ++ times
arrivals_of (Carries times ∷ before) = arrivals_of before ++ times
arrivals_of (Begins due ∷ before) = arrivals_of before

-- the transport buffer after these parts
abbrev pub transport_of : ℕ → List Part → TransportBuffer
transport_of step parts = buffer_entered (empty step) (arrivals_of parts)

-- when their last byte leaves the transport buffer, 0 if there is no byte
abbrev pub last_of : ℕ → List Part → ℕ
last_of step parts = last_left step 0 (arrivals_of parts)

-- when bytes leave the transport buffer that arrive at `times` after the parts `before`
abbrev pub left_after : ℕ → List Part → List ℕ → List ℕ
left_after step before times = departures step (last_of step before) times

-- when the payload bytes leave the transport buffer
unfoldable pub payload_left : ℕ → List Part → List ℕ
payload_left step [] = []
payload_left step (Passes times ∷ before) = payload_left step before
payload_left step (Carries times ∷ before) = payload_left step before ++ left_after step before times
payload_left step (Begins due ∷ before) = payload_left step before

-- the moment at which the bytes of the current unit are removed; bytes before the first unit do not stay
unfoldable pub until_of : List Part → ℕ
until_of [] = 0
until_of (Passes times ∷ before) = until_of before
until_of (Carries times ∷ before) = until_of before
until_of (Begins due ∷ before) = due.until

-- the bytes in the main buffer at the moment x: the payload bytes that have left the transport buffer by then and whose unit is not yet removed
unfoldable pub main_fullness : ℕ → List Part → ℕ → ℕ
main_fullness step [] x = 0
main_fullness step (Passes times ∷ before) x = main_fullness step before x
main_fullness step (Carries times ∷ before) x = main_fullness step before x + entered (until_of before) x (left_after step before times)
main_fullness step (Begins due ∷ before) x = main_fullness step before x

-- the most bytes in the main buffer when a byte enters it
abbrev pub main_peak : ℕ → List Part → ℕ
main_peak step parts = greatest_at (main_fullness step parts) (payload_left step parts)

-- the fewest bytes that a payload byte finds in the main buffer, not counting itself, among the bytes that arrive at `times` after the parts `before`
abbrev pub row_least : ℕ → List Part → List ℕ → Option ℕ
row_least step before times = least_found (main_fullness step before) (until_of before) 0 None (left_after step before times)

-- a unit with `count` more bytes; its last byte leaves at `left`
abbrev pub with_bytes : Option UnitSeen → ℕ → ℕ → Option UnitSeen
with_bytes None count left = None
with_bytes (Some u) count left = Some (record { due = u.due; bytes = u.bytes + count; left = left })

-- the current unit
unfoldable pub unit_of : ℕ → List Part → Option UnitSeen
unit_of step [] = None
unit_of step (Passes times ∷ before) = unit_of step before
unit_of step (Carries times ∷ before) = with_bytes (unit_of step before) (length times) (last_of step (Carries times ∷ before))
unit_of step (Begins due ∷ before) = Some (record { due = due; bytes = 0; left = 0 })
