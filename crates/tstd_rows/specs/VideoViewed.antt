-- The parts of a video stream that arrive, and what its multiplexing buffer MB and its elementary stream buffer EB hold (ISO/IEC 13818-1, 2.4.2.3, the leak
-- method).
--
-- Lists of parts begin with the last part. The unit of time is 8 / (S * Rx) seconds, where `step` is S: a byte takes `step` to leave the transport buffer of
-- the stream, and `leak` to leave MB.
use Rattle.std.specs.Prelude.{◌≡◌, ℕ, ◌+◌, ◌-◌, ◌*◌, ◌/◌, ◌<◌, ◌^◌, ◌==◌, max, min, nat_lt, List, [], ◌∷◌, ◌++◌, length, replicate, Option, Some, None, is_some}
use Rattle.std.specs.Prelude.{if◌then◌else◌}
use Rattle.clock27.specs.Departure.{departures, last_left}
use Rattle.clock27.specs.Fullness.{fullness}
use Rattle.clock27.specs.Peak.{IsPeak, greatest_at}
use Rattle.unit_timing.specs.LeakMethod.{transfers, rooms_of, latest}
use Rattle.tstd_rows.specs.Buffers.{entered as buffer_entered}
use Rattle.tstd_rows.specs.Excesses.{excess_after, excesses_ended}
use Rattle.tstd_rows.specs.TransportLaws.{empty}
use Rattle.tstd_rows.specs.declared.excess.Excess.{Excess}
use Rattle.tstd_rows.specs.declared.transport_buffer.TransportBuffer.{TransportBuffer}
use Rattle.tstd_rows.specs.RowEntry.{entered}
use Rattle.tstd_rows.specs.History.{Part, arrivals_of, transport_of, left_after, payload_left, main_fullness, main_peak, until_of}
use Rattle.tstd_rows.specs.History.Part.{Passes, Carries, Begins}
use Rattle.tstd_rows.specs.declared.unit_seen.UnitSeen.{UnitSeen}
use Rattle.tstd_rows.specs.declared.late_causes.LateCause.{LateCause}
use Rattle.tstd_rows.specs.declared.late_causes.VideoUnit.{VideoUnit}
use Rattle.tstd_rows.specs.declared.late_causes.LateCause.TheVariants.{Multiplex, FullBuffer}

-- ---- MB

-- a byte takes 8 / Rbx seconds to leave MB, which are S * Rx / Rbx units of time, rounded up: the leak is slower than Rbx by less than a unit of time for
-- each byte. This is the stricter side: MB is no emptier with it, and no byte is in EB earlier
abbrev pub leak_step : ℕ → ℕ → ℕ → ℕ
leak_step step rx rbx = (step * rx + (rbx - 1)) / rbx

-- the payload bytes enter MB as they leave the transport buffer, so MB is a queue like the transport buffer
abbrev pub multiplexing_buffer : ℕ → ℕ → List Part → TransportBuffer
multiplexing_buffer step leak parts = buffer_entered (empty leak) (payload_left step parts)

-- when the payload bytes leave MB if EB is never full, and when the last of them leaves
abbrev pub multiplexing_left : ℕ → ℕ → List Part → List ℕ
multiplexing_left step leak parts = departures leak 0 (payload_left step parts)

abbrev pub last_leaked : ℕ → ℕ → List Part → ℕ
last_leaked step leak parts = last_left leak 0 (payload_left step parts)

-- how many bytes MB holds at the moment x, if EB is never full
abbrev pub multiplexing_held : ℕ → ℕ → List Part → ℕ → ℕ
multiplexing_held step leak parts x = fullness x (payload_left step parts) (multiplexing_left step leak parts)

-- the current excess of MB with `size` bytes, and the excesses that end before a byte that arrives at these times
abbrev pub multiplexing_under_way : ℕ → ℕ → ℕ → List Part → Option Excess
multiplexing_under_way step leak size parts = excess_after leak size 0 None (payload_left step parts)

abbrev pub multiplexing_ended : ℕ → ℕ → ℕ → List Part → List ℕ → List Excess
multiplexing_ended step leak size before times =
    excesses_ended leak size (last_leaked step leak before) (multiplexing_under_way step leak size before) (left_after step before times)

-- ---- EB

-- when bytes that arrive at `times` after the parts `before` enter EB
abbrev pub leaked_after : ℕ → ℕ → List Part → List ℕ → List ℕ
leaked_after step leak before times = departures leak (last_leaked step leak before) (left_after step before times)

-- the bytes in EB at the moment x: the payload bytes that have left MB by then and whose unit is not yet removed
unfoldable pub elementary_held : ℕ → ℕ → List Part → ℕ → ℕ
elementary_held step leak [] x = 0
elementary_held step leak (Passes times ∷ before) x = elementary_held step leak before x
elementary_held step leak (Carries times ∷ before) x = elementary_held step leak before x + entered (until_of before) x (leaked_after step leak before times)
elementary_held step leak (Begins due ∷ before) x = elementary_held step leak before x

-- the most bytes in EB when a byte enters it
abbrev pub elementary_peak : ℕ → ℕ → List Part → ℕ
elementary_peak step leak parts = greatest_at (elementary_held step leak parts) (multiplexing_left step leak parts)

-- ---- MB and EB are the transport buffer and the main buffer of a stream that arrives as the payload of the video leaves its transport buffer

-- the parts of that stream
unfoldable pub leaked : ℕ → List Part → List Part
leaked step [] = []
leaked step (Passes times ∷ before) = leaked step before
leaked step (Carries times ∷ before) = Carries (left_after step before times) ∷ leaked step before
leaked step (Begins due ∷ before) = Begins due ∷ leaked step before

-- a view of this stream is a view of MB and EB: each figure of the view is a definition above
pub record LeakedParts (step leak : ℕ) (parts : List Part) : Type 0 where
  pub multiplexing : transport_of leak (leaked step parts) ≡ multiplexing_buffer step leak parts
  pub under_way : (size : ℕ) → excess_after leak size 0 None (arrivals_of (leaked step parts)) ≡ multiplexing_under_way step leak size parts
  pub left : payload_left leak (leaked step parts) ≡ multiplexing_left step leak parts
  pub elementary : (x : ℕ) → main_fullness leak (leaked step parts) x ≡ elementary_held step leak parts x
  pub peak : main_peak leak (leaked step parts) ≡ elementary_peak step leak parts
  pub until : until_of (leaked step parts) ≡ until_of parts

abbrev pub LeakedPartsLaw : Type 0
LeakedPartsLaw = (step leak : ℕ) (parts : List Part) → LeakedParts step leak parts

-- the figures of the view are the greatest fullness of MB and of EB over all moments
abbrev pub VideoFiguresLaw : Type 0
VideoFiguresLaw = (step leak : ℕ) (parts : List Part) → 0 < step → 0 < leak →
    IsPeak (multiplexing_held step leak parts) (multiplexing_buffer step leak parts).most × IsPeak (elementary_held step leak parts)
    (elementary_peak step leak parts)

-- ---- If EB may be full

-- when each payload byte is removed from EB: together with its whole unit. Bytes before the first unit are removed at once
unfoldable pub removed_of : List Part → List ℕ
removed_of [] = []
removed_of (Passes times ∷ before) = removed_of before
removed_of (Carries times ∷ before) = removed_of before ++ replicate (length times) (until_of before)
removed_of (Begins due ∷ before) = removed_of before

-- when each byte goes to an EB of `size` bytes by the leak method: no byte goes while EB is full
abbrev pub transferred : ℕ → ℕ → ℕ → List Part → List ℕ
transferred step leak size parts = transfers leak 0 (payload_left step parts) (rooms_of size (removed_of parts))

-- when each byte would go if it were always in MB in time: the delay that the stream itself causes, limited only by the room in EB. By the leak method the
-- byte goes at the later of this time and its time in `multiplexing_left`, the delay that the multiplex causes (`TransferredLaw`)
abbrev pub room_left : ℕ → ℕ → List Part → List ℕ
room_left leak size parts = departures leak 0 (rooms_of size (removed_of parts))

-- the last of these times, 0 if no byte has arrived
unfoldable pub last_transfer : ℕ → ℕ → List ℕ → List ℕ → ℕ
last_transfer leak prev [] rooms = prev
last_transfer leak prev (t ∷ ts) [] = prev
last_transfer leak prev (t ∷ ts) (room ∷ rooms) = last_transfer leak (max (max t room) prev + leak) ts rooms

abbrev pub last_transferred : ℕ → ℕ → ℕ → List Part → ℕ
last_transferred step leak size parts = last_transfer leak 0 (payload_left step parts) (rooms_of size (removed_of parts))

abbrev pub TransferredLaw : Type 0
TransferredLaw = (step leak size : ℕ) (parts : List Part) →
    transferred step leak size parts ≡ latest (multiplexing_left step leak parts) (room_left leak size parts)

-- ---- why a unit is late

-- the last byte of a unit with this deadline leaves MB at `alone` if EB is never full, and would go to EB at `room` if it were always in MB in time. If
-- `alone` is late, the multiplex sent the unit too late or too fast; if `room` is late, the encoder broke the buffer of the stream itself. If both are late,
-- the cause is the multiplex: the unit would be late even if EB were never full
unfoldable pub cause_of : ℕ → ℕ → ℕ → Option LateCause
cause_of deadline alone room = if nat_lt deadline alone then Some Multiplex else if nat_lt deadline room then Some FullBuffer else None

-- the last byte of the current unit goes to EB at `time` by the leak method; times are limited to 2^128 - 1
unfoldable pub with_entry : Option UnitSeen → ℕ → Option VideoUnit
with_entry None time = None
with_entry (Some u) time = Some (record { seen = u; entered = if u.bytes == 0 then 0 else min time (2 ^ 128 - 1) })

-- why a unit is late: MB delays its last byte, or a full EB does
abbrev pub unit_cause : VideoUnit → Option LateCause
unit_cause u = cause_of u.seen.due.deadline u.seen.left u.entered

-- by the leak method a unit is late exactly if it has a cause
abbrev pub CauseLaw : Type 0
CauseLaw = (deadline alone room : ℕ) → nat_lt deadline (max alone room) ≡ is_some (cause_of deadline alone room)
