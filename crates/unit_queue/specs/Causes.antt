-- Why a unit is refused: one ordered list, and the first cause that applies.
use Rattle.std.specs.Prelude.{ℕ, ◌+◌, ◌^◌, ◌==◌, ◌||◌, nat_lt, nat_le, Bool, if◌then◌else◌, Option, Some, None, Result, Ok, Err, List, length, map}
use Rattle.clock27.specs.Release.{release}
use Rattle.pes_packet.specs.AccessUnits.{AccessUnit}
use Rattle.pes_packet.specs.Marks.{marks_size}
use Rattle.unit_timing.specs.declared.allowance.Allowance.{Allowance}
use Rattle.unit_timing.specs.declared.allowance.Allowance.TheVariants.{Groups, Pace}
use Rattle.unit_timing.specs.PesPacket.{next_due}
use Rattle.unit_timing.specs.Levels.{is_over}
use Rattle.unit_queue.specs.OwnedStreams.{OwnedStream, timed}
use Rattle.unit_queue.specs.Places.{left_before}
use Rattle.unit_queue.specs.declared.refusal.FeedError.{FeedError}
use Rattle.unit_queue.specs.declared.refusal.FeedError.TheVariants.{Empty, TooLarge, TooSoon, BadPts, Late, TooFar, Full, Group, Pace as OverPace}

-- the first of two causes
unfoldable pub or_cause : Option FeedError → Option FeedError → Option FeedError
or_cause (Some cause) next = Some cause
or_cause None next = next

-- the PTS is before the DTS, or more than a limit after it
abbrev pub is_bad_pts : ℕ → ℕ → ℕ → Bool
is_bad_pts limit dts pts = nat_lt pts dts || nat_lt (dts + limit) pts

-- causes within the unit and its distance from the unit before: with its marks it has at most `largest` bytes, its PTS is at most `limit` after its DTS, and
-- no DTS below `min_next_dts` is accepted
unfoldable pub own_cause : ℕ → ℕ → ℕ → AccessUnit → Option FeedError
own_cause largest limit min_next_dts u =
    if length u.bytes == 0 then Some Empty
    else (if nat_lt largest (length u.bytes + marks_size u.marks) then Some TooLarge
    else (if nat_lt u.dts min_next_dts then Some TooSoon
    else (if is_bad_pts limit u.dts u.pts then Some BadPts
    else None)))

-- causes in its time
unfoldable pub time_cause : Bool → ℕ → Option FeedError
time_cause late dts = if late then Some Late else (if nat_lt (2 ^ 52) dts then Some TooFar else None)

-- causes in its packets: more than its stream declares, by groups or by pace
abbrev pub packets_cause : Allowance → Bool → Option FeedError
packets_cause (Groups g most) over = if over then Some Group else None
packets_cause (Pace burst pace) over = if over then Some OverPace else None

-- causes in the room for it, and then in its packets
unfoldable pub room_cause : Bool → Option FeedError → Option FeedError
room_cause full over = if full then Some Full else over

-- the whole list
abbrev pub first_cause : ℕ → ℕ → ℕ → Bool → Bool → Option FeedError → AccessUnit → Option FeedError
first_cause largest limit min_next_dts late full over u =
    or_cause (own_cause largest limit min_next_dts u) (or_cause (time_cause late u.dts) (room_cause full over))

-- the DTS is before the lead, or the slot of the unit's release is written
abbrev pub is_late : OwnedStream → ℕ → AccessUnit → Bool
is_late l slots u = nat_lt u.dts l.parameters.lead || nat_lt (release l.parameters.rate l.parameters.lead u.dts) slots

-- `capacity` units are not sent whole
abbrev pub is_full : OwnedStream → ℕ → ℕ → List AccessUnit → Bool
is_full l slots capacity us = nat_le capacity (length (left_before l slots us).units)

-- its packets after the packets of the units before are more than the stream declares
abbrev pub over_cause : OwnedStream → List AccessUnit → AccessUnit → Option FeedError
over_cause l us u = packets_cause l.parameters.allowance (is_over l.parameters.allowance (map (timed l) us) (timed l u))

-- the minimum DTS of the next unit
abbrev pub min_next_dts_of : OwnedStream → List AccessUnit → ℕ
min_next_dts_of l us = next_due l.parameters.interval 0 (map (timed l) us)

-- why a stream that has accepted these units, with `slots` slots written, refuses one more unit
abbrev pub unit_cause : OwnedStream → ℕ → ℕ → List AccessUnit → AccessUnit → Option FeedError
unit_cause l slots capacity us u = first_cause l.parameters.size l.parameters.pts_limit (min_next_dts_of l us) (is_late l slots u) (is_full l slots capacity us)
    (over_cause l us u) u

-- why a call refused a unit, none if it accepted the unit
abbrev pub refusal : {V W : Type 0} → Result V (FeedError × W) → Option FeedError
refusal (Ok x) = None
refusal (Err e) = Some e.0

abbrev pub error_of : {V : Type 0} → Result V FeedError → Option FeedError
error_of (Ok x) = None
error_of (Err cause) = Some cause
