-- How often presentation time stamps come, over a whole history: at most 700 ms pass from a PTS of audio or video to the next of its PID (ISO/IEC 13818-1,
-- 2.7.4; ETSI TR 101 290, 5.2.2, 2.5). A history has the last packet first.
use Rattle.std.specs.Prelude.{◌≡◌, ◌↔◌, ℕ, ◌-◌, ◌<◌, ◌==◌, ◌&&◌, Bool, true, List, [], ◌∷◌, Contains, Option}
use Rattle.ts_packet.specs.Views.{PacketView}
use Rattle.tr101290.specs.Intervals.{time_between}
use Rattle.tr101290.specs.Stamps.{StampState, error_at, has_pts, no_stamp, taken}
use Rattle.tr101290.specs.declared.intervals.TableTiming.{TableTiming}
use Rattle.tr101290.specs.declared.stamps.PtsError.{PtsError}
use Rattle.tr101290.specs.declared.stamps.TheConstants.{GREATEST_PTS_INTERVAL}
use Rattle.laws_view.specs.Histories.{Follows, given_by}

-- a packet, with its index, its place in time, and whether the tables say that the time stamps of its PID have to repeat
pub record PlacedPacket : Type 0 where
  pub index : ℕ
  pub place : ℕ
  pub said : Option Bool
  pub packet : PacketView

-- 1. The errors of a history

unfoldable pub state_of : TableTiming → List PlacedPacket → StampState
state_of timing [] = no_stamp timing
state_of timing (p ∷ earlier) = taken (state_of timing earlier) p.place p.said p.packet

abbrev pub error_after : TableTiming → List PlacedPacket → PlacedPacket → Option PtsError
error_after timing earlier p = error_at (state_of timing earlier) p.index p.place p.said p.packet

abbrev pub errors_of : TableTiming → List PlacedPacket → List PtsError
errors_of timing packets = given_by (error_after timing) packets

-- 2. What a history has to have for an error

-- a packet of the PID in which a PES packet of audio or video with a PTS begins
abbrev pub same_stamps : PlacedPacket → PlacedPacket → Bool
same_stamps a b = has_pts b.said b.packet && (b.packet.header.pid == a.packet.header.pid)

-- an error: a PTS comes more than 700 ms after the PTS before it of its PID
pub record IsLateStamp (timing : TableTiming) (packets : List PlacedPacket) (error : PtsError) : Type 0 where
  pub before : PlacedPacket
  pub item : PlacedPacket
  pub follows : Follows same_stamps packets before item
  pub stamped : has_pts item.said item.packet ≡ true
  pub long : GREATEST_PTS_INTERVAL < time_between timing (item.place - before.place)
  pub named : error ≡ record {
    pid = item.packet.header.pid;
    packet = item.index;
    value = time_between timing (item.place - before.place);
    limit = GREATEST_PTS_INTERVAL;
  }

-- the errors are exactly these
abbrev pub LateStampLaw : Type 0
LateStampLaw = (timing : TableTiming) (packets : List PlacedPacket) (error : PtsError) →
    Contains (errors_of timing packets) error ↔ IsLateStamp timing packets error
