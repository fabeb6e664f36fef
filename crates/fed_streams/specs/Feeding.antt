-- The units of a description's streams from what is found of a stream, finding by finding, each at its moment as soon as it is
-- whole.
use Rattle.std.specs.Prelude.{ℕ, ◌+◌, ◌-◌, ◌++◌, ◌==◌, ◌&&◌, ◌||◌, not, max, nat_lt, Bool, false, if◌then◌else◌, Option, Some, None, is_none, is_some, Result}
use Rattle.std.specs.Prelude.{true}
use Rattle.std.specs.Prelude.{Ok, Err, List, [], ◌∷◌, length, slice_get, slice_set, ◌≡◌}
use Rattle.std.specs.Option.{option_to_list}
use Rattle.pes_packet.specs.AccessUnits.{AccessUnit}
use Rattle.pid_findings.specs.Views.{FindingView, WhatView, IsDuplicate, BreaksCounter, IsScrambled, IsTruncated, IsSection, IsBadSection, IsPes, IsBadPes}
use Rattle.pid_findings.specs.Views.{IsBadPacket, IsErrored, IsStray}
use Rattle.demux.specs.Laws.{has_pid}
use Rattle.es_units.specs.ApartSteps.{is_same_after, place_past, set_apart}
use Rattle.es_units.specs.CarriedUnits.{first_packet, role_of}
use Rattle.es_moments.specs.Stamps.{distance, unit_at, unit_fault}
use Rattle.es_units.specs.UnitSteps.{UnitsSoFar, after_finding, ended_unit, made_whole, start_of}
use Rattle.es_moments.specs.declared.stamps.StampFault.{StampFault}
use Rattle.fed_streams.specs.declared.feed_fault.FeedFault.{FeedFault}
use Rattle.fed_streams.specs.declared.due.Due.{Due}
use Rattle.fed_streams.specs.declared.feed_fault.FeedFault.TheVariants.{Stamp, Ahead, Lost, Cut, Stray, Map, Other, Packet, Restarted}
use Rattle.fed_streams.specs.declared.feed_fault.CutCause.{CutCause}
use Rattle.fed_streams.specs.declared.feed_fault.CutCause.TheVariants as causes
use Rattle.fed_streams.specs.declared.feed_fault.CutUnits.{CutUnits}
use Rattle.fed_streams.specs.declared.feed_fault.Loss.{Loss}
use Rattle.fed_streams.specs.declared.feed_fault.NewMap.{NewMap}
use Rattle.fed_streams.specs.declared.feed_fault.OtherStream.{OtherStream}
use Rattle.fed_streams.specs.declared.feed_fault.PacketFault.{PacketFault}
use Rattle.fed_streams.specs.declared.feed_fault.PacketFault.TheVariants.{Bad, Errored, Rest}
use Rattle.fed_streams.specs.declared.feed_fault.Restart.{Restart}
use Rattle.fed_streams.specs.declared.origin.Origin.{Origin}
use Rattle.fed_streams.specs.declared.restart.Seen.{Seen}
use Rattle.fed_streams.specs.declared.restart.Seen.TheVariants.{NoUnit, Good, Falls}
use Rattle.fed_streams.specs.Origins.{base_for, no_origin, origin_with}
use Rattle.fed_streams.specs.Maps.{MapView, maps_after, new_map, other_stream}
use Rattle.fed_streams.specs.Restarts.{fallen_after, is_fall, origin_by, restart_of}
use Rattle.es_units.specs.Marking.{MarkingView}
use Rattle.es_moments.specs.WireUnits.{CarriedUnit}

-- 1. A stream

-- a stream: its number in the description, the DTS of its last unit that has a moment, what is kept of its units, whether units
-- follow one another (one has started, and nothing that is reported has come since), whether payload in no PES packet has come
-- since its last PES packet, and how many units that are due with the unit under way are before it in a row, counted up to 63
pub record FedStreamView : Type 0 where
  pub number : ℕ
  pub before : Option ℕ
  pub units : UnitsSoFar
  pub follow : Bool
  pub stray : Bool
  pub place : ℕ

-- a unit at its moment with the number of its stream, or a fault in its place
abbrev pub Fed : Type 0
Fed = ℕ × Result AccessUnit FeedFault

-- how long after the greatest DTS so far a moment lies, if that is over 10 s: no unit waits longer in a decoder for its DTS (ISO/IEC 13818-1, 2.4.2.6),
-- so a unit that is due so much later belongs to another clock
unfoldable pub ahead_of : Option ℕ → ℕ → Option ℕ
ahead_of None dts = None
ahead_of (Some greatest) dts = if nat_lt (greatest + 900_000) dts then Some (dts - greatest) else None

unfoldable pub unless_ahead : Option ℕ → AccessUnit → Result AccessUnit FeedFault
unless_ahead None u = Ok u
unless_ahead (Some by) u = Err (Ahead by)

unfoldable pub unless_fault : Option ℕ → Option StampFault → AccessUnit → Result AccessUnit FeedFault
unless_fault greatest None u = unless_ahead (ahead_of greatest u.dts) u
unless_fault greatest (Some fault) u = Err (Stamp fault)

-- no description lets a unit be presented longer after its DTS than a minute; a queue asks for the limit of its stream
abbrev pub greatest_pts_limit : ℕ
greatest_pts_limit = 5_400_000

-- a unit at its moment after a DTS or after none, where the clock shows `base` at moment 0, and after the greatest DTS so far, where one
-- counts
abbrev pub at_moment : Option ℕ → ℕ → Option ℕ → AccessUnit → Result AccessUnit FeedFault
at_moment greatest base before u = unless_fault greatest (unit_fault greatest_pts_limit base before u) (unit_at base before u)

-- the last DTS after it: a unit that has no moment is left out, and moves nothing
unfoldable pub last_dts : Option ℕ → Result AccessUnit FeedFault → Option ℕ
last_dts before (Ok u) = Some u.dts
last_dts before (Err fault) = before

-- what the clock shows at moment 0: the first unit of all fixes it, which is due at `earliest`
unfoldable pub base_by : ℕ → Option ℕ → AccessUnit → ℕ
base_by earliest None u = distance earliest u.dts
base_by earliest (Some base) u = base

abbrev pub base_of : Due → Origin → CarriedUnit → ℕ
base_of due o w = base_by due.earliest (base_for o w.packet w.unit.dts) w.unit

-- 2. A unit that is whole, if one is

unfoldable pub origin_after : Due → Origin → Option CarriedUnit → Origin
origin_after due o None = o
origin_after due o (Some w) = origin_with o w.packet w.unit.dts (base_of due o w)

unfoldable pub before_with : Due → Origin → Option ℕ → Option CarriedUnit → Option ℕ
before_with due o before None = before
before_with due o before (Some w) = last_dts before (at_moment due.greatest (base_of due o w) before w.unit)

unfoldable pub fed_with : Due → Origin → ℕ → Option ℕ → Option CarriedUnit → Option Fed
fed_with due o number before None = None
fed_with due o number before (Some w) = Some (number, at_moment due.greatest (base_of due o w) before w.unit)

abbrev pub stream_with : Due → Origin → FedStreamView → Option CarriedUnit → FedStreamView
stream_with due o s w = record s { before = before_with due o s.before w }

abbrev pub fed_by : Due → Origin → FedStreamView → Option CarriedUnit → Option Fed
fed_by due o s w = fed_with due o s.number s.before w

-- 3. A finding, for the stream with its PID

-- the unit of the stream that it makes whole, as on the wire
abbrev pub made_by : FedStreamView → FindingView → Option CarriedUnit
made_by s f = made_whole s.units.split s.units.unit (role_of s.units.pid f)

-- the open unit after the finding
abbrev pub unit_after : FedStreamView → FindingView → Option CarriedUnit
unit_after s f = (after_finding s.units f).unit

-- it is due when the unit that it makes whole is
abbrev pub same_by : FedStreamView → FindingView → Bool
same_by s f = is_same_after (made_by s f) (unit_after s f)

-- the unit of the stream that it makes whole, with a DTS of its own
abbrev pub whole_by : FedStreamView → FindingView → Option CarriedUnit
whole_by s f = set_apart (same_by s f) s.place (made_by s f)

-- how many units of its row are before the open unit after the finding
abbrev pub place_by : FedStreamView → FindingView → ℕ
place_by s f = place_past (same_by s f) s.place (made_by s f)

-- the packets before it that are lost: a continuity_counter does not follow the one before (2.4.3.3)
unfoldable pub lost_by : ℕ → WhatView → Option Loss
lost_by packet (BreaksCounter expected found) = Some (record { packet = packet; expected = expected; found = found })
lost_by packet _ = None

-- what it is, where it is neither lost packets nor ignored among units: padding_stream (stream_id 0xBE), a packet that comes twice
-- and payload in no PES packet are
unfoldable pub cause_of : WhatView → Option CutCause
cause_of IsDuplicate = None
cause_of (BreaksCounter expected found) = None
cause_of IsScrambled = Some causes.Scrambled
cause_of (IsTruncated bytes) = Some causes.Truncated
cause_of (IsSection bytes) = Some causes.Section
cause_of (IsBadSection error) = Some causes.Section
cause_of (IsPes header unended body) = if header.id == 0xBE then None else Some causes.NoPts
cause_of (IsBadPes error) = Some causes.BadPes
cause_of (IsBadPacket error) = None
cause_of IsErrored = None
cause_of (IsStray size) = None

unfoldable pub cut_at : ℕ → Option CutCause → Option CutUnits
cut_at packet None = None
cut_at packet (Some cause) = Some (record { packet = packet; cause = cause })

-- a finding cuts units that follow one another if no unit is open after it; the cut has the packet of its first byte
abbrev pub cut_by : Bool → FindingView → Option CutUnits
cut_by cuts f = if cuts then cut_at (first_packet f.packet f.begun) (cause_of f.what) else None

-- the packet whose payload is in no PES packet, if it is the first of a run of such packets
unfoldable pub stray_by : Bool → ℕ → WhatView → Option ℕ
stray_by first packet (IsStray size) = if first then Some packet else None
stray_by first packet _ = None

-- a run of such packets lasts until the next PES packet
unfoldable pub stray_after : Bool → WhatView → Bool
stray_after stray (IsStray size) = true
stray_after stray (IsPes header unended body) = false
stray_after stray _ = stray

unfoldable pub fault_by : Option Loss → Option CutUnits → Option ℕ → Option FeedFault
fault_by (Some loss) cut stray = Some (Lost loss)
fault_by None (Some cut) stray = Some (Cut cut)
fault_by None None (Some packet) = Some (Stray packet)
fault_by None None None = None

-- the first packet of a run whose payload is in no PES packet, where units follow one another: it cuts none
abbrev pub stray_of : FedStreamView → FindingView → Option ℕ
stray_of s f = stray_by (s.follow && not s.stray) f.packet f.what

-- what is reported of it: lost packets in any case
abbrev pub reported_by : FedStreamView → FindingView → Option FeedFault
reported_by s f = fault_by (lost_by f.packet f.what) (cut_by (s.follow && not (is_some (unit_after s f))) f) (stray_of s f)

unfoldable pub fault_fed : ℕ → Option FeedFault → Option Fed
fault_fed number None = None
fault_fed number (Some fault) = Some (number, Err fault)

abbrev pub reported_fed : FedStreamView → FindingView → Option Fed
reported_fed s f = fault_fed s.number (reported_by s f)

-- units follow one another after it
abbrev pub follow_after : FedStreamView → FindingView → Bool
follow_after s f = is_some (unit_after s f) || (s.follow && not (is_some (reported_by s f)))

abbrev pub after_found : FedStreamView → FindingView → FedStreamView
after_found s f = record s { units = after_finding s.units f; follow = follow_after s f; stray = stray_after s.stray f.what; place = place_by s f }

-- all streams, with the moment at which the first unit is due, the constants, what the clock showed at the last reference, in units of 90 kHz, once it has
-- come, and at the reference before it, unless the clock jumped after this one, the last tick, 0 before the first, the marks that are asked for, the programs'
-- maps, and the stamp of the last unit, if it fell where no clock is known
pub record FeedView : Type 0 where
  pub earliest : ℕ
  pub origin : Origin
  pub shown : Option ℕ
  pub earlier : Option ℕ
  pub ticked : ℕ
  pub marking : MarkingView
  pub maps : List MapView
  pub streams : List FedStreamView
  pub fallen : Option ℕ

-- before the first packet of a stream
abbrev pub feed_first : ℕ → MarkingView → List MapView → List FedStreamView → FeedView
feed_first earliest marking maps streams =
    record {
      earliest = earliest;
      origin = no_origin;
      shown = None;
      earlier = None;
      ticked = 0;
      marking = marking;
      maps = maps;
      streams = streams;
      fallen = None;
    }

-- the greatest DTS of units that were fed and of ticks; 0 before the first
unfoldable pub dts_or_0 : Option ℕ → ℕ
dts_or_0 None = 0
dts_or_0 (Some dts) = dts

unfoldable pub greatest_from : ℕ → List FedStreamView → ℕ
greatest_from least [] = least
greatest_from least (s ∷ ss) = greatest_from (max least (dts_or_0 s.before)) ss

abbrev pub greatest_of : FeedView → ℕ
greatest_of feed = greatest_from feed.ticked feed.streams

-- it counts where the clock is known: that moves it on where no unit comes
unfoldable pub greatest_if : Option ℕ → ℕ → Option ℕ
greatest_if None greatest = None
greatest_if (Some shown) greatest = Some greatest

abbrev pub due_of : FeedView → Due
due_of feed = record { earliest = feed.earliest; greatest = greatest_if feed.shown (greatest_of feed) }

abbrev pub with_streams : FeedView → Origin → List FedStreamView → FeedView
with_streams feed o streams =
    record {
      earliest = feed.earliest;
      origin = o;
      shown = feed.shown;
      earlier = feed.earlier;
      ticked = feed.ticked;
      marking = feed.marking;
      maps = feed.maps;
      streams =
          streams;
      fallen = feed.fallen;
    }

-- the first stream of this PID; the first of these has number k
unfoldable pub place_from : Option ℕ → ℕ → List FedStreamView → Option ℕ
place_from pid k [] = None
place_from pid k (s ∷ ss) = if has_pid s.units.pid pid then Some k else place_from pid (k + 1) ss

-- with a unit that is whole at stream k, which is s beside that
abbrev pub feed_with : FeedView → ℕ → FedStreamView → Option CarriedUnit → FeedView
feed_with feed k s w = with_streams feed (origin_after (due_of feed) feed.origin w) (slice_set feed.streams k (stream_with (due_of feed) feed.origin s w))

unfoldable pub after_at : FeedView → FindingView → ℕ → Option FedStreamView → FeedView
after_at feed f k None = feed
after_at feed f k (Some s) = feed_with feed k (after_found s f) (whole_by s f)

unfoldable pub fed_at : FeedView → FindingView → Option FedStreamView → List Fed
fed_at feed f None = []
fed_at feed f (Some s) = option_to_list (fed_by (due_of feed) feed.origin s (whole_by s f)) ++ option_to_list (reported_fed s f)

unfoldable pub after_place : FeedView → FindingView → Option ℕ → FeedView
after_place feed f None = feed
after_place feed f (Some k) = after_at feed f k (slice_get feed.streams k)

unfoldable pub fed_place : FeedView → FindingView → Option ℕ → List Fed
fed_place feed f None = []
fed_place feed f (Some k) = fed_at feed f (slice_get feed.streams k)

-- after a finding, and what it feeds, by its PID
abbrev pub after_unit : FeedView → FindingView → FeedView
after_unit feed f = after_place feed f (place_from f.pid 0 feed.streams)

abbrev pub fed_unit : FeedView → FindingView → List Fed
fed_unit feed f = fed_place feed f (place_from f.pid 0 feed.streams)

-- the fault of a map that changes, before the finding; 255 says that it belongs to no stream
unfoldable pub map_fed : Option NewMap → Option Fed
map_fed None = None
map_fed (Some change) = Some (255, Err (Map change))

abbrev pub watched : FeedView → FindingView → FeedView
watched feed f =
    record {
      earliest = feed.earliest;
      origin = feed.origin;
      shown = feed.shown;
      earlier = feed.earlier;
      ticked = feed.ticked;
      marking = feed.marking;
      maps = maps_after f feed.maps;
      streams = feed.streams;
      fallen = feed.fallen;
    }

-- 4. A restart

-- the fed unit has the fault of a fall
unfoldable pub falls : Fed → Bool
falls (n, Ok u) = false
falls (n, Err fault) = is_fall fault

unfoldable pub is_fallen : Option Fed → Bool
is_fallen None = false
is_fallen (Some fed) = falls fed

-- how the feed sees a whole unit, by its first packet and its DTS on the wire: if a clock is known, no unit falls
unfoldable pub seen_of : Option ℕ → Option (ℕ × ℕ) → Option Fed → Seen
seen_of shown None fed = NoUnit
seen_of shown (Some (packet, stamp)) fed = if is_none shown && is_fallen fed then Falls packet stamp else Good

unfoldable pub seen_by : FeedView → FindingView → Option FedStreamView → Seen
seen_by feed f None = NoUnit
seen_by feed f (Some s) = seen_of feed.shown (start_of (whole_by s f)) (fed_by (due_of feed) feed.origin s (whole_by s f))

unfoldable pub seen_place : FeedView → FindingView → Option ℕ → Seen
seen_place feed f None = NoUnit
seen_place feed f (Some k) = seen_by feed f (slice_get feed.streams k)

-- the unit that a finding makes whole of the stream with its PID
abbrev pub seen_in : FeedView → FindingView → Seen
seen_in feed f = seen_place feed f (place_from f.pid 0 feed.streams)

abbrev pub restart_in : FeedView → Seen → Option Restart
restart_in feed seen = restart_of (greatest_of feed) feed.fallen seen

abbrev pub restarted : FeedView → Seen → FeedView
restarted feed seen = record {
  earliest = feed.earliest;
  origin = origin_by feed.origin (restart_in feed seen);
  shown = feed.shown;
  earlier = feed.earlier;
  ticked = feed.ticked;
  marking = feed.marking;
  maps = feed.maps;
  streams = feed.streams;
  fallen = fallen_after feed.fallen seen;
}

-- the report of a restart, after the unit that shows it; 255 says that it concerns all streams
unfoldable pub restart_fed : Option Restart → Option Fed
restart_fed None = None
restart_fed (Some restart) = Some (255, Err (Restarted restart))

-- after a finding, and what it feeds
abbrev pub after_found_in : FeedView → FindingView → FeedView
after_found_in feed f = restarted (after_unit feed f) (seen_in feed f)

abbrev pub after_one : FeedView → FindingView → FeedView
after_one feed f = after_found_in (watched feed f) f

abbrev pub fed_found : FeedView → FindingView → List Fed
fed_found feed f = fed_unit feed f ++ option_to_list (restart_fed (restart_in (after_unit feed f) (seen_in feed f)))

-- a finding on no PID: a packet that cannot be read, a packet with transport_error_indicator, or bytes at the end of a stream
unfoldable pub packet_fault_of : ℕ → WhatView → Option PacketFault
packet_fault_of packet (IsBadPacket error) = Some (Bad packet)
packet_fault_of packet IsErrored = Some (Errored packet)
packet_fault_of packet (IsTruncated bytes) = Some (Rest (length bytes))
packet_fault_of packet _ = None

unfoldable pub packet_fault : FindingView → Option PacketFault
packet_fault f = if is_some f.pid then None else packet_fault_of f.packet f.what

unfoldable pub packet_fed : Option PacketFault → Option Fed
packet_fed None = None
packet_fed (Some fault) = Some (255, Err (Packet fault))

-- the description is of another stream
unfoldable pub other_fed : Option OtherStream → Option Fed
other_fed None = None
other_fed (Some other) = Some (255, Err (Other other))

abbrev pub reported_first : FeedView → FindingView → List Fed
reported_first feed f =
    option_to_list (other_fed (other_stream f feed.maps)) ++ (option_to_list (map_fed (new_map f feed.maps)) ++ option_to_list (packet_fed (packet_fault f)))

abbrev pub fed_one : FeedView → FindingView → List Fed
fed_one feed f = reported_first feed f ++ fed_found (watched feed f) f

-- 5. Findings one after another

unfoldable pub after_all : FeedView → List FindingView → FeedView
after_all feed [] = feed
after_all feed (f ∷ fs) = after_all (after_one feed f) fs

unfoldable pub fed_all : FeedView → List FindingView → List Fed
fed_all feed [] = []
fed_all feed (f ∷ fs) = fed_one feed f ++ fed_all (after_one feed f) fs

-- 6. The end of the findings: the last unit of each stream, in the order of the streams

unfoldable pub fed_last : Due → Origin → List FedStreamView → List Fed
fed_last due o [] = []
fed_last due o (s ∷ ss) = option_to_list (fed_by due o s (ended_unit false s.units.unit))
    ++ fed_last due (origin_after due o (ended_unit false s.units.unit)) ss

abbrev pub fed_ends : FeedView → List Fed
fed_ends feed = fed_last (due_of feed) feed.origin feed.streams

-- all that is fed of findings that end
abbrev pub fed_to_end : FeedView → List FindingView → List Fed
fed_to_end feed fs = fed_all feed fs ++ fed_ends (after_all feed fs)

-- what later findings feed comes after what the earlier ones have fed
abbrev pub FedInTurn : Type 0
FedInTurn = (feed : FeedView) (fs more : List FindingView) → fed_all feed (fs ++ more) ≡ fed_all feed fs ++ fed_all (after_all feed fs) more
