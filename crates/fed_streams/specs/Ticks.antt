-- The effect of a clock reference of the input on the feed. It moves time on where the streams are silent: a second behind the clock a tick is fed, a
-- record of stream 255 without bytes, after which no unit comes that is due before it. An open unit whose DTS the clock has passed by a second (less 63
-- units of 90 kHz: the next unit may set it apart by so much) is whole, since at its DTS all its bytes are in the decoder's buffer (ISO/IEC 13818-1,
-- 2.4.2.6). A clock that jumps is taken to come 0.3 s after the greatest DTS so far: units which begin after the jump, and are due after it, continue
-- from there, and no stream's first unit comes sooner after its last unit than usual. A doubtful reference moves no time, and no unit that is near the
-- clock before it. Any reference moves time by a second at most beyond the reference that it continues, less the second behind it: it may be damaged.
use Rattle.std.specs.Prelude.{◌≡◌, ◌<◌, ℕ, ◌+◌, ◌-◌, ◌++◌, ◌^◌, ◌&&◌, nat_le, nat_lt, Bool, true, false, if◌then◌else◌, Option, Some, None, IfSome, Ok, Err}
use Rattle.std.specs.Prelude.{List, [], ◌∷◌, All, slice_get}
use Rattle.std.specs.Option.{option_to_list}
use Rattle.demux.specs.Stream.{StreamState, found_in, taken}
use Rattle.pid_findings.specs.Views.{FindingView}
use Rattle.es_units.specs.ApartSteps.{place_past}
use Rattle.es_moments.specs.Stamps.{distance, dts_at}
use Rattle.es_units.specs.UnitSteps.{ended_unit}
use Rattle.pes_packet.specs.Marks.{no_marks}
use Rattle.fed_streams.specs.declared.feed_fault.ClockJump.{ClockJump}
use Rattle.fed_streams.specs.declared.feed_fault.FeedFault.TheVariants.{Clock, Silent}
use Rattle.packet_pcr.specs.declared.pcr_reading.FoundPcr.{FoundPcr}
use Rattle.fed_streams.specs.declared.origin.Origin.{Origin}
use Rattle.packet_pcr.specs.PacketPcr.{is_on, pcr_at}
use Rattle.fed_streams.specs.Clocks.{earlier_after, origin_stepped, report_of, shown_after, step_of, timed_by, unless_doubtful}
use Rattle.fed_streams.specs.declared.clock_jump.ClockStep.{ClockStep}
use Rattle.fed_streams.specs.Feeding.{Fed, FedStreamView, FeedView, after_all, due_of, fed_all, fed_by, feed_with, greatest_from, greatest_of}
use Rattle.fed_streams.specs.Maps.{clock_pid}
use Rattle.es_units.specs.Marking.{all_marked}
use Rattle.fed_streams.specs.Origins.{base_for}
use Rattle.es_moments.specs.WireUnits.{CarriedUnit}

-- 1. A second behind the clock

-- the clock is this long after the greatest DTS so far, modulo 2^33, or before it where that is over half the range; further ahead than 11 s
-- it says nothing
unfoldable pub late_by : ℕ → ℕ → Option ℕ
late_by greatest ahead =
    if nat_le ahead 990_000 then Some (greatest + ahead - 90_000) else (if nat_le (2 ^ 32) ahead then Some (greatest - (2 ^ 33 - ahead) - 90_000) else None)

-- once the constant is fixed
unfoldable pub late_of : Option ℕ → ℕ → ℕ → Option ℕ
late_of None greatest shown = None
late_of (Some base) greatest shown = late_by greatest (distance (base + greatest) shown)

-- 2. Open units

-- when the open unit is due, once its constant is fixed
unfoldable pub due_at : Option ℕ → Option ℕ → ℕ → Option ℕ
due_at None before dts = None
due_at (Some base) before dts = Some (dts_at base before dts)

unfoldable pub under_way_at : Origin → Option ℕ → Option CarriedUnit → Option ℕ
under_way_at o before None = None
under_way_at o before (Some u) = due_at (base_for o u.packet u.unit.dts) before u.unit.dts

abbrev pub under_way : Origin → FedStreamView → Option ℕ
under_way o s = under_way_at o s.before s.units.unit

unfoldable pub is_passed_by : ℕ → Option ℕ → Bool
is_passed_by late None = false
is_passed_by late (Some due) = nat_le (due - 63) late

-- the open unit is due by this moment, or would be if it were set apart from the next unit in a row
abbrev pub is_passed : Origin → ℕ → FedStreamView → Bool
is_passed o late s = is_passed_by late (under_way o s)

-- the number of the first stream that the clock has passed; the first stream of the list has number k
unfoldable pub passed_from : Origin → ℕ → ℕ → List FedStreamView → Option ℕ
passed_from o late k [] = None
passed_from o late k (s ∷ ss) = if is_passed o late s then Some k else passed_from o late (k + 1) ss

-- the stream without its open unit: the next unit is not known when it ends, so both are in no row
abbrev pub without_unit : FedStreamView → FedStreamView
without_unit s = record s {
  units = record { pid = s.units.pid; split = s.units.split; unit = None };
  place = place_past false s.place (ended_unit false s.units.unit);
}

unfoldable pub after_end_at : FeedView → ℕ → Option FedStreamView → FeedView
after_end_at feed k None = feed
after_end_at feed k (Some s) = feed_with feed k (without_unit s) (ended_unit false s.units.unit)

unfoldable pub fed_end_at : FeedView → Option FedStreamView → List Fed
fed_end_at feed None = []
fed_end_at feed (Some s) = option_to_list (fed_by (due_of feed) feed.origin s (ended_unit false s.units.unit))

abbrev pub after_end : FeedView → ℕ → FeedView
after_end feed k = after_end_at feed k (slice_get feed.streams k)

abbrev pub fed_end : FeedView → ℕ → List Fed
fed_end feed k = fed_end_at feed (slice_get feed.streams k)

-- 3. A tick, if no open unit is due by it; none at a moment that no unit may have

abbrev pub is_tick : ℕ → ℕ → Bool
is_tick greatest late = nat_lt greatest late && nat_le late (2 ^ 52)

abbrev pub with_tick : FeedView → ℕ → FeedView
with_tick feed t =
    record {
      earliest = feed.earliest;
      origin = feed.origin;
      shown = feed.shown;
      earlier = feed.earlier;
      ticked = t;
      marking = feed.marking;
      maps = feed.maps;
      streams =
          feed.streams;
      fallen = feed.fallen;
    }

abbrev pub tick : ℕ → Fed
tick t = (255, Ok (record { dts = t; pts = t; marks = no_marks; bytes = [] }))

abbrev pub after_tick : FeedView → ℕ → FeedView
after_tick feed late = if is_tick (greatest_of feed) late then with_tick feed late else feed

-- the greatest DTS of units that were fed; 0 before the first
abbrev pub last_unit : FeedView → ℕ
last_unit feed = greatest_from 0 feed.streams

-- the first tick that is over 10 s after all units: so long all streams are silent
abbrev pub is_silence : FeedView → ℕ → Bool
is_silence feed late = nat_le feed.ticked (last_unit feed + 900_000) && nat_lt (last_unit feed + 900_000) late

-- the report of a silence, before that tick; 255 says that it belongs to no stream
abbrev pub silence : FeedView → ℕ → List Fed
silence feed late = if is_silence feed late then (255, Err (Silent (last_unit feed))) ∷ [] else []

abbrev pub fed_tick : FeedView → ℕ → List Fed
fed_tick feed late = if is_tick (greatest_of feed) late then silence feed late ++ tick late ∷ [] else []

unfoldable pub after_passed : FeedView → ℕ → Option ℕ → FeedView
after_passed feed late None = after_tick feed late
after_passed feed late (Some k) = after_end feed k

unfoldable pub fed_passed : FeedView → ℕ → Option ℕ → List Fed
fed_passed feed late None = fed_tick feed late
fed_passed feed late (Some k) = fed_end feed k

-- the feed after time has moved to this moment
abbrev pub after_moment : FeedView → ℕ → FeedView
after_moment feed late = after_passed feed late (passed_from feed.origin late 0 feed.streams)

abbrev pub fed_moment : FeedView → ℕ → List Fed
fed_moment feed late = fed_passed feed late (passed_from feed.origin late 0 feed.streams)

unfoldable pub after_late : FeedView → Option ℕ → FeedView
after_late feed None = feed
after_late feed (Some late) = after_moment feed late

unfoldable pub fed_late : FeedView → Option ℕ → List Fed
fed_late feed None = []
fed_late feed (Some late) = fed_moment feed late

abbrev pub late_in : FeedView → ℕ → Option ℕ
late_in feed shown = late_of feed.origin.now (greatest_of feed) shown

-- 4. A clock reference of the clock

-- how long after the greatest DTS so far a clock that jumps continues, in units of 90 kHz: 0.3 s
abbrev pub jump_pause : ℕ
jump_pause = 27_000

abbrev pub step_in : FeedView → FoundPcr → ClockStep
step_in feed pcr = step_of feed.shown feed.earlier feed.origin.doubtful pcr

abbrev pub origin_by : FeedView → FoundPcr → Origin
origin_by feed pcr = origin_stepped (step_in feed pcr) feed.origin feed.shown (greatest_of feed + jump_pause) pcr

abbrev pub with_shown : FeedView → FoundPcr → FeedView
with_shown feed pcr =
    record {
      earliest = feed.earliest;
      origin = origin_by feed pcr;
      shown = shown_after (step_in feed pcr) feed.shown pcr;
      earlier = earlier_after (step_in feed pcr) feed.shown feed.earlier;
      ticked = feed.ticked;
      marking = feed.marking;
      maps =
          feed.maps;
      streams = feed.streams;
      fallen = feed.fallen;
    }

-- the report of a jump, before its effect; 255 says that it belongs to no stream
unfoldable pub jump_fed : Option ClockJump → Option Fed
jump_fed None = None
jump_fed (Some jump) = Some (255, Err (Clock jump))

-- the moment to which it moves time: a second behind it, but at most what the clock showed at the reference that it continues
abbrev pub timed_in : FeedView → FoundPcr → ℕ
timed_in feed pcr = timed_by (step_in feed pcr) feed.shown feed.earlier pcr.base

abbrev pub late_after : FeedView → FoundPcr → Option ℕ
late_after feed pcr = unless_doubtful (step_in feed pcr) (late_in (with_shown feed pcr) (timed_in feed pcr))

abbrev pub after_shown : FeedView → FoundPcr → FeedView
after_shown feed pcr = after_late (with_shown feed pcr) (late_after feed pcr)

abbrev pub fed_shown : FeedView → FoundPcr → List Fed
fed_shown feed pcr = option_to_list (jump_fed (report_of (step_in feed pcr) feed.shown pcr)) ++ fed_late (with_shown feed pcr) (late_after feed pcr)

-- a reference on another PID has no effect
abbrev pub after_own : FeedView → FoundPcr → FeedView
after_own feed pcr = if is_on pcr.pid (clock_pid feed.maps) then after_shown feed pcr else feed

abbrev pub fed_own : FeedView → FoundPcr → List Fed
fed_own feed pcr = if is_on pcr.pid (clock_pid feed.maps) then fed_shown feed pcr else []

unfoldable pub after_pcr : FeedView → Option FoundPcr → FeedView
after_pcr feed None = feed
after_pcr feed (Some pcr) = after_own feed pcr

unfoldable pub fed_pcr : FeedView → Option FoundPcr → List Fed
fed_pcr feed None = []
fed_pcr feed (Some pcr) = fed_own feed pcr

-- 5. Packets one after another: the findings in each packet, with the marks that are asked for, and then its clock reference

abbrev pub after_packet : FeedView → List FindingView → Option FoundPcr → FeedView
after_packet feed found pcr = after_pcr (after_all feed (all_marked feed.marking found)) pcr

abbrev pub fed_packet : FeedView → List FindingView → Option FoundPcr → List Fed
fed_packet feed found pcr = fed_all feed (all_marked feed.marking found) ++ fed_pcr (after_all feed (all_marked feed.marking found)) pcr

unfoldable pub after_packets : StreamState → FeedView → List (List ℕ) → FeedView
after_packets s feed [] = feed
after_packets s feed (packet ∷ packets) = after_packets (taken s packet) (after_packet feed (found_in s packet) (pcr_at s.packets packet)) packets

unfoldable pub fed_packets : StreamState → FeedView → List (List ℕ) → List Fed
fed_packets s feed [] = []
fed_packets s feed (packet ∷ packets) =
    fed_packet feed (found_in s packet) (pcr_at s.packets packet)
    ++ fed_packets (taken s packet) (after_packet feed (found_in s packet) (pcr_at s.packets packet)) packets

-- 6. A statement about ticks

-- each unit of a stream that was fed was due before a moment, and its open unit is due after it, even if it is set apart
pub record IsPast (o : Origin) (moment : ℕ) (s : FedStreamView) : Type 0 where
  pub fed : IfSome s.before (λ dts. dts < moment)
  pub later : IfSome (under_way o s) (λ due. moment + 63 < due)

-- this is true of all streams when a tick is fed
abbrev pub TicksArePast : Type 0
TicksArePast = (feed : FeedView) (late : ℕ) → passed_from feed.origin late 0 feed.streams ≡ None → is_tick (greatest_of feed) late ≡ true →
    All (IsPast feed.origin late) feed.streams
