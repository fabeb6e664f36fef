-- Units that are fed while a stream comes, compared with the same units moved by another constant, as in a job of the whole stream.
use Rattle.std.specs.Prelude.{◌≡◌, ◌≤◌, ◌<◌, ℕ, ◌+◌, ◌^◌, true, false, None, Some, List, ◌∷◌, map, slice_get}
use Rattle.pes_packet.specs.AccessUnits.{AccessUnit}
use Rattle.pid_findings.specs.Views.{FindingView}
use Rattle.es_moments.specs.Stamps.{distance, moved}
use Rattle.es_feed.specs.EachStream.{AreFirst, found_of_all, have_fault, one_by_one, units_fed}
use Rattle.fed_streams.specs.Feeding.{Fed, FedStreamView, feed_first}
use Rattle.es_feed.specs.StreamFeeding.{fed_of}
use Rattle.fed_streams.specs.Maps.{MapView}
use Rattle.es_units.specs.Marking.{MarkingView, all_marked}
use Rattle.es_units.specs.CarriedUnits.{apart_wire_units}

-- a unit that is due so much later
abbrev pub after_time : ℕ → AccessUnit → AccessUnit
after_time time u = record { dts = u.dts + time; pts = u.pts + time; marks = u.marks; bytes = u.bytes }

-- units on the wire, with a clock that shows `base` at moment 0: the first unit of one stream is due no later than this after the first unit of another
-- stream
abbrev pub BeginNear : ℕ → ℕ → List AccessUnit → List AccessUnit → Type 0
BeginNear base apart wire other =
    (u v : AccessUnit) (us vs : List AccessUnit) → wire ≡ u ∷ us → other ≡ v ∷ vs → distance base u.dts ≤ distance base v.dts + apart

-- each unit of each stream is one PES packet that nothing interrupts, and the streams begin within this of one another
pub record AreWhole (base apart : ℕ) (streams : List FedStreamView) (findings : List FindingView) : Type 0 where
  pub alone : (k : ℕ) (s : FedStreamView) → slice_get streams k ≡ Some s → one_by_one s.units.pid findings ≡ true
  pub near : (j k : ℕ) (s t : FedStreamView) → slice_get streams j ≡ Some s → slice_get streams k ≡ Some t →
      BeginNear base apart (apart_wire_units s.units.pid findings) (apart_wire_units t.units.pid findings)

-- the units of each stream are the units of its PID with distinct DTS, moved by this constant, in the same order, and all stamps apart by one time, the
-- same for all streams
pub record AreApart (base : ℕ) (streams : List FedStreamView) (findings : List FindingView) (fed : List Fed) : Type 0 where
  pub here : ℕ
  pub there : ℕ
  pub are : (k : ℕ) (s : FedStreamView) → slice_get streams k ≡ Some s →
      map (after_time here) (units_fed k fed) ≡ map (after_time there) (moved base None (apart_wire_units s.units.pid findings))

-- this is true if no fault is reported, and the streams begin no further apart than the first unit of all is due after moment 0
abbrev pub FedApart : Type 0
FedApart = (earliest base : ℕ) (marking : MarkingView) (maps : List MapView) (streams : List FedStreamView) (bytes : List ℕ) → earliest < 2 ^ 32 →
    AreFirst streams →
    have_fault (fed_of (feed_first earliest marking maps streams) bytes) ≡ false → AreWhole base earliest streams (all_marked marking (found_of_all bytes)) →
    AreApart base streams (all_marked marking (found_of_all bytes)) (fed_of (feed_first earliest marking maps streams) bytes)
