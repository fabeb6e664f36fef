-- A stream that stops while other streams go on, by the DTS of units. Data and subtitles may pause, so a stream is watched once it is
-- steady: 25 of its units in a row came at most a second apart. Time is the greatest DTS of the units of steady streams, so streams that
-- all fall silent, and begin again, have not stopped.
use Rattle.std.specs.Prelude.{ℕ, ◌+◌, ◌-◌, ◌==◌, ◌&&◌, nat_le, nat_lt, max, min, Bool, if◌then◌else◌, Option, Some, None, List, position, replicate}
use Rattle.std.specs.Prelude.{slice_get, slice_set, unwrap_or}
use Rattle.es_feed.specs.declared.stops.StreamPace.{StreamPace}
use Rattle.es_feed.specs.declared.stops.StopChange.{StopChange}
use Rattle.es_feed.specs.declared.stops.StopChange.TheVariants.{Stops, Resumes}

-- 1. One stream

abbrev pub no_pace : StreamPace
no_pace = record { steady = 0; since = 0 }

-- how many units in a row came at most a second apart, counted up to 25, after one more; 26 says that the stream had stopped
unfoldable pub steady_after : ℕ → ℕ → ℕ
steady_after steady gap = if steady == 26 then 0 else (if nat_le gap 90_000 then min (steady + 1) 25 else 0)

-- after a unit with this DTS: time has come to it, or was there before
abbrev pub pace_after : ℕ → ℕ → StreamPace → StreamPace
pace_after time dts p = record { steady = steady_after p.steady (dts - p.since); since = max time dts }

abbrev pub time_after : ℕ → StreamPace → ℕ
time_after time p = if p.steady == 25 then p.since else time

-- time has moved by more than 10 s since the last unit of a steady stream
abbrev pub has_stopped : ℕ → StreamPace → Bool
has_stopped time p = p.steady == 25 && nat_lt 900_000 (time - p.since)

-- 2. All streams, by their numbers

pub record StopsView : Type 0 where
  pub paces : List StreamPace
  pub time : ℕ

abbrev pub first_stops : StopsView
first_stops = record { paces = replicate 256 no_pace; time = 0 }

abbrev pub pace_at : StopsView → ℕ → StreamPace
pace_at s n = unwrap_or (slice_get s.paces n) no_pace

abbrev pub moved : StopsView → ℕ → ℕ → StopsView
moved s n dts = record {
  paces = slice_set s.paces n (pace_after s.time dts (pace_at s n));
  time = time_after s.time (pace_after s.time dts (pace_at s n));
}

-- the stream of the unit had stopped, for so long
abbrev pub resumed : StopsView → ℕ → ℕ → Option ℕ
resumed s n dts = if (pace_at s n).steady == 26 then Some (max s.time dts - (pace_at s n).since) else None

-- the first stream that has stopped, and whose stop is not reported
abbrev pub stopped_in : StopsView → Option ℕ
stopped_in s = position (has_stopped s.time) s.paces

unfoldable pub marked : Option ℕ → StopsView → StopsView
marked None s = s
marked (Some k) s = record { paces = slice_set s.paces k (record { steady = 26; since = (pace_at s k).since }); time = s.time }

-- 3. A unit of the stream of a number, with its DTS

-- what it shows: that its stream resumes, or that a stream has stopped
unfoldable pub change_of : Option ℕ → Option ℕ → Option StopChange
change_of (Some long) stopped = Some (Resumes long)
change_of None None = None
change_of None (Some k) = Some (Stops k)

unfoldable pub after_change : Option ℕ → StopsView → StopsView
after_change (Some long) s = s
after_change None s = marked (stopped_in s) s

abbrev pub change_by : StopsView → ℕ → ℕ → Option StopChange
change_by s n dts = change_of (resumed s n dts) (stopped_in (moved s n dts))

abbrev pub after_unit : StopsView → ℕ → ℕ → StopsView
after_unit s n dts = after_change (resumed s n dts) (moved s n dts)
