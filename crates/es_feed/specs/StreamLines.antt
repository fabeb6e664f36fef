-- The lines of fed records, one after another: one for each fault, except that a stream whose DTS do not rise has one line for all its units that
-- fall. A header without a DTS means the DTS that its PTS gives (ISO/IEC 13818-1, 2.4.3.7), so where a multiplexer leaves DTS out, pictures in another
-- order than shown fall, each by at most a second. Two such units among 251 of a stream in a row (10 s of 25 pictures a second) show it; one
-- alone may be a damaged stamp. A stream that stops has a line, and one when it has units again (`Stops`).
use Rattle.std.specs.Prelude.{ℕ, ◌-◌, ◌++◌, ◌==◌, ◌||◌, nat_le, nat_lt, Bool, true, false, if◌then◌else◌, Option, Some, None, is_some, List, [], ◌∷◌, length}
use Rattle.std.specs.Prelude.{Ok, Err, codes, decimal, replicate, slice_get, slice_set, unwrap_or}
use Rattle.es_moments.specs.declared.stamps.StampFault.{StampFault}
use Rattle.es_moments.specs.declared.stamps.StampFault.TheVariants.{DtsNotIncreasing, PtsOutOfRange, DtsTooFar}
use Rattle.es_feed.specs.FedLines.{fault_line, pid_at}
use Rattle.es_feed.specs.Stops.{StopsView, after_unit, change_by, first_stops}
use Rattle.es_feed.specs.declared.stops.StopChange.{StopChange}
use Rattle.es_feed.specs.declared.stops.StopChange.TheVariants.{Stops, Resumes}
use Rattle.fed_streams.specs.Feeding.{Fed}
use Rattle.fed_streams.specs.declared.feed_fault.FeedFault.{FeedFault}
use Rattle.fed_streams.specs.declared.feed_fault.FeedFault.TheVariants.{Stamp, Ahead, Lost, Cut, Stray, Map, Clock, Other, Packet, Restarted, Silent, Slipped}

-- 1. Units that fall

-- a unit's DTS is the DTS before it, or at most a second before that one
unfoldable pub is_short : StampFault → Bool
is_short (DtsNotIncreasing by) = nat_le by 90_000
is_short (PtsOutOfRange after limit) = false
is_short DtsTooFar = false

unfoldable pub is_short_fall : FeedFault → Bool
is_short_fall (Stamp fault) = is_short fault
is_short_fall (Ahead by) = false
is_short_fall (Lost loss) = false
is_short_fall (Cut cut) = false
is_short_fall (Stray packet) = false
is_short_fall (Map change) = false
is_short_fall (Clock jump) = false
is_short_fall (Other other) = false
is_short_fall (Packet fault) = false
is_short_fall (Restarted restart) = false
is_short_fall (Silent dts) = false
is_short_fall (Slipped bytes) = false

-- how the units of a stream fell: 0, none of the last 250; 1 to 250, one of them, and for how many more units it counts; 255, its DTS do not rise

unfoldable pub fell_by : ℕ → FeedFault → ℕ
fell_by fell fault = if is_short_fall fault then (if fell == 0 then 250 else 255) else fell

-- after a unit that does not fall
unfoldable pub fell_less : ℕ → ℕ
fell_less fell = if fell == 255 then 255 else fell - 1

-- 2. Lines

-- the stream of a PID has no DTS that rise
abbrev pub unordered_line : ℕ → List ℕ
unordered_line pid = (codes "pid " ++ decimal pid) ++ codes " has no DTS that rise: units that fall are left out\n"

-- a unit falls so: the first one has the line of its fault, the second one says that the DTS do not rise, and later ones have no line
unfoldable pub fall_lines : ℕ → ℕ → FeedFault → List (List ℕ)
fall_lines fell pid fault = if fell == 0 then fault_line pid fault ∷ [] else (if fell == 255 then [] else unordered_line pid ∷ [])

unfoldable pub fault_lines : ℕ → ℕ → FeedFault → List (List ℕ)
fault_lines fell pid fault = if is_short_fall fault then fall_lines fell pid fault else fault_line pid fault ∷ []

-- the stream of a PID has stopped
abbrev pub stopped_line : ℕ → List ℕ
stopped_line pid = (codes "pid " ++ decimal pid) ++ codes " has stopped: no unit for 10 s, but other streams have units\n"

-- the stream of a PID has units again, after so long in units of 90 kHz
abbrev pub resumed_line : ℕ → ℕ → List ℕ
resumed_line pid long = (((codes "pid " ++ decimal pid) ++ codes " has units again after ") ++ decimal long) ++ codes "\n"

-- what a unit of the stream of a number shows
unfoldable pub change_line : List ℕ → ℕ → StopChange → List ℕ
change_line pids n (Stops k) = stopped_line (pid_at pids k)
change_line pids n (Resumes long) = resumed_line (pid_at pids n) long

unfoldable pub change_lines : List ℕ → ℕ → Option StopChange → List (List ℕ)
change_lines pids n None = []
change_lines pids n (Some change) = change_line pids n change ∷ []

-- 3. Records one after another

-- the PID of each stream of a description, how the units of the stream with each number fell so far, and how they came; 255 is the number of no stream
pub record LinesView : Type 0 where
  pub pids : List ℕ
  pub fell : List ℕ
  pub stops : StopsView

-- before the first record
abbrev pub first_lines : List ℕ → LinesView
first_lines pids = record { pids = pids; fell = replicate 256 0; stops = first_stops }

abbrev pub fell_at : LinesView → ℕ → ℕ
fell_at s n = unwrap_or (slice_get s.fell n) 0

-- a tick is a record of no stream
unfoldable pub change_at : LinesView → ℕ → ℕ → Option StopChange
change_at s n dts = if nat_lt n (length s.pids) then change_by s.stops n dts else None

unfoldable pub stops_at : LinesView → ℕ → ℕ → StopsView
stops_at s n dts = if nat_lt n (length s.pids) then after_unit s.stops n dts else s.stops

abbrev pub after_unit_of : LinesView → ℕ → ℕ → LinesView
after_unit_of s n dts = record { pids = s.pids; fell = slice_set s.fell n (fell_less (fell_at s n)); stops = stops_at s n dts }

abbrev pub after_fault : LinesView → ℕ → FeedFault → LinesView
after_fault s n fault = record { pids = s.pids; fell = slice_set s.fell n (fell_by (fell_at s n) fault); stops = s.stops }

unfoldable pub after_one : LinesView → Fed → LinesView
after_one s (n, Ok u) = after_unit_of s n u.dts
after_one s (n, Err fault) = after_fault s n fault

-- the lines of a record, and whether it has one; of units that fall in a stream whose DTS do not rise, whether there was one
unfoldable pub lines_of : LinesView → Fed → List (List ℕ)
lines_of s (n, Ok u) = change_lines s.pids n (change_at s n u.dts)
lines_of s (n, Err fault) = fault_lines (fell_at s n) (pid_at s.pids n) fault

unfoldable pub has_line : LinesView → Fed → Bool
has_line s (n, Ok u) = is_some (change_at s n u.dts)
has_line s (n, Err fault) = true

unfoldable pub after_lines : LinesView → List Fed → LinesView
after_lines s [] = s
after_lines s (f ∷ fs) = after_lines (after_one s f) fs

unfoldable pub lines_from : LinesView → List Fed → List (List ℕ)
lines_from s [] = []
lines_from s (f ∷ fs) = lines_of s f ++ lines_from (after_one s f) fs

unfoldable pub have_line : LinesView → List Fed → Bool
have_line s [] = false
have_line s (f ∷ fs) = has_line s f || have_line (after_one s f) fs

-- the lines of all records of a stream
abbrev pub fed_lines : List ℕ → List Fed → List (List ℕ)
fed_lines pids fed = lines_from (first_lines pids) fed
