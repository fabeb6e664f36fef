-- Where a clock jumps, by its references. A reference continues the clock if it is at most 10 s after the last reference, or after the one before it: then
-- the last one was damaged. So one damaged reference, unless it is the first of all, moves no constant, wherever it points.
--
-- Worked, in seconds: the references are 100, 100.1 and 100.2 if none is damaged, and then 100.3. In place of 100.2 comes
--   100.4 or 105.2: it continues 100.1, and moves time to 99.4 or 100.1; 100.3 goes back from it, and continues 100.1: nothing moves
--   100.05 (back): it goes back from 100.1, and continues 100; 100.3 continues it
--   99.9, or 500: it continues neither, so it is doubtful; 100.3 continues 100.1, and it is forgotten
--   105.2 and then 105.3: a silence of 5 s; the clock goes on, and 105.3 moves time to 104.3
--   99.9 and then 100: the encoder has restarted 0.3 s back, since the second one continues the first
--   105.2 and then 103.2: both are damaged; 103.2 continues 100.1, and 100.3 continues neither; it is doubtful, and 100.4 makes it a restart
use Rattle.std.specs.Prelude.{ℕ, ◌+◌, ◌%◌, ◌^◌, ◌||◌, not, nat_lt, Bool, false, if◌then◌else◌, Option, Some, None}
use Rattle.packet_pcr.specs.declared.pcr_reading.FoundPcr.{FoundPcr}
use Rattle.es_moments.specs.Stamps.{distance}
use Rattle.fed_streams.specs.declared.clock_jump.ClockStep.{ClockStep}
use Rattle.fed_streams.specs.declared.clock_jump.ClockStep.TheVariants.{Continues, Leaps, Confirms, Doubts}
use Rattle.fed_streams.specs.declared.feed_fault.ClockJump.{ClockJump}
use Rattle.fed_streams.specs.declared.origin.DoubtfulClock.{DoubtfulClock}
use Rattle.fed_streams.specs.declared.origin.Origin.{Origin}
use Rattle.fed_streams.specs.Origins.{origin_confirmed, origin_doubted, origin_jumped, origin_kept}

-- 1. A jump

-- a clock that goes back, or further ahead than 10 s
unfoldable pub jumps : Option ℕ → ℕ → Bool
jumps None base = false
jumps (Some before) base = nat_lt 900_000 (distance before base)

-- the jump that the feed reports at a reference: the clock leaps, or the discontinuity_indicator announces a jump; none at the first reference
unfoldable pub jump_of : Option ℕ → FoundPcr → Option ClockJump
jump_of None pcr = None
jump_of (Some before) pcr =
    if pcr.discontinuity || nat_lt 900_000 (distance before pcr.base) then Some
    (record { pid = pcr.pid; packet = pcr.packet; before = before; after = pcr.base }) else None

-- 2. How a reference fits the clock

-- the reference continues a doubtful one
unfoldable pub follows : Option DoubtfulClock → ℕ → Bool
follows None base = false
follows (Some d) base = not (jumps (Some d.shown) base)

-- the reference continues the reference before the last one, which is damaged then
unfoldable pub returns : Option ℕ → ℕ → Bool
returns None base = false
returns (Some earlier) base = not (jumps (Some earlier) base)

-- a reference without a jump continues the clock. A jump counts at once if the discontinuity_indicator announces it (ISO/IEC 13818-1, 2.4.3.5). A jump that
-- continues a doubtful reference confirms it; a jump that continues the reference before the last one continues the clock, too. Other jumps are doubtful
unfoldable pub step_of : Option ℕ → Option ℕ → Option DoubtfulClock → FoundPcr → ClockStep
step_of shown earlier doubtful pcr = if not (jumps shown pcr.base) then Continues else
    (if pcr.discontinuity then Leaps else (if follows doubtful pcr.base then Confirms else (if returns earlier pcr.base then Continues else Doubts)))

-- the report of a jump that is confirmed came with the doubtful reference
unfoldable pub report_of : ClockStep → Option ℕ → FoundPcr → Option ClockJump
report_of Continues shown pcr = jump_of shown pcr
report_of Leaps shown pcr = jump_of shown pcr
report_of Confirms shown pcr = None
report_of Doubts shown pcr = jump_of shown pcr

-- 3. What it does: a clock that jumps shows this reference at a moment

unfoldable pub origin_stepped : ClockStep → Origin → Option ℕ → ℕ → FoundPcr → Origin
origin_stepped Continues o shown moment pcr = origin_kept o
origin_stepped Leaps o shown moment pcr = origin_jumped o pcr.packet moment pcr.base
origin_stepped Confirms o shown moment pcr = origin_confirmed o
origin_stepped Doubts o shown moment pcr = origin_doubted o pcr.packet moment shown pcr.base

-- what the clock shows after it
unfoldable pub shown_after : ClockStep → Option ℕ → FoundPcr → Option ℕ
shown_after Continues shown pcr = Some pcr.base
shown_after Leaps shown pcr = Some pcr.base
shown_after Confirms shown pcr = Some pcr.base
shown_after Doubts shown pcr = shown

-- what it showed before the last reference, unless it jumped there
unfoldable pub earlier_after : ClockStep → Option ℕ → Option ℕ → Option ℕ
earlier_after Continues shown earlier = shown
earlier_after Leaps shown earlier = None
earlier_after Confirms shown earlier = None
earlier_after Doubts shown earlier = earlier

-- 4. How far it moves time

-- the reference that a reference continues
unfoldable pub continued : Option ℕ → Option ℕ → ℕ → Option ℕ
continued shown earlier base = if jumps shown base then earlier else shown

-- a reference over a second after the one that it continues may be damaged: it moves time as if it were a second after it
unfoldable pub within_a_second : Option ℕ → ℕ → ℕ
within_a_second None base = base
within_a_second (Some before) base = if nat_lt 90_000 (distance before base) then before % 2 ^ 33 + 90_000 else base

-- what the clock shows at the moment to which it moves time, and a second
unfoldable pub timed_by : ClockStep → Option ℕ → Option ℕ → ℕ → ℕ
timed_by Continues shown earlier base = within_a_second (continued shown earlier base) base
timed_by Leaps shown earlier base = base
timed_by Confirms shown earlier base = base
timed_by Doubts shown earlier base = base

-- a doubtful reference moves no time
unfoldable pub unless_doubtful : ClockStep → Option ℕ → Option ℕ
unless_doubtful Continues late = late
unless_doubtful Leaps late = late
unless_doubtful Confirms late = late
unless_doubtful Doubts late = None
