-- An encoder that restarts without a clock: its stamps fall, and go on from there. Where no clock is known, two units one after another that fall
-- by more than a second, with stamps within 10 s of one another, show that; a single stamp that is damaged shows nothing. The stamp of the
-- second one is then taken to come at the greatest DTS so far, so that units which begin after it, and are due after it, go on from there.
use Rattle.std.specs.Prelude.{ℕ, ◌||◌, nat_le, nat_lt, Bool, false, if◌then◌else◌, Option, Some, None}
use Rattle.es_moments.specs.Stamps.{distance}
use Rattle.es_moments.specs.declared.stamps.StampFault.{StampFault}
use Rattle.es_moments.specs.declared.stamps.StampFault.TheVariants.{DtsNotIncreasing, PtsOutOfRange, DtsTooFar}
use Rattle.fed_streams.specs.Origins.{origin_jumped}
use Rattle.fed_streams.specs.declared.feed_fault.FeedFault.{FeedFault}
use Rattle.fed_streams.specs.declared.feed_fault.FeedFault.TheVariants.{Stamp, Ahead, Lost, Cut, Stray, Map, Clock, Other, Packet, Restarted, Silent, Slipped}
use Rattle.fed_streams.specs.declared.feed_fault.Restart.{Restart}
use Rattle.fed_streams.specs.declared.origin.Origin.{Origin}
use Rattle.fed_streams.specs.declared.restart.Seen.{Seen}
use Rattle.fed_streams.specs.declared.restart.Seen.TheVariants.{NoUnit, Good, Falls}

-- 1. A unit that falls

-- its DTS is over a second before the DTS of the unit before it
unfoldable pub is_stamp_fall : StampFault → Bool
is_stamp_fall (DtsNotIncreasing by) = nat_lt 90_000 by
is_stamp_fall (PtsOutOfRange after limit) = false
is_stamp_fall DtsTooFar = false

unfoldable pub is_fall : FeedFault → Bool
is_fall (Stamp fault) = is_stamp_fall fault
is_fall (Ahead by) = false
is_fall (Lost loss) = false
is_fall (Cut cut) = false
is_fall (Stray packet) = false
is_fall (Map change) = false
is_fall (Clock jump) = false
is_fall (Other other) = false
is_fall (Packet fault) = false
is_fall (Restarted restart) = false
is_fall (Silent dts) = false
is_fall (Slipped bytes) = false

-- 2. The second one

-- the stamps of both are within 10 s of one another
unfoldable pub is_again : Option ℕ → ℕ → Bool
is_again None stamp = false
is_again (Some before) stamp = nat_le (distance before stamp) 900_000 || nat_le (distance stamp before) 900_000

-- the stamp of the last unit, if it falls and is the first that does
unfoldable pub fallen_after : Option ℕ → Seen → Option ℕ
fallen_after fallen NoUnit = fallen
fallen_after fallen Good = None
fallen_after fallen (Falls packet stamp) = if is_again fallen stamp then None else Some stamp

-- the restart that a unit shows, at the greatest DTS so far
unfoldable pub restart_of : ℕ → Option ℕ → Seen → Option Restart
restart_of moment fallen NoUnit = None
restart_of moment fallen Good = None
restart_of moment fallen (Falls packet stamp) =
    if is_again fallen stamp then Some (record { packet = packet; stamp = stamp; moment = moment }) else None

-- 3. What it does to the constant of stamps: as a clock that jumps

unfoldable pub origin_by : Origin → Option Restart → Origin
origin_by o None = o
origin_by o (Some r) = origin_jumped o r.packet r.moment r.stamp
