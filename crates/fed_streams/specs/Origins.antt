-- The constants that turn stamps into moments of a run: the clock of a stream shows this value at moment 0. All streams share one, since the stamps of a
-- program have one clock (ISO/IEC 13818-1, 2.4.3.7); where that clock jumps, the constant is fixed again. A jump that no discontinuity_indicator announces
-- (2.4.3.5) is doubtful until the next reference.
use Rattle.std.specs.Prelude.{◌<◌, ◌^◌, ℕ, ◌&&◌, ◌||◌, not, nat_le, nat_lt, Bool, false, if◌then◌else◌, Option, Some, None, IfSome}
use Rattle.es_moments.specs.Stamps.{distance}
use Rattle.fed_streams.specs.declared.origin.DoubtfulClock.{DoubtfulClock}
use Rattle.fed_streams.specs.declared.origin.Origin.{Origin}

-- before the first unit
abbrev pub no_origin : Origin
no_origin = record { now = None; since = 0; before = None; doubtful = None }

-- a constant is a stamp
abbrev pub IsBase : Option ℕ → Type 0
IsBase base = IfSome base (λ base. base < 2 ^ 33)

-- constants are stamps
abbrev pub IsOrigin : Origin → Type 0
IsOrigin o = IsBase o.now × IsBase o.before × IfSome o.doubtful (λ d. IsBase d.base)

-- 1. A doubtful clock

-- a DTS is near what a clock shows: at most 10 s after it, as long as a unit waits in a decoder (2.4.2.6), or half a second before it, where a unit is late
unfoldable pub is_near : ℕ → ℕ → Bool
is_near shown dts = nat_le (distance shown dts) 900_000 || nat_le (distance dts shown) 45_000

-- a unit with this first packet and this DTS belongs to a doubtful clock: it begins in the packet of the doubtful reference or later, and its DTS is not
-- near what the clock showed before
unfoldable pub is_doubtful : Option DoubtfulClock → ℕ → ℕ → Bool
is_doubtful None packet dts = false
is_doubtful (Some d) packet dts = nat_le d.packet packet && not (is_near d.before dts)

unfoldable pub doubtful_base : Option DoubtfulClock → Option ℕ
doubtful_base None = None
doubtful_base (Some d) = d.base

unfoldable pub doubtful_with : Option DoubtfulClock → ℕ → Option DoubtfulClock
doubtful_with None base = None
doubtful_with (Some d) base = Some (record { packet = d.packet; before = d.before; shown = d.shown; base = Some base })

-- 2. The constant of a unit

-- the constant of a unit with this first packet and this DTS, once it is fixed: units that begin before the packet of the clock's last jump have the
-- constant of the clock before
unfoldable pub base_for : Origin → ℕ → ℕ → Option ℕ
base_for o packet dts =
    if nat_lt packet o.since then o.before else (if is_doubtful o.doubtful packet dts then doubtful_base o.doubtful else o.now)

-- after such a unit with this constant
unfoldable pub origin_with : Origin → ℕ → ℕ → ℕ → Origin
origin_with o packet dts base =
    if nat_lt packet o.since then record { now = o.now; since = o.since; before = Some base; doubtful = o.doubtful } else
    (if is_doubtful o.doubtful packet dts then record { now = o.now; since = o.since; before = o.before; doubtful = doubtful_with o.doubtful base } else
    record { now = Some base; since = o.since; before = o.before; doubtful = o.doubtful })

-- 3. Jumps

-- a constant that is fixed gets a new value, so that the clock shows this value at a moment
unfoldable pub jumped_base : ℕ → ℕ → Option ℕ → Option ℕ
jumped_base moment shown None = None
jumped_base moment shown (Some base) = Some (distance moment shown)

-- after a packet at which the clock jumps
unfoldable pub origin_jumped : Origin → ℕ → ℕ → ℕ → Origin
origin_jumped o packet moment shown = record { now = jumped_base moment shown o.now; since = packet; before = o.now; doubtful = None }

-- after a doubtful reference in a packet: the clock showed `before`
unfoldable pub origin_doubted : Origin → ℕ → ℕ → Option ℕ → ℕ → Origin
origin_doubted o packet moment None shown = record { now = o.now; since = o.since; before = o.before; doubtful = None }
origin_doubted o packet moment (Some before) shown =
    record {
      now = o.now;
      since = o.since;
      before = o.before;
      doubtful = Some (record { packet = packet; before = before; shown = shown; base = jumped_base moment shown o.now });
    }

-- the doubtful reference does not count
unfoldable pub origin_kept : Origin → Origin
origin_kept o = record { now = o.now; since = o.since; before = o.before; doubtful = None }

-- the doubtful reference counts: the clock jumped in its packet
unfoldable pub confirmed_by : Origin → Option DoubtfulClock → Origin
confirmed_by o None = o
confirmed_by o (Some d) = record { now = d.base; since = d.packet; before = o.now; doubtful = None }

abbrev pub origin_confirmed : Origin → Origin
origin_confirmed o = confirmed_by o o.doubtful
