-- A single damaged clock reference moves nothing, wherever it points.
use Rattle.std.specs.Prelude.{◌≡◌, ◌≤◌, ℕ, true, false, Some, is_some}
use Rattle.std.specs.Option.{option_to_list}
use Rattle.es_moments.specs.Stamps.{distance}
use Rattle.packet_pcr.specs.PacketPcr.{is_on}
use Rattle.packet_pcr.specs.declared.pcr_reading.FoundPcr.{FoundPcr}
use Rattle.fed_streams.specs.Clocks.{continued, follows, jump_of, jumps, returns}
use Rattle.fed_streams.specs.Feeding.{FeedView}
use Rattle.fed_streams.specs.Maps.{clock_pid}
use Rattle.fed_streams.specs.Origins.{base_for, is_near, origin_doubted, origin_kept}
use Rattle.fed_streams.specs.Ticks.{after_own, fed_own, jump_fed, step_in, timed_in}
use Rattle.fed_streams.specs.declared.clock_jump.ClockStep.TheVariants.{Continues}
use Rattle.fed_streams.specs.declared.origin.Origin.{Origin}

-- 1. Two references

-- a reference of a known clock without a discontinuity_indicator that continues no doubtful reference: it may show anything
pub record IsStrange (feed : FeedView) (pcr : FoundPcr) : Type 0 where
  pub own : is_on pcr.pid (clock_pid feed.maps) ≡ true
  pub known : is_some feed.shown ≡ true
  pub unannounced : pcr.discontinuity ≡ false
  pub alone : follows feed.origin.doubtful pcr.base ≡ false

-- a reference that continues neither the last reference nor the one before it
pub record IsFar (feed : FeedView) (pcr : FoundPcr) : Type 0 where
  pub leaves : jumps feed.shown pcr.base ≡ true
  pub apart : returns feed.earlier pcr.base ≡ false

-- a reference of the clock that continues the clock
pub record IsOnTime (feed : FeedView) (pcr : FoundPcr) : Type 0 where
  pub own : is_on pcr.pid (clock_pid feed.maps) ≡ true
  pub stays : jumps feed.shown pcr.base ≡ false

-- 2. What a strange reference moves

-- a unit that is near what the clock showed before a doubtful reference has the constant that it has without this reference
abbrev pub NearUnitsStay : Type 0
NearUnitsStay = (o : Origin) (packet moment before shown first dts : ℕ) → is_near before dts ≡ true →
    base_for (origin_doubted o packet moment (Some before) shown) first dts ≡ base_for (origin_kept o) first dts

-- a strange reference that is far gives its report alone; after the next reference, if that continues the clock, all is as if the strange reference had not
-- been there
abbrev pub FarIsForgotten : Type 0
FarIsForgotten = (feed : FeedView) (strange next : FoundPcr) → IsStrange feed strange → IsFar feed strange → IsOnTime feed next →
    (fed_own feed strange ≡ option_to_list (jump_fed (jump_of feed.shown strange))) × (after_own (after_own feed strange) next ≡ after_own feed next)
    × (fed_own (after_own feed strange) next ≡ fed_own feed next)

-- a reference that continues the clock, or the reference before its last one, moves no constant, and moves time to a second behind a value that the clock
-- shows at most a second after the reference that it continues
abbrev pub ContinuingStays : Type 0
ContinuingStays = (feed : FeedView) (pcr : FoundPcr) (before : ℕ) → is_on pcr.pid (clock_pid feed.maps) ≡ true → step_in feed pcr ≡ Continues →
    continued feed.shown feed.earlier pcr.base ≡ Some before →
    ((after_own feed pcr).origin ≡ origin_kept feed.origin) × (distance before (timed_in feed pcr) ≤ 90_000)

-- after any strange reference and the next reference, if that continues the clock, without a discontinuity_indicator, the constants and the clock are as if
-- the strange reference had not been there
abbrev pub StrangeIsForgotten : Type 0
StrangeIsForgotten = (feed : FeedView) (strange next : FoundPcr) → IsStrange feed strange → IsOnTime feed next → next.discontinuity ≡ false →
    ((after_own (after_own feed strange) next).origin ≡ (after_own feed next).origin)
    × ((after_own (after_own feed strange) next).shown ≡ (after_own feed next).shown)

abbrev pub DamageMovesNothing : Type 0
DamageMovesNothing = NearUnitsStay × FarIsForgotten × ContinuingStays × StrangeIsForgotten
