-- The declaration of a stream by pace: the least pace that halving finds, with the burst that its units need.
use Rattle.std.specs.Prelude.{◌≡◌, ℕ, zero, suc, ◌+◌, ◌-◌, ◌*◌, ◌/◌, ◌^◌, ◌<◌, ◌≤◌, ◌&&◌, max, min, nat_le, nat_lt, Bool, false, if◌then◌else◌, Option, Some}
use Rattle.std.specs.Prelude.{None, option_map}
use Rattle.std.specs.Int.{div_ceil}
use Rattle.unit_timing.specs.declared.allowance.Allowance.TheVariants.{Pace}
use Rattle.unit_timing.specs.Shares.{parts}
use Rattle.stream_choice.specs.declared.needs.Needs.{Needs}
use Rattle.stream_choice.specs.declared.choice.Choice.{Choice}
use Rattle.stream_choice.specs.Ranges.{is_within}
use Rattle.stream_choice.specs.Shares.{lateness, pace_share}
use Rattle.stream_choice.specs.Buffers.{drains}

-- ---- the lead

-- leads that the main buffer allows: by the sizes of the units that it holds, and by the packets of the share that it holds
abbrev pub lead_by_sizes : Needs → ℕ
lead_by_sizes needs = needs.main / (19 + needs.size) * needs.interval

abbrev pub lead_by_share : Needs → ℕ → ℕ
lead_by_share needs share = ((needs.main / 184 - 1) * parts - 1) / share

-- the greatest of these leads, and none over the greatest lead
abbrev pub longest_lead : Needs → ℕ → ℕ → ℕ
longest_lead needs max_lead share = min (max (lead_by_sizes needs) (lead_by_share needs share)) max_lead

-- the least lead that brings a burst in time
abbrev pub burst_lead : ℕ → ℕ → ℕ → ℕ
burst_lead delay share burst = lateness delay share + div_ceil (parts * burst) share

-- ---- the pace

-- a burst can be declared, and arrives within the longest lead at a share
abbrev pub comes_in_time : Needs → ℕ → ℕ → ℕ → ℕ → Bool
comes_in_time needs delay max_lead burst share =
    is_within 1 100000 burst && nat_le (parts * burst) (share * (longest_lead needs max_lead share - lateness delay share))

-- a burst at a pace arrives in time, and the transport buffer is drained no slower
abbrev pub serves_burst : Needs → ℕ → ℕ → ℕ → ℕ → Bool
serves_burst needs delay max_lead burst pace = drains needs (pace_share pace) && comes_in_time needs delay max_lead burst (pace_share pace)

-- the same with the burst that the units need at the pace
abbrev pub serves : Needs → (ℕ → ℕ) → ℕ → ℕ → ℕ → Bool
serves needs burst delay max_lead pace = nat_lt 0 pace && serves_burst needs delay max_lead (burst pace) pace

-- the greatest pace that is tried, in bit/s: below the rate out of the transport buffer, since a share is rounded up, and at most the greatest rate of an
-- output
abbrev pub greatest_pace : Needs → ℕ
greatest_pace needs = min (needs.rx - 1) 100000000

-- the first of n paces p, p / 2, p / 4, .. that passes a test
unfoldable pub first_half : ℕ → (ℕ → Bool) → ℕ → Option ℕ
first_half zero passes p = None
first_half (suc n) passes p = if passes p then Some p else first_half n passes (p / 2)

-- between a low number that does not pass and a high number that does: halves the range n times, and keeps the half with such ends
unfoldable pub halved : ℕ → (ℕ → Bool) → ℕ → ℕ → ℕ
halved zero passes low high = high
halved (suc n) passes low high =
    if nat_lt (low + 1) high then
    (let middle = (low + high) / 2 in if passes middle then halved n passes low middle else halved n passes middle high)
    else halved n passes low high

-- 27 halves bring any pace down to 1
abbrev pub halves : ℕ
halves = 27

abbrev pub least_pace : Needs → (ℕ → ℕ) → ℕ → ℕ → Option ℕ
least_pace needs burst delay max_lead =
    option_map (halved halves (serves needs burst delay max_lead) 0) (first_half halves (serves needs burst delay max_lead) (greatest_pace needs))

-- ---- the choice

-- the choice of a pace: its burst, the least lead, and its share
abbrev pub paced : (ℕ → ℕ) → ℕ → ℕ → Choice
paced burst delay pace = record {
  allowance = Pace (burst pace) pace;
  lead = burst_lead delay (pace_share pace) (burst pace);
  share = pace_share pace;
}

abbrev pub pace_choice : Needs → (ℕ → ℕ) → ℕ → ℕ → Option Choice
pace_choice needs burst delay max_lead = option_map (paced burst delay) (least_pace needs burst delay max_lead)

-- ---- the properties of a pace

-- its burst is the burst that the units need at its pace, and arrives within its lead; at one bit/s less no burst serves
pub record IsPaceChoice (needs : Needs) (burst : ℕ → ℕ) (delay max_lead : ℕ) (c : Choice) : Type 0 where
  pub pace : ℕ
  pub is_choice : c ≡ paced burst delay pace
  pub greatest : pace ≤ greatest_pace needs
  pub in_time : parts * burst pace ≤ c.share * (c.lead - lateness delay c.share)
  pub least : serves needs burst delay max_lead (pace - 1) ≡ false

-- no pace that is tried first serves
abbrev pub HasNoPace : Needs → (ℕ → ℕ) → ℕ → ℕ → Type 0
HasNoPace needs burst delay max_lead = (n : ℕ) → n < halves → serves needs burst delay max_lead (greatest_pace needs / 2 ^ n) ≡ false
