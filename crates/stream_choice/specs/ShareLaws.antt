-- The law of shares: own slots of a stream's share serve the stream.
use Rattle.std.specs.Prelude.{◌≡◌, ℕ, ◌+◌, ◌-◌, ◌*◌, ◌<◌, ◌≤◌, Option, Some}
use Rattle.clock27.specs.Units.{slot_units_at_1bps}
use Rattle.unit_timing.specs.declared.allowance.Allowance.{Allowance}
use Rattle.unit_timing.specs.declared.allowance.Allowance.TheVariants.{Groups, Pace}
use Rattle.unit_timing.specs.Allowances.{allowance_rows}
use Rattle.unit_timing.specs.Conditions.{Share, rate_needed, rate_given, lead_needed, time_given}
use Rattle.unit_timing.specs.Plans.{Declaration}
use Rattle.unit_timing.specs.declared.multiplexing_buffer.MultiplexingBuffer.{MultiplexingBuffer}
use Rattle.stream_choice.specs.declared.needs.Needs.{Needs}
use Rattle.stream_choice.specs.Ranges.{IsNeeds, IsAllowance}
use Rattle.unit_timing.specs.Shares.{parts}
use Rattle.stream_choice.specs.Shares.{packets_of_unit, held_bytes, delay_before, lateness, pace_share, lead_share}

-- the declaration with an allowance and a lead
abbrev pub declared : Needs → Allowance → ℕ → Declaration
declared needs allowance lead = record {
  interval = needs.interval;
  lead = lead;
  drain = needs.rx;
  main = needs.main;
  largest = 19 + needs.size;
  unit_packets = packets_of_unit needs;
  allowance = allowance;
}

-- the share that a declaration asks for with a delay: by the lead of its group; or by its pace, whose burst arrives within the lead
abbrev pub AsksFor : Needs → Allowance → ℕ → ℕ → ℕ → Type 0
AsksFor needs (Groups group packets) delay lead share = lead_share needs group packets delay lead ≡ Some share
AsksFor needs (Pace burst pace) delay lead share = (share ≡ pace_share pace) × (parts * burst ≤ share * (lead - lateness delay share))

-- own slots of a plan at this rate: no fewer than the share asks for, away from even spacing by at most a distance between them and two slots, with at most
-- `held` bytes in the last buffer before the buffer of units; and the output has no fewer slots than all the least shares ask for
pub record HasShare (held rate share all : ℕ) (own : Share) : Type 0 where
  pub enough : share * slot_units_at_1bps * own.period ≤ parts * (own.count * rate)
  pub even : own.spread ≤ 2 * own.count + own.period
  pub room : own.peak ≤ held * rate
  pub fast : all * slot_units_at_1bps ≤ parts * rate

-- the conditions on packets in the long run, and on the last of m units in a row
pub record IsServed (rate : ℕ) (own : Share) (s : Declaration) : Type 0 where
  pub rate_serves : rate_needed s own ≤ rate_given rate s own
  pub lead_serves : (m : ℕ) → 0 < m → m ≤ allowance_rows s.allowance → lead_needed s own m ≤ time_given rate s own.count m

-- if the share of a lead was found with the delay of an output for all shares, own slots of the share serve the stream: with a multiplexing buffer at its leak
-- rate, if the needs have it as their drain
abbrev pub ShareLaw : Type 0
ShareLaw = (buffer : Option MultiplexingBuffer) (needs : Needs) (allowance : Allowance) (lead share all rate : ℕ) (own : Share) →
    IsNeeds needs → IsAllowance allowance → 0 < all →
    AsksFor needs allowance (delay_before buffer needs all) lead share → HasShare (held_bytes buffer) rate share all own →
    IsServed rate own (declared needs allowance lead)
