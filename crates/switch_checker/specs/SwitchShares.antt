-- A stream's own slots in two plans in turn, in numbers.
use Rattle.std.specs.Prelude.{ℕ, ◌^◌, ◌<◌, ◌≤◌, length}
use Rattle.own_slots.specs.Period.{per_period}
use Rattle.own_slots.specs.Switch.{shift}
use Rattle.unit_timing.specs.Conditions.{Share}
use Rattle.description_parts.specs.Described.{DescribedStream}
use Rattle.slot_plan.specs.declared.slot.Item.TheVariants.{Stream}
use Rattle.slot_plan.specs.declared.condition.Condition.{Condition}
use Rattle.slot_plan.specs.Planned.{Planned}
use Rattle.slot_plan.specs.Items.{marks}
use Rattle.slot_plan.specs.Entries.{Entry}
use Rattle.slot_plan.specs.Claims.{stream_claim, elementary_peak}
use Rattle.slot_plan.specs.SwitchConditions.{across_entry}
use Rattle.switch_checker.specs.declared.shares.PlanShare.{PlanShare}
use Rattle.switch_checker.specs.declared.shares.SwitchShares.{SwitchShares}

-- a stream's own slots in a plan
abbrev pub plan_share : Planned → ℕ → PlanShare
plan_share p i = record {
  count = per_period (marks (Stream i) p.slots);
  period = length p.slots;
  spread = (stream_claim p i).spread;
  peak = (stream_claim p i).peak;
}

-- the same in the terms of the timing
abbrev pub timed : PlanShare → Share
timed s = record { count = s.count; period = s.period; spread = s.spread; peak = s.peak }

-- the own slots of stream number i in two plans
abbrev pub switch_shares : Planned → Planned → ℕ → SwitchShares
switch_shares first second i = record {
  first = plan_share first i;
  second = plan_share second i;
  shift = shift (marks (Stream i) first.slots) (marks (Stream i) second.slots);
}

-- the same with that work after an own slot of each plan
abbrev pub peaked : PlanShare → ℕ → PlanShare
peaked s peak = record { count = s.count; period = s.period; spread = s.spread; peak = peak }

-- with the work that is still before the elementary stream buffer
abbrev pub elementary_shares : ℕ → Planned → Planned → ℕ → SwitchShares
elementary_shares rate first second i = record {
  first = peaked (plan_share first i) (elementary_peak rate first i);
  second = peaked (plan_share second i) (elementary_peak rate second i);
  shift = shift (marks (Stream i) first.slots) (marks (Stream i) second.slots);
}

-- the deadline of the last of m units in a row across the switch, behind a buffer with that drain
abbrev pub deadline_entry : Condition → ℕ → ℕ → SwitchShares → ℕ → DescribedStream → ℕ → Entry
deadline_entry condition rate drain a = across_entry condition rate drain (timed a.first) (timed a.second) a.shift

-- numbers of plans of good shape
pub record AreSharesInRange (a : SwitchShares) : Type 0 where
  pub count : a.first.count ≤ 65536
  pub next_count : a.second.count ≤ 65536
  pub period : a.first.period ≤ 65536
  pub next_period : a.second.period ≤ 65536
  pub shift : a.shift ≤ 65536
  pub peak : a.first.peak < 2 ^ 60
  pub next_peak : a.second.peak < 2 ^ 60
