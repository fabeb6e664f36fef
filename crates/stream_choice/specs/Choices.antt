-- The best of the groups and leads that are tried for a stream; and whether it declares groups or a pace.
use Rattle.std.specs.Prelude.{◌≡◌, ℕ, zero, suc, ◌+◌, ◌-◌, ◌*◌, ◌^◌, ◌<◌, ◌≤◌, ◌&&◌, min, nat_le, nat_lt, if◌then◌else◌, List, length, slice_index, Option}
use Rattle.std.specs.Prelude.{Some, None, IfSome}
use Rattle.clock27.specs.Units.{slot_units_at_1bps}
use Rattle.unit_timing.specs.declared.allowance.Allowance.TheVariants.{Groups}
use Rattle.unit_timing.specs.Allowances.{allowance_rows}
use Rattle.unit_timing.specs.Shares.{parts}
use Rattle.stream_choice.specs.declared.needs.Needs.{Needs}
use Rattle.stream_choice.specs.declared.choice.Choice.{Choice}
use Rattle.stream_choice.specs.Ranges.{IsAllowance}
use Rattle.stream_choice.specs.Shares.{lead_share, least_share}
use Rattle.stream_choice.specs.Leads.{leads, sufficient_lead, numbered_lead}
use Rattle.stream_choice.specs.Buffers.{drains, holds, waiting_bytes}

-- ---- the choices that are tried

-- the choice of a group and a lead, if the buffers hold its units
abbrev pub choice_of : Needs → ℕ → ℕ → ℕ → ℕ → Option Choice
choice_of needs group packets delay lead = elim (lead_share needs group packets delay lead) [
  | None ↦ None
  | Some share ↦ if drains needs share && holds needs (Groups group packets) lead share
      then Some (record { allowance = Groups group packets; lead = lead; share = share }) else None
]

-- the choice of a lead by its number; no lead above the sufficient one or the greatest is tried
abbrev pub numbered_choice : Needs → ℕ → ℕ → ℕ → ℕ → ℕ → Option Choice
numbered_choice needs delay max_lead group packets number =
    let sufficient = sufficient_lead needs group packets delay in
    let lead = numbered_lead needs sufficient max_lead number in
    if nat_le lead (min sufficient max_lead) then choice_of needs group packets delay lead else None

-- ---- the best

-- a choice with a lower share is better, then with a shorter lead, then with fewer units: a lead is below 2^17, and a group has less than 2^7 units
abbrev pub rank : Choice → ℕ
rank c = (c.share * 2 ^ 17 + c.lead) * 2 ^ 7 + allowance_rows c.allowance

-- the first of two choices, unless the second is better
abbrev pub better : Option Choice → Option Choice → Option Choice
better None d = d
better (Some c) None = Some c
better (Some c) (Some d) = if nat_lt (rank d) (rank c) then Some d else Some c

-- the best of f 0 .. f (n - 1)
unfoldable pub best : ℕ → (ℕ → Option Choice) → Option Choice
best zero f = None
best (suc n) f = better (best n f) (f n)

-- the best choice of one group, and of all groups
abbrev pub group_choice : Needs → ℕ → ℕ → ℕ → ℕ → Option Choice
group_choice needs delay max_lead group packets = best leads (numbered_choice needs delay max_lead group packets)

abbrev pub groups_choice : Needs → List ℕ → ℕ → ℕ → Option Choice
groups_choice needs max_packets delay max_lead = best (length max_packets) (λ i. group_choice needs delay max_lead (i + 1) (slice_index max_packets i))

-- ---- the properties of a choice

-- a choice of either kind can be declared, its lead is in range, and its buffers hold
pub record IsChoice (needs : Needs) (max_lead : ℕ) (c : Choice) : Type 0 where
  pub allowance : IsAllowance c.allowance
  pub some_lead : 1 ≤ c.lead
  pub greatest_lead : c.lead ≤ max_lead
  pub drained : c.share * slot_units_at_1bps ≤ needs.rx * parts
  pub held : waiting_bytes needs c.allowance c.lead c.share ≤ needs.main

-- its packets are its group's, and its share is the share that its lead asks for, at least the least share of any group
pub record IsGroupsChoice (needs : Needs) (max_packets : List ℕ) (delay : ℕ) (c : Choice) : Type 0 where
  pub group : ℕ
  pub packets : ℕ
  pub allowance : c.allowance ≡ Groups group packets
  pub some_units : 1 ≤ group
  pub most_units : group ≤ length max_packets
  pub packets_are : packets ≡ slice_index max_packets (group - 1)
  pub share : lead_share needs group packets delay c.lead ≡ Some c.share
  pub no_less : least_share needs max_packets ≤ c.share

-- nothing that is tried is better
abbrev pub IsBest : Needs → List ℕ → ℕ → ℕ → Choice → Type 0
IsBest needs max_packets delay max_lead c = (i number : ℕ) → i < length max_packets → number < leads →
    IfSome (numbered_choice needs delay max_lead (i + 1) (slice_index max_packets i) number) (λ d. rank c ≤ rank d)

-- nothing that is tried can be kept
abbrev pub IsRefused : Needs → List ℕ → ℕ → ℕ → Type 0
IsRefused needs max_packets delay max_lead = (i number : ℕ) → i < length max_packets → number < leads →
    numbered_choice needs delay max_lead (i + 1) (slice_index max_packets i) number ≡ None

-- ---- by groups or by pace

-- by groups if groups ask for at most a 64th more
abbrev pub preferred : Option Choice → Option Choice → Option Choice
preferred None d = d
preferred (Some c) None = Some c
preferred (Some c) (Some d) = if nat_le (64 * c.share) (65 * d.share) then Some c else Some d
