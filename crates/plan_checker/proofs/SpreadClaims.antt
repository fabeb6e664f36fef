-- A stream's deadlines bound the spread that a plan may claim for it.
use Rattle.std.specs.Prelude.{ℕ, zero, suc, ◌+◌, ◌-◌, ◌*◌, ◌^◌, ◌<◌, ◌≤◌, List, [], ◌∷◌, None, length, get_or}
use Rattle.std.proofs.Common.{◌≡◌, refl, arith}
use Rattle.std.proofs.lemmas.Nat.{mul-le}
use Rattle.std.proofs.lemmas.Grind.{common_steps}
use Rattle.std.proofs.lemmas.List.Elements.{All-get_or}
use Rattle.clock27.specs.Units.{slot_units_at_1bps}
use Rattle.own_slots.specs.Period.{per_period}
use Rattle.own_slots.proofs.PositionLemmas.{per_period_le}
use Rattle.unit_timing.specs.Allowances.{allowance_rows}
use Rattle.unit_timing.specs.Conditions.{packets_in_row, lead_needed, time_given}
use Rattle.description_parts.specs.Described.{Described, DescribedStream}
use Rattle.description_parts.specs.Ranges.{IsInRange, IsStream}
use Rattle.description.proofs.Allowed.{rows_some}
use Rattle.slot_plan.specs.declared.slot.Item.TheVariants.{Stream}
use Rattle.slot_plan.specs.declared.condition.Condition.TheVariants.{StreamLead}
use Rattle.slot_plan.specs.Planned.{Planned}
use Rattle.slot_plan.specs.Items.{marks}
use Rattle.slot_plan.specs.Shape.{IsShaped}
use Rattle.slot_plan.specs.Entries.{first_failing}
use Rattle.slot_plan.specs.Claims.{declaration, stream_claim, stream_share}
use Rattle.slot_plan.specs.Conditions.{entries_from, group_part, stream_lead_entry, stream_leads}
use Rattle.slot_plan.proofs.HeldConditions.{holds_at, at_most_holds}
use Rattle.slot_plan.proofs.ItemConditions.{holds_count}
use Rattle.plan_checker.proofs.OwnMarks.{length_marks}

cancelled : (a b c : ℕ) → 0 < c → a * c ≤ b * c → a ≤ b
cancelled a b c some le = grind (arith, common_steps)

claim_bound : (spread packets period count rx peak lead interval rate : ℕ) → 0 < rx → count ≤ 65536 → lead ≤ 90000 → rate ≤ 100000000 →
    (spread + packets * period + count) * slot_units_at_1bps * rx + count * peak * 720000 ≤ count * (lead + (1 - 1) * interval) * rate * rx → spread < 2 ^ 33
claim_bound spread packets period count rx peak lead interval rate some few short slow holds =
    let times : spread * slot_units_at_1bps * rx ≤ count * lead * rate * rx = omega (arith, holds) in
    let once : spread * slot_units_at_1bps ≤ count * lead * rate = cancelled (spread * slot_units_at_1bps) (count * lead * rate) rx some times in
    let most : count * lead * rate ≤ 65536 * 90000 * 100000000 =
    mul-le (count * lead) rate (65536 * 90000) 100000000 (mul-le count lead 65536 90000 few short) slow in
    omega (arith, once, most)

-- If the deadlines of a stream hold, the spread that a plan claims for it is small.
spread_small : (d : Described) (p : Planned) (i : ℕ) (s : DescribedStream) → IsInRange d → s ≡ get_or d.streams i s → i < length d.streams →
    per_period (marks (Stream i) p.slots) ≤ 65536 → first_failing (stream_leads d p) ≡ None → (stream_claim p i).spread < 2 ^ 33
spread_small d p i s ranges is lt few none =
    let stream : IsStream s = rw (← is) at (All-get_or IsStream d.streams i s lt ranges.streams) in
    let zero_on : 0 + i ≡ i = omega arith in
    let all = holds_at (λ j t. entries_from (stream_lead_entry d p j t) 1 (allowance_rows t.allowance)) 0 d.streams i s none lt in
    let here : first_failing (entries_from (stream_lead_entry d p i s) 1 (allowance_rows s.allowance)) ≡ None = rw (zero_on, ← is) at all in
    let one = holds_count (stream_lead_entry d p i s) 1 (allowance_rows s.allowance) 0 (omega (arith, rows_some s stream)) here in
    let claim = stream_claim p i in let c = per_period (marks (Stream i) p.slots) in
    let holds = at_most_holds StreamLead (group_part s 1) i (lead_needed (declaration s) (stream_share p i) 1) (time_given d.rate (declaration s) c 1) one in
    claim_bound claim.spread (packets_in_row (declaration s) 1) (length p.slots) c s.rx claim.peak s.lead s.interval d.rate
    (omega (arith, stream.least_rx)) few stream.most_lead ranges.most_rate holds

element_at : {A : Type 0} (xs : List A) (i : ℕ) → i < length xs → (x : A) × (x ≡ get_or xs i x)
element_at [] i lt = absurd (omega arith)
element_at (x ∷ xs) zero lt = (x, refl)
element_at (x ∷ xs) (suc i) lt = element_at xs i (omega arith)

pub claim_small : (d : Described) (p : Planned) (i : ℕ) → IsInRange d → IsShaped d p → i < length d.streams → first_failing (stream_leads d p) ≡ None →
    (stream_claim p i).spread < 2 ^ 33
claim_small d p i ranges shaped lt none =
    let e = element_at d.streams i lt in let own = marks (Stream i) p.slots in
    spread_small d p i e.0 ranges e.1 lt (omega (arith, per_period_le own, length_marks (Stream i) p.slots, shaped.slot_bound)) none
