-- Each choice that is tried and kept is in range, and its buffers hold.
use Rattle.std.proofs.Common.{◌≡◌, ℕ, ◌+◌, ◌-◌, ◌*◌, ◌≤◌, ◌&&◌, min, Bool, true, false, Option, Some, None, refl, arith, nat_le, nat_lt, subst}
use Rattle.std.specs.Prelude.{if◌then◌else◌}
use Rattle.std.proofs.lemmas.Bool.Decides.{nat_tests}
use Rattle.clock27.specs.Units.{slot_units_at_1bps}
use Rattle.unit_timing.specs.declared.allowance.Allowance.TheVariants.{Groups}
use Rattle.stream_choice.specs.declared.needs.Needs.{Needs}
use Rattle.stream_choice.specs.declared.choice.Choice.{Choice}
use Rattle.unit_timing.specs.Shares.{parts}
use Rattle.stream_choice.specs.Shares.{share_for_time, packet_distance, lead_share}
use Rattle.stream_choice.specs.Leads.{sufficient_lead, numbered_lead}
use Rattle.stream_choice.specs.Buffers.{drains, holds, waiting_bytes}
use Rattle.stream_choice.specs.Choices.{choice_of, numbered_choice}

pub record IsKept (needs : Needs) (delay group packets lead : ℕ) (c : Choice) : Type 0 where
  pub allowance : c.allowance ≡ Groups group packets
  pub same_lead : c.lead ≡ lead
  pub share : lead_share needs group packets delay c.lead ≡ Some c.share
  pub drained : c.share * slot_units_at_1bps ≤ needs.rx * parts
  pub held : waiting_bytes needs c.allowance c.lead c.share ≤ needs.main

both_hold : (a b c d : ℕ) → (nat_le a b && nat_le c d) ≡ true → (a ≤ b) × (c ≤ d)
both_hold a b c d e = (grind (arith, nat_tests), grind (arith, nat_tests))

same : (x y : Choice) → Some x ≡ Some y → x ≡ y
same x y e = cc

nothing : (x : Choice) → ◌≡◌ {A = Option Choice} None (Some x) → ⊥
nothing x e = cc

pub choice_kept : (needs : Needs) (group packets delay lead : ℕ) (c : Choice) → choice_of needs group packets delay lead ≡ Some c →
    IsKept needs delay group packets lead c
choice_kept needs group packets delay lead c e = step (lead_share needs group packets delay lead) refl e
  where
    made : ℕ → Choice
    made share = record { allowance = Groups group packets; lead = lead; share = share }

    kept : (share : ℕ) → lead_share needs group packets delay lead ≡ Some share →
        (drains needs share && holds needs (Groups group packets) lead share) ≡ true → IsKept needs delay group packets lead (made share)
    kept share is passes =
        let hold = both_hold (share * slot_units_at_1bps) (needs.rx * parts) (waiting_bytes needs (Groups group packets) lead share) needs.main passes in
        record { allowance = refl; same_lead = refl; share = is; drained = hold.0; held = hold.1 }

    tests : (share : ℕ) (b : Bool) → (b ≡ true → IsKept needs delay group packets lead (made share)) →
        ◌≡◌ {A = Option Choice} (if b then Some (made share) else None) (Some c) → IsKept needs delay group packets lead c
    tests share true keeps e = subst (λ (d : Choice). IsKept needs delay group packets lead d) (same (made share) c e) (keeps refl)
    tests share false keeps e = absurd (nothing c e)

    step : (o : Option ℕ) → lead_share needs group packets delay lead ≡ o →
        ◌≡◌ {A = Option Choice} (elim o [
          | None ↦ None
          | Some share ↦ if drains needs share && holds needs (Groups group packets) lead share then Some (made share) else None
        ]) (Some c) → IsKept needs delay group packets lead c
    step None is e = absurd (nothing c e)
    step (Some share) is e = tests share (drains needs share && holds needs (Groups group packets) lead share) (λ yes. kept share is yes) e

-- A lead with a share is longer than the delay.
pub some_lead : (needs : Needs) (group packets delay lead share : ℕ) → lead_share needs group packets delay lead ≡ Some share → 1 ≤ lead
some_lead needs group packets delay lead share e = step (nat_lt delay lead) (λ yes. longer delay lead yes) e
  where
    longer : (a b : ℕ) → nat_lt a b ≡ true → 1 ≤ b
    longer a b e = grind (arith, nat_tests)

    none : (x : ℕ) → ◌≡◌ {A = Option ℕ} None (Some x) → ⊥
    none x e = cc

    step : (b : Bool) → (b ≡ true → 1 ≤ lead) →
        ◌≡◌ {A = Option ℕ} (if b then (let late = delay + packet_distance (share_for_time needs group packets (lead - delay)) in
        if nat_lt late lead then Some (share_for_time needs group packets (lead - late)) else None) else None) (Some share) → 1 ≤ lead
    step true some e = some refl
    step false some e = absurd (none share e)

pub record IsTried (needs : Needs) (delay max_lead group packets : ℕ) (c : Choice) : Type 0 where
  pub in_range : c.lead ≤ max_lead
  pub allowance : c.allowance ≡ Groups group packets
  pub share : lead_share needs group packets delay c.lead ≡ Some c.share
  pub drained : c.share * slot_units_at_1bps ≤ needs.rx * parts
  pub held : waiting_bytes needs c.allowance c.lead c.share ≤ needs.main

pub tried_kept : (needs : Needs) (delay max_lead group packets number : ℕ) (c : Choice) →
    numbered_choice needs delay max_lead group packets number ≡ Some c → IsTried needs delay max_lead group packets c
tried_kept needs delay max_lead group packets number c e =
    step (nat_le lead (min (sufficient_lead needs group packets delay) max_lead)) (λ yes. below lead (sufficient_lead needs group packets delay) max_lead yes) e
  where
    lead : ℕ
    lead = numbered_lead needs (sufficient_lead needs group packets delay) max_lead number

    below : (a b c : ℕ) → nat_le a (min b c) ≡ true → a ≤ c
    below a b c e = grind (arith, nat_tests)

    step : (b : Bool) → (b ≡ true → lead ≤ max_lead) →
        ◌≡◌ {A = Option Choice} (if b then choice_of needs group packets delay lead else None) (Some c) → IsTried needs delay max_lead group packets c
    step true le e =
        let k : IsKept needs delay group packets lead c = choice_kept needs group packets delay lead c e in
        record { in_range = omega (arith, k.same_lead, le refl); allowance = k.allowance; share = k.share; drained = k.drained; held = k.held }
    step false le e = absurd (nothing c e)
