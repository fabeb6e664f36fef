-- What a share says of the packets of a group, and of consecutive units
use Rattle.std.proofs.Common.{List, length, ◌^◌, ◌≡◌, ℕ, ◌+◌, ◌-◌, ◌*◌, ◌<◌, ◌≤◌, Bool, true, false, Option, Some, None, refl, arith, nat_lt, mul-le-mul_right}
use Rattle.std.proofs.Common.{sym, ap}
use Rattle.std.specs.Prelude.{if◌then◌else◌, slice_index}
use Rattle.std.specs.Int.{div_ceil}
use Rattle.std.proofs.lemmas.Bool.Decides.{nat_tests}
use Rattle.std.proofs.lemmas.Grind.{div_ceil_times}
use Rattle.own_slots.specs.Extremes.{greatest}
use Rattle.own_slots.proofs.Extremes.{at_most_greatest, greatest_at_most, least_at_most}
use Rattle.stream_choice.specs.declared.needs.Needs.{Needs}
use Rattle.unit_timing.specs.Shares.{parts}
use Rattle.stream_choice.specs.Shares.{packets_in_row, group_share, row_share, share_for_time, packet_distance, lead_share, least_share}
use Rattle.stream_choice.proofs.Quotients.{less_of}

-- A quotient that is rounded up, times the divisor, is at least the dividend.
pub held_by : (x y : ℕ) → 0 < y → x ≤ div_ceil x y * y
held_by x y pos = (div_ceil_times x y pos).0

-- More free time needs no greater share.
pub freer : (needs : Needs) (group packets free more : ℕ) → 0 < free → free ≤ more →
    share_for_time needs group packets more ≤ share_for_time needs group packets free
freer needs group packets free more pos le =
    let rows : greatest group (λ before. row_share needs packets more (before + 1)) ≤ greatest group (λ before. row_share needs packets free (before + 1)) =
    greatest_at_most group (λ before. row_share needs packets more (before + 1)) (greatest group (λ before. row_share needs packets free (before + 1)))
    (λ i lt. omega (
      arith,
      less_of (parts * packets_in_row needs packets (i + 1)) (free + (i + 1 - 1) * needs.interval) (more + (i + 1 - 1) * needs.interval) (omega (arith, pos))
          (omega (arith, le)),
      at_most_greatest group (λ before. row_share needs packets free (before + 1)) i lt,
    )) in
    omega (arith, rows)

pub record IsFree (needs : Needs) (group packets delay lead share : ℕ) : Type 0 where
  pub free : ℕ
  pub first : ℕ
  pub some_free : 0 < free
  pub some_first : 0 < first
  pub same : share ≡ share_for_time needs group packets free
  pub order : free ≤ first
  pub whole : lead ≡ free + (delay + packet_distance (share_for_time needs group packets first))

same_number : (x y : ℕ) → Some x ≡ Some y → x ≡ y
same_number x y e = cc

no_number : (x : ℕ) → ◌≡◌ {A = Option ℕ} None (Some x) → ⊥
no_number x e = cc

below : (a b : ℕ) → nat_lt a b ≡ true → a < b
below a b e = grind (arith, nat_tests)

pub is_free : (needs : Needs) (group packets delay lead share : ℕ) → lead_share needs group packets delay lead ≡ Some share →
    IsFree needs group packets delay lead share
is_free needs group packets delay lead share e = step (nat_lt delay lead) (λ yes. below delay lead yes) e
  where
    gap : ℕ
    gap = packet_distance (share_for_time needs group packets (lead - delay))

    last : (b : Bool) → delay < lead → (b ≡ true → delay + gap < lead) →
        ◌≡◌ {A = Option ℕ} (if b then Some (share_for_time needs group packets (lead - (delay + gap))) else None) (Some share) →
        IsFree needs group packets delay lead share
    last true lt late e = record {
      free = lead - (delay + gap);
      first = lead - delay;
      some_free = omega (arith, late refl);
      some_first = omega (arith, lt);
      same = sym (same_number (share_for_time needs group packets (lead - (delay + gap))) share e);
      order = omega arith;
      whole = omega (arith, late refl);
    }
    last false lt late e = absurd (no_number share e)

    step : (b : Bool) → (b ≡ true → delay < lead) →
        ◌≡◌ {A = Option ℕ} (if b then (let late = delay + packet_distance (share_for_time needs group packets (lead - delay)) in
        if nat_lt late lead then Some (share_for_time needs group packets (lead - late)) else None) else None) (Some share) →
        IsFree needs group packets delay lead share
    step true lt e = last (nat_lt (delay + gap) lead) (lt refl) (λ yes. below (delay + gap) lead yes) e
    step false lt e = absurd (no_number share e)

-- The packets of a group fit into the time of the group, and the packets of consecutive units into the time of these units.
pub group_held : (needs : Needs) (group packets free : ℕ) → 0 < group * needs.interval →
    parts * packets ≤ share_for_time needs group packets free * (group * needs.interval)
group_held needs group packets free pos =
    let most : group_share needs group packets ≤ share_for_time needs group packets free = omega arith in
    omega (arith, held_by (parts * packets) (group * needs.interval) pos, mul-le-mul_right (group * needs.interval) most)

pub row_held : (needs : Needs) (group packets free m : ℕ) → 0 < free → 0 < m → m ≤ group →
    parts * packets_in_row needs packets m ≤ share_for_time needs group packets free * (free + (m - 1) * needs.interval)
row_held needs group packets free m pos some le =
    let time : ℕ = free + (m - 1) * needs.interval in
    let here : row_share needs packets free (m - 1 + 1) ≡ row_share needs packets free m = ap (row_share needs packets free) (omega (arith, some)) in
    let most : row_share needs packets free m ≤ share_for_time needs group packets free =
    omega (arith, here, at_most_greatest group (λ before. row_share needs packets free (before + 1)) (m - 1) (omega (arith, some, le))) in
    omega (arith, held_by (parts * packets_in_row needs packets m) time (omega (arith, pos)), mul-le-mul_right time most)

-- The least share of all groups is at most the share of any group.
pub least_of : (needs : Needs) (most : List ℕ) (delay lead share group : ℕ) → 1 ≤ group → group ≤ length most →
    lead_share needs group (slice_index most (group - 1)) delay lead ≡ Some share → least_share needs most ≤ share
least_of needs most delay lead share group some few found =
    let packets : ℕ = slice_index most (group - 1) in
    let h : IsFree needs group packets delay lead share = is_free needs group packets delay lead share found in
    let f : ℕ → ℕ = λ i. group_share needs (i + 1) (slice_index most i) in
    let here : f (group - 1) ≡ group_share needs group packets = ap (λ (g : ℕ). group_share needs g packets) (omega (arith, some)) in
    let paced : group_share needs group packets ≤ share_for_time needs group packets h.free = omega arith in
    omega (arith, least_at_most (2 ^ 64 - 1) (length most) f (group - 1) (omega (arith, some, few)), here, paced, h.same)
