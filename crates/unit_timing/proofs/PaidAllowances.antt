-- What the conditions on the rate and on the lead pay for
use Rattle.std.proofs.Common.{◌≡◌, ℕ, suc, ◌+◌, ◌-◌, ◌*◌, ◌/◌, ◌%◌, ◌<◌, ◌≤◌, min, arith}
use Rattle.std.proofs.Math.Nat.{le_trans, mul-le-mul_right, div-mul-le_self, div-add-mod}
use Rattle.std.proofs.lemmas.Nat.{mod_below}
use Rattle.unit_timing.specs.declared.allowance.Allowance.{Allowance}
use Rattle.unit_timing.specs.declared.allowance.Allowance.TheVariants.{Groups, Pace}
use Rattle.unit_timing.specs.Allowances.{curve, allowance_rows, packets_at_once, steady_packets, steady_time}
use Rattle.unit_timing.specs.Deadline.{IsPaid, GroupsPaidLaw, PacePaidLaw}

-- The rate pays for q groups, and the lead for a last group of `few` packets.
whole_groups : (share base q most few cost r late g apart rate lead j : ℕ) → most * cost * 135360000 ≤ share * g * apart * rate →
    (base + few * cost + share) * 135360000 * r + share * late * 720000 ≤ share * (lead + j * apart) * rate * r →
    (base + (q * most + few) * cost + share) * 135360000 * r + share * late * 720000 ≤ share * (lead + (q * g + j) * apart) * rate * r
whole_groups share base q most few cost r late g apart rate lead j fast soon = omega (arith, mul-le-mul_right (q * r) fast, soon)

-- A longer time pays for more packets.
longer : (share lead rate r early late : ℕ) → early ≤ late → share * (lead + early) * rate * r ≤ share * (lead + late) * rate * r
longer share lead rate r early late le = omega (arith, mul-le-mul_right (share * rate * r) le)

pub groups_paid_law : GroupsPaidLaw
groups_paid_law share cost base g most n rate lead apart r late some pos fast soon = λ time.
    let m = time / apart in
    let whole : m / g * g + m % g ≡ m = omega (arith, div-add-mod m g) in
    let paid = whole_groups share base (m / g) most (min (suc (m % g) * n) most) cost r late g apart rate lead (m % g) fast
    (soon (m % g) (mod_below m g some)) in
    le_trans (rw whole at paid) (longer share lead rate r (m * apart) time (div-mul-le_self time apart))

-- The arrival time of the packets after the burst pays for these packets.
steady : (share base burst cost more pace r late rate lead time : ℕ) → more * 135360000 ≤ pace * time → pace * cost ≤ share * rate →
    (base + burst * cost + share) * 135360000 * r + share * late * 720000 ≤ share * lead * rate * r →
    (base + (burst + more) * cost + share) * 135360000 * r + share * late * 720000 ≤ share * (lead + time) * rate * r
steady share base burst cost more pace r late rate lead time few fast soon =
    omega (arith, mul-le-mul_right (cost * r) few, mul-le-mul_right (time * r) fast, soon)

pub pace_paid_law : PacePaidLaw
pace_paid_law share cost base burst pace rate lead r late fast soon = λ time.
    steady share base burst cost (pace * time / 135360000) pace r late rate lead time (omega arith) fast soon

-- Both kinds of allowance
pub paid_law : (a : Allowance) (n share cost base rate lead apart r late : ℕ) → 0 < allowance_rows a → 0 < apart →
    steady_packets a * cost ≤ share * steady_time a apart * rate →
    ((m : ℕ) → 0 < m → m ≤ allowance_rows a → (base + packets_at_once a n m * cost + share) * 135360000 * r
    + share * late * 720000 ≤ share * (lead + (m - 1) * apart) * rate * r) →
    IsPaid share cost base (curve a n apart) rate lead r late
paid_law (Groups g most) n share cost base rate lead apart r late some pos fast soon =
    groups_paid_law share cost base g most n rate lead apart r late some pos (omega (arith, fast))
    (λ j below.
    let e : suc j - 1 ≡ j = omega arith in
    rw e at (soon (suc j) (omega arith) (omega (arith, below))))
paid_law (Pace burst pace) n share cost base rate lead apart r late some pos fast soon =
    pace_paid_law share cost base burst pace rate lead r late (omega (arith, fast)) (omega (arith, soon 1 (omega arith) (omega arith)))
