-- A pace that the search finds can be declared, and its buffers hold what arrives.
use Rattle.std.proofs.Common.{◌≡◌, ℕ, ◌+◌, ◌-◌, ◌*◌, ◌/◌, ◌<◌, ◌≤◌, ◌&&◌, max, min, Bool, true, false, Some, nat_le, nat_lt, refl, arith, div-mul-le_self}
use Rattle.std.proofs.Common.{mul-le-mul_right}
use Rattle.std.specs.Int.{div_ceil}
use Rattle.std.proofs.lemmas.Bool.Decides.{nat_tests}
use Rattle.clock27.specs.Units.{slot_units_at_1bps}
use Rattle.unit_timing.specs.declared.allowance.Allowance.{Allowance}
use Rattle.unit_timing.specs.declared.allowance.Allowance.TheVariants.{Pace}
use Rattle.unit_timing.specs.Shares.{parts}
use Rattle.stream_choice.specs.declared.needs.Needs.{Needs}
use Rattle.stream_choice.specs.Ranges.{IsNeeds, is_within}
use Rattle.stream_choice.specs.Shares.{lateness, pace_share}
use Rattle.stream_choice.specs.Buffers.{waiting_bytes, waiting_units}
use Rattle.stream_choice.specs.Choices.{IsChoice}
use Rattle.stream_choice.specs.Paces.{lead_by_sizes, lead_by_share, longest_lead, burst_lead, serves, greatest_pace, first_half, halved, halves, paced}
use Rattle.stream_choice.specs.Paces.{IsPaceChoice}
use Rattle.stream_choice.proofs.Quotients.{at_most, some_of}
use Rattle.stream_choice.proofs.ShareTimes.{held_by}
use Rattle.stream_choice.proofs.Halving.{Edge, edge, half_passes}

-- A pace that serves

pub record Serves (needs : Needs) (burst : ℕ → ℕ) (delay max_lead pace : ℕ) : Type 0 where
  pub some_pace : 1 ≤ pace
  pub some_burst : 1 ≤ burst pace
  pub most_burst : burst pace ≤ 100000
  pub drained : pace_share pace * slot_units_at_1bps ≤ needs.rx * parts
  pub in_time : parts * burst pace ≤ pace_share pace * (longest_lead needs max_lead (pace_share pace) - lateness delay (pace_share pace))

pub serving : (needs : Needs) (burst : ℕ → ℕ) (delay max_lead pace : ℕ) → serves needs burst delay max_lead pace ≡ true → Serves needs burst delay max_lead pace
unfolding is_within
serving needs burst delay max_lead pace e =
    let all = tests pace (burst pace) (pace_share pace * slot_units_at_1bps) (needs.rx * parts) (parts * burst pace)
    (pace_share pace * (longest_lead needs max_lead (pace_share pace) - lateness delay (pace_share pace))) e in
    record { some_pace = all.0; some_burst = all.1.1.0; most_burst = all.1.1.1.0; drained = all.1.0; in_time = all.1.1.1.1 }
  where
    tests : (p b x y u v : ℕ) → (nat_lt 0 p && (nat_le x y && (is_within 1 100000 b && nat_le u v))) ≡ true →
        (1 ≤ p) × ((x ≤ y) × ((1 ≤ b) × ((b ≤ 100000) × (u ≤ v))))
    tests p b x y u v e =
        (grind (arith, nat_tests), (grind (arith, nat_tests), (grind (arith, nat_tests), (grind (arith, nat_tests), grind (arith, nat_tests)))))

pub some_share : (pace : ℕ) → 1 ≤ pace → 1 ≤ pace_share pace
some_share pace pos = some_of pace (pace_share pace) slot_units_at_1bps pos (held_by (parts * pace) slot_units_at_1bps (omega arith))

-- The lead of the pace

-- The burst passes within the least lead, and this lead is at most the longest.
record InTime (delay share burst longest : ℕ) : Type 0 where
  pub some : 1 ≤ burst_lead delay share burst
  pub most : burst_lead delay share burst ≤ longest
  pub in_time : parts * burst ≤ share * (burst_lead delay share burst - lateness delay share)

in_time : (delay share burst longest : ℕ) → 1 ≤ share → 1 ≤ burst → parts * burst ≤ share * (longest - lateness delay share) → InTime delay share burst longest
in_time delay share burst longest some one le =
    let late : ℕ = lateness delay share in
    let time : ℕ = div_ceil (parts * burst) share in
    let turned : parts * burst ≤ (longest - late) * share = omega (arith, le) in
    let free : 0 < longest - late = some_of burst (longest - late) share one turned in
    let within : time ≤ longest - late = at_most (parts * burst) share (longest - late) some turned in
    let held : parts * burst ≤ time * share = held_by (parts * burst) share some in
    let whole : (late + time) - late ≡ time = omega arith in
    let long : 0 < time = some_of burst time share one held in
    record {
      some = omega (arith, long);
      most = omega (arith, within, free);
      in_time = rw whole (omega (arith, held));
    }

pub lead_within : (needs : Needs) (burst : ℕ → ℕ) (delay max_lead pace : ℕ) → Serves needs burst delay max_lead pace →
    burst_lead delay (pace_share pace) (burst pace) ≤ max_lead
lead_within needs burst delay max_lead pace s =
    let t : InTime delay (pace_share pace) (burst pace) (longest_lead needs max_lead (pace_share pace)) =
    in_time delay (pace_share pace) (burst pace) (longest_lead needs max_lead (pace_share pace)) (some_share pace s.some_pace) s.some_burst s.in_time in
    omega (arith, t.most)

-- The main buffer at a pace

by_sizes : (needs : Needs) (lead : ℕ) → 0 < needs.interval → lead ≤ lead_by_sizes needs → waiting_units needs lead * (19 + needs.size) ≤ needs.main
by_sizes needs lead pos le =
    let largest : ℕ = 19 + needs.size in
    let units : waiting_units needs lead ≤ needs.main / largest = at_most lead needs.interval (needs.main / largest) pos le in
    omega (arith, mul-le-mul_right largest units, div-mul-le_self needs.main largest)

by_share : (main lead share : ℕ) → 1 ≤ lead → 1 ≤ share → lead ≤ ((main / 184 - 1) * parts - 1) / share → 184 * (lead * share / parts + 2) ≤ main
by_share main lead share some one le =
    let come : ℕ = lead * share in
    let few : come ≤ (main / 184 - 1) * parts - 1 = omega (arith, mul-le-mul_right share le, div-mul-le_self ((main / 184 - 1) * parts - 1) share) in
    let some_come : 1 ≤ come = omega (arith, mul-le-mul_right share some, one) in
    fits come (main / 184) main few some_come (omega arith)
  where
    fits : (x q main : ℕ) → x ≤ (q - 1) * parts - 1 → 1 ≤ x → 184 * q ≤ main → 184 * (x / parts + 2) ≤ main
    fits x q main few some le = omega (arith, few, some, le)

pub main_holds : (needs : Needs) (a : Allowance) (lead max_lead share : ℕ) → 0 < needs.interval → 1 ≤ lead → 1 ≤ share →
    lead ≤ longest_lead needs max_lead share →
    waiting_bytes needs a lead share ≤ needs.main
main_holds needs a lead max_lead share pos some one le =
    step (nat_le lead (lead_by_sizes needs)) (λ y. at_least lead (lead_by_sizes needs) y) (λ n. over lead (lead_by_sizes needs) n)
  where
    at_least : (a b : ℕ) → nat_le a b ≡ true → a ≤ b
    at_least a b e = grind (arith, nat_tests)

    over : (a b : ℕ) → nat_le a b ≡ false → b < a
    over a b e = grind (arith, nat_tests)

    other : (lead a b m : ℕ) → lead ≤ min (max a b) m → a < lead → lead ≤ b
    other lead a b m le lt = omega (arith, le, lt)

    step : (b : Bool) → (b ≡ true → lead ≤ lead_by_sizes needs) → (b ≡ false → lead_by_sizes needs < lead) → waiting_bytes needs a lead share ≤ needs.main
    step true y n = omega (arith, by_sizes needs lead pos (y refl))
    step false y n = omega (arith, by_share needs.main lead share some one (other lead (lead_by_sizes needs) (lead_by_share needs share) max_lead le (n refl)))

-- The choice of a pace

pub record IsFound (needs : Needs) (burst : ℕ → ℕ) (delay max_lead pace : ℕ) : Type 0 where
  pub serves_it : serves needs burst delay max_lead pace ≡ true
  pub greatest : pace ≤ greatest_pace needs
  pub is_choice : IsChoice needs max_lead (paced burst delay pace)
  pub is_paced : IsPaceChoice needs burst delay max_lead (paced burst delay pace)

pub found : (needs : Needs) (burst : ℕ → ℕ) (delay max_lead first : ℕ) → IsNeeds needs →
    first_half halves (serves needs burst delay max_lead) (greatest_pace needs) ≡ Some first →
    IsFound needs burst delay max_lead (halved halves (serves needs burst delay max_lead) 0 first)
found needs burst delay max_lead first ranges is =
    let f : ℕ → Bool = serves needs burst delay max_lead in
    let half = half_passes halves f (greatest_pace needs) first is in
    let pace : ℕ = halved halves f 0 first in
    let some_first : 0 < first = (serving needs burst delay max_lead first half.0).some_pace in
    let e : Edge f 0 first pace = edge halves f 0 first refl half.0 some_first (omega (arith, half.1)) in
    let s : Serves needs burst delay max_lead pace = serving needs burst delay max_lead pace e.passes in
    let share : ℕ = pace_share pace in
    let one : 1 ≤ share = some_share pace s.some_pace in
    let t : InTime delay share (burst pace) (longest_lead needs max_lead share) =
    in_time delay share (burst pace) (longest_lead needs max_lead share) one s.some_burst s.in_time in
    record {
      serves_it = e.passes;
      greatest = omega (arith, e.most, half.1);
      is_choice = record {
        allowance = record { some_burst = s.some_burst; most_burst = s.most_burst; some_pace = s.some_pace; most_pace = omega (arith, e.most, half.1) };
        some_lead = t.some;
        greatest_lead = omega (arith, t.most);
        drained = s.drained;
        held = main_holds needs (Pace (burst pace) pace) (burst_lead delay share (burst pace)) max_lead share (omega (arith, ranges.some_interval)) t.some one
            t.most;
      };
      is_paced = record {
        pace = pace;
        is_choice = refl;
        greatest = omega (arith, e.most, half.1);
        in_time = t.in_time;
        least = e.fails;
      };
    }
