-- One plan, and two plans in turn
use Rattle.std.proofs.Common.{◌≡◌, ℕ, ◌+◌, ◌-◌, ◌*◌, ◌<◌, ◌≤◌, max, min, Bool, List, length, inl, inr, arith}
use Rattle.std.proofs.Math.Nat.{mul-le-mul_right, mul-pos, lt-mul-div-succ}
use Rattle.std.proofs.lemmas.Bool.{cases_lt}
use Rattle.own_slots.specs.Slots.{AtMostPerWindow, HasPace}
use Rattle.own_slots.specs.Period.{own, per_period}
use Rattle.own_slots.specs.Spread.{most_within}
use Rattle.own_slots.specs.Work.{BoundsWork}
use Rattle.own_slots.specs.Switch.{shift}
use Rattle.own_slots.proofs.PositionLemmas.{per_period_le}
use Rattle.own_slots.proofs.Spread.{rate_law, share_law}
use Rattle.own_slots.proofs.WorkLemmas.{work_law, switch_work_law}
use Rattle.own_slots.proofs.SwitchLemmas.{switch_rate_law, switch_spare_law}
use Rattle.unit_timing.specs.PesPacket.{PesPacket, packets_of_unit}
use Rattle.unit_timing.specs.Allowances.{size_curve, curve, allowance_rows, steady_packets, steady_time}
use Rattle.unit_timing.specs.Deadline.{InTime}
use Rattle.unit_timing.specs.Plans.{Declaration, KeepsDeclaration, StreamServed, run_packets}
use Rattle.unit_timing.specs.Conditions.{IsProper, packets_in_row, waiting_units, waiting_slots, bytes_by_units}
use Rattle.unit_timing.specs.PlanLaws.{in_turn, StreamLaw, DeadlineSwitchLaw, MainSwitchLaw, StreamSwitchLaw, ProgramLaw, ProgramSwitchLaw}
use Rattle.unit_timing.specs.Transport.{slots_of, NoneLeavesEarly}
use Rattle.unit_timing.specs.MainBuffer.{mb_fullness}
use Rattle.unit_timing.proofs.TransportBuffer.{transport_room}
use Rattle.unit_timing.proofs.Allowing.{allowance_law, curve_within, sizes_within}
use Rattle.unit_timing.proofs.PaidAllowances.{paid_law}
use Rattle.unit_timing.proofs.DeadlineLemmas.{deadline_law}
use Rattle.unit_timing.proofs.ArrivalLemmas.{arrived_law}
use Rattle.unit_timing.proofs.ScheduleLemmas.{system_law}
use Rattle.unit_timing.proofs.PacketsInSlots.{rising_run}
use Rattle.unit_timing.proofs.MainBufferBySlots.{by_slots}
use Rattle.unit_timing.proofs.MainBufferByUnits.{by_curve}

-- The units that can wait cover the lead.
enough_units : (s : Declaration) → 0 < s.interval → s.lead ≤ waiting_units s * s.interval
enough_units s pos = omega (arith, lt-mul-div-succ (s.lead + (s.interval - 1)) pos)

enough_slots : (rate : ℕ) (s : Declaration) → s.lead * rate ≤ waiting_slots rate s * 135360000
enough_slots rate s = omega arith

pub some_slots : (rate : ℕ) (s : Declaration) → 0 < rate → 0 < s.lead → 0 < waiting_slots rate s
some_slots rate s pos pos' = let some : 0 < s.lead * rate = mul-pos pos' pos in omega arith

-- Deadlines, work and the main buffer give the promises of a plan.
served : (rate : ℕ) (s : Declaration) (own : ℕ → Bool) (peak : ℕ) (W : ℕ → ℕ) (units : List PesPacket) → IsProper rate s →
    BoundsWork own rate s.drain 512 peak W → InTime own rate s.lead s.drain peak 0 units →
    ((n x : ℕ) (left : List ℕ) → NoneLeavesEarly s.drain (run_packets own rate s units n) left → mb_fullness rate s.drain x units left ≤ s.main) →
    StreamServed own rate s units
served rate s own peak W units proper work in_time main = record {
  transport = λ n x. transport_room own rate s.drain 512 peak W (slots_of (run_packets own rate s units n)) x proper.some_rate work
      (rising_run own rate s.lead n units);
  arrived = λ n. arrived_law own rate s.lead s.drain 512 peak W units n proper.some_drain work in_time;
  main = main;
}

-- The slower of two plans still has enough slots in the long run.
slower : (most n1 n2 c1 c2 time rate : ℕ) → most * n1 ≤ c1 * time * rate → most * n2 ≤ c2 * time * rate →
    most * max (n1 * c2) (n2 * c1) ≤ c1 * c2 * time * rate
slower most n1 n2 c1 c2 time rate first second = elim (cases_lt (n1 * c2) (n2 * c1)) [
  | inl lt ↦ let m : max (n1 * c2) (n2 * c1) ≡ n2 * c1 = omega arith in rw m (omega (arith, mul-le-mul_right c1 second))
  | inr le ↦ let m : max (n1 * c2) (n2 * c1) ≡ n1 * c2 = omega arith in rw m (omega (arith, mul-le-mul_right c2 first))
]

-- The condition on the lead in the form that the proofs use
lead_form : (a b c1 c2 few cost e k d late : ℕ) →
    (a * c2 + b * c1 + few * cost + c1 * c2 * (e + 1)) * 135360000 * d + c1 * c2 * late * 720000 ≤ k →
    (a * c2 + b * c1 + c1 * c2 * e + few * cost + c1 * c2) * 135360000 * d + c1 * c2 * late * 720000 ≤ k
lead_form a b c1 c2 few cost e k d late h = omega (arith, h)

-- A pace that pays for the declaration gives the deadlines.
pub in_time : (rate : ℕ) (s : Declaration) (own : ℕ → Bool) (share cost base late : ℕ) (units : List PesPacket) → 0 < allowance_rows s.allowance →
    0 < s.interval →
    HasPace own share cost base → 0 < share → steady_packets s.allowance * cost ≤ share * steady_time s.allowance s.interval * rate →
    ((m : ℕ) → 0 < m → m ≤ allowance_rows s.allowance → (base + packets_in_row s m * cost + share) * 135360000 * s.drain + share * late * 720000
    ≤ share * (s.lead + (m - 1) * s.interval) * rate * s.drain) →
    KeepsDeclaration s units → InTime own rate s.lead s.drain late 0 units
in_time rate s own share cost base late units rows pos serves some fast soon keeps =
    deadline_law own share cost base (curve s.allowance s.unit_packets s.interval) rate s.lead s.interval s.drain late units serves some
    (paid_law s.allowance s.unit_packets share cost base rate s.lead s.interval s.drain late rows pos fast soon)
    keeps.spaced (allowance_law.kept s.allowance s.unit_packets s.interval s.lead units rows pos keeps.spaced keeps.allowed)

pub deadline_switch_law : DeadlineSwitchLaw
deadline_switch_law rate s claim first next second periods units rows pos one two near next_near rate_one rate_two lead keeps =
    let c1 = per_period first in
    let c2 = per_period second in
    let late = max claim.peak next.peak in
    let cost = max (length first * c2) (length second * c1) in
    in_time rate s (in_turn first periods second) (c1 * c2) cost (claim.spread * c2 + next.spread * c1 + c1 * c2 * shift first second) late units rows pos
    (switch_rate_law first second periods claim.spread next.spread one two near next_near) (mul-pos one two)
    (slower (steady_packets s.allowance) (length first) (length second) c1 c2 (steady_time s.allowance s.interval) rate rate_one rate_two)
    (λ m some most. lead_form claim.spread next.spread c1 c2 (packets_in_row s m) cost (shift first second)
    (c1 * c2 * (s.lead + (m - 1) * s.interval) * rate * s.drain) s.drain late (lead m some most))
    keeps

-- The bytes of a unit, bounded by its size and by its packets
all_bytes : (unit : PesPacket) → unit.size ≤ 1 * unit.size
all_bytes unit = omega arith

packed_bytes : (unit : PesPacket) → unit.size ≤ 184 * packets_of_unit unit
packed_bytes unit = omega arith

by_units : (rate : ℕ) (s : Declaration) (own : ℕ → Bool) (units : List PesPacket) (n x : ℕ) (left : List ℕ) → IsProper rate s → KeepsDeclaration s units →
    NoneLeavesEarly s.drain (run_packets own rate s units n) left → mb_fullness rate s.drain x units left ≤ bytes_by_units s
by_units rate s own units n x left proper keeps late =
    let pos = proper.some_interval in
    let size = size_curve s.largest s.interval in
    let most = curve s.allowance s.unit_packets s.interval in
    let wide = enough_units s pos in
    let sizes = by_curve own rate s.lead s.drain 1 (λ unit. unit.size) size units n x left all_bytes
    (allowance_law.sizes_rise s.largest s.interval pos)
    (allowance_law.sized s.largest s.interval s.lead units pos keeps.spaced keeps.sized) late in
    let packets = by_curve own rate s.lead s.drain 184 packets_of_unit most units n x left packed_bytes
    (allowance_law.rises s.allowance s.unit_packets s.interval proper.some_rows pos)
    (allowance_law.kept s.allowance s.unit_packets s.interval s.lead units proper.some_rows pos keeps.spaced keeps.allowed) late in
    omega (
      arith,
      sizes,
      sizes_within s.largest s.interval s.lead (waiting_units s) pos proper.some_lead wide,
      packets,
      curve_within s.allowance s.unit_packets s.interval s.lead (waiting_units s) proper.some_rows pos proper.some_lead wide,
    )

pub main_fits : (rate : ℕ) (s : Declaration) (own : ℕ → Bool) (m : ℕ) (units : List PesPacket) (n x : ℕ) (left : List ℕ) → IsProper rate s →
    KeepsDeclaration s units →
    AtMostPerWindow own (waiting_slots rate s) m → min (bytes_by_units s) (184 * m) ≤ s.main →
    NoneLeavesEarly s.drain (run_packets own rate s units n) left → mb_fullness rate s.drain x units left ≤ s.main
main_fits rate s own m units n x left proper keeps spares fits late =
    let slots = by_slots own rate s.lead s.drain (waiting_slots rate s) m units n x left (enough_slots rate s) spares late in
    omega (arith, slots, by_units rate s own units n x left proper keeps late, fits)

pub main_switch_law : MainSwitchLaw
main_switch_law rate s claim first next second periods units n x left proper one two near next_near fits keeps late =
    let wait = waiting_slots rate s in
    let some = some_slots rate s proper.some_rate proper.some_lead in
    let w1 = most_within (per_period first) (length first) claim.spread wait in
    let w2 = most_within (per_period second) (length second) next.spread wait in
    let both : min (bytes_by_units s) (184 * (w1 + w2)) ≤ s.main = omega (arith, fits) in
    main_fits rate s (in_turn first periods second) (w1 + w2) units n x left proper keeps
    (switch_spare_law (own first) (own second) (periods * length first) wait w1 w2 (share_law first claim.spread wait one near some)
    (share_law second next.spread wait two next_near some))
    both late

pub stream_switch_law : StreamSwitchLaw
stream_switch_law rate s claim first next second periods units proper one two joins keeps =
    served rate s (in_turn first periods second) (max claim.peak next.peak) _ units proper
    (switch_work_law rate s.drain 512 claim.start claim.peak first next.start next.peak second periods (omega (arith, one.owned, per_period_le first))
    (omega (arith, two.owned, per_period_le second)) one.work two.work joins.work)
    (deadline_switch_law rate s claim first next second periods units proper.some_rows proper.some_interval one.owned two.owned
    one.spread_claimed two.spread_claimed one.rate_serves two.rate_serves joins.lead_serves keeps)
    (λ n x left. main_switch_law rate s claim first next second periods units n x left proper one.owned two.owned one.spread_claimed two.spread_claimed
    joins.main_fits keeps)

pub stream_law : StreamLaw
stream_law rate s claim marks units proper holds keeps =
    served rate s (own marks) claim.peak _ units proper
    (work_law rate s.drain 512 claim.start claim.peak marks (omega (arith, holds.owned, per_period_le marks)) holds.work)
    (in_time rate s (own marks) (per_period marks) (length marks) claim.spread claim.peak units proper.some_rows proper.some_interval
    (rate_law marks claim.spread holds.owned holds.spread_claimed) holds.owned holds.rate_serves holds.lead_serves keeps)
    (λ n x left. main_fits rate s (own marks) (most_within (per_period marks) (length marks) claim.spread (waiting_slots rate s)) units n x left proper keeps
    (share_law marks claim.spread (waiting_slots rate s) holds.owned holds.spread_claimed (some_slots rate s proper.some_rate proper.some_lead))
    holds.main_fits)

pub program_law : ProgramLaw
program_law rate claim marks pos some holds = record {
  transport = λ slots x rises. (system_law (own marks) rate slots x pos rises).0 512 claim.transport_peak _
      (work_law rate 1000000 512 claim.transport_start claim.transport_peak marks some holds.transport);
  system = λ slots x rises. (system_law (own marks) rate slots x pos rises).1 1536 claim.system_peak _
      (work_law rate 80000 1536 claim.system_start claim.system_peak marks some holds.system);
}

pub program_switch_law : ProgramSwitchLaw
program_switch_law rate claim first next second periods pos some some' one two joins = record {
  transport = λ slots x rises. (system_law (in_turn first periods second) rate slots x pos rises).0 512 (max claim.transport_peak next.transport_peak) _
      (switch_work_law rate 1000000 512 claim.transport_start claim.transport_peak first next.transport_start next.transport_peak second periods some some'
      one.transport two.transport joins.transport);
  system = λ slots x rises. (system_law (in_turn first periods second) rate slots x pos rises).1 1536 (max claim.system_peak next.system_peak) _
      (switch_work_law rate 80000 1536 claim.system_start claim.system_peak first next.system_start next.system_peak second periods some some'
      one.system two.system joins.system);
}
