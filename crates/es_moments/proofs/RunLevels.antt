-- Levels of equal units, and of units one after another
use Rattle.std.proofs.Common.{◌≡◌, ◌≤◌, ◌<◌, ℕ, zero, suc, ◌+◌, ◌*◌, ◌-◌, ◌∙◌, max, List, [], ◌∷◌, ◌++◌, length, drop, get_or, replicate, refl, sym, ap, arith}
use Rattle.std.proofs.Common.{add-one, inl, inr}
use Rattle.std.specs.Int.{div_ceil}
use Rattle.std.specs.List.{flat_map}
use Rattle.std.proofs.Math.Nat.{mul-le-mul_left, suc-mul}
use Rattle.std.proofs.lemmas.Bool.{cases_lt}
use Rattle.std.proofs.Math.Seq.{drop-cons}
use Rattle.std.proofs.lemmas.List.{append_assoc, drop_all, drop_more}
use Rattle.std.proofs.lemmas.List.Concat.{flat_map-cons}
use Rattle.clock27.specs.Units.{slot_units_at_1bps}
use Rattle.pes_packet.specs.AccessUnits.{AccessUnit}
use Rattle.unit_timing.specs.PesPacket.{PesPacket, packets_of_unit}
use Rattle.unit_timing.specs.Levels.{greatest_after}
use Rattle.es_moments.specs.Declaration.{burst_packets, max_unit_packets, max_unit_size, timed_unit, timed_units}
use Rattle.es_moments.specs.UnitRuns.{UnitRunsView, UnitStep, runs_burst, unit_runs, steps_after, steps_of, step_level, level_over, greatest_over}
use Rattle.es_moments.specs.declared.unit_runs.UnitRun.{UnitRun}

-- 1. Equal units

-- The level after one unit and k more equal units is the level after k + 1 equal units.
alike_step : (k level on off : ℕ) → on ≤ level → max ((((level - off) + on) + k * on) - k * off) on ≡ max ((level + suc k * on) - suc k * off) on
alike_step k level on off above = elim (cases_lt off on) [
  | inl lt ↦ omega (arith, above, lt, suc-mul k on, suc-mul k off)
  | inr le ↦ omega (arith, above, mul-le-mul_left k le, suc-mul k on, suc-mul k off)
]

greatest_step : (k level on off greatest last : ℕ) → on ≤ level → last ≡ max ((((level - off) + on) + k * on) - k * off) on →
    max ((level - off) + on) greatest ≡ max ((level - off) + on) last → max level (max ((level - off) + on) greatest) ≡ max level last
greatest_step k level on off greatest last above is same = elim (cases_lt on off) [
  | inl lt ↦ omega (arith, above, lt, is, same)
  | inr le ↦ omega (arith, above, mul-le-mul_left k le, is, same)
]

-- If the level is at least the packets of one unit, k equal units change it by all their arrivals and departures, but never below the packets of one unit.
pub alike_after : (pace k level : ℕ) (s : UnitStep) → s.packets * slot_units_at_1bps ≤ level →
    level_over pace level (replicate k s) ≡ max ((level + k * (s.packets * slot_units_at_1bps)) - k * (pace * s.time)) (s.packets * slot_units_at_1bps)
unfolding level_over
alike_after pace zero level s above = omega (arith, above)
alike_after pace (suc k) level s above =
    let next : s.packets * slot_units_at_1bps ≤ step_level pace level s = omega arith in
    alike_after pace k (step_level pace level s) s next ∙ alike_step k level (s.packets * slot_units_at_1bps) (pace * s.time) above

pub alike_greatest : (pace k level : ℕ) (s : UnitStep) → s.packets * slot_units_at_1bps ≤ level →
    max level (greatest_over pace level (replicate k s)) ≡ max level (level_over pace level (replicate k s))
unfolding level_over greatest_over
alike_greatest pace zero level s above = omega arith
alike_greatest pace (suc k) level s above =
    let next : s.packets * slot_units_at_1bps ≤ step_level pace level s = omega arith in
    let level' = step_level pace level s in
    greatest_step k level (s.packets * slot_units_at_1bps) (pace * s.time) (greatest_over pace level' (replicate k s)) (level_over pace level' (replicate k s))
    above
    (alike_after pace k level' s next) (alike_greatest pace k level' s next)

pub run_after : (pace level n k first last : ℕ) (s : UnitStep) → n ≡ suc k → first ≡ step_level pace level s → last ≡ level_over pace first (replicate k s) →
    last ≡ level_over pace level (replicate n s)
unfolding level_over
run_after pace level n k first last s is one more = rw (is, more, one) refl

pub run_greatest : (pace level n k first last : ℕ) (s : UnitStep) → n ≡ suc k → first ≡ step_level pace level s → last ≡ level_over pace first (replicate k s) →
    max first last ≡ greatest_over pace level (replicate n s)
unfolding greatest_over
run_greatest pace level n k first last s is one more =
    let above : s.packets * slot_units_at_1bps ≤ step_level pace level s = omega arith in
    rw (is, more, one) (sym (alike_greatest pace k (step_level pace level s) s above))

-- 2. Steps one after another

pub greatest_both : (pace level : ℕ) (xs ys : List UnitStep) →
    greatest_over pace level (xs ++ ys) ≡ max (greatest_over pace level xs) (greatest_over pace (level_over pace level xs) ys)
unfolding greatest_over level_over
greatest_both pace level [] ys = omega arith
greatest_both pace level (x ∷ xs) ys = omega (arith, greatest_both pace (step_level pace level x) xs ys)

-- The greatest level over a list is the greatest of the levels over its first run and over the rest.
pub greatest_more : (pace level after most greatest greatest' all : ℕ) (here later : List UnitStep) → after ≡ level_over pace level here →
    most ≡ greatest_over pace level here →
    greatest' ≡ max greatest most → all ≡ max greatest (greatest_over pace level (here ++ later)) → all ≡ max greatest' (greatest_over pace after later)
greatest_more pace level after most greatest greatest' all here later a m g is = rw (g, a, m) (omega (arith, is, greatest_both pace level here later))

-- The greatest level over a list of runs is found run by run.
pub run_more : (pace level after most greatest greatest' all i : ℕ) (runs read : List UnitRun) (none : UnitRun) → read ≡ runs → i < length read →
    after ≡ level_over pace level (steps_of (get_or read i none)) → most ≡ greatest_over pace level (steps_of (get_or read i none)) →
    greatest' ≡ max greatest most →
    all ≡ max greatest (greatest_over pace level (flat_map steps_of (drop i runs))) →
    all ≡ max greatest' (greatest_over pace after (flat_map steps_of (drop (i + 1) runs)))
run_more pace level after most greatest greatest' all i runs read none same below a m g is =
    let within : i < length runs = rw same at below in
    let here : flat_map steps_of (drop i runs) ≡ steps_of (get_or read i none) ++ flat_map steps_of (drop (i + 1) runs) =
    rw same (ap (flat_map steps_of) (drop_more runs i none within) ∙ flat_map-cons steps_of (get_or runs i none) (drop (i + 1) runs)) in
    greatest_more pace level after most greatest greatest' all (steps_of (get_or read i none)) (flat_map steps_of (drop (i + 1) runs)) a m g
    (is ∙ ap (λ (ss : List UnitStep). max greatest (greatest_over pace level ss)) here)

pub runs_end : (pace level i : ℕ) (runs read : List UnitRun) → read ≡ runs → length read ≤ i → greatest_over pace level (flat_map steps_of (drop i runs)) ≡ 0
unfolding greatest_over
runs_end pace level i runs read same over = rw (drop_all i runs (rw same at over)) refl

-- 3. The units of a stream

pub same_levels : (pace level last : ℕ) (units : List PesPacket) → greatest_over pace level (steps_after last units) ≡ greatest_after pace level last units
unfolding steps_after greatest_over greatest_after
same_levels pace level last [] = refl
same_levels pace level last (unit ∷ units) =
    ap (λ (later : ℕ). max ((level - pace * (unit.dts - last)) + packets_of_unit unit * slot_units_at_1bps) later)
    (same_levels pace ((level - pace * (unit.dts - last)) + packets_of_unit unit * slot_units_at_1bps) unit.dts units)

pub step_more : (id base0 i last : ℕ) (us : List AccessUnit) (u : AccessUnit) → i < length us → u ≡ get_or us i u →
    steps_after last (timed_units id base0 (drop i us))
    ≡ record { time = u.dts - last; packets = packets_of_unit (timed_unit id base0 u) } ∷ steps_after u.dts (timed_units id base0 (drop (i + 1) us))
unfolding steps_after
step_more id base0 i last us u below at = rw (drop-cons us i u below, add-one i, sym at) refl

pub step_end : (id base0 i last : ℕ) (us : List AccessUnit) → length us ≤ i → steps_after last (timed_units id base0 (drop i us)) ≡ []
unfolding steps_after
step_end id base0 i last us over = rw (drop_all i us over) refl

pub counted_more : (id base0 i last time packets dts : ℕ) (us : List AccessUnit) (u : AccessUnit) (all before after : List UnitStep) → i < length us →
    u ≡ get_or us i u →
    dts ≡ u.dts → time ≡ u.dts - last → packets ≡ packets_of_unit (timed_unit id base0 u) →
    after ≡ before ++ record { time = time; packets = packets } ∷ [] → all ≡ before ++ steps_after last (timed_units id base0 (drop i us)) →
    all ≡ after ++ steps_after dts (timed_units id base0 (drop (i + 1) us))
counted_more id base0 i last time packets dts us u all before after below at d t p grown is =
    let step : UnitStep = record { time = u.dts - last; packets = packets_of_unit (timed_unit id base0 u) } in
    let rest = steps_after u.dts (timed_units id base0 (drop (i + 1) us)) in
    rw (grown, t, p, d) (is ∙ ap (λ (ss : List UnitStep). before ++ ss) (step_more id base0 i last us u below at) ∙ sym (append_assoc before (step ∷ []) rest))

pub same_burst : (id base0 pace : ℕ) (us : List AccessUnit) (runs : UnitRunsView) → runs ≡ unit_runs id base0 us →
    runs_burst pace runs ≡ burst_packets id base0 pace us
unfolding unit_runs
same_burst id base0 pace us runs is =
    rw is (ap (λ (level : ℕ). max (max_unit_packets (max_unit_size us)) (div_ceil level slot_units_at_1bps)) (same_levels pace 0 0 (timed_units id base0 us)))
