-- The weights of units, one by one, and their sums
use Rattle.std.proofs.Common.{◌≡◌, ◌≤◌, ◌<◌, ℕ, ◌+◌, ◌-◌, ◌^◌, ◌∙◌, max, min, List, [], ◌∷◌, ◌++◌, length, take, drop, get_or, map, All, refl, sym, ap, arith}
use Rattle.std.proofs.Common.{add-one}
use Rattle.std.proofs.Math.Seq.{drop-cons}
use Rattle.std.proofs.lemmas.List.{append_assoc, append-nil, drop_all, take_more, take_all, map-append, length-map}
use Rattle.pes_packet.specs.AccessUnits.{AccessUnit}
use Rattle.unit_timing.specs.PesPacket.{packets_of_unit}
use Rattle.es_moments.specs.CountedUnits.{CountedUnitsView, counted_units, weight_of, weights, weighed_size, weighed_after, weighed_interval, weighed_steps}
use Rattle.es_moments.specs.CountedUnits.{weighed_packets, weighed_runs, weighed_units}
use Rattle.es_moments.specs.Declaration.{CountedPacketsView, counted_packets, interval_after, max_unit_packets, max_unit_size, min_interval, timed_unit}
use Rattle.es_moments.specs.Declaration.{timed_units}
use Rattle.es_moments.specs.UnitMoments as at
use Rattle.es_moments.specs.UnitMoments.{units_at}
use Rattle.es_moments.specs.UnitRuns.{UnitRunsView, UnitStep, steps_after, unit_runs}
use Rattle.es_moments.specs.declared.unit_moments.UnitMoment.{UnitMoment}
use Rattle.es_moments.specs.declared.unit_weights.UnitWeight.{UnitWeight}
use Rattle.es_moments.specs.WireUnits.{CarriedUnit}

-- 1. Weights one by one

pub weight_more : (id base0 i : ℕ) (units : List AccessUnit) (u : AccessUnit) (w : UnitWeight) (before after : List UnitWeight) → i < length units →
    u ≡ get_or units i u →
    w ≡ weight_of id base0 u → before ≡ weights id base0 (take i units) → after ≡ before ++ w ∷ [] → after ≡ weights id base0 (take (i + 1) units)
weight_more id base0 i units u w before after below at value so_far next =
    let more : take (i + 1) units ≡ take i units ++ u ∷ [] = take_more units i u below ∙ ap (λ (x : AccessUnit). take i units ++ x ∷ []) (sym at) in
    let parts : weights id base0 (take i units ++ u ∷ []) ≡ weights id base0 (take i units) ++ weight_of id base0 u ∷ [] =
    map-append (weight_of id base0) (take i units) (u ∷ []) in
    next ∙ rw (so_far, value, more) (sym parts)

pub weight_end : (id base0 i : ℕ) (units : List AccessUnit) (ws : List UnitWeight) → length units ≤ i → ws ≡ weights id base0 (take i units) →
    ws ≡ weights id base0 units
weight_end id base0 i units ws over so_far = so_far ∙ ap (weights id base0) (take_all i units over)

-- The weights of units at moments

found_more : (id base0 : ℕ) (ms later : List UnitMoment) (m : UnitMoment) (us rest : List CarriedUnit) (u : CarriedUnit) (all before after : List UnitWeight)
    (w : UnitWeight) →
    ms ≡ m ∷ later → us ≡ u ∷ rest → w ≡ weight_of id base0 (at.unit_at m u) → after ≡ before ++ w ∷ [] →
    all ≡ before ++ weights id base0 (units_at ms us) → all ≡ after ++ weights id base0 (units_at later rest)
unfolding units_at
found_more id base0 ms later m us rest u all before after w first next made grown is =
    let rest_are = weights id base0 (units_at later rest) in
    let begun : weights id base0 (units_at ms us) ≡ w ∷ rest_are = rw (first, next, made) refl in
    rw grown (is ∙ ap (λ (ws : List UnitWeight). before ++ ws) begun ∙ sym (append_assoc before (w ∷ []) rest_are))

pub found_next : (id base0 i : ℕ) (ms later : List UnitMoment) (m : UnitMoment) (us : List CarriedUnit) (u : CarriedUnit) (all before after : List UnitWeight)
    (w : UnitWeight) →
    i < length us → u ≡ get_or us i u → ms ≡ m ∷ later → w ≡ weight_of id base0 (at.unit_at m u) → after ≡ before ++ w ∷ [] →
    all ≡ before ++ weights id base0 (units_at ms (drop i us)) → all ≡ after ++ weights id base0 (units_at later (drop (i + 1) us))
found_next id base0 i ms later m us u all before after w below here first made grown is =
    let next : drop i us ≡ u ∷ drop (i + 1) us = rw (drop-cons us i u below, add-one i, sym here) refl in
    found_more id base0 ms later m (drop i us) (drop (i + 1) us) u all before after w first next made grown is

pub found_end : (id base0 : ℕ) (rest : List AccessUnit) (all before : List UnitWeight) → rest ≡ [] → all ≡ before ++ weights id base0 rest → before ≡ all
found_end id base0 rest all before none is = sym (is ∙ ap (λ (us : List AccessUnit). before ++ weights id base0 us) none ∙ append-nil before)

-- 2. Counts one by one

abbrev pub none : UnitWeight
none = record { dts = 0; size = 0; packets = 0 }

pub size_more : (i : ℕ) (ws : List UnitWeight) (w : UnitWeight) → i < length ws → w ≡ get_or ws i none →
    weighed_size (drop i ws) ≡ max w.size (weighed_size (drop (i + 1) ws))
unfolding weighed_size
size_more i ws w below at = rw (drop-cons ws i none below, add-one i, sym at) refl

pub size_end : (i : ℕ) (ws : List UnitWeight) → length ws ≤ i → weighed_size (drop i ws) ≡ 0
unfolding weighed_size
size_end i ws over = rw (drop_all i ws over) refl

pub interval_more : (i last : ℕ) (ws : List UnitWeight) (w : UnitWeight) → i < length ws → w ≡ get_or ws i none →
    weighed_after last (drop i ws) ≡ min (w.dts - last) (weighed_after w.dts (drop (i + 1) ws))
unfolding weighed_after
interval_more i last ws w below at = rw (drop-cons ws i none below, add-one i, sym at) refl

pub interval_end : (i last : ℕ) (ws : List UnitWeight) → length ws ≤ i → weighed_after last (drop i ws) ≡ 90_000
unfolding weighed_after
interval_end i last ws over = rw (drop_all i ws over) refl

pub interval_most : (last : ℕ) (ws : List UnitWeight) → weighed_after last ws ≤ 90_000
unfolding weighed_after
interval_most last [] = omega arith
interval_most last (w ∷ ws) = omega (arith, interval_most w.dts ws)

step_more : (i last : ℕ) (ws : List UnitWeight) (w : UnitWeight) → i < length ws → w ≡ get_or ws i none →
    weighed_steps last (drop i ws) ≡ record { time = w.dts - last; packets = w.packets } ∷ weighed_steps w.dts (drop (i + 1) ws)
unfolding weighed_steps
step_more i last ws w below at = rw (drop-cons ws i none below, add-one i, sym at) refl

pub step_end : (i last : ℕ) (ws : List UnitWeight) → length ws ≤ i → weighed_steps last (drop i ws) ≡ []
unfolding weighed_steps
step_end i last ws over = rw (drop_all i ws over) refl

pub counted_more : (i last time : ℕ) (ws : List UnitWeight) (w : UnitWeight) (all before after : List UnitStep) → i < length ws → w ≡ get_or ws i none →
    time ≡ w.dts - last → after ≡ before ++ record { time = time; packets = w.packets } ∷ [] → all ≡ before ++ weighed_steps last (drop i ws) →
    all ≡ after ++ weighed_steps w.dts (drop (i + 1) ws)
counted_more i last time ws w all before after below at t grown is =
    let step : UnitStep = record { time = w.dts - last; packets = w.packets } in
    let rest = weighed_steps w.dts (drop (i + 1) ws) in
    rw (grown, t) (is ∙ ap (λ (ss : List UnitStep). before ++ ss) (step_more i last ws w below at) ∙ sym (append_assoc before (step ∷ []) rest))

-- 3. The counts are the counts of the units

size_is : (id base0 : ℕ) (us : List AccessUnit) → weighed_size (weights id base0 us) ≡ max_unit_size us
unfolding weighed_size max_unit_size
size_is id base0 [] = refl
size_is id base0 (u ∷ us) = rw (size_is id base0 us) refl

after_is : (id base0 before : ℕ) (us : List AccessUnit) → weighed_after before (weights id base0 us) ≡ interval_after before us
unfolding weighed_after interval_after
after_is id base0 before [] = refl
after_is id base0 before (u ∷ us) = rw (after_is id base0 u.dts us) refl

interval_is : (id base0 : ℕ) (us : List AccessUnit) → weighed_interval (weights id base0 us) ≡ min_interval us
unfolding weighed_interval min_interval
interval_is id base0 [] = refl
interval_is id base0 (u ∷ us) = after_is id base0 u.dts us

steps_are : (id base0 last : ℕ) (us : List AccessUnit) → weighed_steps last (weights id base0 us) ≡ steps_after last (timed_units id base0 us)
unfolding weighed_steps steps_after
steps_are id base0 last [] = refl
steps_are id base0 last (u ∷ us) = rw (steps_are id base0 u.dts us) refl

numbers_are : (id base0 : ℕ) (us : List AccessUnit) → map (λ (w : UnitWeight). w.packets) (weights id base0 us) ≡ map packets_of_unit (timed_units id base0 us)
numbers_are id base0 [] = refl
numbers_are id base0 (u ∷ us) = rw (numbers_are id base0 us) refl

pub packets_are : (id base0 : ℕ) (us : List AccessUnit) → weighed_packets (weights id base0 us) ≡ counted_packets id base0 us
unfolding counted_packets
packets_are id base0 us = rw (numbers_are id base0 us, size_is id base0 us) refl

pub runs_are : (id base0 : ℕ) (us : List AccessUnit) → weighed_runs (weights id base0 us) ≡ unit_runs id base0 us
unfolding unit_runs
runs_are id base0 us = rw (steps_are id base0 0 us, size_is id base0 us) refl

pub units_are : (us : List AccessUnit) → weighed_units (weights 0 0 us) ≡ counted_units us
unfolding weighed_units counted_units
units_are us = rw (length-map us (weight_of 0 0), interval_is 0 0 us, packets_are 0 0 us, runs_are 0 0 us, size_is 0 0 us) refl
