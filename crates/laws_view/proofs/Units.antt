-- The units that end with each packet, all together
use Rattle.std.proofs.Common.{◌≡◌, ◌∙◌, sym, ℕ, ◌+◌, ◌-◌, ◌*◌, ◌^◌, ◌≤◌, ◌<◌, cond, Bool, true, false, List, [], ◌∷◌, ◌++◌, length, Option, Some, None}
use Rattle.std.proofs.Common.{if◌then◌else◌, refl, ap, inl, inr, arith}
use Rattle.std.specs.Prelude.{count_by, flat_map}
use Rattle.std.specs.Option.{option_to_list}
use Rattle.std.proofs.lemmas.Bool.Decides.{eqb_tells}
use Rattle.std.proofs.lemmas.List.{append-nil, length-append}
use Rattle.std.proofs.lemmas.List.Sums.{sum_by-cons}
use Rattle.arrival.specs.declared.arrival.Arrival.{Arrival}
use Rattle.arrival.specs.Arrivals.{times_at}
use Rattle.tstd_rows.specs.History.{unit_of}
use Rattle.tstd_rows.specs.declared.unit_seen.DueTime.{DueTime}
use Rattle.tstd_rows.specs.declared.unit_seen.UnitSeen.{UnitSeen}
use Rattle.tstd_rows.specs.declared.arriving.Arriving.{Arriving}
use Rattle.tstd_rows.specs.Held.{Held, carried, passed}
use Rattle.tstd_rows.specs.Entering.{EnteredView, after, after_begin, after_header, after_lead, after_payload, after_unit, ended_with, entered, lead_in}
use Rattle.tstd_rows.specs.Entering.{nothing, size_of, takes_in, unit_ended, with_packet}
use Rattle.es_events.specs.Tallies.{is_late, more}
use Rattle.laws_view.specs.StreamUnits.{units_ended}
use Rattle.laws_view.proofs.EnteredBytes.{Alike, payload_alike}

-- Payload bytes end no unit.
goes_units : (step : ℕ) (h : Held) (enters : Bool) (times : List ℕ) →
    units_ended step (if enters then carried h times else passed h times).parts ≡ units_ended step h.parts
unfolding units_ended
goes_units step h true times = refl
goes_units step h false times = refl

payload_units : (step : ℕ) (h : Held) (enters : Bool) (n : ℕ) (times : List ℕ) →
    units_ended step (after_payload h enters n times).parts ≡ units_ended step h.parts
unfolding after_payload
payload_units step h enters n times = elim (eqb_tells n 0) [
  | inl none ↦ rw none.0 refl
  | inr some ↦ rw some.0 (goes_units step h enters times)
]

-- The begin of a unit ends the unit before.
begin_units : (step : ℕ) (h : Held) (due : Option DueTime) → h.rate ≡ step → units_ended step (after_begin h due).parts ≡ units_ended step h.parts
    ++ option_to_list (unit_ended h due)
unfolding after_begin units_ended unit_ended
begin_units step h None e = sym (append-nil (units_ended step h.parts))
begin_units step h (Some due) e = ap (λ (r : ℕ). units_ended step h.parts ++ option_to_list (unit_of r h.parts)) (sym e)

parts_units : (step : ℕ) (h : Held) (arrival : Arrival) (p : Arriving) (size lead : ℕ) → h.rate ≡ step →
    units_ended step (with_packet h arrival p size lead).parts ≡ units_ended step h.parts ++ option_to_list (ended_with h arrival p size lead).unit
parts_units step h arrival p size lead e =
    let a : Held = after_lead h arrival p lead in
    let b : Held = after_header h arrival p size lead in
    let c : Held = after_unit h arrival p size lead in
    let alike_a : Alike h a = payload_alike h false lead (times_at arrival h.rx (188 * p.index) lead) in
    let alike_b : Alike a b = payload_alike a false (188 - size - lead) (times_at arrival a.rx (188 * p.index + lead) (188 - size - lead)) in
    let first : units_ended step a.parts ≡ units_ended step h.parts = payload_units step h false lead (times_at arrival h.rx (188 * p.index) lead) in
    let second : units_ended step b.parts ≡ units_ended step a.parts =
    payload_units step a false (188 - size - lead) (times_at arrival a.rx (188 * p.index + lead) (188 - size - lead)) in
    let third = begin_units step b p.begins (alike_b.rate ∙ alike_a.rate ∙ e) in
    let fourth : units_ended step (with_packet h arrival p size lead).parts ≡ units_ended step c.parts =
    payload_units step c p.enters size (times_at arrival c.rx (188 * p.index + (188 - size)) size) in
    fourth ∙ third ∙ ap (λ (l : List UnitSeen). l ++ option_to_list (unit_ended b p.begins)) (second ∙ first)

pub packet_units : (step : ℕ) (h : Held) (arrival : Arrival) (p : Arriving) → h.rate ≡ step →
    units_ended step (after h arrival p).parts ≡ units_ended step h.parts ++ option_to_list (entered h arrival p).unit
unfolding after entered
packet_units step h arrival p e = by (takes_in h arrival p)
  where
    by : (b : Bool) → units_ended step (if b then with_packet h arrival p (size_of p) (lead_in arrival p) else h).parts
        ≡ units_ended step h.parts ++ option_to_list (if b then ended_with h arrival p (size_of p) (lead_in arrival p) else nothing).unit
    by true = parts_units step h arrival p (size_of p) (lead_in arrival p) e
    by false = sym (append-nil (units_ended step h.parts))

-- The number of units

unfoldable pub units_with : ℕ → Option UnitSeen → ℕ
units_with n None = n
units_with n (Some u) = more n 1

unfoldable pub units_more : ℕ → List EnteredView → ℕ
units_more n [] = n
units_more n (v ∷ vs) = units_more (units_with n v.unit) vs

unit_counted : (n : ℕ) (o : Option UnitSeen) → n < 2 ^ 64 - 1 → units_with n o ≡ n + length (option_to_list o)
unfolding units_with
unit_counted n None few = omega arith
unit_counted n (Some u) few = omega (arith, few)

pub units_exact : (n : ℕ) (vs : List EnteredView) → n + length vs < 2 ^ 64 - 1 → units_more n vs ≡ n + length (flat_map (λ v. option_to_list v.unit) vs)
unfolding units_more
units_exact n [] few = omega arith
units_exact n (v ∷ vs) few =
    let all : List UnitSeen = flat_map (λ v. option_to_list v.unit) vs in
    let one = unit_counted n v.unit (omega (arith, few)) in
    let le = one_unit v.unit in
    omega (arith, one, units_exact (units_with n v.unit) vs (omega (arith, few, one, le)), length-append (option_to_list v.unit) all)
  where
    one_unit : (o : Option UnitSeen) → length (option_to_list o) ≤ 1
    one_unit None = omega arith
    one_unit (Some u) = omega arith

pub last_unit : (n : ℕ) (us : List UnitSeen) (o : Option UnitSeen) → n ≡ length us → n < 2 ^ 64 - 1 → units_with n o ≡ length (us ++ option_to_list o)
last_unit n us o e few = omega (arith, e, unit_counted n o few, length-append us (option_to_list o))

-- The number of late units

unfoldable pub late_with : ℕ → Option UnitSeen → ℕ
late_with n None = n
late_with n (Some u) = more n (if is_late u then 1 else 0)

unfoldable pub late_more : ℕ → List EnteredView → ℕ
late_more n [] = n
late_more n (v ∷ vs) = late_more (late_with n v.unit) vs

pub count_two : (xs ys : List UnitSeen) → count_by is_late (xs ++ ys) ≡ count_by is_late xs + count_by is_late ys
count_two [] ys = omega arith
count_two (x ∷ xs) ys =
    rw (sum_by-cons (λ u. cond (is_late u) 1 0) x (xs ++ ys), sum_by-cons (λ u. cond (is_late u) 1 0) x xs) (omega (arith, count_two xs ys))

late_counted : (n : ℕ) (o : Option UnitSeen) → n < 2 ^ 64 - 1 →
    (late_with n o ≡ n + count_by is_late (option_to_list o)) × (count_by is_late (option_to_list o) ≤ 1)
unfolding late_with
late_counted n None few = (omega arith, omega arith)
late_counted n (Some u) few =
    let one = sum_by-cons (λ v. cond (is_late v) 1 0) u [] in
    by (is_late u) one
  where
    by : (b : Bool) → count_by is_late (u ∷ []) ≡ cond b 1 0 + count_by is_late [] →
        (more n (if b then 1 else 0) ≡ n + count_by is_late (u ∷ [])) × (count_by is_late (u ∷ []) ≤ 1)
    by true one = (omega (arith, few, one), omega (arith, one))
    by false one = (omega (arith, few, one), omega (arith, one))

pub late_exact : (n : ℕ) (vs : List EnteredView) → n + length vs < 2 ^ 64 - 1 →
    (late_more n vs ≡ n + count_by is_late (flat_map (λ v. option_to_list v.unit) vs)) ×
    (count_by is_late (flat_map (λ v. option_to_list v.unit) vs) ≤ length vs)
unfolding late_more
late_exact n [] few = (omega arith, omega arith)
late_exact n (v ∷ vs) few =
    let all : List UnitSeen = flat_map (λ v. option_to_list v.unit) vs in
    let one = late_counted n v.unit (omega (arith, few)) in
    let rest = late_exact (late_with n v.unit) vs (omega (arith, few, one.0, one.1)) in
    let two = count_two (option_to_list v.unit) all in
    (omega (arith, one.0, rest.0, two), omega (arith, one.1, rest.1, two))

pub last_late : (n : ℕ) (us : List UnitSeen) (o : Option UnitSeen) → n ≡ count_by is_late us → n < 2 ^ 64 - 1 →
    late_with n o ≡ count_by is_late (us ++ option_to_list o)
last_late n us o e few = omega (arith, e, (late_counted n o few).0, count_two us (option_to_list o))

pub length_units : (vs : List EnteredView) → length (flat_map (λ v. option_to_list v.unit) vs) ≤ length vs
length_units [] = omega arith
length_units (v ∷ vs) = omega (arith, length_units vs, one_unit v.unit, length-append (option_to_list v.unit) (flat_map (λ v. option_to_list v.unit) vs))
  where
    one_unit : (o : Option UnitSeen) → length (option_to_list o) ≤ 1
    one_unit None = omega arith
    one_unit (Some u) = omega arith
