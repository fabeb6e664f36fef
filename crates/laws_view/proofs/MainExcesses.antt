-- A main buffer that never holds more than its size has no excess.
use Rattle.std.proofs.Common.{◌≡◌, ◌∙◌, sym, ℕ, ◌+◌, ◌-◌, ◌*◌, ◌≤◌, nat_lt, Bool, true, false, List, [], ◌∷◌, ◌++◌, Option, Some, None, if◌then◌else◌, refl, ap}
use Rattle.std.proofs.Common.{subst, inl, inr, arith}
use Rattle.std.specs.Prelude.{flat_map}
use Rattle.std.proofs.lemmas.Bool.{le-ltb}
use Rattle.std.proofs.lemmas.Bool.Decides.{eqb_tells}
use Rattle.clock27.specs.Peak.{greatest_at}
use Rattle.arrival.specs.declared.arrival.Arrival.{Arrival}
use Rattle.arrival.specs.declared.arrival.Arrival.TheVariants.{AtRate}
use Rattle.arrival.specs.Arrivals.{times_at}
use Rattle.tstd_rows.specs.declared.excess.Excess.{Excess}
use Rattle.tstd_rows.specs.History.{left_after, main_fullness, payload_left}
use Rattle.tstd_rows.specs.History.Part.{Carries}
use Rattle.tstd_rows.specs.MainExcess.{ended_at}
use Rattle.tstd_rows.specs.declared.main_watch.MainWatch.{MainWatch}
use Rattle.tstd_rows.specs.declared.unit_seen.DueTime.{DueTime}
use Rattle.tstd_rows.specs.declared.arriving.Arriving.{Arriving}
use Rattle.tstd_rows.specs.Held.{Held, begun, carried, empty, main_ended, main_found, main_most, passed}
use Rattle.tstd_rows.specs.Entering.{EnteredView, after, after_begin, after_header, after_lead, after_payload, after_unit, ended_with, entered, lead_in}
use Rattle.tstd_rows.specs.Entering.{nothing, payload_main, size_of, takes_in, with_packet}
use Rattle.es_view.specs.Entries.{EntryState}
use Rattle.laws_view.specs.MainExcesses.{NoMainExcessLaw, TimedNoExcessLaw}
use Rattle.laws_view.specs.TimedStreams.{Entering, after_entering, entered_by, entering, stream_entering}
use Rattle.laws_view.specs.WholeStreams.{stream_packets}
use Rattle.laws_view.proofs.EnteredBytes.{after_alike}
use Rattle.laws_view.proofs.RateStreams.{after_is, entered_is}

-- More bytes at more moments have no smaller greatest fullness.
greatest_more : (f g : ℕ → ℕ) (ds es : List ℕ) → ((x : ℕ) → f x ≤ g x) → greatest_at f ds ≤ greatest_at g (ds ++ es)
unfolding greatest_at
greatest_more f g [] es le = omega arith
greatest_more f g (d ∷ ds) es le = omega (arith, le d, greatest_more f g ds es le)

greatest_fuller : (f g : ℕ → ℕ) (ds : List ℕ) → ((x : ℕ) → f x ≤ g x) → greatest_at f ds ≤ greatest_at g ds
unfolding greatest_at
greatest_fuller f g [] le = omega arith
greatest_fuller f g (d ∷ ds) le = omega (arith, le d, greatest_fuller f g ds le)

greatest_last : (g : ℕ → ℕ) (ds es : List ℕ) → greatest_at g es ≤ greatest_at g (ds ++ es)
unfolding greatest_at
greatest_last g [] es = omega arith
greatest_last g (d ∷ ds) es = omega (arith, greatest_last g ds es)

most_passed : (h : Held) (times : List ℕ) → main_most h ≤ main_most (passed h times)
unfolding main_fullness payload_left
most_passed h times = greatest_fuller (main_fullness h.rate h.parts) (main_fullness h.rate (passed h times).parts) (payload_left h.rate h.parts)
    (λ x. omega arith)

most_carried : (h : Held) (times : List ℕ) → main_most h ≤ main_most (carried h times)
unfolding main_fullness payload_left
most_carried h times =
    greatest_more (main_fullness h.rate h.parts) (main_fullness h.rate (Carries times ∷ h.parts)) (payload_left h.rate h.parts)
    (left_after h.rate h.parts times) (λ x. omega arith)

pub most_begun : (h : Held) (due : DueTime) → main_most h ≤ main_most (begun h due)
unfolding main_fullness payload_left
most_begun h due = greatest_fuller (main_fullness h.rate h.parts) (main_fullness h.rate (begun h due).parts) (payload_left h.rate h.parts) (λ x. omega arith)

row_within : (h : Held) (times : List ℕ) → main_found h times ≤ main_most (carried h times)
unfolding payload_left
row_within h times = greatest_last (main_fullness h.rate (Carries times ∷ h.parts)) (payload_left h.rate h.parts) (left_after h.rate h.parts times)

most_goes : (h : Held) (enters : Bool) (times : List ℕ) → main_most h ≤ main_most (if enters then carried h times else passed h times)
most_goes h true times = most_carried h times
most_goes h false times = most_passed h times

pub most_payload : (h : Held) (enters : Bool) (n : ℕ) (times : List ℕ) → main_most h ≤ main_most (after_payload h enters n times)
unfolding after_payload
most_payload h enters n times = elim (eqb_tells n 0) [
  | inl none ↦ rw none.0 (omega arith)
  | inr some ↦ rw some.0 (most_goes h enters times)
]

pub most_begin : (h : Held) (due : Option DueTime) → main_most h ≤ main_most (after_begin h due)
unfolding after_begin
most_begin h None = omega arith
most_begin h (Some due) = most_begun h due

-- Bytes that find room in the main buffer end no excess and begin none.
quiet_carried : (h : Held) (times : List ℕ) → h.main.under_way ≡ None → main_most (carried h times) ≤ h.main.size →
    (main_ended h times ≡ []) × ((carried h times).main.under_way ≡ None)
unfolding ended_at
quiet_carried h times none few =
    let room : nat_lt h.main.size (main_found h times) ≡ false = le-ltb h.main.size (main_found h times) (omega (arith, row_within h times, few)) in
    (rw (room, none) refl, rw room refl)

quiet_goes : (h : Held) (enters : Bool) (times : List ℕ) → h.main.under_way ≡ None →
    main_most (if enters then carried h times else passed h times) ≤ h.main.size →
    ((if enters then main_ended h times else []) ≡ []) × ((if enters then carried h times else passed h times).main.under_way ≡ None)
quiet_goes h true times none few = quiet_carried h times none few
quiet_goes h false times none few = (refl, none)

pub quiet_payload : (h : Held) (enters : Bool) (n : ℕ) (times : List ℕ) → h.main.under_way ≡ None → main_most (after_payload h enters n times) ≤ h.main.size →
    (payload_main h enters n times ≡ []) × ((after_payload h enters n times).main.under_way ≡ None)
unfolding after_payload payload_main
quiet_payload h enters n times none = elim (eqb_tells n 0) [
  | inl zero ↦ rw zero.0 (λ few. (refl, none))
  | inr some ↦ rw some.0 (λ few. quiet_goes h enters times none few)
]

pub same_main : (h : Held) (n : ℕ) (times : List ℕ) → (after_payload h false n times).main ≡ h.main
unfolding after_payload
same_main h n times = elim (eqb_tells n 0) [
  | inl none ↦ rw none.0 refl
  | inr some ↦ rw some.0 refl
]

pub begin_main : (h : Held) (due : Option DueTime) → (after_begin h due).main ≡ h.main
unfolding after_begin
begin_main h None = refl
begin_main h (Some due) = refl

-- A packet whose bytes find room ends no excess.
pub record Quiet (h h' : Held) (ended : List Excess) : Type 0 where
  pub most : main_most h ≤ main_most h'
  pub quiet : h.main.under_way ≡ None → main_most h' ≤ h.main.size → (ended ≡ []) × (h'.main.under_way ≡ None)

parts_quiet : (h : Held) (arrival : Arrival) (p : Arriving) (size lead : ℕ) →
    Quiet h (with_packet h arrival p size lead) (ended_with h arrival p size lead).main
parts_quiet h arrival p size lead =
    let a : Held = after_lead h arrival p lead in
    let b : Held = after_header h arrival p size lead in
    let c : Held = after_unit h arrival p size lead in
    let first = times_at arrival h.rx (188 * p.index) lead in
    let second = times_at arrival a.rx (188 * p.index + lead) (188 - size - lead) in
    let third = times_at arrival c.rx (188 * p.index + (188 - size)) size in
    let main : c.main ≡ h.main = begin_main b p.begins ∙ same_main a (188 - size - lead) second ∙ same_main h lead first in
    record {
      most = omega (
        arith,
        most_payload h false lead first,
        most_payload a false (188 - size - lead) second,
        most_begin b p.begins,
        most_payload c p.enters size third,
      );
      quiet = λ none few.
          let room : main_most (with_packet h arrival p size lead) ≤ c.main.size = omega (arith, few, ap (λ (m : MainWatch). m.size) main) in
          quiet_payload c p.enters size third (ap (λ (m : MainWatch). m.under_way) main ∙ none) room;
    }

packet_quiet : (h : Held) (arrival : Arrival) (p : Arriving) → Quiet h (after h arrival p) (entered h arrival p).main
unfolding after entered
packet_quiet h arrival p = by (takes_in h arrival p)
  where
    by : (b : Bool) →
        Quiet h (if b then with_packet h arrival p (size_of p) (lead_in arrival p) else h)
        (if b then ended_with h arrival p (size_of p) (lead_in arrival p) else nothing).main
    by true = parts_quiet h arrival p (size_of p) (lead_in arrival p)
    by false = record { most = omega arith; quiet = λ none few. (refl, none) }

most_each : (h : Held) (xs : List Entering) → main_most h ≤ main_most (after_entering h xs)
unfolding after_entering
most_each h [] = omega arith
most_each h (x ∷ xs) = omega (arith, (packet_quiet h x.arrival x.packet).most, most_each (after h x.arrival x.packet) xs)

each_quiet : (h : Held) (xs : List Entering) → h.main.under_way ≡ None → main_most (after_entering h xs) ≤ h.main.size →
    (flat_map (λ v. v.main) (entered_by h xs) ≡ []) × ((after_entering h xs).main.under_way ≡ None)
unfolding after_entering entered_by
each_quiet h [] none few = (refl, none)
each_quiet h (x ∷ xs) none few =
    let h' : Held = after h x.arrival x.packet in
    let one = (packet_quiet h x.arrival x.packet).quiet none (omega (arith, few, most_each h' xs)) in
    let rest = each_quiet h' xs one.1 (omega (arith, few, (after_alike h x.arrival x.packet).size)) in
    (rw (one.0, rest.0) refl, rest.1)

-- All packets of a stream whose bytes find room end no excess.
stream_quiet : (step : ℕ) (e : EntryState) (xs : List Entering) → e.held ≡ after_entering (empty step e.held.rx e.held.main.size) xs →
    main_most e.held ≤ e.held.main.size →
    (flat_map (λ v. v.main) (entered_by (empty step e.held.rx e.held.main.size) xs) ≡ []) × (e.held.main.under_way ≡ None)
stream_quiet step e xs held few =
    let quiet = each_quiet (empty step e.held.rx e.held.main.size) xs refl
    (subst (λ (n : ℕ). n ≤ e.held.main.size) (ap (λ (h : Held). main_most h) held) few) in
    (quiet.0, ap (λ (h : Held). h.main.under_way) held ∙ quiet.1)

pub timed_no_excess_law : TimedNoExcessLaw
timed_no_excess_law request step packets e w few = stream_quiet step e (stream_entering request e w.begun.before (w.begun.first ∷ w.begun.later)) w.held few

pub no_main_excess_law : NoMainExcessLaw
no_main_excess_law request rate packets e w few =
    let a : Arrival = AtRate rate in
    let h : Held = empty rate e.held.rx e.held.main.size in
    let ps : List Arriving = stream_packets request e w.begun.before (w.begun.first ∷ w.begun.later) in
    let quiet = stream_quiet rate e (entering a ps) (w.held ∙ sym (after_is h a ps)) few in
    (ap (λ (vs : List EnteredView). flat_map (λ v. v.main) vs) (sym (entered_is h a ps)) ∙ quiet.0, quiet.1)
